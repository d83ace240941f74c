use Rattle.std.proofs.Common.{[], ◌∷◌, Bool, true, false, lit<, ◌≡◌, ℕ, zero, suc, ◌+◌, ◌*◌, ◌-◌, ◌^◌, ◌<◌, ◌≤◌, List, length, take, get_or, refl, sym, ◌∙◌, ap, arith, pow-suc, ◌==◌, eqb-true, eq-eqb}
use Rattle.std.proofs.Math.Nat.{pow-zero}
use Rattle.std.proofs.lemmas.List.{length-set, take_all}
use Rattle.up_field.specs.Sparse.{IsDigit, IsNearHalf}
use Rattle.up_field.proofs.Scattered.{scattered, scattered-set, all_set}
use Rattle.up_field.proofs.sparse.scatter.Goals as goal

zeros : ℕ → List ℕ
zeros zero = []
zeros (suc n) = 0 ∷ zeros n

are_zero : List ℕ → Bool
are_zero [] = true
are_zero (zero ∷ ds) = are_zero ds
are_zero (suc d ∷ ds) = false

nothing : (wide : Bool) → IsDigit wide 0
nothing wide = record { low = lit< tt; narrow = λ _. lit< tt; odd = λ _. refl }

no_digits : (wide : Bool) (ds : List ℕ) → are_zero ds ≡ true → (k : ℕ) → IsDigit wide (get_or ds k 0)
unfolding are_zero
no_digits wide [] e k = nothing wide
no_digits wide (zero ∷ ds) e zero = nothing wide
no_digits wide (zero ∷ ds) e (suc k) = no_digits wide ds e k
no_digits wide (suc d ∷ ds) e k = absurd (let z : false ≡ true = e in cc)

pub loop-i-init : goal.loop-i-init
unfolding scattered are_zero zeros
loop-i-init c = record {
  long = refl;
  long_minus = refl;
  carry = lit< tt;
  value = omega arith;
  bound = λ h. omega arith;
  done = λ h. absurd (omega (arith, h));
  plus = no_digits c.args.wide (zeros 258) refl;
  minus = no_digits c.args.wide (zeros 258) refl;
}

-- one digit more
grown : (s t u v d e r n i w : ℕ) → t ≡ s + 2 ^ i * d → v ≡ u + 2 ^ i * e → s + 2 ^ i * w ≡ n + u → d + 2 * r ≡ w + e → t + 2 ^ (i + 1) * r ≡ n + v
grown s t u v d e r n i w f g h k = product (2 ^ i) (2 ^ (i + 1)) (let z : 2 ^ (i + 1) ≡ 2 ^ i * 2 = ap (λ y. 2 ^ y) (let y : i + 1 ≡ suc i = omega arith in y) ∙ pow-suc 2 i in z) f g h
  where
    product : (x y : ℕ) → y ≡ x * 2 → t ≡ s + x * d → v ≡ u + x * e → s + x * w ≡ n + u → t + y * r ≡ n + v
    product x y p f g h =
        let a : x * (d + 2 * r) ≡ x * (w + e) = ap (λ z. x * z) k in
        let b : y * r ≡ x * 2 * r = ap (λ z. z * r) p in
        omega (arith, a, b, f, g, h)

-- what is left is below half as much
less : (w r i : ℕ) → IsNearHalf r w → (i < 257 → w ≤ 2 ^ (256 - i)) → i + 1 < 257 → r ≤ 2 ^ (256 - (i + 1))
less w r i h b l =
    let e : 2 ^ (256 - i) ≡ 2 ^ (256 - (i + 1) + 1) = ap (λ z. 2 ^ z) (omega (arith, l)) in
    h.below (256 - (i + 1)) (omega (arith, b (omega (arith, l)), e))

none : (w r i : ℕ) → IsNearHalf r w → (i < 257 → w ≤ 2 ^ (256 - i)) → (256 < i → w ≡ 0) → 256 < i + 1 → r ≡ 0
none w r i h b d l = h.last (at (i == 256) refl)
  where
    at : (t : Bool) → (i == 256) ≡ t → w ≤ 1
    at true e =
        let k : i ≡ 256 = eqb-true i 256 e in
        let z : 2 ^ (256 - i) ≡ 1 = ap (λ z. 2 ^ z) (let y : 256 - i ≡ 0 = omega (arith, k) in y) ∙ pow-zero 2 in
        omega (arith, b (omega (arith, k)), z)
    at false e =
        let n : i ≡ 256 → ⊥ = λ k. (let z : true ≡ false = sym (eq-eqb i 256 k) ∙ e in absurd (cc)) in
        omega (arith, d (omega (arith, l, n)))

pub loop-i-preserved : goal.loop-i-preserved
loop-i-preserved c =
    let i : ℕ = c.loop-i.i in
    let s = c.next_digit-s in
    record {
      long = omega (arith, c.loop-i.invariant.long, length-set c.loop-i.plus i s.result.plus);
      long_minus = omega (arith, c.loop-i.invariant.long_minus, length-set c.loop-i.minus i s.result.minus);
      carry = s.ensures.cut.carry;
      value = grown _ _ _ _ s.result.plus s.result.minus _ _ i _
          (scattered-set c.loop-i.plus i s.result.plus (omega arith)) (scattered-set c.loop-i.minus i s.result.minus (omega arith))
          c.loop-i.invariant.value s.ensures.cut.value;
      bound = less _ _ i s.ensures.cut.near c.loop-i.invariant.bound;
      done = none _ _ i s.ensures.cut.near c.loop-i.invariant.bound c.loop-i.invariant.done;
      plus = λ k. all_set (IsDigit c.args.wide) c.loop-i.plus i s.result.plus k (omega arith) s.ensures.digits.0 (c.loop-i.invariant.plus k);
      minus = λ k. all_set (IsDigit c.args.wide) c.loop-i.minus i s.result.minus k (omega arith) s.ensures.digits.1 (c.loop-i.invariant.minus k);
    }

-- nothing is left
all_taken : (ps ms : List ℕ) (i n w : ℕ) → i ≡ 258 → length ps ≡ 258 → length ms ≡ 258 → w ≡ 0
    → scattered (take i ps) + 2 ^ i * w ≡ n + scattered (take i ms) → scattered ps ≡ n + scattered ms
all_taken ps ms i n w e l m z h =
    let a : 2 ^ i * w ≡ 0 = ap (λ y. 2 ^ i * y) z ∙ (let y : 2 ^ i * 0 ≡ 0 = omega arith in y) in
    let p : scattered (take i ps) ≡ scattered ps = ap scattered (take_all i ps (omega (arith, l, e))) in
    let q : scattered (take i ms) ≡ scattered ms = ap scattered (take_all i ms (omega (arith, m, e))) in
    omega (arith, a, p, q, h)

pub returns : goal.returns
returns c = record {
  value = all_taken c.loop-i.plus c.loop-i.minus c.loop-i.i _ _ (omega arith) c.loop-i.invariant.long c.loop-i.invariant.long_minus
      (c.loop-i.invariant.done (omega arith)) c.loop-i.invariant.value;
  plus = record { each = c.loop-i.invariant.plus };
  minus = record { each = c.loop-i.invariant.minus };
}
