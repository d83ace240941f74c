use Rattle.std.proofs.Common.{◌≡◌, ℕ, zero, suc, ◌+◌, ◌*◌, ◌^◌, ◌<◌, Bool, true, false, ◌&&◌, eqb, eqb-true, List, [], ◌∷◌, length, get_or, refl, subst, ◌∙◌, arith}
use Rattle.up_curve.specs.Curve.{base, multiple}
use Rattle.up_field.specs.declared.affine.Affine.{Affine}
use Rattle.up_field.specs.Affine.{Keeps}
use Rattle.up_field.specs.Tables.{AreOddMultiples}
use Rattle.up_field.proofs.Chains.{is_chain, numbers, first, all_first, chain_is}
use Rattle.up_field.proofs.FarSteps.{steps}
use Rattle.up_field.proofs.far_table.far_table.Goals as goal

both : (a b : Bool) → (a && b) ≡ true → (a ≡ true) × (b ≡ true)
both true true e = (refl, refl)
both true false e = (refl, e)
both false b e = (e, absurd (let k : false ≡ true = e in cc))

are_odd : ℕ → List ℕ → Bool
are_odd i [] = true
are_odd i (n ∷ ns) = eqb n (2 ^ 129 * (2 * i + 1)) && are_odd (i + 1) ns

odd_at : (i : ℕ) (ns : List ℕ) → are_odd i ns ≡ true → (j : ℕ) → j < length ns → get_or ns j 0 ≡ 2 ^ 129 * (2 * (i + j) + 1)
unfolding are_odd
odd_at i [] e j l = absurd (omega arith)
odd_at i (n ∷ ns) e zero l = omega (arith, eqb-true n (2 ^ 129 * (2 * i + 1)) (both (eqb n (2 ^ 129 * (2 * i + 1))) (are_odd (i + 1) ns) e).0)
odd_at i (n ∷ ns) e (suc j) l = omega (arith, odd_at (i + 1) ns (both (eqb n (2 ^ 129 * (2 * i + 1))) (are_odd (i + 1) ns) e).1 j (omega (arith, l)))

all_odd : are_odd 0 (numbers steps) ≡ true
unfolding are_odd numbers steps
all_odd = refl

long : length (numbers steps) ≡ 64
unfolding numbers steps
long = refl

made : (ts : List Affine) → length ts ≡ 64 → is_chain steps (first ∷ []) ts ≡ true → AreOddMultiples (2 ^ 129) ts
made ts l h = record {
  keeps = λ k b q.
      subst (λ z. Keeps (get_or ts k q) (multiple z base)) (odd_at 0 (numbers steps) all_odd k (omega (arith, long, b)) ∙ (let e : 2 ^ 129 * (2 * (0 + k) + 1) ≡ 2 ^ 129 * (2 * k + 1) = omega arith in e))
      (chain_is steps (first ∷ []) ts all_first h k (omega (arith, l, b)) q).keeps;
}

pub returns : goal.returns
unfolding is_chain steps
returns c = made _ refl refl
