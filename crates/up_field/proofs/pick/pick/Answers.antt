use Rattle.std.proofs.Common.{◌≡◌, ◌≢◌, ℕ, zero, suc, ◌+◌, ◌*◌, ◌-◌, ◌/◌, ◌%◌, ◌^◌, pow-suc, lit<, ◌⊎◌, inl, inr, ◌<◌, ◌≤◌, List, length, get_or, refl, sym, ap, ◌∙◌, subst, arith}
use Rattle.std.proofs.Math.Nat.{pow-zero, pow-le-pow_right}
use Rattle.std.proofs.lemmas.List.{get_or_default}
use Rattle.up_field.specs.declared.affine.Affine.{Affine}
use Rattle.up_field.specs.Comb.{IsClear}
use Rattle.up_field.proofs.pick.pick.Goals as goal

below : (k i : ℕ) → k < i + 1 → i ≢ k → k < i
below k i l n = omega (arith, l, n)

picked : (bit b i k : ℕ) (t : List Affine) (r e new d : Affine) → length t ≡ 272 → b + k < 272 → bit < 2 → (i ≡ k → bit ≡ 1) → (bit ≡ 1 → i ≡ k)
    → e ≡ get_or t (b + i) d → (bit ≡ 0 → new ≡ r) → (bit ≡ 1 → new ≡ e) → (k < i → (q : Affine) → r ≡ get_or t (b + k) q) → k < i + 1 → (q : Affine) → new ≡ get_or t (b + k) q
picked zero b i k t r e new d long low two same other he h0 h1 h l q = h0 refl ∙ h (below k i l no) q
  where
    no : i ≢ k
    no z = omega (arith, same z)
picked (suc zero) b i k t r e new d long low two same other he h0 h1 h l q =
    let z : i ≡ k = other refl in
    h1 refl ∙ he ∙ ap (λ z. get_or t (b + z) d) z ∙ get_or_default t (b + k) d q (omega (arith, long, low))
picked (suc (suc a)) b i k t r e new d long low two same other he h0 h1 h l q = absurd (omega (arith, two))

still : (bit i k : ℕ) (r new : Affine) → bit < 2 → (bit ≡ 1 → i ≡ k) → (bit ≡ 0 → new ≡ r) → (i ≤ k → IsClear r) → i + 1 ≤ k → IsClear new
still zero i k r new low other h0 h l = subst IsClear (sym (h0 refl)) (h (omega (arith, l)))
still (suc zero) i k r new low other h0 h l = absurd (omega (arith, other refl, l))
still (suc (suc b)) i k r new low other h0 h l = absurd (omega (arith, low))

small : (j : ℕ) → j ≤ 15 → 2 ^ j ≤ 2 ^ 15
small j h = pow-le-pow_right {n = 2} (lit< tt) h

half : (k i : ℕ) → i + 1 ≤ k → 2 ^ (k - i) ≡ 2 * 2 ^ (k - (i + 1))
half k i l = ap (λ z. 2 ^ z) (let e : k - i ≡ suc (k - (i + 1)) = omega (arith, l) in e) ∙ (let e : 2 ^ suc (k - (i + 1)) ≡ 2 * 2 ^ (k - (i + 1)) = omega (arith, pow-suc 2 (k - (i + 1))) in e)

one : (k i : ℕ) → i ≡ k → 2 ^ (k - i) ≡ 1
one k i e = ap (λ z. 2 ^ z) (let z : k - i ≡ 0 = omega (arith, e) in z) ∙ pow-zero 2

-- the bit that stands is the lowest at its own place, and nowhere else
stands : (w k i : ℕ) → (i ≤ k → w ≡ 2 ^ (k - i)) → i ≡ k → w % 2 ≡ 1
stands w k i h e = let z : w ≡ 1 = h (omega (arith, e)) ∙ one k i e in omega (arith, z)

placed : (k i : ℕ) → (i + 1 ≤ k) ⊎ ((i ≡ k) ⊎ (k < i))
placed zero zero = inr (inl refl)
placed zero (suc i) = inr (inr (omega arith))
placed (suc k) zero = inl (omega arith)
placed (suc k) (suc i) = from (placed k i)
  where
    from : (i + 1 ≤ k) ⊎ ((i ≡ k) ⊎ (k < i)) → (suc i + 1 ≤ suc k) ⊎ ((suc i ≡ suc k) ⊎ (suc k < suc i))
    from (inl l) = inl (omega (arith, l))
    from (inr (inl e)) = inr (inl (ap suc e))
    from (inr (inr l)) = inr (inr (omega (arith, l)))

alone : (w k i : ℕ) → (i ≤ k → w ≡ 2 ^ (k - i)) → (k < i → w ≡ 0) → w % 2 ≡ 1 → i ≡ k
alone w k i h n b = from (placed k i)
  where
    from : (i + 1 ≤ k) ⊎ ((i ≡ k) ⊎ (k < i)) → i ≡ k
    from (inl l) = let z : w ≡ 2 * 2 ^ (k - (i + 1)) = h (omega (arith, l)) ∙ half k i l in absurd (omega (arith, z, b))
    from (inr (inl e)) = e
    from (inr (inr l)) = absurd (omega (arith, n l, b))

nearer : (w k i : ℕ) → (i ≤ k → w ≡ 2 ^ (k - i)) → i + 1 ≤ k → w / 2 ≡ 2 ^ (k - (i + 1))
nearer w k i h l = let z : w ≡ 2 * 2 ^ (k - (i + 1)) = h (omega (arith, l)) ∙ half k i l in omega (arith, z)

gone : (w k i : ℕ) → (i ≤ k → w ≡ 2 ^ (k - i)) → (k < i → w ≡ 0) → k < i + 1 → w / 2 ≡ 0
gone w k i h n l = from (placed k i)
  where
    from : (i + 1 ≤ k) ⊎ ((i ≡ k) ⊎ (k < i)) → w / 2 ≡ 0
    from (inl m) = absurd (omega (arith, l, m))
    from (inr (inl e)) = let z : w ≡ 1 = h (omega (arith, e)) ∙ one k i e in omega (arith, z)
    from (inr (inr m)) = omega (arith, n m)

pub loop-i-init : goal.loop-i-init
loop-i-init c = record {
  clear = λ _. c.clear-r.ensures;
  ahead = λ _.
      let k : ℕ = c.args.k in
      let e : 2 ^ (k - 0) ≡ 2 ^ k = ap (λ z. 2 ^ z) (let z : k - 0 ≡ k = omega arith in z) in
      let b : 2 ^ k ≤ 2 ^ 15 = small k (omega (arith, c.requires.digit)) in
      omega (arith, e, b);
  past = λ l. absurd (omega (arith, l));
  value = λ l q. absurd (omega (arith, l));
}

pub merged_entries-r-requires : goal.merged_entries-r-requires
merged_entries-r-requires c = record {
  bit = (omega arith);
  clear = λ e. c.loop-i.invariant.clear (omega (arith, (alone c.loop-i.w c.args.k c.loop-i.i c.loop-i.invariant.ahead c.loop-i.invariant.past) e));
}

pub loop-i-preserved : goal.loop-i-preserved
loop-i-preserved c = record {
  clear = still (c.loop-i.w % 2) c.loop-i.i c.args.k c.loop-i.r c.merged_entries-r.result (omega arith) (alone c.loop-i.w c.args.k c.loop-i.i c.loop-i.invariant.ahead c.loop-i.invariant.past) c.merged_entries-r.ensures.zero c.loop-i.invariant.clear;
  ahead = nearer c.loop-i.w c.args.k c.loop-i.i c.loop-i.invariant.ahead;
  past = gone c.loop-i.w c.args.k c.loop-i.i c.loop-i.invariant.ahead c.loop-i.invariant.past;
  value =
      picked (c.loop-i.w % 2) (16 * c.args.row) c.loop-i.i c.args.k c.args.table.now c.loop-i.r _ c.merged_entries-r.result _ c.told-table (omega (arith, c.requires.digit, c.requires.row)) (omega arith)
      (stands c.loop-i.w c.args.k c.loop-i.i c.loop-i.invariant.ahead) (alone c.loop-i.w c.args.k c.loop-i.i c.loop-i.invariant.ahead c.loop-i.invariant.past) refl c.merged_entries-r.ensures.zero c.merged_entries-r.ensures.one c.loop-i.invariant.value;
}

pub returns : goal.returns
returns c = c.loop-i.invariant.value (omega (arith, c.requires.digit))
