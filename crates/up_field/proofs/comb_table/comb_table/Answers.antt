use Rattle.std.proofs.Common.{◌≡◌, ℕ, zero, suc, ◌+◌, ◌*◌, ◌/◌, ◌^◌, ◌%◌, ◌<◌, Bool, true, false, ◌&&◌, eqb, eqb-true, List, [], ◌∷◌, length, get_or, refl, subst, arith}
use Rattle.up_field.specs.declared.affine.Affine.{Affine}
use Rattle.up_field.specs.Comb.{IsComb, spread, teeth}
use Rattle.up_field.proofs.Chains.{is_chain, numbers, first, all_first, chain_is}
use Rattle.up_field.proofs.CombSteps.{steps}
use Rattle.up_field.proofs.comb_table.comb_table.Goals as goal

both : (a b : Bool) → (a && b) ≡ true → (a ≡ true) × (b ≡ true)
both true true e = (refl, refl)
both true false e = (refl, e)
both false b e = (e, absurd (let k : false ≡ true = e in cc))

-- each number is 8^r times the signs of its place
are_odd : ℕ → List ℕ → Bool
are_odd i [] = true
are_odd i (n ∷ ns) = eqb (n + 8 ^ (i / 16) * teeth) (2 * (8 ^ (i / 16) * spread (i % 16 + 16))) && are_odd (i + 1) ns

odd_at : (i : ℕ) (ns : List ℕ) → are_odd i ns ≡ true → (j : ℕ) → j < length ns
    → get_or ns j 0 + 8 ^ ((i + j) / 16) * teeth ≡ 2 * (8 ^ ((i + j) / 16) * spread ((i + j) % 16 + 16))
unfolding are_odd
odd_at i [] e j l = absurd (omega arith)
odd_at i (n ∷ ns) e zero l =
    let k = eqb-true _ _ (both (eqb (n + 8 ^ (i / 16) * teeth) (2 * (8 ^ (i / 16) * spread (i % 16 + 16)))) (are_odd (i + 1) ns) e).0 in
    subst (λ z. n + 8 ^ (z / 16) * teeth ≡ 2 * (8 ^ (z / 16) * spread (z % 16 + 16))) (let z : i ≡ i + 0 = omega arith in z) k
odd_at i (n ∷ ns) e (suc j) l =
    subst (λ z. get_or ns j 0 + 8 ^ (z / 16) * teeth ≡ 2 * (8 ^ (z / 16) * spread (z % 16 + 16))) (let z : i + 1 + j ≡ i + suc j = omega arith in z)
    (odd_at (i + 1) ns (both (eqb (n + 8 ^ (i / 16) * teeth) (2 * (8 ^ (i / 16) * spread (i % 16 + 16)))) (are_odd (i + 1) ns) e).1 j (omega (arith, l)))

all_odd : are_odd 0 (numbers steps) ≡ true
unfolding are_odd numbers steps
all_odd = refl

long : length (numbers steps) ≡ 272
unfolding numbers steps
long = refl

keeps : (ts : List Affine) → length ts ≡ 272 → is_chain steps (first ∷ []) ts ≡ true → IsComb ts
keeps ts l h = record {
  each = λ j b q. record {
    n = get_or (numbers steps) j 0;
    is =
        subst (λ z. get_or (numbers steps) j 0 + 8 ^ (z / 16) * teeth ≡ 2 * (8 ^ (z / 16) * spread (z % 16 + 16))) (let z : 0 + j ≡ j = omega arith in z)
        (odd_at 0 (numbers steps) all_odd j (omega (arith, long, b)));
    keeps = (chain_is steps (first ∷ []) ts all_first h j (omega (arith, l, b)) q).keeps;
  };
}

pub returns : goal.returns
unfolding is_chain steps
returns c = keeps _ refl refl
