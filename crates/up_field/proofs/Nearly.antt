-- Halves of a number that is rounded up to a multiple of 256 or 32.
use Rattle.std.proofs.Common.{◌≡◌, ℕ, suc, ◌+◌, ◌*◌, ◌-◌, ◌^◌, ◌<◌, ◌≤◌, Bool, true, false, ltb, ltb-true, lt-ltb, refl, sym, ◌∙◌, ap, arith, pow-suc}
use Rattle.std.proofs.Math.Pow.{pow_mono}
use Rattle.std.proofs.lemmas.Nat.{pow-add}
use Rattle.up_field.specs.Sparse.{IsNearHalf}

not_below : (a b : ℕ) → ltb a b ≡ false → a < b → ⊥
not_below a b e h = let z : true ≡ false = sym (lt-ltb a b h) ∙ e in absurd (cc)

-- a power of two is a multiple of another that isn't greater
split : (a j : ℕ) → a < j + 1 → 2 ^ j ≡ 2 ^ a * 2 ^ (j - a)
split a j h = ap (λ z. 2 ^ z) (let z : j ≡ a + (j - a) = omega (arith, h) in z) ∙ pow-add 2 a (j - a)

next : (j : ℕ) → 2 ^ (j + 1) ≡ 2 * 2 ^ j
next j = ap (λ z. 2 ^ z) (let z : j + 1 ≡ suc j = omega arith in z) ∙ (let z : 2 ^ suc j ≡ 2 * 2 ^ j = omega (arith, pow-suc 2 j) in z)

pub near_wide : (v q t w : ℕ) → v ≡ 256 * q + t → 128 < t → w ≡ 128 * (q + 1) → IsNearHalf w v
near_wide v q t w e h k = record { below = below; last = λ l. absurd (omega (arith, e, h, l)) }
  where
    below : (j : ℕ) → v ≤ 2 ^ (j + 1) → w ≤ 2 ^ j
    below j l = from (ltb j 7) refl
      where
        from : (b : Bool) → ltb j 7 ≡ b → w ≤ 2 ^ j
        from true f =
            let m : 2 ^ (j + 1) ≤ 2 ^ 7 = pow_mono {i = j + 1} {j = 7} (omega (arith, ltb-true j 7 f)) in
            let s : 2 ^ 7 ≡ 128 = refl in
            absurd (omega (arith, m, s, l, e, h))
        from false f =
            let n : 7 < j + 1 = omega (arith, not_below j 7 f) in
            let m : 2 ^ j ≡ 128 * 2 ^ (j - 7) = split 7 j n in
            omega (arith, m, next j, l, e, h, k)

pub near_narrow : (v q t w : ℕ) → v ≡ 32 * q + t → 16 < t → w ≡ 16 * (q + 1) → IsNearHalf w v
near_narrow v q t w e h k = record { below = below; last = λ l. absurd (omega (arith, e, h, l)) }
  where
    below : (j : ℕ) → v ≤ 2 ^ (j + 1) → w ≤ 2 ^ j
    below j l = from (ltb j 4) refl
      where
        from : (b : Bool) → ltb j 4 ≡ b → w ≤ 2 ^ j
        from true f =
            let m : 2 ^ (j + 1) ≤ 2 ^ 4 = pow_mono {i = j + 1} {j = 4} (omega (arith, ltb-true j 4 f)) in
            let s : 2 ^ 4 ≡ 16 = refl in
            absurd (omega (arith, m, s, l, e, h))
        from false f =
            let n : 4 < j + 1 = omega (arith, not_below j 4 f) in
            let m : 2 ^ j ≡ 16 * 2 ^ (j - 4) = split 4 j n in
            omega (arith, m, next j, l, e, h, k)
