use Rattle.std.proofs.Common.{◌≡◌, ℕ, ◌+◌, ◌*◌, ◌/◌, ◌^◌, ◌%◌, ap₂, subst, arith}
use Rattle.up_field.specs.Comb.{column}
use Rattle.up_field.specs.declared.limbs.Field.{Field}
use Rattle.up_field.specs.declared.points.Extended.{Extended}
use Rattle.up_field.proofs.Balances.{Balances, spread, teeth, eights, thirds, eights-more, thirds-more, at-place, spread-bits, together}
use Rattle.up_field.proofs.comb.column.Goals as goal

moved : (q : Extended) (s n t m : ℕ) → s ≡ t → n ≡ m → Balances q s n → Balances q t m
moved q s n t m e f h = subst (λ z. Balances q z m) e (subst (λ z. Balances q s z) f h)

-- one row more
grown : (k i d : ℕ) (c : Field)
    → d ≡ c.l0 / 2 ^ (3 * k + i) % 2 + 2 * (c.l1 / 2 ^ (3 * k + i) % 2) + 4 * (c.l2 / 2 ^ (3 * k + i) % 2) + 8 * (c.l3 / 2 ^ (3 * k + i) % 2) + 16 * (c.l4 / 2 ^ (3 * k + i) % 2)
    → column k i c + 8 ^ k * spread d ≡ column (k + 1) i c
grown k i d c h =
    let x0 : ℕ = c.l0 / 2 ^ i / 8 ^ k % 2 in
    let x1 : ℕ = c.l1 / 2 ^ i / 8 ^ k % 2 in
    let x2 : ℕ = c.l2 / 2 ^ i / 8 ^ k % 2 in
    let x3 : ℕ = c.l3 / 2 ^ i / 8 ^ k % 2 in
    let x4 : ℕ = c.l4 / 2 ^ i / 8 ^ k % 2 in
    by_bits k d x0 x1 x2 x3 x4 (thirds k (c.l0 / 2 ^ i)) (thirds k (c.l1 / 2 ^ i)) (thirds k (c.l2 / 2 ^ i)) (thirds k (c.l3 / 2 ^ i)) (thirds k (c.l4 / 2 ^ i))
    (thirds (k + 1) (c.l0 / 2 ^ i)) (thirds (k + 1) (c.l1 / 2 ^ i)) (thirds (k + 1) (c.l2 / 2 ^ i)) (thirds (k + 1) (c.l3 / 2 ^ i)) (thirds (k + 1) (c.l4 / 2 ^ i))
    (spread-bits d x0 x1 x2 x3 x4 (omega arith) (omega arith) (omega arith) (omega arith) (omega arith)
    (omega (arith, h, at-place c.l0 i k, at-place c.l1 i k, at-place c.l2 i k, at-place c.l3 i k, at-place c.l4 i k)))
    (thirds-more k (c.l0 / 2 ^ i)) (thirds-more k (c.l1 / 2 ^ i)) (thirds-more k (c.l2 / 2 ^ i)) (thirds-more k (c.l3 / 2 ^ i)) (thirds-more k (c.l4 / 2 ^ i))
  where
    by_bits : (k d x0 x1 x2 x3 x4 a0 a1 a2 a3 a4 b0 b1 b2 b3 b4 : ℕ)
        → spread d ≡ x0 + 2 ^ 51 * x1 + 2 ^ 102 * x2 + 2 ^ 153 * x3 + 2 ^ 204 * x4
        → b0 ≡ a0 + 8 ^ k * x0 → b1 ≡ a1 + 8 ^ k * x1 → b2 ≡ a2 + 8 ^ k * x2 → b3 ≡ a3 + 8 ^ k * x3 → b4 ≡ a4 + 8 ^ k * x4
        → a0 + 2 ^ 51 * a1 + 2 ^ 102 * a2 + 2 ^ 153 * a3 + 2 ^ 204 * a4 + 8 ^ k * spread d
        ≡ b0 + 2 ^ 51 * b1 + 2 ^ 102 * b2 + 2 ^ 153 * b3 + 2 ^ 204 * b4
    by_bits k d x0 x1 x2 x3 x4 a0 a1 a2 a3 a4 b0 b1 b2 b3 b4 e h0 h1 h2 h3 h4 =
        product (spread d) (8 ^ k) x0 x1 x2 x3 x4 a0 a1 a2 a3 a4 b0 b1 b2 b3 b4 e h0 h1 h2 h3 h4
      where
        product : (w u x0 x1 x2 x3 x4 a0 a1 a2 a3 a4 b0 b1 b2 b3 b4 : ℕ)
            → w ≡ x0 + 2 ^ 51 * x1 + 2 ^ 102 * x2 + 2 ^ 153 * x3 + 2 ^ 204 * x4
            → b0 ≡ a0 + u * x0 → b1 ≡ a1 + u * x1 → b2 ≡ a2 + u * x2 → b3 ≡ a3 + u * x3 → b4 ≡ a4 + u * x4
            → a0 + 2 ^ 51 * a1 + 2 ^ 102 * a2 + 2 ^ 153 * a3 + 2 ^ 204 * a4 + u * w
            ≡ b0 + 2 ^ 51 * b1 + 2 ^ 102 * b2 + 2 ^ 153 * b3 + 2 ^ 204 * b4
        product w u x0 x1 x2 x3 x4 a0 a1 a2 a3 a4 b0 b1 b2 b3 b4 e h0 h1 h2 h3 h4 =
            let k : u * w ≡ u * (x0 + 2 ^ 51 * x1 + 2 ^ 102 * x2 + 2 ^ 153 * x3 + 2 ^ 204 * x4) = ap₂ (λ (y z : ℕ). y * z) (let r : u ≡ u = omega arith in r) e in
            omega (arith, k, h0, h1, h2, h3, h4)

pub loop-k-init : goal.loop-k-init
unfolding eights thirds
loop-k-init c = record {
  balances = λ s n h. moved c.args.r s n _ _ (omega arith) (omega arith) h;
}

pub loop-k-preserved : goal.loop-k-preserved
loop-k-preserved c = record {
  balances = λ s n h.
      let b = c.loop-k.invariant.balances s n h in
      let e = c.entry-e.ensures in
      moved c.sum_affine-q.result _ _ _ _
      (let z : s + teeth * eights c.loop-k.k + 8 ^ c.loop-k.k * teeth ≡ s + teeth * eights (c.loop-k.k + 1) = omega (arith, eights-more c.loop-k.k) in z)
      (let z : n + 2 * column c.loop-k.k c.args.i c.args.c + 2 * (8 ^ c.loop-k.k * spread c.digit-d.result) ≡ n + 2 * column (c.loop-k.k + 1) c.args.i c.args.c =
      omega (arith, grown c.loop-k.k c.args.i c.digit-d.result c.args.c c.digit-d.ensures.value) in z)
      (record {
        point = _;
        writes = c.sum_affine-q.ensures b.point e.point b.writes e.keeps;
        is = together b.point e.point _ _ _ _ b.writes.point e.keeps.point b.is e.is;
      });
}

pub returns : goal.returns
returns c =
    let e : c.loop-k.k ≡ 17 = omega arith in
    λ s n h. subst (λ z. Balances c.loop-k.q (s + teeth * eights z) (n + 2 * column z c.args.i c.args.c)) e (c.loop-k.invariant.balances s n h)
