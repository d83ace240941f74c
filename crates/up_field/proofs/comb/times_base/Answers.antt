use Rattle.std.proofs.Common.{◌≡◌, ℕ, ◌+◌, ◌*◌, ◌-◌, ◌/◌, ◌^◌, ◌%◌, ◌<◌, refl, sym, ap, subst, ◌∙◌, arith}
use Rattle.std.proofs.Math.Nat.{div-one}
use Rattle.up_curve.specs.Curve.{Point, add, neutral, order}
use Rattle.up_curve.specs.LittleEndian.{number}
use Rattle.up_field.specs.Limbs.{limbs}
use Rattle.up_field.specs.Comb.{column}
use Rattle.up_field.specs.Points.{Writes}
use Rattle.up_field.specs.declared.limbs.Field.{Field}
use Rattle.up_field.specs.declared.points.Extended.{Extended}
use Rattle.up_field.proofs.Balances.{Balances, teeth, eights, thirds, thirds-whole, together, nothing, left_over}
use Rattle.up_field.proofs.comb.times_base.Goals as goal

by_one : (l : ℕ) → l / 2 ^ 0 ≡ l
by_one l = div-one l

-- three columns are the number
whole : (c : Field) → c.l0 < 2 ^ 51 → c.l1 < 2 ^ 51 → c.l2 < 2 ^ 51 → c.l3 < 2 ^ 51 → c.l4 < 2 ^ 51
    → column 17 0 c + 2 * column 17 1 c + 4 * column 17 2 c ≡ limbs c.l0 c.l1 c.l2 c.l3 c.l4
whole c h0 h1 h2 h3 h4 =
    omega (
      arith,
      thirds-whole 17 c.l0 h0,
      thirds-whole 17 c.l1 h1,
      thirds-whole 17 c.l2 h2,
      thirds-whole 17 c.l3 h3,
      thirds-whole 17 c.l4 h4,
      ap (thirds 17) (by_one c.l0),
      ap (thirds 17) (by_one c.l1),
      ap (thirds 17) (by_one c.l2),
      ap (thirds 17) (by_one c.l3),
      ap (thirds 17) (by_one c.l4),
    )

twice_as : (a b : Extended) (s n : ℕ) → ((m : Point) → Writes a m → Writes b (add m m)) → Balances a s n → Balances b (s + s) (n + n)
twice_as a b s n h k = record {
  point = add k.point k.point;
  writes = h k.point k.writes;
  is = together k.point k.point s n s n k.writes.point k.writes.point k.is k.is;
}

all_eights : (o : ℕ) → o ≡ teeth * eights 17 → 0 + o + (0 + o) + o + (0 + o + (0 + o) + o) + o ≡ 2 ^ 255 - 1
unfolding eights
all_eights o e = let k : teeth * eights 17 * 7 ≡ 2 ^ 255 - 1 = refl in omega (arith, e, k)

pub returns : goal.returns
returns c =
    let f : Field = c.centred-c.result in
    let start : Balances c.neutral.result 0 0 = record { point = neutral; writes = c.neutral.ensures; is = nothing } in
    let one = c.column-r.ensures 0 0 start in
    let two = c.column-s.ensures _ _ (twice_as c.column-r.result c.twice.result _ _ c.twice.ensures one) in
    let all = c.column.ensures _ _ (twice_as c.column-s.result c.twice-2.result _ _ c.twice-2.ensures two) in
    let l = c.centred-c.ensures.limit in
    let sum : column 17 0 f + 2 * column 17 1 f + 4 * column 17 2 f ≡ limbs f.l0 f.l1 f.l2 f.l3 f.l4 = whole f l.l0 l.l1 l.l2 l.l3 l.l4 in
    let n : 0 + 2 * column 17 2 f + (0 + 2 * column 17 2 f) + 2 * column 17 1 f + (0 + 2 * column 17 2 f + (0 + 2 * column 17 2 f) + 2 * column 17 1 f) + 2 * column 17 0 f
    ≡ 2 * limbs f.l0 f.l1 f.l2 f.l3 f.l4 = omega (arith, sum) in
    subst (Writes c.column.result)
    (left_over all.point _ _ (number c.args.scalar.now) all.writes.point all.is
    (ap (λ z. z % order) n ∙ c.centred-c.ensures.value ∙ ap (λ z. (number c.args.scalar.now + z) % order) (sym (all_eights (teeth * eights 17) refl))))
    all.writes
