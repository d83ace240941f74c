use Rattle.std.proofs.Common.{◌≡◌, ℕ, ◌*◌, ◌<◌, ◌≤◌, ◌^◌, ◌-◌, ◌%◌, bit_and, ◌∙◌, ap, arith}
use Rattle.std.proofs.lemmas.Nat.{and_mask, and_le_l, and_le_r}
use Rattle.up_field.proofs.linear.kept.Goals as goal

at_zero : (a b : ℕ) → b ≡ 0 → bit_and a (b * 18446744073709551615) ≡ 0
at_zero a b e = let h : bit_and a (b * 18446744073709551615) ≤ b * 18446744073709551615 = and_le_r a (b * 18446744073709551615) in omega (arith, h, e)

at_one : (a b : ℕ) → a < 2 ^ 64 → b ≡ 1 → bit_and a (b * 18446744073709551615) ≡ a
at_one a b h e =
    ap (λ z. bit_and a z) (let k : b * 18446744073709551615 ≡ 2 ^ 64 - 1 = omega (arith, e) in k) ∙ and_mask a 64 ∙ (let k : a % 2 ^ 64 ≡ a = omega (arith, h) in k)

pub returns : goal.returns
returns c = record {
  zero = λ e. at_zero c.args.a c.args.bit e;
  one = λ e. at_one c.args.a c.args.bit (omega (arith, c.ranges.a.fits)) e;
  limit = and_le_l c.args.a (c.args.bit * 18446744073709551615);
}
