use Rattle.std.proofs.Common.{arith, refl}
use Rattle.std.proofs.lemmas.Grind.{common_steps}
use Rattle.up_heads.proofs.FieldLaws.{digit_next, digits_next}
use Rattle.up_heads.proofs.framing.number_of.Goals as goal

pub loop-byte-preserved : goal.loop-byte-preserved
loop-byte-preserved c = record {
  small = omega (arith, c.with_digit-number.ensures);
  same = digit_next 262145 c.loop-byte.number c.with_digit-number.result _ c.loop-byte.byte-index c.args.value.now _ c.loop-byte-test.true refl c.with_digit-number.ensures c.loop-byte.invariant.same;
  digits = digits_next c.loop-byte.byte-index c.args.value.now _ c.loop-byte-test.true (grind (arith, common_steps)) c.loop-byte.invariant.digits;
}
