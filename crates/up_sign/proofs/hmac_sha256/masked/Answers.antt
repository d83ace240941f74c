use Rattle.std.proofs.Common.{bit_xor, ap, arith}
use Rattle.std.proofs.lemmas.Grind.{common_steps}
use Rattle.up_sign.proofs.Arrays.{masked_more}
use Rattle.up_sign.proofs.hmac_sha256.masked.Goals as goal

pub loop-byte-preserved : goal.loop-byte-preserved
loop-byte-preserved c = record {
  size = grind (arith, common_steps);
  done = masked_more _ _ _ _ _ (omega arith) (omega arith) c.loop-byte.invariant.done (ap (bit_xor c.args.mask) (c.loop-byte.invariant.left _ (omega arith)));
  left = λ k h. grind (arith, common_steps, c.loop-byte.invariant.left k);
}
