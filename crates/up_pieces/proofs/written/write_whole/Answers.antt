use Rattle.std.proofs.Common.{arith}
use Rattle.std.proofs.lemmas.Grind.{common_steps}
use Rattle.up_pieces.proofs.Writes.{wrote_more, wrote_prefix}
use Rattle.up_pieces.proofs.written.write_whole.Goals as goal

pub loop-at-preserved : goal.loop-at-preserved
loop-at-preserved g c = record {
  in_text = grind (arith, common_steps, c.in-Ok.ensures.bound);
  wrote = wrote_more _ _ _ c.args.text.now c.loop-at.at c.in-Ok.n c.loop-at.invariant.wrote c.in-Ok.ensures.bytes;
  can = c.in-Ok.ensures.goes_on (grind (arith, common_steps));
}

pub returns-in-Err : goal.returns-in-Err
returns-in-Err g c = record {
  ok = tt;
  err = wrote_prefix _ _ _ c.args.text.now c.loop-at.at c.loop-at-test.true c.loop-at.invariant.wrote c.in-Err.ensures.bytes;
  goes_on = tt;
  failed = c.in-Err.ensures.failed;
}
