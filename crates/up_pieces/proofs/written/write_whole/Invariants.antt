use Rattle.std.proofs.Common.{length, take, ◌-◌, ◌≤◌}
use Rattle.std.specs.Io.KnownBytes.{Appends}
use Rattle.up_pieces.proofs.written.write_whole.Given as goal

-- what stands before `at` was written, and the writer may be written
abbrev pub invariant-loop-at : goal.invariant-loop-at
invariant-loop-at g l = record {
  in_text : l.at ≤ length l.text;
  wrote : Appends (g.W.Sink.contents l.fn.writer) (g.W.Sink.contents l.writer) (take l.at l.text);
  can : g.W.Sink.can_write l.writer;
}

abbrev pub decreases-loop-at : goal.decreases-loop-at
decreases-loop-at g l = length l.text - l.at
