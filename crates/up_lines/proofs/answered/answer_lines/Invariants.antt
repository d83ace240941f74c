use Rattle.std.proofs.Common.{◌≡◌, ◌+◌, ◌++◌, length, ℕ, List}
use Rattle.std.specs.Io.KnownBytes.{Appends}
use Rattle.up_lines.specs.LineRuns.{print}
use Rattle.up_lines.specs.Runs.{written}
use Rattle.up_lines.specs.Together.{bytes_of}
use Rattle.up_lines.proofs.answered.answer_lines.Given as goal

-- these lines were answered, and their answers written; and the writer may be written
abbrev pub invariant-loop-rest : goal.invariant-loop-rest
invariant-loop-rest g l = (done : List (List ℕ)) × (bytes_of l.fn.lines ≡ done ++ bytes_of l.rest) × (texts : List (List ℕ)) × g.I.Interpret.gives l.fn.state done texts l.state
    × Appends (g.W.Sink.contents l.fn.writer) (g.W.Sink.contents l.writer) (written print texts) × (l.answered ≡ length texts) × (l.answered + length l.rest ≡ length l.fn.lines)
    × g.W.Sink.can_write l.writer

abbrev pub decreases-loop-rest : goal.decreases-loop-rest
decreases-loop-rest g l = length l.rest
