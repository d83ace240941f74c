use Rattle.std.proofs.Common.{◌≡◌, ℕ, List, ◌++◌, length}
use Rattle.up_lines.specs.Progress.{Takes}
use Rattle.up_lines.proofs.lines.take_piece.Given as goal

-- the empty lines before the rest were taken, and nothing was answered
abbrev pub invariant-loop-behind : goal.invariant-loop-behind
invariant-loop-behind g l = (front : List ℕ) × (l.piece ≡ front ++ l.rest)
    × Takes g.I.Interpret.gives front l.fn.progress (record { state = l.fn.state; held = g.W.Sink.contents l.fn.writer }) l.progress (record { state = l.fn.state; held = g.W.Sink.contents l.fn.writer })
    × (l.progress.answered ≡ l.fn.progress.answered)

abbrev pub decreases-loop-behind : goal.decreases-loop-behind
decreases-loop-behind g l = length l.rest
