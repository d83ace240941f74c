use Rattle.std.proofs.Common.{◌≤◌, length, ℕ, List}
use Rattle.up_lines.specs.Runs.{At}
use Rattle.up_lines.specs.Progress.{Within}
use Rattle.up_lines.proofs.lines.answer_whole.Given as goal

-- the bytes that came stand as before, with more lines answered; the writer may be written, and no answer is forgotten
abbrev pub invariant-loop-alloc : goal.invariant-loop-alloc
invariant-loop-alloc g l = ((first : At g.row.S.Denot) (came : List ℕ) → Within g.I.Interpret.gives first came l.fn.progress (record { state = l.fn.state; held = g.W.Sink.contents l.fn.writer })
    → Within g.I.Interpret.gives first came l.progress (record { state = l.state; held = g.W.Sink.contents l.writer }))
    × g.W.Sink.can_write l.writer × (l.fn.progress.answered ≤ l.progress.answered)

abbrev pub decreases-loop-alloc : goal.decreases-loop-alloc
decreases-loop-alloc g l = length l.progress.line.items
