use Rattle.std.proofs.Common.{◌≡◌, ℕ, List, ◌+◌, length}
use Rattle.std.specs.Io.KnownBytes.{Consumes}
use Rattle.up_lines.specs.Lines.{most_bytes, piece_bytes}
use Rattle.up_lines.specs.Progress.{Sofar}
use Rattle.up_lines.proofs.lines.read_lines.Given as goal

-- the bytes that came, what stands after them, how many more may come, and that they may be read and answers written
abbrev pub invariant-loop-most : goal.invariant-loop-most
invariant-loop-most g l = (came : List ℕ) × Consumes (g.R.Source.remaining l.fn.reader) (g.R.Source.remaining l.reader) came
    × Sofar g.I.Interpret.gives (record { state = l.fn.state; held = g.W.Sink.contents l.fn.writer }) came l.progress (record { state = l.state; held = g.W.Sink.contents l.writer })
    × (length came + l.most ≡ most_bytes) × (length l.buffer ≡ piece_bytes)
    × g.R.Source.can_read l.reader × g.W.Sink.can_write l.writer

abbrev pub decreases-loop-most : goal.decreases-loop-most
decreases-loop-most g l = l.most
