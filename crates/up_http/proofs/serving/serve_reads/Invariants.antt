use Rattle.std.proofs.Common.{◌≡◌, ◌≤◌, ◌+◌, ◌-◌, ◌*◌, ◌++◌, ℕ, List, false, length, take, drop}
use Rattle.std.specs.Io.KnownBytes.{Consumes}
use Rattle.up_lines.specs.Runs.{LastRead}
use Rattle.up_http.specs.Serving.{WantsMore, most_bytes, piece_bytes}
use Rattle.up_http.specs.Steps.{Sofar}
use Rattle.up_http.proofs.serving.serve_reads.Given as goal

-- the bytes that were taken, those of the piece that weren't yet, that more may be read and answers written, and how the piece was read
abbrev pub invariant-loop-progress : goal.invariant-loop-progress
invariant-loop-progress g l = (came : List ℕ) × Consumes (g.R.Source.remaining l.fn.reader) (g.R.Source.remaining l.reader) (came ++ take (l.filled - l.at) (drop l.at l.buffer))
    × Sofar (g.A.Respond.gives l.responder) (record { state = l.fn.state; held = g.W.Sink.contents l.fn.writer }) came l.progress (record { state = l.state; held = g.W.Sink.contents l.writer })
    × (length came + (l.filled - l.at) + l.most ≡ most_bytes) × (l.at ≤ l.filled) × (l.filled ≤ length l.buffer) × (length l.buffer ≡ piece_bytes)
    × g.R.Source.can_read l.reader × g.W.Sink.can_write l.writer
    × LastRead piece_bytes (WantsMore l.progress.answered) (came ++ take (l.filled - l.at) (drop l.at l.buffer)) false

-- each turn takes bytes, gives a request, or reads
abbrev pub decreases-loop-progress : goal.decreases-loop-progress
decreases-loop-progress g l = 2 * l.most + (l.filled - l.at) + (100 - l.progress.talk.fed.given)
