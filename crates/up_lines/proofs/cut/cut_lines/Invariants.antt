use Rattle.std.proofs.Common.{◌-◌, ◌≡◌, ◌++◌, ◌≤◌, length, ℕ, List, take, filter}
use Rattle.up_lines.specs.Lines.{has_bytes, most_together}
use Rattle.up_lines.specs.Together.{AreLines, bytes_of}
use Rattle.up_lines.proofs.cut.cut_lines.Given as goal

-- these lines are cut, and those that have any byte are listed
abbrev pub invariant-loop-counted : goal.invariant-loop-counted
invariant-loop-counted l = (front : List ℕ) × (l.bytes ≡ front ++ l.rest) × (lines : List (List ℕ)) × AreLines front lines × (l.counted ≡ length lines) × (l.counted ≤ l.most)
    × (l.some ≤ most_together) × (bytes_of (take l.some l.listed) ≡ filter has_bytes lines) × (length lines ≤ length front) × (l.some ≤ length lines)

abbrev pub decreases-loop-counted : goal.decreases-loop-counted
decreases-loop-counted l = l.most - l.counted
