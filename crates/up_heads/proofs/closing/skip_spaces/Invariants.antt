use Rattle.std.proofs.Common.{◌≡◌, ◌≤◌, ◌-◌, length, drop}
use Rattle.httparse.specs.Grammar.{skip_ows}
use Rattle.up_heads.proofs.closing.skip_spaces.Given as goal

-- spaces and tabs alone were passed
abbrev pub invariant-loop-at : goal.invariant-loop-at
invariant-loop-at l = record { inside : l.at ≤ length l.bytes; same : skip_ows (drop l.at l.bytes) ≡ skip_ows l.bytes }

abbrev pub decreases-loop-at : goal.decreases-loop-at
decreases-loop-at l = length l.bytes - l.at
