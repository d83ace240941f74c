use Rattle.std.proofs.Common.{◌≡◌, take, map}
use Rattle.up_records.proofs.views.names_of.Given as goal

-- the names of the rows so far
abbrev pub invariant-loop-row : goal.invariant-loop-row
invariant-loop-row l = l.names.items ≡ map (λ row. row.ecu) (take l.row-index l.rows)
