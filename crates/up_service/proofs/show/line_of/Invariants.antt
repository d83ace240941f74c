use Rattle.std.proofs.Common.{◌≡◌, ◌++◌, take}
use Rattle.std.specs.Prelude.{flat_map, string_bytes}
use Rattle.up_script.specs.PrintedLines.{vehicle_text}
use Rattle.up_service.specs.LineAnswers.{row_text}
use Rattle.up_service.proofs.show.line_of.Given as goal

-- the text of the ECUs so far is behind the line's beginning
abbrev pub invariant-loop-row : goal.invariant-loop-row
invariant-loop-row l = string_bytes l.line ≡ vehicle_text l.rows.vehicle.vehicle l.rows.vehicle.version ++ flat_map (row_text l.plan) (take l.row-index l.ecus)
