-- What is told of a refusal.
use Rattle.std.specs.Prelude.{ℕ, List, [], ◌∷◌, ◌++◌, codes, decimal, Option, None, Some, Result, Ok, Err}
use Rattle.up_canon.specs.Refusals.{row, refusal_text}
use Rattle.up_canon.specs.declared.refusal.Refusal.{Refusal}
use Rattle.up_heads.specs.Responses.{check_row}
use Rattle.up_heads.specs.declared.check.Check.{Check}
use Rattle.up_manifest.specs.Manifests.{incoming_in}
use Rattle.up_manifest.specs.declared.manifest.Incoming.{Incoming}
use Rattle.up_machine.specs.declared.command.Command.{Command}
use Rattle.up_machine.specs.declared.command.Command.TheVariants.{Deliver}

-- the vehicle of a manifest that was read
abbrev pub vehicle_read : Result Incoming Refusal → Option (List ℕ)
vehicle_read (Ok incoming) = Some incoming.manifest.vehicle
vehicle_read (Err r) = None

-- the vehicle that a delivered manifest names, where it can be read
abbrev pub vehicle_in : Command → Option (List ℕ)
vehicle_in (Deliver body) = vehicle_read (incoming_in body)
vehicle_in _ = None

-- a number and its text
abbrev pub refused_of : ℕ → List ℕ → List ℕ
refused_of number text = codes "refused " ++ decimal number ++ 32 ∷ text ++ 10 ∷ []

-- the line that tells them, of the vehicle where there is one
abbrev pub line_of : Option (List ℕ) → ℕ → List ℕ → List ℕ
line_of None number text = codes "uptane_desk: " ++ refused_of number text
line_of (Some vehicle) number text = codes "uptane_desk: vehicle " ++ vehicle ++ codes ": " ++ refused_of number text

-- the line that tells a refusal
abbrev pub refusal_line_of : Option (List ℕ) → Refusal → List ℕ
refusal_line_of vehicle r = line_of vehicle (row r).number (refusal_text r)

-- the line that tells a check which a request failed
abbrev pub check_line_of : Check → List ℕ
check_line_of check = line_of None (check_row check).number (check_row check).text
