-- What is printed for an answer, and for a view of a vehicle.
use Rattle.std.specs.Prelude.{ℕ, List, [], ◌∷◌, ◌++◌, Option, Some, None, codes, decimal, find, option_map, bytes_eq}
use Rattle.up_canon.specs.Names.{Name}
use Rattle.up_canon.specs.Refusals.{row, refusal_text}
use Rattle.up_canon.specs.declared.refusal.Refusal.{Refusal}
use Rattle.up_manifest.specs.declared.report.Installed.{Installed}
use Rattle.up_plan.specs.declared.assigned.Assigned.{Assigned}
use Rattle.up_plan.specs.declared.assigned.Cause.{Cause}
use Rattle.up_plan.specs.declared.assigned.Cause.TheVariants.{Need, Conflict}
use Rattle.up_plan.specs.declared.assigned.Plan.{Plan}
use Rattle.up_machine.specs.declared.answer.Answer.{Answer}
use Rattle.up_machine.specs.declared.answer.Answer.TheVariants.{Done, Already, Reply as Replied, File, Refused}
use Rattle.up_machine.specs.declared.answer.Reply.{Reply}

-- ---- answers

abbrev pub cause_text : Cause → List ℕ
cause_text (Need ecu hardware) = codes " withheld " ++ ecu ++ codes " need " ++ hardware
cause_text (Conflict ecu file) = codes " withheld " ++ ecu ++ codes " conflict " ++ file

abbrev pub withheld_text : Option Cause → List ℕ
withheld_text None = []
withheld_text (Some cause) = cause_text cause

abbrev pub reply_text : Reply → List ℕ
reply_text r = codes "reply " ++ r.vehicle ++ codes " version " ++ decimal r.version ++ codes " targets " ++ decimal r.targets ++ withheld_text r.withheld

-- the refusal's number, its name, and its value where it has one
abbrev pub refused_text : Refusal → List ℕ
refused_text r = codes "refused " ++ decimal (row r).number ++ 32 ∷ refusal_text r

unfoldable pub answer_text : Answer → List ℕ
answer_text Done = codes "done"
answer_text Already = codes "already"
answer_text (Replied r) = reply_text r
answer_text (File text) = codes "file " ++ text
answer_text (Refused r) = refused_text r

-- ---- views of a vehicle

abbrev pub vehicle_text : Name → ℕ → List ℕ
vehicle_text vehicle version = codes "vehicle " ++ vehicle ++ codes " version " ++ decimal version

-- the installed file, or a dash before the first report
abbrev pub installed_text : Option Installed → List ℕ
installed_text None = codes "-"
installed_text (Some image) = image.file

-- the file that is assigned to the ECU
abbrev pub file_for : Name → List Assigned → Option Name
file_for ecu assigned = option_map (λ a. a.file) (find (λ a. bytes_eq a.ecu ecu) assigned)

abbrev pub assigned_file : Name → Option Plan → Option Name
assigned_file ecu None = None
assigned_file ecu (Some plan) = file_for ecu plan.assigned

abbrev pub assigned_text : Option Name → List ℕ
assigned_text None = []
assigned_text (Some file) = codes ">" ++ file

-- an ECU with what is installed and what is assigned
unfoldable pub ecu_text : Option Plan → Name → Option Installed → List ℕ
ecu_text plan ecu installed = 32 ∷ ecu ++ codes "=" ++ installed_text installed ++ assigned_text (assigned_file ecu plan)
