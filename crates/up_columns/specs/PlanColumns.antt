-- A plan as canonical JSON.
use Rattle.std.specs.Prelude.{ℕ, List, [], ◌∷◌, Bool, true, false, if◌then◌else◌, length, map, codes, Option, Some, None, Result, Ok}
use Rattle.serde_json.specs.Data.{Data, null, string}
use Rattle.serde_json.specs.Find as json
use Rattle.up_canon.specs.Build.{object_with, list_with}
use Rattle.up_canon.specs.Canon.{text}
use Rattle.up_canon.specs.JsonText.{value_within}
use Rattle.up_canon.specs.Members.{object_of, member_in, list_in}
use Rattle.up_canon.specs.Names.{Name}
use Rattle.up_canon.specs.Readers.{ident_in, file_name_in, ident_of}
use Rattle.up_canon.specs.Steps.{◌>>=◌, each}
use Rattle.up_canon.specs.declared.refusal.Refusal.{Refusal}
use Rattle.up_plan.specs.declared.assigned.Assigned.{Assigned}
use Rattle.up_plan.specs.declared.assigned.Cause.{Cause}
use Rattle.up_plan.specs.declared.assigned.Cause.TheVariants.{Need, Conflict}
use Rattle.up_plan.specs.declared.assigned.Plan.{Plan}

-- `{"ecu":E,"file":F}`
abbrev pub assigned_data : Assigned → Data
assigned_data a = object_with ((codes "ecu", string a.ecu) ∷ (codes "file", string a.file) ∷ [])

-- `null`, `{"ecu":E,"hardware":H}` of a need, or `{"ecu":E,"file":F}` of a conflict
abbrev pub cause_data : Option Cause → Data
cause_data None = null
cause_data (Some (Need ecu hardware)) = object_with ((codes "ecu", string ecu) ∷ (codes "hardware", string hardware) ∷ [])
cause_data (Some (Conflict ecu file)) = object_with ((codes "ecu", string ecu) ∷ (codes "file", string file) ∷ [])

-- `{"assigned":[{"ecu":E,"file":F},..],"withheld":W}`
abbrev pub plan_data : Plan → Data
plan_data p = object_with ((codes "assigned", list_with (map assigned_data p.assigned)) ∷ (codes "withheld", cause_data p.withheld) ∷ [])

unfoldable pub plan_column : Plan → List ℕ
plan_column p = text (plan_data p)

-- ---- what it is read as

unfoldable pub assigned_of : List ℕ → Data → Result Assigned Refusal
assigned_of name value = do
  d ← object_of name value
  ecu ← ident_in (codes "ecu") d
  file ← file_name_in (codes "file") d
  Ok (record { ecu = ecu; file = file })

abbrev pub is_null : Data → Bool
is_null null = true
is_null _ = false

-- a need where there is hardware, else a conflict
unfoldable pub demand_of : Name → Option Data → Data → Result Cause Refusal
demand_of ecu (Some value) d = do
  hardware ← ident_of (codes "hardware") value
  Ok (Need ecu hardware)
demand_of ecu None d = do
  file ← file_name_in (codes "file") d
  Ok (Conflict ecu file)

unfoldable pub cause_of : Data → Result Cause Refusal
cause_of value = do
  d ← object_of (codes "withheld") value
  ecu ← ident_in (codes "ecu") d
  demand_of ecu (json.get (codes "hardware") d) d

unfoldable pub some_cause_of : Data → Result (Option Cause) Refusal
some_cause_of value = do
  cause ← cause_of value
  Ok (Some cause)

abbrev pub withheld_of : Data → Result (Option Cause) Refusal
withheld_of value = if is_null value then Ok None else some_cause_of value

unfoldable pub withheld_in : Data → Result (Option Cause) Refusal
withheld_in d = do
  value ← member_in (codes "withheld") d
  withheld_of value

unfoldable pub assigned_in : Data → Result (List Assigned) Refusal
assigned_in d = do
  values ← list_in (codes "assigned") d
  each (assigned_of (codes "assigned")) values

unfoldable pub plan_of : Data → Result Plan Refusal
plan_of value = do
  d ← object_of (codes "plan") value
  assigned ← assigned_in d
  withheld ← withheld_in d
  Ok (record { assigned = assigned; withheld = withheld })

unfoldable pub plan_in : List ℕ → Result Plan Refusal
plan_in column = do
  value ← value_within (length column) column
  plan_of value
