-- A plan has a canonical text, and is read again.
use Rattle.std.proofs.Common.{◌≡◌, ℕ, List, [], ◌∷◌, true, Option, Some, None, Ok, map, refl, ◌∙◌, arith}
use Rattle.std.specs.Prelude.{codes}
use Rattle.std.specs.List.{list_all}
use Rattle.std.proofs.lemmas.Bool.{and_parts}
use Rattle.serde_json.specs.Data.{Data}
use Rattle.serde_json.specs.Find as json
use Rattle.serde_json.specs.View.{items_of}
use Rattle.up_canon.specs.Build.{list_with}
use Rattle.up_canon.specs.Canon.{CanonIsRead, has_canon}
use Rattle.up_canon.specs.Meaning.{HasText}
use Rattle.up_canon.specs.Members.{items_list, object_of, member_in}
use Rattle.up_canon.specs.Names.{Name, is_ident}
use Rattle.up_canon.proofs.Members.{ident_there, file_name_there, list_there}
use Rattle.up_canon.proofs.PlainValues.{IsPlain, plain-object, plain-list, all-plain, plain-canon, deeper}
use Rattle.up_canon.proofs.Steps.{bind-ok}
use Rattle.up_plan.specs.declared.assigned.Assigned.{Assigned}
use Rattle.up_plan.specs.declared.assigned.Cause.{Cause}
use Rattle.up_plan.specs.declared.assigned.Cause.TheVariants.{Need, Conflict}
use Rattle.up_plan.specs.declared.assigned.Plan.{Plan}
use Rattle.up_columns.specs.PlanColumns.{assigned_data, assigned_of, assigned_in, cause_data, demand_of, cause_of, some_cause_of, withheld_of, withheld_in, plan_data, plan_column, plan_of, plan_in}
use Rattle.up_columns.specs.Typed.{is_typed_assigned, is_typed_cause, is_typed_plan}
use Rattle.up_columns.proofs.NamesRead.{ident-plain, file_name-plain, ident-there}
use Rattle.up_columns.proofs.Pairs.{two-plain, two-there}
use Rattle.up_columns.proofs.Texts.{text-there, list-there}

-- ---- it has a canonical text

assigned-plain : (a : Assigned) → is_typed_assigned a ≡ true → IsPlain 1 (assigned_data a)
assigned-plain a h =
    let p = and_parts (is_ident a.ecu) _ h in
    two-plain (codes "ecu") (codes "file") _ _ refl refl (ident-plain a.ecu p.0) (file_name-plain a.file p.1)

cause-plain : (cause : Option Cause) → is_typed_cause cause ≡ true → IsPlain 1 (cause_data cause)
cause-plain None h = record { plain = refl; shallow = omega arith }
cause-plain (Some (Need ecu hardware)) h =
    let p = and_parts (is_ident ecu) _ h in
    two-plain (codes "ecu") (codes "hardware") _ _ refl refl (ident-plain ecu p.0) (ident-plain hardware p.1)
cause-plain (Some (Conflict ecu file)) h =
    let p = and_parts (is_ident ecu) _ h in
    two-plain (codes "ecu") (codes "file") _ _ refl refl (ident-plain ecu p.0) (file_name-plain file p.1)

pub plan-canon : (plan : Plan) → is_typed_plan plan ≡ true → has_canon (plan_data plan) ≡ true
plan-canon plan h =
    let p = and_parts (list_all is_typed_assigned plan.assigned) _ h in
    let assigned : IsPlain 2 (list_with (map assigned_data plan.assigned)) = plain-list 1 (map assigned_data plan.assigned) (all-plain 1 is_typed_assigned assigned_data plan.assigned assigned-plain p.0) in
    let withheld : IsPlain 2 (cause_data plan.withheld) = deeper 1 2 (cause_data plan.withheld) (omega arith) (cause-plain plan.withheld p.1) in
    plain-canon 3 (plan_data plan) (omega arith) (plain-object 2 ((codes "assigned", list_with (map assigned_data plan.assigned)) ∷ (codes "withheld", cause_data plan.withheld) ∷ []) (refl, assigned, (refl, withheld, tt)))

-- ---- and is read again

assigned-there : (name : List ℕ) (a : Assigned) → is_typed_assigned a ≡ true → assigned_of name (assigned_data a) ≡ Ok a
unfolding assigned_of object_of
assigned-there name a h =
    two-there (is_ident a.ecu) _ name (assigned_data a) _ _ _ _ _ refl h (λ p. ident_there (codes "ecu") (assigned_data a) a.ecu refl p) (λ p. file_name_there (codes "file") (assigned_data a) a.file refl p)

-- its ECU is read, and then what it asks for
ecu-there : (ecu : Name) (cause : Cause) (d : Data) → object_of (codes "withheld") d ≡ Ok d → HasText d (codes "ecu") ecu → is_ident ecu ≡ true → demand_of ecu (json.get (codes "hardware") d) d ≡ Ok cause
    → some_cause_of d ≡ Ok (Some cause)
unfolding some_cause_of cause_of
ecu-there ecu cause d is has fits demand = bind-ok _ _ cause (bind-ok _ _ d is ∙ bind-ok _ _ ecu (ident_there (codes "ecu") d ecu has fits) ∙ demand)

cause-there : (cause : Cause) → is_typed_cause (Some cause) ≡ true → some_cause_of (cause_data (Some cause)) ≡ Ok (Some cause)
unfolding demand_of object_of
cause-there (Need ecu hardware) h =
    let p = and_parts (is_ident ecu) _ h in
    ecu-there ecu (Need ecu hardware) (cause_data (Some (Need ecu hardware))) refl refl p.0 (bind-ok _ _ hardware (ident-there (codes "hardware") hardware p.1))
cause-there (Conflict ecu file) h =
    let p = and_parts (is_ident ecu) _ h in
    let d = cause_data (Some (Conflict ecu file)) in
    ecu-there ecu (Conflict ecu file) d refl refl p.0 (bind-ok _ _ file (file_name_there (codes "file") d file refl p.1))

withheld-there : (plan : Plan) → is_typed_cause plan.withheld ≡ true → withheld_in (plan_data plan) ≡ Ok plan.withheld
unfolding withheld_in member_in
withheld-there plan h = bind-ok _ _ (cause_data plan.withheld) refl ∙ by_cause plan.withheld h
  where
    by_cause : (cause : Option Cause) → is_typed_cause cause ≡ true → withheld_of (cause_data cause) ≡ Ok cause
    by_cause None h = refl
    by_cause (Some (Need ecu hardware)) h = cause-there (Need ecu hardware) h
    by_cause (Some (Conflict ecu file)) h = cause-there (Conflict ecu file) h

pub plan-there : CanonIsRead → (plan : Plan) → is_typed_plan plan ≡ true → plan_in (plan_column plan) ≡ Ok plan
unfolding plan_in plan_column plan_of assigned_in object_of
plan-there law plan h =
    let p = and_parts (list_all is_typed_assigned plan.assigned) _ h in
    let d = plan_data plan in
    bind-ok _ _ d (text-there law d (plan-canon plan h))
    ∙ bind-ok _ _ d refl
    ∙ bind-ok _ _ plan.assigned (bind-ok _ _ (items_list (items_of (map assigned_data plan.assigned))) (list_there (codes "assigned") d (items_of (map assigned_data plan.assigned)) refl)
    ∙ list-there assigned_of (codes "assigned") is_typed_assigned assigned_data (assigned-there (codes "assigned")) plan.assigned p.0)
    ∙ bind-ok _ _ plan.withheld (withheld-there plan p.1)
