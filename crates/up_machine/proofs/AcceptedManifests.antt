-- The rows of an accepted manifest are those of the vehicle with its entry.
use Rattle.std.proofs.Common.{◌≡◌, ℕ, ◌+◌, ◌<◌, List, [], ◌∷◌, ◌++◌, Option, Some, true, refl, sym, ap, ◌∙◌, subst, arith, length-append}
use Rattle.std.specs.Prelude.{◌==◌, find, map, filter_map, option_map, option_and_then, unwrap_or}
use Rattle.std.specs.FinMap as table
use Rattle.std.proofs.lemmas.Bool.{ne_eqb}
use Rattle.std.proofs.lemmas.Bool.Decides.{nat_tests}
use Rattle.std.specs.List.{cons_option}
use Rattle.up_canon.specs.Names.{Name, Table}
use Rattle.up_sign.specs.Schemes.{Rules}
use Rattle.up_manifest.specs.declared.manifest.Incoming.{Incoming}
use Rattle.up_manifest.specs.declared.manifest.Manifest.{Manifest}
use Rattle.up_manifest.specs.declared.report.SignedReport.{SignedReport}
use Rattle.up_manifest.specs.Manifests.{manifest_of}
use Rattle.up_plan.specs.declared.assigned.Plan.{Plan}
use Rattle.up_plan.specs.declared.campaign.Item.{Item}
use Rattle.up_plan.specs.Images.{ImageData}
use Rattle.up_plan.specs.Offers.{OffersSame, OffersAloneCount}
use Rattle.up_plan.specs.Planning.{items_for, resulting, plan_from, plan_of}
use Rattle.up_machine.specs.declared.rows.EcuRow.{EcuRow}
use Rattle.up_machine.specs.declared.rows.Founding.{Founding}
use Rattle.up_machine.specs.declared.rows.Kept.{Kept}
use Rattle.up_machine.specs.declared.rows.VehicleRow.{VehicleRow}
use Rattle.up_machine.specs.declared.rows.VehicleRows.{VehicleRows}
use Rattle.up_machine.specs.declared.decision.AcceptedRows.{AcceptedRows}
use Rattle.up_machine.specs.declared.vehicle.NewEcu.{NewEcu}
use Rattle.up_machine.specs.State.{Entry, Vehicle, State, root_number, version, last_counter, newest, report_of, last_report}
use Rattle.up_machine.specs.Deliveries.{Received, fitted, plan_in, entry_of}
use Rattle.up_machine.specs.Replies.{reply_text}
use Rattle.up_machine.specs.Rows.{founding_row, ecu_row, vehicle_row, rows_of, kept_row}
use Rattle.up_machine.specs.Decisions.{HasAcceptedRows}
use Rattle.up_machine.specs.ManifestRows.{fitted_in, reported_row, accepted_row, reply_of, kept_of, plan_by_rows, accepted_rows, target_for}
use Rattle.up_machine.proofs.FoundedRow.{row_of}
use Rattle.up_machine.proofs.FoundingRows.{founding_of}

-- ---- the newest manifest

-- the vehicle with one entry more
abbrev with_one : Vehicle → Entry → Vehicle
with_one v e = record v { entries = v.entries ++ e ∷ [] }

last_is : (entries : List Entry) (e : Entry) → last_counter entries < e.counter → last_counter (entries ++ e ∷ []) ≡ e.counter
last_is [] e h = omega arith
last_is (f ∷ entries) e h = let rest = last_is entries e (omega arith) in omega arith

find_last : (entries : List Entry) (e : Entry) → last_counter entries < e.counter → find (λ x. x.counter == e.counter) (entries ++ e ∷ []) ≡ Some e
find_last [] e h = let same : (e.counter == e.counter) ≡ true = grind (arith, nat_tests) in rw same refl
find_last (f ∷ entries) e h =
    let other = ne_eqb f.counter e.counter (λ same. omega arith) in
    rw other (find_last entries e (omega arith))

newest_is : (entries : List Entry) (e : Entry) → last_counter entries < e.counter → newest (entries ++ e ∷ []) ≡ Some e
newest_is entries e h = ap (λ n. find (λ (x : Entry). x.counter == n) (entries ++ e ∷ [])) (last_is entries e h) ∙ find_last entries e h

reported_last : (v : Vehicle) (e : Entry) (m : Manifest) (name : Name) → last_counter v.entries < e.counter → manifest_of e.signed ≡ Some m → last_report (with_one v e) name ≡ report_of name m.reports
unfolding last_report
reported_last v e m name later read =
    ap (λ o. option_and_then (λ (m : Manifest). report_of name m.reports) (option_and_then (λ (e : Entry). manifest_of e.signed) o)) (newest_is v.entries e later)
    ∙ ap (option_and_then (λ (m : Manifest). report_of name m.reports)) read

-- ---- the vehicle's rows

row_reported : (v : Vehicle) (e : Entry) (m : Manifest) (n : NewEcu) → last_counter v.entries < e.counter → manifest_of e.signed ≡ Some m
    → reported_row m.reports (ecu_row v n) ≡ ecu_row (with_one v e) n
row_reported v e m n later read =
    ap {B = EcuRow} (λ (o : Option SignedReport). record {
      ecu = n.ecu;
      hardware = n.hardware;
      public = n.public;
      installed = option_map (λ (r : SignedReport). r.report.image) o;
      counter = unwrap_or (option_map (λ (r : SignedReport). r.report.counter) o) 0;
      report = option_map (λ (r : SignedReport). r.envelope.signed) o;
    }) (sym (reported_last v e m n.ecu later read))

rows_reported : (v : Vehicle) (e : Entry) (m : Manifest) (ecus : List NewEcu) → last_counter v.entries < e.counter → manifest_of e.signed ≡ Some m
    → map (reported_row m.reports) (map (ecu_row v) ecus) ≡ map (ecu_row (with_one v e)) ecus
rows_reported v e m [] later read = refl
rows_reported v e m (n ∷ ecus) later read = rw (row_reported v e m n later read, rows_reported v e m ecus later read)

row_accepted : (name : Name) (v : Vehicle) (e : Entry) → last_counter v.entries < e.counter → accepted_row (vehicle_row name v) e.counter ≡ vehicle_row name (with_one v e)
row_accepted name v e later =
    let number : version v.entries + 1 ≡ version (v.entries ++ e ∷ []) = sym (length-append v.entries (e ∷ [])) in
    ap {B = VehicleRow} (λ n. record { vehicle = name; primary = v.primary; version = n; last = e.counter }) number
    ∙ ap {B = VehicleRow} (λ n. record { vehicle = name; primary = v.primary; version = version (v.entries ++ e ∷ []); last = n }) (sym (last_is v.entries e later))

-- ---- the plan

-- it depends on the items through what they offer alone
same_plan : OffersAloneCount → (images : Table ImageData) (items others : List Item) (rows : VehicleRows) (reports : List SignedReport) → OffersSame items others
    → plan_by_rows images items rows reports ≡ plan_by_rows images others rows reports
unfolding plan_by_rows
same_plan law images items others rows reports same = law (table.values images) items others (fitted_in reports rows.ecus) same

pub accepted_alike : OffersAloneCount → (k : Rules) (f : Founding) (rows : VehicleRows) (at : ℕ) (incoming : Incoming) (images : Table ImageData) (items others : List Item)
    → OffersSame items others → accepted_rows k f rows at incoming images items ≡ accepted_rows k f rows at incoming images others
accepted_alike law k f rows at incoming images items others same =
    ap {B = AcceptedRows} (λ (plan : Plan). record {
      vehicle = record { vehicle = accepted_row rows.vehicle incoming.manifest.counter; ecus = map (reported_row incoming.manifest.reports) rows.ecus };
      kept = kept_of k f rows.vehicle at incoming images plan;
    }) (same_plan law images items others rows incoming.manifest.reports same)

-- ---- the kept row

-- the items of the state's campaigns for the vehicle
abbrev items_in : State → Received → List Item
items_in s d = items_for (table.values s.campaigns) d.incoming.manifest.vehicle

fitted_same : (v : Vehicle) (reports : List SignedReport) (ecus : List NewEcu) → fitted_in reports (map (ecu_row v) ecus) ≡ filter_map (fitted reports) ecus
fitted_same v reports [] = refl
fitted_same v reports (n ∷ ecus) = ap (cons_option (fitted reports n)) (fitted_same v reports ecus)

plan_same : (s : State) (d : Received) → plan_by_rows s.images (items_in s d) (rows_of d.incoming.manifest.vehicle d.vehicle) d.incoming.manifest.reports ≡ plan_in s d
unfolding plan_in plan_of plan_by_rows
plan_same s d = ap (λ fitted. plan_from (resulting (table.values s.images) (items_in s d) fitted)) (fitted_same d.vehicle d.incoming.manifest.reports d.vehicle.ecus)

reply_same : (k : Rules) (s : State) (at : ℕ) (d : Received)
    → reply_of k (row_of s) (vehicle_row d.incoming.manifest.vehicle d.vehicle) at (filter_map (target_for s.images) (plan_in s d).assigned)
    ≡ reply_text k s d.incoming.manifest.vehicle (version d.vehicle.entries + 1) at (plan_in s d)
unfolding reply_text
reply_same k s at d = refl

kept_same : (k : Rules) (s : State) (at : ℕ) (d : Received)
    → kept_of k (row_of s) (vehicle_row d.incoming.manifest.vehicle d.vehicle) at d.incoming s.images (plan_in s d)
    ≡ kept_row d.incoming.manifest.vehicle (version d.vehicle.entries + 1) (entry_of k s at d)
kept_same k s at d =
    ap {B = Kept} (λ text. record {
      vehicle = d.incoming.manifest.vehicle;
      counter = d.incoming.manifest.counter;
      version = version d.vehicle.entries + 1;
      at = at;
      root = root_number s;
      signed = d.incoming.envelope.signed;
      plan = plan_in s d;
      reply = text;
    }) (reply_same k s at d)

-- ---- the whole

by_row : (k : Rules) (s : State) (at : ℕ) (d : Received)
    → last_counter d.vehicle.entries < d.incoming.manifest.counter → manifest_of d.incoming.envelope.signed ≡ Some d.incoming.manifest
    → HasAcceptedRows d.incoming.manifest.vehicle d.vehicle (entry_of k s at d)
    (accepted_rows k (row_of s) (rows_of d.incoming.manifest.vehicle d.vehicle) at d.incoming s.images (items_in s d))
by_row k s at d later read =
    let name = d.incoming.manifest.vehicle in
    let e = entry_of k s at d in
    let row = row_accepted name d.vehicle e later in
    let ecus = rows_reported d.vehicle e d.incoming.manifest d.vehicle.ecus later read in
    record {
      vehicle = ap {B = VehicleRows} (λ (r : VehicleRow). record { vehicle = r; ecus = map (reported_row d.incoming.manifest.reports) (map (ecu_row d.vehicle) d.vehicle.ecus) }) row
          ∙ ap {B = VehicleRows} (λ rows. record { vehicle = vehicle_row name (with_one d.vehicle e); ecus = rows }) ecus;
      kept = ap (kept_of k (row_of s) (vehicle_row name d.vehicle) at d.incoming s.images) (plan_same s d) ∙ kept_same k s at d;
    }

pub accepted_are : (k : Rules) (s : State) (at : ℕ) (d : Received) (f : Founding) → founding_row s ≡ Some f
    → last_counter d.vehicle.entries < d.incoming.manifest.counter → manifest_of d.incoming.envelope.signed ≡ Some d.incoming.manifest
    → HasAcceptedRows d.incoming.manifest.vehicle d.vehicle (entry_of k s at d)
    (accepted_rows k f (rows_of d.incoming.manifest.vehicle d.vehicle) at d.incoming s.images (items_in s d))
accepted_are k s at d f founded later read =
    subst (λ (f : Founding). HasAcceptedRows d.incoming.manifest.vehicle d.vehicle (entry_of k s at d) (accepted_rows k f (rows_of d.incoming.manifest.vehicle d.vehicle) at d.incoming s.images (items_in s d))) (sym (founding_of s f (sym founded)).1)
    (by_row k s at d later read)
