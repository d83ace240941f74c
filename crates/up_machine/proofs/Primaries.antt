-- A vehicle's Primary in its rows, what is received by it alone, and that deliveries leave it as it is.
use Rattle.std.proofs.Common.{◌≡◌, ℕ, List, [], ◌∷◌, ◌++◌, Bool, true, false, cond, Option, None, Some, Result, Ok, Err, refl, sym, ap, ◌∙◌}
use Rattle.std.specs.Prelude.{⊤, bytes_eq, option_and_then, option_map, unwrap_or}
use Rattle.std.specs.FinMap as table
use Rattle.std.specs.Ordering.{nat_cmp, eq_by_cmp}
use Rattle.std.specs.Cmp.Lexicographic.{slice_cmp}
use Rattle.up_canon.specs.Names.{Name}
use Rattle.up_canon.specs.Steps.{and_then, ◌>>=◌, unless}
use Rattle.up_canon.specs.declared.refusal.Refusal.{Refusal}
use Rattle.up_canon.specs.declared.refusal.Refusal.TheVariants.{WrongPrimary, BadManifestSignature}
use Rattle.up_sign.specs.Schemes.{Rules}
use Rattle.up_sign.specs.Envelopes.{is_accepted}
use Rattle.up_manifest.specs.declared.manifest.Incoming.{Incoming}
use Rattle.up_machine.specs.declared.command.Command.TheVariants.{Deliver}
use Rattle.up_machine.specs.declared.primary.Primary.{Primary}
use Rattle.up_machine.specs.declared.rows.EcuRow.{EcuRow}
use Rattle.up_machine.specs.declared.rows.Founding.{Founding}
use Rattle.up_machine.specs.declared.rows.VehicleRows.{VehicleRows}
use Rattle.up_machine.specs.declared.vehicle.NewEcu.{NewEcu}
use Rattle.up_machine.specs.Vehicles.{ecu_in}
use Rattle.up_machine.specs.State.{Entry, State, Vehicle}
use Rattle.up_machine.specs.Deliveries.{Received, accepted, check_new, decide_delivery, decide_received, entry_of, receive, receive_manifest, with_entry}
use Rattle.up_machine.specs.Machine.{outcome_of, step}
use Rattle.up_machine.specs.ManifestRows.{check_primary, row_of}
use Rattle.up_machine.specs.Primaries.{DeliveriesKeepPrimaries, GivesSent, check_sent, primary_in, primary_of}
use Rattle.up_machine.specs.Repeats.{KeptEntry, repeat_of, serve, served_as}
use Rattle.up_machine.specs.Rows.{ecu_row, founding_row, rows_of, vehicle_rows}
use Rattle.up_canon.proofs.Steps.{and_then_some, bind-ok, bind-err, map_some}
use Rattle.up_machine.proofs.CheckedRows.{primary_same, received_same, row_found}
use Rattle.up_machine.proofs.Receiving.{received}
use Rattle.up_machine.proofs.Senders.{is_founded}
use Rattle.up_machine.proofs.Tables.{get_new, one_name}

abbrev pub primary_with : Name → List ℕ → Primary
primary_with ecu public = record { ecu = ecu; public = public }

-- ---- in the rows of a vehicle

abbrev pub primary_row : VehicleRows → Option Primary
primary_row rows = option_map (λ (row : EcuRow). primary_with rows.vehicle.primary row.public) (row_of rows.ecus rows.vehicle.primary)

row_same : (name : Name) (v : Vehicle) → primary_row (rows_of name v) ≡ primary_in v
row_same name v = ap (option_map (λ (row : EcuRow). primary_with v.primary row.public)) (row_found v v.ecus v.primary) ∙ by_ecu (ecu_in v.ecus v.primary)
  where
    by_ecu : (o : Option NewEcu) → option_map (λ (row : EcuRow). primary_with v.primary row.public) (option_map (ecu_row v) o) ≡ option_map (λ (e : NewEcu). primary_with v.primary e.public) o
    by_ecu None = refl
    by_ecu (Some e) = refl

-- that in the rows of a state is the state's
row_of_state : (s : State) (name : Name) (rows : VehicleRows) → vehicle_rows s name ≡ Some rows → primary_row rows ≡ primary_of s name
row_of_state s name rows is =
    let found = map_some (rows_of name) (table.get s.vehicles name) rows is in
    let v : Vehicle = found.0 in
    ap primary_row (sym found.2) ∙ row_same name v ∙ ap (option_and_then primary_in) (sym found.1)

pub none_in_rows : (s : State) (name : Name) (rows : VehicleRows) → vehicle_rows s name ≡ Some rows → row_of rows.ecus rows.vehicle.primary ≡ None → None ≡ primary_of s name
none_in_rows s name rows is none =
    ap (option_map (λ (row : EcuRow). primary_with rows.vehicle.primary row.public)) (sym none) ∙ row_of_state s name rows is

pub found_in_rows : (s : State) (name : Name) (rows : VehicleRows) (row : EcuRow) → vehicle_rows s name ≡ Some rows → row_of rows.ecus rows.vehicle.primary ≡ Some row
    → Some (primary_with rows.vehicle.primary row.public) ≡ primary_of s name
found_in_rows s name rows row is found =
    ap (option_map (λ (row : EcuRow). primary_with rows.vehicle.primary row.public)) (sym found) ∙ row_of_state s name rows is

-- ---- what is received by it alone

-- the vehicle of the Primary is there, and the rest is the test of the Primary
record IsTestedBy (k : Rules) (s : State) (incoming : Incoming) (primary : Primary) : Type 0 where
  v : Vehicle
  receives : receive_manifest k s incoming ≡ (check_sent k primary incoming >>= (λ _. Ok (record { vehicle = v; incoming = incoming })))

-- the test of the vehicle's rows is that of its Primary
test_same : (k : Rules) (v : Vehicle) (incoming : Incoming) (e : NewEcu) (primary : Primary) → ecu_in v.ecus v.primary ≡ Some e → primary_with v.primary e.public ≡ primary
    → check_primary k (rows_of incoming.manifest.vehicle v) incoming ≡ check_sent k primary incoming
unfolding check_sent
test_same k v incoming e primary there is =
    primary_same k v incoming
    ∙ ap (λ (o : Option NewEcu). unless (bytes_eq incoming.manifest.primary v.primary) WrongPrimary
    >>= (λ _. unless (unwrap_or (option_map (λ (e : NewEcu). is_accepted k (e.public ∷ []) 1 incoming.envelope) o) false) BadManifestSignature)) there
    ∙ ap (λ (p : Primary). check_sent k p incoming) is

tested_by : (k : Rules) (s : State) (incoming : Incoming) (f : Founding) (primary : Primary) → founding_row s ≡ Some f → primary_of s incoming.manifest.vehicle ≡ Some primary
    → IsTestedBy k s incoming primary
tested_by k s incoming f primary founded is =
    let found = and_then_some primary_in (table.get s.vehicles incoming.manifest.vehicle) primary is in
    let v : Vehicle = found.0 in
    let ecu = map_some (λ (e : NewEcu). primary_with v.primary e.public) (ecu_in v.ecus v.primary) primary found.2 in
    record {
      v = v;
      receives = received_same k s incoming v tt (is_founded s f founded) found.1
          ∙ ap (λ r. r >>= (λ _. Ok (record { vehicle = v; incoming = incoming }))) (test_same k v incoming ecu.0 primary ecu.1 ecu.2);
    }

pub gives_sent : (k : Rules) (s : State) (incoming : Incoming) (f : Founding) (primary : Primary) (result : Result ⊤ Refusal) → founding_row s ≡ Some f
    → primary_of s incoming.manifest.vehicle ≡ Some primary → result ≡ check_sent k primary incoming → GivesSent k s incoming result
gives_sent k s incoming f primary (Ok passed) founded is checked =
    let test = tested_by k s incoming f primary founded is in
    (record { vehicle = test.v; incoming = incoming }, test.receives ∙ bind-ok _ _ passed (sym checked))
gives_sent k s incoming f primary (Err r) founded is checked = (tested_by k s incoming f primary founded is).receives ∙ bind-err _ _ r (sym checked)

-- ---- deliveries

-- one entry more leaves the Primary of every vehicle as it is
one_more : (s : State) (name : Name) (v : Vehicle) (e : Entry) (other : Name) → table.get s.vehicles name ≡ Some v → primary_of (with_entry s name v e) other ≡ primary_of s other
one_more s name v e other there =
    ap (option_and_then primary_in) (get_new s.vehicles name other (record v { entries = v.entries ++ e ∷ [] })) ∙ by_name (eq_by_cmp (slice_cmp nat_cmp) other name) refl
  where
    by_name : (b : Bool) → eq_by_cmp (slice_cmp nat_cmp) other name ≡ b
        → option_and_then primary_in (cond b (Some (record v { entries = v.entries ++ e ∷ [] })) (table.get s.vehicles other)) ≡ primary_of s other
    by_name true same = ap (option_and_then primary_in) (sym there ∙ ap (table.get s.vehicles) (sym (one_name other name same)))
    by_name false same = refl

checked_stay : (k : Rules) (s : State) (at : ℕ) (r : Received) (name : Name) → table.get s.vehicles r.incoming.manifest.vehicle ≡ Some r.vehicle → (m : Result ⊤ Refusal)
    → primary_of (outcome_of s (m >>= (λ _. Ok (accepted k s at r)))).next name ≡ primary_of s name
unfolding and_then
checked_stay k s at r name there (Ok passed) = one_more s r.incoming.manifest.vehicle r.vehicle (entry_of k s at r) name there
checked_stay k s at r name there (Err e) = refl

received_stay : (k : Rules) (s : State) (at : ℕ) (body : List ℕ) (name : Name) (m : Result Received Refusal) → receive k s at body ≡ m
    → primary_of (outcome_of s (m >>= (λ r. decide_received k s at r))).next name ≡ primary_of s name
unfolding and_then decide_received
received_stay k s at body name (Ok r) is = checked_stay k s at r name (received k s at body r is).vehicle (check_new k r)
received_stay k s at body name (Err e) is = refl

step_stays : (k : Rules) (s : State) (at : ℕ) (body : List ℕ) (name : Name) → primary_of (step k s at (Deliver body)).next name ≡ primary_of s name
unfolding step decide_delivery
step_stays k s at body name = received_stay k s at body name (receive k s at body) refl

pub deliveries_keep : DeliveriesKeepPrimaries
unfolding serve
deliveries_keep k s at body name = by_kind (repeat_of k s at (Deliver body))
  where
    by_kind : (o : Option KeptEntry) → primary_of (served_as k s at (Deliver body) o).next name ≡ primary_of s name
    by_kind None = step_stays k s at body name
    by_kind (Some r) = refl
