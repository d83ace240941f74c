-- A view, step by step.
use Rattle.std.proofs.Common.{◌≡◌, ℕ, List, ◌++◌, Bool, true, false, Option, Some, None, Result, Ok, Err, refl, sym, ap, ap₂, ◌∙◌, take, map, length, get_or, ◌<◌, ◌+◌, [], ◌∷◌}
use Rattle.std.specs.Prelude.{◌||◌, ⊤, IsTrue, IfOk, bytes_eq, flat_map, option_map, MatchBool}
use Rattle.std.specs.List.{AllByRecursion}
use Rattle.std.specs.FinMap as table
use Rattle.std.proofs.lemmas.List.{flat_map_more, take_more}
use Rattle.std.proofs.lemmas.Result.{IfOk-weaker}
use Rattle.sqlite.proofs.StateLemmas.{survives_then}
use Rattle.up_canon.specs.Names.{Name}
use Rattle.up_canon.specs.Steps.{and_then, ◌>>=◌, or_error}
use Rattle.up_canon.specs.declared.refusal.Refusal.{Refusal}
use Rattle.up_canon.specs.declared.refusal.Refusal.TheVariants.{UnknownVehicle}
use Rattle.up_sign.specs.Schemes.{Rules}
use Rattle.up_sign.proofs.Accepted.{bytes_eq-refl}
use Rattle.up_plan.specs.declared.assigned.Plan.{Plan}
use Rattle.up_machine.specs.declared.rows.EcuRow.{EcuRow}
use Rattle.up_machine.specs.declared.rows.VehicleRows.{VehicleRows}
use Rattle.up_machine.specs.declared.vehicle.NewEcu.{NewEcu}
use Rattle.up_machine.specs.ApartLaws.{InstalledIsOfTheVehicle}
use Rattle.up_machine.specs.Reads.{assigned_to}
use Rattle.up_machine.specs.Rows.{ecu_row, rows_of, vehicle_rows}
use Rattle.up_machine.specs.Sound.{IsSound}
use Rattle.up_machine.specs.State.{State, Vehicle, version}
use Rattle.up_machine.specs.Vehicles.{has_ecu, ecu_names}
use Rattle.up_tables.specs.declared.values.StoreFault.{StoreFault}
use Rattle.up_tables.specs.declared.values.StoreFault.TheVariants as fault
use Rattle.up_records.specs.Connected.{is_fault, refusal_told}
use Rattle.up_records.specs.Reads.{SeesSame}
use Rattle.up_records.specs.Standing.{Standing, HasCleanDisk, IfClean, ShowsState, Survives}
use Rattle.up_records.specs.Reads.{ReadsState}
use Rattle.up_desk.proofs.Standings.{clean_before}
use Rattle.up_script.specs.PrintedLines.{ecu_text, vehicle_text}
use Rattle.up_service.specs.LineAnswers.{ecus_text, row_text, rows_text, line_of, shown_in, shown_with}

-- ---- what is shown

-- the line, or the refusal that is due, unless memory or the database refused
abbrev pub GivesShown : Result (List ℕ) Refusal → Result (List ℕ) Refusal → Type 0
GivesShown (Ok text) computed = computed ≡ Ok text
GivesShown (Err r) computed = MatchBool (is_fault r) ⊤ (computed ≡ Err r)

-- a step of a view, over a disk that has returned what was written so far: this holds of each sound state that the tables show, they go
-- on showing it, and an open connection sees what it saw; a crash leaves what it could leave before
pub record Sees (holds : State → Type 0) (old new : Standing) : Type 0 where
  pub clean : HasCleanDisk new → HasCleanDisk old
  pub seen : HasCleanDisk new → (k : Rules) (s : State) → IsSound k s → IfClean (ShowsState s) old → holds s × ShowsState s new × SeesSame old new
  pub crash : Survives old new (λ trees. ⊥)

-- ---- steps

-- what the desk tells by reading
pub seen_by : {A : Type 0} {f : State → A} {result : Result A StoreFault} {old new : Standing} (rules : Rules) → ((k : Rules) → ReadsState k f old new result) → Sees (λ s. IfOk result (λ found. found ≡ f s)) old new
seen_by {A} {f} {result} {old} {new} rules read = record {
  clean = λ now. clean_before (read rules).reads now;
  seen = λ now k s sound was. (IfOk-weaker result _ _ (λ found is. is s was) ((read k).told now), (read k).reads.keeps s was now, (read k).reads.same s was now);
  crash = (read rules).reads.survives;
}

-- the database refused
pub seen_in_fault : {A : Type 0} {f : State → A} {result : Result A StoreFault} {old new : Standing} (rules : Rules) (P : State → Type 0) → ((k : Rules) → ReadsState k f old new result) → ((s : State) → P s) → Sees P old new
seen_in_fault {A} {f} {result} {old} {new} rules P read holds = record {
  clean = λ now. clean_before (read rules).reads now;
  seen = λ now k s sound was. (holds s, (read k).reads.keeps s was now, (read k).reads.same s was now);
  crash = (read rules).reads.survives;
}

-- one step after another
pub sees_then : (P Q R : State → Type 0) (old mid new : Standing) → Sees P old mid → Sees Q mid new → ((k : Rules) (s : State) → IsSound k s → P s → Q s → R s) → Sees R old new
sees_then P Q R old mid new first next joined = record {
  clean = λ now. first.clean (next.clean now);
  seen = λ now k s sound was.
      let a = first.seen (next.clean now) k s sound was in
      let b = next.seen now k s sound (λ _. a.1) in
      (joined k s sound a.0 b.0, b.1, λ still. let here = b.2 still in let before = a.2 here.0 in (before.0, here.1 ∙ before.1));
  crash = survives_then old.connection mid.connection new.connection (λ _. ⊥) (λ _. ⊥) (λ _. ⊥) (λ _ db none. none) (λ _ db none. none) first.crash next.crash;
}

pub sees_weaker : (P Q : State → Type 0) (old new : Standing) → Sees P old new → ((s : State) → P s → Q s) → Sees Q old new
sees_weaker P Q old new first weaker = record {
  clean = first.clean;
  seen = λ now k s sound was. let a = first.seen now k s sound was in (weaker s a.0, a.1, a.2);
  crash = first.crash;
}

-- ---- a vehicle

-- a fault of the store is one, as a refusal
pub told_fault : (f : StoreFault) → IsTrue (is_fault (refusal_told f))
told_fault fault.Memory = refl
told_fault fault.Store = refl

-- of an unknown vehicle
pub no_vehicle : (vehicle : Name) (s : State) → None ≡ vehicle_rows s vehicle → shown_in s vehicle ≡ Err UnknownVehicle
unfolding shown_in and_then
no_vehicle vehicle s none = by_vehicle (table.get s.vehicles vehicle) refl none
  where
    by_vehicle : (o : Option Vehicle) → table.get s.vehicles vehicle ≡ o → None ≡ option_map (rows_of vehicle) o → shown_in s vehicle ≡ Err UnknownVehicle
    by_vehicle None there h = ap (λ (o : Option Vehicle). or_error UnknownVehicle (option_map (λ (v : Vehicle). version v.entries) o) >>= shown_with s vehicle) there
    by_vehicle (Some v) there h = absurd (let e = h in cc)

-- the line of a vehicle that is there
line_there : (s : State) (name : Name) (v : Vehicle) → table.get s.vehicles name ≡ Some v → shown_in s name ≡ Ok (line_of s name (version v.entries) (ecu_names v.ecus))
unfolding shown_in and_then
line_there s name v there =
    ap (λ (o : Option Vehicle). or_error UnknownVehicle (option_map (λ (v : Vehicle). version v.entries) o)
    >>= (λ number. or_error UnknownVehicle (option_map (λ (v : Vehicle). ecu_names v.ecus) o) >>= (λ ecus. Ok (line_of s name number ecus)))) there

-- ---- its rows

or_true : (b c : Bool) → c ≡ true → (b || c) ≡ true
or_true true c h = refl
or_true false c h = h

behind : (x : NewEcu) (all es : List NewEcu) → AllByRecursion (λ (e : NewEcu). has_ecu e.ecu all ≡ true) es → AllByRecursion (λ (e : NewEcu). has_ecu e.ecu (x ∷ all) ≡ true) es
behind x all [] has = tt
behind x all (e ∷ es) has = (or_true (bytes_eq x.ecu e.ecu) (has_ecu e.ecu all) has.0, behind x all es has.1)

each_stands : (ecus : List NewEcu) → AllByRecursion (λ (e : NewEcu). has_ecu e.ecu ecus ≡ true) ecus
each_stands [] = tt
each_stands (e ∷ ecus) = (ap (λ b. b || has_ecu e.ecu ecus) (bytes_eq-refl e.ecu), behind e ecus ecus (each_stands ecus))

-- each row has the image that its ECU reported last
ecus_shown : (k : Rules) (s : State) (name : Name) (v : Vehicle) (plan : Option Plan) (es : List NewEcu) → InstalledIsOfTheVehicle → IsSound k s → table.get s.vehicles name ≡ Some v
    → AllByRecursion (λ (e : NewEcu). has_ecu e.ecu v.ecus ≡ true) es → flat_map (row_text plan) (map (ecu_row v) es) ≡ ecus_text s plan (ecu_names es)
ecus_shown k s name v plan [] law sound there has = refl
ecus_shown k s name v plan (e ∷ es) law sound there has =
    ap₂ (λ (a b : List ℕ). a ++ b) (ap (ecu_text plan e.ecu) (sym (law k s name e.ecu v sound there has.0))) (ecus_shown k s name v plan es law sound there has.1)

pub rows_shown : (k : Rules) (s : State) (name : Name) (rows : VehicleRows) → InstalledIsOfTheVehicle → IsSound k s → Some rows ≡ vehicle_rows s name
    → Ok (rows_text (assigned_to s rows.vehicle.vehicle) rows) ≡ shown_in s name
rows_shown k s name rows law sound is = by_vehicle (table.get s.vehicles name) refl is
  where
    by_vehicle : (o : Option Vehicle) → table.get s.vehicles name ≡ o → Some rows ≡ option_map (rows_of name) o → Ok (rows_text (assigned_to s rows.vehicle.vehicle) rows) ≡ shown_in s name
    by_vehicle None there h = absurd (let e = h in cc)
    by_vehicle (Some v) there h =
        let same : rows ≡ rows_of name v = cc in
        ap (λ (r : VehicleRows). Ok (rows_text (assigned_to s r.vehicle.vehicle) r)) same
        ∙ ap (λ (t : List ℕ). Ok (vehicle_text name (version v.entries) ++ t)) (ecus_shown k s name v (assigned_to s name) v.ecus law sound there (each_stands v.ecus))
        ∙ sym (line_there s name v there)

-- one more row's text behind those so far
pub row_more : (plan : Option Plan) (rows : List EcuRow) (i : ℕ) (row : EcuRow) (start held more : List ℕ) → i < length rows → row ≡ get_or rows i row
    → held ≡ start ++ flat_map (row_text plan) (take i rows) → more ≡ held ++ row_text plan row → more ≡ start ++ flat_map (row_text plan) (take (i + 1) rows)
row_more plan rows i row start held more within is so_far pushed =
    pushed ∙ ap (λ t. t ++ row_text plan row) so_far ∙ flat_map_more (row_text plan) start (take i rows) row ∙ ap (λ l. start ++ flat_map (row_text plan) l) (sym taken)
  where
    taken : take (i + 1) rows ≡ take i rows ++ row ∷ []
    taken = take_more rows i row within ∙ ap (λ y. take i rows ++ y ∷ []) (sym is)
