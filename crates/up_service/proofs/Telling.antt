-- What a desk answered and showed, told as it was, is what is due.
use Rattle.std.proofs.Common.{◌≡◌, inl, inr, ℕ, List, [], ◌∷◌, Bool, Option, Some, None, Result, Ok, Err, refl, sym, subst, ap, ◌∙◌}
use Rattle.std.specs.Prelude.{⊤, IsTrue, MatchBool}
use Rattle.sqlite_trees.specs.declared.store.Store.{Ghosts}
use Rattle.up_canon.specs.Names.{Name}
use Rattle.up_canon.specs.declared.refusal.Refusal.{Refusal}
use Rattle.up_canon.specs.declared.refusal.Refusal.TheVariants.{Store, UnknownVehicle}
use Rattle.up_sign.specs.Schemes.{Rules}
use Rattle.up_plan.specs.declared.assigned.Plan.{Plan}
use Rattle.up_machine.specs.ApartLaws.{InstalledIsOfTheVehicle}
use Rattle.up_machine.specs.Reads.{assigned_to}
use Rattle.up_machine.specs.Rows.{vehicle_rows}
use Rattle.up_machine.specs.Sound.{IsSound}
use Rattle.up_machine.specs.State.{State}
use Rattle.up_machine.specs.declared.rows.VehicleRows.{VehicleRows}
use Rattle.up_tables.specs.declared.values.StoreFault.{StoreFault}
use Rattle.up_tables.specs.declared.values.StoreFault.TheVariants as fault
use Rattle.up_records.specs.Connected.{is_fault, refusal_told}
use Rattle.up_records.specs.Reads.{DiskFailed, Reads, ReadsState}
use Rattle.up_records.specs.Standing.{Standing, HasCleanDisk, IfClean, ShowsState, state}
use Rattle.up_desk.specs.Desks.{DeskView}
use Rattle.up_desk.proofs.Standings.{failed_behind, reads_then}
use Rattle.up_script.specs.PrintedLines.{refused_text}
use Rattle.up_script.specs.declared.asked.Asked.{Asked}
use Rattle.up_script.specs.declared.asked.What.{What}
use Rattle.up_script.specs.declared.asked.What.TheVariants.{Call, Show}
use Rattle.up_http.specs.declared.asked.Next.{Next}
use Rattle.up_http.specs.declared.asked.What.{What as Requested}
use Rattle.up_http.specs.declared.asked.What.TheVariants.{Call as Request, Fixed}
use Rattle.up_service.specs.Desks.{Calls, Finds}
use Rattle.up_service.specs.LineAnswers.{IsReadAs, rows_text, shown_in, shown_text, viewed, carried_out, AnswersLine, IsViewText, IsTextOf, Prints, Line}
use Rattle.up_service.specs.Responses.{IsResponseTo, Responses}
use Rattle.up_lines.specs.LineRuns.{Gives}
use Rattle.up_service.specs.Together.{AreParts, InParts, IsPart, Lines, LinesAsOne, Part, alone, as_one}
use Rattle.up_service.specs.Told.{ShowsPlan, ShowsRows, ShowsFound, Shows, TellsWhat, TellsAsked, TellsLine, TellsRequest, TellsNext}
use Rattle.up_service.proofs.Answering.{printed, responded, refused_line, asked_line, no_view, told_view, told_refusal}
use Rattle.up_service.proofs.Showing.{GivesShown, Sees, seen_by, seen_in_fault, sees_then, sees_weaker, told_fault, no_vehicle, rows_shown}

-- ---- views

-- `Store` is told only where the disk counted a fault
abbrev BlamesShown : Result (List ℕ) Refusal → Standing → Standing → Type 0
BlamesShown shown old new = shown ≡ Err Store → HasCleanDisk new → (k : Rules) (s : State) → IsSound k s → IfClean (ShowsState s) old → DiskFailed old new

-- what a view shows of the states that the tables show, and whatever they show
record Viewed {K D : Type 0} (g : Ghosts D) (P : State → Result (List ℕ) Refusal) (old : DeskView K D) (shown : Result (List ℕ) Refusal) (new : DeskView K D) : Type 0 where
  scheme : new.scheme ≡ old.scheme
  sees : Sees (λ s. GivesShown shown (P s)) (state g old.store) (state g new.store)
  text : IsViewText (shown_text shown)
  reads : (k : Rules) → Reads k (state g old.store) (state g new.store)
  blame : BlamesShown shown (state g old.store) (state g new.store)

fault_shown : (shown computed : Result (List ℕ) Refusal) (f : StoreFault) → shown ≡ Err (refusal_told f) → GivesShown shown computed
fault_shown shown computed f is = subst (λ q. GivesShown q computed) (sym is) (by_fault f)
  where
    by_fault : (f : StoreFault) → GivesShown (Err (refusal_told f)) computed
    by_fault fault.Memory = tt
    by_fault fault.Store = tt

fault_text : (shown : Result (List ℕ) Refusal) (f : StoreFault) → shown ≡ Err (refusal_told f) → IsViewText (shown_text shown)
fault_text shown f is = no_view (refusal_told f) (shown_text shown) (inr (told_fault f)) (ap shown_text is)

-- the store told it
fault_blamed : {A : Type 0} {of_state : State → A} (shown : Result (List ℕ) Refusal) (f : StoreFault) (old new : Standing) → shown ≡ Err (refusal_told f) → ((k : Rules) → ReadsState k of_state old new (Err f))
    → BlamesShown shown old new
fault_blamed shown fault.Memory old new is read store now k s sound was = cc
fault_blamed shown fault.Store old new is read store now k s sound was = (read k).blame now s sound was refl

-- the line of a plan is no fault, and want of memory is another one
plan_blamed : (rows : VehicleRows) (plan : Option Plan) (shown : Result (List ℕ) Refusal) (old new : Standing) → ShowsPlan rows (Ok plan) shown → BlamesShown shown old new
plan_blamed rows plan (Ok line) old new is store now k s sound was = cc
plan_blamed rows plan (Err r) old new is store now k s sound was = cc

plan_shown : (rows : VehicleRows) (plan due : Option Plan) (shown : Result (List ℕ) Refusal) → plan ≡ due → ShowsPlan rows (Ok plan) shown → GivesShown shown (Ok (rows_text due rows))
plan_shown rows plan due (Ok line) same is = ap Ok (sym (is ∙ ap (λ p. rows_text p rows) same))
plan_shown rows plan due (Err r) same is = subst (λ q. MatchBool (is_fault q) ⊤ (Ok (rows_text due rows) ≡ Err q)) (sym is) tt

plan_text : (rows : VehicleRows) (plan : Option Plan) (shown : Result (List ℕ) Refusal) → ShowsPlan rows (Ok plan) shown → IsViewText (shown_text shown)
plan_text rows plan (Ok line) is = inl (plan, rows, is)
plan_text rows plan (Err r) is = no_view r (refused_text r) (inr (subst (λ q. IsTrue (is_fault q)) (sym is) refl)) refl

-- what is assigned
viewed_rows : {K D : Type 0} (rules : Rules) (g : Ghosts D) (rows : VehicleRows) (old : DeskView K D) (shown : Result (List ℕ) Refusal) (new : DeskView K D) → ShowsRows (Finds g assigned_to) rows old shown new
    → Viewed g (λ s. Ok (rows_text (assigned_to s rows.vehicle.vehicle) rows)) old shown new
viewed_rows {K} {D} rules g rows old shown new it = by_found it.0 it.1 it.2
  where
    by_found : (found : Result (Option Plan) StoreFault) → Finds g assigned_to old rows.vehicle.vehicle found new → ShowsPlan rows found shown
        → Viewed g (λ s. Ok (rows_text (assigned_to s rows.vehicle.vehicle) rows)) old shown new
    by_found (Ok plan) read is = record {
      scheme = read.0;
      sees = sees_weaker (λ s. plan ≡ assigned_to s rows.vehicle.vehicle) _ (state g old.store) (state g new.store)
          (seen_by rules read.1)
          (λ s same. plan_shown rows plan (assigned_to s rows.vehicle.vehicle) shown same is);
      text = plan_text rows plan shown is;
      reads = λ k. (read.1 k).reads;
      blame = plan_blamed rows plan shown (state g old.store) (state g new.store) is;
    }
    by_found (Err f) read is = record {
      scheme = read.0;
      sees = seen_in_fault rules _ read.1 (λ s. fault_shown shown _ f is);
      text = fault_text shown f is;
      reads = λ k. (read.1 k).reads;
      blame = fault_blamed shown f (state g old.store) (state g new.store) is read.1;
    }

-- a vehicle
viewed_vehicle : {K D : Type 0} (rules : Rules) (g : Ghosts D) → InstalledIsOfTheVehicle → (vehicle : Name) (old : DeskView K D) (shown : Result (List ℕ) Refusal) (new : DeskView K D)
    → Shows (Finds g vehicle_rows) (Finds g assigned_to) old vehicle shown new → Viewed g (λ s. shown_in s vehicle) old shown new
viewed_vehicle {K} {D} rules g law vehicle old shown new it = by_found it.0 it.1 it.2 it.3
  where
    by_found : (mid : DeskView K D) (found : Result (Option VehicleRows) StoreFault) → Finds g vehicle_rows old vehicle found mid → ShowsFound (Finds g assigned_to) found mid shown new
        → Viewed g (λ s. shown_in s vehicle) old shown new
    by_found mid (Ok (Some rows)) read rest =
        let next = viewed_rows rules g rows mid shown new rest in
        record {
          scheme = next.scheme ∙ read.0;
          sees = sees_then (λ s. Some rows ≡ vehicle_rows s vehicle) (λ s. GivesShown shown (Ok (rows_text (assigned_to s rows.vehicle.vehicle) rows))) (λ s. GivesShown shown (shown_in s vehicle))
              (state g old.store) (state g mid.store) (state g new.store)
              (seen_by rules read.1) next.sees
              (λ k s sound is h. subst (GivesShown shown) (rows_shown k s vehicle rows law sound is) h);
          text = next.text;
          reads = λ k. reads_then (read.1 k).reads (next.reads k);
          blame = λ store now k s sound was. failed_behind (read.1 k).reads (next.reads k) now (next.blame store now k s sound ((read.1 k).reads.keeps s was));
        }
    by_found mid (Ok None) read rest =
        subst (λ (d : DeskView K D). Viewed g (λ s. shown_in s vehicle) old shown d) (sym rest.1)
        (subst (λ q. Viewed g (λ s. shown_in s vehicle) old q mid) (sym rest.0)
        (record {
          scheme = read.0;
          sees = sees_weaker (λ s. None ≡ vehicle_rows s vehicle) _ (state g old.store) (state g mid.store)
              (seen_by rules read.1) (λ s is. no_vehicle vehicle s is);
          text = no_view UnknownVehicle (refused_text UnknownVehicle) (inl refl) refl;
          reads = λ k. (read.1 k).reads;
          blame = λ store now k s sound was. cc;
        }))
    by_found mid (Err f) read rest =
        subst (λ (d : DeskView K D). Viewed g (λ s. shown_in s vehicle) old shown d) (sym rest.1)
        (record {
          scheme = read.0;
          sees = seen_in_fault rules _ read.1 (λ s. fault_shown shown _ f rest.0);
          text = fault_text shown f rest.0;
          reads = λ k. (read.1 k).reads;
          blame = fault_blamed shown f (state g old.store) (state g mid.store) rest.0 read.1;
        })

-- as it is told
view_told : (k : Rules) (vehicle : Name) (shown : Result (List ℕ) Refusal) (old new : Standing) → Sees (λ s. GivesShown shown (shown_in s vehicle)) old new
    → BlamesShown shown old new → AnswersLine (λ s. viewed s vehicle) k (shown_text shown) old new
view_told k vehicle (Ok line) old new sees blame = told_view k vehicle line old new sees
view_told k vehicle (Err r) old new sees blame = told_refusal k vehicle r (refused_text r) old new sees refl (λ store now s sound was. blame (ap Err store) now k s sound was)

-- ---- lines

what_told : {K D : Type 0} (rules : K → Rules) (g : Ghosts D) → InstalledIsOfTheVehicle → (old : DeskView K D) (at : ℕ) (w : What) (text : List ℕ) (new : DeskView K D)
    → TellsWhat (Calls rules g) (Finds g vehicle_rows) (Finds g assigned_to) old at w text new
    → Prints rules g (λ k. IsTextOf k at w) (λ k s. carried_out k s at w) old text new
what_told rules g law old at (Call c) text new it =
    let call = it.1 in (call.0, (it.0, it.2, call.1.outright), printed (rules old.scheme) at c it.0 text (state g old.store) (state g new.store) call.1 it.2)
what_told rules g law old at (Show vehicle) text new it =
    let view = viewed_vehicle (rules old.scheme) g law vehicle old it.0 new it.1 in
    subst (λ t. Prints rules g (λ k. IsTextOf k at (Show vehicle)) (λ k s. carried_out k s at (Show vehicle)) old t new) (sym it.2)
    (view.scheme, view.text, view_told (rules old.scheme) vehicle it.0 (state g old.store) (state g new.store) view.sees view.blame)

pub line_told : {K D : Type 0} (rules : K → Rules) (g : Ghosts D) → InstalledIsOfTheVehicle → (old new : DeskView K D) (line text : List ℕ)
    → TellsLine (λ (d : DeskView K D). IsReadAs (rules d.scheme)) (Calls rules g) (Finds g vehicle_rows) (Finds g assigned_to) old line text new → Line rules g old line text new
line_told {K} {D} rules g law old new line text it = by_read it.0 it.1 it.2
  where
    by_read : (read : Result Asked Refusal) → IsReadAs (rules old.scheme) line read → TellsAsked (Calls rules g) (Finds g vehicle_rows) (Finds g assigned_to) old read text new → Line rules g old line text new
    by_read (Ok asked) is h = asked_line rules g line asked text old new is (what_told rules g law old asked.at asked.what text new h)
    by_read (Err r) is h = subst (λ (d : DeskView K D). Line rules g old line text d) (sym h.1) (refused_line rules g line r text old is h.0)

-- parts, of which each line that is answered by itself is told so
parts_told : {S : Type 0} (P Q : S → List ℕ → List ℕ → S → Type 0) (AsOne : Gives S) → ((old new : S) (line text : List ℕ) → P old line text new → Q old line text new) → (ps : List Part) (old new : S)
    → AreParts P AsOne old ps new → AreParts Q AsOne old ps new
parts_told {S} P Q AsOne weaker [] old new parts = parts
parts_told {S} P Q AsOne weaker (p ∷ ps) old new parts = (parts.0, by_part parts.1, parts_told P Q AsOne weaker ps parts.0 new parts.2)
  where
    by_part : {mid : S} → IsPart P AsOne old p mid → IsPart Q AsOne old p mid
    by_part {mid} (alone line text is gave) = alone line text is (weaker old mid line text gave)
    by_part (as_one count gave) = as_one count gave

pub lines_told : {K D : Type 0} (rules : K → Rules) (g : Ghosts D) → InstalledIsOfTheVehicle → (lines texts : List (List ℕ)) (old new : DeskView K D)
    → InParts (TellsLine (λ (d : DeskView K D). IsReadAs (rules d.scheme)) (Calls rules g) (Finds g vehicle_rows) (Finds g assigned_to)) (LinesAsOne rules g) old lines texts new → Lines rules g old lines texts new
lines_told rules g law lines texts old new h = record {
  parts = h.parts;
  lines_are = h.lines_are;
  texts_are = h.texts_are;
  told = parts_told _ _ (LinesAsOne rules g) (λ old new line text. line_told rules g law old new line text) h.parts old new h.told;
}

-- ---- requests

request_told : {K D : Type 0} (rules : K → Rules) (g : Ghosts D) (at : ℕ) (old new : DeskView K D) (w : Requested) (last head : Bool) (text : List ℕ)
    → TellsRequest (Calls rules g) at old w last head text new → IsResponseTo rules g at old w last head text new
request_told rules g at old new (Request c) last head text it =
    let call = it.1 in
    (call.0, (it.0, it.2, call.1.outright), responded (rules old.scheme) at c last head it.0 text (state g old.store) (state g new.store) call.1 it.2)
request_told rules g at old new (Fixed check) last head text it = it

pub next_told : {K D : Type 0} (rules : K → Rules) (g : Ghosts D) (at : ℕ) (old new : DeskView K D) (next : Next) (text : List ℕ)
    → TellsNext (Calls rules g) at old next text new → Responses rules g at old next text new
next_told rules g at old new next text it = request_told rules g at old new next.what next.last next.head text it
