-- The plans of a state that commands reach are each for ECUs of their vehicle.
use Rattle.std.proofs.Common.{◌≡◌, ℕ, ◌≤◌, List, [], ◌∷◌, ◌++◌, suc, Bool, true, false, cond, Option, Some, None, Ok, inl, inr, refl, sym, ap, ◌∙◌, subst, arith}
use Rattle.std.specs.Prelude.{◌&&◌, ◌||◌, length, map, filter_map, bytes_eq, is_none, option_map, if◌then◌else◌, not, codes}
use Rattle.std.specs.List.{AllByRecursion, list_all, list_any, cons_option}
use Rattle.std.specs.FinMap as table
use Rattle.std.specs.FinMap.{get-empty}
use Rattle.std.specs.Ordering.{nat_cmp}
use Rattle.std.specs.Cmp.Lexicographic.{slice_cmp, bytes_decides}
use Rattle.std.proofs.lemmas.List.Folds.{list_all-map}
use Rattle.std.proofs.lemmas.Bool.Decides.{nat_tests}
use Rattle.up_canon.specs.Names.{Name, first_repeated, is_from_to}
use Rattle.up_sign.specs.Schemes.{Rules}
use Rattle.up_manifest.specs.declared.report.SignedReport.{SignedReport}
use Rattle.up_plan.specs.declared.assigned.Assigned.{Assigned}
use Rattle.up_plan.specs.declared.assigned.Fitted.{Fitted}
use Rattle.up_plan.specs.declared.assigned.Plan.{Plan}
use Rattle.up_plan.specs.Images.{ImageData}
use Rattle.up_plan.specs.Planning.{plan_of}
use Rattle.up_roles.specs.declared.targets.Target.{Target}
use Rattle.up_roles.specs.Targets.{ecus_of}
use Rattle.up_machine.specs.declared.command.Command.{Command}
use Rattle.up_machine.specs.declared.command.Command.TheVariants.{Found, Rotate, AddImage, Refresh, AddVehicle, ReplaceEcu, OpenCampaign, CloseCampaign, Deliver, Fetch}
use Rattle.up_machine.specs.declared.vehicle.NewEcu.{NewEcu}
use Rattle.up_machine.specs.declared.vehicle.Replacement.{Replacement}
use Rattle.up_machine.specs.Vehicles.{has_ecu, is_among, ecu_names, new_vehicle_fault}
use Rattle.up_machine.specs.State.{Entry, Vehicle, State, nth, report_of, is_taken_in}
use Rattle.up_machine.specs.Files.{target_of}
use Rattle.up_machine.specs.Replies.{assigned_target, reply_metadata}
use Rattle.up_machine.specs.Deciding.{Outcome}
use Rattle.up_machine.specs.Deliveries.{Received, fitted, plan_in, entry_of}
use Rattle.up_machine.specs.Inventory.{with_replaced}
use Rattle.up_machine.specs.Machine.{decide, step}
use Rattle.up_machine.specs.Sound.{IsSoundVehicle, IsSound}
use Rattle.up_machine.specs.Laws.{IsLater, IsLaterVehicle, StepsStaySound}
use Rattle.up_machine.specs.ManifestRows.{target_for}
use Rattle.up_metadata.proofs.Lists.{and_left, and_right, each_weaker, all_weaker}
use Rattle.up_machine.proofs.Keeping.{nth_at}
use Rattle.up_machine.proofs.Lists.{each_one_more}
use Rattle.up_machine.proofs.Tables.{get_after-insert, get_same}
use Rattle.up_machine.proofs.Decided.{found_ok, rotate_ok, image_ok, refresh_ok, vehicle_ok, replace_ok, open_ok, close_ok, delivery_ok, fetch_ok}
use Rattle.up_machine.proofs.DirectorTargets.{targets_apart}
use Rattle.up_machine.proofs.DistinctNames.{Distinct, distinct, once_of, distinct_some}
use Rattle.up_machine.proofs.Growing.{by_decision, grow_outcome, or_left}
use Rattle.up_machine.proofs.Receiving.{received}
use Rattle.up_laws.specs.Plans.{fitted_ecus, IsPlanOf, IsPlanFor, HasOwnPlans, EmptyHasOwnPlans, StepsKeepOwnPlans, RunsKeepOwnPlans, AreTargetsFor, RepliesNameEcusOnce}
use Rattle.up_laws.proofs.Plans.{one_passes, each_among, plans_are_of}

pub empty_has : EmptyHasOwnPlans
empty_has name v h = let none = get-empty {X = Vehicle} (slice_cmp nat_cmp) name in cc

-- ---- a vehicle's limits

at_most_32 : (n : ℕ) (a b : Bool) → (if not (is_from_to 1 32 n) then Some (codes "ecus") else if a then Some (codes "primary") else None) ≡ None → n ≤ 32
at_most_32 n a b h = by_test (is_from_to 1 32 n) refl h
  where
    by_test : (t : Bool) → is_from_to 1 32 n ≡ t → cond (not t) (Some (codes "ecus")) (cond a (Some (codes "primary")) None) ≡ None → n ≤ 32
    by_test true is h = grind (arith, nat_tests)
    by_test false is h = cc

few_ecus : (k : Rules) (s : State) (name : Name) (v : Vehicle) → IsSoundVehicle k s name v → length v.ecus ≤ 32
few_ecus k s name v is = at_most_32 (length v.ecus) (not (has_ecu v.primary v.ecus)) true is.fits

-- ---- ECUs with what they report

fitted_same : (reports : List SignedReport) (e : NewEcu) (f : Fitted) → fitted reports e ≡ Some f → f.ecu ≡ e.ecu
fitted_same reports e f h = by_report (report_of e.ecu reports) h
  where
    by_report : (o : Option SignedReport) → option_map {U = Fitted} (λ r. record { ecu = e.ecu; hardware = e.hardware; image = r.report.image }) o ≡ Some f → f.ecu ≡ e.ecu
    by_report None h = cc
    by_report (Some r) h = let same : ◌≡◌ {A = Fitted} (record { ecu = e.ecu; hardware = e.hardware; image = r.report.image }) f = cc in sym (ap (λ (x : Fitted). x.ecu) same)

few_some : {X Y : Type 0} (g : X → Option Y) (xs : List X) → length (filter_map g xs) ≤ length xs
few_some g [] = omega arith
few_some {X} {Y} g (x ∷ xs) = by_value (g x) (few_some g xs)
  where
    by_value : (o : Option Y) → length (filter_map g xs) ≤ length xs → length (cons_option o (filter_map g xs)) ≤ suc (length xs)
    by_value None h = omega (arith, h)
    by_value (Some y) h = omega (arith, h)

-- what all names pass, those of some of the elements pass
all_some : {X Y : Type 0} (g : X → Option Y) (f : X → Name) (n : Y → Name) → ((x : X) (y : Y) → g x ≡ Some y → n y ≡ f x) → (p : Name → Bool) (xs : List X)
    → list_all (λ x. p (f x)) xs ≡ true → list_all (λ y. p (n y)) (filter_map g xs) ≡ true
all_some g f n same p [] h = refl
all_some {X} {Y} g f n same p (x ∷ xs) h = by_value (g x) refl (and_left _ _ h) (all_some g f n same p xs (and_right (p (f x)) _ h))
  where
    by_value : (o : Option Y) → g x ≡ o → p (f x) ≡ true → list_all (λ y. p (n y)) (filter_map g xs) ≡ true → list_all (λ y. p (n y)) (cons_option o (filter_map g xs)) ≡ true
    by_value None is here rest = rest
    by_value (Some y) is here rest = let passes : p (n y) ≡ true = ap p (same x y is) ∙ here in rw (passes, rest)

-- ---- the plan of a new entry

own_names : (ecus : List NewEcu) → list_all (λ e. has_ecu e.ecu ecus) ecus ≡ true
own_names ecus = each_among (λ (x e : NewEcu). bytes_eq x.ecu e.ecu) (λ e. (bytes_decides e.ecu e.ecu).1 refl) ecus

-- a test that the names of ECUs pass, those of a plan for them pass
fitted_pass : (fs : List Fitted) (plan : Plan) → IsPlanOf fs plan → (p : Name → Bool) → list_all (λ (f : Fitted). p f.ecu) fs ≡ true → list_all (λ (a : Assigned). p a.ecu) plan.assigned ≡ true
fitted_pass fs plan is p all = all_weaker (λ (a : Assigned). list_any (λ (e : Fitted). bytes_eq e.ecu a.ecu) fs) (λ (a : Assigned). p a.ecu) (λ a among. one_passes (λ (f : Fitted). f.ecu) p fs a.ecu all among) plan.assigned is.known

plan_for_ecus : (s : State) (r : Received) (v : Vehicle) → v.ecus ≡ r.vehicle.ecus → first_repeated (ecu_names r.vehicle.ecus) ≡ None → length r.vehicle.ecus ≤ 32 → IsPlanFor v (plan_in s r)
unfolding plan_in
plan_for_ecus s r v same once few =
    let reports = r.incoming.manifest.reports in
    let ecus = r.vehicle.ecus in
    let fs = filter_map (fitted reports) ecus in
    let apart : Distinct (fitted_ecus fs) = distinct_some (fitted reports) (λ (e : NewEcu). e.ecu) (λ (f : Fitted). f.ecu) (fitted_same reports) ecus (distinct (ecu_names ecus) once) in
    let is = plans_are_of (table.values s.images) (table.values s.campaigns) r.incoming.manifest.vehicle fs (once_of (fitted_ecus fs) apart) in
    let some = few_some (fitted reports) ecus in
    let less = is.few in
    let own : list_all (λ (f : Fitted). has_ecu f.ecu ecus) fs ≡ true = all_some (fitted reports) (λ (e : NewEcu). e.ecu) (λ (f : Fitted). f.ecu) (fitted_same reports) (λ n. has_ecu n ecus) ecus (own_names ecus) in
    record {
      once = is.once;
      few = omega (arith, some, less, few);
      known = all_weaker (λ (a : Assigned). has_ecu a.ecu ecus) (λ (a : Assigned). is_taken_in a.ecu v)
          (λ a has. or_left (has_ecu a.ecu v.ecus) (is_among a.ecu v.retired) (ap (has_ecu a.ecu) same ∙ has)) _ (fitted_pass fs _ is (λ n. has_ecu n ecus) own);
    }

-- ---- each outcome

abbrev Own : Vehicle → Type 0
Own v = AllByRecursion (λ e. IsPlanFor v e.plan) v.entries

-- it stays one where the names that were taken are taken still
stays_own : (v w : Vehicle) → ((ecu : Name) → is_taken_in ecu v ≡ true → is_taken_in ecu w ≡ true) → (entries : List Entry)
    → AllByRecursion (λ e. IsPlanFor v e.plan) entries → AllByRecursion (λ e. IsPlanFor w e.plan) entries
stays_own v w taken entries h = each_weaker (λ (e : Entry). IsPlanFor v e.plan) (λ (e : Entry). IsPlanFor w e.plan)
    (λ e is. record { once = is.once; few = is.few; known = all_weaker (λ (a : Assigned). is_taken_in a.ecu v) (λ (a : Assigned). is_taken_in a.ecu w) (λ a h. taken a.ecu h) e.plan.assigned is.known })
    entries h

-- with one vehicle changed
one_changed : (s : State) (name : Name) (w : Vehicle) → HasOwnPlans s → Own w → HasOwnPlans (record s { vehicles = table.insert s.vehicles name w })
one_changed s name w own new q v found = get_after-insert (λ n v. Own v) s.vehicles name q v w found new (own q v)

replaced_own : (s : State) (r : Replacement) (v : Vehicle) → table.get s.vehicles r.vehicle ≡ Some v → IsLater s (record s { vehicles = table.insert s.vehicles r.vehicle (with_replaced v r.old r.ecu) })
    → Own v → Own (with_replaced v r.old r.ecu)
replaced_own s r v there later own =
    let after = later.vehicles r.vehicle v there in
    let same : after.0 ≡ with_replaced v r.old r.ecu = let is = sym after.1 ∙ get_same s.vehicles r.vehicle (with_replaced v r.old r.ecu) in cc in
    let taken : (ecu : Name) → is_taken_in ecu v ≡ true → is_taken_in ecu (with_replaced v r.old r.ecu) ≡ true =
    λ ecu h. ap (is_taken_in ecu) (sym same) ∙ after.2.taken ecu h in
    stays_own v (with_replaced v r.old r.ecu) taken v.entries own

acted : (k : Rules) (s : State) (at : ℕ) (c : Command) (o : Outcome) → IsSound k s → HasOwnPlans s → decide k s at c ≡ Ok o → IsLater s o.next → HasOwnPlans o.next
acted k s at (Found keys) o sound own h later = subst (λ (o : Outcome). HasOwnPlans o.next) (found_ok k s at keys o h).is own
acted k s at (Rotate keys) o sound own h later = subst (λ (o : Outcome). HasOwnPlans o.next) (rotate_ok k s at keys o h).is own
acted k s at (AddImage image) o sound own h later = elim (image_ok k s at image o h) [
  | inl same ↦ subst (λ (o : Outcome). HasOwnPlans o.next) same own
  | inr is ↦ subst (λ (o : Outcome). HasOwnPlans o.next) is.is own
]
acted k s at (Refresh version) o sound own h later = subst (λ (o : Outcome). HasOwnPlans o.next) (refresh_ok k s at version o h).is own
acted k s at (AddVehicle new) o sound own h later = elim (vehicle_ok k s at new o h) [
  | inl same ↦ subst (λ (o : Outcome). HasOwnPlans o.next) same own
  | inr is ↦ subst (λ (o : Outcome). HasOwnPlans o.next) is.is (one_changed s new.vehicle _ own tt)
]
acted k s at (ReplaceEcu r) o sound own h later =
    let is = replace_ok k s at r o h in
    subst (λ (o : Outcome). IsLater s o.next → HasOwnPlans o.next) is.is
    (λ later. one_changed s r.vehicle _ own (replaced_own s r is.vehicle is.there later (own r.vehicle is.vehicle is.there))) later
acted k s at (OpenCampaign campaign) o sound own h later = elim (open_ok s at campaign o h) [
  | inl same ↦ subst (λ (o : Outcome). HasOwnPlans o.next) same own
  | inr is ↦ subst (λ (o : Outcome). HasOwnPlans o.next) is.is own
]
acted k s at (CloseCampaign name) o sound own h later = elim (close_ok s at name o h) [
  | inl same ↦ subst (λ (o : Outcome). HasOwnPlans o.next) same own
  | inr is ↦ subst (λ (o : Outcome). HasOwnPlans o.next) is.is own
]
acted k s at (Deliver body) o sound own h later =
    let is = delivery_ok k s at body o h in
    let r = is.received in
    let there = (received k s at body r is.receives).vehicle in
    let of = sound.vehicles r.incoming.manifest.vehicle r.vehicle there in
    let e = entry_of k s at r in
    let w : Vehicle = record { primary = r.vehicle.primary; ecus = r.vehicle.ecus; retired = r.vehicle.retired; entries = r.vehicle.entries ++ e ∷ [] } in
    let before : AllByRecursion (λ e. IsPlanFor w e.plan) r.vehicle.entries = stays_own r.vehicle w (λ ecu h. h) r.vehicle.entries (own r.incoming.manifest.vehicle r.vehicle there) in
    let new : IsPlanFor w e.plan = plan_for_ecus s r w refl of.once (few_ecus k s r.incoming.manifest.vehicle r.vehicle of) in
    subst (λ (o : Outcome). HasOwnPlans o.next) is.is (one_changed s r.incoming.manifest.vehicle w own (each_one_more (λ (e : Entry). IsPlanFor w e.plan) r.vehicle.entries e before new))
acted k s at (Fetch repository name) o sound own h later = subst (λ (o : Outcome). HasOwnPlans o.next) (fetch_ok s at repository name o h).2 own

pub steps_keep : StepsKeepOwnPlans
unfolding step
steps_keep k s at c sound own = by_decision s (decide k s at c) HasOwnPlans own (λ o h. acted k s at c o sound own h (grow_outcome k s at c o h))

pub runs_keep : StepsStaySound → RunsKeepOwnPlans
runs_keep stay k s [] fits sound own = own
runs_keep stay k s (t ∷ ts) fits sound own =
    runs_keep stay k (step k s t.at t.command).next ts fits.1 (stay k s t.at t.command fits.0 sound) (steps_keep k s t.at t.command sound own)

-- ---- the targets of a reply

target_ecu : (s : State) (p : Name → Bool) (assigned : List Assigned) → list_all (λ (a : Assigned). p a.ecu) assigned ≡ true → list_all p (ecus_of (filter_map (assigned_target s) assigned)) ≡ true
target_ecu s p [] h = refl
target_ecu s p (a ∷ assigned) h = by_image (table.get s.images a.file) (and_left _ _ h) (target_ecu s p assigned (and_right (p a.ecu) _ h))
  where
    by_image : (o : Option ImageData) → p a.ecu ≡ true → list_all p (ecus_of (filter_map (assigned_target s) assigned)) ≡ true
        → list_all p (ecus_of (cons_option (option_map (target_of (Some a.ecu)) o) (filter_map (assigned_target s) assigned))) ≡ true
    by_image None here rest = rest
    by_image (Some image) here rest = rw (here, rest)

pub replies_name_once : RepliesNameEcusOnce
replies_name_once s keys vehicle v number e own there is =
    let plan = nth_at (λ (e : Entry). IsPlanFor v e.plan) v.entries number e (own vehicle v there) is in
    let some = few_some (assigned_target s) e.plan.assigned in
    let few = plan.few in
    record {
      once = targets_apart s.images e.plan.assigned plan.once;
      few = omega (arith, some, few);
      known = target_ecu s (λ n. is_taken_in n v) e.plan.assigned plan.known;
    }
