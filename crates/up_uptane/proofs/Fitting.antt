-- What a new reply offers fits the ECUs, and is newer than what they report.
use Rattle.std.proofs.Common.{◌≡◌, ℕ, ◌+◌, List, [], ◌∷◌, ◌++◌, true, Option, Some, None, Result, Ok, Err, length, refl, sym, ap, ◌∙◌, subst, arith, length-append}
use Rattle.std.specs.Prelude.{filter_map, find, option_map, unwrap_or, bytes_eq}
use Rattle.std.specs.List.{All, AllByRecursion, Contains, cons_option}
use Rattle.std.specs.FinMap as table
use Rattle.std.specs.Cmp.Lexicographic.{bytes_decides}
use Rattle.std.proofs.lemmas.List.Elements.{All-contains, All-contains_itself, All-from_recursion, recursion_from_All}
use Rattle.up_canon.specs.Names.{Name}
use Rattle.up_canon.specs.declared.refusal.Refusal.{Refusal}
use Rattle.up_canon.proofs.Steps.{one_value}
use Rattle.up_sign.specs.Schemes.{Rules, IsScheme}
use Rattle.up_manifest.specs.declared.report.Installed.{Installed}
use Rattle.up_manifest.specs.declared.report.SignedReport.{SignedReport}
use Rattle.up_plan.specs.declared.assigned.Assigned.{Assigned}
use Rattle.up_plan.specs.declared.assigned.Fitted.{Fitted}
use Rattle.up_plan.specs.Images.{ImageData}
use Rattle.up_plan.specs.Laws.{AssignedIsDue, IsUpdate}
use Rattle.up_plan.specs.Planning.{is_for, is_reported, level, plan_of}
use Rattle.up_metadata.proofs.Lists.{and_left}
use Rattle.up_metadata.specs.Files.{Root, targets_file, role_texts}
use Rattle.up_machine.specs.declared.answer.Answer.TheVariants.{Reply as Replied}
use Rattle.up_machine.specs.declared.answer.Reply.{Reply}
use Rattle.up_machine.specs.declared.command.Command.TheVariants.{Deliver}
use Rattle.up_machine.specs.declared.vehicle.NewEcu.{NewEcu}
use Rattle.up_machine.specs.Deciding.{Outcome}
use Rattle.up_machine.specs.Deliveries.{Received, fitted, plan_in, entry_of, with_entry, accepted}
use Rattle.up_machine.specs.Files.{target_of}
use Rattle.up_machine.specs.Laws.{FitsItsEcu, AssignedFitTheirEcus}
use Rattle.up_machine.specs.Machine.{Timed, decide, outcome_of, step, run}
use Rattle.up_machine.specs.Made.{IsReplyMade, roots_of}
use Rattle.up_machine.specs.Replies.{assigned_target, reply_metadata}
use Rattle.up_machine.specs.Sound.{IsSound}
use Rattle.up_machine.specs.Vehicles.{ecu_names}
use Rattle.up_machine.specs.State.{Vehicle, State, empty_state, nth, report_of, version}
use Rattle.up_machine.proofs.Decided.{IsDelivered, delivery_ok}
use Rattle.up_machine.proofs.DistinctNames.{Distinct, distinct}
use Rattle.up_machine.proofs.Installing.{found_is}
use Rattle.up_machine.proofs.Lists.{found_passes}
use Rattle.up_machine.proofs.Places.{nth_last}
use Rattle.up_machine.proofs.Receiving.{IsReceived, received}
use Rattle.up_machine.proofs.Tables.{get_same}
use Rattle.up_machine.proofs.Values.{each_value, found_any}
use Rattle.up_laws.specs.Readings.{RepliesAreReadAgain}
use Rattle.up_uptane.specs.Fitting.{FitsAndIsNewer, OffersFitting, NewRepliesFit}
use Rattle.up_uptane.proofs.Deliveries.{reply_of}
use Rattle.up_uptane.proofs.Reaching.{Reaching, Reached, reach, further}
use Rattle.up_uptane.proofs.Reported.{is_there, found_own}

-- ---- the ECUs of a plan

-- an ECU of the inventory, with its report
record IsOfEcu (reports : List SignedReport) (ecus : List NewEcu) (f : Fitted) : Type 0 where
  pub ecu : NewEcu
  pub there : Contains ecus ecu
  pub report : SignedReport
  pub reported : report_of ecu.ecu reports ≡ Some report
  pub is : f ≡ record { ecu = ecu.ecu; hardware = ecu.hardware; image = report.report.image }

each_of : (reports : List SignedReport) (all : List NewEcu) (ecus : List NewEcu) → AllByRecursion (Contains all) ecus → AllByRecursion (IsOfEcu reports all) (filter_map (fitted reports) ecus)
each_of reports all [] h = tt
each_of reports all (e ∷ ecus) h = by_report (report_of e.ecu reports) refl (each_of reports all ecus h.1)
  where
    by_report : (o : Option SignedReport) → report_of e.ecu reports ≡ o → AllByRecursion (IsOfEcu reports all) (filter_map (fitted reports) ecus)
        → AllByRecursion (IsOfEcu reports all) (cons_option (option_map {U = Fitted} (λ r. record { ecu = e.ecu; hardware = e.hardware; image = r.report.image }) o) (filter_map (fitted reports) ecus))
    by_report None is rest = rest
    by_report (Some r) is rest = (record { ecu = e; there = h.0; report = r; reported = is; is = refl }, rest)

of_ecu : (reports : List SignedReport) (ecus : List NewEcu) (f : Fitted) → Contains (filter_map (fitted reports) ecus) f → IsOfEcu reports ecus f
of_ecu reports ecus f among = All-contains (IsOfEcu reports ecus) (filter_map (fitted reports) ecus) f
    (All-from_recursion (IsOfEcu reports ecus) (filter_map (fitted reports) ecus) (each_of reports ecus ecus (recursion_from_All (Contains ecus) ecus (All-contains_itself ecus)))) among

-- ---- the level

-- in a sound state a value stands under its own filename
filed : (k : Rules) (s : State) → IsSound k s → AllByRecursion (λ (x : ImageData). table.get s.images x.file ≡ Some x) (table.values s.images)
filed k s sound = each_value (λ (x : ImageData). table.get s.images x.file ≡ Some x) s.images (λ q x h. ap (table.get s.images) (sound.repositories.each_image q x h).named ∙ h)

-- the registered image of what is reported is at the level
at_level : (k : Rules) (s : State) (hardware name : Name) (installed : Installed) (image : ImageData) → IsSound k s → table.get s.images installed.file ≡ Some image → is_reported hardware installed image ≡ true
    → level (table.values s.images) (record { ecu = name; hardware = hardware; image = installed }) ≡ image.release
at_level k s hardware name installed image sound there is =
    let p = is_reported hardware installed in
    let found = is_there p (table.values s.images) (found_any p s.images installed.file image there is) in
    let passes : p found.0 ≡ true = found_passes p (table.values s.images) found.0 found.1 in
    let named : found.0.file ≡ installed.file = (bytes_decides found.0.file installed.file).0 (and_left _ _ (and_left _ _ (and_left _ _ (and_left _ _ passes)))) in
    let own : table.get s.images found.0.file ≡ Some found.0 = found_is (λ (x : ImageData). table.get s.images x.file ≡ Some x) p (table.values s.images) found.0 (filed k s sound) found.1 in
    let same : found.0 ≡ image = one_value _ _ _ (ap (table.get s.images) (sym named) ∙ own) there in
    ap (λ (o : Option ImageData). unwrap_or (option_map (λ (x : ImageData). x.release) o) 0) found.1 ∙ ap (λ (x : ImageData). x.release) same

-- ---- one target

-- of ECUs with distinct names those of one name are one
one_ecu : (ecus : List NewEcu) → Distinct (ecu_names ecus) → (x y : NewEcu) → Contains ecus x → Contains ecus y → x.ecu ≡ y.ecu → x ≡ y
one_ecu ecus apart x y first second same =
    let P : NewEcu → Type 0 = λ e. find (λ (z : NewEcu). bytes_eq z.ecu e.ecu) ecus ≡ Some e in
    let all = All-from_recursion P ecus (found_own (λ (e : NewEcu). e.ecu) ecus apart) in
    let here : find (λ (z : NewEcu). bytes_eq z.ecu x.ecu) ecus ≡ Some x = All-contains P ecus x all first in
    let there : find (λ (z : NewEcu). bytes_eq z.ecu y.ecu) ecus ≡ Some y = All-contains P ecus y all second in
    one_value _ _ _ here (ap (λ (n : Name). find (λ (z : NewEcu). bytes_eq z.ecu n) ecus) same ∙ there)

one_fits : (k : Rules) (s : State) (vehicle : Name) (v : Vehicle) (reports : List SignedReport) (a : Assigned) (image : ImageData) → IsSound k s → Distinct (ecu_names v.ecus)
    → IsUpdate (table.values s.images) (table.values s.campaigns) vehicle (filter_map (fitted reports) v.ecus) a → FitsItsEcu s (filter_map (fitted reports) v.ecus) a → table.get s.images a.file ≡ Some image
    → FitsAndIsNewer s v reports (target_of (Some a.ecu) image)
one_fits k s vehicle v reports a image sound apart u f there =
    let of = of_ecu reports v.ecus u.e u.present in
    let registered_as : table.get s.images u.image.file ≡ Some u.image = All-contains (λ (x : ImageData). table.get s.images x.file ≡ Some x) (table.values s.images) u.image
    (All-from_recursion (λ (x : ImageData). table.get s.images x.file ≡ Some x) (table.values s.images) (filed k s sound)) u.due.known in
    let same : u.image ≡ image = one_value _ _ _ (ap (table.get s.images) u.file_is ∙ registered_as) there in
    let newer = u.due.newer in
    let release = ap (λ (i : ImageData). i.release) same in
    let ecu_is : a.ecu ≡ of.ecu.ecu = u.ecu_is ∙ ap (λ (x : Fitted). x.ecu) of.is in
    let by_fit = of_ecu reports v.ecus f.e f.present in
    let fit_is : f.image ≡ image = one_value _ _ _ f.known there in
    let one : by_fit.ecu ≡ of.ecu = one_ecu v.ecus apart by_fit.ecu of.ecu by_fit.there of.there (sym (f.ecu_is ∙ ap (λ (x : Fitted). x.ecu) by_fit.is) ∙ ecu_is) in
    let hardware : of.ecu.hardware ≡ f.e.hardware = ap (λ (x : NewEcu). x.hardware) (sym one) ∙ sym (ap (λ (x : Fitted). x.hardware) by_fit.is) in
    record {
      ecu = of.ecu;
      there = of.there;
      named = ap (λ (n : Name). Some n) ecu_is;
      hardware = ap (λ h. is_for h image) hardware ∙ ap (λ (i : ImageData). is_for f.e.hardware i) (sym fit_is) ∙ f.hardware;
      report = of.report;
      reported = of.reported;
      newer = λ old known is.
          let at = at_level k s of.ecu.hardware of.ecu.ecu of.report.report.image old sound known is in
          let low : level (table.values s.images) u.e ≡ old.release = ap (level (table.values s.images)) of.is ∙ at in
          omega (arith, newer, release, low);
    }

-- ---- the reply

each_fits : (k : Rules) (s : State) (vehicle : Name) (v : Vehicle) (reports : List SignedReport) → IsSound k s → Distinct (ecu_names v.ecus) → (assigned : List Assigned)
    → AllByRecursion (IsUpdate (table.values s.images) (table.values s.campaigns) vehicle (filter_map (fitted reports) v.ecus)) assigned → AllByRecursion (FitsItsEcu s (filter_map (fitted reports) v.ecus)) assigned
    → AllByRecursion (FitsAndIsNewer s v reports) (filter_map (assigned_target s) assigned)
each_fits k s vehicle v reports sound apart [] due fit = tt
each_fits k s vehicle v reports sound apart (a ∷ assigned) due fit = by_image (table.get s.images a.file) refl (each_fits k s vehicle v reports sound apart assigned due.1 fit.1)
  where
    by_image : (o : Option ImageData) → table.get s.images a.file ≡ o → AllByRecursion (FitsAndIsNewer s v reports) (filter_map (assigned_target s) assigned)
        → AllByRecursion (FitsAndIsNewer s v reports) (cons_option (option_map (target_of (Some a.ecu)) o) (filter_map (assigned_target s) assigned))
    by_image None there rest = rest
    by_image (Some image) there rest = (one_fits k s vehicle v reports a image sound apart due.0 fit.0 there, rest)

plan_fits : AssignedIsDue → AssignedFitTheirEcus → (k : Rules) (s : State) (r : Received) → IsSound k s → Distinct (ecu_names r.vehicle.ecus)
    → All (FitsAndIsNewer s r.vehicle r.incoming.manifest.reports) (filter_map (assigned_target s) (plan_in s r).assigned)
unfolding plan_in
plan_fits due_law fit_law k s r sound apart =
    let vehicle = r.incoming.manifest.vehicle in
    let reports = r.incoming.manifest.reports in
    let reported = filter_map (fitted reports) r.vehicle.ecus in
    let assigned = (plan_of (table.values s.images) (table.values s.campaigns) vehicle reported).assigned in
    let due = due_law (table.values s.images) (table.values s.campaigns) vehicle reported in
    let fit = fit_law k s vehicle reported sound in
    All-from_recursion (FitsAndIsNewer s r.vehicle reports) (filter_map (assigned_target s) assigned)
    (each_fits k s vehicle r.vehicle reports sound apart assigned (recursion_from_All (IsUpdate (table.values s.images) (table.values s.campaigns) vehicle reported) assigned due)
    (recursion_from_All (FitsItsEcu s reported) assigned fit))

offers : AssignedIsDue → AssignedFitTheirEcus → RepliesAreReadAgain → (k : Rules) (s : State) (roots all : List Root) (at : ℕ) (body : List ℕ) (r : Received) → IsScheme k → IsReceived k s at body r
    → Reached k s roots → Reached k (accepted k s at r).next all → OffersFitting s body (reply_of k s at r)
offers due_law fit_law replies k s roots all at body r law from before after =
    let name = r.incoming.manifest.vehicle in
    let e = entry_of k s at r in
    let number = version r.vehicle.entries + 1 in
    let next = with_entry s name r.vehicle e in
    let w : Vehicle = record r.vehicle { entries = r.vehicle.entries ++ e ∷ [] } in
    let there : table.get next.vehicles name ≡ Some w = get_same s.vehicles name w in
    let size : number ≡ length (r.vehicle.entries ++ e ∷ []) = sym (length-append r.vehicle.entries (e ∷ [])) in
    let last : nth w.entries number ≡ Some e = ap (nth w.entries) size ∙ nth_last r.vehicle.entries e in
    let made : IsReplyMade k next all name number e = after.made.replies name w number e there last in
    let m = reply_metadata next made.root.keys name number e.at e.plan in
    let apart : Distinct (ecu_names r.vehicle.ecus) = distinct (ecu_names r.vehicle.ecus) (before.sound.vehicles name r.vehicle from.vehicle).once in
    record {
      incoming = r.incoming;
      manifest = from.reads;
      vehicle = r.vehicle;
      known = from.vehicle;
      root = e.root;
      files = role_texts k m;
      bytes = made.made;
      targets = targets_file m;
      envelope = _;
      read = (replies k next all name w number e made.root law after.sound after.typed after.own after.made there last made.there).targets.read;
      fit = plan_fits due_law fit_law k s r before.sound apart;
    }

-- ---- over every run

abbrev Offering : State → List ℕ → Outcome → Type 0
Offering s body o = (reply : Reply) → o.answer ≡ Replied reply → OffersFitting s body reply

pub new_fit : Reaching → AssignedIsDue → AssignedFitTheirEcus → RepliesAreReadAgain → NewRepliesFit
unfolding step
new_fit keeping due_law fit_law replies k ts at body reply law given told =
    let s = run k empty_state ts in
    let before = reach keeping k ts given in
    let roots = roots_of k empty_state ts in
    let item : Timed = record { at = at; command = Deliver body } in
    by_decision s roots (roots ++ roots_of k s (item ∷ [])) before (decide k s at (Deliver body)) refl (further keeping k s roots (item ∷ []) ((refl, refl), tt) before) reply told
  where
    by_decision : (s : State) (roots all : List Root) → Reached k s roots → (d : Result Outcome Refusal) → decide k s at (Deliver body) ≡ d → Reached k (outcome_of s d).next all → Offering s body (outcome_of s d)
    by_decision s roots all before (Ok o) h after =
        let is : IsDelivered k s at body o = delivery_ok k s at body o h in
        let then : Reached k (accepted k s at is.received).next all = subst (λ (x : Outcome). Reached k x.next all) (sym is.is) after in
        subst (Offering s body) is.is (λ reply told.
        let same : reply_of k s at is.received ≡ reply = same_told _ _ told in
        subst (OffersFitting s body) same (offers due_law fit_law replies k s roots all at body is.received law (received k s at body is.received is.receives) before then))
      where
        same_told : (a b : Reply) → Replied a ≡ Replied b → a ≡ b
        same_told a b h = cc
    by_decision s roots all before (Err e) h after = λ reply told. cc
