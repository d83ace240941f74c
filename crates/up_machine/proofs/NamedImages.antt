-- Images that neither the items for a vehicle nor its reports name change nothing of what an accepted manifest makes.
use Rattle.std.proofs.Common.{◌≡◌, ℕ, ◌+◌, List, [], ◌∷◌, ◌++◌, Bool, true, false, cond, Option, Some, None, map, refl, sym, ap, ap₂, ◌∙◌, subst}
use Rattle.std.specs.Prelude.{◌||◌, T, filter, filter_map, find, option_map, bytes_eq}
use Rattle.std.specs.List.{AllByRecursion, list_all, list_any, cons_option}
use Rattle.std.specs.Ordering.{nat_cmp}
use Rattle.std.specs.Cmp.Lexicographic.{slice_cmp, bytes_decides}
use Rattle.std.specs.FinMap as table
use Rattle.std.specs.FinMap.{same_map, nat_cmp-IsAntisymmetric, slice_cmp-IsAntisymmetric}
use Rattle.std.specs.FinMap.Entries.{is_sorted, is_sorted-where_key, find-where_key}
use Rattle.std.proofs.lemmas.Cmp.{nat_list_cmp_total}
use Rattle.std.proofs.lemmas.Bool.{or_right}
use Rattle.up_canon.specs.Names.{Name, Table}
use Rattle.up_canon.proofs.Printable.{both}
use Rattle.up_sign.specs.Schemes.{Rules}
use Rattle.up_sign.proofs.Accepted.{bytes_eq-refl}
use Rattle.up_manifest.specs.declared.manifest.Incoming.{Incoming}
use Rattle.up_manifest.specs.declared.report.SignedReport.{SignedReport}
use Rattle.up_plan.specs.declared.assigned.Assigned.{Assigned}
use Rattle.up_plan.specs.declared.assigned.Fitted.{Fitted}
use Rattle.up_plan.specs.declared.assigned.Plan.{Plan}
use Rattle.up_plan.specs.declared.campaign.Item.{Item}
use Rattle.up_plan.specs.ByFile.{AreByFile}
use Rattle.up_plan.specs.Campaigns.{CampaignData}
use Rattle.up_plan.specs.Images.{ImageData}
use Rattle.up_plan.specs.Laws.{OtherImagesChangeNothing}
use Rattle.up_plan.specs.Planning.{items_for, plan_of}
use Rattle.up_machine.specs.declared.rows.EcuRow.{EcuRow}
use Rattle.up_machine.specs.declared.rows.Founding.{Founding}
use Rattle.up_machine.specs.declared.rows.Kept.{Kept}
use Rattle.up_machine.specs.declared.rows.VehicleRows.{VehicleRows}
use Rattle.up_machine.specs.declared.decision.AcceptedRows.{AcceptedRows}
use Rattle.up_machine.specs.Files.{target_of}
use Rattle.up_machine.specs.State.{report_of}
use Rattle.up_machine.specs.ManifestRows.{fitted_with, fitted_in, reported_row, accepted_row, reply_of, kept_of, plan_by_rows, accepted_rows, target_for}
use Rattle.up_machine.specs.Decisions.{files_named, AreImagesOf}
use Rattle.up_metadata.proofs.Lists.{and_left, and_right, each_weaker, all_weaker}
use Rattle.up_machine.proofs.Planned.{plan_passes}
use Rattle.up_machine.proofs.Values.{each_found}

-- ---- a name among names

abbrev is_among : List Name → Name → Bool
is_among files file = list_any (bytes_eq file) files

among_more : (files more : List Name) (file : Name) → is_among files file ≡ true → is_among (files ++ more) file ≡ true
among_more [] more file h = cc
among_more (f ∷ files) more file h = by_test (bytes_eq file f) h (among_more files more file)
  where
    by_test : (b : Bool) → (b || is_among files file) ≡ true → (is_among files file ≡ true → is_among (files ++ more) file ≡ true) → (b || is_among (files ++ more) file) ≡ true
    by_test true h next = refl
    by_test false h next = next h

among_after : (before files : List Name) (file : Name) → is_among files file ≡ true → is_among (before ++ files) file ≡ true
among_after [] files file h = h
among_after (f ∷ before) files file h = or_right (bytes_eq file f) _ (among_after before files file h)

each_among : {A : Type 0} (f : A → Name) (xs : List A) → list_all (λ x. is_among (map f xs) (f x)) xs ≡ true
each_among f [] = refl
each_among f (x ∷ xs) =
    both _ _ (ap (λ b. b || is_among (map f xs) (f x)) (bytes_eq-refl (f x)))
    (all_weaker (λ y. is_among (map f xs) (f y)) (λ y. is_among (f x ∷ map f xs) (f y)) (λ y h. or_right (bytes_eq (f y) (f x)) _ h) xs (each_among f xs))

-- ---- tables that answer alike at names that pass

agree_at : (t u : Table ImageData) (files : List Name) (file : Name) → AllByRecursion (λ f. table.get t f ≡ table.get u f) files → is_among files file ≡ true → table.get t file ≡ table.get u file
agree_at t u [] file all h = cc
agree_at t u (f ∷ files) file all h = by_test (bytes_eq file f) refl h (agree_at t u files file all.1)
  where
    by_test : (b : Bool) → bytes_eq file f ≡ b → (b || is_among files file) ≡ true → (is_among files file ≡ true → table.get t file ≡ table.get u file) → table.get t file ≡ table.get u file
    by_test true same h next = let named : file ≡ f = (bytes_decides file f).0 same in ap (table.get t) named ∙ all.0 ∙ sym (ap (table.get u) named)
    by_test false same h next = next h

abbrev entries_passing : (Name → Bool) → Table ImageData → List (Name × ImageData)
entries_passing p t = filter (λ e. p e.0) (table.entries t)

sorted_passing : (p : Name → Bool) (t : Table ImageData) → T (is_sorted (slice_cmp nat_cmp) (entries_passing p t))
sorted_passing p t = is_sorted-where_key (slice_cmp nat_cmp) p (table.entries t) (table.entries_sorted t)

abbrev passing : (Name → Bool) → Table ImageData → Table ImageData
passing p t = table.from_sorted (entries_passing p t)

get_passing : (p : Name → Bool) (t : Table ImageData) (q : Name) → table.get (passing p t) q ≡ cond (p q) (table.get t q) None
get_passing p t q =
    table.get-from_sorted (slice_cmp nat_cmp) (entries_passing p t) q (sorted_passing p t)
    ∙ find-where_key (slice_cmp nat_cmp) p q (λ x tied. ap p (sym (slice_cmp-IsAntisymmetric nat_cmp-IsAntisymmetric q x tied))) (table.entries t)
    ∙ ap (λ o. cond (p q) o None) (sym (table.get-entries t q))

same_passing : (p : Name → Bool) (t u : Table ImageData) → ((q : Name) → p q ≡ true → table.get t q ≡ table.get u q) → passing p t ≡ passing p u
same_passing p t u same =
    same_map nat_list_cmp_total (slice_cmp-IsAntisymmetric nat_cmp-IsAntisymmetric) _ _ (λ q. get_passing p t q ∙ by_test q (p q) refl ∙ sym (get_passing p u q))
  where
    by_test : (q : Name) (b : Bool) → p q ≡ b → cond b (table.get t q) None ≡ cond b (table.get u q) None
    by_test q true is = same q is
    by_test q false is = refl

same_entries : (p : Name → Bool) (t u : Table ImageData) → ((q : Name) → p q ≡ true → table.get t q ≡ table.get u q) → entries_passing p t ≡ entries_passing p u
same_entries p t u same =
    sym (table.entries-from_sorted (slice_cmp nat_cmp) (entries_passing p t) (sorted_passing p t))
    ∙ ap table.entries (same_passing p t u same)
    ∙ table.entries-from_sorted (slice_cmp nat_cmp) (entries_passing p u) (sorted_passing p u)

values_passing : (p : Name → Bool) (es : List (Name × ImageData)) → AllByRecursion (λ e. e.1.file ≡ e.0) es → filter (λ image. p image.file) (map (λ e. e.1) es) ≡ map (λ e. e.1) (filter (λ e. p e.0) es)
values_passing p [] h = refl
values_passing p (e ∷ es) h =
    ap (λ n. cond (p n) (e.1 ∷ filter (λ image. p image.file) (map (λ e. e.1) es)) (filter (λ image. p image.file) (map (λ e. e.1) es))) h.0
    ∙ by_test (p e.0) (values_passing p es h.1)
  where
    by_test : (b : Bool) → filter (λ image. p image.file) (map (λ e. e.1) es) ≡ map (λ e. e.1) (filter (λ e. p e.0) es)
        → cond b (e.1 ∷ filter (λ image. p image.file) (map (λ e. e.1) es)) (filter (λ image. p image.file) (map (λ e. e.1) es)) ≡ map (λ e. e.1) (cond b (e ∷ filter (λ e. p e.0) es) (filter (λ e. p e.0) es))
    by_test true rest = ap (λ images. e.1 ∷ images) rest
    by_test false rest = rest

values_named : (p : Name → Bool) (t : Table ImageData) → AreByFile t → filter (λ image. p image.file) (table.values t) ≡ map (λ e. e.1) (entries_passing p t)
values_named p t named = values_passing p (table.entries t) (each_weaker _ _ (λ e there. named e.0 e.1 there) (table.entries t) (each_found t))

same_values : (p : Name → Bool) (t u : Table ImageData) → AreByFile t → AreByFile u → ((q : Name) → p q ≡ true → table.get t q ≡ table.get u q)
    → filter (λ image. p image.file) (table.values t) ≡ filter (λ image. p image.file) (table.values u)
same_values p t u t_named u_named same =
    values_named p t t_named ∙ ap (map (λ (e : Name × ImageData). e.1)) (same_entries p t u same) ∙ sym (values_named p u u_named)

-- ---- the plan

found_passes : {A : Type 0} (p q : A → Bool) (xs : List A) (x : A) → list_all p xs ≡ true → find q xs ≡ Some x → p x ≡ true
found_passes p q [] x all h = cc
found_passes p q (y ∷ xs) x all h = by_test (q y) h (found_passes p q xs x (and_right (p y) _ all))
  where
    by_test : (b : Bool) → cond b (Some y) (find q xs) ≡ Some x → (find q xs ≡ Some x → p x ≡ true) → p x ≡ true
    by_test true h next = let same : y ≡ x = cc in ap p (sym same) ∙ and_left _ _ all
    by_test false h next = next h

fitted_pass : (p : Name → Bool) (reports : List SignedReport) (rows : List EcuRow) → list_all (λ r. p r.report.image.file) reports ≡ true → list_all (λ (e : Fitted). p e.image.file) (fitted_in reports rows) ≡ true
fitted_pass p reports [] h = refl
fitted_pass p reports (row ∷ rows) h = by_report (report_of row.ecu reports) refl (fitted_pass p reports rows h)
  where
    by_report : (o : Option SignedReport) → report_of row.ecu reports ≡ o → list_all (λ (e : Fitted). p e.image.file) (fitted_in reports rows) ≡ true
        → list_all (λ (e : Fitted). p e.image.file) (cons_option (option_map (fitted_with row) o) (fitted_in reports rows)) ≡ true
    by_report None is rest = rest
    by_report (Some r) is rest = both _ _ (found_passes (λ (r : SignedReport). p r.report.image.file) (λ r. bytes_eq r.report.ecu row.ecu) reports r h is) rest

filter_twice : {A : Type 0} (p : A → Bool) (xs : List A) → filter p xs ≡ filter p (filter p xs)
filter_twice p [] = refl
filter_twice p (x ∷ xs) = by_test (p x) refl (filter_twice p xs)
  where
    by_test : (b : Bool) → p x ≡ b → filter p xs ≡ filter p (filter p xs) → cond b (x ∷ filter p xs) (filter p xs) ≡ filter p (cond b (x ∷ filter p xs) (filter p xs))
    by_test true is rest = ap (λ ys. x ∷ ys) rest ∙ sym (ap (λ b. cond b (x ∷ filter p (filter p xs)) (filter p (filter p xs))) is)
    by_test false is rest = rest

filter_passes : {A : Type 0} (p : A → Bool) (xs : List A) → list_all p (filter p xs) ≡ true
filter_passes p [] = refl
filter_passes p (x ∷ xs) = by_test (p x) refl (filter_passes p xs)
  where
    by_test : (b : Bool) → p x ≡ b → list_all p (filter p xs) ≡ true → list_all p (cond b (x ∷ filter p xs) (filter p xs)) ≡ true
    by_test true is rest = both _ _ is rest
    by_test false is rest = rest

-- ---- what an accepted manifest makes

module _ (law : OtherImagesChangeNothing) (campaigns : List CampaignData) (rows : VehicleRows) (incoming : Incoming) where
  abbrev items : List Item
  items = items_for campaigns rows.vehicle.vehicle

  abbrev reports : List SignedReport
  reports = incoming.manifest.reports

  abbrev files : List Name
  files = files_named campaigns rows.vehicle.vehicle reports

  items_pass : list_all (λ i. is_among files i.file) items ≡ true
  items_pass = all_weaker _ _ (λ i h. among_more (map (λ (i : Item). i.file) items) _ i.file h) items (each_among (λ (i : Item). i.file) items)

  reports_pass : list_all (λ r. is_among files r.report.image.file) reports ≡ true
  reports_pass =
      all_weaker _ _ (λ r h. among_after (map (λ (i : Item). i.file) items) _ r.report.image.file h) reports (each_among (λ (r : SignedReport). r.report.image.file) reports)

  by_campaigns : (images : Table ImageData) → plan_by_rows images items rows reports ≡ plan_of (table.values images) campaigns rows.vehicle.vehicle (fitted_in reports rows.ecus)
  unfolding plan_by_rows plan_of
  by_campaigns images = refl

  plan_alike : (images others : Table ImageData) → filter (λ image. is_among files image.file) (table.values images) ≡ filter (λ image. is_among files image.file) (table.values others)
      → plan_by_rows images items rows reports ≡ plan_by_rows others items rows reports
  plan_alike images others same =
      by_campaigns images
      ∙ law (is_among files) (table.values images) (table.values others) campaigns rows.vehicle.vehicle (fitted_in reports rows.ecus) items_pass (fitted_pass (is_among files) reports rows.ecus reports_pass) same
      ∙ sym (by_campaigns others)

  assigned_pass : (images : Table ImageData) → AllByRecursion (λ (a : Assigned). is_among files a.file ≡ true) (plan_by_rows images items rows reports).assigned
  assigned_pass images =
      let few = filter (λ image. is_among files image.file) (table.values images) in
      subst (λ (plan : Plan). AllByRecursion (λ (a : Assigned). is_among files a.file ≡ true) plan.assigned)
      (sym (by_campaigns images ∙ law (is_among files) (table.values images) few campaigns rows.vehicle.vehicle (fitted_in reports rows.ecus) items_pass
      (fitted_pass (is_among files) reports rows.ecus reports_pass) (filter_twice (λ image. is_among files image.file) (table.values images))))
      (plan_passes (is_among files) few campaigns rows.vehicle.vehicle (fitted_in reports rows.ecus) (filter_passes (λ image. is_among files image.file) (table.values images)))

  targets_alike : (images others : Table ImageData) → ((q : Name) → is_among files q ≡ true → table.get images q ≡ table.get others q)
      → (assigned : List Assigned) → AllByRecursion (λ (a : Assigned). is_among files a.file ≡ true) assigned → filter_map (target_for images) assigned ≡ filter_map (target_for others) assigned
  targets_alike images others same [] h = refl
  targets_alike images others same (a ∷ assigned) h =
      ap₂ cons_option (ap (option_map (target_of (Some a.ecu))) (same a.file h.0)) (targets_alike images others same assigned h.1)

  pub images_alike : (k : Rules) (f : Founding) (at : ℕ) (images others : Table ImageData) → AreImagesOf files images others → AreByFile others
      → accepted_rows k f rows at incoming others items ≡ accepted_rows k f rows at incoming images items
  images_alike k f at images others are named =
      let same : (q : Name) → is_among files q ≡ true → table.get others q ≡ table.get images q = λ q h. sym (agree_at images others files q are.same h) in
      let plan = plan_alike others images (same_values (is_among files) others images named are.named same) in
      let targets = targets_alike others images same (plan_by_rows images items rows reports).assigned (assigned_pass images) in
      let kept : kept_of k f rows.vehicle at incoming others (plan_by_rows others items rows reports) ≡ kept_of k f rows.vehicle at incoming images (plan_by_rows images items rows reports) =
      ap (kept_of k f rows.vehicle at incoming others) plan
      ∙ ap {B = Kept} (λ targets. record {
        vehicle = rows.vehicle.vehicle;
        counter = incoming.manifest.counter;
        version = rows.vehicle.version + 1;
        at = at;
        root = f.root;
        signed = incoming.envelope.signed;
        plan = plan_by_rows images items rows reports;
        reply = reply_of k f rows.vehicle at targets;
      }) targets in
      ap {B = AcceptedRows} (λ (kept : Kept). record {
        vehicle = record { vehicle = accepted_row rows.vehicle incoming.manifest.counter; ecus = map (reported_row reports) rows.ecus };
        kept = kept;
      }) kept
