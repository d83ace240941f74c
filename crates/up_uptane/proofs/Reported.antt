-- A new reply means one valid report of each ECU.
use Rattle.std.proofs.Common.{◌≡◌, ℕ, List, [], ◌∷◌, Bool, true, false, cond, not, Option, Some, None, Result, Ok, Err, refl, sym, ap, ◌∙◌, subst}
use Rattle.std.specs.Prelude.{⊤, ◌||◌, filter, find, map, option_map, unwrap_or, bytes_eq}
use Rattle.std.specs.List.{AllByRecursion, list_any}
use Rattle.std.specs.Cmp.Lexicographic.{bytes_decides}
use Rattle.std.proofs.lemmas.Bool.{not-false, or_parts}
use Rattle.up_canon.specs.Names.{Name, first_repeated}
use Rattle.up_canon.specs.declared.refusal.Refusal.{Refusal}
use Rattle.up_canon.proofs.Steps.{first_ok, refuse_first_ok}
use Rattle.up_sign.specs.Envelopes.{is_accepted}
use Rattle.up_sign.specs.Schemes.{Rules}
use Rattle.up_sign.specs.declared.envelope.Envelope.{Envelope}
use Rattle.up_manifest.specs.declared.report.SignedReport.{SignedReport}
use Rattle.up_metadata.proofs.Lists.{each_weaker}
use Rattle.up_machine.specs.declared.answer.Answer.TheVariants.{Reply as Replied}
use Rattle.up_machine.specs.declared.answer.Reply.{Reply}
use Rattle.up_machine.specs.declared.command.Command.TheVariants.{Deliver}
use Rattle.up_machine.specs.declared.vehicle.NewEcu.{NewEcu}
use Rattle.up_machine.specs.Deciding.{Outcome}
use Rattle.up_machine.specs.Deliveries.{Received, is_signed_by, receive, report_name, report_names, check_reports, check_new}
use Rattle.up_machine.specs.Laws.{EmptyIsSound, RunsStaySound}
use Rattle.up_machine.specs.Machine.{decide, outcome_of, step, run}
use Rattle.up_machine.specs.Sound.{IsSound, IsSoundVehicle}
use Rattle.up_machine.specs.State.{State, empty_state}
use Rattle.up_machine.specs.Vehicles.{has_ecu, ecu_in, ecu_names}
use Rattle.up_machine.proofs.Decided.{IsDelivered, delivery_ok}
use Rattle.up_machine.proofs.DistinctNames.{Distinct, distinct, swapped}
use Rattle.up_machine.proofs.Installing.{found_is}
use Rattle.up_machine.proofs.Lists.{none_passes, found_passes}
use Rattle.up_machine.proofs.Receiving.{IsReceivedManifest, manifest_received, received}
use Rattle.up_uptane.specs.Deliveries.{IsReported, IsOfInventory, IsWhole, NewRepliesAreOfAllEcus}
use Rattle.up_uptane.proofs.Deliveries.{reply_of}

-- ---- lists whose names are distinct

pub is_there : {A : Type 0} (p : A → Bool) (xs : List A) → list_any p xs ≡ true → (x : A) × (find p xs ≡ Some x)
is_there p [] h = cc
is_there {A} p (x ∷ xs) h = by_test (p x) h (is_there p xs)
  where
    by_test : (b : Bool) → (b || list_any p xs) ≡ true → (list_any p xs ≡ true → (y : A) × (find p xs ≡ Some y)) → (y : A) × (cond b (Some x) (find p xs) ≡ Some y)
    by_test true h more = (x, refl)
    by_test false h more = more h

none_named : {A : Type 0} (f : A → Name) (n : Name) (xs : List A) → list_any (bytes_eq n) (map f xs) ≡ false → filter (λ y. bytes_eq (f y) n) xs ≡ []
none_named f n [] h = refl
none_named f n (x ∷ xs) h =
    let parts = or_parts (bytes_eq n (f x)) _ h in
    let other : bytes_eq (f x) n ≡ false = swapped (f x) n ∙ parts.0 in
    rw other (none_named f n xs parts.1)

one_of : {A : Type 0} (f : A → Name) (n : Name) (xs : List A) (x : A) → Distinct (map f xs) → find (λ y. bytes_eq (f y) n) xs ≡ Some x → filter (λ y. bytes_eq (f y) n) xs ≡ x ∷ []
one_of f n [] x apart h = cc
one_of {A} f n (y ∷ xs) x apart h = by_test (bytes_eq (f y) n) refl h (one_of f n xs x apart.1)
  where
    by_test : (b : Bool) → bytes_eq (f y) n ≡ b → cond b (Some y) (find (λ z. bytes_eq (f z) n) xs) ≡ Some x
        → (find (λ z. bytes_eq (f z) n) xs ≡ Some x → filter (λ z. bytes_eq (f z) n) xs ≡ x ∷ []) → cond b (y ∷ filter (λ z. bytes_eq (f z) n) xs) (filter (λ z. bytes_eq (f z) n) xs) ≡ x ∷ []
    by_test true is h more =
        let same : y ≡ x = cc in
        let name : f y ≡ n = (bytes_decides (f y) n).0 is in
        let none : filter (λ z. bytes_eq (f z) n) xs ≡ [] = none_named f n xs (ap (λ m. list_any (bytes_eq m) (map f xs)) (sym name) ∙ apart.0) in
        ap (λ (rest : List A). y ∷ rest) none ∙ ap (λ (z : A). z ∷ []) same
    by_test false is h more = more h

others : {A : Type 0} (f : A → Name) (n : Name) (xs : List A) → list_any (bytes_eq n) (map f xs) ≡ false → AllByRecursion (λ y. bytes_eq n (f y) ≡ false) xs
others f n [] h = tt
others f n (x ∷ xs) h = let parts = or_parts (bytes_eq n (f x)) _ h in (parts.0, others f n xs parts.1)

each_two : {A : Type 0} (P Q R : A → Type 0) → ((x : A) → P x → Q x → R x) → (xs : List A) → AllByRecursion P xs → AllByRecursion Q xs → AllByRecursion R xs
each_two P Q R go [] p q = tt
each_two P Q R go (x ∷ xs) p q = (go x p.0 q.0, each_two P Q R go xs p.1 q.1)

-- each is the one that is found by its name
pub found_own : {A : Type 0} (f : A → Name) (xs : List A) → Distinct (map f xs) → AllByRecursion (λ x. find (λ y. bytes_eq (f y) (f x)) xs ≡ Some x) xs
found_own f [] apart = tt
found_own {A} f (x ∷ xs) apart = (
  ap (λ (b : Bool). cond b (Some x) (find (λ y. bytes_eq (f y) (f x)) xs)) ((bytes_decides (f x) (f x)).1 refl),
  each_two (λ (y : A). bytes_eq (f x) (f y) ≡ false) (λ (y : A). find (λ z. bytes_eq (f z) (f y)) xs ≡ Some y) (λ (y : A). find (λ z. bytes_eq (f z) (f y)) (x ∷ xs) ≡ Some y)
      (λ y other rest. ap (λ (b : Bool). cond b (Some x) (find (λ z. bytes_eq (f z) (f y)) xs)) other ∙ rest) xs (others f (f x) xs apart.0) (found_own f xs apart.1),
)

any_named : {A : Type 0} (f : A → Name) (n : Name) (xs : List A) → list_any (bytes_eq n) (map f xs) ≡ list_any (λ y. bytes_eq (f y) n) xs
any_named f n [] = refl
any_named f n (x ∷ xs) = rw (swapped n (f x), any_named f n xs)

-- ---- what the checks say

record HasReports (k : Rules) (r : Received) : Type 0 where
  pub known : AllByRecursion (λ s. not (has_ecu (report_name s) r.vehicle.ecus) ≡ false) r.incoming.manifest.reports
  pub once : first_repeated (report_names r.incoming.manifest.reports) ≡ None
  pub all : AllByRecursion (λ e. not (list_any (bytes_eq e.ecu) (report_names r.incoming.manifest.reports)) ≡ false) r.vehicle.ecus
  pub valid : AllByRecursion (λ s. not (is_signed_by k r.vehicle.ecus (report_name s) s.envelope) ≡ false) r.incoming.manifest.reports

over : {A : Type 0} (f : A → Name) (p : Name → Bool) (xs : List A) → AllByRecursion (λ n. p n ≡ false) (map f xs) → AllByRecursion (λ x. p (f x) ≡ false) xs
over f p [] h = tt
over f p (x ∷ xs) h = (h.0, over f p xs h.1)

has_reports : (k : Rules) (r : Received) (x : ⊤) → check_new k r ≡ Ok x → HasReports k r
unfolding check_new check_reports
has_reports k r x h = first_ok _ _ _ _ h (λ a later h. first_ok _ _ _ _ h (λ b known h. first_ok _ _ _ _ h (λ c once h. first_ok _ _ _ _ h (λ d all h. first_ok _ _ _ _ h (λ e valid h.
    let reports = r.incoming.manifest.reports in
    record {
      known = over report_name (λ n. not (has_ecu n r.vehicle.ecus)) reports (none_passes _ (report_names reports) (refuse_first_ok _ _ _ known));
      once = refuse_first_ok _ _ _ once;
      all = over (λ (e : NewEcu). e.ecu) (λ n. not (list_any (bytes_eq n) (report_names reports))) r.vehicle.ecus (none_passes _ (ecu_names r.vehicle.ecus) (refuse_first_ok _ _ _ all));
      valid = none_passes _ reports (refuse_first_ok _ _ _ valid);
    })))))

manifest_of : (k : Rules) (s : State) (at : ℕ) (body : List ℕ) (r : Received) → receive k s at body ≡ Ok r → IsReceivedManifest k s r.incoming r
unfolding receive
manifest_of k s at body r h = first_ok _ _ _ _ h (λ a moment h. first_ok _ _ _ _ h (λ incoming reads h.
    let is = manifest_received k s incoming r h in
    record { founded = is.founded; vehicle = is.vehicle; primary = is.primary; signed = is.signed; same = refl }))

-- who signed is the ECU that is found
signer : (k : Rules) (ecus : List NewEcu) (name : Name) (envelope : Envelope) → is_signed_by k ecus name envelope ≡ true
    → (e : NewEcu) × (ecu_in ecus name ≡ Some e) × (is_accepted k (e.public ∷ []) 1 envelope ≡ true)
signer k ecus name envelope h = by_ecu (ecu_in ecus name) refl h
  where
    by_ecu : (o : Option NewEcu) → ecu_in ecus name ≡ o → unwrap_or (option_map (λ (e : NewEcu). is_accepted k (e.public ∷ []) 1 envelope) o) false ≡ true
        → (e : NewEcu) × (ecu_in ecus name ≡ Some e) × (is_accepted k (e.public ∷ []) 1 envelope ≡ true)
    by_ecu None is h = cc
    by_ecu (Some e) is h = (e, is, h)

one_reported : (k : Rules) (r : Received) → HasReports k r → (e : NewEcu) → ecu_in r.vehicle.ecus e.ecu ≡ Some e
    → not (list_any (bytes_eq e.ecu) (report_names r.incoming.manifest.reports)) ≡ false → IsReported k r.incoming.manifest.reports e
one_reported k r has e own some =
    let reports = r.incoming.manifest.reports in
    let among : list_any (λ (x : SignedReport). bytes_eq (report_name x) e.ecu) reports ≡ true = sym (any_named report_name e.ecu reports) ∙ not-false _ some in
    let found = is_there (λ (x : SignedReport). bytes_eq (report_name x) e.ecu) reports among in
    let report = found.0 in
    let named : report_name report ≡ e.ecu = (bytes_decides (report_name report) e.ecu).0 (found_passes (λ (x : SignedReport). bytes_eq (report_name x) e.ecu) reports report found.1) in
    let signed : not (is_signed_by k r.vehicle.ecus (report_name report) report.envelope) ≡ false =
    found_is (λ (x : SignedReport). not (is_signed_by k r.vehicle.ecus (report_name x) x.envelope) ≡ false) (λ (x : SignedReport). bytes_eq (report_name x) e.ecu) reports report has.valid found.1 in
    let by = signer k r.vehicle.ecus (report_name report) report.envelope (not-false _ signed) in
    let there : ecu_in r.vehicle.ecus e.ecu ≡ Some by.0 = ap (ecu_in r.vehicle.ecus) (sym named) ∙ by.1 in
    let same : by.0 ≡ e = same_one (ecu_in r.vehicle.ecus e.ecu) by.0 e there own in
    record {
      report = report;
      one = one_of report_name e.ecu reports report (distinct (report_names reports) has.once) found.1;
      valid = ap (λ (x : NewEcu). is_accepted k (x.public ∷ []) 1 report.envelope) (sym same) ∙ by.2;
    }
  where
    same_one : (o : Option NewEcu) (a b : NewEcu) → o ≡ Some a → o ≡ Some b → a ≡ b
    same_one o a b x y = cc

of_inventory : (r : Received) (name : Name) → Distinct (ecu_names r.vehicle.ecus) → has_ecu name r.vehicle.ecus ≡ true
    → (e : NewEcu) × (filter (λ (x : NewEcu). bytes_eq x.ecu name) r.vehicle.ecus ≡ e ∷ [])
of_inventory r name apart h =
    let found = is_there (λ (x : NewEcu). bytes_eq x.ecu name) r.vehicle.ecus h in
    (found.0, one_of (λ (x : NewEcu). x.ecu) name r.vehicle.ecus found.0 apart found.1)

whole : (k : Rules) (s : State) (at : ℕ) (body : List ℕ) (r : Received) → IsSound k s → receive k s at body ≡ Ok r → check_new k r ≡ Ok tt → IsWhole k s body (reply_of k s at r)
whole k s at body r sound receives new =
    let has = has_reports k r tt new in
    let from = received k s at body r receives in
    let manifest = manifest_of k s at body r receives in
    let of : IsSoundVehicle k s r.incoming.manifest.vehicle r.vehicle = sound.vehicles r.incoming.manifest.vehicle r.vehicle from.vehicle in
    let apart : Distinct (ecu_names r.vehicle.ecus) = distinct (ecu_names r.vehicle.ecus) of.once in
    let by = signer k r.vehicle.ecus r.vehicle.primary r.incoming.envelope manifest.signed in
    record {
      incoming = r.incoming;
      read = from.reads;
      vehicle = r.vehicle;
      there = from.vehicle;
      primary = by.0;
      is_primary = one_of (λ (x : NewEcu). x.ecu) r.vehicle.primary r.vehicle.ecus by.0 apart by.1;
      named = from.primary;
      signed = by.2;
      each = each_two (λ (e : NewEcu). ecu_in r.vehicle.ecus e.ecu ≡ Some e) (λ (e : NewEcu). not (list_any (bytes_eq e.ecu) (report_names r.incoming.manifest.reports)) ≡ false)
          (IsReported k r.incoming.manifest.reports) (λ e own some. one_reported k r has e own some) r.vehicle.ecus (found_own (λ (x : NewEcu). x.ecu) r.vehicle.ecus apart) has.all;
      no_other = each_weaker (λ (x : SignedReport). not (has_ecu (report_name x) r.vehicle.ecus) ≡ false) (IsOfInventory r.vehicle.ecus)
          (λ x known. let e = of_inventory r (report_name x) apart (not-false _ known) in record { e = e.0; there = e.1 }) r.incoming.manifest.reports has.known;
    }

-- ---- over every run

abbrev Wholly : Rules → State → List ℕ → Outcome → Type 0
Wholly k s body o = (reply : Reply) → o.answer ≡ Replied reply → IsWhole k s body reply

wholly : (k : Rules) (s : State) (at : ℕ) (body : List ℕ) (o : Outcome) → IsSound k s → IsDelivered k s at body o → Wholly k s body o
wholly k s at body o sound is = subst (Wholly k s body) is.is (λ reply h.
    let same : reply_of k s at is.received ≡ reply = same_told _ _ h in
    subst (IsWhole k s body) same (whole k s at body is.received sound is.receives is.checked))
  where
    same_told : (a b : Reply) → Replied a ≡ Replied b → a ≡ b
    same_told a b h = cc

all_whole : (k : Rules) (s : State) (at : ℕ) (body : List ℕ) → IsSound k s → Wholly k s body (step k s at (Deliver body))
unfolding step
all_whole k s at body sound = by_decision (decide k s at (Deliver body)) refl
  where
    by_decision : (d : Result Outcome Refusal) → decide k s at (Deliver body) ≡ d → Wholly k s body (outcome_of s d)
    by_decision (Ok o) h = wholly k s at body o sound (delivery_ok k s at body o h)
    by_decision (Err e) h = λ reply told. cc

pub of_all_ecus : EmptyIsSound → RunsStaySound → NewRepliesAreOfAllEcus
of_all_ecus empty stay k ts at body reply given told =
    all_whole k (run k empty_state ts) at body (stay k empty_state ts given (empty k)) reply told
