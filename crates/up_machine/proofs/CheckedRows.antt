-- The checks of a manifest over the rows of its vehicle are those over the vehicle.
use Rattle.std.proofs.Common.{◌≡◌, List, [], ◌∷◌, Bool, true, false, cond, not, Option, Some, None, Result, Ok, Err, refl, sym, ap, ◌∙◌}
use Rattle.std.proofs.lemmas.Bool.{not-false}
use Rattle.std.specs.Prelude.{⊤, ◌||◌, ◌&&◌, bytes_eq, map, find, option_map, unwrap_or, nat_le, nat_lt, ◌==◌}
use Rattle.std.specs.List.{AllByRecursion, list_any}
use Rattle.std.specs.Cmp.Lexicographic.{bytes_decides}
use Rattle.std.specs.FinMap as table
use Rattle.up_canon.specs.Names.{Name, first_repeated}
use Rattle.up_canon.specs.Steps.{and_then, ◌>>=◌, unless, refuse_if, refuse_first, or_error}
use Rattle.up_canon.specs.declared.refusal.Refusal.{Refusal}
use Rattle.up_canon.specs.declared.refusal.Refusal.TheVariants.{UnknownVehicle, WrongPrimary, BadManifestSignature, Stale, UnknownEcu, DuplicateEcu, MissingEcu, BadReportSignature, ReportReplayed}
use Rattle.up_sign.specs.Schemes.{Rules}
use Rattle.up_sign.specs.Envelopes.{is_accepted}
use Rattle.up_sign.specs.declared.envelope.Envelope.{Envelope}
use Rattle.up_manifest.specs.declared.report.SignedReport.{SignedReport}
use Rattle.up_manifest.specs.declared.manifest.Incoming.{Incoming}
use Rattle.up_machine.specs.declared.rows.EcuRow.{EcuRow}
use Rattle.up_machine.specs.declared.vehicle.NewEcu.{NewEcu}
use Rattle.up_machine.specs.Vehicles.{has_ecu, ecu_in, ecu_names}
use Rattle.up_machine.specs.State.{Vehicle, State, last_counter, last_report}
use Rattle.up_machine.specs.Deciding.{check_founded}
use Rattle.up_machine.specs.Deliveries.{Received, receive_manifest, is_signed_by, report_name, report_names, is_in_order, check_reports, check_new}
use Rattle.up_machine.specs.Rows.{ecu_row, rows_of}
use Rattle.up_machine.specs.ManifestRows.{row_of, is_signed_by_row, check_primary, has_row, is_reported_in, follows, follows_its_row, check_reports_of}
use Rattle.up_machine.proofs.Parts.{check_new_of}
use Rattle.up_machine.proofs.Lists.{none_passes, find_alike}
use Rattle.up_canon.proofs.Steps.{bind-ok, refuse_first_ok}

-- ---- lists of what is made of elements

any_made : {A B : Type 0} (f : A → B) (p : B → Bool) (xs : List A) → list_any p (map f xs) ≡ list_any (λ x. p (f x)) xs
any_made f p [] = refl
any_made f p (x ∷ xs) = ap (λ b. p (f x) || b) (any_made f p xs)

find_made : {A B : Type 0} (f : A → B) (p : B → Bool) (xs : List A) → find p (map f xs) ≡ option_map f (find (λ x. p (f x)) xs)
find_made f p [] = refl
find_made f p (x ∷ xs) = by_test (p (f x)) (find_made f p xs)
  where
    by_test : (b : Bool) → find p (map f xs) ≡ option_map f (find (λ x. p (f x)) xs)
        → cond b (Some (f x)) (find p (map f xs)) ≡ option_map f (cond b (Some x) (find (λ x. p (f x)) xs))
    by_test true rest = refl
    by_test false rest = rest

refused_made : {A B E : Type 0} (error : B → E) (f : A → B) (o : Option A) → refuse_first error (option_map f o) ≡ refuse_first (λ x. error (f x)) o
refused_made error f None = refl
refused_made error f (Some x) = refl

first_made : {A B E : Type 0} (error : B → E) (f : A → B) (p : B → Bool) (xs : List A) → refuse_first error (find p (map f xs)) ≡ refuse_first (λ x. error (f x)) (find (λ x. p (f x)) xs)
first_made error f p xs = ap (refuse_first error) (find_made f p xs) ∙ refused_made error f (find (λ x. p (f x)) xs)

find_same : {A : Type 0} (p q : A → Bool) (xs : List A) → AllByRecursion (λ x. p x ≡ q x) xs → find p xs ≡ find q xs
find_same p q [] h = refl
find_same p q (x ∷ xs) h = rw (h.0, find_same p q xs h.1)

-- ---- steps

pub bind_same : {E A B : Type 0} (r : Result A E) (f g : A → Result B E) → ((x : A) → r ≡ Ok x → f x ≡ g x) → (r >>= f) ≡ (r >>= g)
unfolding and_then
bind_same (Ok x) f g same = same x refl
bind_same (Err e) f g same = refl

pub bind_assoc : {E A B C : Type 0} (r : Result A E) (f : A → Result B E) (g : B → Result C E) → ((r >>= f) >>= g) ≡ (r >>= (λ x. f x >>= g))
unfolding and_then
bind_assoc (Ok x) f g = refl
bind_assoc (Err e) f g = refl

-- ---- signatures

pub row_found : (v : Vehicle) (ecus : List NewEcu) (name : Name) → row_of (map (ecu_row v) ecus) name ≡ option_map (ecu_row v) (ecu_in ecus name)
row_found v ecus name = find_made (ecu_row v) (λ row. bytes_eq row.ecu name) ecus

signed_same : (k : Rules) (v : Vehicle) (ecus : List NewEcu) (name : Name) (envelope : Envelope) → is_signed_by_row k (map (ecu_row v) ecus) name envelope ≡ is_signed_by k ecus name envelope
signed_same k v ecus name envelope =
    ap (λ o. unwrap_or (option_map (λ row. is_accepted k (row.public ∷ []) 1 envelope) o) false) (row_found v ecus name) ∙ by_ecu (ecu_in ecus name)
  where
    by_ecu : (o : Option NewEcu) → unwrap_or (option_map (λ (row : EcuRow). is_accepted k (row.public ∷ []) 1 envelope) (option_map (ecu_row v) o)) false
        ≡ unwrap_or (option_map (λ (e : NewEcu). is_accepted k (e.public ∷ []) 1 envelope) o) false
    by_ecu None = refl
    by_ecu (Some e) = refl

-- ---- the order of reports

in_order : (v : Vehicle) (e : NewEcu) (r : SignedReport) → follows (ecu_row v e) r ≡ is_in_order (last_report v e.ecu) r
in_order v e r = by_report (last_report v e.ecu)
  where
    by_report : (o : Option SignedReport) → unwrap_or (option_map (λ last. nat_lt (unwrap_or (option_map (λ (r : SignedReport). r.report.counter) o) 0) r.report.counter || ((unwrap_or (option_map (λ (r : SignedReport). r.report.counter) o) 0 == r.report.counter) && bytes_eq last r.envelope.signed)) (option_map (λ (r : SignedReport). r.envelope.signed) o)) true
        ≡ is_in_order o r
    by_report None = refl
    by_report (Some last) = refl

known_found : (ecus : List NewEcu) (name : Name) → has_ecu name ecus ≡ true → (e : NewEcu) × (ecu_in ecus name ≡ Some e) × (e.ecu ≡ name)
known_found [] name h = cc
known_found (e ∷ ecus) name h = by_name (bytes_eq e.ecu name) refl h (known_found ecus name)
  where
    by_name : (b : Bool) → bytes_eq e.ecu name ≡ b → (b || has_ecu name ecus) ≡ true → (has_ecu name ecus ≡ true → (f : NewEcu) × (ecu_in ecus name ≡ Some f) × (f.ecu ≡ name))
        → (f : NewEcu) × (cond b (Some e) (ecu_in ecus name) ≡ Some f) × (f.ecu ≡ name)
    by_name true is h more = (e, refl, (bytes_decides e.ecu name).0 is)
    by_name false is h more = more h

order_same : (v : Vehicle) (r : SignedReport) → has_ecu (report_name r) v.ecus ≡ true → follows_its_row (map (ecu_row v) v.ecus) r ≡ is_in_order (last_report v (report_name r)) r
order_same v r known =
    let found = known_found v.ecus (report_name r) known in
    ap (λ o. unwrap_or (option_map (λ row. follows row r) o) true) (row_found v v.ecus (report_name r) ∙ ap (option_map (ecu_row v)) found.1)
    ∙ in_order v found.0 r ∙ ap (λ name. is_in_order (last_report v name) r) found.2

-- ---- the checks of the reports

known_same : (v : Vehicle) (reports : List SignedReport) → find (λ r. not (has_row (map (ecu_row v) v.ecus) r)) reports ≡ find (λ r. not (has_ecu (report_name r) v.ecus)) reports
known_same v reports = find_alike _ _ (λ r. ap not (any_made (ecu_row v) (λ row. bytes_eq row.ecu (report_name r)) v.ecus)) reports

each_known : (v : Vehicle) (reports : List SignedReport) → find (λ name. not (has_ecu name v.ecus)) (report_names reports) ≡ None
    → AllByRecursion (λ r. not (follows_its_row (map (ecu_row v) v.ecus) r) ≡ not (is_in_order (last_report v (report_name r)) r)) reports
each_known v reports h = over reports (none_passes _ (report_names reports) h)
  where
    over : (rs : List SignedReport) → AllByRecursion (λ name. not (has_ecu name v.ecus) ≡ false) (report_names rs)
        → AllByRecursion (λ r. not (follows_its_row (map (ecu_row v) v.ecus) r) ≡ not (is_in_order (last_report v (report_name r)) r)) rs
    over [] h = tt
    over (r ∷ rs) h = (ap not (order_same v r (not-false _ h.0)), over rs h.1)

missing_same : (v : Vehicle) (reports : List SignedReport)
    → refuse_first (λ (row : EcuRow). MissingEcu row.ecu) (find (λ row. not (is_reported_in reports row)) (map (ecu_row v) v.ecus))
    ≡ refuse_first MissingEcu (find (λ name. not (list_any (bytes_eq name) (report_names reports))) (ecu_names v.ecus))
missing_same v reports =
    first_made (λ (row : EcuRow). MissingEcu row.ecu) (ecu_row v) (λ row. not (is_reported_in reports row)) v.ecus
    ∙ ap (refuse_first (λ (e : NewEcu). MissingEcu e.ecu)) (find_alike _ _ (λ (e : NewEcu). ap not (sym (any_made report_name (bytes_eq e.ecu) reports))) v.ecus)
    ∙ sym (first_made MissingEcu (λ (e : NewEcu). e.ecu) (λ name. not (list_any (bytes_eq name) (report_names reports))) v.ecus)

signatures_same : (k : Rules) (v : Vehicle) (reports : List SignedReport)
    → find (λ r. not (is_signed_by_row k (map (ecu_row v) v.ecus) (report_name r) r.envelope)) reports ≡ find (λ r. not (is_signed_by k v.ecus (report_name r) r.envelope)) reports
signatures_same k v reports = find_alike _ _ (λ r. ap not (signed_same k v v.ecus (report_name r) r.envelope)) reports

-- the checks after the first
abbrev rest_of : Result ⊤ Refusal → Result ⊤ Refusal → Result ⊤ Refusal → Result ⊤ Refusal → Result ⊤ Refusal
rest_of repeated missing unsigned replayed = repeated >>= (λ _. missing >>= (λ _. unsigned >>= (λ _. replayed)))

rest_same : (r m n u w p q : Result ⊤ Refusal) → m ≡ n → u ≡ w → p ≡ q → rest_of r m u p ≡ rest_of r n w q
rest_same r m n u w p q one two three = ap (λ x. rest_of r x u p) one ∙ ap (λ x. rest_of r n x p) two ∙ ap (λ x. rest_of r n w x) three

reports_same : (k : Rules) (v : Vehicle) (reports : List SignedReport) → check_reports_of k (map (ecu_row v) v.ecus) reports ≡ check_reports k v reports
unfolding check_reports_of check_reports
reports_same k v reports =
    let rows = map (ecu_row v) v.ecus in
    let repeated = refuse_first DuplicateEcu (first_repeated (report_names reports)) in
    let missing_by_row = refuse_first (λ (row : EcuRow). MissingEcu row.ecu) (find (λ row. not (is_reported_in reports row)) rows) in
    let missing = refuse_first MissingEcu (find (λ name. not (list_any (bytes_eq name) (report_names reports))) (ecu_names v.ecus)) in
    let unsigned_by_row = refuse_first (λ (r : SignedReport). BadReportSignature (report_name r)) (find (λ r. not (is_signed_by_row k rows (report_name r) r.envelope)) reports) in
    let unsigned = refuse_first (λ (r : SignedReport). BadReportSignature (report_name r)) (find (λ r. not (is_signed_by k v.ecus (report_name r) r.envelope)) reports) in
    let replayed_by_row = refuse_first (λ (r : SignedReport). ReportReplayed (report_name r)) (find (λ r. not (follows_its_row rows r)) reports) in
    let replayed = refuse_first (λ (r : SignedReport). ReportReplayed (report_name r)) (find (λ r. not (is_in_order (last_report v (report_name r)) r)) reports) in
    let first : refuse_first (λ (r : SignedReport). UnknownEcu (report_name r)) (find (λ r. not (has_row rows r)) reports)
    ≡ refuse_first UnknownEcu (find (λ name. not (has_ecu name v.ecus)) (report_names reports))
    = ap (refuse_first (λ (r : SignedReport). UnknownEcu (report_name r))) (known_same v reports) ∙ sym (first_made UnknownEcu report_name (λ name. not (has_ecu name v.ecus)) reports) in
    ap (λ r. r >>= (λ _. rest_of repeated missing_by_row unsigned_by_row replayed_by_row)) first
    ∙ bind_same (refuse_first UnknownEcu (find (λ name. not (has_ecu name v.ecus)) (report_names reports))) (λ _. rest_of repeated missing_by_row unsigned_by_row replayed_by_row) (λ _. rest_of repeated missing unsigned replayed)
    (λ x ok. rest_same repeated missing_by_row missing unsigned_by_row unsigned replayed_by_row replayed
    (missing_same v reports)
    (ap (refuse_first (λ (r : SignedReport). BadReportSignature (report_name r))) (signatures_same k v reports))
    (ap (refuse_first (λ (r : SignedReport). ReportReplayed (report_name r))) (find_same _ _ reports (each_known v reports (refuse_first_ok _ _ x ok)))))

-- ---- the whole

pub new_same : (k : Rules) (r : Received) → check_new_of k (rows_of r.incoming.manifest.vehicle r.vehicle) r.incoming.manifest ≡ check_new k r
unfolding check_new_of check_new
new_same k r = ap (λ checked. refuse_if (nat_le r.incoming.manifest.counter (last_counter r.vehicle.entries)) (Stale (last_counter r.vehicle.entries)) >>= (λ _. checked)) (reports_same k r.vehicle r.incoming.manifest.reports)

pub primary_same : (k : Rules) (v : Vehicle) (incoming : Incoming) → check_primary k (rows_of incoming.manifest.vehicle v) incoming
    ≡ (unless (bytes_eq incoming.manifest.primary v.primary) WrongPrimary >>= (λ _. unless (is_signed_by k v.ecus v.primary incoming.envelope) BadManifestSignature))
unfolding check_primary
primary_same k v incoming = ap (λ b. unless (bytes_eq incoming.manifest.primary v.primary) WrongPrimary >>= (λ _. unless b BadManifestSignature)) (signed_same k v v.ecus v.primary incoming.envelope)

-- what is received of a vehicle that is there
pub received_same : (k : Rules) (s : State) (incoming : Incoming) (v : Vehicle) (x : ⊤) → check_founded s ≡ Ok x → table.get s.vehicles incoming.manifest.vehicle ≡ Some v
    → receive_manifest k s incoming ≡ (check_primary k (rows_of incoming.manifest.vehicle v) incoming >>= (λ _. Ok (record { vehicle = v; incoming = incoming })))
unfolding receive_manifest
received_same k s incoming v x founded there =
    bind-ok _ _ x founded ∙ bind-ok _ _ v (ap (or_error UnknownVehicle) there)
    ∙ sym (bind_assoc (unless (bytes_eq incoming.manifest.primary v.primary) WrongPrimary) (λ _. unless (is_signed_by k v.ecus v.primary incoming.envelope) BadManifestSignature) (λ _. Ok (record { vehicle = v; incoming = incoming })))
    ∙ ap (λ r. r >>= (λ _. Ok (record { vehicle = v; incoming = incoming }))) (sym (primary_same k v incoming))
