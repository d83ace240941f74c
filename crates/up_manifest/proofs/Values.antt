-- The values that texts of envelopes, reports and manifests read as, and what they mean.
use Rattle.std.proofs.Common.{◌≡◌, ℕ, suc, lit≤, ◌≤◌, List, [], ◌∷◌, ◌++◌, Bool, true, Some, length, map, append_assoc, refl, sym, ap, ap₂, ◌∙◌, subst, arith}
use Rattle.std.specs.Prelude.{◌&&◌, IsTrue, nat_le, codes, decimal}
use Rattle.std.specs.List.{list_all, join_with_byte}
use Rattle.std.proofs.lemmas.Bool.Decides.{nat_tests}
use Rattle.serde_json.specs.Data.{Data, string, depth, items_depth}
use Rattle.serde_json.specs.View.{items_of}
use Rattle.up_canon.specs.Build.{object_with, list_with, count_value, hashes_value}
use Rattle.up_canon.specs.Canon.{max_count, max_nesting, is_printable, is_plain, items_are_plain, has_canon, canon, text, json_string}
use Rattle.up_canon.specs.Moments.{moment_text, MomentTextIsPlain, MomentsAreRead}
use Rattle.up_canon.specs.Names.{is_ident}
use Rattle.up_sign.specs.Formats.{envelope_fits, has_bytes, IsSigned, envelope_text}
use Rattle.up_sign.specs.Laws.{envelope_value, TextsAreRead}
use Rattle.up_canon.specs.Meaning.{EachMeans}
use Rattle.up_sign.specs.Meaning.{MeansEnvelope}
use Rattle.up_sign.specs.declared.envelope.Envelope.{Envelope}
use Rattle.up_manifest.specs.Building.{installed_value, report_value, report_text, ReportFits, IsReportEnvelope, AreReportEnvelopes, list_text, manifest_text, signed_reports}
use Rattle.up_manifest.specs.Manifests.{most_reports}
use Rattle.up_manifest.specs.Meaning.{MeansInstalled, MeansReport, MeansSignedReport, MeansManifest}
use Rattle.up_manifest.specs.declared.report.Report.{Report}
use Rattle.up_manifest.specs.declared.manifest.Manifest.{Manifest}
use Rattle.up_sign.proofs.Meaning.{opened_read}
use Rattle.up_sign.proofs.Texts.{envelope_value-text, envelope_plain, envelope_depth}
use Rattle.up_canon.proofs.Hashes.{first_hash, second_hash, hashes_depth, hashes_plain, spelled_hash}
use Rattle.up_canon.proofs.Joined.{listed_text}
use Rattle.up_canon.proofs.Printable.{ident_prints, file_name_prints, note_prints}

-- ---- canonical text

has_canon_of : (d : Data) → is_plain d ≡ true → depth d ≤ 16 → has_canon d ≡ true
has_canon_of d plain shallow =
    let flat : nat_le (depth d) max_nesting ≡ true = grind (arith, nat_tests) in
    rw (plain, flat) refl

pub canon_of : (d : Data) → is_plain d ≡ true → depth d ≤ 16 → canon d ≡ Some (text d)
canon_of d plain shallow = rw (has_canon_of d plain shallow) refl

and_three : (a b c : Bool) → a ≡ true → b ≡ true → c ≡ true → (a && (b && (c && true))) ≡ true
and_three a b c p q r = rw (p, q, r) refl

and_four : (a b c d : Bool) → a ≡ true → b ≡ true → c ≡ true → d ≡ true → (a && (b && (c && (d && true)))) ≡ true
and_four a b c d p q r s = rw (p, q, r, s) refl

and_five : (a b c d e : Bool) → a ≡ true → b ≡ true → c ≡ true → d ≡ true → e ≡ true → (a && (b && (c && (d && (e && true))))) ≡ true
and_five a b c d e p q r s t = rw (p, q, r, s, t) refl

count_test : (n : ℕ) → n ≤ max_count → nat_le n max_count ≡ true
count_test n h = grind (arith, nat_tests)

-- ---- envelopes

pub envelope_means : TextsAreRead → (e : Envelope) (payload : Data) → envelope_fits e ≡ true → has_bytes e ≡ true → IsSigned e.signed payload
    → MeansEnvelope (envelope_value e payload) payload e
envelope_means texts e payload h b signed = opened_read [] (envelope_value e payload) (record { envelope = e; payload = payload }) (texts [] e payload h b signed).1

-- ---- reports

installed_plain : (r : Report) → ReportFits r → is_plain (installed_value r.image) ≡ true
installed_plain r h =
    and_three _ _ _ (file_name_prints r.image.file h.file) (hashes_plain r.image.sha256 r.image.sha512 h.bytes h.sha512) (count_test r.image.length h.size)

report_plain : MomentTextIsPlain → (r : Report) → ReportFits r → is_plain (report_value r) ≡ true
report_plain law r h =
    and_five _ _ _ _ _ (note_prints r.attack h.attack) (count_test r.counter h.counter) (ident_prints r.ecu h.ecu)
    (installed_plain r h) (law r.time h.time).1

report_depth : (r : Report) → depth (report_value r) ≡ 3
report_depth r = rw (hashes_depth r.image.sha256 r.image.sha512) refl

pub report_has_canon : MomentTextIsPlain → (r : Report) → ReportFits r → has_canon (report_value r) ≡ true
report_has_canon law r h = has_canon_of (report_value r) (report_plain law r h) (omega (arith, report_depth r))

pub report_canon : MomentTextIsPlain → (r : Report) → ReportFits r → canon (report_value r) ≡ Some (report_text r)
unfolding report_text
report_canon law r h = canon_of (report_value r) (report_plain law r h) (omega (arith, report_depth r))

installed_means : (r : Report) → ReportFits r → MeansInstalled (installed_value r.image) r.image
installed_means r h =
    record {
      file = refl;
      file_fits = h.file;
      size = (refl, h.size);
      hashes = hashes_value r.image.sha256 r.image.sha512;
      has_hashes = (_, refl, refl);
      sha256 = spelled_hash 32 _ (codes "sha256") r.image.sha256 (first_hash r.image.sha256 r.image.sha512) h.sha256 h.bytes;
      sha512 = second_hash r.image.sha256 r.image.sha512 h.sha512;
    }

report_means : MomentsAreRead → (r : Report) → ReportFits r → MeansReport (report_value r) r
report_means law r h = record {
  kind = refl;
  ecu = refl;
  ecu_fits = h.ecu;
  counter = (refl, h.counter);
  time_text = moment_text r.time;
  has_time = refl;
  time = law r.time h.time;
  attack = refl;
  attack_fits = h.attack;
  image_value = installed_value r.image;
  has_image = (_, refl, refl);
  image = installed_means r h;
}

-- the value of a report in its envelope
abbrev pub pair_value : Envelope × Report → Data
pair_value p = envelope_value p.0 (report_value p.1)

pub report_signed : MomentTextIsPlain → (e : Envelope) (r : Report) → IsReportEnvelope e r → IsSigned e.signed (report_value r)
report_signed plain e r h = (report_canon plain r h.fits ∙ ap Some (sym h.signed), refl)

pub signed_report_means : TextsAreRead → MomentTextIsPlain → MomentsAreRead → (e : Envelope) (r : Report) → IsReportEnvelope e r → MeansSignedReport (pair_value (e, r)) (record { report = r; envelope = e })
signed_report_means texts plain moments e r h = record {
  payload = report_value r;
  envelope = envelope_means texts e (report_value r) h.limits h.bytes (report_signed plain e r h);
  report = report_means moments r h.fits;
}

report_value-text : (r : Report) → text (report_value r) ≡ report_text r
unfolding report_text
report_value-text r = refl

pub pair_value-text : (e : Envelope) (r : Report) → IsReportEnvelope e r → text (pair_value (e, r)) ≡ envelope_text e
pair_value-text e r h = envelope_value-text e (report_value r) (report_value-text r ∙ sym h.signed)

pub pair_value-plain : MomentTextIsPlain → (e : Envelope) (r : Report) → IsReportEnvelope e r → is_plain (pair_value (e, r)) ≡ true
pair_value-plain law e r h = envelope_plain e (report_value r) h.limits h.bytes (report_plain law r h.fits)

pub pair_value-depth : (e : Envelope) (r : Report) → depth (pair_value (e, r)) ≤ 4
pair_value-depth e r = envelope_depth e (report_value r) 3 (omega (arith, report_depth r)) (lit≤ tt)

-- ---- lists of reports

abbrev pub zipped : List Envelope → List Report → List (Envelope × Report)
zipped [] rs = []
zipped (e ∷ es) [] = []
zipped (e ∷ es) (r ∷ rs) = (e, r) ∷ zipped es rs

pairs_mean : TextsAreRead → MomentTextIsPlain → MomentsAreRead → (es : List Envelope) (rs : List Report) → AreReportEnvelopes es rs → EachMeans MeansSignedReport (items_of (map pair_value (zipped es rs))) (signed_reports rs es)
pairs_mean texts plain moments [] [] h = tt
pairs_mean texts plain moments [] (r ∷ rs) h = absurd h
pairs_mean texts plain moments (e ∷ es) [] h = absurd h
pairs_mean texts plain moments (e ∷ es) (r ∷ rs) h = (signed_report_means texts plain moments e r h.0, pairs_mean texts plain moments es rs h.1)

pairs_plain : MomentTextIsPlain → (es : List Envelope) (rs : List Report) → AreReportEnvelopes es rs → items_are_plain (items_of (map pair_value (zipped es rs))) ≡ true
pairs_plain law [] [] h = refl
pairs_plain law [] (r ∷ rs) h = absurd h
pairs_plain law (e ∷ es) [] h = absurd h
pairs_plain law (e ∷ es) (r ∷ rs) h = ap₂ (λ a b. a && b) (pair_value-plain law e r h.0) (pairs_plain law es rs h.1)

pairs_depth : (ps : List (Envelope × Report)) → items_depth (items_of (map pair_value ps)) ≤ 4
pairs_depth [] = omega arith
pairs_depth (p ∷ ps) = omega (arith, pair_value-depth p.0 p.1, pairs_depth ps)

pairs_texts : (es : List Envelope) (rs : List Report) → AreReportEnvelopes es rs → map (λ p. text (pair_value p)) (zipped es rs) ≡ map envelope_text es
pairs_texts [] [] h = refl
pairs_texts [] (r ∷ rs) h = absurd h
pairs_texts (e ∷ es) [] h = absurd h
pairs_texts (e ∷ es) (r ∷ rs) h = ap₂ (λ (t : List ℕ) (ts : List (List ℕ)). t ∷ ts) (pair_value-text e r h.0) (pairs_texts es rs h.1)

pub pairs_size : (es : List Envelope) (rs : List Report) → AreReportEnvelopes es rs → length (signed_reports rs es) ≡ length es
pairs_size [] [] h = refl
pairs_size [] (r ∷ rs) h = absurd h
pairs_size (e ∷ es) [] h = absurd h
pairs_size (e ∷ es) (r ∷ rs) h = ap (λ (n : ℕ). suc n) (pairs_size es rs h.1)

-- ---- manifests

abbrev pub manifest_value : List ℕ → List ℕ → ℕ → List (Envelope × Report) → Data
manifest_value vehicle primary counter ps = object_with (
    (codes "counter", count_value counter) ∷ (codes "primary", string primary) ∷ (codes "reports", list_with (map pair_value ps)) ∷
    (codes "type", string (codes "manifest")) ∷ (codes "vehicle", string vehicle) ∷ [])

right-nine : (a b c d e f g h i : List ℕ) → a ++ b ++ c ++ d ++ e ++ f ++ g ++ h ++ i ≡ a ++ (b ++ (c ++ (d ++ (e ++ (f ++ (g ++ (h ++ i)))))))
right-nine a b c d e f g h i = simp append_assoc

pub manifest_value-text : (vehicle primary : List ℕ) (counter : ℕ) (es : List Envelope) (rs : List Report) → AreReportEnvelopes es rs
    → text (manifest_value vehicle primary counter (zipped es rs)) ≡ manifest_text vehicle primary counter es
unfolding manifest_text
manifest_value-text vehicle primary counter es rs h =
    ap (λ (t : List ℕ). codes "{\"counter\":" ++ (decimal counter ++ (codes ",\"primary\":" ++ (json_string primary ++ (codes ",\"reports\":" ++ ((91 ∷ t) ++ (codes ",\"type\":\"manifest\",\"vehicle\":" ++ (json_string vehicle ++ codes "}"))))))))
    (listed_text pair_value (zipped es rs) ∙ ap (λ (ts : List (List ℕ)). join_with_byte 44 ts ++ 93 ∷ []) (pairs_texts es rs h))
    ∙ sym (right-nine (codes "{\"counter\":") (decimal counter) (codes ",\"primary\":") (json_string primary) (codes ",\"reports\":") (list_text (map envelope_text es)) (codes ",\"type\":\"manifest\",\"vehicle\":") (json_string vehicle) (codes "}"))

pub manifest_plain : MomentTextIsPlain → (vehicle primary : List ℕ) (counter : ℕ) (es : List Envelope) (rs : List Report) → AreReportEnvelopes es rs
    → list_all is_printable vehicle ≡ true → list_all is_printable primary ≡ true → counter ≤ max_count → is_plain (manifest_value vehicle primary counter (zipped es rs)) ≡ true
manifest_plain law vehicle primary counter es rs h v p n =
    and_four _ _ _ _ (count_test counter n) p (pairs_plain law es rs h) v

pub manifest_depth : (vehicle primary : List ℕ) (counter : ℕ) (ps : List (Envelope × Report)) → depth (manifest_value vehicle primary counter ps) ≤ 6
manifest_depth vehicle primary counter ps = omega (arith, pairs_depth ps)

pub manifest_means : TextsAreRead → MomentTextIsPlain → MomentsAreRead → (m : Manifest) (es : List Envelope) (rs : List Report) → AreReportEnvelopes es rs → m.reports ≡ signed_reports rs es
    → IsTrue (is_ident m.vehicle) → IsTrue (is_ident m.primary) → 1 ≤ m.counter → m.counter ≤ max_count → length es ≤ most_reports
    → MeansManifest (manifest_value m.vehicle m.primary m.counter (zipped es rs)) m
manifest_means texts plain moments m es rs h same v p low high few =
    let size = ap length same ∙ pairs_size es rs h in
    record {
      kind = refl;
      vehicle = refl;
      vehicle_fits = v;
      primary = refl;
      primary_fits = p;
      counter = (refl, high);
      positive = low;
      listed = items_of (map pair_value (zipped es rs));
      has_reports = refl;
      reports = subst (EachMeans MeansSignedReport (items_of (map pair_value (zipped es rs)))) (sym same) (pairs_mean texts plain moments es rs h);
      few = omega arith;
    }
