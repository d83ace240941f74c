-- What is built means what it was built of.
use Rattle.std.proofs.Common.{◌≡◌, ℕ, ◌≤◌, lit≤, List, [], ◌∷◌, true, Some, length, refl, sym, ap, ◌∙◌, subst, arith}
use Rattle.std.specs.Prelude.{◌&&◌, IsTrue, IsUtf8}
use Rattle.std.specs.List.{list_all}
use Rattle.serde_json.specs.Data.{Data}
use Rattle.serde_json.specs.Read.{read}
use Rattle.up_canon.specs.Canon.{max_count, canon}
use Rattle.up_canon.specs.Moments.{MomentTextIsPlain, MomentsAreRead}
use Rattle.up_canon.specs.Names.{is_ident}
use Rattle.up_sign.specs.Envelopes.{sealed_envelope}
use Rattle.up_sign.specs.Formats.{envelope_fits, has_bytes, envelope_text, IsSigned}
use Rattle.up_sign.specs.Laws.{envelope_value, TextsAreRead, SealedFits}
use Rattle.up_sign.specs.Schemes.{Rules, IsScheme}
use Rattle.up_sign.specs.declared.envelope.Envelope.{Envelope}
use Rattle.up_manifest.specs.Building.{report_value, report_text, ReportFits, IsReportEnvelope, AreReportEnvelopes, manifest_text, signed_reports, sealed_manifest, built}
use Rattle.up_manifest.specs.Manifests.{most_reports}
use Rattle.up_manifest.specs.Meaning.{MeansSignedReport, MeansBody}
use Rattle.up_manifest.specs.declared.report.Report.{Report}
use Rattle.up_manifest.specs.declared.manifest.Manifest.{Manifest}
use Rattle.up_manifest.specs.declared.manifest.Incoming.{Incoming}
use Rattle.up_canon.proofs.Printable.{ident_prints}
use Rattle.up_manifest.proofs.Values.{canon_of, envelope_means, pair_value, report_signed, signed_report_means, zipped, manifest_value, manifest_value-text, manifest_plain, manifest_depth, manifest_means}
use Rattle.up_manifest.proofs.Lengths.{envelope-length, manifest-length}

one_fits : (k : Rules) (secret : List ℕ) → IsTrue (k.secret_fits secret) → IsTrue (list_all k.secret_fits (secret ∷ []))
one_fits k secret h = ap (λ b. b && true) h

pub report_envelope : SealedFits → (k : Rules) → IsScheme k → (secret : List ℕ) (r : Report) → IsTrue (k.secret_fits secret) → ReportFits r → IsReportEnvelope (sealed_envelope k (secret ∷ []) (report_text r)) r
report_envelope sealing k scheme secret r fits limits =
    let sealed_limits = sealing k (secret ∷ []) (report_text r) scheme (one_fits k secret fits) (lit≤ tt) (lit≤ tt) in
    record {
      one = refl;
      limits = sealed_limits.0;
      bytes = sealed_limits.1;
      signed = refl;
      fits = limits;
    }

pub report_built : TextsAreRead → MomentTextIsPlain → MomentsAreRead → (e : Envelope) (r : Report) → IsReportEnvelope e r
    → (d : Data) × (read (envelope_text e) ≡ Some d) × MeansSignedReport d (record { report = r; envelope = e })
report_built texts plain moments e r h =
    (pair_value (e, r), (texts [] e (report_value r) h.limits h.bytes (report_signed plain e r h)).0, signed_report_means texts plain moments e r h)

-- of a body that is an envelope with one signature over a manifest's text
pub body_means : TextsAreRead → MomentTextIsPlain → MomentsAreRead
    → (vehicle primary : List ℕ) (counter : ℕ) (es : List Envelope) (rs : List Report)
    → is_ident vehicle ≡ true → is_ident primary ≡ true → 1 ≤ counter → counter ≤ max_count → length es ≤ most_reports → AreReportEnvelopes es rs
    → (e : Envelope) → length e.signatures ≡ 1 → envelope_fits e ≡ true → has_bytes e ≡ true → e.signed ≡ manifest_text vehicle primary counter es
    → (body : List ℕ) → IsUtf8 body → body ≡ envelope_text e
    → MeansBody body (record { manifest = record { vehicle = vehicle; primary = primary; counter = counter; reports = signed_reports rs es }; envelope = e })
body_means texts plain moments vehicle primary counter es rs v p low high few h e one fits bytes signed body utf8 same =
    let payload = manifest_value vehicle primary counter (zipped es rs) in
    let payload_plain = manifest_plain plain vehicle primary counter es rs h (ident_prints vehicle v) (ident_prints primary p) high in
    let flat = manifest_depth vehicle primary counter (zipped es rs) in
    let payload_canon : canon payload ≡ Some e.signed = canon_of payload payload_plain (omega arith) ∙ ap Some (manifest_value-text vehicle primary counter es rs h ∙ sym signed) in
    let is_signed : IsSigned e.signed payload = (payload_canon, refl) in
    let short = manifest-length plain vehicle primary counter es rs h v p high few in
    let size = envelope-length e 250_000 one fits (omega (arith, ap length signed)) in
    let manifest : Manifest = record { vehicle = vehicle; primary = primary; counter = counter; reports = signed_reports rs es } in
    let incoming : Incoming = record { manifest = manifest; envelope = e } in
    subst (λ t. MeansBody t incoming) (sym same) (record {
      value = envelope_value e payload;
      json_text = record { small = omega arith; utf8 = subst IsUtf8 same utf8; reads = (texts [] e payload fits bytes is_signed).0 };
      payload = payload;
      envelope = envelope_means texts e payload fits bytes is_signed;
      manifest = manifest_means texts plain moments manifest es rs h refl v p low high few;
    })

pub built_means : TextsAreRead → SealedFits → MomentTextIsPlain → MomentsAreRead → (k : Rules) → IsScheme k
    → (secret vehicle primary : List ℕ) (counter : ℕ) (es : List Envelope) (rs : List Report)
    → IsTrue (k.secret_fits secret) → is_ident vehicle ≡ true → is_ident primary ≡ true → 1 ≤ counter → counter ≤ max_count → length es ≤ most_reports → AreReportEnvelopes es rs
    → (body : List ℕ) → IsUtf8 body → body ≡ envelope_text (sealed_manifest k secret vehicle primary counter es) → MeansBody body (built k secret vehicle primary counter rs es)
built_means texts sealing plain moments k scheme secret vehicle primary counter es rs fits v p low high few h body utf8 same =
    let signed = manifest_text vehicle primary counter es in
    let limits = sealing k (secret ∷ []) signed scheme (one_fits k secret fits) (lit≤ tt) (lit≤ tt) in
    body_means texts plain moments vehicle primary counter es rs v p low high few h (sealed_envelope k (secret ∷ []) signed) refl limits.0 limits.1 refl body utf8 same
