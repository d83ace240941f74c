-- Reports that are read one after another, and what a body in the plain form means.
use Rattle.std.proofs.Common.{◌≡◌, ℕ, suc, List, [], ◌∷◌, ◌++◌, length, map, refl, sym, ap, ap₂, ◌∙◌, subst, append_assoc, arith}
use Rattle.std.specs.Prelude.{IsTrue, IsUtf8, ◌&&◌}
use Rattle.std.specs.List.{list_all, join_with_byte}
use Rattle.up_canon.specs.Moments.{MomentTextIsPlain, MomentsAreRead}
use Rattle.up_canon.specs.Names.{is_from_to}
use Rattle.up_canon.proofs.Joined.{separator_after}
use Rattle.up_sign.specs.Formats.{signature_fits, envelope_text}
use Rattle.up_sign.specs.Laws.{TextsAreRead}
use Rattle.up_sign.specs.declared.envelope.Signature.{Signature}
use Rattle.up_sign.specs.declared.envelope.Envelope.{Envelope}
use Rattle.up_manifest.specs.Building.{IsReportEnvelope, manifest_text, signed_reports}
use Rattle.up_manifest.specs.Meaning.{MeansBody}
use Rattle.up_manifest.specs.Plain.{IsOneSignature, AreReports, ManifestFits}
use Rattle.up_manifest.specs.declared.report.Report.{Report}
use Rattle.up_manifest.specs.declared.report.SignedReport.{SignedReport}
use Rattle.up_manifest.specs.declared.manifest.Manifest.{Manifest}
use Rattle.up_manifest.proofs.Built.{body_means}

-- ---- one more at the end

pub after-push : {X : Type 0} → (xs : List X) (x : X) → 44 ∷ [] ≡ separator_after (xs ++ x ∷ [])
after-push [] x = refl
after-push (y ∷ xs) x = refl

joined-push : {X : Type 0} → (f : X → List ℕ) (xs : List X) (x : X) → join_with_byte 44 (map f (xs ++ x ∷ [])) ≡ join_with_byte 44 (map f xs) ++ (separator_after xs ++ f x)
joined-push f [] x = refl
joined-push f (y ∷ []) x = refl
joined-push f (y ∷ z ∷ xs) x = ap (λ t. f y ++ 44 ∷ t) (joined-push f (z ∷ xs) x) ∙ sym (append_assoc (f y) (44 ∷ join_with_byte 44 (map f (z ∷ xs))) (44 ∷ f x))

-- the texts so far, and one more behind its separator
pub texts-push : (f : SignedReport → List ℕ) (rs : List SignedReport) (r : SignedReport) (rest : List ℕ)
    → join_with_byte 44 (map f rs) ++ (separator_after rs ++ (f r ++ rest)) ≡ join_with_byte 44 (map f (rs ++ r ∷ [])) ++ rest
texts-push f rs r rest =
    let front = join_with_byte 44 (map f rs) in
    let mark = separator_after rs in
    ap (λ t. front ++ t) (sym (append_assoc mark (f r) rest)) ∙ sym (append_assoc front (mark ++ f r) rest) ∙ ap (λ t. t ++ rest) (sym (joined-push f rs r))

pub reports-push : (rs : List SignedReport) (r : SignedReport) → AreReports rs → IsReportEnvelope r.envelope r.report → AreReports (rs ++ r ∷ [])
reports-push [] r h k = (k, tt)
reports-push (s ∷ rs) r h k = (h.0, reports-push rs r h.1 k)

-- ---- a list of reports and the lists of their parts

abbrev pub envelopes : List SignedReport → List Envelope
envelopes rs = map (λ r. r.envelope) rs

abbrev pub payloads : List SignedReport → List Report
payloads rs = map (λ r. r.report) rs

pub envelope-texts : (rs : List SignedReport) → map (λ r. envelope_text r.envelope) rs ≡ map envelope_text (envelopes rs)
envelope-texts [] = refl
envelope-texts (r ∷ rs) = ap (λ ts. envelope_text r.envelope ∷ ts) (envelope-texts rs)

joined-again : (rs : List SignedReport) → signed_reports (payloads rs) (envelopes rs) ≡ rs
joined-again [] = refl
joined-again (r ∷ rs) = ap (λ (ss : List SignedReport). r ∷ ss) (joined-again rs)

envelopes-length : (rs : List SignedReport) → length (envelopes rs) ≡ length rs
envelopes-length [] = refl
envelopes-length (r ∷ rs) = ap (λ (n : ℕ). suc n) (envelopes-length rs)

-- ---- what a body means

one-fits : (ss : List Signature) → IsOneSignature ss → IsTrue (is_from_to 1 8 (length ss) && list_all signature_fits ss)
one-fits ss h = ap₂ (λ n b. is_from_to 1 8 n && b) h.one h.fits

pub plain_means : TextsAreRead → MomentTextIsPlain → MomentsAreRead → (m : Manifest) → ManifestFits m → (ss : List Signature) → IsOneSignature ss
    → (signed : List ℕ) → signed ≡ manifest_text m.vehicle m.primary m.counter (envelopes m.reports)
    → (body : List ℕ) → IsUtf8 body → body ≡ envelope_text (record { signatures = ss; signed = signed })
    → MeansBody body (record { manifest = m; envelope = record { signatures = ss; signed = signed } })
plain_means texts plain moments m fits ss one signed is body utf8 same =
    let size = envelopes-length m.reports in
    let few = fits.few in
    let e : Envelope = record { signatures = ss; signed = signed } in
    let of = λ (rs : List SignedReport). MeansBody body (record { manifest = record { vehicle = m.vehicle; primary = m.primary; counter = m.counter; reports = rs }; envelope = e }) in
    subst of (joined-again m.reports)
    (body_means texts plain moments m.vehicle m.primary m.counter (envelopes m.reports) (payloads m.reports) fits.vehicle fits.primary fits.least fits.most (omega arith) fits.reports
    e one.one (one-fits ss one) one.bytes is body utf8 same)
