-- A body means one manifest, or it has one first fault.
use Rattle.std.proofs.Common.{◌≡◌, List, [], ◌∷◌, Option, Some, None, Ok, Err, Result, refl, sym, ◌∙◌, ap}
use Rattle.std.specs.Prelude.{MatchResult, option_and_then}
use Rattle.std.specs.List.{AllByRecursion}
use Rattle.serde_json.specs.Data.{Data, Items, no_items, item}
use Rattle.serde_json.specs.Read.{read}
use Rattle.std.specs.Cmp.Lexicographic.{bytes_decides}
use Rattle.up_canon.specs.Canon.{CanonIsRead}
use Rattle.up_canon.specs.Refusals.{canonical_text}
use Rattle.up_canon.specs.Meaning.{EachMeans}
use Rattle.up_canon.specs.Steps.{or_error, value_of}
use Rattle.up_canon.proofs.Steps.{bind-ok, unless_there, value_of_some}
use Rattle.up_canon.specs.declared.refusal.Refusal.{Refusal}
use Rattle.up_canon.specs.declared.refusal.Refusal.TheVariants.{NotJson, NotCanonical}
use Rattle.up_sign.specs.Laws.{IsTextFault}
use Rattle.up_manifest.specs.Manifests.{incoming_in, manifest_in, manifest_of, report_text_in, report_of}
use Rattle.up_manifest.specs.Meaning.{MeansBody, MeansSignedReport}
use Rattle.up_manifest.specs.Laws.{BodiesAreRead, BodiesMeanOneOrFail, SignedTextsMean, ReportTextsMean}
use Rattle.up_manifest.specs.declared.report.SignedReport.{SignedReport}
use Rattle.up_manifest.specs.declared.manifest.Incoming.{Incoming}
use Rattle.up_manifest.proofs.Faults.{body_fails}
use Rattle.up_manifest.proofs.BodyReading.{body_read, body_there, manifest_read, manifest_there, report_there}

pub bodies_are_read : BodiesAreRead
bodies_are_read body i = (body_read body i, body_there body i)

pub bodies_mean_one_or_fail : BodiesMeanOneOrFail
bodies_mean_one_or_fail body = by_result (incoming_in body) refl
  where
    by_result : (r : Result Incoming Refusal) → incoming_in body ≡ r → MatchResult r
        (λ i. MeansBody body i × ((j : Incoming) → MeansBody body j → j ≡ i))
        (λ fault. IsTextFault fault × ((j : Incoming) → MeansBody body j → ⊥))
    by_result (Ok i) e = (body_read body i e, λ j m. let there = body_there body j m in cc)
    by_result (Err fault) e = ((body_fails body).allowed fault e, λ j m. let there = body_there body j m in cc)

pub signed_texts_mean : CanonIsRead → SignedTextsMean
unfolding manifest_of
signed_texts_mean read_again body i h =
    let m = body_read body i h in
    ap (λ o. option_and_then (λ d. value_of (manifest_in d)) o) (read_again m.payload i.envelope.signed m.envelope.signed.0)
    ∙ ap value_of (manifest_there m.payload i.manifest m.manifest)

-- of one report, and of each of a list

report_text_means : CanonIsRead → (d : Data) (r : SignedReport) → MeansSignedReport d r → report_of r.envelope.signed ≡ Some r.report
unfolding report_text_in canonical_text
report_text_means read_again d r m =
    let is = m.envelope.signed.0 in
    ap value_of (
    bind-ok _ _ m.payload (ap (or_error NotJson) (read_again m.payload r.envelope.signed is))
    ∙ bind-ok _ _ r.envelope.signed (ap (or_error NotCanonical) is)
    ∙ bind-ok _ _ tt (unless_there _ _ ((bytes_decides r.envelope.signed r.envelope.signed).1 refl))
    ∙ report_there m.payload r.report m.report)

each_text_means : CanonIsRead → (listed : Items) (rs : List SignedReport) → EachMeans MeansSignedReport listed rs → AllByRecursion (λ r. report_of r.envelope.signed ≡ Some r.report) rs
each_text_means read_again no_items [] h = tt
each_text_means read_again no_items (r ∷ rs) h = absurd h
each_text_means read_again (item d ds) [] h = tt
each_text_means read_again (item d ds) (r ∷ rs) h = (report_text_means read_again d r h.0, each_text_means read_again ds rs h.1)

pub report_texts_mean : CanonIsRead → ReportTextsMean
unfolding manifest_of
report_texts_mean read_again signed m h = by_value (read signed) refl
  where
    by_value : (o : Option Data) → read signed ≡ o → AllByRecursion (λ r. report_of r.envelope.signed ≡ Some r.report) m.reports
    by_value None e = let none : option_and_then (λ d. value_of (manifest_in d)) None ≡ Some m = ap (option_and_then (λ d. value_of (manifest_in d))) (sym e) ∙ h in cc
    by_value (Some d) e =
        let has : value_of (manifest_in d) ≡ Some m = ap (option_and_then (λ d. value_of (manifest_in d))) (sym e) ∙ h in
        let means = manifest_read d m (value_of_some _ m has) in
        each_text_means read_again means.listed m.reports means.reports
