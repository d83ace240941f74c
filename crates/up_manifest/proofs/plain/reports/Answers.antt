use Rattle.std.proofs.Common.{rules, ◌≡◌, List, [], ◌∷◌, ◌++◌, ◌∙◌, length, map, length-append, sym, ap, subst, arith}
use Rattle.std.specs.List.{join_with_byte}
use Rattle.up_canon.proofs.Joined.{separator_after}
use Rattle.up_sign.specs.Formats.{envelope_text}
use Rattle.up_manifest.specs.Plain.{AreReports}
use Rattle.up_manifest.specs.declared.report.SignedReport.{SignedReport}
use Rattle.up_manifest.proofs.PlainReports.{after-push, texts-push, reports-push}
use Rattle.up_manifest.proofs.plain.reports.Goals as goal

pub reports-preserved : goal.reports-preserved
reports-preserved c =
    let rs = c.reports.reports.items in
    let r = c.in_ok-signed_report.field-0 in
    let f = λ (s : SignedReport). envelope_text s.envelope in
    let rest = c.signed_report.new.cursor.rest.now in
    let all : c.push.new.self.items ≡ rs ++ r ∷ [] = c.in_ok-push.ensures.items in
    let longer = c.in_ok-push.ensures.len in
    let counted = c.reports.invariant.counted in
    let front =
    sym c.if-takes.ensures ∙ c.in_ok-pass-2.ensures ∙ ap (λ m. m ++ c.pass-in-reports.new.self.rest.now) c.reports.invariant.separator
    ∙ ap (λ t. separator_after rs ++ t) c.in_ok-signed_report.ensures.text in
    record {
      utf8 = search rules;
      text = c.reports.invariant.text ∙ ap (λ t. 91 ∷ (join_with_byte 44 (map f rs) ++ t)) front ∙ ap (λ t. 91 ∷ t) (texts-push f rs r rest)
          ∙ ap (λ (xs : List SignedReport). 91 ∷ (join_with_byte 44 (map f xs) ++ rest)) (sym all);
      separator = after-push rs r ∙ ap (λ (xs : List SignedReport). separator_after xs) (sym all);
      fits = subst AreReports (sym all) (reports-push rs r c.reports.invariant.fits c.in_ok-signed_report.ensures.fits);
      counted = omega (arith, ap length all, length-append rs (r ∷ []), longer, counted);
    }
