use Rattle.std.proofs.Common.{◌≡◌, ◌++◌, ◌∷◌, [], Some, None, option_map, ap, sym, ◌∙◌, arith}
use Rattle.up_machine.specs.State.{report_of}
use Rattle.up_machine.specs.ManifestRows.{fitted_with, fitted_of}
use Rattle.up_machine.proofs.Taken.{passed_over, taken}
use Rattle.up_machine.proofs.reported.fitted_ecus.Goals as goal

pub loop-row-preserved-in_default : goal.loop-row-preserved-in_default
loop-row-preserved-in_default c =
    let none : report_of c.row-item.result.ecu c.args.reports.now ≡ None = sym c.report_of.ensures ∙ ap (option_map (λ v. v.now)) c.in_default.is in
    c.loop-row.invariant
    ∙ sym (passed_over (fitted_of c.args.reports.now) c.args.rows.now c.loop-row.row-index c.row-item.result (omega arith) c.row-item.is (ap (option_map (fitted_with c.row-item.result)) none))

pub loop-row-preserved : goal.loop-row-preserved
loop-row-preserved c =
    let some : report_of c.row-item.result.ecu c.args.reports.now ≡ Some c.in-Some.report.now = sym c.report_of.ensures ∙ ap (option_map (λ v. v.now)) c.in-Some.is in
    c.in_ok-push.ensures.items ∙ ap (λ f. c.loop-row.fitted.items ++ f ∷ []) c.in_ok-fitted_ecu.ensures ∙ ap (λ fs. fs ++ fitted_with c.row-item.result c.in-Some.report.now ∷ []) c.loop-row.invariant
    ∙ sym (taken (fitted_of c.args.reports.now) c.args.rows.now c.loop-row.row-index c.row-item.result _ (omega arith) c.row-item.is (ap (option_map (fitted_with c.row-item.result)) some))
