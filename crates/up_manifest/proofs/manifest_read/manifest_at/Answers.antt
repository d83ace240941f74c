use Rattle.std.proofs.Common.{subst, sym, ◌∙◌}
use Rattle.up_canon.specs.Refusals.{Gives}
use Rattle.up_manifest.specs.Manifests.{manifest_in}
use Rattle.up_canon.proofs.Steps.{bind-ok, gives_err}
use Rattle.up_manifest.proofs.manifest_read.manifest_at.Goals as goal

pub returns-in_err-vehicle : goal.returns-in_err-vehicle
unfolding manifest_in
returns-in_err-vehicle c =
    subst (Gives c.from_residual-in_err-vehicle.result) (sym (bind-ok _ _ tt c.in_ok-word_at.ensures))
    (gives_err c.from_residual-in_err-vehicle.result c.in_err-vehicle.field-0.0 _ _ c.from_residual-in_err-vehicle.ensures.1 c.in_err-vehicle.ensures)

pub returns-in_err-primary : goal.returns-in_err-primary
unfolding manifest_in
returns-in_err-primary c =
    subst (Gives c.from_residual-in_err-primary.result) (sym (bind-ok _ _ tt c.in_ok-word_at.ensures ∙ bind-ok _ _ _ c.in_ok-vehicle.ensures))
    (gives_err c.from_residual-in_err-primary.result c.in_err-primary.field-0.0 _ _ c.from_residual-in_err-primary.ensures.1 c.in_err-primary.ensures)

pub returns-in_err-reports : goal.returns-in_err-reports
unfolding manifest_in
returns-in_err-reports c =
    subst (Gives c.from_residual-in_err-reports.result) (sym (bind-ok _ _ tt c.in_ok-word_at.ensures ∙ bind-ok _ _ _ c.in_ok-vehicle.ensures ∙ bind-ok _ _ _ c.in_ok-primary.ensures ∙ bind-ok _ _ _ c.in_ok-counter.ensures))
    (gives_err c.from_residual-in_err-reports.result c.in_err-reports.field-0.0 _ _ c.from_residual-in_err-reports.ensures.1 c.in_err-reports.ensures)
