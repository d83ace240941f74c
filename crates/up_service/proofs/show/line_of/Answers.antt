use Rattle.std.proofs.Common.{◌++◌, append-nil, ap, sym, ◌∙◌}
use Rattle.std.proofs.lemmas.List.{take_all}
use Rattle.std.specs.Prelude.{flat_map}
use Rattle.up_script.specs.PrintedLines.{vehicle_text}
use Rattle.up_service.specs.LineAnswers.{row_text}
use Rattle.up_service.proofs.Showing.{row_more}
use Rattle.up_service.proofs.show.line_of.Goals as goal

pub loop-row-init : goal.loop-row-init
loop-row-init c = c.in_ok-line.ensures ∙ sym (append-nil (vehicle_text c.args.rows.now.vehicle.vehicle c.args.rows.now.vehicle.version))

pub loop-row-preserved : goal.loop-row-preserved
loop-row-preserved c =
    row_more c.args.plan.now c.as_slice-ecus.result.now c.loop-row.row-index _ (vehicle_text c.args.rows.now.vehicle.vehicle c.args.rows.now.vehicle.version) _ _ c.loop-row-test.true c.row-item.is c.loop-row.invariant c.in_ok-push_row.ensures

pub returns : goal.returns
returns c =
    let rows = c.args.rows.now in
    c.loop-row.invariant
    ∙ ap (λ es. vehicle_text rows.vehicle.vehicle rows.vehicle.version ++ flat_map (row_text c.args.plan.now) es) (take_all c.loop-row.row-index c.as_slice-ecus.result.now c.loop-row-test.false ∙ c.as_slice-ecus.ensures)
