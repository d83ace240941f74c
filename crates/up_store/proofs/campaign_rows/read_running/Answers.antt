use Rattle.std.proofs.Common.{[], subst, sym}
use Rattle.std.specs.FinMap as table
use Rattle.std.proofs.lemmas.List.{take_all}
use Rattle.up_store.proofs.Common.{InTurn, PutsCampaign}
use Rattle.up_store.proofs.ColumnTables.{AreRead, campaign_of, running_begun, running_more, running_ended}
use Rattle.up_store.proofs.MemoryAlone.{memory_on}
use Rattle.up_store.proofs.ReadRows.{in_turn_more}
use Rattle.up_store.proofs.campaign_rows.read_running.Goals as goal

pub loop-row-preserved : goal.loop-row-preserved
loop-row-preserved c = (
  (λ campaigns are.
      running_more campaigns c.args.shown.now c.loop-row.row-index c.row-item.result c.loop-row.running c.add_running.new.running c.loop-row-test.true c.row-item.is are c.in_ok-add_running.ensures.same
      (c.loop-row.invariant.0 campaigns are)),
  in_turn_more PutsCampaign c.args.shown.now c.loop-row.row-index c.row-item.result table.empty c.loop-row.running c.add_running.new.running c.loop-row-test.true c.row-item.is c.loop-row.invariant.1 c.in_ok-add_running.ensures.told,
)

pub loop-row-init : goal.loop-row-init
loop-row-init c = ((λ campaigns are. subst (AreRead [] campaigns) (sym c.new-running.ensures) (running_begun campaigns)), c.new-running.ensures)

pub returns-clause-same : goal.returns-clause-same
returns-clause-same c = λ campaigns are.
    running_ended campaigns c.args.shown.now c.loop-row.running are
    (subst (λ rows. AreRead rows campaigns c.loop-row.running) (take_all c.loop-row.row-index c.args.shown.now c.loop-row-test.false) (c.loop-row.invariant.0 campaigns are))

pub returns-clause-told : goal.returns-clause-told
returns-clause-told c = subst (λ rows. InTurn PutsCampaign rows table.empty c.loop-row.running) (take_all c.loop-row.row-index c.args.shown.now c.loop-row-test.false) c.loop-row.invariant.1

pub returns-in_err-add_running-clause-fault : goal.returns-in_err-add_running-clause-fault
returns-in_err-add_running-clause-fault c = λ campaigns are.
    let of = campaign_of campaigns c.args.shown.now c.loop-row.row-index c.row-item.result c.loop-row-test.true c.row-item.is are in
    memory_on c.from_residual.result c.in_err-add_running.field-0.0 c.from_residual.ensures.1 (c.in_err-add_running.ensures.fault _ of.0 (are.typed _ of.0 of.1) of.2)
