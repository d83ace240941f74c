use Rattle.std.proofs.Common.{arith, take, subst, sym}
use Rattle.up_tables.specs.Stored.{EachSays, Tells}
use Rattle.up_tables.proofs.ColumnLemmas.{handed_on}
use Rattle.up_tables.proofs.SaysLemmas.{said_there, says_more}
use Rattle.up_tables.proofs.reading.values_of.Goals as goal

pub loop-row-preserved : goal.loop-row-preserved
loop-row-preserved g c =
    let P = Tells g.R.RowReading.says g.R.RowReading.fits g.R.RowReading.line in
    subst (EachSays P (take _ c.args.rows.now)) (sym c.in_ok-push.ensures.items)
    (says_more P c.args.rows.now c.loop-row.row-index c.row-item.result c.loop-row.read.items c.in_ok-read-2.field-0 (omega (arith, c.loop-row-test.true)) c.row-item.is c.loop-row.invariant
    (record { said = c.in_ok-read-2.ensures.said; same = c.in_ok-read-2.ensures.same }))

pub returns-in_err-read-2-clause-damaged : goal.returns-in_err-read-2-clause-damaged
returns-in_err-read-2-clause-damaged g c =
    handed_on c.from_residual-in_err-read-2.result c.in_err-read-2.field-0.0 _ c.from_residual-in_err-read-2.ensures.1
    (λ store read fit said.
    let there = said_there g.R.RowReading.says g.R.RowReading.fits c.args.rows.now c.loop-row.row-index c.row-item.result read (omega (arith, c.loop-row-test.true)) c.row-item.is fit said in
    c.in_err-read-2.ensures.damaged store there.0 there.1 there.2)
