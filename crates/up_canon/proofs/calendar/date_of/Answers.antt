use Rattle.std.proofs.Common.{◌∙◌, arith, FitsSigned, w64}
use Rattle.std.proofs.lemmas.Int.{to_z-of_z}
use Rattle.jiff.proofs.SpanFacts.{signed_arith, date_add-days, can_add-days}
use Rattle.up_canon.proofs.calendar.date_of.Goals as goal

pub returns : goal.returns
returns c =
    let fits : FitsSigned w64 c.args.day = c.ranges.day in
    let only = simp to_z-of_z at c.days.ensures in
    let sum = c.in-Ok.ensures.value ∙ date_add-days c.epoch.result c.args.day c.days.result only in
    omega (arith, signed_arith, sum, c.epoch.ensures)

pub unreachable-requires : goal.unreachable-requires
unreachable-requires c =
    let fits : FitsSigned w64 c.args.day = c.ranges.day in
    let only = simp to_z-of_z at c.days.ensures in
    let can = can_add-days c.epoch.result c.args.day c.days.result only in
    let first = c.epoch.ensures in
    let ok = c.in-Err.ensures.succeeds.1 (can.1 (omega (arith, signed_arith, first, c.requires.low, c.requires.high), omega (arith, signed_arith, first, c.requires.low, c.requires.high))) in
    cc
