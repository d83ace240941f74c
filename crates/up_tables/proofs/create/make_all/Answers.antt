use Rattle.std.proofs.Common.{◌++◌}
use Rattle.up_tables.specs.Lines.{AreNamed}
use Rattle.up_tables.specs.Making.{alone, first_numbers_text, name_text, tables_making}
use Rattle.up_tables.proofs.MadeSteps.{makes_first, makes_on, makes_then}
use Rattle.up_tables.proofs.create.make_all.Goals as goal

pub returns-in_err-make_tables : goal.returns-in_err-make_tables
returns-in_err-make_tables g c =
    let G = g.S.Store in
    makes_first G tables_making (alone name_text ++ alone first_numbers_text) _ _ _ _ _ _ c.from_residual.result c.from_residual.ensures.1 c.in_err-make_tables.ensures c.requires

pub returns-in_err-name_tables : goal.returns-in_err-name_tables
returns-in_err-name_tables g c =
    let G = g.S.Store in
    let r = c.from_residual-in_err-name_tables in
    makes_then G tables_making (alone name_text ++ alone first_numbers_text) _ _ _ _ _ _ _ _ c.in_ok-make_tables.ensures
    (makes_first G (alone name_text) (alone first_numbers_text) _ _ _ _ _ _ r.result r.ensures.1 c.in_err-name_tables.ensures) c.requires

pub returns : goal.returns
returns g c =
    let G = g.S.Store in
    makes_then G tables_making (alone name_text ++ alone first_numbers_text) _ _ _ _ _ _ _ _ c.in_ok-make_tables.ensures
    (makes_on G (alone name_text) (alone first_numbers_text) AreNamed _ _ _ _ _ _ _ _ c.in_ok-name_tables.ensures c.number_tables.ensures) c.requires
