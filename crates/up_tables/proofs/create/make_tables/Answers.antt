use Rattle.std.proofs.Common.{◌++◌}
use Rattle.up_tables.specs.Making.{inventory_making, later_making, repositories_making}
use Rattle.up_tables.proofs.MadeSteps.{makes_first, makes_then}
use Rattle.up_tables.proofs.create.make_tables.Goals as goal

pub returns-in_err-make_repositories : goal.returns-in_err-make_repositories
returns-in_err-make_repositories g c =
    let G = g.S.Store in
    makes_first G repositories_making (inventory_making ++ later_making) _ _ _ _ _ _ c.from_residual.result c.from_residual.ensures.1 c.in_err-make_repositories.ensures

pub returns-in_err-make_inventory : goal.returns-in_err-make_inventory
returns-in_err-make_inventory g c =
    let G = g.S.Store in
    makes_then G repositories_making (inventory_making ++ later_making) _ _ _ _ _ _ _ _ c.in_ok-make_repositories.ensures (makes_first G inventory_making later_making _ _ _ _ _ _ c.from_residual-in_err-make_inventory.result c.from_residual-in_err-make_inventory.ensures.1 c.in_err-make_inventory.ensures)

pub returns : goal.returns
returns g c =
    let G = g.S.Store in
    makes_then G repositories_making (inventory_making ++ later_making) _ _ _ _ _ _ _ _ c.in_ok-make_repositories.ensures (makes_then G inventory_making later_making _ _ _ _ _ _ _ _ c.in_ok-make_inventory.ensures c.make_later.ensures)
