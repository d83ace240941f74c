use Rattle.std.proofs.Common.{◌≡◌, length, sym, ap, ◌∙◌, arith}
use Rattle.std.specs.FinMap as map
use Rattle.up_canon.proofs.TableLemmas.{len-table_of}
use Rattle.up_canon.proofs.table.Table.len.Goals as goal

pub returns : goal.returns
returns g c =
    let size : map.len c.args.self.now ≡ length c.self.inside.names.items = ap map.len (sym c.self.view_is) ∙ len-table_of _ _ c.self.invariant in
    let counted = c.len.ensures in omega (arith, size, counted)
