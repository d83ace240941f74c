use Rattle.std.proofs.Common.{◌<◌, length, sym, subst, ap, ◌∙◌, arith}
use Rattle.std.specs.FinMap as map
use Rattle.std.specs.List.Sorted.{IsStrictlySortedBy}
use Rattle.std.specs.Ordering.{nat_cmp}
use Rattle.std.specs.Cmp.Lexicographic.{slice_cmp}
use Rattle.up_canon.proofs.Searches.{in_order_rise}
use Rattle.up_canon.proofs.TableLemmas.{found_fits, found_at, get_placed}
use Rattle.up_canon.proofs.table.Table.get.Goals as goal

pub place_for-requires : goal.place_for-requires
place_for-requires g c = subst (IsStrictlySortedBy (slice_cmp nat_cmp)) (sym c.as_slice.ensures.value) (in_order_rise _ c.self.inside.values.items c.self.invariant)

pub index-requires : goal.index-requires
index-requires g c =
    let within : c.in-Ok.place < length c.self.inside.values.items = found_fits _ _ _ _ _ c.self.invariant c.as_slice.ensures.value c.in-Ok.ensures in omega arith

pub returns-in-Ok : goal.returns-in-Ok
returns-in-Ok g c =
    found_at c.self.inside.values.items c.in-Ok.place c.index.result.now
    (found_fits _ _ _ _ _ c.self.invariant c.as_slice.ensures.value c.in-Ok.ensures) c.index.ensures
    ∙ get_placed _ _ _ _ _ c.self.invariant c.as_slice.ensures.value c.in-Ok.ensures
    ∙ ap (λ m. map.get m c.args.name.now) c.self.view_is

pub returns-in-Err : goal.returns-in-Err
returns-in-Err g c =
    get_placed _ _ _ _ _ c.self.invariant c.as_slice.ensures.value c.in-Err.ensures ∙ ap (λ m. map.get m c.args.name.now) c.self.view_is
