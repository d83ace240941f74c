use Rattle.std.proofs.Common.{◌≡◌, ◌<◌, ◌≤◌, length, Ok, Err, sym, subst, ap, ap₂, ◌∙◌, arith}
use Rattle.std.specs.FinMap as map
use Rattle.std.specs.List.Sorted.{IsStrictlySortedBy}
use Rattle.std.specs.Ordering.{nat_cmp}
use Rattle.std.specs.Cmp.Lexicographic.{slice_cmp}
use Rattle.std.specs.Prelude.{insert}
use Rattle.up_canon.specs.Tables.{place_of}
use Rattle.up_canon.proofs.Searches.{in_order_rise}
use Rattle.up_canon.proofs.TableLemmas.{table_of, found_fits, missing_fits, in_order_placed, insert_placed}
use Rattle.up_canon.proofs.table.Table.insert.Goals as goal

pub place_for-requires : goal.place_for-requires
place_for-requires g c = subst (IsStrictlySortedBy (slice_cmp nat_cmp)) (sym c.as_slice.ensures.value) (in_order_rise _ c.self.inside.values.items c.self.invariant)

pub index_mut-requires : goal.index_mut-requires
index_mut-requires g c =
    let within : c.in-Ok.place < length c.self.inside.values.items = found_fits _ _ _ _ _ c.self.invariant c.as_slice.ensures.value c.in-Ok.ensures in omega arith

pub invariant_of-self : goal.invariant_of-self
invariant_of-self g c =
    in_order_placed c.args.name c.args.value _ _ c.self.inside.values.items (Ok c.in-Ok.place) c.self.invariant c.as_slice.ensures.value (c.in-Ok.ensures ∙ ap (λ q. place_of q c.as_slice.result.now) c.as_str.ensures)

pub insert_at-requires-clause-within : goal.insert_at-requires-clause-within
insert_at-requires-clause-within g c =
    let fits = missing_fits _ _ _ _ _ c.self.invariant c.as_slice.ensures.value c.in-Err.ensures in
    let within : c.in-Err.place ≤ length c.self.inside.names.items = fits.0 in
    let same = c.reserve.ensures.len in omega (arith, within, same)

pub insert_at-requires-in-Err-clause-within : goal.insert_at-requires-in-Err-clause-within
insert_at-requires-in-Err-clause-within g c =
    let fits = missing_fits _ _ _ _ _ c.self.invariant c.as_slice.ensures.value c.in-Err.ensures in
    let within : c.in-Err.place ≤ length c.self.inside.values.items = fits.1 in
    let same = c.reserve-in-Err.ensures.len in omega (arith, within, same)

pub invariant_of-self-in-Err : goal.invariant_of-self-in-Err
invariant_of-self-in-Err g c =
    let names : c.insert_at.new.items.items ≡ insert c.self.inside.names.items c.in-Err.place c.args.name
    = c.insert_at.ensures ∙ ap (λ xs. insert xs c.in-Err.place c.args.name) c.reserve.ensures.items in
    let values : c.insert_at-in-Err.new.items.items ≡ insert c.self.inside.values.items c.in-Err.place c.args.value
    = c.insert_at-in-Err.ensures ∙ ap (λ xs. insert xs c.in-Err.place c.args.value) c.reserve-in-Err.ensures.items in
    rw (names, values) (
    in_order_placed c.args.name c.args.value _ _ c.self.inside.values.items (Err c.in-Err.place) c.self.invariant c.as_slice.ensures.value (c.in-Err.ensures ∙ ap (λ q. place_of q c.as_slice.result.now) c.as_str.ensures)
    )

pub returns-in-Ok-clause-ok : goal.returns-in-Ok-clause-ok
returns-in-Ok-clause-ok g c =
    insert_placed c.args.name c.args.value _ _ c.self.inside.values.items (Ok c.in-Ok.place) c.self.invariant c.as_slice.ensures.value (c.in-Ok.ensures ∙ ap (λ q. place_of q c.as_slice.result.now) c.as_str.ensures)
    ∙ ap (λ m. map.insert m c.args.name c.args.value) c.self.view_is

pub returns-in_ok-reserve-in-Err-2-clause-ok : goal.returns-in_ok-reserve-in-Err-2-clause-ok
returns-in_ok-reserve-in-Err-2-clause-ok g c =
    ap₂ table_of (c.insert_at.ensures ∙ ap (λ xs. insert xs c.in-Err.place c.args.name) c.reserve.ensures.items)
    (c.insert_at-in-Err.ensures ∙ ap (λ xs. insert xs c.in-Err.place c.args.value) c.reserve-in-Err.ensures.items)
    ∙ insert_placed c.args.name c.args.value _ _ c.self.inside.values.items (Err c.in-Err.place) c.self.invariant c.as_slice.ensures.value (c.in-Err.ensures ∙ ap (λ q. place_of q c.as_slice.result.now) c.as_str.ensures)
    ∙ ap (λ m. map.insert m c.args.name c.args.value) c.self.view_is
