use Rattle.std.proofs.Common.{[], length, take, subst, sym, ◌∙◌}
use Rattle.std.specs.FinMap as table
use Rattle.std.proofs.lemmas.Iterator.Adapters.{YieldsList-from_vec}
use Rattle.std.proofs.lemmas.Iterator.Consumers.{YieldsList-end, YieldsList-so_far, YieldsList-turn}
use Rattle.std.proofs.lemmas.List.{length_push}
use Rattle.up_store.proofs.Common.{InTurn, PutsSha512}
use Rattle.up_store.proofs.ColumnTables.{AreHashesSofar, hashes_begun, hashes_more, hashes_ended}
use Rattle.up_store.proofs.ReadRows.{in_turn_more}
use Rattle.up_store.proofs.second_hashes.by_file.Goals as goal

pub loop-row-preserved : goal.loop-row-preserved
loop-row-preserved c =
    let all = c.args.found.items in
    let turn = YieldsList-turn (YieldsList-from_vec all (cc) (cc)) c.loop-row.yielded _ c.loop-row.yielded_by _ c.next.new.self c.in-Some.row c.in-Some.is c.next.ensures.steps in (
      (λ images are.
          subst (λ n. AreHashesSofar (take n all) images c.insert.new.self) (sym (length_push c.loop-row.yielded c.in-Some.row))
          (hashes_more images all (length c.loop-row.yielded) c.in-Some.row c.loop-row.hashes c.insert.new.self turn.0 turn.1 are c.in_ok-insert.ensures.ok (c.loop-row.invariant.0 images are))),
      subst (λ n. InTurn PutsSha512 (take n all) table.empty c.insert.new.self) (sym (length_push c.loop-row.yielded c.in-Some.row))
          (in_turn_more PutsSha512 all (length c.loop-row.yielded) c.in-Some.row table.empty c.loop-row.hashes c.insert.new.self turn.0 turn.1 c.loop-row.invariant.1 c.in_ok-insert.ensures.ok),
    )

pub loop-row-init : goal.loop-row-init
loop-row-init c = ((λ images are. subst (AreHashesSofar [] images) (sym c.new-hashes.ensures) (hashes_begun images)), c.new-hashes.ensures)

pub returns-clause-same : goal.returns-clause-same
returns-clause-same c = λ images are.
    let all = c.args.found.items in
    let each = YieldsList-from_vec all (cc) (cc) in
    let whole = sym (YieldsList-so_far each c.loop-row.yielded _ c.loop-row.yielded_by) ∙ (YieldsList-end each c.loop-row.yielded _ c.loop-row.yielded_by _ c.next.new.self c.in-None.is c.next.ensures.steps).0 in
    hashes_ended images all c.loop-row.hashes are (subst (λ rows. AreHashesSofar rows images c.loop-row.hashes) whole (c.loop-row.invariant.0 images are))

pub returns-clause-told : goal.returns-clause-told
returns-clause-told c =
    let all = c.args.found.items in
    let each = YieldsList-from_vec all (cc) (cc) in
    let whole = sym (YieldsList-so_far each c.loop-row.yielded _ c.loop-row.yielded_by) ∙ (YieldsList-end each c.loop-row.yielded _ c.loop-row.yielded_by _ c.next.new.self c.in-None.is c.next.ensures.steps).0 in
    subst (λ rows. InTurn PutsSha512 rows table.empty c.loop-row.hashes) whole c.loop-row.invariant.1
