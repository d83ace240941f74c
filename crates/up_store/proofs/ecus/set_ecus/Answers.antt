use Rattle.std.proofs.Common.{◌≡◌, ◌∙◌, ap, List, ℕ, Ok, Err, length, map, subst, sym, refl, arith}
use Rattle.std.proofs.lemmas.List.{length-map, take_all}
use Rattle.up_tables.proofs.EcuSets.{counted, next_set, none_set, set_all, SetSoFar}
use Rattle.up_tables.proofs.EcuLines.{got_at}
use Rattle.up_store.proofs.Common.{AllByRecursion, ⊤, state, Row, line, EcuLine, ecu_row, update_ecu_text, each_ends, each_fails, each_next, each_starts, statement_at, ecu_line, ecu_lines, IsTypedEcu}
use Rattle.up_store.proofs.MadeRows.{each_more}
use Rattle.up_store.proofs.VehiclePuts.{as_set, length-ecu_lines, line_at}
use Rattle.up_store.proofs.ecus.set_ecus.Goals as goal

abbrev it : EcuLine → List ℕ × Row
it e = (update_ecu_text, ecu_row e)

pub loop-place-init : goal.loop-place-init
loop-place-init g c =
    let name = c.args.vehicle.now in
    let rows = ecu_lines name 0 c.args.ecus.now in (
      each_starts g.D.Store (map it rows) (SetSoFar name rows) c.args.tx.now.conn (none_set name rows (state g.D.Store c.args.tx.now.conn.now)),
      tt,
    )

pub loop-place-preserved : goal.loop-place-preserved
loop-place-preserved g c =
    let name = c.args.vehicle.now in
    let rows = ecu_lines name 0 c.args.ecus.now in
    let at = c.loop-place.place in
    let e = ecu_line name at c.index-ecus-place.result in
    let there = got_at c.args.ecus.now at c.index-ecus-place.result (omega (arith, c.loop-place-test.true)) c.index-ecus-place.is in
    let row_there = line_at name at c.args.ecus.now c.index-ecus-place.result there in
    let to : line c.text.result.now at c.ecu_of.result ≡ e = ap (λ v. line v at c.ecu_of.result) c.text.ensures.value ∙ c.ecu_of.ensures.is name at in
    let one = as_set {A = ⊤} g.D.Store _ e to c.loop-place.tx.conn c.update_ecu.new.tx.conn (Ok tt) c.in_ok-update_ecu.ensures in (
      each_next g.D.Store (map it rows) (SetSoFar name rows) at (it e) _ c.args.tx.now.conn c.loop-place.tx.conn c.update_ecu.new.tx.conn tt (statement_at it rows at e row_there) one (λ clean so_far wrote. counted name rows at _ _ (next_set name rows at e _ _ _ refl row_there so_far (wrote clean))) c.loop-place.invariant.0,
      each_more IsTypedEcu c.args.ecus.now at c.index-ecus-place.result c.loop-place.invariant.1 there c.ecu_of.ensures.typed,
    )

pub returns-clause-set : goal.returns-clause-set
returns-clause-set g c =
    let name = c.args.vehicle.now in
    let rows = ecu_lines name 0 c.args.ecus.now in
    let at = c.loop-place.place in
    let end : at ≡ length rows = omega (arith, c.loop-place-test.false, c.loop-place.auto.place-end, length-ecu_lines name 0 c.args.ecus.now) in
    each_ends g.D.Store (map it rows) (SetSoFar name rows) at _ c.args.tx.now.conn c.loop-place.tx.conn tt (end ∙ sym (length-map rows it)) (λ written clean. set_all name rows at _ _ end (written clean)) c.loop-place.invariant.0

pub returns-clause-typed : goal.returns-clause-typed
returns-clause-typed g c = subst (AllByRecursion IsTypedEcu) (take_all c.loop-place.place c.args.ecus.now c.loop-place-test.false) c.loop-place.invariant.1

pub returns-in_err-update_ecu-clause-set : goal.returns-in_err-update_ecu-clause-set
returns-in_err-update_ecu-clause-set g c =
    let name = c.args.vehicle.now in
    let rows = ecu_lines name 0 c.args.ecus.now in
    let at = c.loop-place.place in
    let f = c.in_err-update_ecu.field-0.0 in
    let e = ecu_line name at c.index-ecus-place.result in
    let there = got_at c.args.ecus.now at c.index-ecus-place.result (omega (arith, c.loop-place-test.true)) c.index-ecus-place.is in
    let to : line c.text.result.now at c.ecu_of.result ≡ e = ap (λ v. line v at c.ecu_of.result) c.text.ensures.value ∙ c.ecu_of.ensures.is name at in
    each_fails g.D.Store (map it rows) (SetSoFar name rows) at (it e) _ _ c.args.tx.now.conn c.loop-place.tx.conn c.update_ecu.new.tx.conn c.from_residual.result f c.from_residual.ensures.1 (statement_at it rows at e (line_at name at c.args.ecus.now c.index-ecus-place.result there)) (λ other clean. tt)
    (as_set {A = ⊤} g.D.Store _ e to c.loop-place.tx.conn c.update_ecu.new.tx.conn (Err f) c.in_err-update_ecu.ensures) c.loop-place.invariant.0
