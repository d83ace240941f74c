use Rattle.std.proofs.Common.{◌++◌, ℕ, List}
use Rattle.std.specs.Prelude.{⊤}
use Rattle.sqlite.specs.Held.{state}
use Rattle.sqlite.specs.Order.{Row}
use Rattle.up_tables.specs.Making.{alone, drop_keys_text, same_numbers_text, set_schema_text}
use Rattle.up_tables.specs.Statements.{RaisesAny}
use Rattle.up_tables.specs.Tables.{image_repository_table, image_repository_text, retired_vehicle_table, retired_vehicle_text, third_schema, with_image_repository}
use Rattle.up_tables.specs.Versions.{ListsTen}
use Rattle.up_tables.proofs.CallLemmas.{clean_before}
use Rattle.up_tables.proofs.MadeSteps.{raises_first, raises_table, raises_then}
use Rattle.up_tables.proofs.RaiseLemmas.{third_raised}
use Rattle.up_tables.proofs.RunLemmas.{not_ok, then_ok}
use Rattle.up_tables.proofs.raise.raise_third.Goals as goal

abbrev rest_two : List (List ℕ × Row)
rest_two = alone drop_keys_text ++ alone set_schema_text

abbrev rest_three : List (List ℕ × Row)
rest_three = alone same_numbers_text ++ rest_two

abbrev rest_four : List (List ℕ × Row)
rest_four = alone retired_vehicle_text ++ rest_three

pub returns-in_err-make_image_repository : goal.returns-in_err-make_image_repository
returns-in_err-make_image_repository g c mode =
    raises_first g.S.Store (alone image_repository_text) rest_four _ (RaisesAny third_schema ListsTen) _ _ _ c.from_residual.result c.from_residual.ensures.1
    (raises_table g.S.Store third_schema image_repository_table image_repository_text _ _ _ c.in_err-make_image_repository.ensures mode) (λ e clean. tt)

pub returns-in_err-make_retired_vehicle : goal.returns-in_err-make_retired_vehicle
returns-in_err-make_retired_vehicle g c mode =
    let r = c.from_residual-in_err-make_retired_vehicle in
    let one = c.in_ok-make_image_repository.ensures mode in
    raises_then g.S.Store (alone image_repository_text) rest_four _ (λ _ _ _. ⊤) (RaisesAny third_schema ListsTen) _ _ _ _ _
    (raises_table g.S.Store third_schema image_repository_table image_repository_text _ _ _ c.in_ok-make_image_repository.ensures mode)
    (raises_first g.S.Store (alone retired_vehicle_text) rest_three _ (λ _ _ _. ⊤) _ _ _ r.result r.ensures.1
    (raises_table g.S.Store with_image_repository retired_vehicle_table retired_vehicle_text _ _ _ c.in_err-make_retired_vehicle.ensures one.step.inside) (λ e. tt))
    (λ clean. not_ok _ _ r.result r.ensures.1)

pub returns-in_err-same_numbers : goal.returns-in_err-same_numbers
returns-in_err-same_numbers g c mode =
    let r = c.from_residual-in_err-same_numbers in
    let one = c.in_ok-make_image_repository.ensures mode in
    let two = c.in_ok-make_retired_vehicle.ensures one.step.inside in
    raises_then g.S.Store (alone image_repository_text) rest_four _ (λ _ _ _. ⊤) (RaisesAny third_schema ListsTen) _ _ _ _ _
    (raises_table g.S.Store third_schema image_repository_table image_repository_text _ _ _ c.in_ok-make_image_repository.ensures mode)
    (raises_then g.S.Store (alone retired_vehicle_text) rest_three _ (λ _ _ _. ⊤) (λ _ _ _. ⊤) _ _ _ _ _
    (raises_table g.S.Store with_image_repository retired_vehicle_table retired_vehicle_text _ _ _ c.in_ok-make_retired_vehicle.ensures one.step.inside)
    (raises_first g.S.Store (alone same_numbers_text) rest_two _ (λ _ _ _. ⊤) _ _ _ r.result r.ensures.1 (c.in_err-same_numbers.ensures two.step.inside) (λ e. tt)) tt)
    (λ clean. not_ok _ _ r.result r.ensures.1)

pub returns-in_err-drop_keys : goal.returns-in_err-drop_keys
returns-in_err-drop_keys g c mode =
    let r = c.from_residual-in_err-drop_keys in
    let one = c.in_ok-make_image_repository.ensures mode in
    let two = c.in_ok-make_retired_vehicle.ensures one.step.inside in
    let three = c.in_ok-same_numbers.ensures two.step.inside in
    raises_then g.S.Store (alone image_repository_text) rest_four _ (λ _ _ _. ⊤) (RaisesAny third_schema ListsTen) _ _ _ _ _
    (raises_table g.S.Store third_schema image_repository_table image_repository_text _ _ _ c.in_ok-make_image_repository.ensures mode)
    (raises_then g.S.Store (alone retired_vehicle_text) rest_three _ (λ _ _ _. ⊤) (λ _ _ _. ⊤) _ _ _ _ _
    (raises_table g.S.Store with_image_repository retired_vehicle_table retired_vehicle_text _ _ _ c.in_ok-make_retired_vehicle.ensures one.step.inside)
    (raises_then g.S.Store (alone same_numbers_text) rest_two _ (λ _ _ _. ⊤) (λ _ _ _. ⊤) _ _ _ _ _ three
    (raises_first g.S.Store (alone drop_keys_text) (alone set_schema_text) _ (λ _ _ _. ⊤) _ _ _ r.result r.ensures.1 (c.in_err-drop_keys.ensures three.step.inside) (λ e. tt)) tt) tt)
    (λ clean. not_ok _ _ r.result r.ensures.1)

pub returns : goal.returns
returns g c mode =
    let one = c.in_ok-make_image_repository.ensures mode in
    let two = c.in_ok-make_retired_vehicle.ensures one.step.inside in
    let three = c.in_ok-same_numbers.ensures two.step.inside in
    let four = c.in_ok-drop_keys.ensures three.step.inside in
    let last = c.set_schema.ensures four.step.inside in
    raises_then g.S.Store (alone image_repository_text) rest_four _ (λ _ _ _. ⊤) (RaisesAny third_schema ListsTen) _ _ _ _ _
    (raises_table g.S.Store third_schema image_repository_table image_repository_text _ _ _ c.in_ok-make_image_repository.ensures mode)
    (raises_then g.S.Store (alone retired_vehicle_text) rest_three _ (λ _ _ _. ⊤) (λ _ _ _. ⊤) _ _ _ _ _
    (raises_table g.S.Store with_image_repository retired_vehicle_table retired_vehicle_text _ _ _ c.in_ok-make_retired_vehicle.ensures one.step.inside)
    (raises_then g.S.Store (alone same_numbers_text) rest_two _ (λ _ _ _. ⊤) (λ _ _ _. ⊤) _ _ _ _ _ three
    (raises_then g.S.Store (alone drop_keys_text) (alone set_schema_text) _ _ (λ _ _ _. ⊤) _ _ _ _ _ four last tt) tt) tt)
    (λ clean.
    let clean_four = clean_before _ (state g.S.Store c.set_schema.new.tx.conn.now) last.step.steps clean in
    let clean_three = clean_before _ _ four.step.steps clean_four in
    let clean_two = clean_before _ _ three.step.steps clean_three in
    let clean_one = clean_before _ _ two.step.steps clean_two in
    then_ok c.set_schema.result
    (λ sets number rows within.
    third_raised number rows _ (state g.S.Store c.make_image_repository.new.tx.conn.now) (state g.S.Store c.make_retired_vehicle.new.tx.conn.now) (state g.S.Store c.same_numbers.new.tx.conn.now) (state g.S.Store c.drop_keys.new.tx.conn.now) _ within (one.made clean_one)
    (two.made clean_two) (three.raised clean_three) (four.raised clean_four) sets) (last.raised clean))
