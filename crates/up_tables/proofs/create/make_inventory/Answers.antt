use Rattle.std.proofs.Common.{◌++◌}
use Rattle.up_tables.specs.Making.{alone}
use Rattle.up_tables.specs.Tables.{campaign_table, vehicle_table, ecu_table, kept_table, campaign_text, vehicle_text, ecu_text, kept_text, with_image, with_campaign, with_vehicle, with_ecu}
use Rattle.up_tables.proofs.MadeSteps.{makes_table, table_first, table_then}
use Rattle.up_tables.proofs.SchemaLemmas.{all_created, all_making}
use Rattle.up_tables.proofs.create.make_inventory.Goals as goal

pub returns-in_err-execute : goal.returns-in_err-execute
returns-in_err-execute g c =
    let G = g.S.Store in
    table_first G campaign_text (alone vehicle_text ++ (alone ecu_text ++ alone kept_text)) with_image campaign_table all_created.4 all_making.4 _ _ _ _ c.from_residual.result c.from_residual.ensures.1 c.in_err-execute.ensures.same_reference c.in_err-execute.ensures.survives c.in_err-execute.ensures.runs

pub returns-in_err-execute-2 : goal.returns-in_err-execute-2
returns-in_err-execute-2 g c =
    let G = g.S.Store in
    table_then G campaign_text (alone vehicle_text ++ (alone ecu_text ++ alone kept_text)) with_image campaign_table all_created.4 all_making.4 _ _ c.execute.new.self.conn _ _ _ c.in_ok-execute.ensures.same_reference c.in_ok-execute.ensures.survives c.in_ok-execute.ensures.runs
    (table_first G vehicle_text (alone ecu_text ++ alone kept_text) with_campaign vehicle_table all_created.5 all_making.5 _ _ _ _ c.from_residual-in_err-execute-2.result c.from_residual-in_err-execute-2.ensures.1 c.in_err-execute-2.ensures.same_reference c.in_err-execute-2.ensures.survives c.in_err-execute-2.ensures.runs)

pub returns-in_err-execute-3 : goal.returns-in_err-execute-3
returns-in_err-execute-3 g c =
    let G = g.S.Store in
    table_then G campaign_text (alone vehicle_text ++ (alone ecu_text ++ alone kept_text)) with_image campaign_table all_created.4 all_making.4 _ _ c.execute.new.self.conn _ _ _ c.in_ok-execute.ensures.same_reference c.in_ok-execute.ensures.survives c.in_ok-execute.ensures.runs
    (table_then G vehicle_text (alone ecu_text ++ alone kept_text) with_campaign vehicle_table all_created.5 all_making.5 _ _ c.execute-2.new.self.conn _ _ _ c.in_ok-execute-2.ensures.same_reference c.in_ok-execute-2.ensures.survives c.in_ok-execute-2.ensures.runs
    (table_first G ecu_text (alone kept_text) with_vehicle ecu_table all_created.6 all_making.6 _ _ _ _ c.from_residual-in_err-execute-3.result c.from_residual-in_err-execute-3.ensures.1 c.in_err-execute-3.ensures.same_reference c.in_err-execute-3.ensures.survives c.in_err-execute-3.ensures.runs))

pub returns : goal.returns
returns g c =
    let G = g.S.Store in
    table_then G campaign_text (alone vehicle_text ++ (alone ecu_text ++ alone kept_text)) with_image campaign_table all_created.4 all_making.4 _ _ c.execute.new.self.conn _ _ _ c.in_ok-execute.ensures.same_reference c.in_ok-execute.ensures.survives c.in_ok-execute.ensures.runs
    (table_then G vehicle_text (alone ecu_text ++ alone kept_text) with_campaign vehicle_table all_created.5 all_making.5 _ _ c.execute-2.new.self.conn _ _ _ c.in_ok-execute-2.ensures.same_reference c.in_ok-execute-2.ensures.survives c.in_ok-execute-2.ensures.runs
    (table_then G ecu_text (alone kept_text) with_vehicle ecu_table all_created.6 all_making.6 _ _ c.execute-3.new.self.conn _ _ _ c.in_ok-execute-3.ensures.same_reference c.in_ok-execute-3.ensures.survives c.in_ok-execute-3.ensures.runs
    (makes_table G kept_text _ _ c.execute-4.result c.execute-4.ensures.same_reference c.execute-4.ensures.survives c.execute-4.ensures.runs with_ecu kept_table all_created.7 all_making.7)))
