use Rattle.up_tables.specs.Tables.{retired_vehicle_table, retired_vehicle_text, with_image_repository}
use Rattle.up_tables.proofs.AnywhereLemmas.{alone_anywhere, raising_read}
use Rattle.up_tables.proofs.MadeSteps.{adds_table}
use Rattle.up_tables.proofs.SchemaLemmas.{later_created, later_making}
use Rattle.up_tables.proofs.create.make_retired_vehicle.Goals as goal

pub returns : goal.returns
returns g c = adds_table g.S.Store retired_vehicle_text _ _ c.execute.result c.execute.ensures.same_reference c.execute.ensures.survives c.execute.ensures.runs with_image_repository retired_vehicle_table later_created.3 later_making.3 (alone_anywhere retired_vehicle_text raising_read.3)
