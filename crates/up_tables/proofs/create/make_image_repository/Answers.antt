use Rattle.up_tables.specs.Tables.{image_repository_table, image_repository_text, third_schema}
use Rattle.up_tables.proofs.AnywhereLemmas.{alone_anywhere, raising_read}
use Rattle.up_tables.proofs.MadeSteps.{adds_table}
use Rattle.up_tables.proofs.SchemaLemmas.{later_created, later_making}
use Rattle.up_tables.proofs.create.make_image_repository.Goals as goal

pub returns : goal.returns
returns g c = adds_table g.S.Store image_repository_text _ _ c.execute.result c.execute.ensures.same_reference c.execute.ensures.survives c.execute.ensures.runs third_schema image_repository_table later_created.2 later_making.2 (alone_anywhere image_repository_text raising_read.2)
