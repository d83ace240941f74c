use Rattle.up_tables.specs.Lines.{AreNamed}
use Rattle.up_tables.specs.Making.{first_numbers_text}
use Rattle.up_tables.specs.Tables.{up_schema}
use Rattle.up_tables.proofs.MakingLemmas.{tries_within}
use Rattle.up_tables.proofs.NumberLemmas.{numbered_in}
use Rattle.up_tables.proofs.SchemaLemmas.{later_making}
use Rattle.up_tables.proofs.StepLemmas.{executes}
use Rattle.up_tables.proofs.create.number_tables.Goals as goal

pub returns : goal.returns
returns g c was =
    record {
      made = numbered_in c.execute.result _ _ was c.execute.ensures.survives c.execute.ensures.runs;
      tried = tries_within up_schema first_numbers_text later_making.5 _ _ AreNamed c.execute.result was c.execute.ensures.survives c.execute.ensures.runs;
      step = record { same_reference = c.execute.ensures.same_reference; steps = executes first_numbers_text _ _ _ c.execute.result (λ clean. (was clean).mode) c.execute.ensures.survives c.execute.ensures.runs };
    }
