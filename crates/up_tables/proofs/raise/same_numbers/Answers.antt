use Rattle.up_tables.specs.Making.{same_numbers_text}
use Rattle.up_tables.specs.Statements.{TakesNumbers}
use Rattle.up_tables.proofs.AnywhereLemmas.{alone_anywhere, raising_read}
use Rattle.up_tables.proofs.MadeSteps.{raises_alone}
use Rattle.up_tables.proofs.NumberLemmas.{takes_numbers}
use Rattle.up_tables.proofs.raise.same_numbers.Goals as goal

pub returns : goal.returns
returns g c =
    raises_alone g.S.Store same_numbers_text _ _ c.execute.result c.execute.ensures.same_reference c.execute.ensures.survives c.execute.ensures.runs TakesNumbers (alone_anywhere same_numbers_text raising_read.4)
    (λ inside. takes_numbers c.execute.result _ _ c.execute.ensures.survives inside c.execute.ensures.runs)
