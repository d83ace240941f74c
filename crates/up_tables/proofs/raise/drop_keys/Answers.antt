use Rattle.up_tables.specs.Making.{drop_keys_text}
use Rattle.up_tables.specs.Statements.{DropsKeys}
use Rattle.up_tables.proofs.AnywhereLemmas.{alone_anywhere, raising_read}
use Rattle.up_tables.proofs.DropLemmas.{drops_keys}
use Rattle.up_tables.proofs.MadeSteps.{raises_alone}
use Rattle.up_tables.proofs.raise.drop_keys.Goals as goal

pub returns : goal.returns
returns g c =
    raises_alone g.S.Store drop_keys_text _ _ c.execute.result c.execute.ensures.same_reference c.execute.ensures.survives c.execute.ensures.runs DropsKeys (alone_anywhere drop_keys_text raising_read.5)
    (λ inside. drops_keys c.execute.result _ _ c.execute.ensures.survives inside c.execute.ensures.runs)
