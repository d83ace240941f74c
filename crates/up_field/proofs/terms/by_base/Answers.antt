use Rattle.up_field.proofs.terms.by_base.Goals as goal

pub returns : goal.returns
returns c = λ n q h l. c.base_less.ensures n _ h (c.base_more.ensures n q h l)
