use Rattle.up_field.proofs.terms.by_point.Goals as goal

pub returns : goal.returns
returns c = λ m q h k l. c.point_less.ensures m _ h k (c.point_more.ensures m q h k l)
