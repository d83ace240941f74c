use Rattle.up_field.proofs.sides.twice.Goals as goal

pub returns : goal.returns
returns c = λ m h. c.whole.ensures _ (c.doubled.ensures m (c.without_t.ensures m h))
