use Rattle.up_field.proofs.cached.sum_cached.Goals as goal

pub returns : goal.returns
returns c = λ m n h k. c.whole.ensures _ (c.cached_sides.ensures m n h k)
