use Rattle.up_field.proofs.same.are_opposite.Goals as goal

pub returns : goal.returns
returns c = λ m n h k. c.is_neutral.ensures _ (c.flat.ensures _ (c.cached_sides-s.ensures m n h (c.ready.ensures n k)))
