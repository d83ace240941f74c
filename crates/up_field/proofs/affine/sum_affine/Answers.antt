use Rattle.up_field.proofs.affine.sum_affine.Goals as goal

pub returns : goal.returns
returns c = λ m n h k. c.whole.ensures _ (c.affine_sides.ensures m n h k)
