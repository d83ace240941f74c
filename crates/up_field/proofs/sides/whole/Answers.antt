use Rattle.up_field.proofs.sides.whole.Goals as goal

pub returns : goal.returns
returns c = λ m h.
    let v = c.completed.ensures in
    h.each _ _ _ _ v.x v.y v.z v.t
