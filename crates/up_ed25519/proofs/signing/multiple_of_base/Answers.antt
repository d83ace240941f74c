use Rattle.up_ed25519.proofs.signing.multiple_of_base.Goals as goal

pub returns : goal.returns
returns c = c.encode.ensures _ c.times_base-q.ensures
