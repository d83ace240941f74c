use Rattle.up_canon.proofs.Members.{self_read}
use Rattle.up_sign.proofs.Read.{object_in-value}
use Rattle.up_sign.proofs.envelope_read.payload_at.Goals as goal

pub returns : goal.returns
returns c = (object_in-value _ _ _ _ c.in_ok-value.ensures c.in_ok-payload.ensures, self_read _ _ _ c.in_ok-payload.ensures)
