use Rattle.up_curve.proofs.Decode.{decode-encode}
use Rattle.up_curve.proofs.Decoded.{decoded}
use Rattle.up_curve.proofs.laws.encoding_laws.Goals as goal

pub returns-clause-decoded : goal.returns-clause-decoded
returns-clause-decoded c = decode-encode

pub returns-clause-encoded : goal.returns-clause-encoded
returns-clause-encoded c = decoded
