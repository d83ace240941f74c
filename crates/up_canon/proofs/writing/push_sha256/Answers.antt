use Rattle.up_canon.proofs.ByteTests.{hash_typed}
use Rattle.up_canon.proofs.writing.push_sha256.Goals as goal

pub returns-in_err-push_str-clause-typed : goal.returns-in_err-push_str-clause-typed
returns-in_err-push_str-clause-typed c = hash_typed c.args.hash.now c.told-hash c.fits-hash

pub returns-clause-typed : goal.returns-clause-typed
returns-clause-typed c = hash_typed c.args.hash.now c.told-hash c.fits-hash
