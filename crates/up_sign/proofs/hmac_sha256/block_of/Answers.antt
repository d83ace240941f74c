use Rattle.up_sign.proofs.Arrays.{block_key-short}
use Rattle.up_sign.proofs.hmac_sha256.block_of.Goals as goal

pub returns-else-key-gt64 : goal.returns-else-key-gt64
returns-else-key-gt64 c = rw c.copy_from_slice-else-key-gt64.ensures.after (block_key-short c.args.key.now c.if-key-gt64.false)
