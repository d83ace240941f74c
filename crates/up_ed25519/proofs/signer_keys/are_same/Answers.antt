use Rattle.std.proofs.Common.{◌≡◌, ◌<◌, length, arith}
use Rattle.up_sign.proofs.Differences.{difference_more}
use Rattle.up_ed25519.proofs.signer_keys.are_same.Goals as goal

pub loop-i-preserved : goal.loop-i-preserved
loop-i-preserved c =
    let same : length c.args.one.now ≡ length c.args.other.now = c.if-one-other.false in
    let below : c.loop-i.i < length c.args.one.now = c.loop-i-test.true in
    let other : c.loop-i.i < length c.args.other.now = omega arith in
    difference_more c.args.one.now c.args.other.now c.loop-i.i c.loop-i.difference below other c.loop-i.invariant
