use Rattle.std.proofs.Common.{◌<◌, length, arith}
use Rattle.up_sockets.proofs.Told.{one_more}
use Rattle.up_sockets.proofs.groups.Group.tell.Goals as goal

pub loop-client-preserved : goal.loop-client-preserved
loop-client-preserved g c =
    let within : c.loop-client.client-index < length c.loop-client.clients = omega (arith, c.loop-client-test.true, c.loop-client.auto.clients) in
    one_more _ _ _ _ c.loop-client.clients c.loop-client.client-index _ _ within c.loop-client.invariant c.tell_one.ensures
