use Rattle.std.proofs.Common.{◌≡◌, None, drop}
use Rattle.up_connections.specs.Hubs.{least_from}
use Rattle.up_connections.proofs.hub.soonest.Given as goal

-- the shortest so far, and of what is left, is the shortest of all
abbrev pub invariant-loop-client : goal.invariant-loop-client
invariant-loop-client g l = least_from l.least l.now (drop l.client-index l.clients) ≡ least_from None l.now l.clients
