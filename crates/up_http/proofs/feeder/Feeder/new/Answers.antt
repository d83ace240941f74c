use Rattle.std.proofs.Common.{arith}
use Rattle.up_http.proofs.FeedLaws.{begins_none}
use Rattle.up_http.proofs.feeder.Feeder.new.Goals as goal

pub invariant_of-result : goal.invariant_of-result
invariant_of-result c = record {
  few = omega arith;
  more = λ _. omega arith;
  stage = λ _. begins_none _ c.new-2.ensures.items;
}
