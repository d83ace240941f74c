use Rattle.std.proofs.Common.{◌≡◌, ℕ, ◌+◌, ◌<◌, Bool, true, false, arith, ◌≢◌}
use Rattle.up_http.specs.Requests.{most_requests}
use Rattle.up_http.proofs.FeedLaws.{begins_none}
use Rattle.up_http.proofs.feeder.give.Goals as goal

-- where the stream goes on, the request isn't the last one of its number
below : (given : ℕ) (last : Bool) → given < most_requests → (given + 1 ≡ most_requests → last ≡ true) → last ≡ false → given + 1 < most_requests
below given last few closes goes_on =
    let other : given + 1 ≢ most_requests = λ e. absurd (cc (closes e)) in
    omega arith

pub returns-clause-kept : goal.returns-clause-kept
returns-clause-kept c = record {
  few = omega arith;
  more = λ goes_on. below c.args.parts.now.given c.args.next.last c.requires.few c.requires.last goes_on;
  stage = λ _. begins_none _ c.clear.ensures.items;
}
