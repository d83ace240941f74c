use Rattle.std.proofs.Common.{◌≡◌, ◌≤◌, ◌-◌, [], false, length, drop}
use Rattle.up_http.specs.Requests.{Firsts}
use Rattle.up_http.proofs.stream.requests_of.Given as goal

-- the requests so far are the first of the input, and the rest of it is what wasn't taken
abbrev pub invariant-loop-at : goal.invariant-loop-at
invariant-loop-at l = record {
  inside : l.at ≤ length l.bytes;
  firsts : Firsts 0 l.bytes l.nexts.items false (drop l.at l.bytes);
  counted : l.feeder.given ≡ length l.nexts.items;
  goes_on : l.feeder.ended ≡ false;
  none : l.feeder.rest ≡ [];
}

abbrev pub decreases-loop-at : goal.decreases-loop-at
decreases-loop-at l = length l.bytes - l.at
