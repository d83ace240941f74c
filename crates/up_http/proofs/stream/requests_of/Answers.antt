use Rattle.std.proofs.Common.{◌≡◌, ◌∙◌, ◌++◌, ◌+◌, ◌∷◌, [], length, length-append, drop, rules, ap, arith, subst}
use Rattle.std.proofs.lemmas.Grind.{common_steps}
use Rattle.std.proofs.lemmas.List.{take_rest}
use Rattle.up_http.specs.Requests.{Firsts}
use Rattle.up_http.proofs.InputLaws.{firsts_next, all_by_last}
use Rattle.up_http.proofs.stream.requests_of.Goals as goal

pub returns-then-last : goal.returns-then-last
returns-then-last c =
    let l = c.loop-at in
    let more : c.push.new.self.items ≡ l.nexts.items ++ c.in_ok-next.next ∷ [] = search rules in
    all_by_last c.args.bytes.now c.push.new.self.items c.in_ok-next.next.last _
    (firsts_next c.args.bytes.now _ l.nexts.items c.push.new.self.items c.in_ok-next.next l.feeder.given l.at c.in_ok-next.taken l.invariant.firsts (take_rest c.args.bytes.now l.at) (grind (arith, common_steps))
    l.invariant.counted c.in_ok-next.ensures.first more) c.if-last.true

pub loop-at-preserved : goal.loop-at-preserved
loop-at-preserved c =
    let l = c.loop-at in
    let fed = c.in_ok-next.ensures.fed in
    let more : c.push.new.self.items ≡ l.nexts.items ++ c.in_ok-next.next ∷ [] = search rules in
    let firsts = firsts_next c.args.bytes.now _ l.nexts.items c.push.new.self.items c.in_ok-next.next l.feeder.given l.at c.in_ok-next.taken l.invariant.firsts (take_rest c.args.bytes.now l.at) (grind (arith, common_steps))
    l.invariant.counted c.in_ok-next.ensures.first more in
    record {
      inside = grind (arith, common_steps);
      firsts = subst (λ e. Firsts 0 c.args.bytes.now c.push.new.self.items e (drop (l.at + c.in_ok-next.taken) c.args.bytes.now)) c.if-last.false firsts;
      counted = ap (λ f. f.given) fed ∙ omega (arith, l.invariant.counted, ap length more, length-append l.nexts.items (c.in_ok-next.next ∷ []));
      goes_on = ap (λ f. f.ended) fed ∙ c.if-last.false;
      none = ap (λ f. f.rest) fed;
    }
