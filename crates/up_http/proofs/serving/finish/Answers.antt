use Rattle.std.proofs.Common.{[], ◌≡◌, ◌∙◌, arith, false, sym, subst, refl, Some, None}
use Rattle.up_http.specs.Feeding.{Ends}
use Rattle.up_http.proofs.ServeLaws.{completes_none, ends_answered}
use Rattle.up_http.proofs.StreamLaws.{first_runs}
use Rattle.up_http.proofs.serving.finish.Goals as goal

pub returns-in-None : goal.returns-in-None
returns-in-None g c =
    let goes_on : c.args.progress.now.talk.fed.ended ≡ false = sym c.args.progress.now.ends ∙ c.requires.ready.goes_on in
    let ends : Ends c.args.progress.now.talk.fed None c.end.new.self.fed = subst (λ o. Ends c.args.progress.now.talk.fed o c.end.new.self.fed) c.in-None.is c.end.ensures.ended.ends in
    record {
      ok = completes_none (g.A.Respond.gives c.args.responder.now) c.args.progress.now _ _ goes_on (ends.0 goes_on) refl;
      err = tt;
      grows = omega arith;
      goes_on = c.requires.can_write;
      blames = tt;
    }

pub returns-in-Some : goal.returns-in-Some
returns-in-Some g c =
    let ends : Ends c.args.progress.now.talk.fed (Some c.in-Some.next) c.end.new.self.fed = subst (λ o. Ends c.args.progress.now.talk.fed o c.end.new.self.fed) c.in-Some.is c.end.ensures.ended.ends in
    ends_answered (g.A.Respond.gives c.args.responder.now) c.args.progress.now _ c.answer_counted.new.progress c.in-Some.next _ _ _ _ c.answer_counted.result ends.0 ends.2 ends.3 ends.5 refl refl c.answer_counted.ensures

pub answer_counted-requires-clause-asks : goal.answer_counted-requires-clause-asks
answer_counted-requires-clause-asks g c =
    let ends : Ends c.args.progress.now.talk.fed (Some c.in-Some.next) c.end.new.self.fed = subst (λ o. Ends c.args.progress.now.talk.fed o c.end.new.self.fed) c.in-Some.is c.end.ensures.ended.ends in
    first_runs c.args.progress.now.talk.fed.given c.args.progress.now.talk.fed.rest c.in-Some.next [] ends.3
