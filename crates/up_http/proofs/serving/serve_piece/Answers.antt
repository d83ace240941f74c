use Rattle.std.proofs.Common.{[], ◌≡◌, ◌+◌, ◌++◌, ◌∙◌, inr, ap, arith, false, refl, sym, subst, take, drop, take-append-drop, Some}
use Rattle.up_http.specs.Serving.{Stopped}
use Rattle.up_http.specs.Steps.{fault_at}
use Rattle.up_http.specs.Feeding.{Gives}
use Rattle.up_http.proofs.ServeLaws.{takes_next, stops_memory, stops_next}
use Rattle.up_http.proofs.StreamLaws.{first_runs}
use Rattle.up_http.proofs.Blaming.{step_stops}
use Rattle.up_http.proofs.serving.serve_piece.Goals as goal

pub returns-in_ok-answer_counted-in-Some : goal.returns-in_ok-answer_counted-in-Some
returns-in_ok-answer_counted-in-Some g c =
    let goes_on : c.args.progress.now.talk.fed.ended ≡ false = sym c.args.progress.now.ends ∙ c.requires.ready.goes_on in
    let gives : Gives c.args.progress.now.talk.fed c.args.piece.now c.in-Ok.step.taken (Some c.in-Some.next) c.hear.new.self.fed = subst (λ o. Gives c.args.progress.now.talk.fed c.args.piece.now c.in-Ok.step.taken o c.hear.new.self.fed) c.in-Some.is (c.in-Ok.ensures.heard.feeds.going_on goes_on) in
    let (text, gave, wrote) = c.in_ok-answer_counted-in-Some.ensures.ok in
    let fed : c.answer_counted.new.progress.talk.fed ≡ record { rest = []; given = c.args.progress.now.talk.fed.given + 1; ended = c.in-Some.next.last } = c.in_ok-answer_counted-in-Some.ensures.fed ∙ gives.1 in
    record {
      ok = (
        (gives.0, inr (ap (λ f. f.given) fed, gives.2)),
        takes_next (g.A.Respond.gives c.args.responder.now) c.args.progress.now _ _ c.in-Some.next text _ _ goes_on fed gives.2 gives.4 gives.3 gives.5 gave wrote c.in_ok-answer_counted-in-Some.ensures.quiet c.in_ok-answer_counted-in-Some.ensures.called c.in_ok-answer_counted-in-Some.ensures.answered,
      );
      err = tt;
      grows = omega (arith, c.in_ok-answer_counted-in-Some.ensures.answered);
      goes_on = c.in_ok-answer_counted-in-Some.ensures.goes_on;
      blames = tt;
    }

pub returns-in_err-answer_counted-in-Some : goal.returns-in_err-answer_counted-in-Some
returns-in_err-answer_counted-in-Some g c =
    let goes_on : c.args.progress.now.talk.fed.ended ≡ false = sym c.args.progress.now.ends ∙ c.requires.ready.goes_on in
    let gives : Gives c.args.progress.now.talk.fed c.args.piece.now c.in-Ok.step.taken (Some c.in-Some.next) c.hear.new.self.fed = subst (λ o. Gives c.args.progress.now.talk.fed c.args.piece.now c.in-Ok.step.taken o c.hear.new.self.fed) c.in-Some.is (c.in-Ok.ensures.heard.feeds.going_on goes_on) in
    let cause = c.in_err-answer_counted-in-Some.field-0.0 in
    step_stops _ _ _ _ _ _ _ _ c.from_residual.result cause c.from_residual.ensures.1
    (λ first came so.
    subst (λ l. Stopped (g.A.Respond.gives c.args.responder.now) (came ++ l) false (fault_at cause c.answer_counted.new.progress) first (record { state = c.answer_counted.new.state; held = g.W.Sink.contents c.answer_counted.new.writer }))
    (take-append-drop c.in-Ok.step.taken c.args.piece.now)
    (stops_next (g.A.Respond.gives c.args.responder.now) cause c.args.progress.now c.answer_counted.new.progress (take c.in-Ok.step.taken c.args.piece.now) (drop c.in-Ok.step.taken c.args.piece.now) c.in-Some.next _ _ goes_on gives.3 gives.5 c.in_err-answer_counted-in-Some.ensures.err c.in_err-answer_counted-in-Some.ensures.called c.in_err-answer_counted-in-Some.ensures.answered first came so))
    (omega (arith, c.in_err-answer_counted-in-Some.ensures.answered))
    c.in_err-answer_counted-in-Some.ensures.blames

pub answer_counted-requires-clause-asks : goal.answer_counted-requires-clause-asks
answer_counted-requires-clause-asks g c =
    let goes_on : c.args.progress.now.talk.fed.ended ≡ false = sym c.args.progress.now.ends ∙ c.requires.ready.goes_on in
    let gives : Gives c.args.progress.now.talk.fed c.args.piece.now c.in-Ok.step.taken (Some c.in-Some.next) c.hear.new.self.fed = subst (λ o. Gives c.args.progress.now.talk.fed c.args.piece.now c.in-Ok.step.taken o c.hear.new.self.fed) c.in-Some.is (c.in-Ok.ensures.heard.feeds.going_on goes_on) in
    first_runs c.args.progress.now.talk.fed.given _ c.in-Some.next [] (gives.5 [])

pub returns-in-Err : goal.returns-in-Err
returns-in-Err g c = record {
  ok = tt;
  err = stops_memory (g.A.Respond.gives c.args.responder.now) c.args.progress.now c.args.progress.now c.args.piece.now _ (sym c.args.progress.now.ends ∙ c.requires.ready.goes_on) c.requires.some refl refl;
  grows = omega arith;
  goes_on = tt;
  blames = (tt, c.requires.can_write);
}
