use Rattle.std.proofs.Common.{◌+◌, ◌∙◌, [], true, false, sym, ap, subst}
use Rattle.std.proofs.lemmas.List.{take_rest}
use Rattle.up_http.specs.Feeding.{Gives}
use Rattle.up_http.specs.declared.asked.What.TheVariants.{Fixed}
use Rattle.up_http.specs.Parts.{fed_of}
use Rattle.up_http.proofs.FeedLaws.{feeds_open, gives_refused, gives_bad, gives_more}
use Rattle.up_http.proofs.feeder.feed_head.Goals as goal

pub returns-in-Err : goal.returns-in-Err
returns-in-Err c = record {
  fed = record {
    kept = c.give-in-Err.ensures.kept;
    ok = feeds_open c.args.parts.now c.args.piece.now c.in_ok-taken.taken.bytes _ _ c.requires.between.none c.requires.between.going
        (gives_refused c.args.parts.now.head.items c.args.piece.now c.take_head.new.head.items c.in_ok-taken.taken c.in-Whole.facts c.in-Err.check c.args.parts.now.given c.give-in-Err.result _
        c.requires.between.few c.in_ok-taken.ensures.ok c.in-Whole.is c.in-Err.is (c.give-in-Err.ensures.same ∙ c.fixed-in-Err.ensures ∙ ap (λ h. record { what = Fixed c.in-Err.check; head = h; last = true }) c.is_head.ensures)
        (c.give-in-Err.ensures.fed ∙ ap (λ n. record { rest = []; given = c.args.parts.now.given + 1; ended = n.last }) (sym c.give-in-Err.ensures.same)) c.in_ok-taken.ensures.waited);
    err = tt;
  };
}

pub returns-in-Ok-feed_whole : goal.returns-in-Ok-feed_whole
returns-in-Ok-feed_whole c = record {
  fed = record {
    kept = c.in-Ok-feed_whole.ensures.ok.0;
    ok = feeds_open c.args.parts.now c.args.piece.now _ c.in-Ok-feed_whole.step.next _ c.requires.between.none c.requires.between.going
        (gives_more c.args.parts.now.head.items c.args.piece.now c.take_head.new.head.items c.args.parts.now.given c.in_ok-taken.taken.bytes c.in-Ok-feed_whole.step.taken c.in-Ok-feed_whole.step.next _
        c.in_ok-taken.ensures.ok.within c.in_ok-taken.ensures.ok.added c.in_ok-taken.ensures.waited
        (subst (λ l. Gives (record { rest = c.take_head.new.head.items; given = c.args.parts.now.given; ended = false }) l c.in-Ok-feed_whole.step.taken c.in-Ok-feed_whole.step.next (fed_of c.feed_whole.new.parts))
        (take_rest c.args.piece.now c.in_ok-taken.taken.bytes) c.in-Ok-feed_whole.ensures.ok.1));
    err = tt;
  };
}

pub returns-in-Bad : goal.returns-in-Bad
returns-in-Bad c = record {
  fed = record {
    kept = c.give.ensures.kept;
    ok = feeds_open c.args.parts.now c.args.piece.now c.in_ok-taken.taken.bytes _ _ c.requires.between.none c.requires.between.going
        (gives_bad c.args.parts.now.head.items c.args.piece.now c.take_head.new.head.items c.in_ok-taken.taken c.args.parts.now.given c.give.result _
        c.requires.between.few c.in_ok-taken.ensures.ok c.in-Bad.is (c.give.ensures.same ∙ c.fixed.ensures)
        (c.give.ensures.fed ∙ ap (λ n. record { rest = []; given = c.args.parts.now.given + 1; ended = n.last }) (sym c.give.ensures.same)) c.in_ok-taken.ensures.waited);
    err = tt;
  };
}
