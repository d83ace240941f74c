use Rattle.std.proofs.Common.{rules, ◌++◌, ◌∙◌, sym, ap}
use Rattle.up_canon.proofs.Joined.{separator_after}
use Rattle.up_verify.proofs.PlainTexts.{items-push, separator-push, all-push, list-ends}
use Rattle.up_verify.proofs.plain_list.listed.Goals as goal

pub loop-turn-preserved : goal.loop-turn-preserved
loop-turn-preserved g c =
    let xs = c.loop-turn.items.items in
    let ys = c.push.new.self.items in
    let x = c.in_ok-take.field-0 in
    let more = c.in_ok-push.ensures.items in
    let next =
    sym c.if-takes.ensures ∙ c.in_ok-pass-2.ensures ∙ ap (λ m. m ++ c.pass-in-loop-turn.new.self.rest.now) c.loop-turn.invariant.separator
    ∙ ap (λ t. separator_after xs ++ t) c.in_ok-take.ensures.text in
    record {
      utf8 = search rules;
      text = items-push xs ys x more g.T.Item.value_of _ _ _ c.loop-turn.invariant.text next;
      separator = separator-push xs ys x more;
      fits = all-push xs ys x more g.T.Item.is_fit c.loop-turn.invariant.fits c.in_ok-take.ensures.fits;
    }

pub returns-then-takes-clause-text : goal.returns-then-takes-clause-text
returns-then-takes-clause-text g c =
    list-ends g.T.Item.value_of c.loop-turn.items.items c.new.result _ _ _ c.new.ensures c.loop-turn.invariant.text c.if-takes.ensures
