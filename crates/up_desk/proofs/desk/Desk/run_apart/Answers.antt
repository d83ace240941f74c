use Rattle.std.proofs.Common.{◌≡◌, ◌+◌, ◌∙◌, refl, ap, arith, vec_len}
use Rattle.up_records.specs.Standing.{state}
use Rattle.up_desk.proofs.Runs.{ListLaws, none_so_far, one_more, chosen_ok, run_whole}
use Rattle.up_desk.proofs.desk.Desk.run_apart.Goals as goal

pub loop-item-init : goal.loop-item-init
loop-item-init g c = record {
  far = none_so_far (g.K.Scheme.rules c.args.self.now.scheme) (state g.D.Store c.args.self.now.store) c.args.commands.now c.args.answers.now.items c.args.answers.now.items refl;
  scheme = refl;
  room = omega (arith, c.requires.room);
}

pub loop-item-preserved : goal.loop-item-preserved
loop-item-preserved g c =
    let kept = c.loop-item.invariant in
    let pushed = chosen_ok c.push.result c.unwrap.result _ _ _ c.unwrap.ensures c.push.ensures.items in
    let longer : vec_len c.push.new.self ≡ vec_len c.loop-item.answers + 1 = chosen_ok c.push.result c.unwrap.result _ _ _ c.unwrap.ensures c.push.ensures.len in
    record {
      far = one_more _ _ _ (state g.D.Store c.loop-item.self.store) _ _ _ _ _ _ _ _ c.loop-item-test.true c.item-item.is (ap g.K.Scheme.rules kept.scheme) kept.far pushed c.keeps_limits.ensures c.call-answer.ensures.called;
      scheme = c.call-answer.ensures.scheme ∙ kept.scheme;
      room = omega arith;
    }

pub returns-clause-ran : goal.returns-clause-ran
returns-clause-ran g c =
    let laws : ListLaws = record {
      served = c.repeats_change_nothing.ensures.served;
      repeats = c.repeats_change_nothing.ensures.thinned;
      replies = c.kept_replies_stay.ensures.run;
      apart = c.vehicles_stand_apart.ensures.apart;
      exchanged = c.vehicles_stand_apart.ensures.exchanged;
    } in
    run_whole laws _ _ _ c.args.commands.now c.loop-item.item-index _ _ c.loop-item-test.false c.loop-item.invariant.far
