use Rattle.std.proofs.Common.{◌≡◌, ◌+◌, ◌∙◌, Bool, Some, subst, sym, take, arith, vec_len}
use Rattle.std.specs.Prelude.{⊤}
use Rattle.up_records.proofs.Sessions.{none_on}
use Rattle.up_desk.specs.Groups.{CarriesAll}
use Rattle.up_desk.proofs.Groups.{all_carried, none_so_far, one_lost, one_of_list}
use Rattle.up_desk.proofs.Runs.{chosen_ok}
use Rattle.up_desk.proofs.grouped.carry_each.Goals as goal

pub loop-item-init : goal.loop-item-init
loop-item-init g c = record {
  far = none_so_far g.D.Store (g.K.Scheme.rules c.args.scheme.now) c.args.answers.now c.args.tx.now.conn c.args.catalog.now c.requires.inside (none_on g.D.Store {rules = λ _. ⊤} c.requires.inside).step;
  room = omega (arith, c.requires.run.asked.room);
}

pub carry_timed-carried-requires : goal.carry_timed-carried-requires
carry_timed-carried-requires g c = c.loop-item.invariant.far.can c.requires.run.usable

pub loop-item-preserved : goal.loop-item-preserved
loop-item-preserved g c =
    let kept = c.loop-item.invariant in
    let pushed = chosen_ok c.push.result c.unwrap.result _ _ _ c.unwrap.ensures c.push.ensures.items in
    let longer : vec_len c.push.new.self ≡ vec_len c.loop-item.answers + 1 = chosen_ok c.push.result c.unwrap.result _ _ _ c.unwrap.ensures c.push.ensures.len in
    record {
      far = subst (λ (b : Bool). CarriesAll g.D.Store (g.K.Scheme.rules c.args.scheme.now) (take (c.loop-item.item-index + 1) c.args.commands.now) c.args.answers.now c.push.new.self c.args.tx.now.conn c.carry_timed-carried.new.tx.conn
          c.args.catalog.now c.carry_timed-carried.new.catalog (Some b)) (sym c.is_either-now.ensures)
          (one_of_list g.D.Store (g.K.Scheme.rules c.args.scheme.now) c.args.answers.now c.args.tx.now.conn c.args.catalog.now c.repeats_change_nothing.ensures.sound c.args.commands.now c.loop-item.item-index _
          c.carry_timed-carried.result _ _ c.push.new.self c.loop-item-test.true c.item-item.is kept.far c.keeps_limits.ensures (c.carry_timed-carried.ensures.carries kept.far.inside) c.carry_timed-carried.ensures.outright
          (sym c.told_by.ensures ∙ c.in-Some.is) pushed c.push.ensures.capacity);
      room = omega arith;
    }

pub returns-in-None : goal.returns-in-None
returns-in-None g c =
    one_lost g.D.Store (g.K.Scheme.rules c.args.scheme.now) c.args.answers.now c.args.tx.now.conn c.args.catalog.now c.loop-item.invariant.far c.args.commands.now (c.carry_timed-carried.ensures.carries c.loop-item.invariant.far.inside)

pub returns : goal.returns
returns g c = all_carried g.D.Store (g.K.Scheme.rules c.args.scheme.now) c.args.commands.now c.loop-item.item-index c.loop-item-test.false c.loop-item.invariant.far
