use Rattle.std.proofs.Common.{ap, subst}
use Rattle.up_records.specs.Standing.{state}
use Rattle.up_desk.specs.Calls.{IsCalled}
use Rattle.up_desk.proofs.Calls.{CallLaws, called}
use Rattle.up_desk.proofs.desk.Desk.call.Goals as goal

pub returns : goal.returns
returns g c =
    let laws : CallLaws = record {
      empty = c.states_stay_sound.ensures.empty;
      sound = c.repeats_change_nothing.ensures.sound;
      served = c.repeats_change_nothing.ensures.served;
      replies = c.kept_replies_stay.ensures.run;
    } in
    record {
      called = subst (λ d. IsCalled (g.K.Scheme.rules d.scheme) c.args.at c.args.command.now c.answer_of.result (state g.D.Store d.store) (state g.D.Store c.dispatch.new.records)) c.self.view_is
          (called laws (g.K.Scheme.rules c.self.inside.scheme) c.args.at c.args.command.now c.dispatch.result c.answer_of.result (state g.D.Store c.self.inside.records) (state g.D.Store c.dispatch.new.records) c.self.inside.records c.dispatch.new.records
          c.keeps_limits.ensures c.dispatch.ensures.carries c.dispatch.ensures.outright c.answer_of.ensures);
      scheme = ap (λ d. d.scheme) c.self.view_is;
    }

pub invariant_of-self : goal.invariant_of-self
invariant_of-self g c = c.dispatch.ensures.carries.can c.self.invariant
