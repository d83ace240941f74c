use Rattle.std.proofs.Common.{Err, refl, sym, subst, ◌∙◌}
use Rattle.std.specs.Prelude.{IfSome}
use Rattle.up_canon.specs.declared.refusal.Refusal.TheVariants.{MomentOutOfRange}
use Rattle.up_machine.specs.declared.answer.Answer.{Answer}
use Rattle.up_records.specs.Senders.{RefusesUnread}
use Rattle.up_records.specs.Standing.{Stored, over, state}
use Rattle.up_desk.specs.Serving.{CarriesOut, outcome_due}
use Rattle.up_desk.proofs.Serving.{at_moment, in_time_outright, late_due, late_outright, outright_due, refused_unread}
use Rattle.up_desk.proofs.dispatch.dispatch.Goals as goal

pub returns-in_default : goal.returns-in_default
returns-in_default g c = let k = g.K.Scheme.rules c.args.scheme.now in record {
  carries = record { serves = λ s sound was. refused_unread (state g.D.Store c.args.records.now) was (late_due k s c.args.at c.args.command.now c.in_default.ensures) refl; can = λ can. can };
  outright = late_outright k c.args.at c.args.command.now (RefusesUnread {A = Answer} c.args.records.now c.args.records.now (Err MomentOutOfRange)) c.in_default.ensures (record { refused = refl; unread = refl });
}

pub returns-in-Some-outright-clause-carries : goal.returns-in-Some-outright-clause-carries
returns-in-Some-outright-clause-carries g c = let k = g.K.Scheme.rules c.args.scheme.now in record {
  serves = λ s sound was.
      let it = outright_due k s c.args.at c.args.command.now c.in-Some-outright.refusal c.in-Some.ensures.0 (sym c.outright.ensures ∙ c.in-Some-outright.is) in
      refused_unread (state g.D.Store c.args.records.now) was it.0 it.1;
  can = λ can. can;
}

pub returns-in-Some-outright-clause-outright : goal.returns-in-Some-outright-clause-outright
returns-in-Some-outright-clause-outright g c =
    let P = RefusesUnread {A = Answer} c.args.records.now c.args.records.now (Err c.in-Some-outright.refusal) in
    in_time_outright (g.K.Scheme.rules c.args.scheme.now) c.args.at c.args.command.now P c.in-Some.ensures.0
    (subst (λ o. IfSome o P) (sym c.in-Some-outright.is ∙ c.outright.ensures) (record { refused = refl; unread = refl }))

pub returns-in-None-clause-carries : goal.returns-in-None-clause-carries
returns-in-None-clause-carries g c =
    let k = g.K.Scheme.rules c.args.scheme.now in
    at_moment c.args.command.now c.in-Some.ensures.1
    (subst (λ (r : Stored _). CarriesOut k (λ s. outcome_due k s c.in-Some.at c.args.command.now) (state g.D.Store r) (over g.D.Store c.run.new.store c.run.new.catalog) c.run.result) c.records.view_is c.run.ensures)

pub returns-in-None-clause-outright : goal.returns-in-None-clause-outright
returns-in-None-clause-outright g c =
    let P = RefusesUnread {A = Answer} c.args.records.now _ c.run.result in
    in_time_outright (g.K.Scheme.rules c.args.scheme.now) c.args.at c.args.command.now P c.in-Some.ensures.0 (subst (λ o. IfSome o P) (sym c.in-None.is ∙ c.outright.ensures) tt)
