use Rattle.std.proofs.Common.{◌≡◌, ℕ, Err, Result, refl, sym, subst, ◌∙◌}
use Rattle.std.specs.Prelude.{IfSome}
use Rattle.up_canon.specs.declared.refusal.Refusal.{Refusal}
use Rattle.up_machine.specs.State.{State, empty_state}
use Rattle.up_desk.specs.declared.carried.Carried.{Carried}
use Rattle.up_desk.specs.Carrying.{CarriesIn}
use Rattle.up_desk.specs.Serving.{outcome_due}
use Rattle.up_desk.proofs.Carrying.{refused_unread_in}
use Rattle.up_desk.proofs.Serving.{in_time_outright, late_due, late_outright, outright_due}
use Rattle.up_desk.proofs.grouped.carry_timed.Goals as goal

abbrev told_as : Refusal → Result Carried Refusal
told_as r = Err r

pub returns-in_default : goal.returns-in_default
returns-in_default g c = let k = g.K.Scheme.rules c.args.scheme.now in record {
  carries = λ inside. refused_unread_in g.D.Store k c.args.catalog.now inside (λ s. (late_due k s c.args.at c.args.command.now c.in_default.ensures)) refl;
  outright = late_outright k c.args.at c.args.command.now _ c.in_default.ensures refl;
}

pub returns-in-Some-outright-clause-carries : goal.returns-in-Some-outright-clause-carries
returns-in-Some-outright-clause-carries g c = let k = g.K.Scheme.rules c.args.scheme.now in λ inside.
    let due = λ (s : State). outright_due k s c.args.at c.args.command.now c.in-Some-outright.refusal c.in-Some.ensures.0 (sym c.outright.ensures ∙ c.in-Some-outright.is) in
    refused_unread_in g.D.Store k c.args.catalog.now inside (λ s. (due s).0) (due empty_state).1

pub returns-in-Some-outright-clause-outright : goal.returns-in-Some-outright-clause-outright
returns-in-Some-outright-clause-outright g c =
    let P = λ (q : Refusal). told_as c.in-Some-outright.refusal ≡ Err q in
    in_time_outright (g.K.Scheme.rules c.args.scheme.now) c.args.at c.args.command.now P c.in-Some.ensures.0 (subst (λ o. IfSome o P) (sym c.in-Some-outright.is ∙ c.outright.ensures) refl)

pub returns-in-None-clause-carries : goal.returns-in-None-clause-carries
returns-in-None-clause-carries g c =
    let k = g.K.Scheme.rules c.args.scheme.now in
    subst (λ (at : ℕ). CarriesIn g.D.Store k (λ s. outcome_due k s at c.args.command.now) c.args.tx.now.conn c.carry.new.tx.conn c.args.catalog.now c.carry.new.catalog c.carry.result) c.in-Some.ensures.1 c.carry.ensures

pub returns-in-None-clause-outright : goal.returns-in-None-clause-outright
returns-in-None-clause-outright g c =
    let P = λ (q : Refusal). c.carry.result ≡ Err q in
    in_time_outright (g.K.Scheme.rules c.args.scheme.now) c.args.at c.args.command.now P c.in-Some.ensures.0 (subst (λ o. IfSome o P) (sym c.in-None.is ∙ c.outright.ensures) tt)
