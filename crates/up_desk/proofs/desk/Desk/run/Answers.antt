use Rattle.std.proofs.Common.{◌∙◌, List, ap, arith, subst}
use Rattle.up_machine.specs.declared.answer.Answer.{Answer}
use Rattle.up_records.specs.Standing.{state}
use Rattle.up_desk.specs.Desks.{DeskView}
use Rattle.up_desk.specs.Groups.{AreCalledOrUndone}
use Rattle.up_desk.specs.Runs.{AreCalled}
use Rattle.up_desk.proofs.Groups.{called_behind}
use Rattle.up_desk.proofs.desk.Desk.run.Goals as goal

pub run_apart-requires : goal.run_apart-requires
run_apart-requires g c = record { running = c.requires; room = omega (arith, c.in_ok-reserve.ensures.ok) }

pub run_group-together-requires : goal.run_group-together-requires
run_group-together-requires g c = record { usable = c.self.invariant; asked = record { running = c.requires; room = omega (arith, c.in_ok-reserve.ensures.ok) } }

pub run_apart-requires-2 : goal.run_apart-requires-2
run_apart-requires-2 g c =
    let undone = subst (λ b. AreCalledOrUndone (g.K.Scheme.rules c.self.inside.scheme) c.args.commands.now c.reserve.new.self c.run_group-together.new.answers (state g.D.Store c.self.inside.records) (state g.D.Store c.run_group-together.new.records) b)
    c.if-together.false c.run_group-together.ensures.ends in
    record { running = c.requires; room = undone.room }

pub returns-then-alone-clause-ran : goal.returns-then-alone-clause-ran
returns-then-alone-clause-ran g c =
    subst (λ (held : List Answer). AreCalled (g.K.Scheme.rules c.args.self.now.scheme) c.args.commands.now held c.run_apart.new.answers.items (state g.D.Store c.args.self.now.store) (state g.D.Store c.run_apart.new.self.store))
    c.reserve.ensures.items c.run_apart.ensures.ran

pub returns-then-together-clause-ran : goal.returns-then-together-clause-ran
returns-then-together-clause-ran g c =
    let done = subst (λ b. AreCalledOrUndone (g.K.Scheme.rules c.self.inside.scheme) c.args.commands.now c.reserve.new.self c.run_group-together.new.answers (state g.D.Store c.self.inside.records) (state g.D.Store c.run_group-together.new.records) b)
    c.if-together.true c.run_group-together.ensures.ends in
    subst (λ (held : List Answer). AreCalled (g.K.Scheme.rules c.args.self.now.scheme) c.args.commands.now held c.run_group-together.new.answers.items (state g.D.Store c.args.self.now.store) (state g.D.Store c.run_group-together.new.records)) c.reserve.ensures.items
    (subst (λ (d : DeskView _ _). AreCalled (g.K.Scheme.rules d.scheme) c.args.commands.now c.reserve.new.self.items c.run_group-together.new.answers.items (state g.D.Store d.store) (state g.D.Store c.run_group-together.new.records)) c.self.view_is done)

pub returns-then-together-clause-scheme : goal.returns-then-together-clause-scheme
returns-then-together-clause-scheme g c = ap (λ d. d.scheme) c.self.view_is

pub returns-clause-ran : goal.returns-clause-ran
returns-clause-ran g c =
    let k = g.K.Scheme.rules c.self.inside.scheme in
    let undone = subst (λ b. AreCalledOrUndone k c.args.commands.now c.reserve.new.self c.run_group-together.new.answers (state g.D.Store c.self.inside.records) (state g.D.Store c.run_group-together.new.records) b)
    c.if-together.false c.run_group-together.ensures.ends in
    let whole = called_behind k c.args.commands.now c.reserve.new.self c.run_group-together.new.answers c.run_apart-2.new.answers.items (state g.D.Store c.self.inside.records) (state g.D.Store c.run_group-together.new.records)
    (state g.D.Store c.run_apart-2.new.self.store) undone c.run_apart-2.ensures.ran in
    subst (λ (held : List Answer). AreCalled (g.K.Scheme.rules c.args.self.now.scheme) c.args.commands.now held c.run_apart-2.new.answers.items (state g.D.Store c.args.self.now.store) (state g.D.Store c.run_apart-2.new.self.store)) c.reserve.ensures.items
    (subst (λ (d : DeskView _ _). AreCalled (g.K.Scheme.rules d.scheme) c.args.commands.now c.reserve.new.self.items c.run_apart-2.new.answers.items (state g.D.Store d.store) (state g.D.Store c.run_apart-2.new.self.store)) c.self.view_is whole)

pub returns-clause-scheme : goal.returns-clause-scheme
returns-clause-scheme g c = c.run_apart-2.ensures.scheme ∙ ap (λ d. d.scheme) c.self.view_is

pub invariant_of-self : goal.invariant_of-self
invariant_of-self g c = c.run_group-together.ensures.usable
