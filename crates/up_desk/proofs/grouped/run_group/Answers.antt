use Rattle.std.proofs.Common.{◌≡◌, Option, arith, length, take, sym, ap, subst, ◌∙◌}
use Rattle.std.proofs.lemmas.List.{take_at}
use Rattle.std.specs.Prelude.{IfSome}
use Rattle.up_records.specs.Catalogs.{CanDecide}
use Rattle.up_records.specs.Standing.{Stored, over, state}
use Rattle.up_records.specs.declared.catalog.Catalog.{Catalog}
use Rattle.up_desk.specs.Groups.{CanRun, IsUndone}
use Rattle.up_desk.specs.Runs.{AreCalled}
use Rattle.up_desk.proofs.Groups.{ended_all}
use Rattle.up_desk.proofs.Runs.{ListLaws}
use Rattle.up_desk.proofs.grouped.run_group.Goals as goal

pub commit_all-done-requires : goal.commit_all-done-requires
commit_all-done-requires g c = subst (λ (r : Stored _). CanRun (g.K.Scheme.rules c.args.scheme.now) c.args.commands.now r.catalog c.args.answers.now) (sym c.records.view_is) c.requires

pub returns-then-done-clause-ends : goal.returns-then-done-clause-ends
returns-then-done-clause-ends g c =
    let k = g.K.Scheme.rules c.args.scheme.now in
    let laws : ListLaws = record {
      served = c.repeats_change_nothing.ensures.served;
      repeats = c.repeats_change_nothing.ensures.thinned;
      replies = c.kept_replies_stay.ensures.run;
      apart = c.vehicles_stand_apart.ensures.apart;
      exchanged = c.vehicles_stand_apart.ensures.exchanged;
    } in
    subst (λ (r : Stored _). AreCalled k c.args.commands.now c.args.answers.now.items c.commit_all-done.new.answers.items (state g.D.Store r) (over g.D.Store c.commit_all-done.new.store c.commit_all-done.new.catalog)) c.records.view_is
    ((ended_all g.D.Store k c.args.commands.now laws c.states_stay_sound.ensures.empty c.records.inside.store c.commit_all-done.new.store c.records.inside.catalog c.commit_all-done.new.catalog c.args.answers.now
    c.commit_all-done.new.answers c.commit_all-done.result c.commit_all-done.ensures (λ is_open trees left. g.met.D.Store.settled c.commit_all-done.new.store.store trees is_open left)).0 c.if-done.true)

pub returns-then-done-clause-usable : goal.returns-then-done-clause-usable
returns-then-done-clause-usable g c = c.commit_all-done.ensures.all.can (subst (λ (r : Stored _). IfSome r.catalog (CanDecide (g.K.Scheme.rules c.args.scheme.now))) (sym c.records.view_is) c.requires.usable)

pub returns-clause-ends : goal.returns-clause-ends
returns-clause-ends g c =
    let k = g.K.Scheme.rules c.args.scheme.now in
    let laws : ListLaws = record {
      served = c.repeats_change_nothing.ensures.served;
      repeats = c.repeats_change_nothing.ensures.thinned;
      replies = c.kept_replies_stay.ensures.run;
      apart = c.vehicles_stand_apart.ensures.apart;
      exchanged = c.vehicles_stand_apart.ensures.exchanged;
    } in
    let all = c.commit_all-done.ensures.all in
    let left : c.truncate.new.self.items ≡ c.args.answers.now.items =
    c.truncate.ensures.items ∙ ap (take _) all.appended ∙ take_at c.args.answers.now.items all.told _ (sym (ap length c.as_slice-held.ensures.value)) in
    let undone =
    (ended_all g.D.Store k c.args.commands.now laws c.states_stay_sound.ensures.empty c.records.inside.store c.commit_all-done.new.store c.records.inside.catalog c.commit_all-done.new.catalog c.args.answers.now
    c.commit_all-done.new.answers c.commit_all-done.result c.commit_all-done.ensures (λ is_open trees left. g.met.D.Store.settled c.commit_all-done.new.store.store trees is_open left)).1 c.if-done.false c.truncate.new.self left
    (omega (arith, c.truncate.ensures.len, c.truncate.ensures.capacity, all.room, c.requires.asked.room)) in
    subst (λ (r : Stored _). IsUndone k c.args.commands.now c.args.answers.now c.truncate.new.self (state g.D.Store r) (over g.D.Store c.commit_all-done.new.store c.forget.new.catalog)) c.records.view_is
    (subst (λ (catalog : Option Catalog). IsUndone k c.args.commands.now c.args.answers.now c.truncate.new.self (over g.D.Store c.records.inside.store c.records.inside.catalog) (over g.D.Store c.commit_all-done.new.store catalog))
    (sym c.forget.ensures) undone)
