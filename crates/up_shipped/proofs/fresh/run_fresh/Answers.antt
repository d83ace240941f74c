use Rattle.std.proofs.Common.{◌≡◌, true, sym, ap, ◌∙◌, subst}
use Rattle.std.specs.Prelude.{is_ok}
use Rattle.sqlite.specs.Held.{state as connection}
use Rattle.sqlite.specs.State.{HasCleanDisk}
use Rattle.up_records.specs.Standing.{state}
use Rattle.up_shipped.proofs.FromNothing.{went_through, from_nothing}
use Rattle.up_shipped.proofs.fresh.run_fresh.Goals as goal

pub returns-then-ran : goal.returns-then-ran
returns-then-ran g c = λ clean.
    let ok : is_ok c.run.result ≡ true = sym c.is_ok-ran.ensures.value ∙ c.if-ran.true in
    let called = went_through _ c.run.result c.run.ensures.ran ok in
    let rules = ap (λ desk. g.K.Scheme.rules desk.scheme) c.new-desk.ensures in
    let held = c.release-conn.ensures.same ∙ c.release.ensures in
    let k = g.K.Scheme.rules c.args.scheme in
    from_nothing k (c.states_stay_sound.ensures.empty k) c.rows_tell_the_state.ensures.empty c.args.commands.now _ c.run.new.answers.items _ _
    (state g.D.Store c.new-desk.result.store) (state g.D.Store c.run.new.self.store) c.in-Ok.ensures.made
    (ap (λ desk. state g.D.Store desk.store) c.new-desk.ensures) c.new-answers.ensures.items
    (subst (λ rules. Rattle.up_desk.specs.Runs.AreCalled rules c.args.commands.now c.new-answers.result.items c.run.new.answers.items (state g.D.Store c.new-desk.result.store) (state g.D.Store c.run.new.self.store)) rules called)
    (subst (λ held. HasCleanDisk (connection g.D.Store held)) held clean)
