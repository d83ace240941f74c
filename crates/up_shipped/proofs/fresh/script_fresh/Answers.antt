use Rattle.std.proofs.Common.{ap, ◌∙◌, subst}
use Rattle.sqlite.specs.Held.{state as connection}
use Rattle.sqlite.specs.State.{HasCleanDisk}
use Rattle.up_records.specs.Standing.{state}
use Rattle.up_shipped.proofs.FromNothing.{script_from_nothing}
use Rattle.up_shipped.proofs.fresh.script_fresh.Goals as goal

pub returns : goal.returns
returns g c = λ clean.
    let held = c.release-2.ensures.same ∙ c.release.ensures in
    let k = g.K.Scheme.rules c.args.scheme in
    script_from_nothing g.K.Scheme.rules g.D.Store c.scripts_are_runs.ensures k _ _ _ _ _ _ _ (ap (λ desk. g.K.Scheme.rules desk.scheme) c.new-desk.ensures) c.run_script-ended.ensures.runs
    (subst (λ held. HasCleanDisk (connection g.D.Store held)) held clean) (c.states_stay_sound.ensures.empty k) c.rows_tell_the_state.ensures.empty c.in-Ok.ensures.made
    (ap (λ desk. state g.D.Store desk.store) c.new-desk.ensures)
