use Rattle.std.proofs.Common.{◌≡◌, ℕ, Err, Ok, refl, subst}
use Rattle.up_machine.specs.Decisions.{HasRegisterRows, IsDone}
use Rattle.up_machine.specs.Repositories.{decide_refresh, stamped}
use Rattle.up_records.proofs.NeverStore.{never_refresh}
use Rattle.up_records.proofs.Sessions.{decides_on, due_on, fails_on, none_on, then_on}
use Rattle.up_desk.proofs.Standings.{or_memory}
use Rattle.up_desk.proofs.register.decide_refreshing.Goals as goal

pub returns-in-Ok-make_register_rows : goal.returns-in-Ok-make_register_rows
returns-in-Ok-make_register_rows g c inside =
    let G = g.D.Store in
    let k = g.K.Scheme.rules c.args.scheme.now in
    let rows = c.in-Ok-make_register_rows.rows in
    decides_on G (then_on G (then_on G (none_on G inside) c.in-Ok.ensures.found) c.in-Ok-make_register_rows.ensures) k refl (Ok rows) (λ s. never_refresh k s c.args.at c.args.version) (λ s r h. h)
    (λ s sound _ found. subst (λ (at : ℕ). IsDone (HasRegisterRows (stamped k s at c.args.version)) (stamped k s at c.args.version) rows (decide_refresh k s at c.args.version)) c.moment.ensures.value
    (let due = c.in-Ok-decide_refresh.ensures.decided k s found.0.1 in (due.0, found.1 (stamped k s c.moment.result c.args.version) due.1 refl refl)))

pub returns-in-Err-make_register_rows : goal.returns-in-Err-make_register_rows
returns-in-Err-make_register_rows g c inside =
    let G = g.D.Store in
    fails_on G (then_on G (none_on G inside) c.in-Ok.ensures.found) (g.K.Scheme.rules c.args.scheme.now) refl c.refusal_of-in-Err-make_register_rows.ensures c.in-Err-make_register_rows.ensures

pub returns-in-Err-decide_refresh : goal.returns-in-Err-decide_refresh
returns-in-Err-decide_refresh g c inside =
    let G = g.D.Store in
    let k = g.K.Scheme.rules c.args.scheme.now in
    due_on G (then_on G (none_on G inside) c.in-Ok.ensures.found) k refl (λ s. never_refresh k s c.args.at c.args.version)
    (λ s sound _ found. or_memory _ (subst (λ (at : ℕ). decide_refresh k s at c.args.version ≡ Err c.in-Err-decide_refresh.refusal) c.moment.ensures.value (c.in-Err-decide_refresh.ensures.decided k s found.1)))

pub returns-in-Err : goal.returns-in-Err
returns-in-Err g c inside = let G = g.D.Store in fails_on G (none_on G inside) (g.K.Scheme.rules c.args.scheme.now) refl c.refusal_of.ensures c.in-Err.ensures.found

pub make_register_rows-requires : goal.make_register_rows-requires
make_register_rows-requires g c = c.in-Ok-decide_refresh.ensures.fits (g.K.Scheme.rules c.args.scheme.now) c.in-Ok.ensures.fits
