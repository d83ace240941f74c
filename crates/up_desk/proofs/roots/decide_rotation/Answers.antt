use Rattle.std.proofs.Common.{◌≡◌, ◌+◌, ℕ, Err, Ok, refl, subst}
use Rattle.std.specs.Prelude.{MatchBool, ⊤}
use Rattle.up_canon.specs.Refusals.{is_memory}
use Rattle.up_machine.specs.Decisions.{HasRootRows, IsDone}
use Rattle.up_machine.specs.Repositories.{decide_rotate, stamped, with_root}
use Rattle.up_machine.specs.State.{State}
use Rattle.up_records.proofs.NeverStore.{never_rotate}
use Rattle.up_records.proofs.Sessions.{decides_on, due_on, fails_on, none_on, then_on}
use Rattle.up_desk.proofs.roots.decide_rotation.Goals as goal

pub returns-in-Ok-make_root_rows : goal.returns-in-Ok-make_root_rows
returns-in-Ok-make_root_rows g c inside =
    let G = g.D.Store in
    let k = g.K.Scheme.rules c.args.scheme.now in
    let keys = c.args.keys.now in
    let rows = c.in-Ok-make_root_rows.rows in
    let next = λ (s : State) (at : ℕ). stamped k (with_root k s at keys) at (s.image_version + 1) in
    decides_on G (then_on G (then_on G (none_on G inside) c.in-Ok.ensures.found) c.in-Ok-make_root_rows.ensures) k refl (Ok rows) (λ s. never_rotate k s c.args.at keys) (λ s r h. h)
    (λ s sound _ found. subst (λ (at : ℕ). IsDone (HasRootRows (next s at)) (next s at) rows (decide_rotate k s at keys)) c.moment-at.ensures.value
    (let due = c.in-Ok-decide_rotate.ensures.decided s sound found.0.1 in (due.0, found.1 (next s c.moment-at.result) due.1 refl)))

pub returns-in-Ok-decide_rotate : goal.returns-in-Ok-decide_rotate
returns-in-Ok-decide_rotate g c inside =
    let G = g.D.Store in
    fails_on G (then_on G (none_on G inside) c.in-Ok.ensures.found) (g.K.Scheme.rules c.args.scheme.now) refl c.refusal_of-in-Err-make_root_rows.ensures c.in-Err-make_root_rows.ensures

pub returns : goal.returns
returns g c inside =
    let G = g.D.Store in
    let k = g.K.Scheme.rules c.args.scheme.now in
    due_on G (then_on G (none_on G inside) c.in-Ok.ensures.found) k refl (λ s. never_rotate k s c.args.at c.args.keys.now)
    (λ s sound _ found. subst (λ (at : ℕ). MatchBool (is_memory c.in-Err-decide_rotate.refusal) ⊤ (decide_rotate k s at c.args.keys.now ≡ Err c.in-Err-decide_rotate.refusal)) c.moment-at.ensures.value (c.in-Err-decide_rotate.ensures.decided s sound found.1))

pub returns-in-Err : goal.returns-in-Err
returns-in-Err g c inside = let G = g.D.Store in fails_on G (none_on G inside) (g.K.Scheme.rules c.args.scheme.now) refl c.refusal_of.ensures c.in-Err.ensures.found

pub make_root_rows-requires : goal.make_root_rows-requires
make_root_rows-requires g c = c.in-Ok-decide_rotate.ensures.fits c.in-Ok.ensures.fits
