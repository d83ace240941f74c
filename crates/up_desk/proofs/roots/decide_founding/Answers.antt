use Rattle.std.proofs.Common.{◌≡◌, ℕ, Err, Ok, refl, subst}
use Rattle.std.specs.Prelude.{MatchBool, ⊤}
use Rattle.up_canon.specs.Refusals.{is_memory}
use Rattle.up_machine.specs.Decisions.{HasRootRows, IsDone}
use Rattle.up_machine.specs.Repositories.{decide_found, stamped, with_root}
use Rattle.up_machine.specs.State.{State}
use Rattle.up_records.proofs.NeverStore.{never_found}
use Rattle.up_records.proofs.Sessions.{decides_on, due_on, fails_on, none_on, rows_on, then_on}
use Rattle.up_desk.proofs.roots.decide_founding.Goals as goal

pub returns-in-Ok-make_root_rows : goal.returns-in-Ok-make_root_rows
returns-in-Ok-make_root_rows g c inside =
    let G = g.D.Store in
    let k = g.K.Scheme.rules c.args.scheme.now in
    let keys = c.args.keys.now in
    let rows = c.in-Ok-make_root_rows.rows in
    let next = λ (s : State) (at : ℕ). stamped k (with_root k s at keys) at 1 in
    decides_on G (then_on G (then_on G (none_on G inside) (rows_on G _ (λ j s x is. is) c.in-Ok.ensures)) c.in-Ok-make_root_rows.ensures) k refl (Ok rows) (λ s. never_found k s c.args.at keys) (λ s r h. h)
    (λ s sound _ found. subst (λ (at : ℕ). IsDone (HasRootRows (next s at)) (next s at) rows (decide_found k s at keys)) c.moment-at.ensures.value
    (let due = c.in-Ok-decide_found.ensures.decided s sound found.0.1 in (due.0, found.1 (next s c.moment-at.result) due.1 refl)))

pub returns-in-Ok-decide_found : goal.returns-in-Ok-decide_found
returns-in-Ok-decide_found g c inside =
    let G = g.D.Store in
    fails_on G (then_on G (none_on G inside) (rows_on G _ (λ j s x is. is) c.in-Ok.ensures)) (g.K.Scheme.rules c.args.scheme.now) refl c.refusal_of-in-Err-make_root_rows.ensures c.in-Err-make_root_rows.ensures

pub returns : goal.returns
returns g c inside =
    let G = g.D.Store in
    let k = g.K.Scheme.rules c.args.scheme.now in
    due_on G (then_on G (none_on G inside) (rows_on G {rules = λ _. ⊤} _ (λ j s x is. is) c.in-Ok.ensures)) k tt (λ s. never_found k s c.args.at c.args.keys.now)
    (λ s sound _ found. subst (λ (at : ℕ). MatchBool (is_memory c.in-Err-decide_found.refusal) ⊤ (decide_found k s at c.args.keys.now ≡ Err c.in-Err-decide_found.refusal)) c.moment-at.ensures.value (c.in-Err-decide_found.ensures.decided s sound found.1))

pub returns-in-Err : goal.returns-in-Err
returns-in-Err g c inside = let G = g.D.Store in fails_on G (none_on G {rules = λ _. ⊤} inside) (g.K.Scheme.rules c.args.scheme.now) tt c.refusal_of.ensures (rows_on G _ (λ j s x is. is) c.in-Err.ensures)
