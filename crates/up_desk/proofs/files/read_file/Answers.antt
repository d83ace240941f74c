use Rattle.std.proofs.Common.{ℕ, sym, ◌∙◌, subst}
use Rattle.std.specs.Prelude.{⊤}
use Rattle.up_machine.specs.Decisions.{GivesFile}
use Rattle.up_machine.specs.Repositories.{decide_fetch}
use Rattle.up_records.proofs.NeverStore.{never_fetch}
use Rattle.up_records.proofs.Sessions.{decides_on, fails_on, none_on, rows_on, then_on}
use Rattle.up_records.proofs.Told.{founded_with}
use Rattle.up_desk.proofs.Standings.{or_memory}
use Rattle.up_desk.proofs.files.read_file.Goals as goal

pub returns-in-Ok-Some : goal.returns-in-Ok-Some
returns-in-Ok-Some g c k inside =
    let G = g.D.Store in
    decides_on G (then_on G (none_on G {rules = λ _. ⊤} inside) (rows_on G _ (λ j s x is. is ∙ c.rows_are_found.ensures.files s c.args.repository c.args.name.now) c.in-Ok-Some.ensures)) k tt c.decide_fetch.result
    (λ s. never_fetch s c.args.at c.args.repository c.args.name.now) (λ s. or_memory) (λ s sound _ found.
    let text = sym c.in-Ok-Some.field-0-is ∙ found.1 in
    subst (λ (at : ℕ). GivesFile s c.decide_fetch.result (decide_fetch s at c.args.repository c.args.name.now)) c.moment.ensures.value
    (c.decide_fetch.ensures s c.args.repository c.args.name.now (founded_with k s c.args.repository c.args.name.now c.in-Ok-Some.text c.rows_are_found.ensures.founded sound text) text))

pub returns-in-Ok : goal.returns-in-Ok
returns-in-Ok g c k inside =
    let G = g.D.Store in
    decides_on G (then_on G (then_on G (none_on G {rules = λ _. ⊤} inside) (rows_on G _ (λ j s x is. is ∙ c.rows_are_found.ensures.files s c.args.repository c.args.name.now) c.in-Ok-None.ensures)) (rows_on G _ (λ j s x is. is) c.in-Ok.ensures)) k tt c.decide_fetch-in-Ok.result
    (λ s. never_fetch s c.args.at c.args.repository c.args.name.now) (λ s. or_memory) (λ s sound _ found.
    subst (λ (at : ℕ). GivesFile s c.decide_fetch-in-Ok.result (decide_fetch s at c.args.repository c.args.name.now)) c.moment-in-Ok.ensures.value
    (c.decide_fetch-in-Ok.ensures s c.args.repository c.args.name.now found.1 (sym c.in-Ok-None.field-0-is ∙ found.0.1)))

pub returns-in-Err-find_whether_founded : goal.returns-in-Err-find_whether_founded
returns-in-Err-find_whether_founded g c k inside =
    let G = g.D.Store in
    fails_on G (then_on G (none_on G {rules = λ _. ⊤} inside) (rows_on G _ (λ j s x is. is) c.in-Ok-None.ensures)) k tt c.refusal_of.ensures (rows_on G _ (λ j s x is. is) c.in-Err-find_whether_founded.ensures)

pub returns-in-Err : goal.returns-in-Err
returns-in-Err g c k inside = let G = g.D.Store in fails_on G (none_on G {rules = λ _. ⊤} inside) k tt c.refusal_of-in-Err.ensures (rows_on G _ (λ j s x is. is) c.in-Err.ensures)
