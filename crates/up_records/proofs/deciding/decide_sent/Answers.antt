use Rattle.std.proofs.Common.{◌∙◌}
use Rattle.up_records.proofs.NeverStore.{never_delivered}
use Rattle.up_records.proofs.Sessions.{decides_on, fails_on, none_on, rows_on, then_on}
use Rattle.up_records.proofs.deciding.decide_sent.Goals as goal

pub returns-then-is_later : goal.returns-then-is_later
returns-then-is_later g c inside =
    let k = g.K.Scheme.rules c.args.scheme.now in
    decides_on g.D.Store (none_on g.D.Store {rules = λ _. Rattle.std.specs.Prelude.⊤} inside) k tt c.decide_later.result (λ s. never_delivered k s c.args.at c.args.incoming.now) (λ s r h. h) (λ s sound sent _. c.decide_later.ensures s sound sent)

pub returns-in-Ok : goal.returns-in-Ok
returns-in-Ok g c inside =
    let k = g.K.Scheme.rules c.args.scheme.now in
    let manifest = c.args.incoming.now.manifest in
    decides_on g.D.Store (then_on g.D.Store (none_on g.D.Store {rules = λ _. Rattle.std.specs.Prelude.⊤} inside) (rows_on g.D.Store _ (λ j s x is. is ∙ c.rows_are_found.ensures.kept s manifest.vehicle manifest.counter) c.in-Ok.ensures)) k tt c.decide_again.result
    (λ s. never_delivered k s c.args.at c.args.incoming.now) (λ s r h. h)
    (λ s sound sent found. c.decide_again.ensures.decided k s c.args.at c.requires.given.0 sound sent.from (c.as_ref.ensures.value ∙ found.1))

pub returns-in-Err : goal.returns-in-Err
returns-in-Err g c inside =
    fails_on g.D.Store (none_on g.D.Store {rules = λ _. Rattle.std.specs.Prelude.⊤} inside) (g.K.Scheme.rules c.args.scheme.now) tt c.refusal_of.ensures (rows_on g.D.Store _ (λ j s x is. is) c.in-Err.ensures)
