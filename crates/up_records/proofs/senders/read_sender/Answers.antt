use Rattle.std.proofs.Common.{◌≡◌, None, Ok, subst, sym, ◌∙◌}
use Rattle.std.specs.Prelude.{⊤, MatchBool}
use Rattle.std.specs.FinMap as table
use Rattle.up_canon.specs.Refusals.{is_memory}
use Rattle.up_machine.specs.Primaries.{GivesSent}
use Rattle.up_machine.proofs.Senders.{no_vehicle}
use Rattle.up_records.proofs.Cataloged.{founding_more, of_more}
use Rattle.up_records.proofs.NeverStore.{never_received}
use Rattle.up_records.proofs.SentBy.{due, none_refused}
use Rattle.up_records.proofs.Sessions.{decides_on, due_on, fails_on, none_on, then_on}
use Rattle.up_records.proofs.senders.read_sender.Goals as goal

pub returns-in-Err-clause-sent : goal.returns-in-Err-clause-sent
returns-in-Err-clause-sent g c inside =
    let k = g.K.Scheme.rules c.args.scheme.now in
    due_on g.D.Store (none_on g.D.Store {rules = λ _. ⊤} inside) k tt (λ s. never_received k s c.args.incoming.now) (λ s sound is _. due (is_memory c.in-Err.refusal) _ (c.in-Err.ensures.sent s is))

pub returns-then-is_kept-clause-sent : goal.returns-then-is_kept-clause-sent
returns-then-is_kept-clause-sent g c inside =
    let k = g.K.Scheme.rules c.args.scheme.now in
    decides_on g.D.Store (then_on g.D.Store (none_on g.D.Store inside) c.in-Ok-Some.ensures.found) k tt (Ok c.in-Ok-Some.rows) (λ s. never_received k s c.args.incoming.now) (λ s r h. h)
    (λ s sound is found.
    let sent = subst (λ b. MatchBool b (GivesSent k s c.args.incoming.now (Ok tt)) ⊤) c.if-is_kept.true (c.in-Ok.ensures.sent s is) in
    record { founding = is.founding; vehicle = sym found.1 ∙ c.in-Ok-Some.field-0-is; received = sent.0; receives = sent.1 })

pub returns-in-Ok-test_by_rows-clause-sent : goal.returns-in-Ok-test_by_rows-clause-sent
returns-in-Ok-test_by_rows-clause-sent g c inside =
    let k = g.K.Scheme.rules c.args.scheme.now in
    decides_on g.D.Store (then_on g.D.Store (none_on g.D.Store inside) c.in-Ok-Some.ensures.found) k tt (Ok c.in-Ok-Some.rows) (λ s. never_received k s c.args.incoming.now) (λ s r h. h)
    (λ s sound is found.
    let there = sym found.1 ∙ c.in-Ok-Some.field-0-is in
    let sent = c.in-Ok-test_by_rows.ensures.sent s is.founding there in
    record { founding = founding_more s c.args.catalog.now c.test_by_rows.new.catalog c.test_by_rows.ensures.more is.founding; vehicle = there; received = sent.0; receives = sent.1 })

pub returns-in-Ok-test_by_rows-clause-leaves : goal.returns-in-Ok-test_by_rows-clause-leaves
returns-in-Ok-test_by_rows-clause-leaves g c =
    let k = g.K.Scheme.rules c.args.scheme.now in
    let kept = c.args.catalog.now in
    record {
      more = c.test_by_rows.ensures.more;
      of = λ inside clean s sees is.
          let there = sym ((c.in-Ok-Some.ensures.found inside).told clean k tt s sees) ∙ c.in-Ok-Some.field-0-is in
          of_more s kept c.test_by_rows.new.catalog c.test_by_rows.ensures.more (c.test_by_rows.ensures.of s there is.primaries) is;
      came = λ inside clean s sees is.
          let there = sym ((c.in-Ok-Some.ensures.found inside).told clean k tt s sees) ∙ c.in-Ok-Some.field-0-is in
          c.test_by_rows.ensures.came s is.founding there is.primaries;
      unread = none_refused k kept.primaries c.args.incoming.now _ (subst (λ b. MatchBool b ⊤ (table.get kept.primaries c.args.incoming.now.manifest.vehicle ≡ None)) c.if-is_kept.false c.in-Ok.ensures.kept);
    }

pub returns-in-Err-test_by_rows-clause-sent : goal.returns-in-Err-test_by_rows-clause-sent
returns-in-Err-test_by_rows-clause-sent g c inside =
    let k = g.K.Scheme.rules c.args.scheme.now in
    due_on g.D.Store (then_on g.D.Store (none_on g.D.Store inside) c.in-Ok-Some.ensures.found) k tt (λ s. never_received k s c.args.incoming.now)
    (λ s sound is found. due (is_memory c.in-Err-test_by_rows.refusal) _ (c.in-Err-test_by_rows.ensures.sent s is.founding (sym found.1 ∙ c.in-Ok-Some.field-0-is)))

pub returns-in-Err-test_by_rows-clause-leaves : goal.returns-in-Err-test_by_rows-clause-leaves
returns-in-Err-test_by_rows-clause-leaves g c =
    let k = g.K.Scheme.rules c.args.scheme.now in
    let kept = c.args.catalog.now in
    record {
      more = c.test_by_rows.ensures.more;
      of = λ inside clean s sees is.
          let there = sym ((c.in-Ok-Some.ensures.found inside).told clean k tt s sees) ∙ c.in-Ok-Some.field-0-is in
          of_more s kept c.test_by_rows.new.catalog c.test_by_rows.ensures.more (c.test_by_rows.ensures.of s there is.primaries) is;
      came = λ inside clean s sees is.
          let there = sym ((c.in-Ok-Some.ensures.found inside).told clean k tt s sees) ∙ c.in-Ok-Some.field-0-is in
          c.test_by_rows.ensures.came s is.founding there is.primaries;
      unread = none_refused k kept.primaries c.args.incoming.now _ (subst (λ b. MatchBool b ⊤ (table.get kept.primaries c.args.incoming.now.manifest.vehicle ≡ None)) c.if-is_kept.false c.in-Ok.ensures.kept);
    }

pub returns-in-Ok-None-clause-sent : goal.returns-in-Ok-None-clause-sent
returns-in-Ok-None-clause-sent g c inside =
    let k = g.K.Scheme.rules c.args.scheme.now in
    due_on g.D.Store (then_on g.D.Store (none_on g.D.Store inside) c.in-Ok-None.ensures.found) k tt (λ s. never_received k s c.args.incoming.now)
    (λ s sound is found. no_vehicle k s c.args.incoming.now c.args.catalog.now.founding is.founding (sym found.1 ∙ c.in-Ok-None.field-0-is))

pub returns-in-Err-read_fitting_vehicle-clause-sent : goal.returns-in-Err-read_fitting_vehicle-clause-sent
returns-in-Err-read_fitting_vehicle-clause-sent g c inside =
    fails_on g.D.Store (none_on g.D.Store inside) (g.K.Scheme.rules c.args.scheme.now) tt c.refusal_of.ensures c.in-Err-read_fitting_vehicle.ensures.found
