use Rattle.std.proofs.Common.{◌≡◌, Ok, refl, sym, subst}
use Rattle.up_machine.specs.declared.answer.Answer.TheVariants.{Reply as Replied}
use Rattle.up_machine.specs.Decisions.{decide_incoming}
use Rattle.up_machine.specs.Deliveries.{with_entry}
use Rattle.up_rows.specs.Changes.{with_accepted_rows}
use Rattle.up_store.specs.Fitting.{IsRecorded}
use Rattle.up_store.specs.Puts.{MayAccept}
use Rattle.up_store.specs.Writes.{FitsAccepted, accept_writes}
use Rattle.up_store.proofs.Ended.{of_made}
use Rattle.up_records.proofs.Cataloged.{entry_fits}
use Rattle.up_records.proofs.Fitting.{accepting_fits}
use Rattle.up_desk.proofs.Carrying.{lost_with, put_with, refused_with, unchanged_with}
use Rattle.up_desk.proofs.Commits.{one_more}
use Rattle.up_desk.proofs.Decided.{when_accepted, when_repeated}
use Rattle.up_desk.proofs.deliveries.receive.Goals as goal

pub returns-in-Ok-Repeat : goal.returns-in-Ok-Repeat
returns-in-Ok-Repeat g c inside =
    let k = g.K.Scheme.rules c.args.scheme.now in
    let name = c.args.incoming.now.manifest.vehicle in
    unchanged_with g.D.Store k (λ s fits. fits) (record { fits = c.decide.ensures.kept.fits inside; can = c.decide.ensures.kept.can }) (Replied c.in-Ok-Repeat.reply) (c.in-Ok-Repeat.ensures.decided inside) refl (λ s commit. commit refl)
    (λ s gives. when_repeated s name c.in-Ok-Repeat.field-0 c.in-Ok-Repeat.reply _ c.in-Ok-Repeat.field-0-is gives)

pub returns-in-Err : goal.returns-in-Err
returns-in-Err g c inside =
    let k = g.K.Scheme.rules c.args.scheme.now in
    refused_with g.D.Store k (λ s fits. fits) (record { fits = c.decide.ensures.kept.fits inside; can = c.decide.ensures.kept.can }) (c.in-Err.ensures.decided inside)

pub returns-in-Err-targets_in : goal.returns-in-Err-targets_in
returns-in-Err-targets_in g c inside =
    let k = g.K.Scheme.rules c.args.scheme.now in
    lost_with g.D.Store k (λ s fits. fits) (record { fits = c.decide.ensures.kept.fits inside; can = c.decide.ensures.kept.can }) (c.in-Ok-Accepted.ensures.decided inside)

pub returns-in-Ok : goal.returns-in-Ok
returns-in-Ok g c inside =
    let k = g.K.Scheme.rules c.args.scheme.now in
    let rows = c.in-Ok-Accepted.rows in
    let name = c.args.incoming.now.manifest.vehicle in
    put_with g.D.Store k _ _ _ c.args.catalog.now _ (accept_writes rows) (λ all. IsRecorded rows all × FitsAccepted rows) (IsRecorded rows) (λ all. with_accepted_rows all rows) (MayAccept rows) (Replied c.reply_in.result) (c.in-Ok-Accepted.ensures.decided inside) refl
    (λ all lists held. record { rows = all; lists = lists; recorded = held.0; fits = held.1 }) (λ s fits. fits) (record { fits = c.decide.ensures.kept.fits inside; can = c.decide.ensures.kept.can })
    (λ s sound gives.
    let computed = decide_incoming k s c.args.at c.args.incoming.now in
    let it = when_accepted s name c.in-Ok-Accepted.field-0 rows computed c.in-Ok-Accepted.field-0-is gives in
    record {
      next = with_entry s name it.vehicle it.entry;
      computed_is = subst (λ r. computed ≡ Ok (record { answer = Replied r; next = with_entry s name it.vehicle it.entry })) (sym c.reply_in.ensures) it.decided;
      commit = one_more s it.vehicle name it.entry it.found;
      write = accepting_fits k s name it.vehicle it.entry rows sound c.rows_are_found.ensures.vehicles c.manifests_are_added.ensures c.ecus_tell_their_hash.ensures it.found it.has;
    })
    (λ s sound gives same.
    let it = when_accepted s name c.in-Ok-Accepted.field-0 rows (decide_incoming k s c.args.at c.args.incoming.now) c.in-Ok-Accepted.field-0-is gives in
    entry_fits s name it.vehicle it.entry _ it.found same)
    c.put_accepted-put.result c.put_of.ensures inside (λ within. of_made g.D.Store (c.put_accepted-put.ensures within))
