use Rattle.std.proofs.Common.{Err, ap, refl, sym, ◌∙◌}
use Rattle.up_rows.specs.Lookups.{installed_among}
use Rattle.up_records.proofs.Reading.{if_ok_then}
use Rattle.up_records.proofs.Sessions.{all_on, lost_on, made_on, none_on, rows_on, then_on}
use Rattle.up_records.proofs.Told.{installed_read, none_installed}
use Rattle.up_records.proofs.Viewing.{dropped_finds}
use Rattle.up_records.proofs.views.installed_on.Goals as goal

pub returns-in-Ok-None : goal.returns-in-Ok-None
returns-in-Ok-None g c =
    dropped_finds g.D.Store _ _ c.drop-tx.new.self.0 _ c.store.view_is c.transaction-tx.ensures.begun c.drop-tx.ensures.undone c.drop-tx.ensures.survives _ (λ inside.
    all_on g.D.Store (then_on g.D.Store (none_on g.D.Store inside) (rows_on g.D.Store _ (λ k s x is. is) c.in-Ok-None.ensures)) _ _ (λ k of s found. none_installed s c.args.ecu.now c.views_are_told.ensures.installed (sym c.in-Ok-None.field-0-is ∙ found.1)))

pub returns-in-Ok : goal.returns-in-Ok
returns-in-Ok g c =
    dropped_finds g.D.Store _ _ c.drop-tx-in-Ok.new.self.0 _ c.store.view_is c.transaction-tx.ensures.begun c.drop-tx-in-Ok.ensures.undone c.drop-tx-in-Ok.ensures.survives c.image_among.result (λ inside.
    made_on g.D.Store (then_on g.D.Store (then_on g.D.Store (none_on g.D.Store inside) (rows_on g.D.Store _ (λ k s x is. is) c.in-Ok-Some.ensures)) (rows_on g.D.Store _ (λ k s x is. is) c.in-Ok.ensures)) _ c.image_among.result c.image_among.ensures.memory
    (if_ok_then c.image_among.result _ _ c.image_among.ensures.told (λ found is. λ k of s both.
    is ∙ ap (installed_among c.args.ecu.now) c.as_slice.ensures ∙ installed_read s c.args.ecu.now _ _ c.views_are_told.ensures.installed (sym c.in-Ok-Some.field-0-is ∙ both.0.1) both.1)))

pub returns-in-Err : goal.returns-in-Err
returns-in-Err g c = dropped_finds g.D.Store _ _ c.drop-tx-in-Err.new.self.0 _ c.store.view_is c.transaction-tx.ensures.begun c.drop-tx-in-Err.ensures.undone c.drop-tx-in-Err.ensures.survives _ (λ inside. lost_on g.D.Store (none_on g.D.Store inside) _ (Err c.in-Err.fault) refl (rows_on g.D.Store _ (λ k s x is. is) c.in-Err.ensures))

pub returns : goal.returns
returns g c = dropped_finds g.D.Store _ _ c.drop-tx-2.new.self.0 _ c.store.view_is c.transaction-tx.ensures.begun c.drop-tx-2.ensures.undone c.drop-tx-2.ensures.survives _ (λ inside. lost_on g.D.Store (then_on g.D.Store (none_on g.D.Store inside) (rows_on g.D.Store _ (λ k s x is. is) c.in-Ok-Some.ensures)) _ (Err c.in-Err-find_ecus.fault) refl (rows_on g.D.Store _ (λ k s x is. is) c.in-Err-find_ecus.ensures))
