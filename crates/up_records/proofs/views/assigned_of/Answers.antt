use Rattle.std.proofs.Common.{Err, ap, refl, sym, ◌∙◌}
use Rattle.std.specs.Prelude.{option_map}
use Rattle.up_machine.specs.declared.rows.Kept.{Kept}
use Rattle.up_records.proofs.Sessions.{all_on, lost_on, none_on, rows_on, then_on}
use Rattle.up_records.proofs.Viewing.{dropped_finds}
use Rattle.up_records.proofs.views.assigned_of.Goals as goal

pub returns-in-Ok-Some : goal.returns-in-Ok-Some
returns-in-Ok-Some g c =
    dropped_finds g.D.Store _ _ c.drop-tx.new.self.0 _ c.store.view_is c.transaction-tx.ensures.begun c.drop-tx.ensures.undone c.drop-tx.ensures.survives _ (λ inside.
    all_on g.D.Store (then_on g.D.Store (none_on g.D.Store inside) (rows_on g.D.Store _ (λ k s x is. is) c.in-Ok-Some.ensures)) _ _ (λ k of s found.
    ap (option_map (λ (row : Kept). row.plan)) (sym c.in-Ok-Some.field-0-is ∙ found.1) ∙ c.views_are_told.ensures.assigned s c.args.vehicle.now))

pub returns-in-Ok-None : goal.returns-in-Ok-None
returns-in-Ok-None g c =
    dropped_finds g.D.Store _ _ c.drop-tx-in-Ok-None.new.self.0 _ c.store.view_is c.transaction-tx.ensures.begun c.drop-tx-in-Ok-None.ensures.undone c.drop-tx-in-Ok-None.ensures.survives _ (λ inside.
    all_on g.D.Store (then_on g.D.Store (none_on g.D.Store inside) (rows_on g.D.Store _ (λ k s x is. is) c.in-Ok-None.ensures)) _ _ (λ k of s found.
    ap (option_map (λ (row : Kept). row.plan)) (sym c.in-Ok-None.field-0-is ∙ found.1) ∙ c.views_are_told.ensures.assigned s c.args.vehicle.now))

pub returns : goal.returns
returns g c = dropped_finds g.D.Store _ _ c.drop-tx-2.new.self.0 _ c.store.view_is c.transaction-tx.ensures.begun c.drop-tx-2.ensures.undone c.drop-tx-2.ensures.survives _ (λ inside. lost_on g.D.Store (none_on g.D.Store inside) _ (Err c.in-Err.fault) refl (rows_on g.D.Store _ (λ k s x is. is) c.in-Err.ensures))
