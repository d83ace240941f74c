use Rattle.std.proofs.Common.{◌≤◌, ◌^◌, Err, List, length, subst, ap}
use Rattle.up_store.proofs.Common.{EcuRow, MayAccept, accept_writes}
use Rattle.up_store.proofs.AcceptBlames.{fits_kept}
use Rattle.up_store.proofs.PutBlames.{places_fit, version_fits}
use Rattle.up_store.proofs.WithinLemmas.{makes_none, makes_puts}
use Rattle.up_store.proofs.manifests.put_accepted.Goals as goal

pub returns : goal.returns
returns g c inside = makes_puts g.D.Store _ _ _ _ c.put_planned.result _ (MayAccept c.args.new.now) (λ may. may) (c.put_planned.ensures inside)

pub returns-in_err-check_version : goal.returns-in_err-check_version
returns-in_err-check_version g c inside =
    let new = c.args.new.now in
    makes_none g.D.Store _ (accept_writes new) (MayAccept new) _ c.from_residual.result _ c.from_residual.ensures.1 (λ e clean. tt) (λ store may. version_fits new.vehicle may.fits.vehicle c.in_err-check_version.ensures.fault.1)

pub returns-in_err-check_places : goal.returns-in_err-check_places
returns-in_err-check_places g c inside =
    let new = c.args.new.now in
    let many : 2 ^ 63 ≤ length new.vehicle.ecus = subst (λ (rows : List EcuRow). 2 ^ 63 ≤ length rows) c.as_slice.ensures c.in_err-check_places.ensures.fault.1 in
    makes_none g.D.Store _ (accept_writes new) (MayAccept new) _ c.from_residual-in_err-check_places.result _ c.from_residual-in_err-check_places.ensures.1 (λ e clean. tt) (λ store may. places_fit new.vehicle may.fits.vehicle many)

pub returns-in_err-plan : goal.returns-in_err-plan
returns-in_err-plan g c inside =
    let new = c.args.new.now in
    makes_none g.D.Store _ (accept_writes new) (MayAccept new) _ c.from_residual-in_err-plan.result c.in_err-plan.field-0.0 c.from_residual-in_err-plan.ensures.1 (λ e clean. tt)
    (λ store may. fits_kept new.kept (may.fits.version, may.fits.root) (c.in_err-plan.ensures.large.0 (ap Err store)))
