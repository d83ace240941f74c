-- Why what is put in for an accepted manifest tells `Store`.
use Rattle.std.proofs.Common.{◌≡◌, ◌⊎◌, inl, inr, ◌≤◌, ◌<◌, ◌^◌, [], ◌∷◌, sym, ap, subst, ◌∙◌, arith}
use Rattle.up_store.proofs.Common.{Connected, AcceptedRows, Kept, VehicleRow, VehicleRows, VehicleShown, vehicle_line, HasVehicle, table_rows, MayAccept, MayReport, vehicle_read}
use Rattle.up_store.proofs.AcceptPuts.{reported, reported_primary}

-- the vehicle stands there, with its Primary
pub has_vehicle : (new : VehicleRows) (vehicle : VehicleShown) (s : Connected) → vehicle_read vehicle ≡ new.vehicle → MayReport new s → HasVehicle vehicle s
has_vehicle new vehicle s same may =
    let own : vehicle.vehicle.now ≡ new.vehicle.vehicle = ap (λ (r : VehicleRow). r.vehicle) same in
    let primary : vehicle.primary_ecu.now ≡ new.vehicle.primary = ap (λ (r : VehicleRow). r.primary) same in
    let is = may.reported in (
      may.rows.vehicles,
      may.lists.vehicles,
      (
        is.version,
        is.last,
        subst (λ n. may.rows.vehicles n ≡ vehicle_line n vehicle.primary_ecu.now is.version is.last ∷ []) (sym own)
            (is.vehicle ∙ ap (λ p. vehicle_line new.vehicle.vehicle p is.version is.last ∷ []) (may.primary ∙ sym primary)),
      ),
    )

-- what an accepted manifest needs of the tables
pub may_report : (new : AcceptedRows) (s : Connected) → MayAccept new s → MayReport new.vehicle s
may_report new s may = record {
  rows = table_rows may.rows;
  lists = may.lists.tables;
  reported = reported may.rows new may.lists.typed may.recorded;
  primary = reported_primary may.rows new may.lists.typed may.recorded ∙ sym may.recorded.primary;
  fits = may.fits.vehicle;
}

-- numbers that fit their columns
pub fits_kept : (row : Kept) → (row.version < 2 ^ 63) × (row.root < 2 ^ 63) → ((2 ^ 63 ≤ row.version) ⊎ (2 ^ 63 ≤ row.root)) → ⊥
fits_kept row fits (inl large) = absurd (omega (arith, fits.0, large))
fits_kept row fits (inr large) = absurd (omega (arith, fits.1, large))
