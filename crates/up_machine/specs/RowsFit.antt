-- What decisions ask of the rows that they are given: those of a sound state have it, and other rows can be tested.
use Rattle.std.specs.Prelude.{◌&&◌, Bool, map, nat_le}
use Rattle.up_canon.specs.Names.{are_distinct}
use Rattle.up_sign.specs.Schemes.{Rules}
use Rattle.up_metadata.specs.Keys.{all_can_sign}
use Rattle.up_machine.specs.declared.rows.Founding.{Founding}
use Rattle.up_machine.specs.declared.rows.VehicleRows.{VehicleRows}

-- the keys can sign
abbrev pub founding_fits : Rules → Founding → Bool
founding_fits k founding = all_can_sign k founding.keys

-- the version is at most the last counter, and no ECU stands twice
abbrev pub rows_fit : VehicleRows → Bool
rows_fit rows = nat_le rows.vehicle.version rows.vehicle.last && are_distinct (map (λ row. row.ecu) rows.ecus)
