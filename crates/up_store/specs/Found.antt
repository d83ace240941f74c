-- What is told by the rows of a state, beside what up_rows looks up.
use Rattle.std.specs.Prelude.{Bool, List, [], Option, option_map, unwrap_or, filter}
use Rattle.std.specs.FinMap as table
use Rattle.up_canon.specs.Names.{Name, Table}
use Rattle.up_plan.specs.Campaigns.{CampaignData}
use Rattle.up_machine.specs.declared.rows.EcuRow.{EcuRow}
use Rattle.up_machine.specs.declared.rows.VehicleRow.{VehicleRow}
use Rattle.up_rows.specs.StateRows.{StateRows}

-- none of an unknown vehicle
abbrev pub vehicle_found : Name → StateRows → Option VehicleRow
vehicle_found vehicle rows = option_map (λ v. v.vehicle) (table.get rows.vehicles vehicle)

-- in inventory order; empty of an unknown vehicle
abbrev pub ecus_found : Name → StateRows → List EcuRow
ecus_found vehicle rows = unwrap_or (option_map (λ v. v.ecus) (table.get rows.vehicles vehicle)) []

-- the values of which the test holds, under their names
abbrev pub values_where : {X : Type 0} → (X → Bool) → Table X → Table X
values_where test t = table.from_sorted (filter (λ e. test e.1) (table.entries t))

-- the running campaigns
abbrev pub running_found : StateRows → Table CampaignData
running_found rows = values_where (λ c. c.running) rows.campaigns
