-- Each vehicle by itself: what other vehicles deliver doesn't touch it, and deliveries of different vehicles may be exchanged.
use Rattle.std.specs.Prelude.{◌≡◌, ◌≢◌, ℕ, List, ◌∷◌, ◌++◌, Option, Some, IsTrue, length}
use Rattle.std.specs.FinMap as table
use Rattle.up_canon.specs.Names.{Name}
use Rattle.up_sign.specs.Schemes.{Rules}
use Rattle.up_machine.specs.declared.answer.Answer.{Answer}
use Rattle.up_machine.specs.Vehicles.{has_ecu}
use Rattle.up_machine.specs.State.{Vehicle, State, installed_on}
use Rattle.up_machine.specs.Reads.{installed}
use Rattle.up_machine.specs.Repeats.{Sent, after, expected, vehicle_of, without_others, own_answers}
use Rattle.up_machine.specs.Sound.{IsSound}

-- a vehicle is that of the list without other vehicles' deliveries, the same items being lost, and so are the answers to its own
abbrev pub VehiclesStandApart : Type 0
VehiclesStandApart = (k : Rules) (s : State) (name : Name) (ms : List Sent)
    → (table.get (after k s ms).vehicles name ≡ table.get (after k s (without_others name ms)).vehicles name)
    × (own_answers k s name ms ≡ own_answers k s name (without_others name ms))

-- the answers of a list, and of the list with two neighbours exchanged
pub record AreExchanged (place : ℕ) (answers others : List (Option Answer)) : Type 0 where
  pub front : List (Option Answer)
  pub first : Option Answer
  pub second : Option Answer
  pub back : List (Option Answer)
  pub at_place : length front ≡ place
  pub answers_are : answers ≡ front ++ first ∷ second ∷ back
  pub others_are : others ≡ front ++ second ∷ first ∷ back

-- two neighbouring deliveries of manifests of different vehicles may be exchanged, lost or not: the state and each item's expected
-- answer stay
abbrev pub DeliveriesCommute : Type 0
DeliveriesCommute = (k : Rules) (s : State) (before rest : List Sent) (m n : Sent) (a b : Name)
    → vehicle_of m.item.command ≡ Some a → vehicle_of n.item.command ≡ Some b → a ≢ b
    → (after k s (before ++ m ∷ n ∷ rest) ≡ after k s (before ++ n ∷ m ∷ rest))
    × AreExchanged (length before) (expected k s (before ++ m ∷ n ∷ rest)) (expected k s (before ++ n ∷ m ∷ rest))

-- the installed image of an ECU is that of the vehicle in which it stands
abbrev pub InstalledIsOfTheVehicle : Type 0
InstalledIsOfTheVehicle = (k : Rules) (s : State) (name ecu : Name) (v : Vehicle) → IsSound k s → table.get s.vehicles name ≡ Some v
    → IsTrue (has_ecu ecu v.ecus) → installed s ecu ≡ installed_on v ecu
