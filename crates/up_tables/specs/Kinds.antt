-- What the columns of a row have to be so that the row is read, whatever their values. A number is read where it isn't below 0, a text where
-- it is UTF-8.
use Rattle.std.specs.Prelude.{◌≡◌, ◌≤◌, ℕ, List, length, IsUtf8, IsTrue}
use Rattle.std.specs.List.{AllByRecursion, list_any}
use Rattle.sqlite.specs.declared.types.Value.{Value}
use Rattle.sqlite.specs.declared.types.Value.TheVariants.{Text, Blob}
use Rattle.sqlite.specs.Order.{Row, column}
use Rattle.up_tables.specs.Rows.{has_text}

-- ---- columns

abbrev pub IsWords : Value → Type 0
IsWords v = (s : List ℕ) × (v ≡ Text s) × IsUtf8 s

-- it is this text
abbrev pub IsText : Value → List ℕ → Type 0
IsText v s = (v ≡ Text s) × IsUtf8 s

abbrev pub IsBytes : Value → Type 0
IsBytes v = (b : List ℕ) × (v ≡ Blob b)

-- ---- rows, as the statements show them

abbrev pub ShowsWords : Row → Type 0
ShowsWords r = IsWords (column r 0)

-- ---- answers

-- one row at most, which shows a value
abbrev pub ShowsOne : (Row → Type 0) → List Row → Type 0
ShowsOne shows rows = (length rows ≤ 1) × AllByRecursion shows rows

-- by vehicle: where the vehicle of the ECU has a name in UTF-8
abbrev pub HasOwner : List ℕ → (List ℕ → List Row) → Type 0
HasOwner ecu rows_of = (vehicle : List ℕ) → IsTrue (list_any (has_text 0 ecu) (rows_of vehicle)) → IsUtf8 vehicle
