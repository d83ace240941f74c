-- The text of a file's row, as it is read alone.
use Rattle.std.specs.Prelude.{◌≡◌, ℕ, List, []}
use Rattle.sqlite.specs.declared.types.Value.TheVariants.{Text}
use Rattle.sqlite.specs.Order.{Row, column}

-- the row has this text
abbrev pub SaysBody : Row → List ℕ → Type 0
SaysBody row text = column row 2 ≡ Text text

-- nothing is said of rows that fit: what is read is told by `SaysBody` alone
abbrev pub FitsNone : List ℕ → Type 0
FitsNone text = ⊥

abbrev pub no_row : List ℕ → Row
no_row text = []
