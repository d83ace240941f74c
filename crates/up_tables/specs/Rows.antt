-- Parts of a table's rows.
use Rattle.std.specs.Prelude.{ℕ, ℤ, Bool, List, [], ◌∷◌, ◌++◌, ◌&&◌, map, filter, drop, bytes_eq, if◌then◌else◌}
use Rattle.std.specs.Ordering.{is_eq}
use Rattle.sqlite.specs.declared.types.Value.TheVariants.{Int, Text}
use Rattle.sqlite.specs.Order.{Row, column, value_cmp}

-- the column at this place is that text, as SQL compares
abbrev pub has_text : ℕ → List ℕ → Row → Bool
has_text at name row = is_eq (value_cmp (column row at) (Text name))

-- the column at this place is that number
abbrev pub has_number : ℕ → ℤ → Row → Bool
has_number at n row = is_eq (value_cmp (column row at) (Int n))

-- the rows without their rowids, which nothing shows
abbrev pub bare : List Row → List Row
bare = map (drop 1)

-- the rows with that text at this place, without their rowids
abbrev pub rows_with : ℕ → List ℕ → List Row → List Row
rows_with at name rows = bare (filter (has_text at name) rows)

-- the columns at the two places are those texts
abbrev pub has_texts : ℕ → List ℕ → ℕ → List ℕ → Row → Bool
has_texts at first place second row = has_text at first row && has_text place second row

-- the columns at these places, in this order
abbrev pub columns_at : List ℕ → Row → Row
columns_at places row = map (column row) places

-- ---- rows by name: those of one name are changed, the others stay

abbrev pub changed_at : List ℕ → (List Row → List Row) → (List ℕ → List Row) → List ℕ → List Row
changed_at name f rows_of n = if bytes_eq name n then f (rows_of n) else rows_of n

-- a row is put after those of its name
abbrev pub with_row : List ℕ → Row → (List ℕ → List Row) → List ℕ → List Row
with_row name row = changed_at name (λ rows. rows ++ row ∷ [])

-- a name has this row alone
abbrev pub with_only : List ℕ → Row → (List ℕ → List Row) → List ℕ → List Row
with_only name row = changed_at name (λ _. row ∷ [])

-- two names have this row alone
abbrev pub with_only_at : List ℕ → List ℕ → Row → (List ℕ → List ℕ → List Row) → List ℕ → List ℕ → List Row
with_only_at first second row rows_of m n = if bytes_eq first m && bytes_eq second n then row ∷ [] else rows_of m n
