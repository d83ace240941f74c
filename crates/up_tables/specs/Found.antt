-- What is found of a table, whoever wrote its rows.
use Rattle.std.specs.Prelude.{◌∷◌, ℕ, pos, List, [], Result, IfOk, map, filter}
use Rattle.std.specs.List.Sorted.{IsPermutation, IsSortedByKey}
use Rattle.sqlite.specs.Order.{Row, column, value_cmp}
use Rattle.sqlite.specs.State.{State, HasCleanDisk}
use Rattle.up_tables.specs.Rows.{columns_at, has_number}
use Rattle.up_tables.specs.Stands.{HasTables}
use Rattle.up_tables.specs.Tables.{image_repository_table, meta_table}

-- ---- the row of `meta`

-- the founding's numbers in the rows whose rowid is 1
abbrev pub meta_shown : List Row → List Row
meta_shown rows = map (columns_at (4 ∷ 5 ∷ 6 ∷ [])) (filter (has_number 0 (pos 1)) rows)

-- what is found is told by them
abbrev pub FindsMeta : {A E : Type 0} → (List Row → A → Type 0) → State → State → Result A E → Type 0
FindsMeta told old new result = HasCleanDisk new → IfOk result (λ found. HasTables old → told (meta_shown (old.now.trees meta_table.tree)) found)

-- P holds of them
abbrev pub HoldsOfMeta : (List Row → Type 0) → State → Type 0
HoldsOfMeta P s = P (meta_shown (s.now.trees meta_table.tree))

-- ---- the row of `image_repository`

-- its numbers in the rows whose rowid is 1
abbrev pub image_repository_shown : List Row → List Row
image_repository_shown rows = map (columns_at (2 ∷ 3 ∷ [])) (filter (has_number 0 (pos 1)) rows)

abbrev pub FindsImageRepository : {A E : Type 0} → (List Row → A → Type 0) → State → State → Result A E → Type 0
FindsImageRepository told old new result =
    HasCleanDisk new → IfOk result (λ found. HasTables old → told (image_repository_shown (old.now.trees image_repository_table.tree)) found)

abbrev pub HoldsOfImageRepository : (List Row → Type 0) → State → Type 0
HoldsOfImageRepository P s = P (image_repository_shown (s.now.trees image_repository_table.tree))

-- ---- the ECUs of a vehicle

-- what a read of an ECU shows of its row: all columns but the vehicle and the place
abbrev pub ecu_places : List ℕ
ecu_places = 0 ∷ 3 ∷ 4 ∷ 5 ∷ 6 ∷ 7 ∷ 8 ∷ 9 ∷ []

-- this is told of what is shown of these rows of a vehicle, in the order of their places
abbrev pub ReadsByPlace : List Row → (List Row → Type 0) → Type 0
ReadsByPlace rows told =
    (ordered : List Row) × IsPermutation rows ordered × IsSortedByKey (λ r. column r 2) value_cmp ordered × told (map (columns_at ecu_places) ordered)
