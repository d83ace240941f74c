-- A table lists what is the same, name by name.
use Rattle.std.proofs.Common.{◌≡◌, ℕ, List, ◌∙◌}
use Rattle.sqlite.specs.Table.{Table}
use Rattle.up_tables.proofs.OthersLemmas.{alters_to}
use Rattle.up_store.proofs.Common.{Row, State, Lists, ListsPairs, Alters}

pub lists_as : (at : ℕ) (old new : List ℕ → List Row) (rows : List Row) → ((name : List ℕ) → old name ≡ new name) → Lists at old rows → Lists at new rows
lists_as at old new rows same lists = record { shaped = lists.shaped; parts = λ name. lists.parts name ∙ same name }

pub pairs_as : (old new : List ℕ → List ℕ → List Row) (rows : List Row) → ((first second : List ℕ) → old first second ≡ new first second) → ListsPairs old rows → ListsPairs new rows
pairs_as old new rows same lists = record { shaped = lists.shaped; parts = λ first second. lists.parts first second ∙ same first second }

-- what is said of the written table follows
pub alters_as : (table : Table) (P Q : List Row → Type 0) → ((rows : List Row) → P rows → Q rows) → (old new : State) → Alters table P old new → Alters table Q old new
alters_as table P Q is old new h = alters_to table P Q old new (is (new.now.trees table.tree)) h
