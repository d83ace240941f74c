-- Columns that are told without the reader of JSON.
use Rattle.std.specs.Prelude.{◌≢◌, ◌++◌, ℕ, List, codes}

-- the text begins neither as a name nor as an item of a campaign
abbrev pub HasNoPlainItem : List ℕ → Type 0
HasNoPlainItem items = ((rest : List ℕ) → items ≢ codes "\"" ++ rest) × ((rest : List ℕ) → items ≢ codes "{\"file\":\"" ++ rest)
