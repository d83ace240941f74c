-- What is written of a text that isn't written whole.
use Rattle.std.specs.Prelude.{◌≡◌, ℕ, ◌<◌, List, ◌++◌, length}

-- a prefix of a text that isn't all of it
abbrev pub IsProperPrefix : List ℕ → List ℕ → Type 0
IsProperPrefix prefix text = (rest : List ℕ) × (text ≡ prefix ++ rest) × (0 < length rest)
