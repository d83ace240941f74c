-- What may be opened as a database.
use Rattle.std.specs.Prelude.{◌≡◌, ℕ, [], ◌∷◌, Option, Some, None}
use Rattle.std.specs.Global.{Vec}

-- bytes that the making of a database writes first, where they can be read
abbrev pub IsBegun : Option (Vec ℕ) → Type 0
IsBegun (Some bytes) = bytes.items ≡ 0 ∷ []
IsBegun None = ⊥
