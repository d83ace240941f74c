-- What the program says of itself.
use Rattle.std.specs.Prelude.{ℕ, Bool, false, bytes_eq, List, [], ◌∷◌, ◌++◌, codes}

-- the product and its version, the method of its signatures, the kit that built it, and that it was proved
abbrev pub version_line : List ℕ → List ℕ
version_line method = codes "uptane_desk 0.1.0, " ++ method ++ codes ", kit rattle-kit-13f, built with a proof\n"

-- `--version` alone asks for it
abbrev pub is_version_asked : List (List ℕ) → Bool
is_version_asked [] = false
is_version_asked (word ∷ []) = bytes_eq word (codes "--version")
is_version_asked (word ∷ next ∷ rest) = false
