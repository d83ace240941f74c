-- The lines of an input, and their limits.
use Rattle.std.specs.Prelude.{◌≡◌, ◌++◌, ℕ, ◌+◌, ◌*◌, ◌==◌, ◌&&◌, Bool, true, false, cond, List, [], ◌∷◌, length, nat_le, take, filter}
use Rattle.std.specs.List.{list_all, take_while}

-- the byte that ends a line
abbrev pub newline : ℕ
newline = 10

-- the most lines of an input
abbrev pub most_lines : ℕ
most_lines = 100000

-- the most bytes of a line, its newline not counted
abbrev pub most_line_bytes : ℕ
most_line_bytes = 2097152

-- the most bytes that are read: so many lines of so many bytes, their newlines, and one byte more
abbrev pub most_bytes : ℕ
most_bytes = most_lines * (most_line_bytes + 1) + 1

-- the most bytes that are read at once
abbrev pub piece_bytes : ℕ
piece_bytes = 65536

-- the most lines that are handed on together
abbrev pub most_together : ℕ
most_together = 64

-- a byte before the first line; with no line after it, it begins the last one, which ends with the input
abbrev pub begin_with : Bool → ℕ → List (List ℕ) → List (List ℕ)
begin_with ended byte [] = cond ended ((byte ∷ []) ∷ []) []
begin_with ended byte (line ∷ lines) = (byte ∷ line) ∷ lines

-- the lines of the bytes that came, without their newlines: a line ends with a newline, or with the input if that has ended
abbrev pub lines_of : Bool → List ℕ → List (List ℕ)
lines_of ended [] = []
lines_of ended (byte ∷ bytes) = cond (byte == newline) ([] ∷ lines_of ended bytes) (begin_with ended byte (lines_of ended bytes))

-- whether a line is within its limit
abbrev pub is_short : List ℕ → Bool
is_short line = nat_le (length line) most_line_bytes

-- whether the lines are within the limits
abbrev pub fits : List (List ℕ) → Bool
fits lines = nat_le (length lines) most_lines && list_all is_short lines

-- whether a line has any byte
abbrev pub has_bytes : List ℕ → Bool
has_bytes [] = false
has_bytes (_ ∷ _) = true

-- the lines that are answered: those before the first past a limit that have any byte
abbrev pub asked : List (List ℕ) → List (List ℕ)
asked lines = filter has_bytes (take_while is_short (take most_lines lines))

-- whatever bytes follow, the lines that are whole are the first to be answered
abbrev pub WholeLinesFirst : Type 0
WholeLinesFirst = (came more : List ℕ) → (others : List (List ℕ)) × (asked (lines_of true (came ++ more)) ≡ asked (lines_of false came) ++ others)
