-- Names: identifiers, filenames, notes and other short texts, and tables that names are the keys of.
use Rattle.std.specs.Prelude.{ℕ, ◌&&◌, ◌||◌, ◌==◌, List, [], ◌∷◌, Bool, nat_le, length, if◌then◌else◌, Option, Some, None, is_none, bytes_eq}
use Rattle.std.specs.List.{list_all, list_any}
use Rattle.std.specs.Ordering.{nat_cmp}
use Rattle.std.specs.Cmp.Lexicographic.{slice_cmp}
use Rattle.std.specs.FinMap.{FinMap}
use Rattle.up_canon.specs.Canon.{is_printable}

-- the bytes of an identifier, a filename or a note
abbrev pub Name : Type 0
Name = List ℕ

-- one value for each name, in the order of the names
abbrev pub Table : Type 0 → Type 0
Table X = FinMap (slice_cmp nat_cmp) X

-- at least the first, at most the second
abbrev pub is_from_to : ℕ → ℕ → ℕ → Bool
is_from_to least most n = nat_le least n && nat_le n most

-- `A-Z a-z 0-9 . _ -`
abbrev pub is_ident_byte : ℕ → Bool
is_ident_byte x = is_from_to 65 90 x || is_from_to 97 122 x || is_from_to 48 57 x || (x == 46) || (x == 95) || (x == 45)

-- an identifier: 1 to 64 such bytes
abbrev pub is_ident : Name → Bool
is_ident name = is_from_to 1 64 (length name) && list_all is_ident_byte name

-- the same and `/`
abbrev pub is_file_byte : ℕ → Bool
is_file_byte x = is_ident_byte x || (x == 47)

-- a filename: 1 to 128 such bytes
abbrev pub is_file_name : Name → Bool
is_file_name name = is_from_to 1 128 (length name) && list_all is_file_byte name

-- printable ASCII of so many bytes
abbrev pub is_short_text : ℕ → ℕ → List ℕ → Bool
is_short_text least most text = is_from_to least most (length text) && list_all is_printable text

-- a note: 0 to 256 bytes of printable ASCII
abbrev pub is_note : Name → Bool
is_note text = is_short_text 0 256 text

-- the first name that was seen, or has come before
abbrev pub first_repeated_after : List Name → List Name → Option Name
first_repeated_after seen [] = None
first_repeated_after seen (name ∷ names) = if list_any (bytes_eq name) seen then Some name else first_repeated_after (name ∷ seen) names

-- the first name to come a second time
abbrev pub first_repeated : List Name → Option Name
first_repeated names = first_repeated_after [] names

-- no name stands twice
abbrev pub are_distinct : List Name → Bool
are_distinct names = is_none (first_repeated names)

-- the hardware that an image is for: 1 to 16 names, none twice
abbrev pub hardware_fits : List Name → Bool
hardware_fits hardware = is_from_to 1 16 (length hardware) && are_distinct hardware
