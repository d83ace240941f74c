-- Whether the connection is closed behind a request (RFC 9112, section 9.6; lists of RFC 9110, section 5.6.1).
use Rattle.std.specs.Prelude.{ℕ, ◌==◌, ◌&&◌, ◌||◌, Bool, List, [], ◌∷◌, length, take, drop, map, codes, bytes_eq, if◌then◌else◌}
use Rattle.std.specs.List.{list_any}
use Rattle.std.specs.Char.{to_ascii_lowercase}
use Rattle.httparse.specs.Grammar.{RequestHead, skip_ows}
use Rattle.up_heads.specs.Fields.{Pair, values, fields_of}

-- a byte in front of the first member
abbrev pub put : ℕ → List (List ℕ) → List (List ℕ)
put byte [] = (byte ∷ []) ∷ []
put byte (member ∷ members) = (byte ∷ member) ∷ members

-- the members of a list, which commas part
abbrev pub members : List ℕ → List (List ℕ)
members [] = [] ∷ []
members (byte ∷ bytes) = if byte == 44 then [] ∷ members bytes else put byte (members bytes)

-- whether nothing is there
abbrev pub is_nothing : List ℕ → Bool
is_nothing bytes = length bytes == 0

-- the word `close`, case ignored, with spaces and tabs around it
unfoldable pub is_close : List ℕ → Bool
is_close member = bytes_eq (map to_ascii_lowercase (take 5 (skip_ows member))) (codes "close") && is_nothing (skip_ows (drop 5 (skip_ows member)))

-- whether a list has the member `close`
abbrev pub has_close : List ℕ → Bool
has_close value = list_any is_close (members value)

-- whether some field `connection` has it
unfoldable pub closes_by : List Pair → Bool
closes_by fields = list_any has_close (values (codes "connection") fields)

-- HTTP/1.0, or some field `connection` has the member `close`
unfoldable pub closes : RequestHead → Bool
closes head = head.minor == 0 || closes_by (fields_of head)
