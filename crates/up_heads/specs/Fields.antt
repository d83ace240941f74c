-- The fields of a head (RFC 9110, section 5).
use Rattle.std.specs.Prelude.{ℕ, Bool, List, map, filter, bytes_eq}
use Rattle.std.specs.Char.{to_ascii_lowercase}
use Rattle.httparse.specs.Grammar.{RequestHead}
use Rattle.httparse.specs.Spans.{name_and_value}

-- a field's name, and its value without the white space around it
abbrev pub Pair : Type 0
Pair = List ℕ × List ℕ

-- whether a field has this name; case is ignored
abbrev pub is_named : List ℕ → Pair → Bool
is_named name field = bytes_eq (map to_ascii_lowercase field.0) (map to_ascii_lowercase name)

-- the values of the fields of a name
abbrev pub values : List ℕ → List Pair → List (List ℕ)
values name fields = map (λ field. field.1) (filter (is_named name) fields)

-- the fields of a head
abbrev pub fields_of : RequestHead → List Pair
fields_of head = map name_and_value head.fields
