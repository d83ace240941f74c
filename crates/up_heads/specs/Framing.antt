-- The length of a request's body (RFC 9112, section 6), and the checks of a head alone.
use Rattle.std.specs.Prelude.{ℕ, ◌==◌, ◌&&◌, ◌||◌, Bool, List, [], ◌∷◌, length, nat_lt, nat_le, Option, Some, None, Result, Ok, Err, codes, if◌then◌else◌}
use Rattle.std.specs.List.{list_all}
use Rattle.std.specs.Char.{is_ascii_digit}
use Rattle.std.specs.Str.Parse.{digits_value}
use Rattle.httparse.specs.Grammar.{RequestHead}
use Rattle.up_manifest.specs.Manifests.{largest_body}
use Rattle.up_heads.specs.Fields.{Pair, values, fields_of}
use Rattle.up_heads.specs.declared.check.Check.{Check}
use Rattle.up_heads.specs.declared.check.Check.TheVariants.{BadRequest, TooLarge, NotImplemented}

-- one Host; none or one in HTTP/1.0
abbrev pub host_fits : ℕ → ℕ → Bool
host_fits minor hosts = hosts == 1 || (hosts == 0 && minor == 0)

-- one or more digits
abbrev pub is_number : List ℕ → Bool
is_number value = nat_lt 0 (length value) && list_all is_ascii_digit value

-- the length that the values of Content-Length state, none where there is no such field
abbrev pub length_stated : List (List ℕ) → Result (Option ℕ) Check
length_stated [] = Ok None
length_stated (value ∷ []) =
    if is_number value then (if nat_le (digits_value 10 value) largest_body then Ok (Some (digits_value 10 value)) else Err TooLarge) else Err BadRequest
length_stated (value ∷ other ∷ rest) = Err BadRequest

-- the checks of a head alone, in order: Host, Transfer-Encoding, Content-Length; and the length of the body that it states
unfoldable pub framing_of : ℕ → List Pair → Result (Option ℕ) Check
framing_of minor fields =
    if host_fits minor (length (values (codes "host") fields))
    then (if nat_lt 0 (length (values (codes "transfer-encoding") fields)) then Err NotImplemented else length_stated (values (codes "content-length") fields))
    else Err BadRequest

-- the same of a head
unfoldable pub framing : RequestHead → Result (Option ℕ) Check
framing head = framing_of head.minor (fields_of head)
