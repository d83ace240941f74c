-- What bytes read as: JSON (RFC 8259) in UTF-8 (RFC 3629).
use Rattle.std.specs.Prelude.{ℕ, List, nat_le, length, if◌then◌else◌, Option, None, Result}
use Rattle.std.specs.Str.{is_utf8}
use Rattle.serde_json.specs.Data.{Data}
use Rattle.serde_json.specs.Read.{read}
use Rattle.up_canon.specs.Steps.{◌>>=◌, or_error, unless}
use Rattle.up_canon.specs.declared.refusal.Refusal.{Refusal}
use Rattle.up_canon.specs.declared.refusal.Refusal.TheVariants.{TooLarge, NotJson}

-- the value of bytes that are UTF-8 and JSON
unfoldable pub value_in : List ℕ → Option Data
value_in bytes = if is_utf8 bytes then read bytes else None

-- the same of at most so many bytes, or the first fault
unfoldable pub value_within : ℕ → List ℕ → Result Data Refusal
value_within most bytes = do
  is_small ← unless (nat_le (length bytes) most) TooLarge
  or_error NotJson (value_in bytes)
