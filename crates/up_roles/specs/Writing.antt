-- The texts of files: which secrets seal them, and what was written.
use Rattle.std.specs.Prelude.{◌≡◌, ℕ, ◌≤◌, List, Bool, true, length, IsTrue, Result, String, IfOk, OnOk, string_bytes}
use Rattle.std.specs.List.{list_all}
use Rattle.serde_json.specs.Data.{Data}
use Rattle.up_sign.specs.Schemes.{Rules}
use Rattle.up_roles.specs.Payload.{IsCanonical}

-- 1 to 8 secrets that fit
pub record CanSeal (k : Rules) (secrets : List (List ℕ)) : Type 0 where
  pub fit : IsTrue (list_all k.secret_fits secrets)
  pub number : (1 ≤ length secrets) × (length secrets ≤ 8)

-- What a writer answers of a file: this text, of a payload that has a canonical text, and what the types of the file's fields
-- keep.
pub record IsWritten {A E : Type 0} (payload : Data) (file_text : List ℕ) (kept : Bool) (r : Result (String A) E) : Type 0 where
  -- the text is this
  pub value : IfOk r (λ t. string_bytes t ≡ file_text)
  -- the payload's text is its only canonical one
  pub canonical : OnOk r (IsCanonical payload)
  -- what the types keep
  pub typed : OnOk r (kept ≡ true)
