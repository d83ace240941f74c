-- What a scheme of signatures is (the Uptane Standard 2.1.0 leaves the choice open).
use Rattle.std.specs.Prelude.{ℕ, ◌≤◌, List, Bool, IsTrue, length, nat_lt}
use Rattle.std.specs.List.{list_all}
use Rattle.up_canon.specs.Names.{is_short_text}

-- what the calls of a scheme answer
pub record Rules : Type 0 where
  pub method : List ℕ
  pub secret_fits : List ℕ → Bool
  pub public_fits : List ℕ → Bool
  pub public_of : List ℕ → List ℕ
  pub shown : List ℕ → List ℕ
  pub tag : List ℕ → List ℕ → List ℕ
  pub is_valid : List ℕ → List ℕ → List ℕ → Bool

-- a number that is a byte
abbrev pub is_byte : ℕ → Bool
is_byte b = nat_lt b 256

-- what each scheme keeps
pub record IsScheme (k : Rules) : Type 0 where
  pub method : IsTrue (is_short_text 1 64 k.method)
  pub shown : (p : List ℕ) → IsTrue (is_short_text 0 1024 (k.shown p))
  pub public_fits : (s : List ℕ) → IsTrue (k.secret_fits s) → IsTrue (k.public_fits (k.public_of s))
  pub tag_length : (s m : List ℕ) → IsTrue (k.secret_fits s) → (1 ≤ length (k.tag s m)) × (length (k.tag s m) ≤ 512)
  pub tag_bytes : (s m : List ℕ) → IsTrue (k.secret_fits s) → IsTrue (list_all is_byte (k.tag s m))
  pub tag_is_valid : (s m : List ℕ) → IsTrue (k.secret_fits s) → IsTrue (k.is_valid (k.public_of s) m (k.tag s m))
