-- The length, the SHA-256 and the SHA-512 (FIPS 180-4) of what a reader gives.
use Rattle.std.specs.Prelude.{◌≡◌, ℕ, ◌≤◌, ◌<◌, List, length, Option, Result, Ok, Err, IfOk, IfErr, IfSome, OnOk, ⊤}
use Rattle.std.specs.Io.KnownBytes.{Consumes, IsAtEnd}
use Rattle.sha2.specs.Sha256.{sha256}
use Rattle.sha2.specs.Sha512.{sha512}
use Rattle.up_service.specs.declared.digest.DigestFault.{DigestFault}
use Rattle.up_service.specs.declared.digest.DigestFault.TheVariants.{Read, TooLong}

-- the most bytes of a file
abbrev pub most_bytes : ℕ
most_bytes = 1073741824

-- what is answered where these bytes came
abbrev pub Tells : List ℕ → Option (List ℕ) → Result (ℕ × List ℕ × List ℕ) DigestFault → Type 0
Tells came has (Ok told) = IsAtEnd has × (length came ≤ most_bytes) × (told.0 ≡ length came) × (told.1 ≡ sha256 came) × (told.2 ≡ sha512 came)
Tells came has (Err Read) = ⊤
Tells came has (Err TooLong) = most_bytes < length came

-- what ended it is told of the reader: it failed where `Read` is told, and else it may still be read
abbrev pub BlamesReader : DigestFault → Type 0 → Type 0 → Type 0
BlamesReader Read failed stands = failed
BlamesReader TooLong failed stands = stands

-- of the bytes that came, at most one more than a file may have
pub record Digested (had has : Option (List ℕ)) (result : Result (ℕ × List ℕ × List ℕ) DigestFault) : Type 0 where
  pub came : List ℕ
  pub read : Consumes had has came
  pub bounded : length came ≤ 1073741825
  pub tells : Tells came has result

-- the digests of what a reader gives
pub record TellsDigests (had has : Option (List ℕ)) (result : Result (ℕ × List ℕ × List ℕ) DigestFault) : Type 0 where
  -- for any reader: the bytes that came, and what is said of them
  pub digested : Digested had has result
  -- where it is known what the reader had, that is said of all of it
  pub whole : IfOk result (λ told. IfSome had (λ input. (told.0 ≡ length input) × (told.1 ≡ sha256 input) × (told.2 ≡ sha512 input)))
  -- and `TooLong` is told only where it is too long
  pub too_long : IfErr result (λ fault. fault ≡ TooLong → IfSome had (λ input. most_bytes < length input))

-- How the reading ended. Of the reader it is given what says that it has ended, that it failed, and that it may be read.
pub record EndsReading {A : Type 0} (has_ended has_failed can_read : Type 0) (result : Result A DigestFault) : Type 0 where
  -- a reader that didn't end isn't taken for one that did
  pub ended : OnOk result has_ended
  -- a fault is told of the reader as it is
  pub blames : IfErr result (λ fault. BlamesReader fault has_failed can_read)
