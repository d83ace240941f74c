-- What the files of the four roles have in common: type, repository, version, expiry and vehicle, and the sealing.
use Rattle.std.specs.Prelude.{◌≡◌, ℕ, ◌++◌, List, ◌∷◌, Bool, true, false, nat_le, bytes_eq, if◌then◌else◌, Option, Some, None, option_map, option_to_list, codes, Result, Ok, Err}
use Rattle.serde_json.specs.Data.{Data, string}
use Rattle.up_canon.specs.Build.{object_with, count_value}
use Rattle.up_canon.specs.Canon.{canon, text, max_count}
use Rattle.up_canon.specs.JsonText.{value_within}
use Rattle.up_canon.specs.Members.{text_in}
use Rattle.up_canon.specs.Moments.{moment_text, read_moment, last_moment}
use Rattle.up_canon.specs.Names.{Name, is_from_to, is_ident}
use Rattle.up_canon.specs.Readers.{ident_in, word_in, positive_in}
use Rattle.up_canon.specs.Steps.{◌>>=◌, or_error}
use Rattle.up_canon.specs.declared.refusal.Refusal.{Refusal}
use Rattle.up_canon.specs.declared.refusal.Refusal.TheVariants.{BadShape}
use Rattle.up_sign.specs.Schemes.{Rules}
use Rattle.up_sign.specs.Envelopes.{sealed_envelope}
use Rattle.up_sign.specs.declared.envelope.Envelope.{Envelope}
use Rattle.up_sign.specs.Formats.{envelope_text}
use Rattle.up_sign.specs.Reading.{opened_in}
use Rattle.up_roles.specs.declared.payload.Head.{Head}
use Rattle.up_roles.specs.declared.repository.Repository.{Repository}
use Rattle.up_roles.specs.declared.repository.Repository.TheVariants.{Director, Image}

-- ---- payloads

abbrev pub repository_text : Repository → List ℕ
repository_text Director = codes "director"
repository_text Image = codes "image"

-- the members that each payload has, the vehicle where there is one, and those of the role
abbrev pub payload_members : List ℕ → Repository → ℕ → ℕ → Option Name → List (List ℕ × Data) → List (List ℕ × Data)
payload_members kind repository version expires vehicle more =
    (codes "expires", string (moment_text expires)) ∷ (codes "repository", string (repository_text repository))
    ∷ (codes "type", string kind) ∷ (codes "version", count_value version)
    ∷ option_to_list (option_map (λ name. (codes "vehicle", string name)) vehicle) ++ more

abbrev pub payload : List ℕ → Repository → ℕ → ℕ → Option Name → List (List ℕ × Data) → Data
payload kind repository version expires vehicle more = object_with (payload_members kind repository version expires vehicle more)

-- the text of a file: the envelope of its payload's text, signed with these secrets in order
unfoldable pub sealed_text : Rules → List (List ℕ) → Data → List ℕ
sealed_text k secrets payload = envelope_text (sealed_envelope k secrets (text payload))

-- the payload has a canonical text, which is that
abbrev pub IsCanonical : Data → Type 0
IsCanonical payload = canon payload ≡ Some (text payload)

-- ---- limits

abbrev pub version_fits : ℕ → Bool
version_fits version = is_from_to 1 max_count version

-- a name stands exactly in the Director's
abbrev pub name_fits : Repository → Option Name → Bool
name_fits Director (Some name) = true
name_fits Director None = false
name_fits Image (Some name) = false
name_fits Image None = true

-- ---- what the types of the fields keep

abbrev pub is_named : Option Name → Bool
is_named None = true
is_named (Some name) = is_ident name

abbrev pub is_moment : ℕ → Bool
is_moment moment = nat_le moment last_moment

-- ---- what a payload value means

abbrev pub repository_of : List ℕ → Result Repository Refusal
repository_of text =
    if bytes_eq text (codes "director") then Ok Director else if bytes_eq text (codes "image") then Ok Image else Err (BadShape (codes "repository"))

unfoldable pub repository_in : Data → Result Repository Refusal
repository_in d = do
  text ← text_in (codes "repository") d
  repository_of text

unfoldable pub expires_in : Data → Result ℕ Refusal
expires_in d = do
  text ← text_in (codes "expires") d
  or_error (BadShape (codes "expires")) (read_moment text)

-- what each payload says of itself, and its type
unfoldable pub head_in : List ℕ → Data → Result Head Refusal
head_in kind d = do
  is_kind ← word_in kind (codes "type") d
  repository ← repository_in d
  version ← positive_in (codes "version") d
  expires ← expires_in d
  Ok (record { repository = repository; version = version; expires = expires })

-- the vehicle that a file of the Director names
unfoldable pub vehicle_in : Repository → Data → Result (Option Name) Refusal
vehicle_in Director d = do
  vehicle ← ident_in (codes "vehicle") d
  Ok (Some vehicle)
vehicle_in Image d = Ok None

-- ---- what the bytes of a file mean

-- in bytes
abbrev pub largest_file : ℕ
largest_file = 4_194_304

-- the file that the payload means and its envelope, or the first fault
unfoldable pub file_in : {F : Type 0} → (Data → Result F Refusal) → List ℕ → Result (F × Envelope) Refusal
file_in meaning bytes = do
  value ← value_within largest_file bytes
  opened ← opened_in (codes "body") value
  file ← meaning opened.payload
  Ok (file, opened.envelope)
