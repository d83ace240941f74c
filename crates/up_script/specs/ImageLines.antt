-- The members of a line that adds an image.
use Rattle.std.specs.Prelude.{ℕ, List, [], Option, Some, None, Result, Ok, Err, codes}
use Rattle.serde_json.specs.Data.{Data}
use Rattle.serde_json.specs.Find as json
use Rattle.up_canon.specs.Members.{count_in, list_in, list_of}
use Rattle.up_canon.specs.HexText.{hex_of, sha256_in}
use Rattle.up_canon.specs.Readers.{file_name_in, ident_of, file_name_of}
use Rattle.up_canon.specs.Steps.{◌>>=◌, each}
use Rattle.up_canon.specs.declared.refusal.Refusal.{Refusal}
use Rattle.up_canon.specs.declared.refusal.Refusal.TheVariants.{BadShape}
use Rattle.up_columns.specs.Columns.{need_of}
use Rattle.up_plan.specs.Images.{ImageData, image_fault}
use Rattle.up_plan.specs.declared.image.Need.{Need}

-- a list that may be left out, and is then empty
abbrev pub list_or_empty : List ℕ → Option Data → Result (List Data) Refusal
list_or_empty name None = Ok []
list_or_empty name (Some value) = list_of name value

unfoldable pub optional_list_in : List ℕ → Data → Result (List Data) Refusal
optional_list_in name d = list_or_empty name (json.get name d)

-- a SHA-512 that may be left out: 128 hexadecimal digits, of either case
abbrev pub sha512_or_none : Option Data → Result (Option (List ℕ)) Refusal
sha512_or_none None = Ok None
sha512_or_none (Some value) = do
  hash ← hex_of 128 128 (codes "sha512") value
  Ok (Some hash)

unfoldable pub optional_sha512_in : Data → Result (Option (List ℕ)) Refusal
optional_sha512_in d = sha512_or_none (json.get (codes "sha512") d)

-- what is made of members that were all read, within the limits
abbrev pub within : {A : Type 0} → Option (List ℕ) → A → Result A Refusal
within None x = Ok x
within (Some fault) x = Err (BadShape fault)

-- the value, unless a fault is found in it
abbrev pub checked : {A : Type 0} → (A → Option (List ℕ)) → A → Result A Refusal
checked fault x = within (fault x) x

-- the hardware identifiers that the image fits
unfoldable pub hardware_in : Data → Result (List (List ℕ)) Refusal
hardware_in d = do
  values ← list_in (codes "hardware") d
  each (ident_of (codes "hardware")) values

-- what it needs, if anything
unfoldable pub needs_in : Data → Result (List Need) Refusal
needs_in d = do
  values ← optional_list_in (codes "needs") d
  each (need_of (codes "needs")) values

-- the filenames that it conflicts with, if any
unfoldable pub conflicts_in : Data → Result (List (List ℕ)) Refusal
conflicts_in d = do
  values ← optional_list_in (codes "conflicts") d
  each (file_name_of (codes "conflicts")) values

unfoldable pub image_in : Data → Result ImageData Refusal
image_in d = do
  file ← file_name_in (codes "file") d
  size ← count_in (codes "length") d
  sha256 ← sha256_in (codes "sha256") d
  sha512 ← optional_sha512_in d
  hardware ← hardware_in d
  release ← count_in (codes "release") d
  needs ← needs_in d
  conflicts ← conflicts_in d
  checked image_fault (record { file = file; length = size; sha256 = sha256; sha512 = sha512; hardware = hardware; release = release; needs = needs; conflicts = conflicts })
