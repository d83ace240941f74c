-- Members within limits: names, short texts, counts from 1, moments.
use Rattle.std.specs.Prelude.{ℕ, List, Bool, nat_le, length, bytes_eq, if◌then◌else◌, ⊤, Result, Ok, Err}
use Rattle.serde_json.specs.Data.{Data}
use Rattle.up_canon.specs.Members.{member_as, text_of, text_in, count_in, list_in}
use Rattle.up_canon.specs.Moments.{read_moment}
use Rattle.up_canon.specs.Names.{Name, is_from_to, is_ident, is_file_name, is_note, is_short_text}
use Rattle.up_canon.specs.Steps.{◌>>=◌, or_error, unless}
use Rattle.up_canon.specs.declared.refusal.Refusal.{Refusal}
use Rattle.up_canon.specs.declared.refusal.Refusal.TheVariants.{BadShape}

-- the value where it passes the test, else the name as the fault
abbrev pub fitting : {A : Type 0} → (A → Bool) → List ℕ → A → Result A Refusal
fitting fits name x = if fits x then Ok x else Err (BadShape name)

-- ---- names

-- a text that passes the test
abbrev pub text_fitting : (List ℕ → Bool) → List ℕ → Data → Result Name Refusal
text_fitting fits name d = do
  text ← text_of name d
  fitting fits name text

-- a text that is an identifier
unfoldable pub ident_of : List ℕ → Data → Result Name Refusal
ident_of = text_fitting is_ident

-- a text that is a filename
unfoldable pub file_name_of : List ℕ → Data → Result Name Refusal
file_name_of = text_fitting is_file_name

-- a text that is a note
unfoldable pub note_of : List ℕ → Data → Result Name Refusal
note_of = text_fitting is_note

-- an identifier of that name
unfoldable pub ident_in : List ℕ → Data → Result Name Refusal
ident_in = member_as ident_of

-- a filename of that name
unfoldable pub file_name_in : List ℕ → Data → Result Name Refusal
file_name_in = member_as file_name_of

-- a note of that name
unfoldable pub note_in : List ℕ → Data → Result Name Refusal
note_in = member_as note_of

-- ---- other members within limits

-- the very word
unfoldable pub word_in : List ℕ → List ℕ → Data → Result ⊤ Refusal
word_in word name d = do
  text ← text_in name d
  unless (bytes_eq text word) (BadShape name)

-- printable ASCII of so many bytes
unfoldable pub short_text_in : ℕ → ℕ → List ℕ → Data → Result (List ℕ) Refusal
short_text_in least most name d = do
  text ← text_in name d
  fitting (is_short_text least most) name text

-- a count from 1
unfoldable pub positive_in : List ℕ → Data → Result ℕ Refusal
positive_in name d = do
  count ← count_in name d
  fitting (nat_le 1) name count

-- a list of so many items
unfoldable pub list_within : ℕ → ℕ → List ℕ → Data → Result (List Data) Refusal
list_within least most name d = do
  items ← list_in name d
  fitting (λ ds. is_from_to least most (length ds)) name items

-- the moment whose text it is
unfoldable pub moment_in : List ℕ → Data → Result ℕ Refusal
moment_in name d = do
  text ← text_in name d
  or_error (BadShape name) (read_moment text)
