-- The faults of steps and of readers of members, as those that F allows.
use Rattle.std.proofs.Common.{◌≡◌, ℕ, List, [], ◌∷◌, Bool, true, false, Option, Some, None, Result, Ok, Err, subst, length}
use Rattle.std.specs.Prelude.{nat_le, if◌then◌else◌}
use Rattle.hex.specs.Hex.{decode_of}
use Rattle.serde_json.specs.Data.{Data}
use Rattle.up_canon.specs.declared.refusal.Refusal.{Refusal}
use Rattle.up_canon.specs.declared.refusal.Refusal.TheVariants.{TooLarge, NotJson, BadShape}
use Rattle.up_canon.specs.Names.{is_from_to, is_ident, is_file_name, is_note, is_short_text}
use Rattle.up_canon.specs.JsonText.{value_within}
use Rattle.up_canon.specs.HexText.{hex_of, hex_in, sha256_in}
use Rattle.up_canon.specs.Members.{text_of, count_of, list_of, object_of, member_in, text_in, count_in, list_in, object_in}
use Rattle.up_canon.specs.Readers.{fitting, ident_of, file_name_of, note_of, ident_in, file_name_in, note_in, word_in, short_text_in, positive_in, list_within, moment_in}
use Rattle.up_canon.specs.Steps.{and_then, ◌>>=◌, or_error, unless, each, value_of}

-- each error of it is one that F allows
pub record Fails (F : Refusal → Type 0) {A : Type 0} (r : Result A Refusal) : Type 0 where
  pub allowed : (e : Refusal) → r ≡ Err e → F e

-- F allows the fault of each name
pub record AllowsShapes (F : Refusal → Type 0) : Type 0 where
  pub shape : (name : List ℕ) → F (BadShape name)

-- and so one that G allows, which allows more
pub fails_more : {F G : Refusal → Type 0} {A : Type 0} (r : Result A Refusal) → ((e : Refusal) → F e → G e) → Fails F r → Fails G r
fails_more r more first = record { allowed = λ e h. more e (first.allowed e h) }

-- ---- steps

module _ {F : Refusal → Type 0} where
  pub then_fails : {A B : Type 0} (r : Result A Refusal) (f : A → Result B Refusal) → Fails F r → ((x : A) → Fails F (f x)) → Fails F (r >>= f)
  unfolding and_then
  then_fails (Ok x) f first next = next x
  then_fails (Err d) f first next = record { allowed = λ e h. first.allowed e (let same : d ≡ e = cc in cc) }

  pub ok_fails : {A : Type 0} (x : A) → Fails F (Ok x)
  ok_fails x = record { allowed = λ e h. cc }

  pub or_error_fails : {A : Type 0} (d : Refusal) (o : Option A) → F d → Fails F (or_error d o)
  or_error_fails d None is = record { allowed = λ e h. let same : d ≡ e = cc in subst F same is }
  or_error_fails d (Some x) is = record { allowed = λ e h. cc }

  pub unless_fails : (b : Bool) (d : Refusal) → F d → Fails F (unless b d)
  unless_fails true d is = record { allowed = λ e h. cc }
  unless_fails false d is = record { allowed = λ e h. let same : d ≡ e = cc in subst F same is }

  pub each_fails : {A B : Type 0} (step : B → Result A Refusal) → ((d : B) → Fails F (step d)) → (ds : List B) → Fails F (each step ds)
  unfolding each
  each_fails step one [] = ok_fails []
  each_fails step one (d ∷ ds) = then_fails _ _ (one d) (λ y. then_fails _ _ (each_fails step one ds) (λ ys. ok_fails (y ∷ ys)))

-- ---- readers

module _ {F : Refusal → Type 0} (law : AllowsShapes F) where
  pub fitting_fails : {A : Type 0} (fits : A → Bool) (name : List ℕ) (x : A) → Fails F (fitting fits name x)
  fitting_fails fits name x = by_test (fits x)
    where
      by_test : (b : Bool) → Fails F (if b then Ok x else Err (BadShape name))
      by_test true = record { allowed = λ e h. cc }
      by_test false = record { allowed = λ e h. let same : BadShape name ≡ e = cc in subst F same (law.shape name) }

  shape_fails : {A : Type 0} (name : List ℕ) (o : Option A) → Fails F (or_error (BadShape name) o)
  shape_fails name o = or_error_fails (BadShape name) o (law.shape name)

  pub member_fails : (name : List ℕ) (d : Data) → Fails F (member_in name d)
  unfolding member_in
  member_fails name d = shape_fails name _

  pub self_fails : (name : List ℕ) (d : Data) → Fails F (object_of name d)
  unfolding object_of
  self_fails name d = shape_fails name _

  -- a text of that name, and those that pass a test

  pub text_fails : (name : List ℕ) (d : Data) → Fails F (text_in name d)
  unfolding text_in text_of
  text_fails name d = then_fails _ _ (member_fails name d) (λ v. shape_fails name _)

  pub word_fails : (word name : List ℕ) (d : Data) → Fails F (word_in word name d)
  unfolding word_in
  word_fails word name d = then_fails _ _ (text_fails name d) (λ t. unless_fails _ (BadShape name) (law.shape name))

  pub short_text_fails : (least most : ℕ) (name : List ℕ) (d : Data) → Fails F (short_text_in least most name d)
  unfolding short_text_in
  short_text_fails least most name d = then_fails _ _ (text_fails name d) (λ t. fitting_fails (is_short_text least most) name t)

  pub moment_fails : (name : List ℕ) (d : Data) → Fails F (moment_in name d)
  unfolding moment_in
  moment_fails name d = then_fails _ _ (text_fails name d) (λ t. shape_fails name _)

  name_fails : (fits : List ℕ → Bool) (name : List ℕ) (d : Data) → Fails F (member_in name d >>= λ v. text_of name v >>= λ t. fitting fits name t)
  unfolding text_of
  name_fails fits name d = then_fails _ _ (member_fails name d) (λ v. then_fails _ _ (shape_fails name _) (λ t. fitting_fails fits name t))

  pub ident_fails : (name : List ℕ) (d : Data) → Fails F (ident_in name d)
  unfolding ident_in ident_of
  ident_fails = name_fails is_ident

  pub file_name_fails : (name : List ℕ) (d : Data) → Fails F (file_name_in name d)
  unfolding file_name_in file_name_of
  file_name_fails = name_fails is_file_name

  pub note_fails : (name : List ℕ) (d : Data) → Fails F (note_in name d)
  unfolding note_in note_of
  note_fails = name_fails is_note

  -- a count, a list, an object

  pub count_fails : (name : List ℕ) (d : Data) → Fails F (count_in name d)
  unfolding count_in count_of
  count_fails name d = then_fails _ _ (member_fails name d) (λ v. shape_fails name _)

  pub positive_fails : (name : List ℕ) (d : Data) → Fails F (positive_in name d)
  unfolding positive_in
  positive_fails name d = then_fails _ _ (count_fails name d) (λ n. fitting_fails (nat_le 1) name n)

  pub list_fails : (name : List ℕ) (d : Data) → Fails F (list_in name d)
  unfolding list_in list_of
  list_fails name d = then_fails _ _ (member_fails name d) (λ v. shape_fails name _)

  pub list_within_fails : (least most : ℕ) (name : List ℕ) (d : Data) → Fails F (list_within least most name d)
  unfolding list_within
  list_within_fails least most name d = then_fails _ _ (list_fails name d) (λ ds. fitting_fails (λ x. is_from_to least most (length x)) name ds)

  pub object_fails : (name : List ℕ) (d : Data) → Fails F (object_in name d)
  unfolding object_in object_of
  object_fails name d = then_fails _ _ (member_fails name d) (λ v. shape_fails name _)

  -- hexadecimal text

  pub hex_of_fails : (least most : ℕ) (name : List ℕ) (d : Data) → Fails F (hex_of least most name d)
  unfolding hex_of text_of
  hex_of_fails least most name d = then_fails _ _ (shape_fails name _) (λ t. then_fails _ _ (fitting_fails (λ x. is_from_to least most (length x)) name t) (λ digits. shape_fails name (value_of (decode_of digits))))

  pub hex_fails : (least most : ℕ) (name : List ℕ) (d : Data) → Fails F (hex_in least most name d)
  unfolding hex_in
  hex_fails least most name d = then_fails _ _ (member_fails name d) (λ v. hex_of_fails least most name v)

  pub sha256_fails : (name : List ℕ) (d : Data) → Fails F (sha256_in name d)
  unfolding sha256_in
  sha256_fails name d = then_fails _ _ (member_fails name d) (λ v. hex_of_fails 64 64 name v)

-- ---- bytes

pub value_fails : {F : Refusal → Type 0} → F TooLarge → F NotJson → (most : ℕ) (bytes : List ℕ) → Fails F (value_within most bytes)
unfolding value_within
value_fails large not_json most bytes = then_fails _ _ (unless_fails _ TooLarge large) (λ a. or_error_fails NotJson _ not_json)
