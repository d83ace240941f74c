-- What bytes read as, by cases on whether they are UTF-8 and few enough.
use Rattle.std.proofs.Common.{◌≡◌, ℕ, ◌≤◌, List, Bool, true, false, cond, Some, None, Ok, length, refl, ap, ◌∙◌, arith}
use Rattle.std.specs.Prelude.{IsUtf8, nat_le}
use Rattle.std.specs.Str.{is_utf8}
use Rattle.std.proofs.lemmas.Bool.Decides.{nat_tests}
use Rattle.std.proofs.lemmas.Str.{IsUtf8-from_is_utf8, is_utf8-from_IsUtf8}
use Rattle.serde_json.specs.Data.{Data}
use Rattle.serde_json.specs.Read.{read}
use Rattle.up_canon.specs.JsonText.{value_in, value_within}
use Rattle.up_canon.specs.Steps.{or_error}
use Rattle.up_canon.specs.declared.refusal.Refusal.TheVariants.{NotJson}
use Rattle.up_canon.proofs.Steps.{first_ok, bind-ok, or_error_ok, unless_ok, unless_there}

pub value_in-some : (bytes : List ℕ) (d : Data) → IsUtf8 bytes → read bytes ≡ Some d → value_in bytes ≡ Some d
unfolding value_in
value_in-some bytes d utf8 reads = rw (is_utf8-from_IsUtf8 bytes utf8) reads

pub value_in-none : (bytes : List ℕ) → (IsUtf8 bytes → read bytes ≡ None) → value_in bytes ≡ None
unfolding value_in
value_in-none bytes refused = by_test (is_utf8 bytes) refl
  where
    by_test : (b : Bool) → is_utf8 bytes ≡ b → cond b (read bytes) None ≡ None
    by_test true e = refused (IsUtf8-from_is_utf8 bytes e)
    by_test false e = refl

-- ---- of at most so many bytes

pub value_read : (most : ℕ) (bytes : List ℕ) (d : Data) → value_within most bytes ≡ Ok d → (length bytes ≤ most) × IsUtf8 bytes × (read bytes ≡ Some d)
unfolding value_within value_in
value_read most bytes d h = first_ok _ _ _ _ h (λ x a h. by_test (unless_ok _ _ x a) (is_utf8 bytes) refl (or_error_ok _ _ d h))
  where
    by_test : nat_le (length bytes) most ≡ true → (b : Bool) → is_utf8 bytes ≡ b → cond b (read bytes) None ≡ Some d → (length bytes ≤ most) × IsUtf8 bytes × (read bytes ≡ Some d)
    by_test small true e h = (grind (arith, nat_tests), IsUtf8-from_is_utf8 bytes e, h)
    by_test small false e h = cc

pub value_there : (most : ℕ) (bytes : List ℕ) (d : Data) → length bytes ≤ most → IsUtf8 bytes → read bytes ≡ Some d → value_within most bytes ≡ Ok d
unfolding value_within
value_there most bytes d small utf8 reads =
    let test : nat_le (length bytes) most ≡ true = grind (arith, nat_tests) in
    bind-ok _ _ tt (unless_there _ _ test) ∙ ap (or_error NotJson) (value_in-some bytes d utf8 reads)
