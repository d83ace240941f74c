-- The test of items and members, one after another.
use Rattle.std.proofs.Common.{◌≡◌, ℕ, max, List, [], ◌∷◌, Bool, true, false, ◌&&◌, string_bytes, refl, ap, ◌∙◌, arith}
use Rattle.std.specs.Prelude.{nat_le}
use Rattle.std.specs.Ordering.{is_lt}
use Rattle.std.specs.List.Sorted.{IsStrictlySortedBy}
use Rattle.std.specs.Map.{keys_of}
use Rattle.std.specs.String.{string_cmp}
use Rattle.std.proofs.lemmas.Bool.Decides.{nat_tests}
use Rattle.serde_json.specs.Data.{depth, items_depth, members_depth}
use Rattle.serde_json.specs.View.{view, items_view, members_view}
use Rattle.serde_json.proofs.Views.{Entry}
use Rattle.serde_json.specs.declared.value.Value.{Value}
use Rattle.up_canon.specs.Canon.{is_printable_text, is_plain, items_are_plain, members_are_plain, comes_first}

abbrev pub fits : ℕ → Value → Bool
fits n v = is_plain (view v) && nat_le (depth (view v)) n

abbrev pub fits_items : ℕ → List Value → Bool
fits_items n vs = items_are_plain (items_view vs) && nat_le (items_depth (items_view vs)) n

abbrev pub fits_members : ℕ → List Entry → Bool
fits_members n es = members_are_plain (members_view es) && nat_le (members_depth (members_view es)) n

nat_le-max : (a b n : ℕ) → nat_le (max a b) n ≡ (nat_le a n && nat_le b n)
nat_le-max a b n = grind (arith, nat_tests)

pair_up : (p q a b : Bool) → ((p && q) && (a && b)) ≡ ((p && a) && (q && b))
pair_up true q true b = refl
pair_up true true false b = refl
pair_up true false false b = refl
pair_up false q a b = refl

pub fits_items-none : (n : ℕ) → fits_items n [] ≡ true
fits_items-none n = grind (arith, nat_tests)

pub fits_items-one : (n : ℕ) (v : Value) (vs : List Value) → fits_items n (v ∷ vs) ≡ (fits n v && fits_items n vs)
fits_items-one n v vs =
    ap (λ t. (is_plain (view v) && items_are_plain (items_view vs)) && t) (nat_le-max (depth (view v)) (items_depth (items_view vs)) n)
    ∙ pair_up (is_plain (view v)) (items_are_plain (items_view vs)) (nat_le (depth (view v)) n) (nat_le (items_depth (items_view vs)) n)

pub fits_members-none : (n : ℕ) → fits_members n [] ≡ true
fits_members-none n = grind (arith, nat_tests)

first_key : (e : Entry) (es : List Entry) → IsStrictlySortedBy string_cmp (keys_of (e ∷ es)) → comes_first (string_bytes e.0) (members_view es) ≡ true
unfolding IsStrictlySortedBy
first_key e [] h = refl
first_key e (f ∷ fs) h = ap is_lt h.0.0

pub later_keys : (e : Entry) (es : List Entry) → IsStrictlySortedBy string_cmp (keys_of (e ∷ es)) → IsStrictlySortedBy string_cmp (keys_of es)
unfolding IsStrictlySortedBy
later_keys e es h = h.1

split_up : (k f p q a b : Bool) → f ≡ true → ((k && (f && (p && q))) && (a && b)) ≡ ((k && (p && a)) && (q && b))
split_up true f p q a b h = rw h (pair_up p q a b)
split_up false f p q a b h = refl

pub fits_members-one : (n : ℕ) (e : Entry) (es : List Entry) → IsStrictlySortedBy string_cmp (keys_of (e ∷ es))
    → fits_members n (e ∷ es) ≡ ((is_printable_text (string_bytes e.0) && fits n e.1) && fits_members n es)
fits_members-one n e es h =
    ap (λ t. members_are_plain (members_view (e ∷ es)) && t) (nat_le-max (depth (view e.1)) (members_depth (members_view es)) n)
    ∙ split_up (is_printable_text (string_bytes e.0)) (comes_first (string_bytes e.0) (members_view es)) (is_plain (view e.1)) (members_are_plain (members_view es)) (nat_le (depth (view e.1)) n) (nat_le (members_depth (members_view es)) n) (first_key e es h)
