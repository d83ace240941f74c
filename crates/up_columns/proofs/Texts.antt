-- What is written as a list has a canonical text, and that is read as the list.
use Rattle.std.proofs.Common.{◌≡◌, ℕ, suc, ◌≤◌, List, [], ◌∷◌, Bool, true, Ok, Result, length, map, refl, ap, ◌∙◌, arith}
use Rattle.std.specs.Prelude.{nat_le}
use Rattle.std.specs.List.{list_all}
use Rattle.std.proofs.lemmas.Bool.{and_parts}
use Rattle.std.proofs.lemmas.Bool.Decides.{nat_tests}
use Rattle.std.proofs.lemmas.Str.{IsUtf8-from_ascii, is_utf8-from_IsUtf8}
use Rattle.serde_json.specs.Data.{Data}
use Rattle.serde_json.specs.View.{items_of}
use Rattle.up_canon.specs.Build.{list_with}
use Rattle.up_canon.specs.Canon.{CanonIsRead, has_canon, is_plain, text}
use Rattle.up_canon.specs.JsonText.{value_in, value_within}
use Rattle.up_canon.specs.Meaning.{EachMeans}
use Rattle.up_canon.specs.Members.{items_list, list_of}
use Rattle.up_canon.specs.Steps.{each, or_error}
use Rattle.up_canon.specs.declared.refusal.Refusal.{Refusal}
use Rattle.up_canon.specs.declared.refusal.Refusal.TheVariants.{NotJson}
use Rattle.up_canon.proofs.Ascii.{text-ascii}
use Rattle.up_canon.proofs.PlainValues.{IsPlain, plain-list, all-plain, plain-canon}
use Rattle.up_canon.proofs.Steps.{bind-ok, unless_there, each_there}
use Rattle.up_columns.specs.Columns.{items_in}

-- a canonical text is read as its value
pub text-there : CanonIsRead → (d : Data) → has_canon d ≡ true → value_within (length (text d)) (text d) ≡ Ok d
unfolding value_within value_in
text-there law d h =
    let le : nat_le (length (text d)) (length (text d)) ≡ true = grind (arith, nat_tests) in
    let is = is_utf8-from_IsUtf8 (text d) (IsUtf8-from_ascii (text d) (text-ascii d (and_parts (is_plain d) _ h).0)) in
    bind-ok _ _ tt (unless_there _ _ le) ∙ rw is (ap (or_error NotJson) (law d (text d) (rw h refl)))

-- ---- lists

pub list-canon : {A : Type 0} (n : ℕ) (p : A → Bool) (f : A → Data) → suc n ≤ 16 → ((x : A) → p x ≡ true → IsPlain n (f x))
    → (xs : List A) → list_all p xs ≡ true → has_canon (list_with (map f xs)) ≡ true
list-canon n p f le one xs h = plain-canon (suc n) (list_with (map f xs)) le (plain-list n (map f xs) (all-plain n p f xs one h))

-- each item means what it was written of
means : {A : Type 0} (p : A → Bool) (f : A → Data) (xs : List A) → list_all p xs ≡ true → EachMeans (λ d x. (d ≡ f x) × (p x ≡ true)) (items_of (map f xs)) xs
means p f [] h = tt
means p f (x ∷ xs) h = let q = and_parts (p x) _ h in ((refl, q.0), means p f xs q.1)

-- the items of a list, each read as what it was written of
pub list-there : {A : Type 0} (item_of : List ℕ → Data → Result A Refusal) (name : List ℕ) (p : A → Bool) (f : A → Data)
    → ((x : A) → p x ≡ true → item_of name (f x) ≡ Ok x)
    → (xs : List A) → list_all p xs ≡ true → each (item_of name) (items_list (items_of (map f xs))) ≡ Ok xs
list-there item_of name p f one xs h = each_there (item_of name) (λ d x. (d ≡ f x) × (p x ≡ true)) (λ d x h. ap (item_of name) h.0 ∙ one x h.1) (items_of (map f xs)) xs (means p f xs h)

pub items-there : {A : Type 0} (item_of : List ℕ → Data → Result A Refusal) (name : List ℕ) (p : A → Bool) (f : A → Data)
    → ((x : A) → p x ≡ true → item_of name (f x) ≡ Ok x)
    → CanonIsRead → (xs : List A) → has_canon (list_with (map f xs)) ≡ true → list_all p xs ≡ true → items_in item_of name (text (list_with (map f xs))) ≡ Ok xs
unfolding items_in list_of
items-there item_of name p f one law xs canon h =
    bind-ok _ _ (list_with (map f xs)) (text-there law (list_with (map f xs)) canon)
    ∙ bind-ok _ _ (items_list (items_of (map f xs))) refl
    ∙ list-there item_of name p f one xs h
