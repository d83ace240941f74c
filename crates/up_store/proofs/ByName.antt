-- Rows of a table that say values, by the name in the first column.
use Rattle.std.proofs.Common.{◌≡◌, ℕ, List, [], ◌∷◌, Bool, true, false, cond, map, filter, bytes_eq, refl, sym, ap, subst, ◌∙◌}
use Rattle.up_tables.proofs.ByNameLemmas.{map_filter}
use Rattle.up_tables.proofs.ReadLemmas.{bare_filter}
use Rattle.up_store.proofs.Common.{is_eq, Row, value_cmp, Text, bare, has_text, Lists, EachSays, column_after, says_passing}

swapped : {X : Type 0} (p q : X → Bool) (xs : List X) → filter p (filter q xs) ≡ filter q (filter p xs)
swapped p q [] = refl
swapped {X} p q (x ∷ xs) = go (p x) (q x) refl refl (swapped p q xs)
  where
    go : (a b : Bool) → p x ≡ a → q x ≡ b → filter p (filter q xs) ≡ filter q (filter p xs) → filter p (cond b (x ∷ filter q xs) (filter q xs)) ≡ filter q (cond a (x ∷ filter p xs) (filter p xs))
    go true true one two h = rw (one, two) (ap (λ zs. x ∷ zs) h)
    go true false one two h = rw two h
    go false true one two h = rw one h
    go false false one two h = h

module _ {T : Type 0} (says : Row → T → Type 0) (part : Row → Row) (name_of : T → List ℕ) (keeps : (r : Row) (n : List ℕ) → has_text 0 n (part r) ≡ has_text 0 n r)
    (named : (n : List ℕ) (r : Row) (x : T) → says r x → has_text 0 n r ≡ bytes_eq (name_of x) n) (passes : Row → Bool) where
  -- those of a name say the values that have it
  pub said_by_name : (rows : List Row) (rows_of : List ℕ → List Row) (found : List T) → Lists 1 rows_of rows → EachSays says (map part (filter passes (bare rows))) found
      → (name : List ℕ) → EachSays says (map part (filter passes (rows_of name))) (filter (λ x. bytes_eq (name_of x) name) found)
  said_by_name rows rows_of found lists said name =
      let its : rows_of name ≡ filter (has_text 0 name) (bare rows) = sym (lists.parts name) ∙ bare_filter (has_text 1 name) (has_text 0 name) (λ r. ap (λ v. is_eq (value_cmp v (Text name))) (column_after r 0)) rows in
      subst (λ shown. EachSays says shown (filter (λ x. bytes_eq (name_of x) name) found))
      (sym (map_filter part (has_text 0 name) (has_text 0 name) (λ r. keeps r name) (filter passes (bare rows))) ∙ ap (map part) (sym (ap (filter passes) its ∙ swapped passes (has_text 0 name) (bare rows))))
      (says_passing says (has_text 0 name) (λ x. bytes_eq (name_of x) name) (named name) (map part (filter passes (bare rows))) found said)
