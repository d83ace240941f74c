-- What is found in the part of a table of which a test holds.
use Rattle.std.proofs.Common.{◌≡◌, List, [], ◌∷◌, Bool, true, false, cond, Some, None, Ordering, Less, Equal, Greater, filter, refl, sym, ap, subst, ◌∙◌}
use Rattle.std.specs.FinMap as table
use Rattle.std.specs.FinMap.Entries.{below_all, is_sorted}
use Rattle.std.specs.FinMap.Entries as entries
use Rattle.std.proofs.lemmas.Bool.{and_parts}
use Rattle.up_canon.proofs.Printable.{both}
use Rattle.up_store.proofs.Common.{T, nat_cmp, eq_by_cmp, is_lt, is_eq, slice_cmp, Name, Table, if_passes, one_name, values_where}

abbrev names : Name → Name → Ordering
names = slice_cmp nat_cmp

pub from_T : (b : Bool) → T b → b ≡ true
from_T true h = refl
from_T false h = absurd h

to_T : (b : Bool) → b ≡ true → T b
to_T true h = tt
to_T false h = cc

module _ {X : Type 0} (test : X → Bool) where
  abbrev kept : List (Name × X) → List (Name × X)
  kept = filter (λ (e : Name × X). test e.1)

  below_kept : (name : Name) (es : List (Name × X)) → below_all names name es ≡ true → below_all names name (kept es) ≡ true
  below_kept name [] h = refl
  below_kept name (e ∷ es) h = by_test (test e.1) (below_kept name es p.1)
    where
      p : (is_lt (names name e.0) ≡ true) × (below_all names name es ≡ true)
      p = and_parts (is_lt (names name e.0)) _ h

      by_test : (b : Bool) → below_all names name (kept es) ≡ true → below_all names name (cond b (e ∷ kept es) (kept es)) ≡ true
      by_test true rest = both _ _ p.0 rest
      by_test false rest = rest

  sorted_kept : (es : List (Name × X)) → is_sorted names es ≡ true → is_sorted names (kept es) ≡ true
  sorted_kept [] h = refl
  sorted_kept (e ∷ es) h = by_test (test e.1) (sorted_kept es p.1)
    where
      p : (below_all names e.0 es ≡ true) × (is_sorted names es ≡ true)
      p = and_parts (below_all names e.0 es) _ h

      by_test : (b : Bool) → is_sorted names (kept es) ≡ true → is_sorted names (cond b (e ∷ kept es) (kept es)) ≡ true
      by_test true rest = both _ _ (below_kept e.0 es p.0) rest
      by_test false rest = rest

  -- a name that comes before all others is none of theirs
  not_below : (name : Name) (es : List (Name × X)) → below_all names name es ≡ true → entries.find names name es ≡ None
  not_below name [] h = refl
  not_below name (e ∷ es) h = by_order (names name e.0) p.0 (not_below name es p.1)
    where
      p : (is_lt (names name e.0) ≡ true) × (below_all names name es ≡ true)
      p = and_parts (is_lt (names name e.0)) _ h

      by_order : (o : Ordering) → is_lt o ≡ true → entries.find names name es ≡ None → cond (is_eq o) (Some e.1) (entries.find names name es) ≡ None
      by_order Less h rest = rest
      by_order Equal h rest = cc
      by_order Greater h rest = rest

  found_kept : (name : Name) (es : List (Name × X)) → is_sorted names es ≡ true → entries.find names name (kept es) ≡ if_passes test (entries.find names name es)
  found_kept name [] h = refl
  found_kept name (e ∷ es) h = by_tests (test e.1) (eq_by_cmp names name e.0) refl refl (found_kept name es p.1)
    where
      p : (below_all names e.0 es ≡ true) × (is_sorted names es ≡ true)
      p = and_parts (below_all names e.0 es) _ h

      by_tests : (a b : Bool) → test e.1 ≡ a → eq_by_cmp names name e.0 ≡ b → entries.find names name (kept es) ≡ if_passes test (entries.find names name es)
          → entries.find names name (cond a (e ∷ kept es) (kept es)) ≡ if_passes test (cond b (Some e.1) (entries.find names name es))
      by_tests true true met same rest = rw same (rw met refl)
      by_tests true false met same rest = rw same rest
      by_tests false true unmet same rest =
          let mine = one_name name e.0 same in
          let away : entries.find names name es ≡ None = subst (λ n. entries.find names n es ≡ None) (sym mine) (not_below e.0 es p.0) in
          rest ∙ ap (if_passes test) away ∙ sym (rw unmet refl)
      by_tests false false unmet same rest = rest

  pub get_where : (t : Table X) (name : Name) → table.get (values_where test t) name ≡ if_passes test (table.get t name)
  get_where t name =
      let sorted = from_T _ (table.entries_sorted t) in
      table.get-entries (values_where test t) name
      ∙ ap (entries.find names name) (table.entries-from_sorted names (kept (table.entries t)) (to_T _ (sorted_kept (table.entries t) sorted)))
      ∙ found_kept name (table.entries t) sorted
      ∙ ap (if_passes test) (sym (table.get-entries t name))
