-- A table of which each value is changed: its entries, and what is found in it.
use Rattle.std.proofs.Common.{◌≡◌, List, [], ◌∷◌, Bool, true, false, cond, Some, map, refl, sym, ap, ap₂, ◌∙◌, subst}
use Rattle.std.specs.Prelude.{◌&&◌, T, option_map}
use Rattle.std.specs.Ordering.{nat_cmp, eq_by_cmp, is_lt}
use Rattle.std.specs.Cmp.Lexicographic.{slice_cmp}
use Rattle.std.specs.FinMap as table
use Rattle.std.specs.FinMap.Entries.{below_all, is_sorted}
use Rattle.std.specs.FinMap.Entries as entries
use Rattle.up_canon.specs.Names.{Name, Table}
use Rattle.up_machine.proofs.Tables.{one_name}
use Rattle.up_rows.specs.Tables.{each_value}

abbrev pub changed : {X Y : Type 0} → (Name → X → Y) → Name × X → Name × Y
changed f e = (e.0, f e.0 e.1)

below_changed : {X Y : Type 0} (f : Name → X → Y) (name : Name) (es : List (Name × X)) → below_all (slice_cmp nat_cmp) name (map (changed f) es) ≡ below_all (slice_cmp nat_cmp) name es
below_changed f name [] = refl
below_changed f name (e ∷ es) = ap (λ b. is_lt (slice_cmp nat_cmp name e.0) && b) (below_changed f name es)

sorted_changed : {X Y : Type 0} (f : Name → X → Y) (es : List (Name × X)) → is_sorted (slice_cmp nat_cmp) (map (changed f) es) ≡ is_sorted (slice_cmp nat_cmp) es
sorted_changed f [] = refl
sorted_changed f (e ∷ es) = ap₂ (λ a b. a && b) (below_changed f e.0 es) (sorted_changed f es)

pub entries_changed : {X Y : Type 0} (f : Name → X → Y) (t : Table X) → table.entries (each_value f t) ≡ map (changed f) (table.entries t)
entries_changed f t = table.entries-from_sorted (slice_cmp nat_cmp) (map (changed f) (table.entries t)) (subst T (sym (sorted_changed f (table.entries t))) (table.entries_sorted t))

find_changed : {X Y : Type 0} (f : Name → X → Y) (q : Name) (es : List (Name × X)) → entries.find (slice_cmp nat_cmp) q (map (changed f) es) ≡ option_map (f q) (entries.find (slice_cmp nat_cmp) q es)
find_changed f q [] = refl
find_changed f q (e ∷ es) = by_test (eq_by_cmp (slice_cmp nat_cmp) q e.0) refl (find_changed f q es)
  where
    by_test : (b : Bool) → eq_by_cmp (slice_cmp nat_cmp) q e.0 ≡ b → entries.find (slice_cmp nat_cmp) q (map (changed f) es) ≡ option_map (f q) (entries.find (slice_cmp nat_cmp) q es)
        → cond b (Some (f e.0 e.1)) (entries.find (slice_cmp nat_cmp) q (map (changed f) es)) ≡ option_map (f q) (cond b (Some e.1) (entries.find (slice_cmp nat_cmp) q es))
    by_test true is rest = ap (λ n. Some (f n e.1)) (sym (one_name q e.0 is))
    by_test false is rest = rest

pub get_changed : {X Y : Type 0} (f : Name → X → Y) (t : Table X) (q : Name) → table.get (each_value f t) q ≡ option_map (f q) (table.get t q)
get_changed f t q = table.get-entries (each_value f t) q ∙ ap (entries.find (slice_cmp nat_cmp) q) (entries_changed f t)
    ∙ find_changed f q (table.entries t) ∙ ap (option_map (f q)) (sym (table.get-entries t q))
