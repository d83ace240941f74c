-- What a table's values and entries are at its names.
use Rattle.std.proofs.Common.{◌≡◌, List, [], ◌∷◌, Bool, true, false, cond, Option, Some, refl, sym, ap, ◌∙◌, subst}
use Rattle.std.specs.Prelude.{◌&&◌, ◌||◌, map, T}
use Rattle.std.specs.List.{AllByRecursion, list_any}
use Rattle.std.specs.Ordering.{nat_cmp, eq_by_cmp, is_eq, ordering_reverse}
use Rattle.std.specs.Cmp.{tied_itself}
use Rattle.std.specs.Cmp.Lexicographic.{slice_cmp}
use Rattle.std.specs.FinMap as table
use Rattle.std.specs.FinMap.Entries.{below_all, is_sorted}
use Rattle.std.specs.FinMap.Entries as entries
use Rattle.std.specs.declared.cmp.Ordering.TheVariants.{Greater}
use Rattle.std.proofs.lemmas.Cmp.{nat_list_cmp_total}
use Rattle.std.proofs.lemmas.Bool.{or_right}
use Rattle.up_canon.specs.Names.{Name, Table}
use Rattle.up_canon.proofs.TableLemmas.{less}
use Rattle.up_metadata.proofs.Lists.{each_weaker}

abbrev at_name : {X : Type 0} → Name → List (Name × X) → Option X
at_name q es = entries.find (slice_cmp nat_cmp) q es

-- ---- a value that is found is among the values

any_among : {X : Type 0} (p : X → Bool) (q : Name) (x : X) → p x ≡ true → (es : List (Name × X)) → at_name q es ≡ Some x → list_any p (map (λ e. e.1) es) ≡ true
any_among p q x is [] h = cc
any_among p q x is (e ∷ es) h = by_test (eq_by_cmp (slice_cmp nat_cmp) q e.0) h (any_among p q x is es)
  where
    by_test : (b : Bool) → cond b (Some e.1) (at_name q es) ≡ Some x → (at_name q es ≡ Some x → list_any p (map (λ e. e.1) es) ≡ true) → (p e.1 || list_any p (map (λ e. e.1) es)) ≡ true
    by_test true h more = let same : e.1 ≡ x = cc in rw (ap p same ∙ is)
    by_test false h more = or_right (p e.1) _ (more h)

pub found_any : {X : Type 0} (p : X → Bool) (t : Table X) (q : Name) (x : X) → table.get t q ≡ Some x → p x ≡ true → list_any p (table.values t) ≡ true
found_any p t q x h is = any_among p q x is (table.entries t) (sym (table.get-entries t q) ∙ h)

each_among : {X : Type 0} (P : X → Type 0) (q : Name) (x : X) (es : List (Name × X)) → AllByRecursion P (map (λ e. e.1) es) → at_name q es ≡ Some x → P x
each_among P q x [] all h = cc
each_among P q x (e ∷ es) all h = by_test (eq_by_cmp (slice_cmp nat_cmp) q e.0) h (each_among P q x es all.1)
  where
    by_test : (b : Bool) → cond b (Some e.1) (at_name q es) ≡ Some x → (at_name q es ≡ Some x → P x) → P x
    by_test true h more = let same : e.1 ≡ x = cc in subst P same all.0
    by_test false h more = more h

pub found_each : {X : Type 0} (P : X → Type 0) (t : Table X) (q : Name) (x : X) → AllByRecursion P (table.values t) → table.get t q ≡ Some x → P x
found_each P t q x all h = each_among P q x (table.entries t) all (sym (table.get-entries t q) ∙ h)

-- ---- each entry is found at its name

left : (a b : Bool) → T (a && b) → T a
left true b h = tt
left false b h = h

right : (a b : Bool) → T (a && b) → T b
right true b h = h
right false b h = absurd h

-- what is found behind an entry of a lesser name is found from that entry on
later : {X : Type 0} (f : Name × X) (fs gs : List (Name × X)) → T (below_all (slice_cmp nat_cmp) f.0 gs)
    → AllByRecursion (λ e. at_name e.0 fs ≡ Some e.1) gs → AllByRecursion (λ e. at_name e.0 (f ∷ fs) ≡ Some e.1) gs
later f fs [] h all = tt
later f fs (g ∷ gs) h all =
    let above : slice_cmp nat_cmp g.0 f.0 ≡ Greater = nat_list_cmp_total.antisymm g.0 f.0 ∙ ap ordering_reverse (less _ (left _ _ h)) in
    (ap (λ o. cond (is_eq o) (Some f.1) (at_name g.0 fs)) above ∙ all.0, later f fs gs (right _ _ h) all.1)

sorted_found : {X : Type 0} (es : List (Name × X)) → T (is_sorted (slice_cmp nat_cmp) es) → AllByRecursion (λ e. at_name e.0 es ≡ Some e.1) es
sorted_found [] h = tt
sorted_found (f ∷ fs) h = (
  ap (λ o. cond (is_eq o) (Some f.1) (at_name f.0 fs)) (tied_itself nat_list_cmp_total f.0),
  later f fs fs (left _ _ h) (sorted_found fs (right _ _ h)),
)

pub each_found : {X : Type 0} (t : Table X) → AllByRecursion (λ e. table.get t e.0 ≡ Some e.1) (table.entries t)
each_found t = each_weaker _ _ (λ e h. table.get-entries t e.0 ∙ h) (table.entries t) (sorted_found (table.entries t) (table.entries_sorted t))

values_of : {X : Type 0} (P : X → Type 0) (t : Table X) → ((q : Name) (x : X) → table.get t q ≡ Some x → P x)
    → (es : List (Name × X)) → AllByRecursion (λ e. table.get t e.0 ≡ Some e.1) es → AllByRecursion P (map (λ e. e.1) es)
values_of P t h [] all = tt
values_of P t h (e ∷ es) all = (h e.0 e.1 all.0, values_of P t h es all.1)

-- what holds of each value that is found holds of each of the values
pub each_value : {X : Type 0} (P : X → Type 0) (t : Table X) → ((q : Name) (x : X) → table.get t q ≡ Some x → P x) → AllByRecursion P (table.values t)
each_value P t h = values_of P t h (table.entries t) (each_found t)

-- ---- a value that passes is found at a name

any_in : {X : Type 0} (p : X → Bool) (t : Table X) (es : List (Name × X)) → AllByRecursion (λ e. table.get t e.0 ≡ Some e.1) es → list_any p (map (λ e. e.1) es) ≡ true
    → (q : Name) × (x : X) × (table.get t q ≡ Some x) × (p x ≡ true)
any_in p t [] all h = cc
any_in p t (e ∷ es) all h = by_test (p e.1) refl h (any_in p t es all.1)
  where
    by_test : (b : Bool) → p e.1 ≡ b → (b || list_any p (map (λ e. e.1) es)) ≡ true
        → (list_any p (map (λ e. e.1) es) ≡ true → (q : Name) × (x : _) × (table.get t q ≡ Some x) × (p x ≡ true)) → (q : Name) × (x : _) × (table.get t q ≡ Some x) × (p x ≡ true)
    by_test true is h more = (e.0, e.1, all.0, is)
    by_test false is h more = more h

pub any_found : {X : Type 0} (p : X → Bool) (t : Table X) → list_any p (table.values t) ≡ true → (q : Name) × (x : X) × (table.get t q ≡ Some x) × (p x ≡ true)
any_found p t h = any_in p t (table.entries t) (each_found t) h
