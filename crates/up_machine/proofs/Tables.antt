-- A table after an insertion, at each name.
use Rattle.std.proofs.Common.{◌≡◌, Bool, true, false, cond, Some, None, refl, sym, ap, ◌∙◌, subst}
use Rattle.std.specs.Prelude.{◌≢◌}
use Rattle.std.specs.Ordering.{nat_cmp, eq_by_cmp, is_eq}
use Rattle.std.specs.Cmp.{tied_itself}
use Rattle.std.specs.Cmp.Lexicographic.{slice_cmp}
use Rattle.std.specs.FinMap as table
use Rattle.std.specs.FinMap.{get-insert, same_map, nat_cmp-IsAntisymmetric, slice_cmp-IsAntisymmetric}
use Rattle.std.specs.declared.cmp.Ordering.{Ordering}
use Rattle.std.specs.declared.cmp.Ordering.TheVariants.{Less, Equal, Greater}
use Rattle.std.proofs.lemmas.Cmp.{nat_list_cmp_total}
use Rattle.up_canon.specs.Names.{Name, Table}

tied : (o : Ordering) → is_eq o ≡ true → o ≡ Equal
tied Less h = cc
tied Equal h = refl
tied Greater h = cc

-- names that tie are one
pub one_name : (a b : Name) → eq_by_cmp (slice_cmp nat_cmp) a b ≡ true → a ≡ b
one_name a b h = slice_cmp-IsAntisymmetric nat_cmp-IsAntisymmetric a b (tied _ h)

pub get_new : {X : Type 0} (t : Table X) (k q : Name) (v : X) → table.get (table.insert t k v) q ≡ cond (eq_by_cmp (slice_cmp nat_cmp) q k) (Some v) (table.get t q)
get_new t k q v = get-insert nat_list_cmp_total t k v q

-- what is found after the insertion is what went in, or what was there
pub get_after-insert : {X : Type 0} (P : Name → X → Type 0) (t : Table X) (k q : Name) (x v : X)
    → table.get (table.insert t k v) q ≡ Some x → P k v → (table.get t q ≡ Some x → P q x) → P q x
get_after-insert P t k q x v is new old = at_name _ refl (sym (get_new t k q v) ∙ is)
  where
    at_name : (b : Bool) → eq_by_cmp (slice_cmp nat_cmp) q k ≡ b → cond b (Some v) (table.get t q) ≡ Some x → P q x
    at_name true e is =
        let same : v ≡ x = cc in subst (λ y. P q y) same (subst (λ n. P n v) (sym (one_name q k e)) new)
    at_name false e is = old is

pub get_other : {X : Type 0} (t : Table X) (m n : Name) (x : X) → m ≢ n → table.get (table.insert t m x) n ≡ table.get t n
get_other t m n x apart = by_test _ refl (get_new t m n x)
  where
    by_test : (b : Bool) → eq_by_cmp (slice_cmp nat_cmp) n m ≡ b → table.get (table.insert t m x) n ≡ cond b (Some x) (table.get t n) → table.get (table.insert t m x) n ≡ table.get t n
    by_test true e h = absurd (apart (sym (one_name n m e)))
    by_test false e h = h

pub get_same : {X : Type 0} (t : Table X) (k : Name) (v : X) → table.get (table.insert t k v) k ≡ Some v
get_same t k v = get_new t k k v ∙ ap (λ o. cond (is_eq o) (Some v) (table.get t k)) (tied_itself nat_list_cmp_total k)

-- what a table has at a name stays where something new goes in
pub kept_by_insert : {X : Type 0} (t : Table X) (n q : Name) (x v : X) → table.get t n ≡ None → table.get t q ≡ Some v → table.get (table.insert t n x) q ≡ Some v
kept_by_insert t n q x v new old = get_new t n q x ∙ by_test _ refl
  where
    by_test : (b : Bool) → eq_by_cmp (slice_cmp nat_cmp) q n ≡ b → cond b (Some x) (table.get t q) ≡ Some v
    by_test true e = let none : table.get t q ≡ None = ap (table.get t) (one_name q n e) ∙ new in cc
    by_test false e = old

chosen_apart : {A : Type 0} (a b : Bool) (x y z : A) → (a ≡ true → b ≡ true → ⊥) → cond a x (cond b y z) ≡ cond b y (cond a x z)
chosen_apart true true x y z apart = absurd (apart refl refl)
chosen_apart true false x y z apart = refl
chosen_apart false b x y z apart = refl

-- insertions at two names may be exchanged
pub insert_apart : {X : Type 0} (t : Table X) (m n : Name) (x y : X) → m ≢ n → table.insert (table.insert t m x) n y ≡ table.insert (table.insert t n y) m x
insert_apart t m n x y apart = same_map nat_list_cmp_total (slice_cmp-IsAntisymmetric nat_cmp-IsAntisymmetric) _ _ (λ q.
    get_new _ n q y ∙ ap (cond (eq_by_cmp (slice_cmp nat_cmp) q n) (Some y)) (get_new t m q x)
    ∙ chosen_apart _ _ _ _ _ (λ a b. apart (sym (one_name q m b) ∙ one_name q n a))
    ∙ sym (get_new _ m q x ∙ ap (cond (eq_by_cmp (slice_cmp nat_cmp) q m) (Some x)) (get_new t n q y)))
