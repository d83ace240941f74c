-- Rows by name after a value is put into a table.
use Rattle.std.proofs.Common.{◌≡◌, List, [], ◌∷◌, ◌++◌, Bool, true, false, Option, Some, None, refl, sym, ap, subst, ◌∙◌, bytes_eq}
use Rattle.std.specs.FinMap as table
use Rattle.up_store.proofs.Common.{if◌then◌else◌, bytes_decides, Row, Name, Table, changed_at, with_row}
use Rattle.up_store.proofs.Closed.{got}

-- those of one name are changed, where the value goes in
pub changed_inserted : {X : Type 0} (t : Table X) (name : Name) (x : X) (lines : Name → Option X → List Row) (f : List Row → List Row) → f (lines name (table.get t name)) ≡ lines name (Some x) → (n : Name)
    → changed_at name f (λ m. lines m (table.get t m)) n ≡ lines n (table.get (table.insert t name x) n)
changed_inserted t name x lines f is n = by_test (bytes_eq name n) refl ∙ sym (ap (lines n) (got t name x n))
  where
    by_test : (b : Bool) → bytes_eq name n ≡ b → (if b then f (lines n (table.get t n)) else lines n (table.get t n)) ≡ lines n (if b then Some x else table.get t n)
    by_test true same = subst (λ m. f (lines m (table.get t m)) ≡ lines m (Some x)) ((bytes_decides name n).0 same) is
    by_test false same = refl

-- a row whose name is new
pub row_inserted : {X : Type 0} (t : Table X) (name : Name) (x : X) (lines : Option X → List Row) (row : Row) → table.get t name ≡ None → lines None ≡ [] → lines (Some x) ≡ row ∷ [] → (n : Name)
    → with_row name row (λ m. lines (table.get t m)) n ≡ lines (table.get (table.insert t name x) n)
row_inserted t name x lines row new none one n =
    changed_inserted t name x (λ m o. lines o) (λ rows. rows ++ row ∷ []) (ap (λ o. lines o ++ row ∷ []) new ∙ ap (λ rows. rows ++ row ∷ []) none ∙ sym one) n
