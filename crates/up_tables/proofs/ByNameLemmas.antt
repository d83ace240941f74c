-- Tables that list rows by name: a row is put in, and all are read.
use Rattle.std.proofs.Common.{◌≡◌, ℕ, List, [], ◌∷◌, ◌++◌, map, filter, Bool, true, false, cond, if◌then◌else◌, Ok, Err, Result, OnOk, refl, sym, ap, subst, ◌∙◌, drop, append-nil, bytes_eq}
use Rattle.std.specs.List.{AllByRecursion}
use Rattle.std.specs.Ordering.{is_eq}
use Rattle.sqlite.specs.declared.types.Value.{Value}
use Rattle.sqlite.specs.declared.types.Value.TheVariants.{Int, Text}
use Rattle.sqlite.specs.declared.error.Error.{Error}
use Rattle.sqlite.specs.Order.{Row, value_cmp}
use Rattle.sqlite.specs.Edit.{next_rowid}
use Rattle.sqlite.specs.State.{State}
use Rattle.sqlite.specs.Table.{Table}
use Rattle.sqlite.specs.Tree.{put_row}
use Rattle.sqlite_trees.specs.View.{IsShaped}
use Rattle.sqlite_trees.specs.declared.store.Shape.TheVariants.{Table as TableShape}
use Rattle.sqlite_rules.specs.Lists.{Has}
use Rattle.sqlite_rules.proofs.ListLemmas.{all_has, all_from, has_filtered, has_kept}
use Rattle.sqlite_rules.proofs.ProbeLemmas.{mapped_has, has_mapped}
use Rattle.up_tables.specs.Rows.{bare, has_text, rows_with, with_row}
use Rattle.up_tables.specs.Stands.{Lists, ListsAll, Alters, HasTables}
use Rattle.up_tables.proofs.AppendLemmas.{appended, shaped_next, put_next}
use Rattle.up_tables.proofs.EcuRows.{column_after, text_is, own_text}
use Rattle.up_tables.proofs.OthersLemmas.{alters_to}
use Rattle.up_tables.proofs.ReadLemmas.{bare_filter}
use Rattle.up_tables.proofs.TypedLemmas.{HasTextAt}
use Rattle.std.proofs.lemmas.List.{map-append}

-- ---- a row is put in

lists_with : (at : ℕ) (name : List ℕ) (row : Row) (rows_of : List ℕ → List Row) (rows after : List Row) → ((x : Value) (n : List ℕ) → has_text at n (x ∷ row) ≡ bytes_eq name n)
    → after ≡ put_row (Int (next_rowid rows) ∷ row) rows → Lists at rows_of rows → Lists at (with_row name row rows_of) after
lists_with at name row rows_of rows after named is lists = record {
  shaped = subst (IsShaped TableShape) (sym is) (shaped_next rows row lists.shaped);
  parts = λ n. ap (rows_with at n) is ∙ appended at n rows row lists.shaped ∙ ap (λ b. rows_with at n rows ++ (if b then row ∷ [] else [])) (named (Int (next_rowid rows)) n)
      ∙ ap (λ xs. xs ++ (if bytes_eq name n then row ∷ [] else [])) (lists.parts n) ∙ go n (bytes_eq name n);
}
  where
    go : (n : List ℕ) (b : Bool) → rows_of n ++ (if b then row ∷ [] else []) ≡ (if b then rows_of n ++ row ∷ [] else rows_of n)
    go n true = refl
    go n false = append-nil _

pub listed_in : (table : Table) (at : ℕ) (name : List ℕ) (row : Row) (old new : State) (r : Result ℕ Error) → ((x : Value) (n : List ℕ) → has_text at n (x ∷ row) ≡ bytes_eq name n)
    → OnOk r (HasTables old → Alters table (λ rows. rows ≡ put_row (Int (next_rowid (old.now.trees table.tree)) ∷ row) (old.now.trees table.tree)) old new)
    → OnOk r ((rows_of : List ℕ → List Row) → HasTables old → Lists at rows_of (old.now.trees table.tree) → Alters table (Lists at (with_row name row rows_of)) old new)
listed_in table at name row old new (Err e) named h = tt
listed_in table at name row old new (Ok count) named h = λ rows_of has lists. alters_to table _ _ old new (λ is. lists_with at name row rows_of (old.now.trees table.tree) (new.now.trees table.tree) named is lists) (h has)

-- of a table that is shown whole
pub added_in : (table : Table) (row : Row) (old new : State) (r : Result ℕ Error)
    → OnOk r (HasTables old → Alters table (λ rows. rows ≡ put_row (Int (next_rowid (old.now.trees table.tree)) ∷ row) (old.now.trees table.tree)) old new)
    → OnOk r ((all : List Row) → HasTables old → ListsAll all (old.now.trees table.tree) → Alters table (ListsAll (all ++ row ∷ [])) old new)
added_in table row old new (Err e) h = tt
added_in table row old new (Ok count) h = λ all has lists. alters_to table _ _ old new
    (λ is. record {
      shaped = subst (IsShaped TableShape) (sym is) (shaped_next (old.now.trees table.tree) row lists.shaped);
      every = ap bare (is ∙ put_next (old.now.trees table.tree) row lists.shaped) ∙ map-append (drop 1) (old.now.trees table.tree) (_ ∷ []) ∙ ap (λ xs. xs ++ row ∷ []) lists.every;
    }) (h has)

-- ---- all rows are read

filter_swap : {A : Type 0} (p q : A → Bool) (xs : List A) → filter p (filter q xs) ≡ filter q (filter p xs)
filter_swap p q [] = refl
filter_swap p q (x ∷ xs) = go (p x) (q x) refl refl (filter_swap p q xs)
  where
    go : (a b : Bool) → p x ≡ a → q x ≡ b → filter p (filter q xs) ≡ filter q (filter p xs) → filter p (cond b (x ∷ filter q xs) (filter q xs)) ≡ filter q (cond a (x ∷ filter p xs) (filter p xs))
    go true true e f h = rw (e, f) (ap (λ ys. x ∷ ys) h)
    go true false e f h = rw f h
    go false true e f h = rw e h
    go false false e f h = h

pub map_filter : {A B : Type 0} (f : A → B) (p : A → Bool) (q : B → Bool) → ((x : A) → q (f x) ≡ p x) → (xs : List A) → map f (filter p xs) ≡ filter q (map f xs)
map_filter f p q same [] = refl
map_filter f p q same (x ∷ xs) = rw (same x) (go (p x) (map_filter f p q same xs))
  where
    go : (b : Bool) → map f (filter p xs) ≡ filter q (map f xs) → map f (cond b (x ∷ filter p xs) (filter p xs)) ≡ cond b (f x ∷ filter q (map f xs)) (filter q (map f xs))
    go true h = ap (λ ys. f x ∷ ys) h
    go false h = h

-- of each name, those rows of it that pass
pub named_parts : {T : Type 0} (part : Row → Row) (values : T → Row) (name_of : T → List ℕ) (q : Row → Bool) (rows : List Row) (rows_of : List ℕ → List Row) (found : List T)
    → ((r : Row) (n : List ℕ) → has_text 0 n (part r) ≡ has_text 0 n r) → ((x : T) (n : List ℕ) → has_text 0 n (values x) ≡ bytes_eq (name_of x) n)
    → Lists 1 rows_of rows → map part (filter q (bare rows)) ≡ map values found
    → (name : List ℕ) → map part (filter q (rows_of name)) ≡ map values (filter (λ x. bytes_eq (name_of x) name) found)
named_parts part values name_of q rows rows_of found keeps named lists is name =
    let mine : rows_of name ≡ filter (has_text 0 name) (bare rows) = sym (lists.parts name) ∙ bare_filter (has_text 1 name) (has_text 0 name) (λ r. ap (λ v. is_eq (value_cmp v (Text name))) (column_after r 0)) rows in
    ap (λ xs. map part (filter q xs)) mine ∙ ap (map part) (filter_swap q (has_text 0 name) (bare rows)) ∙ map_filter part (has_text 0 name) (has_text 0 name) (λ r. keeps r name) (filter q (bare rows))
    ∙ ap (filter (has_text 0 name)) is ∙ sym (map_filter values (λ x. bytes_eq (name_of x) name) (has_text 0 name) (λ x. named x name) found)

pub filter_true : {A : Type 0} (xs : List A) → filter (λ _. true) xs ≡ xs
filter_true [] = refl
filter_true (x ∷ xs) = ap (λ ys. x ∷ ys) (filter_true xs)

-- all rows that pass are of some kind, where those of each name are, and each row has a name
pub each_named : (S : Row → Type 0) (q : Row → Bool) (rows_of : List ℕ → List Row) (rows : List Row) → Lists 1 rows_of rows → AllByRecursion (HasTextAt 1) rows → ((name : List ℕ) → AllByRecursion S (filter q (rows_of name)))
    → AllByRecursion S (filter q (bare rows))
each_named S q rows_of rows lists texts each = all_from S (filter q (bare rows)) (λ x there. named x (has_filtered q (bare rows) x there))
  where
    of_row : (r : Row) → Has rows r → q (drop 1 r) ≡ true → S (drop 1 r)
    of_row r there passes =
        let text = all_has (HasTextAt 1) rows r texts there in
        let hit : has_text 1 text.0 r ≡ true = ap (λ v. is_eq (value_cmp v (Text text.0))) text.1 ∙ text_is text.0 text.0 ∙ own_text text.0 in
        let mine : Has (rows_of text.0) (drop 1 r) = subst (λ xs. Has xs (drop 1 r)) (lists.parts text.0) (mapped_has (drop 1) (filter (has_text 1 text.0) rows) r (has_kept (has_text 1 text.0) rows r there hit)) in
        all_has S (filter q (rows_of text.0)) (drop 1 r) (each text.0) (has_kept q (rows_of text.0) (drop 1 r) mine passes)

    named : (x : Row) → Has (bare rows) x × (q x ≡ true) → S x
    named x h = let r = has_mapped (drop 1) rows x h.0 in subst S (sym r.2) (of_row r.0 r.1 (sym (ap q r.2) ∙ h.1))
