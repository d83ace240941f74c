-- What the schema asks of the columns by which rows are told apart: each row has a text there, and no key comes twice.
use Rattle.std.proofs.Common.{◌≡◌, ◌≤◌, inl, inr, ℕ, ℤ, List, [], ◌∷◌, filter, drop, length, Bool, true, false, not, ◌||◌, Some, None, slice_get, get_or, IsTrue, refl, sym, ap, subst, ◌∙◌, arith}
use Rattle.std.specs.List.{AllByRecursion}
use Rattle.std.specs.Ordering.{is_eq}
use Rattle.std.specs.declared.cmp.Ordering.TheVariants.{Less}
use Rattle.std.proofs.lemmas.Bool.{not-true}
use Rattle.sqlite.specs.declared.types.Value.{Value}
use Rattle.sqlite.specs.declared.types.Value.TheVariants.{Null, Int, Real, Text, Blob}
use Rattle.sqlite.specs.Order.{Row, column, value_cmp}
use Rattle.sqlite.specs.Table.{Table}
use Rattle.sqlite.specs.Tree.{Trees, IsTable, rowid}
use Rattle.sqlite_catalog.specs.Listing.{IsSound}
use Rattle.sqlite_keyed.proofs.ListLemmas.{ascending-filter}
use Rattle.sqlite_keyed.proofs.RuleLemmas.{first_of_both, second_of_both}
use Rattle.sqlite_rules.specs.Lists.{Has}
use Rattle.sqlite_rules.proofs.ListLemmas.{all_has, all_from, has_filtered}
use Rattle.sqlite_rules.proofs.RuleLemmas.{keeps_at}
use Rattle.sqlite_schema.specs.declared.schema.Column.{Column}
use Rattle.sqlite_schema.specs.declared.schema.Constraint.TheVariants.{Datatype, NotNull}
use Rattle.sqlite_schema.specs.declared.schema.Kind.TheVariants as kind
use Rattle.sqlite_schema.specs.Rules.{are_typed, are_present, has_computed, is_of, suits}
use Rattle.sqlite_sql.specs.Ops.{is_null}
use Rattle.sqlite_trees.specs.View.{IsShaped, is_int}
use Rattle.sqlite_trees.specs.declared.store.Shape.TheVariants.{Table as TableShape}
use Rattle.sqlite_value.specs.declared.keys.Collation.TheVariants.{Binary}
use Rattle.sqlite_value.specs.Keys.{plain}
use Rattle.up_tables.specs.Tables.{up_schema}
use Rattle.up_tables.specs.Rows.{has_text}
use Rattle.up_tables.proofs.EcuRows.{differs, text_is, same_text}
use Rattle.up_tables.proofs.KeyLemmas.{one_key_of}

-- ---- a column of texts that isn't null

abbrev pub HasTextAt : ℕ → Row → Type 0
HasTextAt at r = (s : List ℕ) × (column r at ≡ Text s)

abbrev texts : List ℕ → Column
texts name = record { name = name; kind = kind.Text; is_strict = true; not_null = true; default = Null; collation = Binary }

text_value : (v : Value) → is_of kind.Text v ≡ true → is_null v ≡ false → (s : List ℕ) × (v ≡ Text s)
text_value Null typed there = absurd (let e = there in cc)
text_value (Int n) typed there = absurd (let e = typed in cc)
text_value (Real x) typed there = absurd (let e = typed in cc)
text_value (Text s) typed there = (s, refl)
text_value (Blob b) typed there = absurd (let e = typed in cc)

first_text : (name : List ℕ) (more : List Column) (r : Row) → are_typed None 0 (texts name ∷ more) (drop 1 r) ≡ true → are_present None 0 (texts name ∷ more) r ≡ true → HasTextAt 1 r
first_text name more [] typed present = absurd (let e = present in cc)
first_text name more (x ∷ []) typed present = absurd (let e = present in cc)
first_text name more (x ∷ v ∷ r) typed present =
    text_value v (first_of_both (is_of kind.Text v) (are_typed None 1 more r) typed) (not-true (is_null v) (first_of_both (not (is_null v)) (are_present None 1 more (x ∷ v ∷ r)) present))

-- a column before it
abbrev is_present : Column → Row → Bool
is_present c r = not c.not_null || not (is_null (column r 1))

after : (one : Column) (name : List ℕ) (more : List Column) (r : Row) → are_present None 0 (one ∷ texts name ∷ more) r ≡ true → are_present None 1 (texts name ∷ more) r ≡ true
after one name more r present = second_of_both (is_present one r) (are_present None 1 (texts name ∷ more) r) present

second_text : (one : Column) (name : List ℕ) (more : List Column) (r : Row) → are_typed None 0 (one ∷ texts name ∷ more) (drop 1 r) ≡ true → are_present None 0 (one ∷ texts name ∷ more) r ≡ true → HasTextAt 2 r
second_text one name more [] typed present = absurd (let e : are_present None 1 (texts name ∷ more) [] ≡ true = after one name more [] present in cc)
second_text one name more (x ∷ []) typed present = absurd (let e : are_present None 1 (texts name ∷ more) (x ∷ []) ≡ true = after one name more (x ∷ []) present in cc)
second_text one name more (x ∷ v ∷ []) typed present = absurd (let e : are_present None 1 (texts name ∷ more) (x ∷ v ∷ []) ≡ true = after one name more (x ∷ v ∷ []) present in cc)
second_text one name more (x ∷ v ∷ w ∷ r) typed present =
    let rest : are_typed None 1 (texts name ∷ more) (w ∷ r) ≡ true = second_of_both (suits one v) (are_typed None 1 (texts name ∷ more) (w ∷ r)) typed in
    text_value w (first_of_both (is_of kind.Text w) (are_typed None 2 more r) rest) (not-true (is_null w) (first_of_both (not (is_null w)) (are_present None 2 more (x ∷ v ∷ w ∷ r)) (after one name more (x ∷ v ∷ w ∷ r) present)))

module _ (table : Table) (listed : Has up_schema.tables table) (keyless : table.key ≡ None) (db : Trees) (sound : IsSound up_schema db) where
  typed : (r : Row) → Has (db table.tree) r → are_typed None 0 table.columns (drop 1 r) ≡ true
  typed r there = subst (λ k. are_typed k 0 table.columns (drop 1 r) ≡ true) keyless (first_of_both (are_typed table.key 0 table.columns (drop 1 r)) (has_computed table r) (keeps_at Datatype up_schema db table r (sound.obeys.rules Datatype) listed there))

  present : (r : Row) → Has (db table.tree) r → are_present None 0 table.columns r ≡ true
  present r there = subst (λ k. are_present k 0 table.columns r ≡ true) keyless (keeps_at NotNull up_schema db table r (sound.obeys.rules NotNull) listed there)

  pub first_texts : (name : List ℕ) (more : List Column) → table.columns ≡ texts name ∷ more → AllByRecursion (HasTextAt 1) (db table.tree)
  first_texts name more is = all_from (HasTextAt 1) (db table.tree)
      (λ r there. first_text name more r (subst (λ cs. are_typed None 0 cs (drop 1 r) ≡ true) is (typed r there)) (subst (λ cs. are_present None 0 cs r ≡ true) is (present r there)))

  pub second_texts : (one : Column) (name : List ℕ) (more : List Column) → table.columns ≡ one ∷ texts name ∷ more → AllByRecursion (HasTextAt 2) (db table.tree)
  second_texts one name more is = all_from (HasTextAt 2) (db table.tree)
      (λ r there. second_text one name more r (subst (λ cs. are_typed None 0 cs (drop 1 r) ≡ true) is (typed r there)) (subst (λ cs. are_present None 0 cs r ≡ true) is (present r there)))

-- ---- the rows with a key

whole_row : (r : Row) (s : List ℕ) (id : ℤ) → column r 1 ≡ Text s → rowid r ≡ Int id → r ≡ Int id ∷ Text s ∷ drop 2 r
whole_row [] s id text is = absurd (let e : Null ≡ Text s = text in cc)
whole_row (x ∷ []) s id text is = absurd (let e : Null ≡ Text s = text in cc)
whole_row (x ∷ v ∷ r) s id text is = let a : v ≡ Text s = text in let b : x ≡ Int id = is in rw (a, b) refl

int_value : (v : Value) → IsTrue (is_int v) → (id : ℤ) × (v ≡ Int id)
int_value Null int = absurd (let e = int in cc)
int_value (Int n) int = (n, refl)
int_value (Real x) int = absurd (let e = int in cc)
int_value (Text t) int = absurd (let e = int in cc)
int_value (Blob b) int = absurd (let e = int in cc)

-- one at most
pub one_at_most : (table : Table) (listed : Has up_schema.tables table) → slice_get table.uniques 0 ≡ Some (1 ∷ []) → get_or table.orders 0 plain ≡ plain
    → (db : Trees) → IsSound up_schema db → IsShaped TableShape (db table.tree) → AllByRecursion (HasTextAt 1) (db table.tree)
    → (key : List ℕ) → length (filter (has_text 1 key) (db table.tree)) ≤ 1
one_at_most table listed unique ordered db sound shaped all_texts key = go (filter (has_text 1 key) rows) (λ r there. has_filtered (has_text 1 key) rows r there) (ascending-filter (λ a b. value_cmp (rowid a) (rowid b) ≡ Less) (has_text 1 key) rows shaped.0)
  where
    rows : List Row
    rows = db table.tree

    go : (some : List Row) → ((r : Row) → Has some r → Has rows r × (has_text 1 key r ≡ true)) → IsTable some → length some ≤ 1
    go [] from rise = omega arith
    go (a ∷ []) from rise = omega arith
    go (a ∷ b ∷ more) from rise =
        let one = from a (inl refl) in
        let two = from b (inr (inl refl)) in
        let text = all_has (HasTextAt 1) rows b all_texts two.0 in
        let same : text.0 ≡ key = same_text text.0 key (sym (text_is text.0 key) ∙ ap (λ v. is_eq (value_cmp v (Text key))) (sym text.1) ∙ two.1) in
        let id = int_value (rowid b) (all_has (λ r. IsTrue (is_int (rowid r))) rows b shaped.1 two.0) in
        let there : Has rows (Int id.0 ∷ Text key ∷ drop 2 b) = subst (Has rows) (whole_row b key id.0 (text.1 ∙ ap (λ s. Text s) same) id.1) two.0 in
        let tie = differs (rowid a) id.0 (all_has (λ r. IsTrue (is_int (rowid r))) rows a shaped.1 one.0) (one_key_of table listed unique ordered db a (drop 2 b) id.0 key sound one.0 there one.1) in
        let low : value_cmp (rowid a) (Int id.0) ≡ Less = subst (λ v. value_cmp (rowid a) v ≡ Less) id.1 rise.0.0 in
        absurd (let e : true ≡ false = sym tie ∙ ap is_eq low in cc)
