-- The keys of earlier root versions are deleted; those of the last one stay.
use Rattle.std.proofs.Common.{◌≡◌, ◌<◌, ℕ, ℤ, pos, List, [], ◌∷◌, ◌++◌, map, cond, filter, flat_map, Bool, true, false, not, Ok, Result, OnOk, IsTrue, refl, sym, ap, ap₂, subst, ◌∙◌, arith, drop}
use Rattle.std.proofs.Math.Bool.{and-true}
use Rattle.std.proofs.lemmas.Bool.Decides.{nat_tests}
use Rattle.std.proofs.lemmas.Cmp.{tied_itself}
use Rattle.std.proofs.lemmas.Int.{ints}
use Rattle.std.proofs.lemmas.List.Sorted.{IsPermutation-map, list_any-IsPermutation}
use Rattle.std.specs.List.{AllByRecursion, list_all, list_any}
use Rattle.std.specs.List.Sorted.{IsPermutation}
use Rattle.std.specs.Ordering.{is_lt}
use Rattle.std.specs.declared.cmp.Ordering.TheVariants.{Less}
use Rattle.sqlite.specs.declared.error.Error.{Error}
use Rattle.sqlite.specs.declared.types.Value.{Value}
use Rattle.sqlite.specs.declared.types.Value.TheVariants.{Null, Int, Real, Text, Blob}
use Rattle.sqlite.specs.Command.TheVariants.{Delete}
use Rattle.sqlite.specs.Edit.{id_in, without_all}
use Rattle.sqlite.specs.Effect.{Answers}
use Rattle.sqlite.specs.Listing.{understood}
use Rattle.sqlite.specs.Ops.{binary, is_true, from_truth}
use Rattle.sqlite.specs.Order.{Row, column, value_cmp}
use Rattle.sqlite.specs.Program.{overlay}
use Rattle.sqlite.specs.Query.{Query, Join, inner, end, IsAnswer, Output, output}
use Rattle.sqlite.specs.State.{State, HasCleanDisk, Survives, ExecutesInside}
use Rattle.sqlite.specs.Term.{Term, Env, lit, col, op2, holds}
use Rattle.sqlite.specs.Tree.{Trees, IsTable, has_rowid, rowid, without_rowid}
use Rattle.sqlite.proofs.Callers.{IsPlain, command_of}
use Rattle.sqlite_keyed.proofs.ListLemmas.{all_weaker, filter_all, filter_none, map-map}
use Rattle.sqlite_rules.specs.Calls.{ids_of}
use Rattle.sqlite_schema.specs.declared.program.Program.{Program}
use Rattle.sqlite_sql.specs.Ops.{unary}
use Rattle.sqlite_sql.specs.Query.{first, matches_as}
use Rattle.sqlite_sql.specs.Term.{op1}
use Rattle.sqlite_sql.specs.declared.ops.BinaryOp.TheVariants.{Compare}
use Rattle.sqlite_sql.specs.declared.ops.CompareOp.TheVariants.{Lt}
use Rattle.sqlite_sql.specs.declared.ops.UnaryOp.TheVariants.{ToNumeric}
use Rattle.sqlite_tied.specs.Compute.{everything}
use Rattle.sqlite_trees.specs.View.{IsShaped, is_int}
use Rattle.sqlite_trees.specs.declared.store.Shape.TheVariants.{Table as TableShape}
use Rattle.sqlite_value.specs.declared.keys.Collation.TheVariants.{Binary}
use Rattle.sqlite_value.proofs.OrderLemmas.{value_cmp_total, value_cmp-Int}
use Rattle.up_tables.specs.Lines.{meta_row_of}
use Rattle.up_tables.specs.Making.{drop_keys_text}
use Rattle.up_tables.specs.Rows.{bare}
use Rattle.up_tables.specs.Stands.{Alters, HasTables, IfClean, IsInside, ListsAll}
use Rattle.up_tables.specs.Tables.{meta_table, role_key_table, up_schema}
use Rattle.up_tables.specs.Versions.{IsEarlier, ListsKeys}
use Rattle.up_tables.proofs.AnswerLemmas.{true_of}
use Rattle.up_tables.proofs.DeleteLemmas.{AreGone, HaveRowids, all_gone, id_row, is_gone, none_left, takes_away}
use Rattle.up_tables.proofs.EcuRows.{column_after}
use Rattle.up_tables.proofs.PlaceLemmas.{no_rowid}
use Rattle.up_tables.proofs.RunLemmas.{IsRun, idle, run_alters, run_in, then_ok}

-- ---- lists in two parts

filter-append : {A : Type 0} (p : A → Bool) (xs ys : List A) → filter p (xs ++ ys) ≡ filter p xs ++ filter p ys
filter-append p [] ys = refl
filter-append p (x ∷ xs) ys = go (p x) (filter-append p xs ys)
  where
    go : (b : Bool) → filter p (xs ++ ys) ≡ filter p xs ++ filter p ys → cond b (x ∷ filter p (xs ++ ys)) (filter p (xs ++ ys)) ≡ cond b (x ∷ filter p xs) (filter p xs) ++ filter p ys
    go true h = ap (λ zs. x ∷ zs) h
    go false h = h

all_ahead : {A : Type 0} (P : A → Type 0) (xs ys : List A) → AllByRecursion P (xs ++ ys) → AllByRecursion P xs
all_ahead P [] ys all = tt
all_ahead P (x ∷ xs) ys all = (all.0, all_ahead P xs ys all.1)

all_behind : {A : Type 0} (P : A → Type 0) (xs ys : List A) → AllByRecursion P (xs ++ ys) → AllByRecursion P ys
all_behind P [] ys all = all
all_behind P (x ∷ xs) ys all = all_behind P xs ys all.1

table_behind : (xs ys : List Row) → IsTable (xs ++ ys) → IsTable ys
table_behind [] ys up = up
table_behind (x ∷ xs) ys up = table_behind xs ys up.1

-- rows that are listed in two parts are two parts themselves
pub record Split (earlier keys rows : List Row) : Type 0 where
  pub old : List Row
  pub last : List Row
  pub both : rows ≡ old ++ last
  pub old_is : bare old ≡ earlier
  pub last_is : bare last ≡ keys

split : (earlier keys rows : List Row) → bare rows ≡ earlier ++ keys → Split earlier keys rows
split [] keys rows is = record { old = []; last = rows; both = refl; old_is = refl; last_is = is }
split (e ∷ earlier) keys [] is = absurd (let no = is in cc)
split (e ∷ earlier) keys (r ∷ rows) is =
    let more = split earlier keys rows (rest_of is) in
    record { old = r ∷ more.old; last = more.last; both = ap (λ xs. r ∷ xs) more.both; old_is = ap₂ (λ x xs. x ∷ xs) (first_of is) more.old_is; last_is = more.last_is }
  where
    first_of : {a b : Row} {xs ys : List Row} → a ∷ xs ≡ b ∷ ys → a ≡ b
    first_of p = cc

    rest_of : {a b : Row} {xs ys : List Row} → a ∷ xs ≡ b ∷ ys → xs ≡ ys
    rest_of p = cc

-- ---- the rows with these rowids go, the others stay

without_append : (ids : List ℤ) (xs ys : List Row) → without_all (xs ++ ys) ids ≡ without_all xs ids ++ without_all ys ids
without_append [] xs ys = refl
without_append (id ∷ ids) xs ys = ap (λ rows. without_all rows ids) (filter-append (λ r. not (has_rowid id r)) xs ys) ∙ without_append ids (without_rowid id xs) (without_rowid id ys)

abbrev NoneGone : List ℤ → List Row → Type 0
NoneGone ids rows = AllByRecursion (λ r. is_gone ids r ≡ false) rows

first_apart : (id : ℤ) (ids : List ℤ) (r : Row) → is_gone (id ∷ ids) r ≡ false → (has_rowid id r ≡ false) × (is_gone ids r ≡ false)
first_apart id ids r h = go (has_rowid id r) refl
  where
    go : (b : Bool) → has_rowid id r ≡ b → (has_rowid id r ≡ false) × (is_gone ids r ≡ false)
    go true is = absurd (let no = rw is at h in cc)
    go false is = (is, rw is at h)

all_stay : (ids : List ℤ) (rows : List Row) → NoneGone ids rows → without_all rows ids ≡ rows
all_stay [] rows none = refl
all_stay (id ∷ ids) rows none =
    let here : without_rowid id rows ≡ rows = filter_all (λ r. not (has_rowid id r)) rows
    (all_weaker (λ r. is_gone (id ∷ ids) r ≡ false) (λ r. not (has_rowid id r) ≡ true) (λ r h. ap not (first_apart id ids r h).0) rows none) in
    ap (λ xs. without_all xs ids) here ∙ all_stay ids rows (all_weaker (λ r. is_gone (id ∷ ids) r ≡ false) (λ r. is_gone ids r ≡ false) (λ r h. (first_apart id ids r h).1) rows none)

-- a row behind another one hasn't its rowid
behind : (e r : Row) → is_int (rowid e) ≡ true → value_cmp (rowid e) (rowid r) ≡ Less → has_rowid (id_in (rowid e)) r ≡ false
behind e r int low = by_value (rowid e) refl int
  where
    by_value : (v : Value) → rowid e ≡ v → is_int v ≡ true → has_rowid (id_in v) r ≡ false
    by_value Null is int = absurd (let no = int in cc)
    by_value (Int n) is int = no_rowid n r (subst (λ v. value_cmp v (rowid r) ≡ Less) is low)
    by_value (Real x) is int = absurd (let no = int in cc)
    by_value (Text t) is int = absurd (let no = int in cc)
    by_value (Blob b) is int = absurd (let no = int in cc)

both_apart : (id : ℤ) (ids : List ℤ) (r : Row) → has_rowid id r ≡ false → is_gone ids r ≡ false → is_gone (id ∷ ids) r ≡ false
both_apart id ids r one more = rw one more

each_apart : (id : ℤ) (ids : List ℤ) (rows : List Row) → AllByRecursion (λ r. has_rowid id r ≡ false) rows → NoneGone ids rows → NoneGone (id ∷ ids) rows
each_apart id ids [] one more = tt
each_apart id ids (r ∷ rows) one more = (both_apart id ids r one.0 more.0, each_apart id ids rows one.1 more.1)

none_yet : (rows : List Row) → NoneGone [] rows
none_yet [] = tt
none_yet (r ∷ rows) = (refl, none_yet rows)

-- so none of the last rows goes with the rowids of those ahead
apart : (old last : List Row) → IsTable (old ++ last) → HaveRowids old → NoneGone (ids_of (map id_row old)) last
apart [] last up ints = none_yet last
apart (e ∷ old) last up ints =
    each_apart (id_in (rowid e)) (ids_of (map id_row old)) last
    (all_weaker (λ r. value_cmp (rowid e) (rowid r) ≡ Less) (λ r. has_rowid (id_in (rowid e)) r ≡ false) (λ r low. behind e r ints.0 low) last (all_behind (λ r. value_cmp (rowid e) (rowid r) ≡ Less) old last up.0))
    (apart old last up.1 ints.1)

last_stay : (old last shown : List Row) → IsPermutation (map id_row old) shown → IsTable (old ++ last) → HaveRowids (old ++ last) → without_all (old ++ last) (ids_of shown) ≡ last
last_stay old last shown same up ints =
    let ids = IsPermutation-map (λ (r : Row). id_in (rowid r)) (map id_row old) shown same in
    let mine = all_ahead (λ r. IsTrue (is_int (rowid r))) old last ints in
    let stay : NoneGone (ids_of shown) last =
    all_weaker (λ r. is_gone (ids_of (map id_row old)) r ≡ false) (λ r. is_gone (ids_of shown) r ≡ false)
    (λ r h. sym (list_any-IsPermutation (λ id. has_rowid id r) (ids_of (map id_row old)) (ids_of shown) ids) ∙ h) last (apart old last up mine) in
    without_append (ids_of shown) old last ∙ ap₂ (λ xs ys. xs ++ ys) (none_left (ids_of shown) old (all_gone old shown same mine)) (all_stay (ids_of shown) last stay)

-- ---- what the query of the deletion shows

abbrev below : Term
below = op2 (Compare Lt Binary) (col 1 1) (op1 ToNumeric (col 2 0))

abbrev root_of_meta : Join → Join
root_of_meta = first (inner 0 end) [] [] (col 2 4 ∷ [])

abbrev dropping : Query
dropping = record {
  from = inner 1 (root_of_meta end);
  filter = below ∷ [];
  group = Rattle.std.proofs.Common.None;
  project = col 1 0 ∷ [];
  distinct = false;
  collations = [];
  order = [];
  limit = lit (Int (Rattle.std.proofs.Common.negsuc 0));
  offset = lit (Int (pos 0));
}

abbrev drop_program : Program
drop_program = record { lets = []; body = dropping }

drop_is : (command_of (understood up_schema drop_keys_text) ≡ Delete 1 drop_program) × IsPlain (understood up_schema drop_keys_text)
unfolding understood everything
drop_is = (refl, (refl, refl))

-- a row with the root version of `meta`
abbrev beside : Value → Row → Env
beside root r = [] ∷ r ∷ (root ∷ []) ∷ []

abbrev is_below : Value → Row → Bool
is_below root r = list_all (holds (beside root r)) (below ∷ [])

module _ (db : Trees) (m : Row) (one : db 0 ≡ m ∷ []) where
  one_row : (r : Row) → matches_as Null db (below ∷ []) (root_of_meta end) ([] ∷ r ∷ []) ≡ cond (is_below (column m 4) r) (beside (column m 4) r ∷ []) []
  one_row r = rw one refl

  staged_rows : (rows : List Row) → flat_map (λ r. matches_as Null db (below ∷ []) (root_of_meta end) ([] ∷ r ∷ [])) rows ≡ map (beside (column m 4)) (filter (is_below (column m 4)) rows)
  staged_rows [] = refl
  staged_rows (r ∷ rows) = ap₂ (λ xs ys. xs ++ ys) (one_row r) (staged_rows rows) ∙ go (is_below (column m 4) r)
    where
      go : (b : Bool) → cond b (beside (column m 4) r ∷ []) [] ++ map (beside (column m 4)) (filter (is_below (column m 4)) rows) ≡ map (beside (column m 4)) (cond b (r ∷ filter (is_below (column m 4)) rows) (filter (is_below (column m 4)) rows))
      go true = refl
      go false = refl

  -- the rowids of the rows below it
  drop_shown : (rows : List Row) → IsAnswer dropping db [] rows → IsPermutation (map id_row (filter (is_below (column m 4)) (db 1))) rows
  drop_shown rows a =
      let staged : a.staged ≡ map (beside (column m 4)) (filter (is_below (column m 4)) (db 1)) = a.grouped ∙ staged_rows (db 1) in
      let kept : a.kept ≡ map (λ r. ([], id_row r)) (filter (is_below (column m 4)) (db 1)) = a.distinct ∙ ap (map (output dropping)) staged ∙ map-map (output dropping) (beside (column m 4)) _ in
      let outs = filter (is_below (column m 4)) (db 1) in
      let moved : IsPermutation (map (λ (r : Row). ([], id_row r)) outs) a.ordered = subst (λ k. IsPermutation k a.ordered) kept a.same in
      subst (λ o. IsPermutation o rows) (map-map (λ (o : Output). o.1) (λ (r : Row). ([], id_row r)) outs)
      (subst (IsPermutation (map (λ (o : Output). o.1) (map (λ (r : Row). ([], id_row r)) outs))) (sym a.shown) (IsPermutation-map (λ (o : Output). o.1) _ _ moved))

-- ---- which rows are below

less_is : (a b : ℤ) → is_true (binary (Compare Lt Binary) (Int a) (Int b)) ≡ is_lt (value_cmp (Int a) (Int b))
unfolding binary
less_is a b = true_of _

number_is : (n : ℤ) → unary ToNumeric (Int n) ≡ Int n
unfolding unary
number_is n = refl

below_is : (r : Row) (n : ℤ) (root : ℕ) → column (drop 1 r) 0 ≡ Int n → is_below (Int (pos root)) r ≡ is_lt (value_cmp (Int n) (Int (pos root)))
below_is r n root is =
    and-true _ ∙ ap₂ (λ v w. is_true (binary (Compare Lt Binary) v w)) (column_after r 0 ∙ is) (number_is (pos root)) ∙ less_is n (pos root)

low : (m n : ℕ) → m < n → is_lt (value_cmp (Int (pos m)) (Int (pos n))) ≡ true
low m n h = ap is_lt (value_cmp-Int (pos m) (pos n)) ∙ grind (arith, ints, nat_tests)

level : (n : ℤ) → is_lt (value_cmp (Int n) (Int n)) ≡ false
level n = ap is_lt (tied_itself value_cmp_total (Int n))

unmap : (P : Row → Type 0) (rows : List Row) → AllByRecursion P (bare rows) → AllByRecursion (λ r. P (drop 1 r)) rows
unmap P [] all = tt
unmap P (r ∷ rows) all = (all.0, unmap P rows all.1)

earlier_below : (root : ℕ) (earlier keys rows : List Row) (it : Split earlier keys rows) → AllByRecursion (IsEarlier root) earlier → AllByRecursion (λ row. column row 0 ≡ Int (pos root)) keys
    → filter (is_below (Int (pos root))) rows ≡ it.old
earlier_below root earlier keys rows it each last =
    let p = is_below (Int (pos root)) in
    let old = all_weaker (λ r. IsEarlier root (drop 1 r)) (λ r. p r ≡ true) (λ r h. below_is r (pos h.0) root h.2 ∙ low h.0 root h.1) it.old (unmap (IsEarlier root) it.old (subst (AllByRecursion (IsEarlier root)) (sym it.old_is) each)) in
    let new = all_weaker (λ r. column (drop 1 r) 0 ≡ Int (pos root)) (λ r. p r ≡ false) (λ r h. below_is r (pos root) root h ∙ level (pos root)) it.last
    (unmap (λ row. column row 0 ≡ Int (pos root)) it.last (subst (AllByRecursion (λ row. column row 0 ≡ Int (pos root))) (sym it.last_is) last)) in
    ap (filter p) it.both ∙ filter-append p it.old it.last ∙ ap₂ (λ xs ys. xs ++ ys) (filter_all p it.old old) (filter_none p it.last new) ∙ Rattle.std.proofs.Common.append-nil it.old

-- ---- the statement

last_listed : (root : ℕ) (keys rows new shown : List Row) → ListsKeys root keys rows → IsPermutation (map id_row (filter (is_below (Int (pos root))) rows)) shown → new ≡ without_all rows (ids_of shown) → ListsAll keys new
last_listed root keys rows new shown lists same is =
    let it = split lists.earlier keys rows lists.listed.every in
    let mine : IsPermutation (map id_row it.old) shown = subst (λ xs. IsPermutation (map id_row xs) shown) (earlier_below root lists.earlier keys rows it lists.each lists.last) same in
    let up : IsTable (it.old ++ it.last) = subst IsTable it.both lists.listed.shaped.0 in
    let ints : HaveRowids (it.old ++ it.last) = subst HaveRowids it.both lists.listed.shaped.1 in
    let now : new ≡ it.last = is ∙ ap (λ xs. without_all xs (ids_of shown)) it.both ∙ last_stay it.old it.last shown mine up ints in
    subst (ListsAll keys) (sym now) (record { shaped = (table_behind it.old it.last up, all_behind (λ r. IsTrue (is_int (rowid r))) it.old it.last ints); every = it.last_is })

pub drops_keys : (r : Result ℕ Error) (old new : State) → Survives old new (λ _. ⊥) → IfClean IsInside old
    → (HasCleanDisk new → IsTrue old.in_transaction → ExecutesInside 0 drop_keys_text [] old new r)
    → HasCleanDisk new → OnOk r ((number root image_version stamp : ℕ) (keys : List Row) → HasTables old → old.now.trees meta_table.tree ≡ meta_row_of number root image_version stamp ∷ []
    → ListsKeys root keys (old.now.trees role_key_table.tree) → Alters role_key_table (ListsAll keys) old new)
drops_keys r old new survives inside ran clean = then_ok r drops (run_in drop_keys_text [] old new r survives inside ran clean)
  where
    drops : IsRun drop_keys_text [] old new → (number root image_version stamp : ℕ) (keys : List Row) → HasTables old → old.now.trees meta_table.tree ≡ meta_row_of number root image_version stamp ∷ []
        → ListsKeys root keys (old.now.trees role_key_table.tree) → Alters role_key_table (ListsAll keys) old new
    drops run number root image_version stamp keys has is lists =
        let away = takes_away up_schema drop_keys_text 1 role_key_table drop_program [] drop_is.0 drop_is.1 refl (idle 1) old new run.count (has run.was_open).schema_is run.went in
        let same = drop_shown (overlay old.now.trees []) (meta_row_of number root image_version stamp) is away.shown (away.answered.answer Null) in
        run_alters drop_keys_text [] role_key_table _ old new run away.schema_is away.sound (last_listed root keys (old.now.trees role_key_table.tree) (new.now.trees role_key_table.tree) away.shown lists same away.rows) away.others
