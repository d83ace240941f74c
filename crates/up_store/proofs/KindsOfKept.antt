-- Rows of kept manifests have the columns that the statements show, and by the table's key a vehicle has one row at most with a counter.
use Rattle.std.proofs.Common.{◌≡◌, inl, inr, ℕ, ℤ, pos, ◌≤◌, List, [], ◌∷◌, Bool, true, false, cond, ◌&&◌, Option, Ok, Err, Result, IfOk, OnOk, filter, find, map, drop, length, IsTrue, refl, sym, ap, ap₂, subst, ◌∙◌, arith}
use Rattle.std.specs.declared.cmp.Ordering.TheVariants.{Less}
use Rattle.std.proofs.lemmas.Bool.Decides.{nat_tests}
use Rattle.std.proofs.lemmas.List.{length-map}
use Rattle.sqlite.specs.declared.types.Value.{Value}
use Rattle.sqlite_catalog.specs.Listing.{IsSound}
use Rattle.sqlite_catalog.proofs.AlterLemmas.{keys_are_unique}
use Rattle.sqlite_rules.specs.Lists.{Has}
use Rattle.sqlite_rules.proofs.ListLemmas.{all_has, has_filtered}
use Rattle.sqlite_rules.proofs.ProbeLemmas.{mapped_has, has_mapped}
use Rattle.sqlite_schema.specs.Rules.{agree, differ, equal}
use Rattle.sqlite_trees.specs.View.{is_int}
use Rattle.sqlite_value.specs.declared.keys.Collation.TheVariants.{Binary}
use Rattle.sqlite_value.specs.Keys.{first_key, plain}
use Rattle.up_columns.specs.PlanColumns.{plan_column, plan_data}
use Rattle.up_columns.proofs.PlansRead.{plan-canon}
use Rattle.up_plan.specs.declared.assigned.Plan.{Plan}
use Rattle.up_tables.proofs.AnswerLemmas.{equals_text, equals_int}
use Rattle.up_tables.proofs.PlaceLemmas.{any_has}
use Rattle.up_tables.proofs.ReadLemmas.{bare_filter}
use Rattle.up_store.proofs.Common.{◌==◌, AllByRecursion, option_to_list, is_eq, Null, Int, Real, Text, Blob, Row, column, value_cmp, Connected, Trees, IsTable, rowid, Name, is_typed_plan, Kept, kept_with, StateRows, IsWords, kept_places, bare, columns_at, has_text, has_number, HasTables, IsWith, IsWithin, Lists, Reads, AreLines, IsTold, BlamesDisk, HoldsBy, StoreFault, up_schema, kept_table, column_after, differs, same_text, text_is, BlamesWithin, kept_line, ListsRows, IsTypedKept, SaysKept}
use Rattle.up_store.proofs.Blamed.{all_filtered}
use Rattle.up_store.proofs.ColumnFound.{has_tables, numbers_are}
use Rattle.up_store.proofs.KindsOfTexts.{canonical}

-- ---- their columns

pub plan_words : (plan : Plan) → is_typed_plan plan ≡ true → IsWords (Text (plan_column plan))
unfolding plan_column
plan_words plan h = canonical (plan_data plan) (plan-canon plan h)

abbrev with_counter : ℕ → List Kept → List Row
with_counter counter rows = filter (has_number 1 (pos counter)) (map kept_line rows)

-- ---- one at most has the counter

int_value : (v : Value) → IsTrue (is_int v) → (n : ℤ) × (v ≡ Int n)
int_value Null int = absurd (let e = int in cc)
int_value (Int n) int = (n, refl)
int_value (Real x) int = absurd (let e = int in cc)
int_value (Text t) int = absurd (let e = int in cc)
int_value (Blob b) int = absurd (let e = int in cc)

-- the rowids rise among some rows, too
rising_filter : (test : Row → Bool) (rows : List Row) → IsTable rows → IsTable (filter test rows)
rising_filter test [] rise = tt
rising_filter test (x ∷ rows) rise = by_test (test x) (rising_filter test rows rise.1)
  where
    by_test : (b : Bool) → IsTable (filter test rows) → IsTable (cond b (x ∷ filter test rows) (filter test rows))
    by_test true rest = (all_filtered (λ y. value_cmp (rowid x) (rowid y) ≡ Less) test rows rise.0, rest)
    by_test false rest = rest

-- two rows have that vehicle and that counter
agrees : (vehicle : Name) (counter : ℕ) (a b : Row) → column b 1 ≡ Text vehicle → column b 2 ≡ Int (pos counter) → has_text 1 vehicle a ≡ true → has_number 2 (pos counter) a ≡ true
    → agree plain (1 ∷ 2 ∷ []) a (1 ∷ 2 ∷ []) b ≡ true
unfolding first_key
agrees vehicle counter a b text number one two =
    let first : equal Binary (column a 1) (column b 1) ≡ true = ap (equal Binary (column a 1)) text ∙ equals_text (column a 1) vehicle ∙ one in
    let second : equal Binary (column a 2) (column b 2) ≡ true = ap (equal Binary (column a 2)) number ∙ equals_int (column a 2) (pos counter) ∙ two in
    ap₂ (λ (x y : Bool). x && (y && true)) first second

module _ (vehicle : Name) (counter : ℕ) (kept : List Kept) (db : Trees) (sound : IsSound up_schema db) (rows_of : List ℕ → List Row) (lists : Lists 1 rows_of (db kept_table.tree)) (are : rows_of vehicle ≡ map kept_line kept) where
  abbrev rows : List Row
  rows = db kept_table.tree

  abbrev its : List Row
  its = filter (has_text 1 vehicle) rows

  abbrev counted : List Row
  counted = filter (has_number 2 (pos counter)) its

  record IsIts (r : Row) : Type 0 where
    there : Has rows r
    text : has_text 1 vehicle r ≡ true
    number : has_number 2 (pos counter) r ≡ true
    vehicle_is : column r 1 ≡ Text vehicle
    counter_is : column r 2 ≡ Int (pos counter)

  is_its : (r : Row) → Has counted r → IsIts r
  is_its r h =
      let one = has_filtered (has_number 2 (pos counter)) its r h in
      let two = has_filtered (has_text 1 vehicle) rows r one.0 in
      let among : Has (map kept_line kept) (drop 1 r) = subst (λ xs. Has xs (drop 1 r)) (lists.parts vehicle ∙ are) (mapped_has (drop 1) its r one.0) in
      let line = has_mapped kept_line kept (drop 1 r) among in
      let first : column r 1 ≡ Text line.0.vehicle = column_after r 0 ∙ ap (λ (x : Row). column x 0) line.2 in
      let second : column r 2 ≡ Int (pos line.0.counter) = column_after r 1 ∙ ap (λ (x : Row). column x 1) line.2 in
      let vehicle_is : line.0.vehicle ≡ vehicle = same_text line.0.vehicle vehicle (sym (text_is line.0.vehicle vehicle) ∙ ap (λ v. is_eq (value_cmp v (Text vehicle))) (sym first) ∙ two.1) in
      let test : (line.0.counter == counter) ≡ true = sym (numbers_are line.0.counter counter) ∙ ap (λ v. is_eq (value_cmp v (Int (pos counter)))) (sym second) ∙ one.1 in
      let counter_is : line.0.counter ≡ counter = grind (arith, test, nat_tests) in
      record { there = two.0; text = two.1; number = one.1; vehicle_is = first ∙ ap (λ t. Text t) vehicle_is; counter_is = second ∙ ap (λ n. Int (pos n)) counter_is }

  -- two of them have the same rowid
  tie : (a b : Row) → IsIts a → IsIts b → differ (rowid a) (rowid b) ≡ false
  tie a b one two = go (differ (rowid a) (rowid b)) refl
    where
      go : (d : Bool) → differ (rowid a) (rowid b) ≡ d → d ≡ false
      go false is = refl
      go true is =
          let both : (agree plain (1 ∷ 2 ∷ []) a (1 ∷ 2 ∷ []) b && differ (rowid a) (rowid b)) ≡ true = rw (agrees vehicle counter a b two.vehicle_is two.counter_is one.text one.number, is) refl in
          absurd (let e : false ≡ true = sym (keys_are_unique up_schema db kept_table 0 (1 ∷ 2 ∷ []) b sound (inr (inr (inr (inr (inr (inr (inr (inl refl)))))))) refl two.there)
          ∙ any_has (λ other. agree plain (1 ∷ 2 ∷ []) other (1 ∷ 2 ∷ []) b && differ (rowid other) (rowid b)) rows a one.there both in cc)

  few : (some : List Row) → ((r : Row) → Has some r → IsIts r) → IsTable some → length some ≤ 1
  few [] from rise = omega arith
  few (a ∷ []) from rise = omega arith
  few (a ∷ b ∷ more) from rise =
      let one = from a (inl refl) in
      let two = from b (inr (inl refl)) in
      let int_at : (r : Row) → IsIts r → IsTrue (is_int (rowid r)) = λ r it. all_has (λ r. IsTrue (is_int (rowid r))) rows r lists.shaped.1 it.there in
      let id = int_value (rowid b) (int_at b two) in
      let same : is_eq (value_cmp (rowid a) (Int id.0)) ≡ true = differs (rowid a) id.0 (int_at a one) (subst (λ v. differ (rowid a) v ≡ false) id.1 (tie a b one two)) in
      let low : value_cmp (rowid a) (Int id.0) ≡ Less = subst (λ v. value_cmp (rowid a) v ≡ Less) id.1 rise.0.0 in
      absurd (let e : true ≡ false = sym same ∙ ap is_eq low in cc)

  pub one_at_most : length (with_counter counter kept) ≤ 1
  one_at_most =
      let up = rising_filter (has_number 2 (pos counter)) its (rising_filter (has_text 1 vehicle) rows lists.shaped.0) in
      let test : (x : Row) → has_number 2 (pos counter) x ≡ has_number 1 (pos counter) (drop 1 x) = λ x. ap (λ v. is_eq (value_cmp v (Int (pos counter)))) (column_after x 1) in
      let same : bare counted ≡ with_counter counter kept = bare_filter (has_number 2 (pos counter)) (has_number 1 (pos counter)) test its ∙ ap (filter (has_number 1 (pos counter))) (lists.parts vehicle ∙ are) in
      omega (arith, ap length same, length-map counted (drop 1), few counted is_its up)

-- ---- what is read of them

abbrev pub fits : Kept → Type 0
fits row = IsTypedKept row.vehicle row

own : (vehicle : Name) (row : Kept) → IsTypedKept vehicle row → fits row
own vehicle row typed = subst (λ n. IsTypedKept n row) (sym typed.named) typed

none_left : (rows : List Row) → length rows ≤ 0 → rows ≡ []
none_left [] few = refl
none_left (row ∷ rows) few = absurd (omega (arith, few))

-- where one at most has the counter, its line is shown
lines_are : (counter : ℕ) (rows : List Kept) → length (with_counter counter rows) ≤ 1
    → map (columns_at kept_places) (with_counter counter rows) ≡ map kept_line (option_to_list (find (λ (k : Kept). k.counter == counter) rows))
lines_are counter [] few = refl
lines_are counter (row ∷ rows) few = by_test (row.counter == counter) refl (lines_are counter rows)
  where
    by_test : (b : Bool) → (row.counter == counter) ≡ b
        → (length (with_counter counter rows) ≤ 1 → map (columns_at kept_places) (with_counter counter rows) ≡ map kept_line (option_to_list (find (λ (k : Kept). k.counter == counter) rows)))
        → map (columns_at kept_places) (with_counter counter (row ∷ rows)) ≡ map kept_line (option_to_list (find (λ (k : Kept). k.counter == counter) (row ∷ rows)))
    by_test true is rest =
        let test = numbers_are row.counter counter ∙ is in
        let one : length (kept_line row ∷ with_counter counter rows) ≤ 1 = rw test at few in
        rw (test, is) (ap (λ (more : List Row). kept_line row ∷ map (columns_at kept_places) more) (none_left (with_counter counter rows) (omega (arith, one))))
    by_test false is rest =
        let test = numbers_are row.counter counter ∙ is in
        rw (test, is) (rest (rw test at few))

found_typed : (vehicle : Name) (counter : ℕ) (rows : List Kept) → AllByRecursion (IsTypedKept vehicle) rows → AllByRecursion fits (option_to_list (find (λ (k : Kept). k.counter == counter) rows))
found_typed vehicle counter [] typed = tt
found_typed vehicle counter (row ∷ rows) typed = by_test (row.counter == counter) refl (found_typed vehicle counter rows typed.1)
  where
    by_test : (b : Bool) → (row.counter == counter) ≡ b → AllByRecursion fits (option_to_list (find (λ (k : Kept). k.counter == counter) rows))
        → AllByRecursion fits (option_to_list (find (λ (k : Kept). k.counter == counter) (row ∷ rows)))
    by_test true is rest = rw is (own vehicle row typed.0, tt)
    by_test false is rest = rw is rest

abbrev shown : Name → ℕ → (List ℕ → List Row) → List Row
shown vehicle counter rows_of = map (columns_at kept_places) (filter (has_number 1 (pos counter)) (rows_of vehicle))

module _ (vehicle : Name) (counter : ℕ) (s : Connected) (rows : StateRows) (here : IsWith up_schema (ListsRows rows) s.now) where
  its_line : shown vehicle counter (λ n. map kept_line (rows.kept n)) ≡ map kept_line (option_to_list (kept_with vehicle counter rows))
  its_line =
      let sound : IsSound up_schema s.now.trees = subst (λ x. IsSound x s.now.trees) here.schema_is here.sound in
      lines_are counter (rows.kept vehicle) (one_at_most vehicle counter (rows.kept vehicle) s.now.trees sound (λ n. map kept_line (rows.kept n)) here.rows.tables.kept refl)

  its_typed : AllByRecursion fits (option_to_list (kept_with vehicle counter rows))
  its_typed = found_typed vehicle counter (rows.kept vehicle) (here.rows.typed.kept vehicle)

  pub holds_kept : HoldsBy kept_table 1 (λ rows_of. AreLines fits kept_line (shown vehicle counter rows_of)) s
  holds_kept = ((λ n. map kept_line (rows.kept n)), here.rows.tables.kept, (kept_with vehicle counter rows, its_typed, its_line))

-- the manifest that is found is that of the row
pub kept_found : {E : Type 0} (r : Result (Option Kept) E) (vehicle : Name) (counter : ℕ) (before after : Connected)
    → IfOk r (λ found. (rows_of : List ℕ → List Row) → HasTables before → Lists 1 rows_of (before.now.trees kept_table.tree) → IsTold SaysKept fits kept_line (shown vehicle counter rows_of) found)
    → OnOk r (Reads before after) → IfOk r (λ found. (rows : StateRows) → IsWithin up_schema (ListsRows rows) before → found ≡ kept_with vehicle counter rows)
kept_found (Err e) vehicle counter before after told reads = tt
kept_found (Ok found) vehicle counter before after told reads = λ rows within.
    let here = within.here reads.was_open in
    (told (λ n. map kept_line (rows.kept n)) (has_tables rows before within) here.rows.tables.kept).same (kept_with vehicle counter rows) (its_typed vehicle counter before rows here) (its_line vehicle counter before rows here)

-- ---- a fault of a statement, whose table has the rows that it shows since its keys are obeyed

pub by_sound_statement : {A : Type 0} (fits : StateRows → Type 0) (P : Type 0) (old new : Connected) (r : Result A StoreFault) → ((rows : StateRows) → IsWith up_schema (ListsRows rows) old.now → fits rows → P)
    → BlamesDisk (λ s. P) old new r → BlamesWithin fits old new r
by_sound_statement fits P old new (Ok x) holds blame clean = tt
by_sound_statement fits P old new (Err f) holds blame clean = λ is is_open unlimited rows within fit.
    let here = within.here is_open in
    blame clean is (record { is_open = is_open; here = record { schema_is = here.schema_is; sound = here.sound; rows = tt }; unlimited = unlimited }) (holds rows here fit)
