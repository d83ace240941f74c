-- What follows of a statement that was carried out, or asked, of what its text is known to be.
use Rattle.std.proofs.Common.{◌≡◌, ◌≤◌, ◌⊎◌, ◌/◌, Bool, ℕ, suc, List, [], ◌∷◌, Option, None, Some, Result, Ok, Err, IfOk, IfErr, OnOk, IsTrue, length, slice_get, drop, false, sym, ap, subst, ◌∙◌, map, filter, bytes_eq, arith}
use Rattle.std.proofs.Math.Bool.{and-true}
use Rattle.std.proofs.lemmas.List.Sorted.{length_permutation}
use Rattle.std.specs.List.{AllByRecursion, list_all}
use Rattle.std.specs.List.Sorted.{IsPermutation}
use Rattle.std.specs.Option.{option_to_list}
use Rattle.std.specs.Ordering.{is_eq}
use Rattle.std.specs.Borrow.{MutBor}
use Rattle.std.specs.Result.{IsOkAnd}
use Rattle.sqlite_trees.specs.declared.store.Store.{Ghosts}
use Rattle.sqlite.specs.declared.error.Error.{Error}
use Rattle.sqlite.specs.declared.types.Value.{Value}
use Rattle.sqlite.specs.declared.types.Value.TheVariants.{Null, Text}
use Rattle.sqlite.specs.Cast.{cast_row}
use Rattle.sqlite.specs.Command.TheVariants.{Insert}
use Rattle.sqlite.specs.Effect.{value_rows}
use Rattle.sqlite.specs.Held.{Held, state}
use Rattle.sqlite.specs.Order.{Row, column, value_cmp}
use Rattle.sqlite.specs.Program.{overlay}
use Rattle.sqlite.specs.Rows.{stamped}
use Rattle.sqlite.specs.Source.TheVariants.{Values}
use Rattle.sqlite.specs.State.{State, HasCleanDisk, Survives, ExecutesInside, Shown, FailsToQuery, IsTooLate}
use Rattle.sqlite.specs.Table.{Table}
use Rattle.sqlite.specs.Term.{Term, eval_all, holds}
use Rattle.sqlite.specs.Tree.{Trees}
use Rattle.sqlite_catalog.specs.Listing.{IsSound}
use Rattle.sqlite_keyed.proofs.ListLemmas.{all_map}
use Rattle.sqlite_schema.specs.declared.command.Command.{Command}
use Rattle.up_tables.specs.declared.values.StoreFault.{StoreFault}
use Rattle.up_tables.specs.declared.values.StoreFault.TheVariants.{Store}
use Rattle.up_tables.specs.Faults.{store_fault}
use Rattle.up_tables.specs.Rows.{bare, has_text, with_row}
use Rattle.up_tables.specs.Stands.{HasTables, IfClean, IsInside, Lists}
use Rattle.up_tables.specs.Statements.{AltersRows, BlamesDisk, FindsAll, HoldsBy}
use Rattle.up_tables.specs.Tried.{AnswersQuery}
use Rattle.up_tables.specs.Stored.{AreLines, EachSays, IsAsked, IsCarriedOut, IsFound, IsQueried, IsTold, IsWritten}
use Rattle.up_tables.specs.Tables.{up_schema}
use Rattle.up_tables.proofs.AnswerLemmas.{all_columns, equals_text, given, over}
use Rattle.up_tables.proofs.BlameLemmas.{Takes, blames}
use Rattle.up_tables.proofs.ByNameLemmas.{each_named, listed_in}
use Rattle.up_tables.proofs.CallLemmas.{is_read, is_written}
use Rattle.up_tables.proofs.CommandLemmas.{IsRowAsked}
use Rattle.up_tables.proofs.EcuRows.{column_after}
use Rattle.up_tables.proofs.EcuUpdate.{equals}
use Rattle.up_tables.proofs.InsertLemmas.{inserts_in}
use Rattle.up_tables.proofs.ReadLemmas.{Asks, answers_all, answers_some, bare_filter, by_rowid, few_permutation}
use Rattle.up_tables.proofs.StateLemmas.{ok_then, query_told}
use Rattle.up_tables.proofs.StepLemmas.{shown_open}
use Rattle.up_tables.proofs.RefusalLemmas.{Writes, blames_refusal}
use Rattle.up_tables.proofs.SaysLemmas.{says_few}
use Rattle.up_tables.proofs.TriedLemmas.{ran_only}
use Rattle.up_tables.proofs.TypedLemmas.{HasTextAt}
use Rattle.up_tables.proofs.UndoneLemmas.{undoes_only}

-- ---- a row is put in

-- the text is an INSERT of one row of this table, which takes these columns as they are, and lists it under the name in the column at this place
pub record IsInsertOf (text : List ℕ) (table : Table) (at : ℕ) (name : List ℕ) (row : Row) (place width : ℕ) : Type 0 where
  pub writes : Writes text row (Insert place (Values (given width) (suc width)))
  pub there : slice_get up_schema.tables place ≡ Some table
  pub uncounted : table.is_counted ≡ false
  pub unstamped : stamped table row ≡ row
  pub values : value_rows row (suc width) (length (given width) / suc width) (given width) ≡ (Null ∷ row) ∷ []
  pub casts : cast_row table (Null ∷ row) ≡ Null ∷ row
  pub named : (x : Value) (n : List ℕ) → has_text at n (x ∷ row) ≡ bytes_eq name n

pub written : {S A P : Type 0} (g : Ghosts S) (text : List ℕ) (row : Row) (command : Command) (alters : State → State → Result A StoreFault → Type 0) (old new : MutBor (Held S)) (r : Result A StoreFault)
    → Writes text row command → ((HasCleanDisk (state g new.now) → OnOk r P) → alters (state g old.now) (state g new.now) r)
    → ((w : Result ℕ Error) → Survives (state g old.now) (state g new.now) (λ _. ⊥) → IfClean IsInside (state g old.now)
    → (HasCleanDisk (state g new.now) → IsTrue (state g old.now).in_transaction → ExecutesInside 0 text row (state g old.now) (state g new.now) w) → HasCleanDisk (state g new.now) → OnOk w P)
    → IsCarriedOut g text row old new r → IsWritten g text row alters old new r
written g text row command alters old new r writes told does c mode =
    let before = state g old.now in
    let after = state g new.now in
    let done = is_written text row before after c.written r _ c.ok mode c.survives c.runs (does c.written c.survives mode c.runs) in
    record {
      altered = told done.told;
      blame = blames_refusal text row command writes c.written r before after c.went c.fault c.survives mode c.runs;
      ran = ran_only text row command writes c.written r before after c.ok c.survives mode c.runs;
      memory = undoes_only text row c.written r before after c.went c.fault c.survives mode c.runs;
      step = record { same_reference = c.same_reference; steps = done.steps; inside = done.inside; is_open = done.opened };
    }

pub inserted : {S A : Type 0} (g : Ghosts S) (text : List ℕ) (table : Table) (at : ℕ) (name : List ℕ) (row : Row) (place width : ℕ) (old new : MutBor (Held S)) (r : Result A StoreFault)
    → IsInsertOf text table at name row place width → IsCarriedOut g text row old new r → IsWritten g text row (AltersRows table at (with_row name row)) old new r
inserted g text table at name row place width old new r is =
    written g text row _ (AltersRows table at (with_row name row)) old new r is.writes (λ h. h)
    (λ w survives inside runs clean. listed_in table at name row (state g old.now) (state g new.now) w is.named
    (inserts_in text place table (given width) (suc width) row row is.writes.is is.writes.plain is.there is.uncounted is.unstamped is.values is.casts w (state g old.now) (state g new.now) survives inside runs clean))

-- ---- a query

pub asked_as : {S X A : Type 0} (g : Ghosts S) (items : X → List Row) (text : List ℕ) (values : Row) (told : List Row → A → Type 0) (kinds : List Row → Type 0) (old new : MutBor (Held S)) (answer : Result X Error) (r : Result A StoreFault)
    → new.ghost_name ≡ old.ghost_name → Survives (state g old.now) (state g new.now) (λ _. ⊥)
    → (HasCleanDisk (state g new.now) → IfOk answer (λ v. Shown text values (state g old.now) (state g new.now) (items v)))
    → (HasCleanDisk (state g new.now) → IfErr answer (λ e. FailsToQuery text values (state g old.now) (state g new.now) e ⊎ IsTooLate text values (state g old.now) (state g new.now) e))
    → IfOk r (λ found. IsOkAnd answer (λ v. told (items v) found)) → IfErr answer (λ e. r ≡ Err (store_fault e)) → IfOk answer (λ v. IfErr r (λ fault. fault ≡ Store → ¬ kinds (items v)))
    → IsAsked g text values told kinds old new r
asked_as g items text values told kinds old new (Ok v) r same survives ok err reads fault damaged =
    record { same_reference = same; survives = survives; answer = Ok (items v); ok = ok; err = err; reads = reads; fault = fault; damaged = damaged }
asked_as g items text values told kinds old new (Err e) r same survives ok err reads fault damaged =
    record { same_reference = same; survives = survives; answer = Err e; ok = ok; err = err; reads = reads; fault = fault; damaged = damaged }

-- what is found is told of its answer, and `Store` of rows of another kind
pub queried : {S A : Type 0} (g : Ghosts S) (text : List ℕ) (values : Row) (told : List Row → A → Type 0) (kinds : List Row → Type 0) (finds : State → State → Result A StoreFault → Type 0) (stands : State → Type 0) (old new : MutBor (Held S)) (r : Result A StoreFault) → IsRowAsked text
    → (AnswersQuery text values told (state g old.now) (state g new.now) r → finds (state g old.now) (state g new.now) r) → (IsAsked g text values told kinds old new r → BlamesDisk stands (state g old.now) (state g new.now) r)
    → IsAsked g text values told kinds old new r → IsQueried g text values told finds stands old new r
queried g text values told kinds finds stands old new r asked found blame c mode =
    let before = state g old.now in
    let after = state g new.now in
    let read = is_read (λ rows. rows) text values before after c.answer r _ asked c.reads mode c.survives c.ok c.err in
    let asks = query_told (λ rows. rows) told text values before after c.answer r c.reads c.ok in
    record { found = found asks; reads = read.reads; asks = asks; blame = blame c; step = record { same_reference = c.same_reference; steps = read.steps; inside = read.inside; is_open = read.opened } }

-- the text asks for the rows of this table that pass the tests, and shows these columns of them; of rows listed under names they are this part
pub record IsQueryOf (text : List ℕ) (values : Row) (table : Table) (at : ℕ) (part : (List ℕ → List Row) → List Row) (columns : Row → Row) (tests : List Term) (width : ℕ) (names : List (List ℕ)) (passes : Row → Bool) : Type 0 where
  pub asks : Asks up_schema text (over table.tree tests (all_columns width) []) names
  pub takes : Takes text values (over table.tree tests (all_columns width) [])
  pub base : (db : Trees) → overlay db [] table.tree ≡ db table.tree
  pub meets : (r : Row) → list_all (holds (values ∷ r ∷ [])) tests ≡ passes (drop 1 r)
  pub shows : (r : Row) → eval_all (all_columns width) (values ∷ r ∷ []) ≡ columns (drop 1 r)
  pub whole : (r : Row) → columns (columns r) ≡ columns r
  pub its : (rows_of : List ℕ → List Row) (rows : List Row) → Lists at rows_of rows → part rows_of ≡ filter passes (bare rows)

-- ---- one value

few_lines : {T : Type 0} (line : T → Row) (o : Option T) → length (map line (option_to_list o)) ≤ 1
few_lines line None = omega arith
few_lines line (Some x) = omega arith

-- the text asks for one row at most of rows that are listed in any way, and shows this part of them
pub record IsQueryIn {L : Type 0} (lists : L → List Row → Type 0) (text : List ℕ) (values : Row) (table : Table) (part : L → List Row) (tests shown : List Term) (names : List (List ℕ)) : Type 1 where
  pub asks : Asks up_schema text (over table.tree tests shown []) names
  pub takes : Takes text values (over table.tree tests shown [])
  pub answers : (old new : State) (listed : L) (rows : List Row) → old.now.schema ≡ up_schema → lists listed (old.now.trees table.tree) → Shown text values old new rows → IsPermutation (part listed) rows

pub queried_value : {S T L : Type 0} (g : Ghosts S) (lists : L → List Row → Type 0) (text : List ℕ) (values : Row) (table : Table) (part : L → List Row) (tests shown : List Term) (names : List (List ℕ))
    (says : Row → T → Type 0) (fits : T → Type 0) (line : T → Row) (old new : MutBor (Held S)) (r : Result (Option T) StoreFault) → IsQueryIn lists text values table part tests shown names
    → IsAsked g text values (IsTold says fits line) (AreLines fits line) old new r
    → IsQueried g text values (IsTold says fits line)
    (λ old new r. HasCleanDisk new → IfOk r (λ found. (listed : L) → HasTables old → lists listed (old.now.trees table.tree) → IsTold says fits line (part listed) found))
    (λ s. (listed : L) × lists listed (s.now.trees table.tree) × AreLines fits line (part listed)) old new r
queried_value {S} {T} {L} g lists text values table part tests shown names says fits line old new r is c =
    let before = state g old.now in
    let after = state g new.now in
    queried g text values (IsTold says fits line) (AreLines fits line) _ _ old new r is.asks.3
    (λ asks clean. ok_then _ _ r
    (λ found a listed has here.
    let order = is.answers before after listed a.0 (has (shown_open text values before after a.0 a.1)).schema_is here a.1 in
    subst (λ rows. IsTold says fits line rows found) (sym (few_permutation (part listed) a.0 order (says_few says a.0 found a.2.said))) a.2) (asks clean))
    (λ c. blames (λ rows. rows) text values table.tree tests shown [] names is.asks is.takes c.answer r before after (λ (s : State). (listed : L) × lists listed (s.now.trees table.tree) × AreLines fits line (part listed)) (AreLines fits line)
    (λ ready holds rows h.
    let order = is.answers before after holds.0 rows ready.here.schema_is holds.1 h in
    let few : length rows ≤ 1 = omega (arith, length_permutation _ rows order, ap length holds.2.2, few_lines line holds.2.0) in
    subst (AreLines fits line) (few_permutation (part holds.0) rows order few) holds.2)
    c.fault c.damaged c.ok c.err) c

-- the text asks for all of them, in the order of the table
pub record IsListingIn {L : Type 0} (lists : L → List Row → Type 0) (text : List ℕ) (values : Row) (table : Table) (part : L → List Row) (tests shown : List Term) (names : List (List ℕ)) : Type 1 where
  pub asks : Asks up_schema text (over table.tree tests shown by_rowid) names
  pub takes : Takes text values (over table.tree tests shown by_rowid)
  pub answers : (old new : State) (listed : L) (rows : List Row) → old.now.schema ≡ up_schema → lists listed (old.now.trees table.tree) → Shown text values old new rows → rows ≡ part listed

pub queried_values : {S T A L : Type 0} (g : Ghosts S) (lists : L → List Row → Type 0) (text : List ℕ) (values : Row) (table : Table) (part : L → List Row) (tests shown : List Term) (names : List (List ℕ))
    (tells : Row → T → Type 0) (lines : Row → Type 0) (list : A → List T) (old new : MutBor (Held S)) (r : Result A StoreFault) → IsListingIn lists text values table part tests shown names
    → IsAsked g text values (λ rows found. EachSays tells rows (list found)) (AllByRecursion lines) old new r
    → IsQueried g text values (λ rows found. EachSays tells rows (list found))
    (λ old new r. HasCleanDisk new → IfOk r (λ found. (listed : L) → HasTables old → lists listed (old.now.trees table.tree) → EachSays tells (part listed) (list found)))
    (λ s. (listed : L) × lists listed (s.now.trees table.tree) × AllByRecursion lines (part listed)) old new r
queried_values {S} {T} {A} {L} g lists text values table part tests shown names tells lines list old new r is c =
    let before = state g old.now in
    let after = state g new.now in
    queried g text values (λ rows found. EachSays tells rows (list found)) (AllByRecursion lines) _ _ old new r is.asks.3
    (λ asks clean. ok_then _ _ r
    (λ found a listed has here. subst (λ rows. EachSays tells rows (list found)) (is.answers before after listed a.0 (has (shown_open text values before after a.0 a.1)).schema_is here a.1) a.2) (asks clean))
    (λ c. blames (λ rows. rows) text values table.tree tests shown by_rowid names is.asks is.takes c.answer r before after (λ (s : State). (listed : L) × lists listed (s.now.trees table.tree) × AllByRecursion lines (part listed)) (AllByRecursion lines)
    (λ ready holds rows h. subst (AllByRecursion lines) (sym (is.answers before after holds.0 rows ready.here.schema_is holds.1 h)) holds.2) c.fault c.damaged c.ok c.err) c

pub found_value : {S T : Type 0} (g : Ghosts S) (text : List ℕ) (values : Row) (table : Table) (at : ℕ) (part : (List ℕ → List Row) → List Row) (columns : Row → Row) (tests : List Term) (width : ℕ) (names : List (List ℕ)) (passes : Row → Bool)
    (says : Row → T → Type 0) (fits : T → Type 0) (line : T → Row) (old new : MutBor (Held S)) (r : Result (Option T) StoreFault) → IsQueryOf text values table at part columns tests width names passes
    → IsAsked g text values (IsTold says fits line) (AreLines fits line) old new r
    → IsFound g text values table at (λ rows_of. map columns (part rows_of)) (IsTold says fits line) (AreLines fits line) old new r
found_value g text values table at part columns tests width names passes says fits line old new r is =
    queried_value g (Lists at) text values table (λ rows_of. map columns (part rows_of)) tests (all_columns width) names says fits line old new r
    (record {
      asks = is.asks;
      takes = is.takes;
      answers = λ before after rows_of rows has here h. subst (λ xs. IsPermutation (map columns xs) rows) (sym (is.its rows_of (before.now.trees table.tree) here))
          (answers_some up_schema text table.tree tests (all_columns width) names values passes columns is.meets is.shows is.base is.asks before after rows has h);
    })

-- the test of a text in a column, and the rows of that text
pub has_its_text : (at : ℕ) (name : List ℕ) (r : Row) → has_text (suc at) name r ≡ has_text at name (drop 1 r)
has_its_text at name r = ap (λ v. is_eq (value_cmp v (Text name))) (column_after r at)

pub named_meets : (at : ℕ) (name : List ℕ) (r : Row) → list_all (holds ((Text name ∷ []) ∷ r ∷ [])) (equals (suc at) 0 ∷ []) ≡ has_text at name (drop 1 r)
named_meets at name r = and-true _ ∙ equals_text (column r (suc at)) name ∙ has_its_text at name r

pub named_its : (at : ℕ) (name : List ℕ) (rows_of : List ℕ → List Row) (rows : List Row) → Lists (suc at) rows_of rows → rows_of name ≡ filter (has_text at name) (bare rows)
named_its at name rows_of rows lists = sym (lists.parts name) ∙ bare_filter (has_text (suc at) name) (has_text at name) (has_its_text at name) rows

-- ---- a query on the whole table, by rowid

-- the text asks for the rows of this table that pass the tests, in its order, and shows these columns of them; of some rows they are this part
pub record IsListingOf (text : List ℕ) (table : Table) (part : List Row → List Row) (columns : Row → Row) (tests : List Term) (width : ℕ) (names : List (List ℕ)) (passes : Row → Bool) : Type 0 where
  pub asks : Asks up_schema text (over table.tree tests (all_columns width) by_rowid) names
  pub takes : Takes text [] (over table.tree tests (all_columns width) by_rowid)
  pub base : (db : Trees) → overlay db [] table.tree ≡ db table.tree
  pub meets : (r : Row) → list_all (holds ([] ∷ r ∷ [])) tests ≡ passes (drop 1 r)
  pub shows : (r : Row) → eval_all (all_columns width) ([] ∷ r ∷ []) ≡ columns (drop 1 r)
  pub whole : (r : Row) → columns (columns r) ≡ columns r
  pub keeps : (r : Row) (n : List ℕ) → has_text 0 n (columns r) ≡ has_text 0 n r
  pub texts : (db : Trees) → IsSound up_schema db → AllByRecursion (HasTextAt 1) (db table.tree)
  pub its : (rows : List Row) → part rows ≡ filter passes rows

all_unmap : {A B : Type 0} (P : B → Type 0) (f : A → B) (xs : List A) → AllByRecursion P (map f xs) → AllByRecursion (λ x. P (f x)) xs
all_unmap P f [] all = tt
all_unmap P f (x ∷ xs) all = (all.0, all_unmap P f xs all.1)

-- their values
pub listed_values : {S A T : Type 0} (g : Ghosts S) (text : List ℕ) (table : Table) (part : List Row → List Row) (columns : Row → Row) (tests : List Term) (width : ℕ) (names : List (List ℕ)) (passes : Row → Bool)
    (tells : Row → T → Type 0) (lines : Row → Type 0) (list : A → List T) (old new : MutBor (Held S)) (r : Result A StoreFault) → IsListingOf text table part columns tests width names passes
    → IsAsked g text [] (λ rows found. EachSays tells rows (list found)) (AllByRecursion lines) old new r
    → IsQueried g text [] (λ rows found. EachSays tells rows (list found)) (FindsAll table (λ all found. EachSays tells (map columns (part all)) (list found)))
    (HoldsBy table 1 (λ rows_of. (name : List ℕ) → AllByRecursion lines (map columns (part (rows_of name))))) old new r
listed_values g text table part columns tests width names passes tells lines list old new r is c =
    let before = state g old.now in
    let after = state g new.now in
    let all = before.now.trees table.tree in
    let answers = answers_all up_schema text table.tree tests (all_columns width) names [] passes columns is.meets is.shows is.base is.asks before after in
    queried g text [] (λ rows found. EachSays tells rows (list found)) (AllByRecursion lines) _ _ old new r is.asks.3
    (λ asks clean. ok_then _ _ r
    (λ found a rows has lists.
    subst (λ shown. EachSays tells shown (list found))
    (answers a.0 (has (shown_open text [] before after a.0 a.1)).schema_is lists.shaped.0 a.1 ∙ sym (ap (map columns) (is.its rows ∙ ap (filter passes) (sym lists.every)))) a.2) (asks clean))
    (λ c. blames (λ rows. rows) text [] table.tree tests (all_columns width) by_rowid names is.asks is.takes c.answer r before after
    (HoldsBy table 1 (λ rows_of. (name : List ℕ) → AllByRecursion lines (map columns (part (rows_of name))))) (AllByRecursion lines)
    (λ ready holds rows h.
    let sound : IsSound up_schema before.now.trees = subst (λ s. IsSound s before.now.trees) ready.here.schema_is ready.here.sound in
    let each = each_named (λ x. lines (columns x)) passes holds.0 all holds.1 (is.texts before.now.trees sound)
    (λ name. subst (AllByRecursion (λ x. lines (columns x))) (is.its (holds.0 name)) (all_unmap lines columns (part (holds.0 name)) (holds.2 name))) in
    subst (AllByRecursion lines) (sym (answers rows ready.here.schema_is holds.1.shaped.0 h)) (all_map lines columns (filter passes (bare all)) each))
    c.fault c.damaged c.ok c.err) c
