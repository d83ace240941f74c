-- The statements on keys of roles.
use Rattle.std.proofs.Common.{◌≡◌, ◌+◌, suc, take, slice_get, arith, ℕ, pos, List, [], ◌∷◌, ◌++◌, map, length, true, Some, Result, Ok, Err, OnOk, IsTrue, refl, sym, ap, subst, ◌∙◌, codes, append-nil, drop}
use Rattle.std.specs.List.{AllByRecursion}
use Rattle.std.specs.List.Sorted.{IsPermutation}
use Rattle.std.specs.Ordering.{is_eq}
use Rattle.std.proofs.Math.Bool.{and-true}
use Rattle.sqlite.specs.declared.types.Value.TheVariants.{Null, Int}
use Rattle.sqlite.specs.declared.error.Error.{Error}
use Rattle.sqlite.specs.Order.{Row, column, value_cmp}
use Rattle.sqlite.specs.Cast.{cast_row}
use Rattle.sqlite.specs.Source.TheVariants.{Values}
use Rattle.sqlite.specs.Command.TheVariants.{Insert, Delete}
use Rattle.sqlite.specs.Effect.{Answers}
use Rattle.sqlite.specs.Listing.{understood}
use Rattle.sqlite.specs.Term.{col}
use Rattle.sqlite.specs.Tree.{Trees}
use Rattle.sqlite.specs.State.{State, HasCleanDisk, Survives, ExecutesInside}
use Rattle.sqlite.proofs.Callers.{IsPlain, command_of}
use Rattle.sqlite_keyed.proofs.ListLemmas.{filter_all}
use Rattle.sqlite_schema.specs.declared.program.Program.{Program}
use Rattle.sqlite_tied.specs.Compute.{everything}
use Rattle.up_tables.specs.Rows.{columns_at, has_number}
use Rattle.up_tables.specs.Stands.{ListsAll, IfClean, IsInside, Alters, HasTables, IsOpen}
use Rattle.up_tables.specs.Statements.{AppendsRows, SetsRows}
use Rattle.up_tables.specs.declared.values.StoreFault.{StoreFault}
use Rattle.up_tables.proofs.AnswerLemmas.{over, given, all_columns, answer_is, equals_int, shows_passing}
use Rattle.up_tables.proofs.Casts.{cast_int, cast_null}
use Rattle.up_tables.proofs.EcuRows.{column_after}
use Rattle.up_tables.proofs.EcuUpdate.{equals}
use Rattle.up_tables.proofs.DeleteLemmas.{empties, id_row}
use Rattle.up_tables.proofs.InsertLemmas.{inserts_in}
use Rattle.std.proofs.lemmas.List.{map-append, append_assoc}
use Rattle.up_tables.specs.Tables.{up_schema, role_key_table}
use Rattle.up_tables.specs.Texts.{delete_role_keys_text, insert_role_key_text, all_role_keys_text}
use Rattle.up_tables.specs.Forms.{keys_shown, role_key_row, role_key_places}
use Rattle.up_tables.specs.declared.role_key.RoleKeyRow.{RoleKeyRow}
use Rattle.up_tables.proofs.ByNameLemmas.{added_in, filter_true}
use Rattle.up_tables.proofs.EcuInserts.{take_next, take_whole}
use Rattle.up_tables.proofs.OthersLemmas.{alters_to, alters_none, has_after, alters_then}
use Rattle.up_tables.proofs.ReadLemmas.{Asks, answers_all, by_rowid}
use Rattle.up_tables.proofs.RefusalLemmas.{Writes}
use Rattle.up_tables.proofs.RunLemmas.{IsRun, idle, run_alters, run_in, then_ok}
use Rattle.up_tables.proofs.StoredLemmas.{IsListingIn}

-- ---- taken away

abbrev delete_program : Program
delete_program = record { lets = []; body = over role_key_table.tree [] (col 1 0 ∷ []) [] }

delete_is : (command_of (understood up_schema delete_role_keys_text) ≡ Delete 1 delete_program) × IsPlain (understood up_schema delete_role_keys_text)
unfolding understood everything
delete_is = (refl, (refl, refl))

pub role_keys_delete : Writes delete_role_keys_text [] (Delete 1 delete_program)
unfolding understood everything
role_keys_delete = record { row = refl; is = delete_is.0; plain = delete_is.1; writes = refl; whole = refl; count = refl }

each_passes : (rows : List Row) → AllByRecursion (λ r. true ≡ true) rows
each_passes [] = tt
each_passes (r ∷ rows) = (refl, each_passes rows)

-- the query of the deletion shows the rowid of each row
ids_shown : (db : Trees) (rows : List Row) → Answers (record { schema = up_schema; trees = db }) delete_program [] rows → IsPermutation (map id_row (db role_key_table.tree)) rows
ids_shown db rows h =
    let all = db role_key_table.tree in
    let same = shows_passing [] (col 1 0 ∷ []) [] all rows (answer_is (Rattle.sqlite.specs.Program.overlay db []) role_key_table.tree [] (col 1 0 ∷ []) [] [] rows (h.answer Null)) in
    subst (λ xs. IsPermutation (map id_row xs) rows) (filter_all (λ r. true) all (each_passes all)) same

pub role_keys_emptied : (r : Result ℕ Error) (old new : State) → Survives old new (λ _. ⊥) → IfClean IsInside old
    → (HasCleanDisk new → IsTrue old.in_transaction → ExecutesInside 0 delete_role_keys_text [] old new r)
    → HasCleanDisk new → OnOk r ((all : List Row) → HasTables old → ListsAll all (old.now.trees role_key_table.tree) → Alters role_key_table (ListsAll []) old new)
role_keys_emptied r old new survives inside ran clean = then_ok r empty (run_in delete_role_keys_text [] old new r survives inside ran clean)
  where
    empty : IsRun delete_role_keys_text [] old new → (all : List Row) → HasTables old → ListsAll all (old.now.trees role_key_table.tree) → Alters role_key_table (ListsAll []) old new
    empty run all has lists =
        let done = empties up_schema delete_role_keys_text 1 role_key_table delete_program [] delete_is.0 delete_is.1 refl (idle role_key_table.tree) old new run.count (has run.was_open).schema_is lists.shaped.1 (ids_shown old.now.trees) run.went in
        let now : ListsAll [] (new.now.trees role_key_table.tree) = subst (ListsAll []) (sym done.rows) (record { shaped = (tt, tt); every = refl }) in
        run_alters delete_role_keys_text [] role_key_table _ old new run done.schema_is done.sound now done.others

-- behind the deletion, what is put in is all
pub role_keys_set : {B : Type 0} (more : List Row) (old mid new : State) (r : Result B StoreFault) → (HasCleanDisk new → HasCleanDisk mid)
    → (HasCleanDisk mid → (all : List Row) → HasTables old → ListsAll all (old.now.trees role_key_table.tree) → Alters role_key_table (ListsAll []) old mid) → AppendsRows role_key_table more mid new r → SetsRows role_key_table more old new r
role_keys_set more old mid new (Err e) before first second clean = tt
role_keys_set more old mid new (Ok y) before first second clean = λ all has lists.
    let none = first (before clean) all has lists in
    let some = second clean [] (has_after role_key_table _ old mid none) none.rows in
    alters_then role_key_table _ _ old mid new none some

-- ---- put in

insert_is : (command_of (understood up_schema insert_role_key_text) ≡ Insert 1 (Values (given 6) 7)) × IsPlain (understood up_schema insert_role_key_text)
unfolding understood everything
insert_is = (refl, (refl, refl))

pub role_key_writes : (k : RoleKeyRow) → Writes insert_role_key_text (role_key_row k) (Insert 1 (Values (given 6) 7))
unfolding understood everything
role_key_writes k = record { row = refl; is = insert_is.0; plain = insert_is.1; writes = refl; whole = refl; count = refl }

casts : (k : RoleKeyRow) → cast_row role_key_table (Null ∷ role_key_row k) ≡ Null ∷ role_key_row k
casts k = rw (cast_null, cast_int (pos k.root), cast_int (pos k.place), cast_int (pos k.threshold)) refl

pub role_key_inserts : (r : Result ℕ Error) (old new : State) (k : RoleKeyRow) → Survives old new (λ _. ⊥) → IfClean IsInside old
    → (HasCleanDisk new → IsTrue old.in_transaction → ExecutesInside 0 insert_role_key_text (role_key_row k) old new r)
    → HasCleanDisk new → OnOk r ((all : List Row) → HasTables old → ListsAll all (old.now.trees role_key_table.tree) → Alters role_key_table (ListsAll (all ++ role_key_row k ∷ [])) old new)
role_key_inserts r old new k survives inside ran clean =
    added_in role_key_table (role_key_row k) old new r
    (inserts_in insert_role_key_text 1 role_key_table (given 6) 7 (role_key_row k) (role_key_row k) insert_is.0 insert_is.1 refl refl (append-nil _) refl (casts k) r old new survives inside ran clean)

-- what a loop over the keys has put in when it comes to one of them
abbrev pub PutSoFar : List RoleKeyRow → ℕ → State → State → Type 0
PutSoFar ks i old new = (all : List Row) → HasTables old → ListsAll all (old.now.trees role_key_table.tree) → Alters role_key_table (ListsAll (all ++ map role_key_row (take i ks))) old new

pub none_put : (ks : List RoleKeyRow) (s : State) → IsInside s → IsOpen s → PutSoFar ks 0 s s
none_put ks s inside is_open all has lists = alters_none role_key_table _ s inside is_open has (record { shaped = lists.shaped; every = lists.every ∙ sym (append-nil all) })

pub next_put : (ks : List RoleKeyRow) (i : ℕ) (k : RoleKeyRow) (old mid new : State) → slice_get ks i ≡ Some k → PutSoFar ks i old mid
    → ((all : List Row) → HasTables mid → ListsAll all (mid.now.trees role_key_table.tree) → Alters role_key_table (ListsAll (all ++ role_key_row k ∷ [])) mid new) → PutSoFar ks (i + 1) old new
next_put ks i k old mid new there so_far puts all has lists =
    let before = so_far all has lists in
    let after = puts _ (has_after role_key_table _ old mid before) before.rows in
    let next : suc i ≡ i + 1 = omega arith in
    let more : map role_key_row (take i ks) ++ role_key_row k ∷ [] ≡ map role_key_row (take (i + 1) ks) = sym (map-append role_key_row (take i ks) (k ∷ [])) ∙ ap (map role_key_row) (take_next i ks k there ∙ ap (λ n. take n ks) next) in
    let same : (all ++ map role_key_row (take i ks)) ++ role_key_row k ∷ [] ≡ all ++ map role_key_row (take (i + 1) ks) = append_assoc all (map role_key_row (take i ks)) (role_key_row k ∷ []) ∙ ap (λ xs. all ++ xs) more in
    alters_to role_key_table _ _ old new (subst (λ xs. ListsAll xs (new.now.trees role_key_table.tree)) same) (alters_then role_key_table _ _ old mid new before after)

pub all_put : (ks : List RoleKeyRow) (i : ℕ) (old new : State) → i ≡ length ks → PutSoFar ks i old new
    → (all : List Row) → HasTables old → ListsAll all (old.now.trees role_key_table.tree) → Alters role_key_table (ListsAll (all ++ map role_key_row ks)) old new
all_put ks i old new end so_far all has lists =
    subst (λ xs. Alters role_key_table (ListsAll (all ++ map role_key_row xs)) old new) (ap (λ k. take k ks) end ∙ take_whole ks) (so_far all has lists)

-- ---- read

abbrev part : Row → Row
part = columns_at role_key_places

abbrev names : List (List ℕ)
names = codes "root" ∷ codes "repository" ∷ codes "role" ∷ codes "place" ∷ codes "secret" ∷ codes "threshold" ∷ []

shows : (params r : Row) → Rattle.sqlite.specs.Term.eval_all (all_columns 6) (params ∷ r ∷ []) ≡ part (drop 1 r)
shows params r = rw (column_after r 0, column_after r 1, column_after r 2, column_after r 3, column_after r 4, column_after r 5) refl

keys_are : Asks up_schema all_role_keys_text (over role_key_table.tree [] (all_columns 6) by_rowid) names
unfolding understood everything
keys_are = (refl, refl, (refl, refl), refl)

pub keys_listed : IsListingIn ListsAll all_role_keys_text [] role_key_table keys_shown [] (all_columns 6) names
unfolding understood everything
keys_listed = record {
  asks = keys_are;
  takes = (refl, refl, λ trees h. absurd (let e = h in cc));
  answers = λ old new all rows has lists h.
      answers_all up_schema all_role_keys_text role_key_table.tree [] (all_columns 6) names [] (λ _. true) part (λ x. refl) (shows []) (λ db. refl) keys_are old new rows has lists.shaped.0 h
      ∙ ap (map part) (filter_true _) ∙ ap keys_shown lists.every;
}
