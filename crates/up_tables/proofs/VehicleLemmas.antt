-- The statements on vehicles.
use Rattle.std.proofs.Common.{◌≡◌, ◌≢◌, inl, inr, ℕ, ℤ, pos, List, [], ◌∷◌, ◌++◌, map, filter, true, Some, Ok, Err, Result, OnOk, IfOk, Option, refl, sym, ap, subst, ◌∙◌, arith, codes, append-nil, drop, ◌⊎◌, IfErr}
use Rattle.std.specs.List.{AllByRecursion, list_all}
use Rattle.std.specs.List.Sorted.{IsPermutation}
use Rattle.std.specs.Result.{IsOkAnd}
use Rattle.std.proofs.Math.Bool.{and-true, or-false}
use Rattle.sqlite.specs.declared.types.Value.{Value}
use Rattle.sqlite.specs.declared.types.Value.TheVariants.{Null, Int, Text}
use Rattle.sqlite.specs.declared.error.Error.{Error}
use Rattle.sqlite.specs.Order.{Row, column}
use Rattle.sqlite.specs.Ops.{binary, is_true}
use Rattle.sqlite.specs.Term.{Term, col, eval_all, holds}
use Rattle.sqlite.specs.Cast.{cast_row}
use Rattle.sqlite.specs.Does.{Does, OnRows}
use Rattle.sqlite.specs.Edit.{edit_of, with_rowid, next_rowid}
use Rattle.sqlite.specs.Effect.{Answers, Database}
use Rattle.sqlite.specs.Rowids.TheVariants.{Chosen, Given}
use Rattle.sqlite.specs.Rows.{Written, Task, TriesEach, Tries, Updates, nothing, shown as shown_row}
use Rattle.sqlite.specs.Source.TheVariants.{Values}
use Rattle.sqlite.specs.Command.TheVariants.{InsertOr}
use Rattle.sqlite.specs.Listing.{understood}
use Rattle.sqlite.specs.State.{State, HasCleanDisk, Survives, Shown, mode_of, FailsToQuery, IsTooLate}
use Rattle.sqlite.specs.Tree.{Trees, put_row, without_rowid, has_rowid, rowid, IsTable}
use Rattle.sqlite.proofs.Callers.{command_of, statement_of, one_permutation}
use Rattle.sqlite_tied.specs.Compute.{everything}
use Rattle.sqlite_keyed.proofs.ListLemmas.{filter_same}
use Rattle.sqlite_rules.specs.Calls.{ids_of}
use Rattle.sqlite_rules.specs.Keys.{conflicts}
use Rattle.sqlite_rules.specs.Lists.{Has}
use Rattle.sqlite_rules.proofs.ListLemmas.{all_has, has_filtered, has_kept}
use Rattle.sqlite_rules.proofs.ProbeLemmas.{mapped_has, has_mapped}
use Rattle.sqlite_sql.specs.declared.ops.BinaryOp.TheVariants.{Compare}
use Rattle.sqlite_sql.specs.declared.ops.CompareOp.TheVariants.{Eq}
use Rattle.sqlite_schema.specs.declared.schema.Keys.TheVariants.{Enforced}
use Rattle.sqlite_schema.specs.declared.command.Command.{Command}
use Rattle.sqlite_schema.specs.declared.command.Upsert.{Upsert}
use Rattle.sqlite_schema.specs.declared.command.Returning.{Returning}
use Rattle.sqlite_schema.specs.declared.command.Conflict.TheVariants.{Abort}
use Rattle.sqlite_schema.specs.declared.program.Program.{Program}
use Rattle.sqlite_trees.specs.View.{IsShaped, is_int}
use Rattle.sqlite_trees.specs.declared.store.Shape.TheVariants.{Table}
use Rattle.sqlite_value.specs.Keys.{first_key}
use Rattle.sqlite_value.specs.declared.keys.Collation.TheVariants.{Binary}
use Rattle.up_tables.proofs.RefusalLemmas.{WritesShowing, refusal_showing, shown_writing}
use Rattle.up_tables.specs.Texts.{insert_vehicle_text, upsert_vehicle_text, find_vehicle_text}
use Rattle.up_tables.specs.Tables.{up_schema, vehicle_table}
use Rattle.up_tables.specs.Rows.{columns_at, has_text, rows_with, with_only}
use Rattle.up_tables.specs.Lines.{vehicle_line}
use Rattle.up_tables.specs.Forms.{vehicle_row, vehicle_places}
use Rattle.up_tables.specs.Stands.{Lists, IfClean, IsInside, Alters, HasTables}
use Rattle.up_tables.proofs.Parts.{Rewrites}
use Rattle.up_tables.specs.declared.vehicle.VehicleRow.{VehicleRow}
use Rattle.up_tables.specs.declared.values.StoreFault.{StoreFault}
use Rattle.up_tables.proofs.AnswerLemmas.{over, given, equals_text, equals_int, answer_is, shows_passing}
use Rattle.up_tables.proofs.Casts.{cast_int, cast_null}
use Rattle.up_tables.proofs.CreateLemmas.{went}
use Rattle.up_tables.proofs.EcuRows.{text_is, column_after}
use Rattle.up_tables.proofs.EcuSteps.{with_id}
use Rattle.up_tables.proofs.EcuUpdate.{equals}
use Rattle.up_tables.proofs.OnlyLemmas.{rewritten_shaped, rewritten_parts}
use Rattle.up_tables.proofs.OthersLemmas.{others_stay}
use Rattle.up_tables.proofs.PlaceLemmas.{only}
use Rattle.up_tables.proofs.RunLemmas.{idle}
use Rattle.up_tables.proofs.ReturnLemmas.{IsShowing, writes_as}
use Rattle.up_tables.proofs.StepLemmas.{shown_open, shown_after}
use Rattle.up_tables.proofs.UpsertLemmas.{upserted, tried_each, tried, resolved, updated, rewritten_by, showing}
use Rattle.up_tables.specs.Faults.{store_fault}
use Rattle.up_tables.specs.declared.values.StoreFault.TheVariants.{Store}
use Rattle.up_tables.specs.Statements.{HasVehicle}
use Rattle.up_tables.specs.Tried.{BlamesOne, Ran}
use Rattle.up_tables.proofs.BlameLemmas.{fault_alike}
use Rattle.up_tables.proofs.StoredLemmas.{IsInsertOf, IsQueryOf, named_its, named_meets}
use Rattle.up_tables.proofs.TriedLemmas.{ran_showing}

-- ---- put in

casts : (name primary : List ℕ) (version last : ℕ) → cast_row vehicle_table (Null ∷ vehicle_line name primary version last) ≡ Null ∷ vehicle_line name primary version last
casts name primary version last = rw (cast_null, cast_int (pos version), cast_int (pos last)) refl

casts_given : (id : ℤ) (name primary : List ℕ) (version last : ℕ) → cast_row vehicle_table (Int id ∷ vehicle_line name primary version last) ≡ Int id ∷ vehicle_line name primary version last
casts_given id name primary version last = rw (cast_int id, cast_int (pos version), cast_int (pos last)) refl

pub vehicle_put : (v : VehicleRow) → IsInsertOf insert_vehicle_text vehicle_table 1 v.vehicle.now (vehicle_row v) 5 4
unfolding understood everything
vehicle_put v = record {
  writes = record { row = refl; is = refl; plain = (refl, refl); writes = refl; whole = refl; count = refl };
  there = refl;
  uncounted = refl;
  unstamped = append-nil _;
  values = refl;
  casts = casts _ _ v.version v.last_counter;
  named = λ x n. text_is v.vehicle.now n;
}

-- ---- read

abbrev part : Row → Row
part = columns_at vehicle_places

abbrev names : List (List ℕ)
names = codes "vehicle" ∷ codes "primary_ecu" ∷ codes "version" ∷ codes "last_counter" ∷ []

pub vehicle_found : (name : List ℕ) → IsQueryOf find_vehicle_text (Text name ∷ []) vehicle_table 1 (λ rows_of. rows_of name) part (equals 1 0 ∷ []) 4 names (has_text 0 name)
unfolding understood everything
vehicle_found name = record {
  asks = (refl, refl, (refl, refl), refl);
  takes = (refl, refl, λ trees h. absurd (let e = h in cc));
  base = λ db. refl;
  meets = named_meets 0 name;
  shows = λ x. rw (column_after x 0, column_after x 1, column_after x 2, column_after x 3) refl;
  whole = λ r. refl;
  its = named_its 0 name;
}

-- ---- its numbers are set

abbrev update_shown : List Term
update_shown = col 1 0 ∷ col 1 0 ∷ col 1 1 ∷ col 1 2 ∷ col 0 8 ∷ col 0 9 ∷ []

abbrev update : Program
update = record { lets = []; body = over 9 (equals 0 4 ∷ []) update_shown [] }

abbrev clause : Upsert
clause = record { target = Some (1 ∷ []); update = Some update }

abbrev what : Returning
what = record { names = names; row = Values (col 0 6 ∷ col 0 7 ∷ col 0 8 ∷ col 0 9 ∷ []) 4 }

upsert_is : (command_of (understood up_schema upsert_vehicle_text) ≡ InsertOr 5 Abort (Values (given 4) 5) (clause ∷ [])) × IsShowing what (understood up_schema upsert_vehicle_text)
unfolding understood everything
upsert_is = (refl, (refl, refl))

-- the rows that conflict are those with the name
conflicts_are : (new r : Row) (name : List ℕ) → column new 1 ≡ Text name → conflicts (Some (1 ∷ [])) up_schema.indexes vehicle_table new r ≡ has_text 1 name r
unfolding first_key
conflicts_are new r name is =
    or-false _ ∙ and-true _ ∙ ap (λ v. is_true (binary (Compare Eq Binary) (column r 1) v)) is ∙ equals_text (column r 1) name

-- the row of a name
some_row : (name : List ℕ) (rows : List Row) (row : Row) → rows_with 1 name rows ≡ row ∷ [] → (it : Row) × Has rows it × (has_text 1 name it ≡ true)
some_row name rows row is =
    let y = has_mapped (drop 1) (filter (has_text 1 name) rows) row (subst (λ xs. Has xs row) (sym is) (inl refl)) in
    let z = has_filtered (has_text 1 name) rows y.0 y.1 in
    (y.0, z.0, z.1)

the_row : (name : List ℕ) (rows : List Row) (row it : Row) → IsShaped Table rows → rows_with 1 name rows ≡ row ∷ [] → Has rows it → has_text 1 name it ≡ true → (id : ℤ) × (it ≡ Int id ∷ row)
the_row name rows row it shaped is there hit =
    let in_part = subst (λ xs. Has xs (drop 1 it)) is (mapped_has (drop 1) (filter (has_text 1 name) rows) it (has_kept (has_text 1 name) rows it there hit)) in
    with_id it row (all_has (λ r. is_int (rowid r) ≡ true) rows it shaped.1 there) (elim in_part [ inl same ↦ same | inr none ↦ absurd none ])

-- the query of the update shows the row with its new numbers, and the Primary that it had
update_rows : (db : Trees) (id : ℤ) (name primary was_primary : List ℕ) (a b : Value) (old_version old_last new_version new_last : Value) (given : Row) (rows : List Row) → IsTable (db 9)
    → given ≡ Text name ∷ Text primary ∷ new_version ∷ new_last ∷ Int id ∷ a ∷ Text name ∷ Text primary ∷ new_version ∷ new_last ∷ []
    → Has (db 9) (Int id ∷ Text name ∷ Text was_primary ∷ old_version ∷ old_last ∷ []) → Answers (record { schema = up_schema; trees = db }) update given rows
    → rows ≡ (Int id ∷ Int id ∷ Text name ∷ Text was_primary ∷ new_version ∷ new_last ∷ []) ∷ []
update_rows db id name primary was_primary a b old_version old_last new_version new_last given rows up is there h =
    let it = Int id ∷ Text name ∷ Text was_primary ∷ old_version ∷ old_last ∷ [] in
    let same = shows_passing (equals 0 4 ∷ []) update_shown given (db 9) rows (answer_is (Rattle.sqlite.specs.Program.overlay db []) 9 (equals 0 4 ∷ []) update_shown [] given rows (h.answer Null)) in
    let tests : (r : Row) → list_all (holds (given ∷ r ∷ [])) (equals 0 4 ∷ []) ≡ has_rowid id r = λ r. rw is (and-true _ ∙ equals_int (column r 0) id) in
    let one : filter (λ r. list_all (holds (given ∷ r ∷ [])) (equals 0 4 ∷ [])) (db 9) ≡ it ∷ [] = filter_same _ _ tests (db 9) ∙ only id it (db 9) refl up there in
    one_permutation _ rows (subst (λ xs. IsPermutation xs rows) (ap (map (λ r. eval_all update_shown (given ∷ r ∷ []))) one ∙ (rw is refl)) same)

-- the row that has the name is updated
updates : (limit : Option ℕ) (db : Trees) (n : ℤ) (name primary was_primary : List ℕ) (version last was_version was_last : ℕ) (one : Written) → IsShaped Table (db 9) → rows_with 1 name (db 9) ≡ vehicle_line name was_primary was_version was_last ∷ []
    → Tries (record { limit = limit; keys = Enforced; schema = up_schema; table = vehicle_table; params = vehicle_line name primary version last }) Abort (clause ∷ []) (Int n ∷ vehicle_line name primary version last) db (Ok one)
    → (id : ℤ) × Has (db 9) (Int id ∷ vehicle_line name was_primary was_version was_last) × (one.trees vehicle_table.tree ≡ put_row (Int id ∷ vehicle_line name was_primary version last) (without_rowid id (db 9)))
    × AllByRecursion (λ t. t.tree ≢ 9 → one.trees t.tree ≡ db t.tree) up_schema.tables × (one.rows ≡ (Int id ∷ vehicle_line name was_primary version last) ∷ [])
updates limit db n name primary was_primary version last was_version was_last one shaped is h =
    let given = vehicle_line name primary version last in
    let row = vehicle_line name was_primary version last in
    let was = vehicle_line name was_primary was_version was_last in
    let task : Task = record { limit = limit; keys = Enforced; schema = up_schema; table = vehicle_table; params = given } in
    let first = some_row name (db 9) was is in
    let res = resolved task (Some (1 ∷ [])) update (Int n ∷ given) db one first.0 first.1 (conflicts_are (Int n ∷ given) first.0 name refl ∙ first.2) (tried task clause (Int n ∷ given) db one h) in
    let it = the_row name (db 9) was res.0 shaped is res.1 (sym (conflicts_are (Int n ∷ given) res.0 name refl) ∙ res.2) in
    let id = it.0 in
    let there : Has (db 9) (Int id ∷ was) = subst (Has (db 9)) it.1 res.1 in
    let up = updated task update _ db one (subst (λ r. Updates task update (given ++ rowid r ∷ shown_row vehicle_table (Int n ∷ given)) db (Ok one)) it.1 res.3) in
    let all : up.0 ≡ (Int id ∷ Int id ∷ row) ∷ [] = update_rows db id name primary was_primary (Int n) Null (Int (pos was_version)) (Int (pos was_last)) (Int (pos version)) (Int (pos last)) _ up.0 shaped.0 refl there up.1 in
    let written = rewritten_by up_schema vehicle_table (idle 9) db one.trees id row up.0 all (casts_given id name was_primary version last) up.2 in
    let news : (edit_of db vehicle_table (ids_of ((Int id ∷ Int id ∷ row) ∷ [])) Given 1 ((Int id ∷ Int id ∷ row) ∷ [])).news ≡ (Int id ∷ row) ∷ [] = ap (λ r. r ∷ []) (casts_given id name was_primary version last) in
    (id, there, written.0, written.1, up.3 ∙ ap (λ xs. (edit_of db vehicle_table (ids_of xs) Given 1 xs).news) all ∙ news)

upserts_vehicle : (old new : State) (name primary was_primary : List ℕ) (version last was_version was_last : ℕ) (rows : List Row) → old.now.schema ≡ up_schema → IsShaped Table (old.now.trees vehicle_table.tree)
    → rows_with 1 name (old.now.trees vehicle_table.tree) ≡ vehicle_line name was_primary was_version was_last ∷ [] → Shown upsert_vehicle_text (vehicle_line name primary version last) old new rows
    → (id : ℤ) × Has (old.now.trees vehicle_table.tree) (Int id ∷ vehicle_line name was_primary was_version was_last) × Rewrites up_schema vehicle_table id (vehicle_line name was_primary version last) old.now new.now
    × (rows ≡ vehicle_line name was_primary version last ∷ [])
upserts_vehicle old new name primary was_primary version last was_version was_last rows has shaped is h =
    let db = old.now.trees in
    let row = vehicle_line name primary version last in
    let command = InsertOr 5 Abort (Values (given 4) 5) (clause ∷ []) in
    let task : Task = record { limit = old.step_limit; keys = Enforced; schema = up_schema; table = vehicle_table; params = row } in
    let made = writes_as upsert_vehicle_text row old new up_schema command what rows has upsert_is.0 upsert_is.1 h in
    let w = made.1 in
    let on : OnRows task (mode_of old) (Some what) command db (Ok (w.tally, new.now)) =
    subst (λ s. Does old.step_limit (mode_of old) row (record old.now { schema = s }) (statement_of upsert_vehicle_text (understood up_schema upsert_vehicle_text)) (Some what) command (Ok (w.tally, new.now))) has w.changed in
    let done = went on in
    let up = upserted task (clause ∷ []) (Values (given 4) 5) db done.0 refl done.1 in
    let source : up.0 ≡ (Null ∷ row) ∷ [] = up.1.1 in
    let each : TriesEach task Abort (clause ∷ []) ((Null ∷ row) ∷ []) up.2.0 (nothing db) (Ok up.2.1) = subst (λ all. TriesEach task Abort (clause ∷ []) all up.2.0 (nothing db) (Ok up.2.1)) source up.2.2 in
    let one = tried_each task (clause ∷ []) (Null ∷ row) up.2.0 db up.2.1 refl each in
    let new_is : with_rowid Chosen (db 9) (cast_row vehicle_table (Null ∷ row)) ≡ Int (next_rowid (db 9)) ∷ row = ap (with_rowid Chosen (db 9)) (casts name primary version last) in
    let upd = updates old.step_limit db (next_rowid (db 9)) name primary was_primary version last was_version was_last one.0 shaped is (subst (λ r. Tries task Abort (clause ∷ []) r db (Ok one.0)) new_is one.1) in
    let written : done.0.rows ≡ (Int upd.0 ∷ vehicle_line name was_primary version last) ∷ [] = up.2.4 ∙ ap (λ (x : Written). x.rows) one.2 ∙ upd.4 in
    let trees : done.0.trees ≡ one.0.trees = up.2.3 ∙ ap (λ (x : Written). x.trees) one.2 in
    let show = showing task (mode_of old) done.0 what w.tally new.now (Int upd.0 ∷ vehicle_line name was_primary version last) written done.2 in
    let now : new.now ≡ record { schema = up_schema; trees = one.0.trees } = show.0 ∙ ap (λ t. record { schema = up_schema; trees = t }) trees in (
      upd.0,
      upd.1,
      record {
        schema_is = ap (λ (d : Database). d.schema) now;
        sound = w.sound;
        rows = ap (λ (d : Database). d.trees vehicle_table.tree) now ∙ upd.2;
        others = subst (λ (d : Database). AllByRecursion (λ t. t.tree ≢ 9 → d.trees t.tree ≡ db t.tree) up_schema.tables) (sym now) upd.3;
      },
      made.2 ∙ show.1.2 ∙ show.1.1.1,
    )

-- where the row that it shows is the one that was to be written, that one stands
pub sets_vehicle : {X T : Type 0} (items : X → List Row) (answer : Result X Error) (r : Result T StoreFault) (old new : State) (name primary : List ℕ) (version last : ℕ) → Survives old new (λ _. ⊥) → IfClean IsInside old
    → OnOk r (IsOkAnd answer (λ v. map part (items v) ≡ vehicle_line name primary version last ∷ []))
    → (HasCleanDisk new → IfOk answer (λ v. Shown upsert_vehicle_text (vehicle_line name primary version last) old new (items v)))
    → HasCleanDisk new → OnOk r ((rows_of : List ℕ → List Row) (was_primary : List ℕ) (was_version was_last : ℕ) → HasTables old → Lists 1 rows_of (old.now.trees vehicle_table.tree)
    → rows_of name ≡ vehicle_line name was_primary was_version was_last ∷ [] → Alters vehicle_table (Lists 1 (with_only name (vehicle_line name primary version last) rows_of)) old new)
sets_vehicle items answer (Err fault) old new name primary version last survives inside same ran clean = tt
sets_vehicle items (Err e) (Ok x) old new name primary version last survives inside same ran clean = absurd same
sets_vehicle items (Ok v) (Ok x) old new name primary version last survives inside same ran clean = λ rows_of was_primary was_version was_last has lists is.
    let before : HasCleanDisk old = omega (arith, survives.clean) in
    let h = ran clean in
    let here = has (shown_open _ _ old new _ h) in
    let after = shown_after _ _ old new _ h in
    let done = upserts_vehicle old new name primary was_primary version last was_version was_last (items v) here.schema_is lists.shaped (lists.parts name ∙ is) h in
    let row_is : vehicle_line name was_primary version last ≡ vehicle_line name primary version last = first_of (sym (ap (map part) done.3) ∙ same) in
    let was = vehicle_line name was_primary was_version was_last in
    let row = vehicle_line name primary version last in
    let rows = old.now.trees vehicle_table.tree in
    let now : new.now.trees vehicle_table.tree ≡ put_row (Int done.0 ∷ row) (without_rowid done.0 rows) = done.2.rows ∙ ap (λ x. put_row (Int done.0 ∷ x) (without_rowid done.0 rows)) row_is in
    record {
      was_open = shown_open _ _ old new _ h;
      is_open = after.0;
      mode = after.1 ∙ inside before;
      schema_is = done.2.schema_is;
      sound = done.2.sound;
      rows = record {
        shaped = subst (IsShaped Table) (sym now) (rewritten_shaped done.0 was row rows lists.shaped done.1);
        parts = λ n. ap (rows_with 1 n) now ∙ rewritten_parts done.0 was row rows lists.shaped done.1 1 name rows_of (λ n. text_is name n) (λ n. text_is name n) lists.parts is n;
      };
      others = others_stay vehicle_table old.now.trees new.now.trees done.2.others;
    }
  where
    first_of : {a b : Row} → ◌≡◌ {A = List Row} (a ∷ []) (b ∷ []) → a ≡ b
    first_of e = cc

-- ---- faults of the writes

abbrev upsert : Command
upsert = InsertOr 5 Abort (Values (given 4) 5) (clause ∷ [])

upsert_writes : (name primary : List ℕ) (version last : ℕ) → WritesShowing upsert_vehicle_text (vehicle_line name primary version last) upsert what
unfolding understood everything
upsert_writes name primary version last = record { row = refl; is = upsert_is.0; shows = upsert_is.1; writes = refl; whole = refl; count = refl }

pub upsert_ran : {X T : Type 0} (items : X → List Row) (answer : Result X Error) (r : Result T StoreFault) (old new : State) (v : VehicleRow) → OnOk r (IsOkAnd answer (λ shown. map part (items shown) ≡ vehicle_row v ∷ []))
    → (HasCleanDisk new → IfOk answer (λ shown. Shown upsert_vehicle_text (vehicle_row v) old new (items shown))) → Ran ((upsert_vehicle_text, vehicle_row v) ∷ []) old new r
upsert_ran items answer r old new v told ok =
    ran_showing items (λ shown. map part (items shown) ≡ vehicle_row v ∷ []) upsert_vehicle_text (vehicle_row v) upsert what (upsert_writes v.vehicle.now v.primary_ecu.now v.version v.last_counter) answer r old new told ok

-- where the vehicle stands with its Primary, the row that comes back is the one that was to be written
pub upsert_blames : {X T : Type 0} (items : X → List Row) (answer : Result X Error) (r : Result T StoreFault) (old new : State) (v : VehicleRow) → Survives old new (λ _. ⊥) → IfClean IsInside old
    → IfErr answer (λ e. r ≡ Err (store_fault e)) → IfOk answer (λ shown. IfErr r (λ fault. (fault ≡ Store) × (map part (items shown) ≢ vehicle_row v ∷ [])))
    → (HasCleanDisk new → IfOk answer (λ shown. Shown upsert_vehicle_text (vehicle_row v) old new (items shown)))
    → (HasCleanDisk new → IfErr answer (λ e. FailsToQuery upsert_vehicle_text (vehicle_row v) old new e ⊎ IsTooLate upsert_vehicle_text (vehicle_row v) old new e))
    → BlamesOne ((upsert_vehicle_text, vehicle_row v) ∷ []) (HasVehicle v) old new r
upsert_blames items (Ok shown) (Ok x) old new v survives inside fault another ok err clean = tt
upsert_blames items (Ok shown) (Err f) old new v survives inside fault another ok err clean = λ is is_open has holds.
    let here = has is_open in
    let name = v.vehicle.now in
    let primary = v.primary_ecu.now in
    let done = upserts_vehicle old new name primary primary v.version v.last_counter holds.2.0 holds.2.1 (items shown) here.schema_is holds.1.shaped (holds.1.parts name ∙ holds.2.2) (ok clean) in
    absurd (another.1 (ap (map part) done.3))
upsert_blames items (Err e) (Ok x) old new v survives inside fault another ok err clean = tt
upsert_blames items (Err e) (Err f) old new v survives inside fault another ok err clean = λ is is_open has holds.
    let before : HasCleanDisk old = omega (arith, survives.clean) in
    let it = upsert_writes v.vehicle.now v.primary_ecu.now v.version v.last_counter in
    elim (refusal_showing upsert_vehicle_text (vehicle_row v) upsert (shown_writing it) old is_open has new e (sym (fault_alike fault) ∙ is) what it.shows (inside before) (err clean)) [ inl more ↦ inl more | inr refused ↦ inr (inl refused) ]
