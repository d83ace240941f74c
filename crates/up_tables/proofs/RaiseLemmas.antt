-- Tables of an older version are raised.
use Rattle.std.proofs.Common.{◌≡◌, ◌++◌, ℕ, pos, List, [], ◌∷◌, map, filter, true, Result, OnOk, IsTrue, refl, sym, ap, ap₂, subst, ◌∙◌, drop}
use Rattle.std.specs.List.{list_all}
use Rattle.std.specs.List.Sorted.{IsPermutation}
use Rattle.std.proofs.Math.Bool.{and-true}
use Rattle.sqlite.specs.declared.types.Value.TheVariants.{Null, Int}
use Rattle.sqlite.specs.declared.error.Error.{Error}
use Rattle.sqlite.specs.Order.{Row}
use Rattle.sqlite.specs.Term.{Term, lit, col, eval_all, holds}
use Rattle.sqlite.specs.Cast.{cast_row}
use Rattle.sqlite.specs.Change.{created}
use Rattle.sqlite.specs.Command.TheVariants.{Update}
use Rattle.sqlite.specs.Effect.{Answers}
use Rattle.sqlite.specs.Listing.{understood}
use Rattle.sqlite.specs.Schema.{Schema}
use Rattle.sqlite.specs.State.{State, HasCleanDisk, Survives, ExecutesInside}
use Rattle.sqlite.specs.Table.{Table}
use Rattle.sqlite.specs.Tree.{Trees, put_row, without_rowid}
use Rattle.sqlite.proofs.Callers.{IsPlain, command_of, one_permutation}
use Rattle.sqlite_tied.specs.Compute.{everything}
use Rattle.sqlite_schema.specs.declared.program.Program.{Program}
use Rattle.sqlite_trees.specs.View.{IsShaped}
use Rattle.sqlite_trees.specs.declared.store.Shape.TheVariants.{Table as TableShape}
use Rattle.up_tables.specs.Tables.{first_schema, second_schema, third_schema, with_image_repository, up_schema, meta_table, role_key_table, retired_table, image_sha512_table, image_repository_table, retired_vehicle_table}
use Rattle.up_tables.specs.Lines.{image_repository_row, meta_row, meta_row_of}
use Rattle.up_tables.specs.Listed.{TableRows, ListsTables}
use Rattle.up_tables.specs.Makes.{MakesIn}
use Rattle.up_tables.specs.Making.{set_schema_text}
use Rattle.up_tables.specs.Rows.{rows_with}
use Rattle.up_tables.specs.Stands.{Lists, ListsAll, ListsPairs, AnyRows, IfClean, IsInside, IsWithin, GoesOn, Alters, HasTables}
use Rattle.up_tables.specs.Versions.{HasOneNumber, ListsEight, ListsKeys, ListsAs, ListsNine, ListsTen}
use Rattle.up_tables.specs.declared.open.SchemaVersion.TheVariants.{One}
use Rattle.up_tables.proofs.AnswerLemmas.{over, answer_is, shows_passing, equals_int}
use Rattle.up_tables.proofs.Casts.{cast_int, cast_null}
use Rattle.up_tables.proofs.ListedLemmas.{goes_on}
use Rattle.up_tables.proofs.MakingLemmas.{any_rows}
use Rattle.up_tables.proofs.MetaReads.{is_one}
use Rattle.up_tables.proofs.OthersLemmas.{has_after}
use Rattle.up_tables.proofs.PlaceLemmas.{itself}
use Rattle.up_tables.proofs.RunLemmas.{IsRun, run_in, then_ok, run_alters, idle}
use Rattle.up_tables.proofs.UpdateLemmas.{updates_row}

-- ---- the schema's number is set

abbrev update_shown : List Term
update_shown = col 1 0 ∷ col 1 0 ∷ lit Null ∷ col 1 2 ∷ lit (Int (pos 4)) ∷ col 1 4 ∷ col 1 5 ∷ col 1 6 ∷ []

abbrev program : Program
program = record { lets = []; body = over 0 (is_one ∷ []) update_shown [] }

set_is : (command_of (understood up_schema set_schema_text) ≡ Update 0 program) × IsPlain (understood up_schema set_schema_text)
unfolding understood everything
set_is = (refl, (refl, refl))

casts : (root image_version stamp : ℕ) → cast_row meta_table (meta_row root image_version stamp) ≡ meta_row root image_version stamp
casts root image_version stamp = rw (cast_null, cast_int (pos 1), cast_int (pos 4), cast_int (pos root), cast_int (pos image_version), cast_int (pos stamp)) refl

one_row : (number root image_version stamp : ℕ) (rows : List Row) → rows ≡ meta_row_of number root image_version stamp ∷ []
    → filter (λ r. list_all (holds ([] ∷ r ∷ [])) (is_one ∷ [])) rows ≡ meta_row_of number root image_version stamp ∷ []
one_row number root image_version stamp rows is =
    let hit : list_all (holds ([] ∷ meta_row_of number root image_version stamp ∷ [])) (is_one ∷ []) ≡ true = and-true _ ∙ equals_int (Int (pos 1)) (pos 1) ∙ itself (pos 1) in
    rw (is, hit) refl

update_rows : (db : Trees) (number root image_version stamp : ℕ) (rows : List Row) → db 0 ≡ meta_row_of number root image_version stamp ∷ [] → Answers (record { schema = up_schema; trees = db }) program [] rows
    → rows ≡ (Int (pos 1) ∷ meta_row root image_version stamp) ∷ []
update_rows db number root image_version stamp rows is h =
    let same = shows_passing (is_one ∷ []) update_shown [] (db 0) rows (answer_is (Rattle.sqlite.specs.Program.overlay db []) 0 (is_one ∷ []) update_shown [] [] rows (h.answer Null)) in
    one_permutation _ rows (subst (λ xs. IsPermutation xs rows) (ap (map (λ r. eval_all update_shown ([] ∷ r ∷ []))) (one_row number root image_version stamp (db 0) is)) same)

no_other : (number root image_version stamp : ℕ) → without_rowid (pos 1) (meta_row_of number root image_version stamp ∷ []) ≡ []
no_other number root image_version stamp = let it = itself (pos 1) in rw it refl

pub sets_schema : (r : Result ℕ Error) (old new : State) → Survives old new (λ _. ⊥) → IfClean IsInside old
    → (HasCleanDisk new → IsTrue old.in_transaction → ExecutesInside 0 set_schema_text [] old new r)
    → HasCleanDisk new → OnOk r ((number root image_version stamp : ℕ) → HasTables old → old.now.trees meta_table.tree ≡ meta_row_of number root image_version stamp ∷ []
    → Alters meta_table (λ rows. rows ≡ meta_row root image_version stamp ∷ []) old new)
sets_schema r old new survives inside ran clean = then_ok r sets (run_in set_schema_text [] old new r survives inside ran clean)
  where
    sets : IsRun set_schema_text [] old new → (number root image_version stamp : ℕ) → HasTables old → old.now.trees meta_table.tree ≡ meta_row_of number root image_version stamp ∷ []
        → Alters meta_table (λ rows. rows ≡ meta_row root image_version stamp ∷ []) old new
    sets run number root image_version stamp has is =
        let row = meta_row root image_version stamp in
        let done = updates_row up_schema set_schema_text 0 meta_table program [] set_is.0 set_is.1 refl (idle 0) old new run.count (pos 1) (drop 1 row) (has run.was_open).schema_is (casts root image_version stamp)
        (λ rows. update_rows old.now.trees number root image_version stamp rows is) run.went in
        run_alters set_schema_text [] meta_table _ old new run done.schema_is done.sound
        (done.rows ∙ ap (λ xs. put_row row (without_rowid (pos 1) xs)) is ∙ ap (put_row row) (no_other number root image_version stamp)) done.others

-- ---- what the tables list stays

abbrev AreSame : Trees → Trees → Type 0
AreSame old new = (new 0 ≡ old 0) × (new 1 ≡ old 1) × (new 3 ≡ old 3) × (new 5 ≡ old 5) × (new 7 ≡ old 7) × (new 9 ≡ old 9) × (new 11 ≡ old 11) × (new 14 ≡ old 14)

-- the eight tables are the same
eight_kept : (number : ℕ) (rows : TableRows) (old new : Trees) → ListsEight number rows old → AreSame old new → ListsEight number rows new
eight_kept number rows old new lists same = record {
  meta = same.0 ∙ lists.meta;
  role_keys = subst (ListsKeys rows.root rows.role_keys) (sym same.1) lists.role_keys;
  files = subst (ListsPairs rows.files) (sym same.2) lists.files;
  images = subst (Lists 1 rows.images) (sym same.3) lists.images;
  campaigns = subst (Lists 1 rows.campaigns) (sym same.4) lists.campaigns;
  vehicles = subst (Lists 1 rows.vehicles) (sym same.5) lists.vehicles;
  ecus = subst (Lists 2 rows.ecus) (sym same.6) lists.ecus;
  kept = subst (Lists 1 rows.kept) (sym same.7) lists.kept;
}

-- a table that was made lists nothing
new_lists : (at : ℕ) (rows_of : List ℕ → List Row) (rows : List Row) → ((name : List ℕ) → rows_of name ≡ []) → rows ≡ [] → Lists at rows_of rows
new_lists at rows_of rows none empty = record { shaped = subst (IsShaped TableShape) (sym empty) (tt, tt); parts = λ name. ap (rows_with at name) empty ∙ sym (none name) }

-- the schema is there behind a table that was made
made_within : (schema : Schema) (table : Table) (old new : State) → MakesIn schema table old new → IsWithin (created schema table) AnyRows new
made_within schema table old new made = record { mode = made.mode; here = λ _. record { schema_is = made.made.schema_is; sound = made.made.sound; rows = tt } }

-- ---- version 3

-- what the numbers that are taken, the keys that are dropped, and the schema's number say
abbrev pub Takes : State → State → Type 0
Takes old new = (number root image_version stamp : ℕ) → HasTables old → old.now.trees meta_table.tree ≡ meta_row_of number root image_version stamp ∷ [] → old.now.trees image_repository_table.tree ≡ []
    → Alters image_repository_table (λ rows. rows ≡ image_repository_row root image_version ∷ []) old new

abbrev pub Drops : State → State → Type 0
Drops old new = (number root image_version stamp : ℕ) (keys : List Row) → HasTables old → old.now.trees meta_table.tree ≡ meta_row_of number root image_version stamp ∷ []
    → ListsKeys root keys (old.now.trees role_key_table.tree) → Alters role_key_table (ListsAll keys) old new

abbrev pub SetsSchema : State → State → Type 0
SetsSchema old new = (number root image_version stamp : ℕ) → HasTables old → old.now.trees meta_table.tree ≡ meta_row_of number root image_version stamp ∷ []
    → Alters meta_table (λ rows. rows ≡ meta_row root image_version stamp ∷ []) old new

-- the two tables are there, and empty
record HasTwoMore (number : ℕ) (rows : TableRows) (s : State) : Type 0 where
  pub has : HasTables s
  pub eight : ListsEight number rows s.now.trees
  pub retired : Lists 2 rows.retired (s.now.trees retired_table.tree)
  pub sha512s : Lists 1 rows.sha512s (s.now.trees image_sha512_table.tree)
  pub image_repository : s.now.trees image_repository_table.tree ≡ []
  pub shut_out : Lists 1 rows.shut_out (s.now.trees retired_vehicle_table.tree)

two_more : (number : ℕ) (rows : TableRows) (old mid new : State) → ListsTen number rows old.now.trees → MakesIn third_schema image_repository_table old mid → MakesIn with_image_repository retired_vehicle_table mid new → HasTwoMore number rows new
two_more number rows old mid new lists one two =
    let a = one.made.others in
    let b = two.made.others in
    record {
      has = λ _. record { schema_is = two.made.schema_is; sound = two.made.sound; rows = tt };
      eight = eight_kept number rows mid.now.trees new.now.trees (eight_kept number rows old.now.trees mid.now.trees lists.0 (a.0, a.1.0, a.1.1.0, a.1.1.1.0, a.1.1.1.1.0, a.1.1.1.1.1.0, a.1.1.1.1.1.1.0, a.1.1.1.1.1.1.1.0)) (b.0, b.1.0, b.1.1.0, b.1.1.1.0, b.1.1.1.1.0, b.1.1.1.1.1.0, b.1.1.1.1.1.1.0, b.1.1.1.1.1.1.1.0);
      retired = subst (Lists 2 rows.retired) (sym (b.1.1.1.1.1.1.1.1.0 ∙ a.1.1.1.1.1.1.1.1.0)) lists.1;
      sha512s = subst (Lists 1 rows.sha512s) (sym (b.1.1.1.1.1.1.1.1.1.0 ∙ a.1.1.1.1.1.1.1.1.1.0)) lists.2;
      image_repository = b.1.1.1.1.1.1.1.1.1.1.0 ∙ one.made.empty;
      shut_out = new_lists 1 rows.shut_out (new.now.trees retired_vehicle_table.tree) lists.3.shut_out two.made.empty;
    }

rest_raised : (number : ℕ) (rows : TableRows) (two three four new : State) → HasOneNumber rows → HasTwoMore number rows two → Takes two three → Drops three four → SetsSchema four new → GoesOn up_schema (ListsTables rows) new
rest_raised number rows two three four new numbers was takes drops sets =
    let taken = takes number rows.root rows.image_version rows.stamp was.has was.eight.meta was.image_repository in
    let dropped = drops number rows.root rows.image_version rows.stamp rows.role_keys (has_after image_repository_table _ two three taken) (taken.others.meta ∙ was.eight.meta)
    (subst (ListsKeys rows.root rows.role_keys) (sym taken.others.role_keys) was.eight.role_keys) in
    let set = sets number rows.root rows.image_version rows.stamp (has_after role_key_table _ three four dropped) (dropped.others.meta ∙ taken.others.meta ∙ was.eight.meta) in
    let c = taken.others in
    let d = dropped.others in
    let e = set.others in
    goes_on meta_table _ (ListsTables rows) four new set (record {
      meta = set.rows;
      role_keys = subst (ListsAll rows.role_keys) (sym e.role_keys) dropped.rows;
      files = subst (ListsPairs rows.files) (sym (e.files ∙ d.files ∙ c.files)) was.eight.files;
      images = subst (Lists 1 rows.images) (sym (e.images ∙ d.images ∙ c.images)) was.eight.images;
      campaigns = subst (Lists 1 rows.campaigns) (sym (e.campaigns ∙ d.campaigns ∙ c.campaigns)) was.eight.campaigns;
      vehicles = subst (Lists 1 rows.vehicles) (sym (e.vehicles ∙ d.vehicles ∙ c.vehicles)) was.eight.vehicles;
      ecus = subst (Lists 2 rows.ecus) (sym (e.ecus ∙ d.ecus ∙ c.ecus)) was.eight.ecus;
      kept = subst (Lists 1 rows.kept) (sym (e.kept ∙ d.kept ∙ c.kept)) was.eight.kept;
      retired = subst (Lists 2 rows.retired) (sym (e.retired ∙ d.retired ∙ c.retired)) was.retired;
      sha512s = subst (Lists 1 rows.sha512s) (sym (e.sha512s ∙ d.sha512s ∙ c.sha512s)) was.sha512s;
      image_repository = e.image_repository ∙ d.image_repository ∙ taken.rows ∙ sym (ap₂ (λ root targets. image_repository_row root targets ∷ []) numbers.root numbers.targets);
      shut_out = subst (Lists 1 rows.shut_out) (sym (e.shut_out ∙ d.shut_out ∙ c.shut_out)) was.shut_out;
    })

pub third_raised : (number : ℕ) (rows : TableRows) (old one two three four new : State) → IsWithin third_schema (ListsTen number rows) old
    → (IsWithin third_schema AnyRows old → MakesIn third_schema image_repository_table old one) → (IsWithin with_image_repository AnyRows one → MakesIn with_image_repository retired_vehicle_table one two)
    → Takes two three → Drops three four → SetsSchema four new → GoesOn up_schema (ListsTables rows) new
third_raised number rows old one two three four new within first second takes drops sets =
    let a = first (any_rows third_schema _ old within) in
    let b = second (made_within third_schema image_repository_table old one a) in
    let it = (within.here a.was_open).rows in
    rest_raised number rows two three four new it.3 (two_more number rows old one two it a b) takes drops sets

-- ---- versions 1 and 2

pub second_raised : (number : ℕ) (rows : TableRows) (old mid new : State) → IsWithin second_schema (ListsNine number rows) old
    → (IsWithin second_schema AnyRows old → MakesIn second_schema image_sha512_table old mid) → (IsWithin third_schema (ListsTen number rows) mid → GoesOn up_schema (ListsTables rows) new) → GoesOn up_schema (ListsTables rows) new
second_raised number rows old mid new within makes rest =
    let made = makes (any_rows second_schema _ old within) in
    let it = (within.here made.was_open).rows in
    let same = made.made.others in
    rest (record {
      mode = made.mode;
      here = λ _. record {
        schema_is = made.made.schema_is;
        sound = made.made.sound;
        rows = (
          eight_kept number rows old.now.trees mid.now.trees it.0 (same.0, same.1.0, same.1.1.0, same.1.1.1.0, same.1.1.1.1.0, same.1.1.1.1.1.0, same.1.1.1.1.1.1.0, same.1.1.1.1.1.1.1.0),
          subst (Lists 2 rows.retired) (sym same.1.1.1.1.1.1.1.1.0) it.1,
          new_lists 1 rows.sha512s (mid.now.trees image_sha512_table.tree) it.2 made.made.empty,
          it.3,
        );
      };
    })

pub first_raised : (rows : TableRows) (old mid new : State) → IsWithin first_schema (ListsAs One rows) old
    → (IsWithin first_schema AnyRows old → MakesIn first_schema retired_table old mid) → (IsWithin second_schema (ListsNine 1 rows) mid → GoesOn up_schema (ListsTables rows) new) → GoesOn up_schema (ListsTables rows) new
first_raised rows old mid new within makes rest =
    let made = makes (any_rows first_schema _ old within) in
    let it = (within.here made.was_open).rows in
    let same = made.made.others in
    rest (record {
      mode = made.mode;
      here = λ _. record {
        schema_is = made.made.schema_is;
        sound = made.made.sound;
        rows = (
          eight_kept 1 rows old.now.trees mid.now.trees it.0 (same.0, same.1.0, same.1.1.0, same.1.1.1.0, same.1.1.1.1.0, same.1.1.1.1.1.0, same.1.1.1.1.1.1.0, same.1.1.1.1.1.1.1.0),
          new_lists 2 rows.retired (mid.now.trees retired_table.tree) it.1 made.made.empty,
          it.2,
          it.3,
        );
      };
    })
