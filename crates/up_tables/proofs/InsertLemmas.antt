-- What an INSERT of one row does.
use Rattle.std.proofs.Common.{◌≡◌, ◌≢◌, ℕ, ℤ, List, [], ◌∷◌, false, if◌then◌else◌, Some, None, Option, slice_get, length, ◌/◌, Ok, Result, OnOk, IsTrue, sym, ap, subst, ◌∙◌}
use Rattle.std.specs.List.{AllByRecursion}
use Rattle.sqlite.specs.declared.types.Value.TheVariants.{Null, Int}
use Rattle.sqlite.specs.Order.{Row}
use Rattle.sqlite.specs.Term.{Term}
use Rattle.sqlite.specs.Tree.{Trees, put_row}
use Rattle.sqlite.specs.Table.{Table}
use Rattle.sqlite.specs.Source.TheVariants.{Values}
use Rattle.sqlite.specs.Command.TheVariants.{Insert}
use Rattle.sqlite.specs.Edit.{edit_of, edited, next_rowid, with_rowid, taken_by}
use Rattle.sqlite.specs.Cast.{cast_row}
use Rattle.sqlite.specs.Rowids.TheVariants.{Chosen, Above}
use Rattle.sqlite.specs.Does.{Tally, Does, Concludes, OnRows}
use Rattle.sqlite.specs.Rows.{Written, Task, stamped, Sourced, Edited, Counts, count_of, Inserts as WritesInserted}
use Rattle.sqlite.specs.declared.run.Mode.{Mode}
use Rattle.sqlite_schema.specs.declared.command.Source.{Source}
use Rattle.sqlite.specs.Listing.{understood}
use Rattle.sqlite.specs.Effect.{Database, value_rows}
use Rattle.sqlite.specs.State.{State, mode_of, Executes, ExecutesInside, HasCleanDisk, Survives}
use Rattle.sqlite.specs.declared.error.Error.{Error}
use Rattle.sqlite.proofs.Callers.{IsPlain, command_of, statement_of, runs_as, one_step}
use Rattle.sqlite_rules.specs.Action.{works}
use Rattle.sqlite_schema.specs.declared.schema.Keys.TheVariants.{Enforced}
use Rattle.sqlite.specs.Schema.{Schema}
use Rattle.up_tables.proofs.Parts.{Inserts}
use Rattle.up_tables.specs.Tables.{up_schema}
use Rattle.up_tables.specs.Stands.{IfClean, IsInside, HasTables, Alters}
use Rattle.up_tables.proofs.RunLemmas.{IsRun, run_in, then_ok, run_alters, idle}
use Rattle.up_tables.proofs.CreateLemmas.{went, same_value}

-- ---- the parts of a statement, each over plain variables

pub concluded : (task : Task) (mode : Mode) (w : Written) (tally : Tally) (after : Database) → Concludes task mode None w (Ok (tally, after)) → after ≡ record { schema = task.schema; trees = w.trees }
concluded task mode w tally after h = ap (λ (p : Tally × Database). p.1) (same_value (went (went h).2).2)

pub uncounts : (task : Task) (db : Trees) (counter : Option Row) (top : ℤ) (out : Trees) → task.table.is_counted ≡ false → Counts task db counter top (Ok out) → out ≡ db
uncounts task db counter top out uncounted h = same_value (rw uncounted at h)

-- the rows of VALUES, numbered from the last rowid on
pub inserted : (task : Task) (from : Source) (db : Trees) (w : Written) → task.table.is_counted ≡ false → WritesInserted task from db (Ok w)
    → (rows : List Row) × Sourced task.limit (record { schema = task.schema; trees = db }) (stamped task.table task.params) from (Ok rows) × Edited task.schema task.keys db (edit_of db task.table [] Chosen 0 rows) (Ok w.trees)
inserted task from db w uncounted h =
    let source = went h in
    let numbered = went source.2 in
    let edits = went numbered.2 in
    let counts = went edits.2 in
    let trees : w.trees ≡ edits.0 = ap (λ (it : Written). it.trees) (same_value counts.2) ∙ uncounts task edits.0 numbered.0 _ counts.0 uncounted counts.1 in (
      source.0,
      source.1,
      subst (λ t. Edited task.schema task.keys db (edit_of db task.table [] Chosen 0 source.0) (Ok t)) (sym trees)
          (subst (λ b. Edited task.schema task.keys db (edit_of db task.table [] (if b then Above (count_of numbered.0) else Chosen) 0 source.0) (Ok edits.0)) uncounted edits.1),
    )

-- Values that are written out or bound, of which the first is the rowid, or null where the next one is taken.
module _ (schema : Schema) (text : List ℕ) (at : ℕ) (table : Table) (terms : List Term) (width : ℕ) (params source : Row) (is : command_of (understood schema text) ≡ Insert at (Values terms width)) (plain : IsPlain (understood schema text))
    (place : slice_get schema.tables at ≡ Some table) (uncounted : table.is_counted ≡ false) (bare : stamped table params ≡ params)
    (given : value_rows params width (length terms / width) terms ≡ source ∷ []) (casts : cast_row table source ≡ source)
    (idle : (olds news : List Row) → works schema Enforced 0 table.tree olds news ≡ []) where
  pub inserts_row : (old new : State) (count : ℕ) → old.now.schema ≡ schema → Executes text params old new (Ok count) → Inserts schema table source old.now new.now
  inserts_row old new count has h =
      let db = old.now.trees in
      let command = Insert at (Values terms width) in
      let w = runs_as text params old new schema has command is plain count h in
      let does = subst (λ s. Does old.step_limit (mode_of old) params (record old.now { schema = s }) (statement_of text (understood schema text)) None command (Ok (w.tally, new.now))) has w.changed in
      let task : Task = record { limit = old.step_limit; keys = Enforced; schema = schema; table = table; params = params } in
      let on : OnRows task (mode_of old) None command db (Ok (w.tally, new.now)) = rw place at does in
      let done = went on in
      let now = concluded task (mode_of old) done.0 w.tally new.now done.2 in
      let ins = inserted task (Values terms width) db done.0 uncounted done.1 in
      let rows : ins.0 ≡ source ∷ [] = ins.1.1 ∙ ap (λ p. value_rows p width (length terms / width) terms) bare ∙ given in
      let e = edit_of db table [] Chosen 0 ins.0 in
      let step = one_step schema Enforced db done.0.trees e (idle (taken_by db e) e.news) ins.2 in
      let edit : edited db (edit_of db table [] Chosen 0 (source ∷ [])) ≡ put_row (with_rowid Chosen (db table.tree) source) (db table.tree) =
      ap (λ row. put_row (with_rowid Chosen (db table.tree) row) (db table.tree)) casts in
      record {
        schema_is = ap (λ (d : Database). d.schema) now;
        sound = w.sound;
        rows = ap (λ (d : Database). d.trees table.tree) now ∙ step.rows ∙ ap (λ all. edited db (edit_of db table [] Chosen 0 all)) rows ∙ edit;
        others = subst (λ (d : Database). AllByRecursion (λ t. t.tree ≢ table.tree → d.trees t.tree ≡ db t.tree) schema.tables) (sym now) step.tables;
      }

-- in a transaction: the row is put in under the next rowid
module _ (text : List ℕ) (at : ℕ) (table : Table) (terms : List Term) (width : ℕ) (params row : Row) (is : command_of (understood up_schema text) ≡ Insert at (Values terms width)) (plain : IsPlain (understood up_schema text))
    (place : slice_get up_schema.tables at ≡ Some table) (uncounted : table.is_counted ≡ false) (bare : stamped table params ≡ params)
    (given : value_rows params width (length terms / width) terms ≡ (Null ∷ row) ∷ []) (casts : cast_row table (Null ∷ row) ≡ Null ∷ row) where
  pub inserts_in : (r : Result ℕ Error) (old new : State) → Survives old new (λ _. ⊥) → IfClean IsInside old → (HasCleanDisk new → IsTrue old.in_transaction → ExecutesInside 0 text params old new r)
      → HasCleanDisk new → OnOk r (HasTables old → Alters table (λ rows. rows ≡ put_row (Int (next_rowid (old.now.trees table.tree)) ∷ row) (old.now.trees table.tree)) old new)
  inserts_in r old new survives inside ran clean = then_ok r inserts (run_in text params old new r survives inside ran clean)
    where
      inserts : IsRun text params old new → HasTables old → Alters table (λ rows. rows ≡ put_row (Int (next_rowid (old.now.trees table.tree)) ∷ row) (old.now.trees table.tree)) old new
      inserts run has =
          let ins = inserts_row up_schema text at table terms width params (Null ∷ row) is plain place uncounted bare given casts (idle table.tree) old new run.count (has run.was_open).schema_is run.went in
          run_alters text params table _ old new run ins.schema_is ins.sound ins.rows ins.others
