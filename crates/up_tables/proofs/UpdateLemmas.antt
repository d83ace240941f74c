-- What an UPDATE of one row does.
use Rattle.std.proofs.Common.{◌≡◌, ◌≢◌, ℕ, ℤ, List, [], ◌∷◌, None, Some, slice_get, Ok, sym, ap, subst, ◌∙◌}
use Rattle.std.specs.List.{AllByRecursion}
use Rattle.sqlite.specs.declared.types.Value.TheVariants.{Int}
use Rattle.sqlite.specs.Order.{Row}
use Rattle.sqlite.specs.Cast.{cast_row}
use Rattle.sqlite.specs.Command.TheVariants.{Update}
use Rattle.sqlite.specs.Schema.{Schema}
use Rattle.sqlite.specs.Table.{Table}
use Rattle.sqlite.specs.Effect.{Database, Answers}
use Rattle.sqlite.specs.Does.{Does, OnRows}
use Rattle.sqlite.specs.Rows.{Task}
use Rattle.sqlite.specs.Listing.{understood}
use Rattle.sqlite.specs.State.{State, mode_of, Executes}
use Rattle.sqlite.proofs.Callers.{IsPlain, command_of, statement_of, runs_as}
use Rattle.sqlite_rules.specs.Action.{works}
use Rattle.sqlite_schema.specs.declared.schema.Keys.TheVariants.{Enforced}
use Rattle.sqlite_schema.specs.declared.program.Program.{Program}
use Rattle.up_tables.proofs.Parts.{Rewrites}
use Rattle.up_tables.proofs.CreateLemmas.{went}
use Rattle.up_tables.proofs.InsertLemmas.{concluded}
use Rattle.up_tables.proofs.UpsertLemmas.{updated, rewritten_by}

module _ (schema : Schema) (text : List ℕ) (at : ℕ) (table : Table) (program : Program) (params : Row) (is : command_of (understood schema text) ≡ Update at program) (plain : IsPlain (understood schema text))
    (place : slice_get schema.tables at ≡ Some table) (idle : (olds news : List Row) → works schema Enforced 0 table.tree olds news ≡ []) where
  -- the query of the update answers one row, with the rowid that it is to stand under
  pub updates_row : (old new : State) (count : ℕ) (id : ℤ) (row : Row) → old.now.schema ≡ schema → cast_row table (Int id ∷ row) ≡ Int id ∷ row
      → ((rows : List Row) → Answers (record { schema = schema; trees = old.now.trees }) program params rows → rows ≡ (Int id ∷ Int id ∷ row) ∷ [])
      → Executes text params old new (Ok count) → Rewrites schema table id row old.now new.now
  updates_row old new count id row has casts answers h =
      let db = old.now.trees in
      let command = Update at program in
      let task : Task = record { limit = old.step_limit; keys = Enforced; schema = schema; table = table; params = params } in
      let w = runs_as text params old new schema has command is plain count h in
      let does = subst (λ s. Does old.step_limit (mode_of old) params (record old.now { schema = s }) (statement_of text (understood schema text)) None command (Ok (w.tally, new.now))) has w.changed in
      let on : OnRows task (mode_of old) None command db (Ok (w.tally, new.now)) = rw place at does in
      let done = went on in
      let now = concluded task (mode_of old) done.0 w.tally new.now done.2 in
      let up = updated task program params db done.0 done.1 in
      let all : up.0 ≡ (Int id ∷ Int id ∷ row) ∷ [] = answers up.0 up.1 in
      let written = rewritten_by schema table idle db done.0.trees id row up.0 all casts up.2 in
      record {
        schema_is = ap (λ (d : Database). d.schema) now;
        sound = w.sound;
        rows = ap (λ (d : Database). d.trees table.tree) now ∙ written.0;
        others = subst (λ (d : Database). AllByRecursion (λ t. t.tree ≢ table.tree → d.trees t.tree ≡ db t.tree) schema.tables) (sym now) written.1;
      }
