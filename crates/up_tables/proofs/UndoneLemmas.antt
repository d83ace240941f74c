-- Want of memory undoes the transaction, and the database refuses nothing for want of memory.
use Rattle.std.proofs.Common.{◌≡◌, ◌⊎◌, inl, inr, ℕ, ℤ, List, [], ◌∷◌, ◌++◌, Bool, true, false, Option, Some, None, Ok, Err, Result, IfOk, IfErr, OnOk, IsTrue, refl, sym, ap, subst, ◌∙◌, arith}
use Rattle.std.specs.Prelude.{MatchBool, fold, is_some, slice_get, option_map}
use Rattle.std.specs.Result.{IsOk, IsErrAnd}
use Rattle.sqlite_value.specs.declared.value.Value.TheVariants.{Null}
use Rattle.sqlite_trees.specs.Tree.{Trees, rowid}
use Rattle.sqlite_schema.specs.declared.schema.Table.{Table}
use Rattle.sqlite_schema.specs.declared.program.Program.{Program}
use Rattle.sqlite_schema.specs.declared.command.Source.{Source}
use Rattle.sqlite_schema.specs.declared.command.Source.TheVariants as source
use Rattle.sqlite_schema.specs.declared.command.Conflict.{Conflict}
use Rattle.sqlite_schema.specs.declared.command.Conflict.TheVariants.{Abort, Ignore, Replace}
use Rattle.sqlite_schema.specs.declared.command.Upsert.{Upsert}
use Rattle.sqlite_schema.specs.declared.command.Returning.{Returning}
use Rattle.sqlite_schema.specs.declared.command.Command.{Command}
use Rattle.sqlite_schema.specs.declared.command.Command.TheVariants.{Select, Rows, Insert, InsertOr, Update, Delete, CreateTable, CreateIndex, DropTable, DropIndex, CreateView, DropView}
use Rattle.sqlite_rules.specs.declared.error.Refusal.{Refusal}
use Rattle.sqlite_rules.specs.declared.error.Refusal.TheVariants.{Violates, Mismatch, NoRowid, BadReference, TooDeep}
use Rattle.sqlite_rules.specs.Cast.{cast_row}
use Rattle.sqlite_rules.specs.Edit.{edit_of, with_rowid}
use Rattle.sqlite_catalog.specs.Change.{without_index, without_view}
use Rattle.sqlite_catalog.specs.Calls.{RefusesToDropIndex}
use Rattle.sqlite_catalog.specs.declared.error.Refusal as alter
use Rattle.sqlite_catalog.specs.declared.error.Refusal.TheVariants as why
use Rattle.sqlite_resolve.specs.declared.compiled.Compiled.{Compiled}
use Rattle.sqlite.specs.Order.{Row}
use Rattle.sqlite.specs.Clock.{timed}
use Rattle.sqlite.specs.declared.error.Error.{Error}
use Rattle.sqlite.specs.declared.error.Error.TheVariants.{InvalidQuery}
use Rattle.sqlite.specs.declared.run.Mode.{Mode}
use Rattle.sqlite.specs.Effect.{Database, RefusesQuery, RefusesToRead, RefusesSource, RefusesToAlter, IsNoText, edit_error, alter_error}
use Rattle.sqlite.specs.Rows.{Outcome, Part, Refuses, Task, Written, CounterIn, Counter, CountsIn, Counts, Updates, Deletes, Inserts, Puts, Clears, Resolves, Meets, Upserts, Judged, Tries, TriesEach, InsertsOr, sequence, stamped, shown, higher, count_of, rowids_for, nothing, joined, mended}
use Rattle.sqlite.specs.Does.{Does, Tally, AtPlace, Shows, Returns, Concludes, WritesRows, OnRows, Empties, UncountsIn, Drops, Redefines, Defines, MakesIndex, Leaves, IsKeptAside}
use Rattle.sqlite.specs.State.{State, HasCleanDisk, Survives, ExecutesIn, ExecutesInside, FailsToQuery, FailsToShow, IsNotRun, IsTooLate, RunsCommand, mode_of, shows_rows, text_of}
use Rattle.up_tables.specs.Faults.{store_fault}
use Rattle.up_tables.specs.Stands.{IfClean, IsInside}
use Rattle.up_tables.specs.Tried.{Undoes}
use Rattle.up_tables.specs.declared.values.StoreFault.{StoreFault}
use Rattle.up_tables.specs.declared.values.StoreFault.TheVariants.{Memory, Store}
use Rattle.up_tables.proofs.BlameLemmas.{fault_alike}

-- ---- refusals are told as `Store`

edit_refusal : (r : Refusal) → store_fault (edit_error r) ≡ Store
edit_refusal (Violates rule) = refl
edit_refusal Mismatch = refl
edit_refusal BadReference = refl
edit_refusal NoRowid = refl
edit_refusal TooDeep = refl

alter_refusal : (r : alter.Refusal) → store_fault (alter_error r) ≡ Store
alter_refusal (why.Invalid e) = refl
alter_refusal why.NameTaken = refl
alter_refusal why.BadName = refl
alter_refusal why.BadKey = refl
alter_refusal why.BadText = refl
alter_refusal why.TooBig = refl
alter_refusal (why.Violates rule) = refl

matched : {P Q R : Type 0} (b : Bool) → MatchBool b P Q → (P → R) → (Q → R) → R
matched true h p q = p h
matched false h p q = q h

module _ (e : Error) (told : store_fault e ≡ Memory) where
  other : {f : Error} → e ≡ f → store_fault f ≡ Store → ⊥
  other is as_store = absurd (let no : Store ≡ Memory = sym as_store ∙ sym (ap store_fault is) ∙ told in cc)

  one : {f : Error} → ◌≡◌ {A = Option Error} (Some e) (Some f) → store_fault f ≡ Store → ⊥
  one {f} is as_store = let same : e ≡ f = cc in other same as_store

  refuses : {A : Type 0} {f : Error} → ◌≡◌ {A = Outcome A} (Err (Some e)) (Err (Some f)) → store_fault f ≡ Store → ⊥
  refuses {A} {f} is as_store = let same : e ≡ f = cc in other same as_store

  returned : {A : Type 0} {f : Error} → ◌≡◌ {A = Result A Error} (Err e) (Err f) → store_fault f ≡ Store → ⊥
  returned {A} {f} is as_store = let same : e ≡ f = cc in other same as_store

  gives : {A : Type 0} {a : A} → ◌≡◌ {A = Outcome A} (Err (Some e)) (Ok a) → ⊥
  gives is = absurd (let no = is in cc)

  -- neither the first part is refused so, nor what follows
  behind : {B R : Type 0} {Stops : Option Error → Type 0} → ((stop : Option Error) × Stops stop × ◌≡◌ {A = Outcome B} (Err (Some e)) (Err stop)) ⊎ R → (Stops (Some e) → ⊥) → (R → ⊥) → ⊥
  behind {B} {R} {Stops} (inl (stop, stops, is)) first rest = let same : stop ≡ Some e = cc in first (subst Stops same stops)
  behind (inr r) first rest = rest r

  at_place : {X A : Type 0} (P : X → Part A) (place : Option X) → AtPlace P place (Err (Some e)) → ((x : X) → P x (Err (Some e)) → ⊥) → ⊥
  at_place P None h rest = refuses h refl
  at_place P (Some x) h rest = rest x h

  queried : (limit : Option ℕ) (db : Database) (q : Program) (params : Row) → RefusesQuery limit db q params e → ⊥
  queried limit db q params (inl h) = other h.0 refl
  queried limit db q params (inr (inl h)) = other h.0 refl
  queried limit db q params (inr (inr h)) = other h.0 refl

  read : (limit : Option ℕ) (command : Command) (db : Database) (params : Row) → RefusesToRead limit command db params e → ⊥
  read limit (Select q names) db params h = queried limit db q params h
  read limit (Rows values width names) db params h = other h.0 refl
  read limit _ db params h = other h refl

  sourced : (limit : Option ℕ) (db : Database) (params : Row) (from : Source) → RefusesSource limit db params from e → ⊥
  sourced limit db params (source.Values terms width) (inl h) = other h.0 refl
  sourced limit db params (source.Values terms width) (inr h) = other h.0 refl
  sourced limit db params (source.Query q) h = queried limit db q params h

  edited : {P : Option Refusal → Type 0} → (why : Option Refusal) × P why × ◌≡◌ {A = Option Error} (Some e) (option_map edit_error why) → ⊥
  edited (None, _, is) = absurd (let no = is in cc)
  edited (Some r, _, is) = one is (edit_refusal r)

  altered : {text : List ℕ} {R : alter.Refusal → Type 0} → IsNoText text e ⊎ RefusesToAlter R e → ⊥
  altered (inl h) = other h.1 refl
  altered (inr h) = other h.2 (alter_refusal h.0)

  -- ---- the rows of a table

  module _ (task : Task) where
    abbrev in_task : Trees → Database
    in_task db = record { schema = task.schema; trees = db }

    counter_in : (db : Trees) (place : Option Table) → CounterIn task db place (Err (Some e)) → ⊥
    counter_in db None h = refuses h refl
    counter_in db (Some counters) h = gives h

    counter : (db : Trees) → Counter task db (Err (Some e)) → ⊥
    counter db h = matched task.table.is_counted h (counter_in db (sequence task.schema)) gives

    counts_in : (db : Trees) (there : Option Row) (top : ℤ) (place : Option Table) → CountsIn task db there top place (Err (Some e)) → ⊥
    counts_in db there top None h = refuses h refl
    counts_in db there top (Some counters) h = edited h

    counts : (db : Trees) (there : Option Row) (top : ℤ) → Counts task db there top (Err (Some e)) → ⊥
    counts db there top h = matched _ h (counts_in db there top (sequence task.schema)) gives

    updates : (q : Program) (given : Row) (db : Trees) → Updates task q given db (Err (Some e)) → ⊥
    updates q given db h = behind h (queried task.limit (in_task db) q given) (λ r. behind r.2 edited (λ x. gives x.2))

    deletes : (q : Program) (db : Trees) → Deletes task q db (Err (Some e)) → ⊥
    deletes q db h = behind h (queried task.limit (in_task db) q task.params) (λ r. behind r.2 edited (λ x. gives x.2))

    inserts : (from : Source) (db : Trees) → Inserts task from db (Err (Some e)) → ⊥
    inserts from db h = behind h (sourced task.limit (in_task db) (stamped task.table task.params) from) (λ r. behind r.2 (counter db) (λ c. behind c.2 edited (λ m. behind m.2 (counts m.0 c.0 (fold higher (count_of c.0) (edit_of db task.table [] (rowids_for task.table (count_of c.0)) 0 r.0).news)) (λ x. gives x.2))))

    puts : (new : Row) (db : Trees) → Puts task new db (Err (Some e)) → ⊥
    puts new db h = behind h edited (λ x. gives x.2)

    clears : (way : Conflict) (new : Row) (db : Trees) (found : List Row) → Clears task way new db found (Err (Some e)) → ⊥
    clears way new db [] h = puts new db h
    clears Abort new db (x ∷ more) h = puts new db h
    clears Ignore new db (x ∷ more) h = gives h
    clears Replace new db (x ∷ more) h = behind h edited (λ r. puts new r.0 r.2)

    resolves : (new : Row) (db : Trees) (there : Row) (update : Option Program) → Resolves task new db there update (Err (Some e)) → ⊥
    resolves new db there None h = gives h
    resolves new db there (Some q) h = updates q (task.params ++ rowid there ∷ shown task.table new) db h

    meets : (Otherwise : Part Written) → (Otherwise (Err (Some e)) → ⊥) → (new : Row) (db : Trees) (clause : Upsert) (found : List Row) → Meets task Otherwise new db clause found (Err (Some e)) → ⊥
    meets Otherwise never new db clause [] h = never h
    meets Otherwise never new db clause (there ∷ others) h = resolves new db there clause.update h

    upserts : (way : Conflict) (new : Row) (db : Trees) (clauses : List Upsert) → Upserts task way new db clauses (Err (Some e)) → ⊥
    upserts way new db [] h = clears way new db h.0 h.2
    upserts way new db (clause ∷ more) h = meets (Upserts task way new db more) (upserts way new db more) new db clause h.0 h.2

    judged : (way : Conflict) (clauses : List Upsert) (new : Row) (db : Trees) (verdict : Option Refusal) → Judged task way clauses new db verdict (Err (Some e)) → ⊥
    judged way clauses new db None h = upserts way new db clauses h
    judged way clauses new db (Some r) h = matched _ h gives (λ x. refuses x (edit_refusal r))

    tries : (way : Conflict) (clauses : List Upsert) (new : Row) (db : Trees) → Tries task way clauses new db (Err (Some e)) → ⊥
    tries way clauses new db (inl h) = refuses h.1 refl
    tries way clauses new db (inr h) = judged way clauses new db h.0 h.2

    abbrev next_row : Conflict → ℤ → Written → Row → Row
    next_row way top done row = with_rowid (rowids_for task.table top) (done.trees task.table.tree) (cast_row task.table (mended way task.table row))

    tries_each : (way : Conflict) (clauses : List Upsert) (rows : List Row) (top : ℤ) (done : Written) → TriesEach task way clauses rows top done (Err (Some e)) → ⊥
    tries_each way clauses [] top done h = gives h
    tries_each way clauses (row ∷ more) top done h = behind h (tries way clauses (next_row way top done row) done.trees) (λ r. tries_each way clauses more (higher top (next_row way top done row)) (joined done r.0) r.2)

    inserts_or : (way : Conflict) (clauses : List Upsert) (from : Source) (db : Trees) → InsertsOr task way clauses from db (Err (Some e)) → ⊥
    inserts_or way clauses from db h = behind h (sourced task.limit (in_task db) (stamped task.table task.params) from) (λ r. behind r.2 (counter db) (λ c. behind c.2 (tries_each way clauses r.0 (count_of c.0) (nothing db)) (λ m. behind m.2 (counts m.0.0.trees c.0 m.0.1) (λ x. gives x.2))))

    shows : (what : Returning) (now : Trees) (rows : List Row) → Shows task what now rows (Err (Some e)) → ⊥
    shows what now [] h = gives h
    shows what now (row ∷ more) h = behind h (sourced task.limit (in_task now) (task.params ++ Null ∷ shown task.table row) what.row) (λ r. behind r.2 (shows what now more) (λ x. gives x.2))

    returns : (w : Written) (returning : Option Returning) → Returns task w returning (Err (Some e)) → ⊥
    returns w None h = gives h
    returns w (Some what) h = behind h (shows what w.trees w.rows) (λ r. behind r.2 (λ c. one c.1 refl) (λ x. gives x.2))

    concludes : (mode : Mode) (returning : Option Returning) (w : Written) → Concludes task mode returning w (Err (Some e)) → ⊥
    concludes mode returning w h = behind h (λ t. one t.1 refl) (λ r. behind r.2 (returns w returning) (λ x. gives x.2))

    writes_rows : (db : Trees) (command : Command) → WritesRows task db command (Err (Some e)) → ⊥
    writes_rows db (Insert at from) h = inserts from db h
    writes_rows db (InsertOr at way from clauses) h = inserts_or way clauses from db h
    writes_rows db (Update at q) h = updates q task.params db h
    writes_rows db (Delete at q) h = deletes q db h
    writes_rows db _ h = refuses h refl

    on_rows : (mode : Mode) (returning : Option Returning) (command : Command) (db : Trees) → OnRows task mode returning command db (Err (Some e)) → ⊥
    on_rows mode returning command db h = behind h (writes_rows db command) (λ w. concludes mode returning w.0 w.2)

    empties : (db : Trees) → Empties task db (Err (Some e)) → ⊥
    empties db h = matched _ h edited gives

    uncounts_in : (db : Trees) (place : Option Table) → UncountsIn task db place (Err (Some e)) → ⊥
    uncounts_in db None h = gives h
    uncounts_in db (Some counters) h = behind h (counter db) (λ c. edited c.2)

    drops : (mode : Mode) (db : Trees) → Drops task mode db (Err (Some e)) → ⊥
    drops mode db h = behind h (empties db) (λ a. behind a.2 (uncounts_in a.0 _) (λ b. behind b.2 (λ t. one t.1 refl) (λ c. behind c.2 (λ never. never) (λ x. gives x.2))))

  -- ---- a command

  module _ (limit : Option ℕ) (mode : Mode) (params : Row) (db : Database) where
    abbrev task_on : Table → Task
    task_on table = record { limit = limit; keys = mode.keys; schema = db.schema; table = table; params = params }

    redefines : (text : List ℕ) (command : Command) → Redefines limit mode params db text command (Err (Some e)) → ⊥
    redefines text CreateTable h = behind h (λ d. behind d altered (λ s. matched _ s.2 altered gives)) (λ x. gives x.2)
    redefines text (CreateIndex at) h = at_place (λ table. Defines mode (MakesIndex text db table)) (slice_get db.schema.tables at) h (λ table x. behind x altered (λ y. gives y.2))
    redefines text CreateView h = behind h altered (λ x. gives x.2)
    redefines text (DropTable at) h = at_place (λ table. Drops (task_on table) mode db.trees) (slice_get db.schema.tables at) h (λ table x. drops (task_on table) mode db.trees x)
    redefines text (DropIndex at) h = at_place (λ index. Defines mode (Leaves (without_index db.schema index.tree) db.trees (RefusesToAlter (RefusesToDropIndex index)))) (slice_get db.schema.indexes at) h (λ index x. behind x (λ r. other r.2 (alter_refusal r.0)) (λ y. gives y.2))
    redefines text (DropView at) h = at_place (λ view. Defines mode (Leaves (without_view db.schema view.tree) db.trees (IsKeptAside view))) (slice_get db.schema.views at) h (λ view x. behind x (λ r. other r.1 refl) (λ y. gives y.2))
    redefines text _ h = refuses h refl

    defining : (text : List ℕ) (returning : Option Returning) (command : Command) → MatchBool (is_some returning) (Refuses {A = Tally × Database} InvalidQuery (Err (Some e))) (Redefines limit mode params db text command (Err (Some e))) → ⊥
    defining text returning command h = matched (is_some returning) h (λ x. refuses x refl) (redefines text command)

    does : (text : List ℕ) (returning : Option Returning) (command : Command) → Does limit mode params db text returning command (Err (Some e)) → ⊥
    does text returning (Insert at from) h = at_place (λ table. OnRows (task_on table) mode returning (Insert at from) db.trees) (slice_get db.schema.tables at) h (λ table x. on_rows (task_on table) mode returning (Insert at from) db.trees x)
    does text returning (InsertOr at way from clauses) h = at_place (λ table. OnRows (task_on table) mode returning (InsertOr at way from clauses) db.trees) (slice_get db.schema.tables at) h (λ table x. on_rows (task_on table) mode returning (InsertOr at way from clauses) db.trees x)
    does text returning (Update at q) h = at_place (λ table. OnRows (task_on table) mode returning (Update at q) db.trees) (slice_get db.schema.tables at) h (λ table x. on_rows (task_on table) mode returning (Update at q) db.trees x)
    does text returning (Delete at q) h = at_place (λ table. OnRows (task_on table) mode returning (Delete at q) db.trees) (slice_get db.schema.tables at) h (λ table x. on_rows (task_on table) mode returning (Delete at q) db.trees x)
    does text returning command h = defining text returning command h

  -- ---- a statement in a transaction

  module _ (text : List ℕ) (params : Row) (old new : State) where
    of_run : (c : Compiled) (values : Row) → RunsCommand old new text c values (Err e) → new.in_transaction ≡ false
    of_run c values (inl (inl (inl h), _)) = absurd (other h.0 refl)
    of_run c values (inl (inl (inr h), _)) = absurd (other h.0 refl)
    of_run c values (inl (inr may, _)) = absurd (does old.step_limit (mode_of old) values old.now (text_of text c) c.returning c.command may.1)
    of_run c values (inr fails) = fails.3.autocommit

    not_run : IsNotRun old new text params e → new.in_transaction ≡ false
    unfolding IsNotRun
    not_run (inl (inl h, _)) = absurd (other h.2 refl)
    not_run (inl (inr (c, _, inl h), _)) = absurd (other h.1 refl)
    not_run (inl (inr (c, _, inr (inl h)), _)) = absurd (other h.1 refl)
    not_run (inl (inr (c, _, inr (inr h)), _)) = absurd (other h.1 refl)
    not_run (inr fails) = fails.3.autocommit

    -- told as want of memory, its error undid the transaction
    undone : ExecutesInside 0 text params old new (Err e) → new.in_transaction ≡ false
    unfolding ExecutesIn
    undone (inl (inl h, _)) = not_run h
    undone (inl (inr h, _)) = matched (shows_rows false h.0) h.2 (λ x. absurd (returned x.0 refl)) (of_run h.0 (timed params h.0.formats h.1.now))
    undone (inr h) = absurd (other h.1 refl)

    of_show : (c : Compiled) (values : Row) (how : Option Returning) → FailsToShow old new text c values e how → new.in_transaction ≡ false
    of_show c values None h = absurd (read old.step_limit c.command h.0 values h.2)
    of_show c values (Some what) h = of_run c values h

    -- the same of one that shows rows
    unshown : FailsToQuery text params old new e ⊎ IsTooLate text params old new e → new.in_transaction ≡ false
    unfolding FailsToQuery
    unshown (inl (inl h)) = not_run h
    unshown (inl (inr h)) = of_show h.0 (timed params h.0.formats h.1.now) h.0.returning h.2
    unshown (inr late) = absurd (other late.4 refl)

-- ---- calls

-- a call that carried out one statement
pub undoes_only : {T : Type 0} (text : List ℕ) (params : Row) (written : Result ℕ Error) (r : Result T StoreFault) (old new : State) → OnOk written (IsOk r) → IfErr written (λ e. r ≡ Err (store_fault e))
    → Survives old new (λ _. ⊥) → IfClean IsInside old → (HasCleanDisk new → IsTrue old.in_transaction → ExecutesInside 0 text params old new written) → Undoes new r
undoes_only text params written (Ok x) old new went fault survives inside ran clean = tt
undoes_only text params (Ok n) (Err f) old new went fault survives inside ran clean = absurd (let no = went in cc)
undoes_only text params (Err e) (Err f) old new went fault survives inside ran clean = λ is.
    undone e (sym (fault_alike fault) ∙ is) text params old new (ran clean (inside (omega (arith, survives.clean))))

-- one that showed rows, and told `Store` where they weren't those that were asked for
pub undoes_showing : {X T : Type 0} (text : List ℕ) (params : Row) (Q : X → Type 0) (answer : Result X Error) (r : Result T StoreFault) (old new : State) → IfErr answer (λ e. r ≡ Err (store_fault e))
    → IfOk answer (λ v. IfErr r (λ fault. (fault ≡ Store) × Q v)) → (HasCleanDisk new → IfErr answer (λ e. FailsToQuery text params old new e ⊎ IsTooLate text params old new e)) → Undoes new r
undoes_showing text params Q answer (Ok x) old new fault another err clean = tt
undoes_showing text params Q (Ok v) (Err f) old new fault another err clean = λ is. absurd (let no : Store ≡ Memory = sym another.0 ∙ is in cc)
undoes_showing text params Q (Err e) (Err f) old new fault another err clean = λ is. unshown e (sym (fault_alike fault) ∙ is) text params old new (err clean)

-- one that handed on the fault of its last step
pub undoes_next : {T : Type 0} (r : Result T StoreFault) (new : State) (f : StoreFault) → IsErrAnd r (λ e. e ≡ f) → Undoes {A = Unit {0}} new (Err f) → Undoes new r
undoes_next (Ok x) new f fails h clean = tt
undoes_next (Err e) new f fails h clean = λ is. h clean (sym fails ∙ is)
