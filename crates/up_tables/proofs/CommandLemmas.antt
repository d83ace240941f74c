-- Of which kind a statement is, whatever tables there are, if it is a statement there at all: one that writes rows, or a query.
use Rattle.std.proofs.Common.{◌≡◌, ℕ, List, [], Bool, true, false, if◌then◌else◌, ◌==◌, length, Option, None, Ok, Err, IfOk, refl}
use Rattle.sqlite.specs.Listing.{understood, if_select, is_select, listing_schema, reads_listing}
use Rattle.sqlite.specs.Schema.{Schema}
use Rattle.sqlite_ast.specs.declared.Conflict.TheVariants as conflict
use Rattle.sqlite_ast.specs.declared.Expr.{Expr}
use Rattle.sqlite_ast.specs.declared.Rows.{Rows}
use Rattle.sqlite_ast.specs.declared.Statement.{Statement}
use Rattle.sqlite_ast.specs.declared.Statement.TheVariants as written
use Rattle.sqlite_ast.specs.declared.Upsert.{Upsert}
use Rattle.sqlite_resolve.specs.Compile.{first, compiled, planned, meaning, returning, command, target, new_rows, insert, insert_or, insert_or_abort, update, delete, with_command}
use Rattle.sqlite_resolve.specs.Body.{table_at}
use Rattle.sqlite_resolve.specs.Given.{upserts}
use Rattle.sqlite_resolve.specs.Program.{program}
use Rattle.sqlite_resolve.specs.Write.{updated, deleted}
use Rattle.sqlite_resolve.specs.Lowering.{Checked, and_then}
use Rattle.sqlite_resolve.specs.Scope.{Name}
use Rattle.sqlite_resolve.specs.declared.compiled.Compiled.{Compiled}
use Rattle.sqlite_resolve.specs.declared.error.CompileError.TheVariants.{NoSuchTable}
use Rattle.sqlite_schema.specs.declared.command.Command.{Command}
use Rattle.sqlite_schema.specs.declared.command.Command.TheVariants.{Insert, InsertOr, Update, Delete}
use Rattle.sqlite_schema.specs.declared.command.Conflict.{Conflict}
use Rattle.sqlite_schema.specs.declared.command.Conflict.TheVariants as how
use Rattle.sqlite_schema.specs.declared.command.Returning.{Returning}
use Rattle.sqlite_syntax.specs.declared.statement.Parsed.{Parsed}

-- ---- the command

-- it puts in rows, sets some, or takes some away
abbrev pub is_write : Command → Bool
is_write (Insert at from) = true
is_write (InsertOr at way from clauses) = true
is_write (Update at q) = true
is_write (Delete at q) = true
is_write _ = false

abbrev Writes : Checked Command → Type 0
Writes r = IfOk r (λ c. is_write c ≡ true)

writes_then : {A : Type 0} (r : Checked A) (f : A → Checked Command) → ((x : A) → Writes (f x)) → Writes (and_then r f)
writes_then (Ok x) f h = h x
writes_then (Err e) f h = tt

either : (b : Bool) (r s : Checked Command) → Writes r → Writes s → Writes (if b then r else s)
either true r s h k = h
either false r s h k = k

inserts : (schema : Schema) (base : ℕ) (name : Name) (columns : List Name) (rows : Rows) → Writes (insert schema base name columns rows)
unfolding insert
inserts schema base name columns rows =
    writes_then (target schema name) _ (λ at. writes_then (table_at schema at) _ (λ table. writes_then (new_rows schema table base columns rows) (λ s. Ok (Insert at s)) (λ s. refl)))

inserts_or : (schema : Schema) (base : ℕ) (way : Conflict) (name : Name) (columns : List Name) (rows : Rows) (clauses : List Upsert) → Writes (insert_or schema base way name columns rows clauses)
unfolding insert_or
inserts_or schema base way name columns rows clauses =
    writes_then (target schema name) _ (λ at. writes_then (table_at schema at) _ (λ table. writes_then (new_rows schema table base columns rows) _ (λ s.
    writes_then (upserts schema at table base clauses) (λ found. Ok (InsertOr at way s found)) (λ found. refl))))

inserts_or_abort : (schema : Schema) (base : ℕ) (name : Name) (columns : List Name) (rows : Rows) (clauses : List Upsert) → Writes (insert_or_abort schema base name columns rows clauses)
unfolding insert_or_abort
inserts_or_abort schema base name columns rows clauses =
    either (length clauses == 0) _ _ (inserts schema base name columns rows) (inserts_or schema base how.Abort name columns rows clauses)

sets : (schema : Schema) (name : Name) (to : List (Name × Expr)) (test : Option Expr) → Writes (update schema name to test)
unfolding update
sets schema name to test =
    writes_then (target schema name) _ (λ at. writes_then (table_at schema at) _ (λ table. writes_then (updated schema at table to test) _ (λ d. writes_then (program schema [] d) (λ p. Ok (Update at p)) (λ p. refl))))

removes : (schema : Schema) (name : Name) (test : Option Expr) → Writes (delete schema name test)
unfolding delete
removes schema name test =
    writes_then (target schema name) _ (λ at. writes_then (table_at schema at) _ (λ table. writes_then (deleted schema at table test) _ (λ d. writes_then (program schema [] d) (λ p. Ok (Delete at p)) (λ p. refl))))

-- ---- the statement

-- it puts in rows, sets some, or takes some away
abbrev pub is_row_written : Statement → Bool
is_row_written (written.Insert way name columns rows clauses shown) = true
is_row_written (written.Update name to test shown) = true
is_row_written (written.Delete name test shown) = true
is_row_written _ = false

writes : (schema : Schema) (formats : List Name) (base : ℕ) (statement : Statement) → is_row_written statement ≡ true → Writes (command schema formats base statement)
unfolding command
writes schema formats base (written.Insert conflict.Abort name columns rows clauses shown) is = inserts_or_abort schema base name columns rows clauses
writes schema formats base (written.Insert conflict.Ignore name columns rows clauses shown) is = inserts_or schema base how.Ignore name columns rows clauses
writes schema formats base (written.Insert conflict.Replace name columns rows clauses shown) is = inserts_or schema base how.Replace name columns rows clauses
writes schema formats base (written.Update name to test shown) is = sets schema name to test
writes schema formats base (written.Delete name test shown) is = removes schema name test
writes schema formats base _ is = absurd (let e = is in cc)

-- it asks for rows
abbrev pub is_row_asked : Statement → Bool
is_row_asked (written.Select s) = true
is_row_asked _ = false

shows_none : (schema : Schema) (base : ℕ) (statement : Statement) → is_row_asked statement ≡ true → IfOk (returning schema base statement) (λ shown. shown ≡ None)
unfolding returning
shows_none schema base (written.Select s) is = refl
shows_none schema base _ is = absurd (let e = is in cc)

abbrev Plan : Type 0
Plan = List Name × (Command × Option Returning)

abbrev PlansWrite : Checked Plan → Type 0
PlansWrite r = IfOk r (λ plan. is_write plan.1.0 ≡ true)

plans_write : (formats : List Name) (shown : Checked (Option Returning)) (c : Checked Command) → Writes c → PlansWrite (and_then (and_then shown (λ s. and_then c (λ k. Ok (k, s)))) (λ found. Ok (formats, found)))
plans_write formats (Ok s) (Ok k) h = h
plans_write formats (Ok s) (Err e) h = tt
plans_write formats (Err e) c h = tt

abbrev PlansQuery : Checked Plan → Type 0
PlansQuery r = IfOk r (λ plan. plan.1.1 ≡ None)

plans_query : (formats : List Name) (shown : Checked (Option Returning)) (c : Checked Command) → IfOk shown (λ s. s ≡ None) → PlansQuery (and_then (and_then shown (λ s. and_then c (λ k. Ok (k, s)))) (λ found. Ok (formats, found)))
plans_query formats (Ok s) (Ok k) h = h
plans_query formats (Ok s) (Err e) h = tt
plans_query formats (Err e) c h = tt

-- ---- the text

planned_as : (P : Compiled → Type 0) (p : Parsed) (r : Checked Plan) → IfOk r (λ plan. P (with_command p plan)) → IfOk (and_then r (λ plan. Ok (with_command p plan))) P
planned_as P p (Ok plan) h = h
planned_as P p (Err e) h = tt

compiled_as : (P : Compiled → Type 0) (Q : Statement → Type 0) (schema : Schema) → ((p : Parsed) → Q p.statement → IfOk (planned schema p) (λ plan. P (with_command p plan))) → (r : Checked Parsed) → IfOk r (λ p. Q p.statement)
    → IfOk (and_then r (λ p. and_then (planned schema p) (λ plan. Ok (with_command p plan)))) P
compiled_as P Q schema h (Ok p) is = planned_as P p (planned schema p) (h p is)
compiled_as P Q schema h (Err e) is = tt

select_as : (P : Compiled → Type 0) (r : Checked Compiled) → IfOk r P → IfOk (if_select r) P
select_as P (Ok c) h = go (is_select c.command)
  where
    go : (b : Bool) → IfOk (if b then Ok c else Err NoSuchTable) P
    go true = h
    go false = tt
select_as P (Err e) h = tt

listing_as : (P : Compiled → Type 0) (b : Bool) (r s : Checked Compiled) → IfOk r P → IfOk s P → IfOk (if b then if_select r else s) P
listing_as P true r s h k = select_as P r h
listing_as P false r s h k = k

-- whatever tables there are
understood_as : (P : Compiled → Type 0) (Q : Statement → Type 0) (text : List ℕ) → ((schema : Schema) (p : Parsed) → Q p.statement → IfOk (planned schema p) (λ plan. P (with_command p plan))) → IfOk (first text) (λ p. Q p.statement)
    → (schema : Schema) → IfOk (understood schema text) P
unfolding understood compiled
understood_as P Q text h read schema =
    listing_as P (reads_listing schema text) _ _ (compiled_as P Q listing_schema (h listing_schema) (first text) read) (compiled_as P Q schema (h schema) (first text) read)

-- the text is read as a statement that puts in rows, sets some, or takes some away
abbrev pub IsRowWritten : List ℕ → Type 0
IsRowWritten text = IfOk (first text) (λ p. is_row_written p.statement ≡ true)

pub writes_anywhere : (text : List ℕ) → IsRowWritten text → (schema : Schema) → IfOk (understood schema text) (λ c. is_write c.command ≡ true)
unfolding planned meaning
writes_anywhere text = understood_as (λ c. is_write c.command ≡ true) (λ s. is_row_written s ≡ true) text (λ schema p is. plans_write _ (returning schema _ p.statement) (command schema p.formats _ p.statement) (writes schema p.formats _ p.statement is))

-- the text is read as a query
abbrev pub IsRowAsked : List ℕ → Type 0
IsRowAsked text = IfOk (first text) (λ p. is_row_asked p.statement ≡ true)

pub asks_anywhere : (text : List ℕ) → IsRowAsked text → (schema : Schema) → IfOk (understood schema text) (λ c. c.returning ≡ None)
unfolding planned meaning
asks_anywhere text = understood_as (λ c. c.returning ≡ None) (λ s. is_row_asked s ≡ true) text (λ schema p is. plans_query _ (returning schema _ p.statement) (command schema p.formats _ p.statement) (shows_none schema _ p.statement is))
