-- Statements that make a table, or write rows, whatever tables there are, if they are statements there at all.
use Rattle.std.proofs.Common.{◌≡◌, inl, inr, ℕ, List, [], ◌∷◌, ◌++◌, Bool, true, false, not, if◌then◌else◌, length, ◌==◌, ◌&&◌, Option, None, Ok, Err, Result, IsTrue, refl, sym, ap, subst, arith}
use Rattle.std.proofs.Math.Dec.{leb}
use Rattle.std.proofs.lemmas.Bool.{leb-true}
use Rattle.std.specs.Option.{option_or}
use Rattle.std.specs.Result.{IsErrAnd}
use Rattle.sqlite.specs.declared.error.Error.{Error}
use Rattle.sqlite.specs.Effect.{Database}
use Rattle.sqlite.specs.Listing.{understood, if_select, is_select, listing_schema, reads_listing}
use Rattle.sqlite.specs.Order.{Row}
use Rattle.sqlite.specs.Schema.{Schema}
use Rattle.sqlite.specs.State.{State, HasCleanDisk, Survives, ExecutesInside, IsNoStatement, IsStatement}
use Rattle.sqlite_ast.specs.declared.CreateTable.{CreateTable}
use Rattle.sqlite_ast.specs.declared.Conflict.TheVariants as conflict
use Rattle.sqlite_ast.specs.declared.Expr.{Expr}
use Rattle.sqlite_ast.specs.declared.Rows.{Rows}
use Rattle.sqlite_ast.specs.declared.Statement.{Statement}
use Rattle.sqlite_ast.specs.declared.Statement.TheVariants as written
use Rattle.sqlite_resolve.specs.Compile.{first, compiled, planned, meaning, returning, command, shows, update, delete, insert, insert_or_abort, new_rows, create_table, creates, is_reserved, is_attached, target, with_command}
use Rattle.sqlite_resolve.specs.Define as define
use Rattle.sqlite_resolve.specs.Body.{table_at}
use Rattle.sqlite_resolve.specs.Program.{program}
use Rattle.sqlite_resolve.specs.Write.{updated, deleted}
use Rattle.sqlite_resolve.specs.Lowering.{Checked, and_then}
use Rattle.sqlite_resolve.specs.Scope.{Name}
use Rattle.sqlite_resolve.specs.declared.compiled.Compiled.{Compiled}
use Rattle.sqlite_resolve.specs.declared.error.CompileError.{CompileError}
use Rattle.sqlite_resolve.specs.declared.error.CompileError.TheVariants.{Exists, Misuse, Unsupported}
use Rattle.sqlite_schema.specs.declared.command.Command.{Command}
use Rattle.sqlite_schema.specs.declared.command.Command.TheVariants.{CreateTable as MakeTable, Insert, Update, Delete, Nothing}
use Rattle.sqlite_schema.specs.declared.command.Returning.{Returning}
use Rattle.sqlite_schema.specs.declared.schema.Table.{Table}
use Rattle.sqlite_schema.specs.Names.{index_named, table_named, view_named}
use Rattle.sqlite_syntax.specs.declared.statement.Parsed.{Parsed}
use Rattle.sqlite_tied.specs.Compute.{everything}
use Rattle.up_tables.specs.Making.{IsNotTaken, StopsAtOne, TriesAnywhere, alone, drop_keys_text, same_numbers_text, set_schema_text}
use Rattle.up_tables.specs.Stands.{IfClean, IsInside}
use Rattle.up_tables.specs.Tables.{retired_text, image_sha512_text, image_repository_text, retired_vehicle_text}
use Rattle.up_tables.specs.Tried.{Makes}
use Rattle.up_tables.proofs.MakingLemmas.{is_making, tries_on, tries_till, tries_to}

-- ---- the command

abbrev MakesAlone : Checked Command → Type 0
MakesAlone (Ok c) = is_making c ≡ true
MakesAlone (Err e) = Unit {0}

alone_then : {A : Type 0} (r : Checked A) (f : A → Checked Command) → ((x : A) → MakesAlone (f x)) → MakesAlone (and_then r f)
alone_then (Ok x) f h = h x
alone_then (Err e) f h = tt

sets : (schema : Schema) (name : Name) (to : List (Name × Expr)) (test : Option Expr) → MakesAlone (update schema name to test)
unfolding update
sets schema name to test =
    alone_then (target schema name) _ (λ at. alone_then (table_at schema at) _ (λ table. alone_then (updated schema at table to test) _ (λ d. alone_then (program schema [] d) (λ p. Ok (Update at p)) (λ p. refl))))

removes : (schema : Schema) (name : Name) (test : Option Expr) → MakesAlone (delete schema name test)
unfolding delete
removes schema name test =
    alone_then (target schema name) _ (λ at. alone_then (table_at schema at) _ (λ table. alone_then (deleted schema at table test) _ (λ d. alone_then (program schema [] d) (λ p. Ok (Delete at p)) (λ p. refl))))

inserts : (schema : Schema) (base : ℕ) (name : Name) (columns : List Name) (rows : Rows) → MakesAlone (insert_or_abort schema base name columns rows [])
unfolding insert_or_abort insert
inserts schema base name columns rows =
    alone_then (target schema name) _ (λ at. alone_then (table_at schema at) _ (λ table. alone_then (new_rows schema table base columns rows) (λ s. Ok (Insert at s)) (λ s. refl)))

abbrev IsNew : Checked Bool → Type 0
IsNew (Ok b) = b ≡ true
IsNew (Err e) = Unit {0}

new_by : (a b c : Bool) → IsNew (if a then Err Misuse else (if b then Err Exists else (if c then (if false then Ok false else Err Exists) else Ok true)))
new_by true b c = tt
new_by false true c = tt
new_by false false true = tt
new_by false false false = refl

creates_new : (if_missing : Bool) → if_missing ≡ false → (name : Name) (same other : Option ℕ) → IsNew (creates if_missing name same other)
unfolding creates
creates_new true is name same other = absurd (let e = is in cc)
creates_new false is name same other = new_by (is_reserved name) _ _

new_then : (r : Checked Bool) (c : Checked Command) → IsNew r → MakesAlone c → MakesAlone (and_then r (λ is_new. if is_new then c else Ok Nothing))
new_then (Ok true) c is h = h
new_then (Ok false) c is h = absurd (let e = is in cc)
new_then (Err e) c is h = tt

either : (b : Bool) (e : CompileError) (c : Checked Command) → MakesAlone c → MakesAlone (if b then Err e else c)
either true e c h = tt
either false e c h = h

made_by : (defined : Checked Table) (b : Table → Bool) (e : CompileError) → MakesAlone (and_then defined (λ t. if b t then Ok MakeTable else Err e))
made_by (Ok t) b e = go (b t)
  where
    go : (b : Bool) → MakesAlone (if b then Ok MakeTable else Err e)
    go true = refl
    go false = tt
made_by (Err f) b e = tt

makes : (schema : Schema) (formats : List Name) (def : CreateTable) → def.if_missing ≡ false → MakesAlone (create_table schema formats def)
unfolding create_table
makes schema formats def is =
    either (is_attached schema def.name) Unsupported _ (new_then (creates def.if_missing def.name (option_or (table_named schema def.name) (view_named schema def.name)) (index_named schema def.name)) _
    (creates_new def.if_missing is def.name _ _) (made_by (define.table formats def) (λ t. length t.computed == length t.stamps.places && not def.resolves) Unsupported))

-- ---- the statement

-- it makes a table, whatever is there, puts in rows, sets some, or takes some away, and shows none
abbrev is_alone : Statement → Bool
is_alone (written.Insert conflict.Abort name columns rows [] []) = true
is_alone (written.Update name to test []) = true
is_alone (written.Delete name test []) = true
is_alone (written.CreateTable def) = not def.if_missing
is_alone _ = false

abbrev Plan : Type 0
Plan = List Name × (Command × Option Returning)

abbrev PlansAlone : Checked Plan → Type 0
PlansAlone (Ok plan) = (is_making plan.1.0 ≡ true) × (plan.1.1 ≡ None)
PlansAlone (Err e) = Unit {0}

planned_by : (formats : List Name) (r : Checked Command) → MakesAlone r → PlansAlone (and_then (and_then r (λ c. Ok (c, None))) (λ found. Ok (formats, found)))
planned_by formats (Ok c) h = (h, refl)
planned_by formats (Err e) h = tt

plans : (schema : Schema) (times formats : List Name) (base : ℕ) (statement : Statement) → is_alone statement ≡ true
    → PlansAlone (and_then (and_then (returning schema base statement) (λ shown. and_then (command schema formats base statement) (λ c. Ok (c, shown)))) (λ found. Ok (times, found)))
unfolding returning command shows
plans schema times formats base (written.Insert conflict.Abort name columns rows [] []) is = planned_by times (insert_or_abort schema base name columns rows []) (inserts schema base name columns rows)
plans schema times formats base (written.Update name to test []) is = planned_by times (update schema name to test) (sets schema name to test)
plans schema times formats base (written.Delete name test []) is = planned_by times (delete schema name test) (removes schema name test)
plans schema times formats base (written.CreateTable def) is = planned_by times (create_table schema formats def) (makes schema formats def (missing def.if_missing is))
  where
    missing : (b : Bool) → not b ≡ true → b ≡ false
    missing false e = refl
    missing true e = absurd (let no = e in cc)
plans schema times formats base _ is = absurd (let e = is in cc)

-- ---- the text

-- it makes a table, puts in rows, sets some or takes some away, shows none, wants no value, and is the whole text
abbrev pub IsAlone : List ℕ → Checked Compiled → Type 0
IsAlone text (Ok c) = (is_making c.command ≡ true) × (c.returning ≡ None) × (c.names ≡ []) × (leb (length text) c.tail ≡ true)
IsAlone text (Err e) = Unit {0}

abbrev pub IsReadAlone : List ℕ → Checked Parsed → Type 0
IsReadAlone text (Ok p) = (is_alone p.statement ≡ true) × (p.names ≡ []) × (leb (length text) p.tail ≡ true)
IsReadAlone text (Err e) = Unit {0}

by_plan : (text : List ℕ) (p : Parsed) (r : Checked Plan) → PlansAlone r → IsReadAlone text (Ok p) → IsAlone text (and_then r (λ plan. Ok (with_command p plan)))
by_plan text p (Ok plan) h read = (h.0, h.1, read.1, read.2)
by_plan text p (Err e) h read = tt

by_reading : (schema : Schema) (text : List ℕ) (r : Checked Parsed) → IsReadAlone text r → IsAlone text (and_then r (λ p. and_then (planned schema p) (λ plan. Ok (with_command p plan))))
unfolding planned meaning
by_reading schema text (Ok p) read = by_plan text p _ (plans schema _ p.formats _ p.statement read.0) read
by_reading schema text (Err e) read = tt

not_select : (k : Command) → is_making k ≡ true → is_select k ≡ false
not_select MakeTable h = refl
not_select (Insert at from) h = refl
not_select (Update at q) h = refl
not_select (Delete at q) h = refl
not_select _ h = absurd (let e = h in cc)

by_listing : (text : List ℕ) (b : Bool) (r s : Checked Compiled) → IsAlone text r → IsAlone text s → IsAlone text (if b then if_select r else s)
by_listing text true (Ok c) s h k = rw (not_select c.command h.0) tt
by_listing text true (Err e) s h k = tt
by_listing text false r s h k = k

alone_by : (text : List ℕ) → IsReadAlone text (first text) → (schema : Schema) → IsAlone text (compiled schema text)
unfolding compiled
alone_by text read schema = by_reading schema text (first text) read

pub alone_anywhere : (text : List ℕ) → IsReadAlone text (first text) → (schema : Schema) → IsAlone text (understood schema text)
unfolding understood
alone_anywhere text read schema = by_listing text (reads_listing schema text) _ _ (alone_by text read listing_schema) (alone_by text read schema)

-- those that raise the tables
pub raising_read : IsReadAlone retired_text (first retired_text) × IsReadAlone image_sha512_text (first image_sha512_text) × IsReadAlone image_repository_text (first image_repository_text)
    × IsReadAlone retired_vehicle_text (first retired_vehicle_text) × IsReadAlone same_numbers_text (first same_numbers_text) × IsReadAlone drop_keys_text (first drop_keys_text) × IsReadAlone set_schema_text (first set_schema_text)
unfolding first everything
raising_read = ((refl, refl, refl), (refl, refl, refl), (refl, refl, refl), (refl, refl, refl), (refl, refl, refl), (refl, refl, refl), (refl, refl, refl))

-- ---- calls

-- over any tables
pub tries_anywhere : (text : List ℕ) → ((schema : Schema) → IsAlone text (understood schema text)) → (old new : State) (r : Result ℕ Error) → IfClean IsInside old → Survives old new (λ _. ⊥)
    → (HasCleanDisk new → IsTrue old.in_transaction → ExecutesInside 0 text [] old new r) → HasCleanDisk new → TriesAnywhere (alone text) old new r
tries_anywhere text it old new r inside survives ran clean =
    tries_till StopsAtOne text old new (λ is_open c statement. let h = told c statement in (h.0, h.1)) (λ is_open e none. inl (inl (taken e none))) (λ refuses. inl (inr refuses)) r (ran clean (inside (omega (arith, clean, survives.clean))))
  where
    told : (c : Compiled) → IsStatement old text [] c → IsAlone text (Ok c)
    told c statement = subst (IsAlone text) statement.is (it old.now.schema)

    taken : (e : Error) → IsNoStatement old text [] e → IsNotTaken text old.now
    taken e (inl h) = inl (h.0, h.1)
    taken e (inr (c, is, inl cut)) = let h = subst (IsAlone text) is (it old.now.schema) in absurd (cut.0 (leb-true (length text) c.tail h.3))
    taken e (inr (c, is, inr (inl more))) = let h = subst (IsAlone text) is (it old.now.schema) in absurd (more.0 (sym (ap length h.2)))
    taken e (inr (c, is, inr (inr timed))) = inr (c, is, timed.0)

-- ---- several, one after another

stops_first : (limit : Option ℕ) (a b : List (List ℕ × Row)) (db : Database) → StopsAtOne limit a db → StopsAtOne limit (a ++ b) db
stops_first limit [] b db h = absurd h
stops_first limit (it ∷ more) b db (inl h) = inl h
stops_first limit (it ∷ more) b db (inr h) = inr (h.0, h.1, stops_first limit more b h.0 h.2)

stops_then : (limit : Option ℕ) (a b : List (List ℕ × Row)) (db mid : Database) → Makes limit a db mid → StopsAtOne limit b mid → StopsAtOne limit (a ++ b) db
stops_then limit [] b db mid is h = subst (StopsAtOne limit b) is h
stops_then limit (it ∷ more) b db mid went h = inr (went.0, went.1, stops_then limit more b went.0 mid went.2 h)

pub anywhere_on : (a b : List (List ℕ × Row)) (old mid new : State) (count : ℕ) (r : Result ℕ Error) → Survives old mid (λ _. ⊥) → Survives mid new (λ _. ⊥) → (HasCleanDisk mid → TriesAnywhere a old mid (Ok count))
    → (HasCleanDisk new → TriesAnywhere b mid new r) → HasCleanDisk new → TriesAnywhere (a ++ b) old new r
anywhere_on a b old mid new count r first second one two clean =
    let before : HasCleanDisk mid = omega (arith, clean, second.clean) in
    tries_on StopsAtOne stops_then a b old mid new r first second before (one before) (two clean)

pub anywhere_to : (a b : List (List ℕ × Row)) (old new : State) (e : Error) (r : Result ℕ Error) → IsErrAnd r (λ f. f ≡ e) → TriesAnywhere a old new (Err e) → TriesAnywhere (a ++ b) old new r
anywhere_to = tries_to StopsAtOne stops_first
