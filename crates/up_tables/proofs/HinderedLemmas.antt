-- Why the query on `meta` was not answered.
use Rattle.std.proofs.Common.{◌≡◌, ◌⊎◌, inl, inr, ℕ, List, [], Option, None, Ok, Err, Result, IfErr, IsSome, Bool, true, false, refl, sym, ap, subst, ◌∙◌}
use Rattle.std.specs.Prelude.{⊤}
use Rattle.sqlite.specs.declared.error.Error.{Error}
use Rattle.sqlite.specs.Clock.{timed}
use Rattle.sqlite.specs.Effect.{Database, RefusesToRead}
use Rattle.sqlite.specs.Listing.{understood, reads_listing, listing_schema, if_select, is_select}
use Rattle.sqlite.specs.Order.{Row}
use Rattle.sqlite.specs.State.{State, HasCleanDisk, HasCause, FailsToShow, FailsToQuery, IsNotRun, IsNoStatement, IsTooLate, store_error}
use Rattle.sqlite_resolve.specs.Compile.{compiled, first, planned, meaning, returning, command, with_command}
use Rattle.sqlite_resolve.specs.Lowering.{Checked, and_then}
use Rattle.sqlite_resolve.specs.declared.compiled.Compiled.{Compiled}
use Rattle.sqlite_resolve.specs.declared.error.CompileError.{CompileError}
use Rattle.sqlite_resolve.specs.declared.error.CompileError.TheVariants.{NoSuchTable}
use Rattle.sqlite_schema.specs.declared.command.Command.{Command}
use Rattle.sqlite_schema.specs.declared.command.Command.TheVariants.{Select, Rows}
use Rattle.sqlite_schema.specs.declared.command.Returning.{Returning}
use Rattle.sqlite_schema.specs.declared.schema.Schema.{Schema}
use Rattle.sqlite_syntax.specs.declared.statement.Parsed.{Parsed}
use Rattle.sqlite_tied.specs.Compute.{everything}
use Rattle.sqlite_trees.specs.declared.error.StoreError.{StoreError}
use Rattle.sqlite_trees.specs.declared.error.StoreError.TheVariants.{OutOfMemory, Io, Corrupt, Full, Broken, Unstorable}
use Rattle.up_tables.specs.declared.open.OpenFault.TheVariants as opening
use Rattle.up_tables.specs.Faults.{open_fault}
use Rattle.up_tables.specs.Ours.{find_meta_text, is_refused, IsHindered}
use Rattle.up_tables.specs.Stands.{IfClean, IsInside}

-- ---- it is a query, whatever the schema

abbrev NeverReturns : Result Compiled CompileError → Type 0
NeverReturns (Ok c) = c.returning ≡ None
NeverReturns (Err e) = ⊤

abbrev IsQuery : Checked Parsed → Type 0
IsQuery (Ok p) = (schema : Schema) (base : ℕ) → returning schema base p.statement ≡ Ok None
IsQuery (Err e) = ⊤

find_is_query : IsQuery (first find_meta_text)
unfolding everything
find_is_query = λ schema base. refl

none_shown : (p : Parsed) (formats : List (List ℕ)) (shown : Checked (Option Returning)) (c : Checked Command) → shown ≡ Ok None
    → NeverReturns (and_then (and_then (and_then shown (λ s. and_then c (λ x. Ok (x, s)))) (λ found. Ok (formats, found))) (λ plan. Ok (with_command p plan)))
none_shown p formats (Err e) c is = tt
none_shown p formats (Ok s) (Err e) is = tt
none_shown p formats (Ok s) (Ok x) is = let e = is in cc

none_planned : (schema : Schema) (r : Checked Parsed) → IsQuery r → NeverReturns (and_then r (λ p. and_then (planned schema p) (λ plan. Ok (with_command p plan))))
unfolding planned meaning
none_planned schema (Err e) query = tt
none_planned schema (Ok p) query = none_shown p _ (returning schema _ p.statement) (command schema p.formats _ p.statement) (query schema _)

none_compiled : (schema : Schema) → NeverReturns (compiled schema find_meta_text)
unfolding compiled
none_compiled schema = none_planned schema (first find_meta_text) find_is_query

none_of_select : (r : Result Compiled CompileError) → NeverReturns r → NeverReturns (if_select r)
none_of_select (Err e) none = tt
none_of_select (Ok c) none = elim (is_select c.command) as (λ b. NeverReturns (Rattle.std.specs.Prelude.if◌then◌else◌ b (Ok c) (Err NoSuchTable))) [ true ↦ none | false ↦ tt ]

never_returns : (schema : Schema) → NeverReturns (understood schema find_meta_text)
unfolding understood
never_returns schema = elim (reads_listing schema find_meta_text) as (λ b. NeverReturns (Rattle.std.specs.Prelude.if◌then◌else◌ b (if_select (compiled listing_schema find_meta_text)) (compiled schema find_meta_text))) [
  | true ↦ none_of_select (compiled listing_schema find_meta_text) (none_compiled listing_schema)
  | false ↦ none_compiled schema
]

shows_none : (s : State) (c : Compiled) → understood s.now.schema find_meta_text ≡ Ok c → c.returning ≡ None
shows_none s c is = subst NeverReturns is (never_returns s.now.schema)

-- ---- which faults are no refusals

clash : {b : Bool} → b ≡ true → b ≡ false → ⊥
clash {b} h k = absurd (let e : true ≡ false = sym h ∙ k in cc)

no_statement : (s : State) (e : Error) → IsNoStatement s find_meta_text [] e → is_refused e ≡ false → ⊥
no_statement s e (inl h) kept = clash (ap is_refused h.2) kept
no_statement s e (inr h) kept = elim h.2 [
  | inl cut ↦ clash (ap is_refused cut.1) kept
  | inr more ↦ elim more [ inl given ↦ clash (ap is_refused given.1) kept | inr now ↦ clash (ap is_refused now.1) kept ]
]

by_store : (old new : State) (cause : StoreError) (e : Error) → e ≡ store_error cause → HasCause old new ⊥ cause → open_fault e ≡ opening.Store → IsHindered old new
by_store old new OutOfMemory e is has told = absurd (let no : opening.Memory ≡ opening.Store = sym (ap open_fault is) ∙ told in cc)
by_store old new Io e is has told = inl (inr has)
by_store old new Corrupt e is has told = inl (inr has)
by_store old new Full e is has told = inl (inr has)
by_store old new Broken e is has told = inl (inl has)
by_store old new Unstorable e is has told = absurd has

is_limited : (limit : Option ℕ) (command : Command) (db : Database) (params : Row) (e : Error) → is_refused e ≡ false → RefusesToRead limit command db params e → IsSome limit
is_limited limit (Select q names) db params e kept (inl h) = absurd (clash (ap is_refused h.0) kept)
is_limited limit (Select q names) db params e kept (inr (inl h)) = absurd (clash (ap is_refused h.0) kept)
is_limited limit (Select q names) db params e kept (inr (inr h)) = h.1
is_limited limit (Rows values width names) db params e kept h = h.1
is_limited limit _ db params e kept h = absurd (clash (ap is_refused h) kept)

hinders : (old new : State) (e : Error) → is_refused e ≡ false → open_fault e ≡ opening.Store → FailsToQuery find_meta_text [] old new e → IsHindered old new
unfolding FailsToQuery IsNotRun
hinders old new e kept told (inl (inl h)) = absurd (no_statement old e h.0 kept)
hinders old new e kept told (inl (inr h)) = by_store old new h.0 e h.1 h.2 told
hinders old new e kept told (inr h) =
    let it : FailsToShow old new find_meta_text h.0 (timed [] h.0.formats h.1.now) e None = subst (FailsToShow old new find_meta_text h.0 (timed [] h.0.formats h.1.now) e) (shows_none old h.0 h.1.is) h.2 in
    inr (is_limited old.step_limit h.0.command it.0 (timed [] h.0.formats h.1.now) e kept it.2)

pub hindered_in : {X : Type 0} (r : Result X Error) (old new : State) → IfClean IsInside old → HasCleanDisk old → IfErr r (λ e. FailsToQuery find_meta_text [] old new e ⊎ IsTooLate find_meta_text [] old new e)
    → IfErr r (λ e. is_refused e ≡ false → open_fault e ≡ opening.Store → IsHindered old new)
hindered_in (Ok rows) old new inside clean h = tt
hindered_in (Err e) old new inside clean (inl h) = λ kept told. hinders old new e kept told h
hindered_in (Err e) old new inside clean (inr late) = absurd (let no = sym late.3 ∙ inside clean in cc)

-- ---- from the transaction to the connection
