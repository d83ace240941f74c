-- What writes made of the database, one after another, and why they tell `Store`.
use Rattle.std.proofs.Common.{◌≡◌, inl, inr, ℕ, List, [], ◌∷◌, ◌++◌, slice_get, Bool, true, false, MatchBool, Option, Some, None, Ok, Err, Result, IfOk, OnOk, IsTrue, refl, sym, ap, subst, ◌∙◌, arith}
use Rattle.std.specs.Result.{IsOk, IsOkAnd}
use Rattle.sqlite.specs.declared.error.Error.{Error}
use Rattle.sqlite.specs.declared.error.Error.TheVariants.{ExecuteReturnedResults}
use Rattle.sqlite.specs.Does.{Does, Tally, OnRows, AtPlace}
use Rattle.sqlite.specs.Effect.{Database, Reads as ReadsAs}
use Rattle.sqlite.specs.Order.{Row}
use Rattle.sqlite.specs.Rows.{Task}
use Rattle.sqlite.specs.State.{State, HasCleanDisk, Survives, Writes as HasWritten, Executes, ExecutesIn, ExecutesInside, IsStatement, IsUnchanged, Runs, RunsCommand, Shown, ShowsRows, shows_rows, text_of}
use Rattle.sqlite.specs.Table.{Table}
use Rattle.sqlite.specs.Tree.{Trees}
use Rattle.sqlite.specs.Clock.{timed}
use Rattle.sqlite.specs.declared.run.Mode.{Mode}
use Rattle.sqlite_resolve.specs.declared.compiled.Compiled.{Compiled}
use Rattle.sqlite_schema.specs.declared.command.Command.{Command}
use Rattle.sqlite_schema.specs.declared.command.Command.TheVariants.{Insert, InsertOr, Update, Delete}
use Rattle.sqlite_schema.specs.declared.command.Returning.{Returning}
use Rattle.up_tables.specs.Stands.{HasTables, IfClean, IsInside, IsOpen}
use Rattle.up_tables.specs.Tried.{BlamesOne, BlamesRefusal, Makes, MakesOf, Ran, RefusesOne, our_mode}
use Rattle.up_tables.specs.declared.values.StoreFault.{StoreFault}
use Rattle.up_tables.proofs.CreateLemmas.{went, same_value}
use Rattle.up_tables.proofs.CommandLemmas.{IsRowWritten, is_write, writes_anywhere}
use Rattle.up_tables.proofs.RefusalLemmas.{Writes, WritesShowing}

-- ---- statements in their order

-- those of two lists
pub makes_then : (limit : Option ℕ) (these those : List (List ℕ × Row)) (db mid after : Database) → Makes limit these db mid → Makes limit those mid after → Makes limit (these ++ those) db after
makes_then limit [] those db mid after is second = subst (λ d. Makes limit those d after) is second
makes_then limit (it ∷ more) those db mid after first second = (first.0, first.1, makes_then limit more those first.0 mid after first.2 second)

-- one of the first is refused
pub refuses_first : (limit : Option ℕ) (these those : List (List ℕ × Row)) (db : Database) → RefusesOne limit these db → RefusesOne limit (these ++ those) db
refuses_first limit [] those db h = absurd h
refuses_first limit (it ∷ more) those db (inl h) = inl h
refuses_first limit (it ∷ more) those db (inr h) = inr (h.0, h.1, refuses_first limit more those h.0 h.2)

-- the first went through, and one of the others is refused
pub refuses_then : (limit : Option ℕ) (these those : List (List ℕ × Row)) (db mid : Database) → Makes limit these db mid → RefusesOne limit those mid → RefusesOne limit (these ++ those) db
refuses_then limit [] those db mid is second = subst (RefusesOne limit those) is second
refuses_then limit (it ∷ more) those db mid first second = inr (first.0, first.1, refuses_then limit more those first.0 mid first.2 second)

-- ---- a statement that writes

on_rows : (task : Task) (mode : Mode) (returning : Option Returning) (command : Command) (db : Trees) (tally : Tally) (after : Database) → OnRows task mode returning command db (Ok (tally, after)) → after.schema ≡ task.schema
on_rows task mode returning command db tally after h = let rest = went (went (went h).2).2 in ap (λ (p : Tally × Database). p.1.schema) (same_value rest.2)

on_table : (limit : Option ℕ) (mode : Mode) (params : Row) (db : Database) (returning : Option Returning) (command : Command) (tally : Tally) (after : Database) (place : Option Table)
    → AtPlace (λ table. OnRows (record { limit = limit; keys = mode.keys; schema = db.schema; table = table; params = params }) mode returning command db.trees) place (Ok (tally, after)) → after.schema ≡ db.schema
on_table limit mode params db returning command tally after None h = absurd (let e = h in cc)
on_table limit mode params db returning command tally after (Some table) h =
    on_rows (record { limit = limit; keys = mode.keys; schema = db.schema; table = table; params = params }) mode returning command db.trees tally after h

-- it leaves the schema as it is
pub keeps_schema : (limit : Option ℕ) (mode : Mode) (params : Row) (db : Database) (text : List ℕ) (returning : Option Returning) (command : Command) (tally : Tally) (after : Database) → is_write command ≡ true
    → Does limit mode params db text returning command (Ok (tally, after)) → after.schema ≡ db.schema
keeps_schema limit mode params db text returning (Insert at from) tally after is h = on_table limit mode params db returning (Insert at from) tally after (slice_get db.schema.tables at) h
keeps_schema limit mode params db text returning (InsertOr at way from clauses) tally after is h = on_table limit mode params db returning (InsertOr at way from clauses) tally after (slice_get db.schema.tables at) h
keeps_schema limit mode params db text returning (Update at q) tally after is h = on_table limit mode params db returning (Update at q) tally after (slice_get db.schema.tables at) h
keeps_schema limit mode params db text returning (Delete at q) tally after is h = on_table limit mode params db returning (Delete at q) tally after (slice_get db.schema.tables at) h
keeps_schema limit mode params db text returning _ tally after is h = absurd (let e = is in cc)

writes_of : (old new : State) (returning : Option Returning) (command : Command) (text : List ℕ) (params : Row) (count : ℕ) → is_write command ≡ true → Runs old new returning command text params count → HasWritten old new returning command text params count
writes_of old new returning (Insert at from) text params count is h = h
writes_of old new returning (InsertOr at way from clauses) text params count is h = h
writes_of old new returning (Update at q) text params count is h = h
writes_of old new returning (Delete at q) text params count is h = h
writes_of old new returning _ text params count is h = absurd (let e = is in cc)

-- what a statement made of an open connection
pub record HasMade (text : List ℕ) (params : Row) (old new : State) : Type 0 where
  pub was_open : IsTrue old.is_open
  pub made : MakesOf old.step_limit text params old.now new.now
  pub tables : HasTables old → HasTables new

-- it is no query
reads_none : (k : Command) (db : Database) (params : Row) (rows : List Row) → is_write k ≡ true → ReadsAs k db params rows → ⊥
reads_none (Insert at from) db params rows is h = h
reads_none (InsertOr at way from clauses) db params rows is h = h
reads_none (Update at q) db params rows is h = h
reads_none (Delete at q) db params rows is h = h
reads_none _ db params rows is h = absurd (let e = is in cc)

module _ (text : List ℕ) (params : Row) (row : IsRowWritten text) (old new : State) where
  writing : (c : Compiled) → IsStatement old text params c → is_write c.command ≡ true
  writing c statement = subst (λ r. IfOk r (λ it. is_write it.command ≡ true)) statement.is (writes_anywhere text row old.now.schema)

  of_writes : (c : Compiled) (statement : IsStatement old text params c) (count : ℕ) → HasWritten old new c.returning c.command (text_of text c) (timed params c.formats statement.now) count → HasMade text params old new
  of_writes c statement count w = record {
    was_open = w.shown.was_open;
    made = (w.tally, (c, record { is = statement.is; whole = statement.whole; given = statement.given; now = statement.now }, w.changed));
    tables = λ has _. record {
      schema_is = keeps_schema old.step_limit our_mode (timed params c.formats statement.now) old.now (text_of text c) c.returning c.command w.tally new.now (writing c statement) w.changed ∙ (has w.shown.was_open).schema_is;
      sound = w.sound;
      rows = tt;
    };
  }

  of_run : (c : Compiled) (statement : IsStatement old text params c) (count : ℕ) (X : Type 0) (b : Bool) → MatchBool b (◌≡◌ {A = Result ℕ Error} (Ok count) (Err ExecuteReturnedResults) × X) (RunsCommand old new text c (timed params c.formats statement.now) (Ok count))
      → HasMade text params old new
  of_run c statement count X false ran = of_writes c statement count (writes_of old new c.returning c.command _ _ count (writing c statement) ran)
  of_run c statement count X true ran = absurd (let e = ran.0 in cc)

  -- by `execute`
  pub executed : (count : ℕ) → Executes text params old new (Ok count) → HasMade text params old new
  unfolding ExecutesIn
  executed count h = of_run h.0 h.1 count (IsUnchanged old new) (shows_rows false h.0) h.2

  of_shown : (c : Compiled) (statement : IsStatement old text params c) (rows : List Row) (how : Option Returning) → c.returning ≡ how → ShowsRows old new text c (timed params c.formats statement.now) rows how → HasMade text params old new
  of_shown c statement rows None is h = absurd (reads_none c.command h.0 _ rows (writing c statement) h.2)
  of_shown c statement rows (Some what) is h = of_writes c statement h.0 (subst (λ r. HasWritten old new r c.command (text_of text c) (timed params c.formats statement.now) h.0) (sym is) h.1)

  -- by `query_all`
  pub showed : (rows : List Row) → Shown text params old new rows → HasMade text params old new
  unfolding Shown
  showed rows h = of_shown h.0 h.1 rows h.0.returning refl h.2

-- ---- calls

-- a call that carried out one statement by `execute`
pub ran_only : {T E : Type 0} (text : List ℕ) (params : Row) (command : Command) → Writes text params command → (written : Result ℕ Error) (r : Result T E) (old new : State) → OnOk r (IsOk written)
    → Survives old new (λ _. ⊥) → IfClean IsInside old → (HasCleanDisk new → IsTrue old.in_transaction → ExecutesInside 0 text params old new written) → Ran ((text, params) ∷ []) old new r
ran_only text params command it written (Err f) old new done survives inside ran clean = tt
ran_only text params command it (Err e) (Ok x) old new done survives inside ran clean = absurd (let e' = done in cc)
ran_only text params command it (Ok count) (Ok x) old new done survives inside ran clean =
    let before : HasCleanDisk old = omega (arith, survives.clean) in
    let did = executed text params it.row old new count (ran clean (inside before)).0 in
    (did.was_open, (new.now, did.made, refl), did.tables)

-- one by `query_all`
pub ran_showing : {X T E : Type 0} (items : X → List Row) (Q : X → Type 0) (text : List ℕ) (params : Row) (command : Command) (what : Returning) → WritesShowing text params command what → (answer : Result X Error) (r : Result T E) (old new : State)
    → OnOk r (IsOkAnd answer Q) → (HasCleanDisk new → IfOk answer (λ v. Shown text params old new (items v))) → Ran ((text, params) ∷ []) old new r
ran_showing items Q text params command what it answer (Err f) old new done ran clean = tt
ran_showing items Q text params command what it (Err e) (Ok x) old new done ran clean = absurd done
ran_showing items Q text params command what it (Ok v) (Ok x) old new done ran clean =
    let did = showed text params it.row old new (items v) (ran clean) in
    (did.was_open, (new.now, did.made, refl), did.tables)

-- a call that tells `Store` only where its statement is refused
pub blames_only : {T : Type 0} (P : State → Type 0) (text : List ℕ) (values : Row) (old new : State) (r : Result T StoreFault) → BlamesRefusal text values old new r → BlamesOne ((text, values) ∷ []) P old new r
blames_only P text values old new (Ok x) h clean = tt
blames_only P text values old new (Err f) h clean = λ is is_open has holds. elim (h clean is is_open has) [ inl more ↦ inl more | inr refused ↦ inr (inl refused) ]

-- where more holds
pub blames_so : {T : Type 0} (these : List (List ℕ × Row)) (P Q : State → Type 0) (old new : State) (r : Result T StoreFault) → (IsTrue old.is_open → HasTables old → Q old → P old) → BlamesOne these P old new r → BlamesOne these Q old new r
blames_so these P Q old new (Ok x) so h clean = tt
blames_so these P Q old new (Err f) so h clean = λ is is_open has holds. h clean is is_open has (so is_open has holds)

-- ---- a first call and a further one

-- the first failed, before the further statements
pub blames_first : {T : Type 0} (these those : List (List ℕ × Row)) (P : State → Type 0) (old new : State) (r : Result T StoreFault) → BlamesOne these P old new r → BlamesOne (these ++ those) P old new r
blames_first these those P old new (Ok x) h clean = tt
blames_first these those P old new (Err f) h clean = λ is is_open has holds.
    elim (h clean is is_open has holds) [ inl more ↦ inl more | inr refuses ↦ inr (refuses_first old.step_limit these those old.now refuses) ]

-- it went through
abbrev pub Went : List (List ℕ × Row) → State → State → Type 0
Went these old new = Ran {A = Unit {0}} {E = Unit {0}} these old new (Ok tt)

module _ {T : Type 0} (these those : List (List ℕ × Row)) (old mid new : State) (first : Survives old mid (λ _. ⊥)) (second : Survives mid new (λ _. ⊥)) where
  -- and so did the other
  pub ran_then : {E : Type 0} (r : Result T E) → Went these old mid → Ran those mid new r → Ran (these ++ those) old new r
  ran_then (Err f) h k clean = tt
  ran_then (Ok y) h k clean =
      let between : HasCleanDisk mid = omega (arith, second.clean) in
      let one = h between in
      let two = k clean in
      (one.0, makes_then old.step_limit these those old.now mid.now new.now one.1 (subst (λ l. Makes l those mid.now new.now) first.limit two.1), λ has. two.2 (one.2 has))

  -- and the other failed
  pub blames_then : (P Q : State → Type 0) (r : Result T StoreFault) → Went these old mid → IfClean IsOpen mid → (HasCleanDisk mid → IsTrue old.is_open → HasTables old → P old → Q mid)
      → BlamesOne those Q mid new r → BlamesOne (these ++ those) P old new r
  blames_then P Q (Ok y) h opened so k clean = tt
  blames_then P Q (Err f) h opened so k clean = λ is is_open has holds.
      let between : HasCleanDisk mid = omega (arith, second.clean) in
      let one = h between in
      elim (k clean is (opened between) (one.2 has) (so between is_open has holds)) [
        | inl more ↦ inl (omega (arith, first.counts, more))
        | inr refuses ↦ inr (refuses_then old.step_limit these those old.now mid.now one.1 (subst (λ l. RefusesOne l those mid.now) first.limit refuses))
      ]
