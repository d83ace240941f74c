-- Why a statement that makes tables or raises them is told as `Store`; and several of them, one after another.
use Rattle.std.proofs.Common.{◌≡◌, ◌⊎◌, inl, inr, ℕ, List, [], ◌++◌, Bool, true, false, Option, Some, None, Ok, Err, Result, IsTrue, refl, sym, ap, subst, ◌∙◌, arith}
use Rattle.std.proofs.lemmas.Bool.{cases_Bool}
use Rattle.std.specs.Result.{IsErrAnd}
use Rattle.sqlite.specs.declared.error.Error.{Error}
use Rattle.sqlite.specs.Order.{Row}
use Rattle.sqlite.specs.Change.{created}
use Rattle.sqlite.specs.Does.{Tally, Does}
use Rattle.sqlite.specs.Effect.{Database, is_query}
use Rattle.sqlite.specs.Listing.{understood}
use Rattle.sqlite.specs.Schema.{Schema}
use Rattle.sqlite.specs.Table.{Table}
use Rattle.sqlite.specs.Tree.{Trees}
use Rattle.sqlite.specs.State.{State, HasCleanDisk, HasCause, Survives, ExecutesIn, ExecutesInside, EndsScope, Escapes, IsMisplaced, IsNoStatement, IsNotRun, IsStatement, Runs, RunsCommand, is_pragma, shows_rows, store_error}
use Rattle.sqlite.specs.Clock.{timed}
use Rattle.sqlite.proofs.Callers.{IsPlain, command_of}
use Rattle.sqlite.proofs.StateLemmas.{survives_then}
use Rattle.sqlite_resolve.specs.declared.compiled.Compiled.{Compiled}
use Rattle.sqlite_schema.specs.declared.command.Command.{Command}
use Rattle.sqlite_schema.specs.declared.command.Command.TheVariants.{CreateTable, Insert, Update, Delete}
use Rattle.sqlite_schema.specs.declared.command.Returning.{Returning}
use Rattle.sqlite_trees.specs.declared.error.StoreError.{StoreError}
use Rattle.sqlite_trees.specs.declared.error.StoreError.TheVariants.{OutOfMemory, Io, Corrupt, Full, Broken, Unstorable}
use Rattle.up_tables.specs.declared.open.OpenFault.TheVariants as opening
use Rattle.up_tables.specs.Faults.{open_fault}
use Rattle.up_tables.specs.Making.{Tries, TriesTill, alone}
use Rattle.up_tables.specs.Ours.{HasFailed}
use Rattle.up_tables.specs.Makes.{MakesIn}
use Rattle.up_tables.specs.Stands.{AnyRows, AreEmpty, IfClean, IsInside, IsWithin}
use Rattle.up_tables.specs.Tried.{IsGiven, IsRefused, Makes, MakesOf, RefusesOne, our_mode}
use Rattle.up_tables.proofs.BlameLemmas.{is_whole, count_of, is_statement, plain_untimed}
use Rattle.up_tables.proofs.TriedLemmas.{makes_then, refuses_first, refuses_then}

-- the command makes a table, puts in rows, sets some, or takes some away
abbrev pub is_making : Command → Bool
is_making CreateTable = true
is_making (Insert at from) = true
is_making (Update at q) = true
is_making (Delete at q) = true
is_making _ = false

not_query : (k : Command) → is_making k ≡ true → is_query k ≡ false
not_query CreateTable h = refl
not_query (Insert at from) h = refl
not_query (Update at q) h = refl
not_query (Delete at q) h = refl
not_query _ h = absurd (let e = h in cc)

not_pragma : (k : Command) → is_making k ≡ true → is_pragma k ≡ false
not_pragma CreateTable h = refl
not_pragma (Insert at from) h = refl
not_pragma (Update at q) h = refl
not_pragma (Delete at q) h = refl
not_pragma _ h = absurd (let e = h in cc)

other : {k other : Command} → is_making k ≡ true → k ≡ other → is_making other ≡ false → ⊥
other h is apart = absurd (let e : true ≡ false = sym h ∙ ap is_making is ∙ apart in cc)

placed : (s : State) (k : Command) (e : Error) → is_making k ≡ true → IsMisplaced s k e → ⊥
placed s k e h (inl (_, inl it)) = other h it.0 refl
placed s k e h (inl (_, inr (inl it, _))) = other h it refl
placed s k e h (inl (_, inr (inr it, _))) = other h it refl
placed s k e h (inr (_, name, inl it, _)) = other h it refl
placed s k e h (inr (_, name, inr it, _)) = other h it refl

stays : (held : ℕ) (s : State) (k : Command) → is_making k ≡ true → Escapes held s k → ⊥
stays held s k h (inl (inl it)) = other h it refl
stays held s k h (inl (inr it)) = other h it refl
stays held s k h (inr (name, inl it, _)) = other h it refl
stays held s k h (inr (name, inr it, _)) = other h it refl

does_of : (old new : State) (returning : Option Returning) (k : Command) (text : List ℕ) (params : Row) (count : ℕ) → is_making k ≡ true → Runs old new returning k text params count
    → (tally : Tally) × Does old.step_limit our_mode params old.now text returning k (Ok (tally, new.now))
does_of old new returning CreateTable text params count h ran = (ran.tally, ran.changed)
does_of old new returning (Insert at from) text params count h ran = (ran.tally, ran.changed)
does_of old new returning (Update at q) text params count h ran = (ran.tally, ran.changed)
does_of old new returning (Delete at q) text params count h ran = (ran.tally, ran.changed)
does_of old new returning _ text params count h ran = absurd (let e = h in cc)

pub by_cause : (old new : State) (e : Error) → open_fault e ≡ opening.Store → (too_big : Type 0) (cause : StoreError) → e ≡ store_error cause → HasCause old new too_big cause → HasFailed old new ⊎ too_big
by_cause old new e told too_big OutOfMemory is has = absurd (let no : opening.Memory ≡ opening.Store = sym (ap open_fault is) ∙ told in cc)
by_cause old new e told too_big Io is has = inl (inr has)
by_cause old new e told too_big Corrupt is has = inl (inr has)
by_cause old new e told too_big Full is has = inl (inr has)
by_cause old new e told too_big Broken is has = inl (inl has)
by_cause old new e told too_big Unstorable is has = inr has

-- ---- one statement

module _ (text : List ℕ) (old new : State) (makes : (c : Compiled) → IsStatement old text [] c → (is_making c.command ≡ true) × (c.returning ≡ None)) where
  quiet : (c : Compiled) → IsStatement old text [] c → shows_rows false c ≡ false
  quiet c statement = rw (not_query c.command (makes c statement).0, not_pragma c.command (makes c statement).0, (makes c statement).1) refl

  given : (c : Compiled) → IsStatement old text [] c → IsGiven old.now text [] c
  given c it = record { is = it.is; whole = it.whole; given = it.given; now = it.now }

  made : (count : ℕ) → ExecutesInside 0 text [] old new (Ok count) → MakesOf old.step_limit text [] old.now new.now
  unfolding ExecutesIn given
  made count (h, _, _) =
      let ran : Runs old new h.0.returning h.0.command _ (timed [] h.0.formats h.1.now) count = rw (quiet h.0 h.1) at h.2 in
      let does = does_of old new h.0.returning h.0.command _ _ count (makes h.0 h.1).0 ran in
      (does.0, (h.0, given h.0 h.1, does.1))

  module _ (e : Error) (told : open_fault e ≡ opening.Store) where
    of_run : (c : Compiled) (statement : IsStatement old text [] c) → RunsCommand old new text c (timed [] c.formats statement.now) (Err e) → HasFailed old new ⊎ IsRefused old.step_limit text [] old.now
    unfolding given
    of_run c statement (inl (inl misplaced, _)) = absurd (placed old c.command e (makes c statement).0 misplaced)
    of_run c statement (inl (inr may, _)) = inr (Some e, (c, given c statement, may.1))
    of_run c statement (inr fails) = elim (by_cause old new e told _ fails.0 fails.1 fails.2) [ inl failed ↦ inl failed | inr big ↦ inr (None, (c, given c statement, big)) ]

    -- it is none, the disk failed, or it is refused
    refused : ExecutesInside 0 text [] old new (Err e) → IsNoStatement old text [] e ⊎ (HasFailed old new ⊎ IsRefused old.step_limit text [] old.now)
    unfolding ExecutesIn IsNotRun EndsScope
    refused (inl (inl (inl h), _)) = inl h.0
    refused (inl (inl (inr h), _)) = inr (elim (by_cause old new e told ⊥ h.0 h.1 h.2) [ inl failed ↦ inl failed | inr never ↦ absurd never ])
    refused (inl (inr h, _)) = inr (of_run h.0 h.1 (rw (quiet h.0 h.1) at h.2))
    refused (inr (ends, _, _)) = absurd (stays 0 old ends.0.command (makes ends.0 ends.1).0 ends.2)

-- it is tried until the database stops at it, as where it is no statement
pub tries_till : (Stops : Option ℕ → List (List ℕ × Row) → Database → Type 0) (text : List ℕ) (old new : State) → (IsTrue old.is_open → (c : Compiled) → IsStatement old text [] c → (is_making c.command ≡ true) × (c.returning ≡ None))
    → (IsTrue old.is_open → (e : Error) → IsNoStatement old text [] e → Stops old.step_limit (alone text) old.now) → (IsRefused old.step_limit text [] old.now → Stops old.step_limit (alone text) old.now)
    → (r : Result ℕ Error) → ExecutesInside 0 text [] old new r → TriesTill Stops (alone text) old new r
tries_till Stops text old new makes none refuses (Ok count) ran = (new.now, made text old new (makes ran.1.was_open) count ran, refl)
tries_till Stops text old new makes none refuses (Err e) ran = λ told. elim (cases_Bool old.is_open) [
  | inl is_open ↦ elim (refused text old new (makes is_open) e told ran) [ inl apart ↦ inr (none is_open e apart) | inr it ↦ elim it [ inl failed ↦ inl failed | inr stops ↦ inr (refuses stops) ] ]
  | inr shut ↦ inl (inl shut)
]

-- over a database of a schema, where the text is a statement without values, which makes a table, puts in rows, sets some, or takes some away
pub record IsMaking (schema : Schema) (text : List ℕ) : Type 0 where
  pub plain : IsPlain (understood schema text)
  pub makes : is_making (command_of (understood schema text)) ≡ true
  pub whole : is_whole text (understood schema text) ≡ true
  pub count : count_of (understood schema text) ≡ Some 0

module _ (schema : Schema) (text : List ℕ) (it : IsMaking schema text) (old new : State) where
  known : IsTrue old.is_open → (IsTrue old.is_open → old.now.schema ≡ schema) → (c : Compiled) → IsStatement old text [] c → understood schema text ≡ Ok c
  known is_open here c statement = sym (ap (λ s. understood s text) (here is_open)) ∙ statement.is

  tries_one : (here : IsTrue old.is_open → old.now.schema ≡ schema) (r : Result ℕ Error) → ExecutesInside 0 text [] old new r → Tries (alone text) old new r
  tries_one here r ran =
      tries_till RefusesOne text old new (λ is_open c statement. let is = known is_open here c statement in (ap is_making (ap command_of (sym is)) ∙ it.makes, (subst IsPlain is it.plain).0))
      (λ is_open e none. absurd (is_statement schema text [] (plain_untimed (understood schema text) it.plain) it.whole it.count old e (here is_open) none)) (λ refuses. inl refuses) r ran

  -- in a transaction
  pub tries_within : (P : Trees → Type 0) (r : Result ℕ Error) → IfClean (IsWithin schema P) old → Survives old new (λ _. ⊥) → (HasCleanDisk new → IsTrue old.in_transaction → ExecutesInside 0 text [] old new r)
      → HasCleanDisk new → Tries (alone text) old new r
  tries_within P r was survives ran clean =
      let before = was (omega (arith, clean, survives.clean)) in
      tries_one (λ is_open. (before.here is_open).schema_is) r (ran clean before.mode)

  pub tries_in : (r : Result ℕ Error) → IfClean IsInside old → Survives old new (λ _. ⊥) → (HasCleanDisk new → IsTrue old.in_transaction → ExecutesInside 0 text [] old new r)
      → HasCleanDisk new → IsWithin schema AnyRows old → Tries (alone text) old new r
  tries_in r inside survives ran clean within = tries_one (λ is_open. (within.here is_open).schema_is) r (ran clean (inside (omega (arith, clean, survives.clean))))

-- ---- several, one after another

-- a failure of a later step
pub failed_later : (old mid new : State) (P Q : Trees → Type 0) → Survives old mid P → Survives mid new Q → HasCleanDisk mid → HasFailed mid new → HasFailed old new
failed_later old mid new P Q first second clean (inr more) = inr (omega (arith, first.counts, more))
failed_later old mid new P Q first second clean (inl shut) = elim (cases_Bool old.is_open) [
  | inl is_open ↦ elim (first.closes clean is_open) [ inl still ↦ absurd (let no = sym still ∙ shut in cc) | inr more ↦ inr (omega (arith, more, second.counts)) ]
  | inr was ↦ inl was
]

module _ (Stops : Option ℕ → List (List ℕ × Row) → Database → Type 0) where
  -- further ones, behind some that went through
  pub tries_on : ((limit : Option ℕ) (a b : List (List ℕ × Row)) (db mid : Database) → Makes limit a db mid → Stops limit b mid → Stops limit (a ++ b) db) → (a b : List (List ℕ × Row)) (old mid new : State) (r : Result ℕ Error)
      → Survives old mid (λ _. ⊥) → Survives mid new (λ _. ⊥) → HasCleanDisk mid → Makes old.step_limit a old.now mid.now → TriesTill Stops b mid new r → TriesTill Stops (a ++ b) old new r
  tries_on behind a b old mid new (Ok n) first second clean went h = makes_then old.step_limit a b old.now mid.now new.now went (subst (λ l. Makes l b mid.now new.now) first.limit h)
  tries_on behind a b old mid new (Err e) first second clean went h = λ told. elim (h told) [
    | inl failed ↦ inl (failed_later old mid new (λ _. ⊥) (λ _. ⊥) first second clean failed)
    | inr stops ↦ inr (behind old.step_limit a b old.now mid.now went (subst (λ l. Stops l b mid.now) first.limit stops))
  ]

  -- the last of some failed, and what follows wasn't asked for
  pub tries_to : ((limit : Option ℕ) (a b : List (List ℕ × Row)) (db : Database) → Stops limit a db → Stops limit (a ++ b) db) → (a b : List (List ℕ × Row)) (old new : State) (e : Error) (r : Result ℕ Error) → IsErrAnd r (λ f. f ≡ e)
      → TriesTill Stops a old new (Err e) → TriesTill Stops (a ++ b) old new r
  tries_to ahead a b old new e (Ok n) is h = absurd is
  tries_to ahead a b old new e (Err f) is h = λ told. elim (h (ap open_fault (sym is) ∙ told)) [ inl failed ↦ inl failed | inr stops ↦ inr (ahead old.step_limit a b old.now stops) ]

-- how far statements came
pub record Came (these : List (List ℕ × Row)) (old new : State) (r : Result ℕ Error) : Type 0 where
  pub survives : Survives old new (λ _. ⊥)
  pub tried : HasCleanDisk new → Tries these old new r

pub came_on : (a b : List (List ℕ × Row)) (old mid new : State) (count : ℕ) (r : Result ℕ Error) → Came a old mid (Ok count) → Came b mid new r → Came (a ++ b) old new r
came_on a b old mid new count r one two = record {
  survives = survives_then old mid new (λ _. ⊥) (λ _. ⊥) (λ _. ⊥) (λ _ db none. none) (λ _ db none. none) one.survives two.survives;
  tried = λ clean.
      let before : HasCleanDisk mid = omega (arith, clean, two.survives.clean) in
      tries_on RefusesOne refuses_then a b old mid new r one.survives two.survives before (one.tried before) (two.tried clean);
}

pub came_to : (a b : List (List ℕ × Row)) (old new : State) (e : Error) (r : Result ℕ Error) → IsErrAnd r (λ f. f ≡ e) → Came a old new (Err e) → HasCleanDisk new → Tries (a ++ b) old new r
came_to a b old new e r is came clean = tries_to RefusesOne refuses_first a b old new e r is (came.tried clean)

-- of tables whatever their rows
pub any_rows : (schema : Schema) (P : Trees → Type 0) (s : State) → IsWithin schema P s → IsWithin schema AnyRows s
any_rows schema P s h = record { mode = h.mode; here = λ is_open. let it = h.here is_open in record { schema_is = it.schema_is; sound = it.sound; rows = tt } }
