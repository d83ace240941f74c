-- Why a write tells `Store`: the disk failed, or the database refuses the statement.
use Rattle.std.proofs.Common.{◌≡◌, ◌⊎◌, inl, inr, ℕ, List, length, true, false, Some, None, Ok, Err, Result, IfErr, OnOk, IsTrue, refl, sym, ap, subst, ◌∙◌, arith}
use Rattle.std.specs.Result.{IsOk}
use Rattle.sqlite_disk.specs.Disk.{MoreFaults}
use Rattle.sqlite.specs.declared.error.Error.{Error}
use Rattle.sqlite.specs.Order.{Row}
use Rattle.sqlite.specs.Effect.{is_query}
use Rattle.sqlite.specs.Listing.{understood}
use Rattle.sqlite.specs.State.{State, HasCleanDisk, Survives, ExecutesIn, ExecutesInside, EndsScope, Escapes, FailsToQuery, FailsToShow, IsMisplaced, IsNotRun, IsStatement, IsTooLate, RunsCommand, is_pragma, shows_rows}
use Rattle.sqlite.specs.Clock.{timed}
use Rattle.sqlite.proofs.Callers.{IsPlain, command_of}
use Rattle.sqlite_resolve.specs.declared.compiled.Compiled.{Compiled}
use Rattle.sqlite_resolve.specs.declared.error.CompileError.{CompileError}
use Rattle.sqlite_schema.specs.declared.command.Command.{Command}
use Rattle.sqlite_schema.specs.declared.command.Command.TheVariants.{Insert, InsertOr, Update, Delete}
use Rattle.sqlite_schema.specs.declared.command.Returning.{Returning}
use Rattle.up_tables.specs.Tables.{up_schema}
use Rattle.up_tables.specs.Faults.{store_fault}
use Rattle.up_tables.specs.Stands.{HasTables, IfClean, IsInside}
use Rattle.up_tables.specs.Tried.{BlamesRefusal, IsGiven, IsRefused}
use Rattle.up_tables.specs.declared.values.StoreFault.{StoreFault}
use Rattle.up_tables.specs.declared.values.StoreFault.TheVariants.{Store}
use Rattle.up_tables.proofs.BlameLemmas.{IsUntimed, is_whole, count_of, is_statement, plain_untimed, cause_of, fault_alike}
use Rattle.up_tables.proofs.CommandLemmas.{IsRowWritten, is_write}
use Rattle.up_tables.proofs.ReturnLemmas.{IsShowing}

not_query : (k : Command) → is_write k ≡ true → is_query k ≡ false
not_query (Insert at from) h = refl
not_query (InsertOr at way from clauses) h = refl
not_query (Update at q) h = refl
not_query (Delete at q) h = refl
not_query _ h = absurd (let e = h in cc)

not_pragma : (k : Command) → is_write k ≡ true → is_pragma k ≡ false
not_pragma (Insert at from) h = refl
not_pragma (InsertOr at way from clauses) h = refl
not_pragma (Update at q) h = refl
not_pragma (Delete at q) h = refl
not_pragma _ h = absurd (let e = h in cc)

other : {k other : Command} → is_write k ≡ true → k ≡ other → is_write other ≡ false → ⊥
other h is apart = absurd (let e : true ≡ false = sym h ∙ ap is_write is ∙ apart in cc)

placed : (s : State) (k : Command) (e : Error) → is_write k ≡ true → IsMisplaced s k e → ⊥
placed s k e h (inl (_, inl it)) = other h it.0 refl
placed s k e h (inl (_, inr (inl it, _))) = other h it refl
placed s k e h (inl (_, inr (inr it, _))) = other h it refl
placed s k e h (inr (_, name, inl it, _)) = other h it refl
placed s k e h (inr (_, name, inr it, _)) = other h it refl

stays : (held : ℕ) (s : State) (k : Command) → is_write k ≡ true → Escapes held s k → ⊥
stays held s k h (inl (inl it)) = other h it refl
stays held s k h (inl (inr it)) = other h it refl
stays held s k h (inr (name, inl it, _)) = other h it refl
stays held s k h (inr (name, inr it, _)) = other h it refl

-- a statement that puts in rows, sets some or takes some away, with as many parameters as are given
pub record IsWriting (text : List ℕ) (params : Row) (command : Command) : Type 0 where
  pub is : command_of (understood up_schema text) ≡ command
  pub untimed : IsUntimed (understood up_schema text)
  pub writes : is_write command ≡ true
  pub whole : is_whole text (understood up_schema text) ≡ true
  pub count : count_of (understood up_schema text) ≡ Some (length params)

-- such a statement that shows no rows, and that writes rows whatever tables there are
pub record Writes (text : List ℕ) (params : Row) (command : Command) : Type 0 where
  pub row : IsRowWritten text
  pub is : command_of (understood up_schema text) ≡ command
  pub plain : IsPlain (understood up_schema text)
  pub writes : is_write command ≡ true
  pub whole : is_whole text (understood up_schema text) ≡ true
  pub count : count_of (understood up_schema text) ≡ Some (length params)

-- one that shows this of each row that it wrote
pub record WritesShowing (text : List ℕ) (params : Row) (command : Command) (what : Returning) : Type 0 where
  pub row : IsRowWritten text
  pub is : command_of (understood up_schema text) ≡ command
  pub shows : IsShowing what (understood up_schema text)
  pub writes : is_write command ≡ true
  pub whole : is_whole text (understood up_schema text) ≡ true
  pub count : count_of (understood up_schema text) ≡ Some (length params)

pub as_writing : {text : List ℕ} {params : Row} {command : Command} → Writes text params command → IsWriting text params command
as_writing it = record { is = it.is; untimed = plain_untimed _ it.plain; writes = it.writes; whole = it.whole; count = it.count }

showing_untimed : (what : Returning) (r : Result Compiled CompileError) → IsShowing what r → IsUntimed r
showing_untimed what (Ok c) shows = shows.1
showing_untimed what (Err e) shows = shows

pub shown_writing : {text : List ℕ} {params : Row} {command : Command} {what : Returning} → WritesShowing text params command what → IsWriting text params command
shown_writing it = record { is = it.is; untimed = showing_untimed _ _ it.shows; writes = it.writes; whole = it.whole; count = it.count }

module _ (text : List ℕ) (params : Row) (command : Command) (it : IsWriting text params command) (old : State) (is_open : IsTrue old.is_open) (has : HasTables old) where
  pub known : (c : Compiled) → IsStatement old text params c → understood up_schema text ≡ Ok c
  known c statement = sym (ap (λ s. understood s text) (has is_open).schema_is) ∙ statement.is

  pub writing : (c : Compiled) → IsStatement old text params c → is_write c.command ≡ true
  writing c statement = ap is_write (ap command_of (sym (known c statement)) ∙ it.is) ∙ it.writes

  abbrev pub given : (c : Compiled) → IsStatement old text params c → IsGiven old.now text params c
  given c it = record { is = it.is; whole = it.whole; given = it.given; now = it.now }

  -- one that shows no rows is carried out by `execute`
  pub quiet : IsPlain (understood up_schema text) → (c : Compiled) → IsStatement old text params c → shows_rows false c ≡ false
  quiet plain c statement = rw (not_query c.command (writing c statement), not_pragma c.command (writing c statement), (subst IsPlain (known c statement) plain).0) refl

  module _ (new : State) (e : Error) (told : store_fault e ≡ Store) where
    of_run : (c : Compiled) (statement : IsStatement old text params c) → RunsCommand old new text c (timed params c.formats statement.now) (Err e) → MoreFaults old.faults new.faults ⊎ IsRefused old.step_limit text params old.now
    of_run c statement (inl (inl misplaced, _)) = absurd (placed old c.command e (writing c statement) misplaced)
    of_run c statement (inl (inr may, _)) = inr (Some e, (c, given c statement, may.1))
    of_run c statement (inr fails) = elim (cause_of old new is_open e told _ fails.0 fails.1 fails.2) [ inl more ↦ inl more | inr big ↦ inr (None, (c, given c statement, big)) ]

    not_run : IsNotRun old new text params e → MoreFaults old.faults new.faults ⊎ IsRefused old.step_limit text params old.now
    unfolding IsNotRun
    not_run (inl h) = absurd (is_statement up_schema text params it.untimed it.whole it.count old e (has is_open).schema_is h.0)
    not_run (inr h) = elim (cause_of old new is_open e told ⊥ h.0 h.1 h.2) [ inl more ↦ inl more | inr never ↦ absurd never ]

    pub refusal : IsPlain (understood up_schema text) → ExecutesInside 0 text params old new (Err e) → MoreFaults old.faults new.faults ⊎ IsRefused old.step_limit text params old.now
    unfolding ExecutesIn EndsScope
    refusal plain (inl (inl h, _)) = not_run h
    refusal plain (inl (inr h, _)) = of_run h.0 h.1 (rw (quiet plain h.0 h.1) at h.2)
    refusal plain (inr (ends, _, _)) = absurd (stays 0 old ends.0.command (writing ends.0 ends.1) ends.2)

    -- by `query_all`
    pub refusal_showing : (what : Returning) → IsShowing what (understood up_schema text) → IsTrue old.in_transaction → FailsToQuery text params old new e ⊎ IsTooLate text params old new e
        → MoreFaults old.faults new.faults ⊎ IsRefused old.step_limit text params old.now
    unfolding FailsToQuery
    refusal_showing what shows inside (inl (inl h)) = not_run h
    refusal_showing what shows inside (inl (inr h)) =
        of_run h.0 h.1 (subst (FailsToShow old new text h.0 (timed params h.0.formats h.1.now) e) (subst (IsShowing what) (known h.0 h.1) shows).0 h.2)
    refusal_showing what shows inside (inr late) = absurd (let no : true ≡ false = sym inside ∙ late.3 in cc)

pub blames_refusal : {T : Type 0} (text : List ℕ) (params : Row) (command : Command) → Writes text params command → (written : Result ℕ Error) (r : Result T StoreFault) (old new : State)
    → OnOk written (IsOk r) → IfErr written (λ e. r ≡ Err (store_fault e)) → Survives old new (λ _. ⊥) → IfClean IsInside old → (HasCleanDisk new → IsTrue old.in_transaction → ExecutesInside 0 text params old new written)
    → BlamesRefusal text params old new r
blames_refusal text params command it written (Ok x) old new went fault survives inside ran clean = tt
blames_refusal text params command it (Ok n) (Err f) old new went fault survives inside ran clean = absurd (let e = went in cc)
blames_refusal text params command it (Err e) (Err f) old new went fault survives inside ran clean = λ is is_open has.
    let before : HasCleanDisk old = omega (arith, survives.clean) in
    refusal text params command (as_writing it) old is_open has new e (sym (fault_alike fault) ∙ is) it.plain (ran clean (inside before))
