-- What a command comes to within a session, and how the session ends.
use Rattle.std.specs.Prelude.{◌≡◌, false, Option, IfSome, Result, Ok, Err, IfErr, MatchBool, ⊤}
use Rattle.std.specs.Borrow.{MutBor}
use Rattle.sqlite.specs.Held.{Held, state}
use Rattle.sqlite.specs.State.{State as Connected, HasCleanDisk, IsRolledBack, Survives}
use Rattle.sqlite_trees.specs.declared.store.Store.{Ghosts}
use Rattle.up_canon.specs.declared.refusal.Refusal.{Refusal}
use Rattle.up_canon.specs.declared.refusal.Refusal.TheVariants.{Store}
use Rattle.up_sign.specs.Schemes.{Rules}
use Rattle.up_machine.specs.declared.answer.Answer.{Answer}
use Rattle.up_machine.specs.Deciding.{Outcome}
use Rattle.up_machine.specs.Machine.{outcome_of}
use Rattle.up_machine.specs.Sound.{IsSound}
use Rattle.up_machine.specs.State.{State}
use Rattle.up_rows.specs.StateRows.{rows_of_state}
use Rattle.up_tables.specs.Stands.{GoesOn, IfClean, IsInside}
use Rattle.up_tables.specs.Statements.{IsStep, WhereInside}
use Rattle.up_tables.specs.Tables.{up_schema}
use Rattle.up_tables.specs.declared.values.StoreFault.{StoreFault}
use Rattle.up_store.specs.Listing.{ListsRows}
use Rattle.up_store.specs.Within.{EndsWrite}
use Rattle.up_records.specs.declared.catalog.Catalog.{Catalog}
use Rattle.up_records.specs.Catalogs.{CanDecide, Fits}
use Rattle.up_records.specs.Connected.{is_fault, refusal_told}
use Rattle.up_records.specs.Sessions.{IsDecided, SeesOn, SeesState}
use Rattle.up_desk.specs.declared.carried.Carried.{Carried}
use Rattle.up_desk.specs.declared.carried.Carried.TheVariants.{Put, Unchanged}
use Rattle.up_desk.specs.Serving.{IsBlamed, IsCommit, answer_written, is_failed}

-- ---- within a session

-- the answer is due and changes nothing, and what is kept in memory is of the state
pub record IsUnchanged (s : State) (old new : Connected) (kept : Option Catalog) (answer : Answer) (computed : Result Outcome Refusal) : Type 0 where
  pub given : is_failed answer ≡ false
  pub none : IsCommit s answer s → ⊥
  pub computed_is : computed ≡ Ok (record { answer = answer; next = s })
  pub sees : SeesOn old new
  pub memory : Fits s kept

-- the answer is due, the rows of the next state are put, and what is kept in memory is of both, since the commit may fail
pub record HasPut (k : Rules) (s : State) (new : Connected) (kept : Option Catalog) (answer : Answer) (computed : Result Outcome Refusal) : Type 0 where
  pub given : is_failed answer ≡ false
  pub next : State
  pub computed_is : computed ≡ Ok (record { answer = answer; next = next })
  pub tables : GoesOn up_schema (ListsRows (rows_of_state next)) new
  pub moved : Fits next kept
  pub same : Fits s kept

-- the refusal is due and changes nothing, or a fault is told
pub record IsRefused (s : State) (old new : Connected) (kept : Option Catalog) (r : Refusal) (computed : Result Outcome Refusal) : Type 0 where
  pub due : MatchBool (is_fault r) ⊤ ((computed ≡ Err r) × SeesOn old new)
  pub memory : Fits s kept

abbrev pub LeavesIn : Rules → State → Connected → Connected → Option Catalog → Result Carried Refusal → Result Outcome Refusal → Type 0
LeavesIn k s old new kept (Ok (Unchanged answer)) computed = IsUnchanged s old new kept answer computed
LeavesIn k s old new kept (Ok (Put answer)) computed = HasPut k s new kept answer computed
LeavesIn k s old new kept (Err r) computed = IsRefused s old new kept r computed

-- a command by this rule, from each sound state that the session sees and of which the catalog is
pub record CarriesOn {S : Type 0} (g : Ghosts S) (k : Rules) (rule : State → Result Outcome Refusal) (old new : MutBor (Held S)) (kept left : Option Catalog)
    (result : Result Carried Refusal) : Type 0 where
  pub leaves : HasCleanDisk (state g new.now) → (s : State) → IsSound k s → SeesState s (state g old.now) → Fits s kept
      → LeavesIn k s (state g old.now) (state g new.now) left result (rule s)
  -- unless a fault is told the transaction goes on
  pub goes : HasCleanDisk (state g new.now) → IsDecided result → IsInside (state g old.now) → IsInside (state g new.now)
  -- where the next state is sound, `Store` is told only where the disk or the database is to blame
  pub blame : HasCleanDisk (state g new.now) → (s : State) → IsSound k s → SeesState s (state g old.now) → Fits s kept
      → IsSound k (outcome_of s (rule s)).next
      → IfErr result (λ r. r ≡ Store → IsBlamed k s (state g old.now) (state g new.now) (outcome_of s (rule s)))
  -- what is kept in memory can be used, if it could be
  pub can : IfSome kept (CanDecide k) → IfSome left (CanDecide k)
  pub step : IsStep g old new

abbrev pub CarriesIn : {S : Type 0} → Ghosts S → Rules → (State → Result Outcome Refusal) → MutBor (Held S) → MutBor (Held S) → Option Catalog → Option Catalog
    → Result Carried Refusal → Type 0
CarriesIn g k rule old new kept left result = WhereInside g old (CarriesOn g k rule old new kept left result)

-- the answer, where the rows were put
abbrev pub carried_put : Answer → Result ⊤ StoreFault → Result Carried Refusal
carried_put answer (Ok done) = Ok (Put answer)
carried_put answer (Err f) = Err (refusal_told f)

-- ---- its end

-- the transaction is undone, and a crash leaves what it could leave before
pub record IsDropped (old new : Connected) : Type 0 where
  pub undone : IfClean (IsRolledBack old) new
  pub survives : Survives old new (λ _. ⊥)

-- what was put is committed, and all else undone
abbrev pub EndsCarried : Result Carried Refusal → Connected → Connected → Result Answer Refusal → Type 0
EndsCarried (Ok (Put answer)) old new result = (w : Result ⊤ StoreFault) × EndsWrite (Ok tt) old new w × (result ≡ answer_written answer w)
EndsCarried (Ok (Unchanged answer)) old new result = IsDropped old new × (result ≡ Ok answer)
EndsCarried (Err r) old new result = IsDropped old new × (result ≡ Err r)
