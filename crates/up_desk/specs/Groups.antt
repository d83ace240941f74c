-- Commands that share a session, and its commit.
use Rattle.std.specs.Prelude.{◌≡◌, ◌+◌, ◌≤◌, ◌++◌, ℕ, Bool, true, false, if◌then◌else◌, List, map, length, vec_len, vec_capacity, Option, Some, None, IfSome, OnSome, Result, Ok, Err, IsTrue, MatchBool, is_ok}
use Rattle.std.specs.Borrow.{MutBor}
use Rattle.std.specs.Global.{Vec}
use Rattle.std.specs.List.{AllByRecursion}
use Rattle.sqlite.specs.Held.{Held, state}
use Rattle.sqlite.specs.State.{State as Connected, HasCleanDisk}
use Rattle.sqlite_trees.specs.declared.store.Store.{Ghosts}
use Rattle.up_canon.specs.declared.refusal.Refusal.{Refusal}
use Rattle.up_canon.specs.declared.refusal.Refusal.TheVariants.{Memory}
use Rattle.up_sign.specs.Schemes.{Rules}
use Rattle.up_machine.specs.declared.answer.Answer.{Answer}
use Rattle.up_machine.specs.declared.answer.Answer.TheVariants.{Already, Done, Refused}
use Rattle.up_machine.specs.declared.command.Command.{Command}
use Rattle.up_machine.specs.Commands.{opens_running}
use Rattle.up_machine.specs.Repeats.{Sent, after, serve}
use Rattle.up_machine.specs.Sound.{IsSound}
use Rattle.up_machine.specs.State.{State}
use Rattle.up_tables.specs.Stands as stands
use Rattle.up_tables.specs.Stands.{IsInside}
use Rattle.up_tables.specs.Statements.{IsStep}
use Rattle.up_records.specs.declared.catalog.Catalog.{Catalog}
use Rattle.up_records.specs.Catalogs.{CanDecide, Fits}
use Rattle.up_records.specs.Connected.{is_fault}
use Rattle.up_records.specs.Sessions.{SeesOn, SeesState}
use Rattle.up_records.specs.Standing as standing
use Rattle.up_records.specs.Standing.{HoldsState, IfClean, ShowsState, Standing, Survives}
use Rattle.up_desk.specs.declared.carried.Carried.{Carried}
use Rattle.up_desk.specs.declared.carried.Carried.TheVariants.{Put, Unchanged}
use Rattle.up_desk.specs.Carrying.{EndsCarried}
use Rattle.up_desk.specs.Runs.{AreCalled, AreOutright, ServesEach, timed}
use Rattle.up_desk.specs.Serving.{IsCommit, is_failed}

-- ---- what they need

-- a campaign that is opened is running, and there is room for an answer to each command
pub record CanAnswer (cs : List (ℕ × Command)) (answers : Vec Answer) : Type 0 where
  pub running : AllByRecursion (λ c. IsTrue (opens_running c.1)) cs
  pub room : vec_len answers + length cs ≤ vec_capacity answers

-- and what is kept in memory can be used
pub record CanRun (k : Rules) (cs : List (ℕ × Command)) (kept : Option Catalog) (answers : Vec Answer) : Type 0 where
  pub usable : IfSome kept (CanDecide k)
  pub asked : CanAnswer cs answers

-- ---- within a session

-- the answer of a command, and whether its rows were put; none where it failed
abbrev pub told_by : Result Carried Refusal → Option (Answer × Bool)
told_by (Ok (Put answer)) = Some (answer, true)
told_by (Ok (Unchanged answer)) = Some (answer, false)
told_by (Err r) = if is_fault r then None else Some (Refused r, false)

-- a command changes nothing in this state
pub record IsIdle (k : Rules) (s : State) (at : ℕ) (c : Command) : Type 0 where
  pub same : (serve k s at c).next ≡ s
  pub none : IsCommit s (serve k s at c).answer s → ⊥

-- no command changes anything, and the session sees what it saw
pub record AreIdle (k : Rules) (s : State) (cs : List (ℕ × Command)) (old new : Connected) : Type 0 where
  pub each : AllByRecursion (λ c. IsIdle k s c.0 c.1) cs
  pub sees : SeesOn old new

-- the answers are the plain machine's, and none tells that its command failed; the session sees the state behind them; and where any rows were
-- put the connection is open, else nothing changed
pub record LeavesAll (k : Rules) (s : State) (cs : List (ℕ × Command)) (told : List Answer) (old new : Connected) (left : Option Catalog) (put : Bool) : Type 0 where
  pub next : State
  pub served : ServesEach k s cs told next
  pub unfailed : AllByRecursion (λ a. is_failed a ≡ false) told
  pub sound : IsSound k next
  pub tables : SeesState next new
  pub memory : Fits next left
  pub rows : MatchBool put (IsTrue new.is_open) ((next ≡ s) × AreIdle k s cs old new)

-- commands one after another, of which the answers are appended; it is told whether any rows were put, or none where a command failed
pub record CarriesAll {S : Type 0} (g : Ghosts S) (k : Rules) (cs : List (ℕ × Command)) (held answers : Vec Answer) (old new : MutBor (Held S)) (kept left : Option Catalog)
    (put : Option Bool) : Type 0 where
  pub told : List Answer
  pub appended : answers.items ≡ held.items ++ told
  pub room : vec_capacity held ≤ vec_capacity answers
  pub outright : OnSome put (AreOutright k cs told)
  pub inside : OnSome put (stands.IfClean IsInside (state g new.now))
  pub leaves : HasCleanDisk (state g new.now) → (s : State) → IsSound k s → SeesState s (state g old.now) → Fits s kept
      → IfSome put (LeavesAll k s cs told (state g old.now) (state g new.now) left)
  pub can : IfSome kept (CanDecide k) → IfSome left (CanDecide k)
  pub step : IsStep g old new

-- ---- its end

-- all of it as one command, which is done where any rows were put, and changes nothing else
abbrev pub as_one : Option Bool → Result Carried Refusal
as_one (Some true) = Ok (Put Done)
as_one (Some false) = Ok (Unchanged Already)
as_one None = Err Memory

-- so they were carried out in one session, and this is how it ended
pub record EndsAll {S : Type 0} (g : Ghosts S) (k : Rules) (cs : List (ℕ × Command)) (held answers : Vec Answer) (old last : Held S) (kept left : Option Catalog) (done : Bool) : Type 0 where
  pub tx : MutBor (Held S)
  pub mid : MutBor (Held S)
  pub put : Option Bool
  pub begun : tx.now ≡ record old { in_transaction = true }
  pub all : CarriesAll g k cs held answers tx mid kept left put
  pub told : Result Answer Refusal
  pub ends : EndsCarried (as_one put) (state g mid.now) (state g last) told
  pub done_is : done ≡ is_ok told

-- each command, where none is lost
abbrev pub none_lost : List (ℕ × Command) → List Sent
none_lost cs = map (λ c. record { item = timed c; lost = false }) cs

-- Nothing is answered, and there is room for the answers as before. The tables show what they showed, and nothing is kept in memory. A crash
-- leaves what it could leave before, or the state behind all commands: where their commit failed.
pub record IsUndone (k : Rules) (cs : List (ℕ × Command)) (held answers : Vec Answer) (old new : Standing) : Type 0 where
  pub untold : answers.items ≡ held.items
  pub room : vec_len answers + length cs ≤ vec_capacity answers
  pub shown : (s : State) → IsSound k s → IfClean (ShowsState s) old → IfClean (ShowsState s) new
  pub crash : (s : State) → IsSound k s → IfClean (ShowsState s) old → Survives old new (HoldsState (after k s (none_lost cs)))
  pub clean : standing.HasCleanDisk new → standing.HasCleanDisk old

-- all of them are called, or all of it is undone
abbrev pub AreCalledOrUndone : Rules → List (ℕ × Command) → Vec Answer → Vec Answer → Standing → Standing → Bool → Type 0
AreCalledOrUndone k cs held answers old new done = MatchBool done (AreCalled k cs held.items answers.items old new) (IsUndone k cs held answers old new)
