-- What a desk answers, the state that its tables show then, and what a crash leaves. All of it is said of a state that the tables show,
-- over a disk that has returned what was written so far; what is answered outright is said of any.
use Rattle.std.specs.Prelude.{◌≡◌, ◌⊎◌, ℕ, Bool, false, nat_lt, if◌then◌else◌, codes, length}
use Rattle.std.specs.Prelude.{Option, Some, None, MatchBool, ⊤, Result, Ok, Err, IfErr, IsTrue}
use Rattle.std.specs.List.{list_all}
use Rattle.sqlite_disk.specs.Disk.{MoreFaults}
use Rattle.sqlite.specs.Effect.{Database}
use Rattle.sqlite.specs.State.{State as Connected}
use Rattle.sqlite_trees.specs.declared.store.Store.{Ghosts}
use Rattle.up_canon.specs.Moments.{last_command_moment}
use Rattle.up_canon.specs.Names.{Name}
use Rattle.up_canon.specs.declared.refusal.Refusal.{Refusal}
use Rattle.up_canon.specs.declared.refusal.Refusal.TheVariants.{Store, MomentOutOfRange, TooLarge, BadShape}
use Rattle.up_canon.specs.Steps.{◌>>=◌}
use Rattle.up_sign.specs.Schemes.{Rules}
use Rattle.up_manifest.specs.Manifests.{largest_body, incoming_in}
use Rattle.up_machine.specs.Vehicles.{public_fits}
use Rattle.up_machine.specs.declared.command.Command.{Command}
use Rattle.up_machine.specs.declared.command.Command.TheVariants.{AddVehicle, ReplaceEcu, Deliver}
use Rattle.up_machine.specs.declared.answer.Answer.{Answer}
use Rattle.up_machine.specs.declared.answer.Answer.TheVariants.{Done, Already, Reply as Replied, File, Refused}
use Rattle.up_machine.specs.declared.answer.Reply.{Reply}
use Rattle.up_machine.specs.State.{State}
use Rattle.up_machine.specs.Deciding.{Outcome, check_moment}
use Rattle.up_machine.specs.Decisions.{decide_incoming}
use Rattle.up_machine.specs.Machine.{decide, outcome_of}
use Rattle.up_machine.specs.Replies.{kept_reply}
use Rattle.up_machine.specs.Sound.{IsSound}
use Rattle.up_rows.specs.StateRows.{rows_of_state}
use Rattle.up_tables.specs.declared.values.StoreFault.{StoreFault}
use Rattle.up_store.specs.Writes.{RefusesToWrite}
use Rattle.up_records.specs.Connected.{is_fault, refusal_told}
use Rattle.up_records.specs.Standing.{Standing, Stored, CanUse, HasCleanDisk, HoldsState, IfClean, LeavesOnly, ShowsState, Survives, state}

-- ---- answers

abbrev pub is_failed : Answer → Bool
is_failed (Refused r) = is_fault r
is_failed _ = false

-- the answer and the state are those of the outcome; where memory or the database refused the state is as before
abbrev pub IsAnswered : Answer → State → State → Outcome → Type 0
IsAnswered a old new o = MatchBool (is_failed a) (new ≡ old) ((a ≡ o.answer) × (new ≡ o.next))

-- each reply that was kept is kept on, the same
abbrev pub RepliesStay : State → State → Type 0
RepliesStay old new = (vehicle : Name) (number : ℕ) (reply : Reply) → kept_reply old vehicle number ≡ Some reply
    → kept_reply new vehicle number ≡ Some reply

-- ---- refusals that are answered whether or not there is memory, whatever the database does

-- of a command in time: that of a body that is too large, and that of a new vehicle or ECU with a public part that doesn't fit
abbrev pub outright_in_time : Rules → Command → Option Refusal
outright_in_time k (Deliver body) = if nat_lt largest_body (length body) then Some TooLarge else None
outright_in_time k (AddVehicle new) = if list_all (λ e. public_fits k e.public) new.ecus then None else Some (BadShape (codes "key"))
outright_in_time k (ReplaceEcu new) = if public_fits k new.ecu.public then None else Some (BadShape (codes "key"))
outright_in_time k c = None

-- that of a moment past the last one, before all others
abbrev pub outright : Rules → ℕ → Command → Option Refusal
outright k at c = if nat_lt last_command_moment at then Some MomentOutOfRange else outright_in_time k c

-- ---- one command

-- a refusal is told as one
abbrev pub told : Result Answer Refusal → Answer
told (Ok answer) = answer
told (Err r) = Refused r

-- the refusal that is due, or the outcome; a manifest that was accepted before is answered its kept reply
abbrev pub outcome_due : Rules → State → ℕ → Command → Result Outcome Refusal
outcome_due k s at (Deliver body) = do
  moment_out_of_range ← check_moment at
  incoming ← incoming_in body
  decide_incoming k s at incoming
outcome_due k s at c = decide k s at c

-- what is shown is the state of the outcome that was computed; of a refusal, or where the command failed, the state as it was
abbrev pub Leaves : Rules → State → Standing → Result Answer Refusal → Result Outcome Refusal → Type 0
Leaves k s new (Ok answer) computed =
    (is_failed answer ≡ false) × ((next : State) × (computed ≡ Ok (record { answer = answer; next = next })) × ShowsState next new)
Leaves k s new (Err r) computed = ShowsState s new × MatchBool (is_fault r) ⊤ (computed ≡ Err r)

-- it was done, or is a reply with which the state changed: that to a newly accepted manifest
abbrev pub IsCommit : State → Answer → State → Type 0
IsCommit s Done next = ⊤
IsCommit s Already next = ⊥
IsCommit s (Replied reply) next = next ≡ s → ⊥
IsCommit s (File text) next = ⊥
IsCommit s (Refused r) next = ⊥

-- the outcome is a commit, and the database refuses to write the rows of its next state
pub record RefusesOutcome (k : Rules) (s : State) (limit : Option ℕ) (db : Database) (o : Outcome) : Type 0 where
  pub commit : IsCommit s o.answer o.next
  pub refused : RefusesToWrite (rows_of_state s) (rows_of_state o.next) limit db

-- on a connection that was open, with no limit on the steps of a query, the disk counted a fault, or the database refuses the outcome
abbrev pub IsBlamed : Rules → State → Connected → Connected → Outcome → Type 0
IsBlamed k s old new o = IsTrue old.is_open → old.step_limit ≡ None → MoreFaults old.faults new.faults ⊎ RefusesOutcome k s old.step_limit old.now o

-- what a command comes to in a sound state that is shown
pub record Serves (k : Rules) (s : State) (old new : Standing) (result : Result Answer Refusal) (computed : Result Outcome Refusal) : Type 0 where
  -- it leaves what was computed
  pub leaves : HasCleanDisk new → Leaves k s new result computed
  -- whatever it answers, a crash leaves what it could leave before, or the next state
  pub crash : Survives old new (HoldsState (outcome_of s computed).next)
  -- behind a commit it leaves that alone
  pub durable : IsCommit s (told result) (outcome_of s computed).next → IfClean (LeavesOnly (HoldsState (outcome_of s computed).next)) new
  -- where the next state is sound, `Store` is told only where the disk or the database is to blame
  pub blame : HasCleanDisk new → IsSound k (outcome_of s computed).next
      → IfErr result (λ r. r ≡ Store → IsBlamed k s old.connection new.connection (outcome_of s computed))

-- a command by this rule
pub record CarriesOut (k : Rules) (rule : State → Result Outcome Refusal) (old new : Standing) (result : Result Answer Refusal) : Type 0 where
  pub serves : (s : State) → IsSound k s → IfClean (ShowsState s) old → Serves k s old new result (rule s)
  -- what is kept in memory can be used, if it could be
  pub can : CanUse k old → CanUse k new

abbrev pub Carries : {D : Type 0} → Ghosts D → Rules → (State → Result Outcome Refusal) → Stored D → Stored D → Result Answer Refusal → Type 0
Carries g k rule old new result = CarriesOut k rule (state g old) (state g new) result

-- the answer, where it was written
abbrev pub answer_written : Answer → Result ⊤ StoreFault → Result Answer Refusal
answer_written answer (Ok done) = Ok answer
answer_written answer (Err f) = Err (refusal_told f)
