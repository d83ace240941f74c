-- Deliveries that come again, and replies that are commits.
use Rattle.std.specs.Prelude.{◌≡◌, ◌≤◌, ◌||◌, ℕ, List, [], ◌∷◌, Bool, false, not, Option}
use Rattle.std.specs.Prelude.{Some, None, option_map, unwrap_or, IsTrue, Ok, filter, bytes_eq}
use Rattle.std.specs.List.{AllByRecursion}
use Rattle.std.specs.FinMap as table
use Rattle.sqlite_disk.specs.declared.Disk.{Ghosts as DiskGhosts}
use Rattle.sqlite_wal.specs.Recovery.{Image}
use Rattle.sqlite_store.specs.declared.store.FileStore.{FileStore}
use Rattle.sqlite_store.specs.FileStore.{view}
use Rattle.sqlite_store.specs.FileStore as files
use Rattle.sqlite.specs.Files.{over_files, file_state, IsOpened}
use Rattle.sqlite.specs.Start.{FindsIn}
use Rattle.sqlite.specs.Held.{Held, state}
use Rattle.sqlite.specs.State.{HasCleanDisk, Survives}
use Rattle.sqlite.specs.Tree.{Trees}
use Rattle.sqlite_trees.specs.declared.store.Store.{Ghosts}
use Rattle.up_canon.specs.Moments.{last_command_moment}
use Rattle.up_canon.specs.Names.{Name}
use Rattle.up_sign.specs.Schemes.{Rules}
use Rattle.up_manifest.specs.declared.manifest.Incoming.{Incoming}
use Rattle.up_manifest.specs.Manifests.{incoming_in}
use Rattle.up_machine.specs.declared.command.Command.{Command}
use Rattle.up_machine.specs.declared.command.Command.TheVariants.{ReplaceEcu, Deliver}
use Rattle.up_machine.specs.declared.answer.Answer.{Answer}
use Rattle.up_machine.specs.declared.answer.Answer.TheVariants.{Reply as Replied}
use Rattle.up_machine.specs.declared.answer.Reply.{Reply}
use Rattle.up_machine.specs.Deciding.{Outcome}
use Rattle.up_machine.specs.Machine.{decide}
use Rattle.up_machine.specs.Repeats.{Sent, repeat_of, serve, after, delivers_own}
use Rattle.up_machine.specs.Replies.{reply_to}
use Rattle.up_machine.specs.Sound.{IsSound}
use Rattle.up_machine.specs.State.{Entry, Vehicle, State, nth}
use Rattle.up_tables.specs.Stands.{IfClean, LeavesOnly}
use Rattle.up_store.specs.Connections.{KeepsState}
use Rattle.up_store.specs.Stopped.{AreFoundAgain}
use Rattle.up_desk.specs.Runs.{sent, outcome_behind, IsAnsweredCommit, StaysOrComesTo, OutlastsCalls, CommitsCalls}
use Rattle.up_desk.specs.Serving.{IsCommit}
use Rattle.up_records.specs.Standing.{HoldsState}
use Rattle.up_records.specs.Standing.{Stored}
use Rattle.up_records.specs.Standing as standing

-- ---- commits

-- a reply to a manifest that is no repeat is a commit: the state changed with it
abbrev pub NewRepliesCommit : Type 0
NewRepliesCommit = (k : Rules) (s : State) (at : ℕ) (c : Command) (reply : Reply) → repeat_of k s at c ≡ None
    → (serve k s at c).answer ≡ Replied reply → IsCommit s (Replied reply) (serve k s at c).next

-- ---- deliveries that come again

-- the vehicle has exactly one entry for the manifest, and the answer is the reply that is kept for it
pub record ActsOnce (k : Rules) (incoming : Incoming) (served : Outcome) : Type 0 where
  pub vehicle : Vehicle
  pub entry : Entry
  pub number : ℕ
  pub there : table.get served.next.vehicles incoming.manifest.vehicle ≡ Some vehicle
  pub once : filter (λ e. bytes_eq e.signed incoming.envelope.signed) vehicle.entries ≡ entry ∷ []
  pub numbered : nth vehicle.entries number ≡ Some entry
  pub answer : served.answer ≡ Replied (reply_to incoming.manifest.vehicle number entry)

-- the vehicle of which the command replaces an ECU
abbrev pub replaced_in : Command → Option Name
replaced_in (ReplaceEcu new) = Some new.vehicle
replaced_in _ = None

abbrev pub replaces_own : Name → Sent → Bool
replaces_own name m = unwrap_or (option_map (λ vehicle. bytes_eq vehicle name) (replaced_in m.item.command)) false

-- none of these items delivers a manifest of the vehicle or replaces an ECU of it, or it was lost
abbrev pub LeaveAlone : Name → List Sent → Type 0
LeaveAlone vehicle items = AllByRecursion (λ m. IsTrue (m.lost || not (delivers_own vehicle m || replaces_own vehicle m))) items

-- delivered again in this state, at a moment in range, before another manifest or a replacement of its vehicle and not lost, it acts once
abbrev pub ActsOnceFrom : Rules → State → List ℕ → Incoming → Type 0
ActsOnceFrom k s body incoming = (between : List Sent) (at : ℕ) → LeaveAlone incoming.manifest.vehicle between → at ≤ last_command_moment
    → ActsOnce k incoming (serve k (after k s between) at (Deliver body))

-- a delivery that the plain machine accepts acts once, whether or not its call came through
abbrev pub DeliveriesActOnce : Type 0
DeliveriesActOnce = (k : Rules) (s : State) (at : ℕ) (body : List ℕ) (incoming : Incoming) (accepted : Outcome) → IsSound k s
    → incoming_in body ≡ Ok incoming → decide k s at (Deliver body) ≡ Ok accepted
    → ActsOnceFrom k s body incoming × ActsOnceFrom k accepted.next body incoming

-- a state that is shown so, in which the delivery acts once when it comes again
pub record FindsState (k : Rules) (body : List ℕ) (incoming : Incoming) (IsShown : State → Type 0) : Type 0 where
  pub found : State
  pub sound : IsSound k found
  pub shown : IsShown found
  pub acts : ActsOnceFrom k found body incoming

-- The call of a delivery that the plain machine accepts: as it began a crash could leave the shown state alone, and when it ended, whatever
-- it answered, a crash leaves what it could leave before, or the next state.
pub record IsDelivered {S : Type 0} (g : Ghosts S) (k : Rules) (s : State) (at : ℕ) (body : List ℕ) (incoming : Incoming)
    (old new : Held S) : Type 0 where
  pub sound : IsSound k s
  pub reads : incoming_in body ≡ Ok incoming
  pub accepted : Outcome
  pub accepts : decide k s at (Deliver body) ≡ Ok accepted
  pub alone : IfClean (LeavesOnly (HoldsState s)) (state g old)
  pub survives : Survives (state g old) (state g new) (HoldsState (serve k s at (Deliver body)).next)

-- whatever a crash may leave behind the call shows a state in which the delivery acts once when it comes again
abbrev pub CrashesActOnce : {S : Type 0} → Ghosts S → Type 0
CrashesActOnce {S} g = (k : Rules) (s : State) (at : ℕ) (body : List ℕ) (incoming : Incoming) (old new : Held S)
    → IsDelivered g k s at body incoming old new
    → HasCleanDisk (state g new) → (left : Trees) → (state g new).may_leave left → FindsState k body incoming (λ t. HoldsState t left)

-- and so does what an open finds of the files that the crash left
abbrev pub ReopenedActsOnce : {D : Type 0} → DiskGhosts D → Type 0
ReopenedActsOnce {D} g = (k : Rules) (s : State) (at : ℕ) (body : List ℕ) (incoming : Incoming) (old new : Held (FileStore D g))
    → IsDelivered over_files k s at body incoming old new
    → HasCleanDisk (file_state new) → (stopped : FileStore D g) → AreFoundAgain new stopped → IsTrue (view stopped).is_clean
    → (left : Image) → (files.state stopped).may_leave left
    → (opened : Held (FileStore D g)) → IsOpened opened → FindsIn left (file_state opened)
    → ∥ FindsState k body incoming (λ t. KeepsState t (file_state opened)) ∥₁

-- ---- lists

-- where behind a commit that was answered no command changes the state, a crash leaves the state after the whole list alone
abbrev pub LastCommitsStand : {D : Type 0} → Ghosts D → Type 0
LastCommitsStand {D} g = (k : Rules) (cs : List (ℕ × Command)) (answers : List Answer) (old new : Stored D)
    → OutlastsCalls k cs answers (standing.state g old) (standing.state g new) → CommitsCalls k cs answers (standing.state g old) (standing.state g new)

-- Behind each commit of a list that was answered, an open finds of the files that a crash left the state behind it, or the one after some of the
-- commands that follow.
abbrev pub ReopenedOutlast : {D : Type 0} → DiskGhosts D → Type 0
ReopenedOutlast {D} g = (k : Rules) (cs : List (ℕ × Command)) (answers : List Answer) (old new : Stored (FileStore D g))
    → OutlastsCalls k cs answers (standing.state over_files old) (standing.state over_files new)
    → (s : State) → IsSound k s → standing.IfClean (standing.ShowsState s) (standing.state over_files old)
    → (before rest : List Sent) (m : Sent) → IsAnsweredCommit k s (sent cs answers) before rest m
    → HasCleanDisk (file_state new.held) → (stopped : FileStore D g) → AreFoundAgain new.held stopped → IsTrue (view stopped).is_clean
    → (left : Image) → (files.state stopped).may_leave left
    → (opened : Held (FileStore D g)) → IsOpened opened → FindsIn left (file_state opened)
    → ∥ ((at : State) × StaysOrComesTo k (outcome_behind k s before m).next rest at × KeepsState at (file_state opened)) ∥₁
