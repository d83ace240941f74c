-- Lists of commands, answered one after another.
use Rattle.std.specs.Prelude.{◌≡◌, ◌≢◌, ◌⊎◌, ℕ, false, List, [], ◌∷◌, ◌++◌, Option, Some, None, if◌then◌else◌, map, length, ⊤, IfSome, IsTrue}
use Rattle.std.specs.FinMap as table
use Rattle.std.specs.List.{AllByRecursion}
use Rattle.up_canon.specs.Names.{Name}
use Rattle.up_sign.specs.Schemes.{Rules}
use Rattle.up_machine.specs.declared.command.Command.{Command}
use Rattle.up_machine.specs.declared.answer.Answer.{Answer}
use Rattle.up_machine.specs.declared.answer.Answer.TheVariants.{Refused}
use Rattle.up_machine.specs.Commands.{is_command}
use Rattle.up_machine.specs.State.{State}
use Rattle.up_machine.specs.Machine.{Timed, run}
use Rattle.up_machine.specs.Deciding.{Outcome}
use Rattle.up_machine.specs.Repeats.{Sent, serve, after, thinned, expected, not_lost, vehicle_of, without_others, own_answers}
use Rattle.up_machine.specs.ApartLaws.{AreExchanged}
use Rattle.up_machine.specs.Sound.{IsSound}
use Rattle.up_records.specs.Standing.{Standing, HasCleanDisk, IfClean, ShowsState, Survives, LeavesOnly}
use Rattle.up_desk.specs.Serving.{IsAnswered, IsCommit, is_failed, outright, RepliesStay}
use Rattle.up_records.specs.Standing.{HoldsState}

-- a command with its moment
abbrev pub timed : ℕ × Command → Timed
timed c = record { at = c.0; command = c.1 }

-- each command, which counts as lost where its answer tells that it failed
abbrev pub sent : List (ℕ × Command) → List Answer → List Sent
sent [] answers = []
sent (c ∷ cs) [] = []
sent (c ∷ cs) (a ∷ answers) = record { item = timed c; lost = is_failed a } ∷ sent cs answers

-- the commands one after another, each answered as the plain machine does, or lost
abbrev pub ServesEach : Rules → State → List (ℕ × Command) → List Answer → State → Type 0
ServesEach k old [] [] new = new ≡ old
ServesEach k old [] (a ∷ answers) new = ⊥
ServesEach k old (c ∷ cs) [] new = ⊥
ServesEach k old (c ∷ cs) (a ∷ answers) new = (mid : State) × IsAnswered a old mid (serve k old c.0 c.1) × IsTrue (is_command c.1) × ServesEach k mid cs answers new

-- the answer, unless the command failed
abbrev pub unless_failed : Answer → Option Answer
unless_failed a = if is_failed a then None else Some a

-- one answer for each command, and what is refused whether or not there is memory is answered so
abbrev pub AreOutright : Rules → List (ℕ × Command) → List Answer → Type 0
AreOutright k [] [] = ⊤
AreOutright k [] (a ∷ answers) = ⊥
AreOutright k (c ∷ cs) [] = ⊥
AreOutright k (c ∷ cs) (a ∷ answers) = IfSome (outright k c.0 c.1) (λ r. a ≡ Refused r) × AreOutright k cs answers

-- the list has these two neighbours, which deliver manifests of different vehicles
pub record AreNeighbours (ms before rest : List Sent) (m n : Sent) : Type 0 where
  pub list : ms ≡ before ++ m ∷ n ∷ rest
  pub first : Name
  pub second : Name
  pub first_is : vehicle_of m.item.command ≡ Some first
  pub second_is : vehicle_of n.item.command ≡ Some second
  pub differ : first ≢ second

-- One answer for each command; each that didn't fail is the expected one; the state is the plain machine's after the list without what
-- failed and without the repeats, which is also that after the list with them; each reply that was kept is kept on; each vehicle, and
-- the answers to its own deliveries, are those of the list without other vehicles' deliveries; and with two neighbouring deliveries of
-- different vehicles exchanged, the state and the answer to each command are the same.
pub record IsRun (k : Rules) (old : State) (cs : List (ℕ × Command)) (answers : List Answer) (new : State) : Type 0 where
  pub count : length answers ≡ length cs
  pub told : map unless_failed answers ≡ expected k old (sent cs answers)
  pub state : new ≡ run k old (thinned k old (sent cs answers))
  pub with_repeats : new ≡ run k old (not_lost (sent cs answers))
  pub stays : RepliesStay old new
  pub apart : (name : Name) → (table.get new.vehicles name ≡ table.get (after k old (without_others name (sent cs answers))).vehicles name)
      × (own_answers k old name (sent cs answers) ≡ own_answers k old name (without_others name (sent cs answers)))
  pub exchanged : (before rest : List Sent) (m n : Sent) → AreNeighbours (sent cs answers) before rest m n
      → (new ≡ run k old (thinned k old (before ++ n ∷ m ∷ rest)))
      × AreExchanged (length before) (map unless_failed answers) (expected k old (before ++ n ∷ m ∷ rest))

-- so from each sound state that the tables showed, where the disk is clean then; and the tables show the state
abbrev pub RunsCalls : Rules → List (ℕ × Command) → List Answer → Standing → Standing → Type 0
RunsCalls k cs answers old new =
    HasCleanDisk new → (s : State) → IsSound k s → IfClean (ShowsState s) old
    → (next : State) × IsRun k s cs answers next × IsSound k next × ShowsState next new

-- ---- what a crash leaves after a list

-- what a command of a list comes to, behind those before it that didn't fail
abbrev pub outcome_behind : Rules → State → List Sent → Sent → Outcome
outcome_behind k s before m = serve k (after k s before) m.item.at m.item.command

-- a command that was carried out, if only its answer was lost
abbrev pub carried_out : Sent → Sent
carried_out m = record { item = m.item; lost = false }

-- the state after some of the first commands: those that were answered, and behind them some that were carried out in one transaction, if only
-- their answers were lost
abbrev pub ComesTo : Rules → State → List Sent → State → Type 0
ComesTo k s ms at = (before lost rest : List Sent) × (ms ≡ before ++ lost ++ rest) × (at ≡ after k (after k s before) (map carried_out lost))

-- only a fault of the disk shuts the connection, and a crash leaves what it could leave before the list, or the state after some of the first
-- commands
abbrev pub SparesCalls : Rules → List (ℕ × Command) → List Answer → Standing → Standing → Type 0
SparesCalls k cs answers old new = (s : State) → IsSound k s → IfClean (ShowsState s) old
    → Survives old new (λ trees. (at : State) × ComesTo k s (sent cs answers) at × HoldsState at trees)

-- a commit that was answered
pub record IsAnsweredCommit (k : Rules) (s : State) (ms before rest : List Sent) (m : Sent) : Type 0 where
  pub list : ms ≡ before ++ m ∷ rest
  pub answered : m.lost ≡ false
  pub commit : IsCommit (after k s before) (outcome_behind k s before m).answer (outcome_behind k s before m).next

-- this state, or the one after some of the first commands from it on
abbrev pub StaysOrComesTo : Rules → State → List Sent → State → Type 0
StaysOrComesTo k s ms at = (at ≡ s) ⊎ ComesTo k s ms at

-- what was answered stays: behind each commit that was answered a crash leaves the state behind it, or the one after some of the commands that follow
abbrev pub OutlastsCalls : Rules → List (ℕ × Command) → List Answer → Standing → Standing → Type 0
OutlastsCalls k cs answers old new = (s : State) → IsSound k s → IfClean (ShowsState s) old → (before rest : List Sent) (m : Sent)
    → IsAnsweredCommit k s (sent cs answers) before rest m
    → IfClean (LeavesOnly (λ trees. (at : State) × StaysOrComesTo k (outcome_behind k s before m).next rest at × HoldsState at trees)) new

-- a commit that was answered, and behind it no command that changes the state
pub record IsLastCommit (k : Rules) (s : State) (ms before rest : List Sent) (m : Sent) : Type 0 where
  pub made : IsAnsweredCommit k s ms before rest m
  pub unchanged : AllByRecursion (λ n. (serve k (outcome_behind k s before m).next n.item.at n.item.command).next
      ≡ (outcome_behind k s before m).next) rest

-- where the last commit was answered, a crash leaves the state after the whole list alone
abbrev pub CommitsCalls : Rules → List (ℕ × Command) → List Answer → Standing → Standing → Type 0
CommitsCalls k cs answers old new = (s : State) → IsSound k s → IfClean (ShowsState s) old → (before rest : List Sent) (m : Sent)
    → IsLastCommit k s (sent cs answers) before rest m
    → IfClean (LeavesOnly (HoldsState (after k s (sent cs answers)))) new

-- ---- a whole list

-- what a list of commands comes to, of which the answers are appended
pub record AreCalled (k : Rules) (cs : List (ℕ × Command)) (before after : List Answer) (old new : Standing) : Type 0 where
  -- the answers
  pub told : List Answer
  -- they are appended
  pub appended : after ≡ before ++ told
  -- there is one for each command, and what is refused whether or not there is memory is refused
  pub outright : AreOutright k cs told
  -- the state is the plain machine's after the list without what failed and without the repeats, and each answer is the expected one
  pub ran : RunsCalls k cs told old new
  -- a crash leaves what it could leave before, or the state after some of the first commands
  pub crash : SparesCalls k cs told old new
  -- behind each commit that was answered it leaves the state behind that, or the one after some of the commands that follow
  pub lasts : OutlastsCalls k cs told old new
