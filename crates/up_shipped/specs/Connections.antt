-- Many connections over one desk, each at a moment of its own, and operators' scripts: all that they ask is one run of the plain machine.
use Rattle.std.specs.Prelude.{◌≡◌, ◌⊎◌, ℕ, Bool, List, [], ◌∷◌, ◌++◌, flat_map, IsTrue}
use Rattle.sqlite_disk.specs.declared.Disk.{Ghosts as DiskGhosts}
use Rattle.sqlite_wal.specs.Recovery.{Image}
use Rattle.sqlite_store.specs.declared.store.FileStore.{FileStore}
use Rattle.sqlite_store.specs.FileStore.{view}
use Rattle.sqlite_store.specs.FileStore as files
use Rattle.sqlite.specs.Files.{over_files, file_state, IsOpened}
use Rattle.sqlite.specs.Held.{Held}
use Rattle.sqlite.specs.Start.{FindsIn}
use Rattle.sqlite_trees.specs.declared.store.Store.{Ghosts}
use Rattle.up_sign.specs.Schemes.{Rules}
use Rattle.up_machine.specs.declared.answer.Answer.{Answer}
use Rattle.up_machine.specs.declared.command.Command.{Command}
use Rattle.up_machine.specs.Sound.{IsSound}
use Rattle.up_machine.specs.State.{State}
use Rattle.up_store.specs.Connections as connections
use Rattle.up_store.specs.Stopped.{AreFoundAgain}
use Rattle.up_records.specs.Standing.{Stored, HasCleanDisk, IfClean, ShowsState, state}
use Rattle.up_desk.specs.Desks.{DeskView}
use Rattle.up_desk.specs.Runs.{IsRun}
use Rattle.up_service.specs.Responses.{answer_response}
use Rattle.up_service.specs.Runs.{Service, Told, IsAnsweredCommit, IsMadeBySome, after, behind}
use Rattle.up_connections.specs.Lines.{fresh}
use Rattle.up_sockets.specs.Served.{Done, Single, Group, Lines}
use Rattle.up_sockets.specs.Apart.{AllHappen, AllLines, AreApart, Happening, done_in}
use Rattle.up_main.specs.Clients.{AllLast, Does, DoneLasts, Part, behind_all, part_of}
use Rattle.up_shipped.specs.Items.{AreTold, commands_in}
use Rattle.up_shipped.specs.Shipped.{lines_ask, requests_ask}

-- ---- what is asked, and what is told of it

-- the commands of what is done at once
abbrev pub commands_at : Rules → Done → List (ℕ × Command)
commands_at k (Single at next text) = commands_in (requests_ask at) (next ∷ [])
commands_at k (Group commands answers) = commands
commands_at k (Lines lines texts) = commands_in (lines_ask k) lines

-- these are the answers to them
abbrev pub TellsAt : Rules → Done → List Answer → Type 0
TellsAt k (Single at next text) answers = AreTold (requests_ask at) (next ∷ []) (text ∷ []) answers
TellsAt k (Group commands given) answers = answers ≡ given
TellsAt k (Lines lines texts) answers = AreTold (lines_ask k) lines texts answers

-- the same of all of it
abbrev pub commands_of : Rules → List Done → List (ℕ × Command)
commands_of k done = flat_map (commands_at k) done

abbrev pub TellsAll : Rules → List Done → List Answer → Type 0
TellsAll k [] answers = answers ≡ []
TellsAll k (d ∷ ds) answers = (here : List Answer) × (more : List Answer) × (answers ≡ here ++ more) × TellsAt k d here × TellsAll k ds more

-- ---- all of it

-- all that is done, from a state that the tables showed: a run of the plain machine, behind which the tables show the state; and what was
-- answered outlasts a crash
pub record IsOneRun {K D : Type 0} (rules : K → Rules) (g : Ghosts D) (s : State) (done : List Done) (first now : DeskView K D) : Type 0 where
  pub answers : List Answer
  pub told : TellsAll (rules first.scheme) done answers
  pub behind : State
  pub run : IsRun (rules first.scheme) s (commands_of (rules first.scheme) done) answers behind
  pub sound : IsSound (rules first.scheme) behind
  pub shown : ShowsState behind (state g now.store)
  pub lasts : DoneLasts rules g first done now

-- Connections over a desk: each has its own requests and the answers to them, in their order, and all that is done is one run.
pub record AreOneRun {K D : Type 0} (rules : K → Rules) (g : Ghosts D) (at : ℕ → ℕ) (s : State) (xs : List Happening) (first now : DeskView K D) (new : AllLines) : Type 0 where
  pub apart : AreApart (Does rules g) answer_response at first xs now new
  pub run : IsOneRun rules g s (done_in at xs) first now

-- So of many connections, each with its moment, however what happens on them is interleaved and whatever is done together, from each sound state
-- that the tables showed, over a disk that has returned what was written.
abbrev pub ConnectionsAreRuns : {K D : Type 0} → (K → Rules) → Ghosts D → Type 0
ConnectionsAreRuns {K} {D} rules g = (at : ℕ → ℕ) (first now : DeskView K D) (xs : List Happening) (new : AllLines)
    → AllHappen (Does rules g) answer_response at first (λ n. fresh) xs now new → HasCleanDisk (state g now.store)
    → (s : State) → IsSound (rules first.scheme) s → IfClean (ShowsState s) (state g first.store)
    → AreOneRun rules g at s xs first now new

-- ---- what an open finds of the files that a crash left

-- a request, or items that share a commit, make it of the state behind what was done before
abbrev pub IsMadeByOne : (Done → Part) → State → List Done → State → Type 0
IsMadeByOne parts s [] at = ⊥
IsMadeByOne parts s (d ∷ ds) at = IsMadeBySome (parts d).service s (parts d).met [] at ⊎ IsMadeByOne parts (after (parts d).service s (parts d).met) ds at

-- The program stopped, and the files are opened again as a crash left them: behind each commit of these items that was answered the tables show
-- the state behind it, or what one of those that follow makes from there on, or one behind them all.
abbrev pub ReopenedPart : {D I : Type 0} (g : DiskGhosts D) → Rules → Service I → State → List (Told I) → (State → Type 0) → Stored (FileStore D g) → Type 0
ReopenedPart {D} {I} g k v s ms Follow new = (first later : List (Told I)) (m : Told I) → IsAnsweredCommit v s ms first later m
    → HasCleanDisk (state over_files new) → (stopped : FileStore D g) → AreFoundAgain new.held stopped → IsTrue (view stopped).is_clean
    → (left : Image) → (files.state stopped).may_leave left
    → (opened : Held (FileStore D g)) → IsOpened opened → FindsIn left (file_state opened)
    → ∥ ((at : State) × ((at ≡ behind v (after v s first) m) ⊎ IsMadeBySome v (behind v (after v s first) m) later [] at ⊎ Follow at)
    × connections.KeepsState at (file_state opened)) ∥₁

-- so of all that was done
abbrev pub ReopenedAll : {D : Type 0} → DiskGhosts D → Type 0
ReopenedAll {D} g = (last head : Bool) (k : Rules) (s : State) (before rest : List Done) (d : Done) (old new : Stored (FileStore D g))
    → AllLast (part_of last head k) k s (before ++ d ∷ rest) (state over_files old) (state over_files new)
    → ReopenedPart g k (part_of last head k d).service (behind_all (part_of last head k) s before) (part_of last head k d).met
    (IsMadeByOne (part_of last head k) (after (part_of last head k d).service (behind_all (part_of last head k) s before) (part_of last head k d).met) rest) new
