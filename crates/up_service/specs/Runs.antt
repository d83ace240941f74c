-- What a whole run over lines or over requests comes to: its answers, the state that the tables show then, and what a crash leaves.
use Rattle.std.specs.Prelude.{◌≡◌, ◌⊎◌, ◌||◌, ◌++◌, ℕ, Bool, true, false, ⊤, List, [], ◌∷◌, map, Option, Some, None}
use Rattle.std.specs.Prelude.{IsTrue, IsSome, if◌then◌else◌, bytes_eq}
use Rattle.sqlite_disk.specs.declared.Disk.{Ghosts as DiskGhosts}
use Rattle.sqlite_wal.specs.Recovery.{Image}
use Rattle.sqlite_store.specs.declared.store.FileStore.{FileStore}
use Rattle.sqlite_store.specs.FileStore.{view}
use Rattle.sqlite_store.specs.FileStore as files
use Rattle.sqlite.specs.Files.{over_files, file_state, IsOpened}
use Rattle.sqlite.specs.Held.{Held}
use Rattle.sqlite.specs.Start.{FindsIn}
use Rattle.sqlite.specs.Tree.{Trees}
use Rattle.sqlite_trees.specs.declared.store.Store.{Ghosts}
use Rattle.up_canon.specs.declared.refusal.Refusal.{Refusal}
use Rattle.up_canon.specs.declared.refusal.Refusal.TheVariants.{Memory, Store}
use Rattle.up_sign.specs.Schemes.{Rules}
use Rattle.up_machine.specs.Sound.{IsSound}
use Rattle.up_machine.specs.State.{State}
use Rattle.up_lines.specs.Runs.{GivesAll, Run, listed}
use Rattle.up_store.specs.Connections as connections
use Rattle.up_store.specs.Stopped.{AreFoundAgain}
use Rattle.up_records.specs.Standing.{HoldsState}
use Rattle.up_records.specs.Standing.{Stored, Standing, HasCleanDisk, IfClean, ShowsState, Survives, LeavesOnly, state}
use Rattle.up_desk.specs.Desks.{DeskView}
use Rattle.up_service.specs.Answers.{Answered, IsCommitted}

-- ---- items, answered one after another

-- what answers items: the rules of the desk's scheme, the answer to an item in a state, how a refusal of it is told, and whether some items
-- may share a commit
pub record Service (I : Type 0) : Type 0 where
  pub rules : Rules
  pub answer : State → I → Answered
  pub tell : I → Refusal → List ℕ
  pub together : Bool

-- an item, and the text that was written for it, whole
pub record Told (I : Type 0) : Type 0 where
  pub item : I
  pub text : List ℕ

-- each item with its text
abbrev pub told : {I : Type 0} → List I → List (List ℕ) → List (Told I)
told [] texts = []
told (item ∷ items) [] = []
told (item ∷ items) (text ∷ texts) = record { item = item; text = text } ∷ told items texts

-- its text tells that memory or the database refused
abbrev pub tells_fault : {I : Type 0} → Service I → Told I → Bool
tells_fault v m = bytes_eq m.text (v.tell m.item Memory) || bytes_eq m.text (v.tell m.item Store)

-- the state behind an item: where its text tells such a fault the same, and else what the item makes of it
abbrev pub behind : {I : Type 0} → Service I → State → Told I → State
behind v s m = if tells_fault v m then s else (v.answer s m.item).next

-- the state behind items
abbrev pub after : {I : Type 0} → Service I → State → List (Told I) → State
after v s [] = s
after v s (m ∷ ms) = after v (behind v s m) ms

-- each text is the answer in the state behind the items before it, or tells such a fault
abbrev pub AreDue : {I : Type 0} → Service I → State → List (Told I) → Type 0
AreDue v s [] = ⊤
AreDue v s (m ∷ ms) = ((m.text ≡ (v.answer s m.item).text) ⊎ IsTrue (tells_fault v m)) × AreDue v (behind v s m) ms

-- the state behind items that were handed on, and for which not all texts were written: each was carried out, or changed nothing
abbrev pub IsBehind : {I : Type 0} → Service I → State → List I → State → Type 0
IsBehind v s [] at = at ≡ s
IsBehind v s (item ∷ items) at = IsBehind v s items at ⊎ IsBehind v (v.answer s item).next items at

-- ---- what a crash leaves

-- it is what an item makes of the state, if that is a command
abbrev pub IsMade : {I : Type 0} → Service I → State → I → State → Type 0
IsMade v s item at = IsSome (v.answer s item).called × (at ≡ (v.answer s item).next)

-- so is it of the first of items
abbrev pub IsMadeFirst : {I : Type 0} → Service I → State → List I → State → Type 0
IsMadeFirst v s [] at = ⊥
IsMadeFirst v s (item ∷ items) at = IsMade v s item at

-- the state behind items that were all carried out
abbrev pub made : {I : Type 0} → Service I → State → List I → State
made v s [] = s
made v s (item ∷ items) = made v (v.answer s item).next items

-- some of these items come first, and make this of the state
pub record IsMadeTogether {I : Type 0} (v : Service I) (s : State) (items : List I) (at : State) : Type 0 where
  pub some : List I
  pub others : List I
  pub first_ones : items ≡ some ++ others
  pub makes : at ≡ made v s some

-- so do some of them that were handed on, of which not each was carried out
pub record IsMadeUntold {I : Type 0} (v : Service I) (s : State) (items : List I) (at : State) : Type 0 where
  pub some : List I
  pub others : List I
  pub first_ones : items ≡ some ++ others
  pub makes : IsBehind v s some at

-- it is what one transaction makes of the state: of the first of these items, or of some of them, where they may share it
abbrev pub IsMadeAtOnce : Bool → {I : Type 0} → Service I → State → List I → State → Type 0
IsMadeAtOnce true v s items at = IsMadeTogether v s items at
IsMadeAtOnce false v s items at = IsMadeFirst v s items at

-- the same, of items that were handed on, for which not all texts were written
abbrev pub IsMadeHanded : Bool → {I : Type 0} → Service I → State → List I → State → Type 0
IsMadeHanded true v s items at = IsMadeUntold v s items at
IsMadeHanded false v s items at = IsMadeFirst v s items at

-- the items of texts
abbrev pub items_of : {I : Type 0} → List (Told I) → List I
items_of ms = map (λ m. m.item) ms

-- it is what one transaction, or a call, of one of the items makes of the state behind those before it; more items may have been handed on behind
abbrev pub IsMadeBySome : {I : Type 0} → Service I → State → List (Told I) → List I → State → Type 0
IsMadeBySome v s [] next at = IsMadeHanded v.together v s next at
IsMadeBySome v s (m ∷ ms) next at = IsMadeAtOnce v.together v s (items_of (m ∷ ms)) at ⊎ IsMadeBySome v (behind v s m) ms next at

-- what a crash left holds such a state
abbrev pub HoldsSome : {I : Type 0} → Service I → State → List (Told I) → List I → Trees → Type 0
HoldsSome v s ms next trees = (at : State) × IsMadeBySome v s ms next at × HoldsState at trees

-- one of the items is a commit, and its text tells no fault
pub record IsAnsweredCommit {I : Type 0} (v : Service I) (s : State) (ms before rest : List (Told I)) (m : Told I) : Type 0 where
  pub list : ms ≡ before ++ m ∷ rest
  pub answered : tells_fault v m ≡ false
  pub commit : IsCommitted (after v s before) (v.answer (after v s before) m.item).called (v.answer (after v s before) m.item).next

-- ---- what a run comes to

-- What a run comes to from a state. Over a disk that has returned what was written so far each text is due, and the tables show the state
-- behind the items. Only a fault of the disk shuts the connection, and a crash leaves what it could leave before, or what one of the items
-- makes of the state behind those before it, or some that share a commit. What was answered stays: behind each commit that was answered a
-- crash leaves the state behind it, or what one of the items that follow makes from there on.
pub record Lasts {I : Type 0} (v : Service I) (s : State) (ms : List (Told I)) (next : List I) (old new : Standing) : Type 0 where
  pub due : HasCleanDisk new → AreDue v s ms
  pub shown : HasCleanDisk new → (at : State) × IsBehind v (after v s ms) next at × IsSound v.rules at × ShowsState at new
  pub crash : Survives old new (HoldsSome v s ms next)
  pub durable : (before rest : List (Told I)) (m : Told I) → IsAnsweredCommit v s ms before rest m
      → IfClean (LeavesOnly (λ trees. HoldsState (behind v (after v s before) m) trees
      ⊎ HoldsSome v (behind v (after v s before) m) rest next trees)) new

-- so from each sound state that the tables showed before the run
abbrev pub LastsFrom : {K D I : Type 0} → (K → Service I) → Ghosts D → DeskView K D → List I → List (List ℕ) → List I → DeskView K D → Type 0
LastsFrom u g old items texts next new =
    (s : State) → IsSound (u old.scheme).rules s → IfClean (ShowsState s) (state g old.store)
    → Lasts (u old.scheme) s (told items texts) next (state g old.store) (state g new.store)

-- behind a run one more item was handed on and answered, whatever was written of it; or none was
abbrev pub HandsOn : {S I : Type 0} → (S → I → List ℕ → S → Type 0) → Option I → S → S → Type 0
HandsOn gives None old new = new ≡ old
HandsOn gives (Some item) old new = (text : List ℕ) × gives old item text new

-- so of every run over items, with one more behind it or none
abbrev pub RunsLast : {K D I : Type 0} → (K → Service I) → Ghosts D → (DeskView K D → I → List ℕ → DeskView K D → Type 0) → Type 0
RunsLast {K} {D} {I} u g gives = (items : List I) (texts : List (List ℕ)) (next : Option I) (old last new : DeskView K D)
    → Run gives old items texts last → HandsOn gives next last new → LastsFrom u g old items texts (listed next) new

-- behind a run more items were handed on and answered, whatever was written of it; or none were
abbrev pub HandsOnSome : {S I : Type 0} → GivesAll S I → List I → S → S → Type 0
HandsOnSome gives [] old new = new ≡ old
HandsOnSome gives (item ∷ items) old new = (texts : List (List ℕ)) × gives old (item ∷ items) texts new

-- so of every run over lists of items, with more behind it or none
abbrev pub ListsLast : {K D I : Type 0} → (K → Service I) → Ghosts D → GivesAll (DeskView K D) I → Type 0
ListsLast {K} {D} {I} u g gives = (items : List I) (texts : List (List ℕ)) (next : List I) (old last new : DeskView K D)
    → gives old items texts last → HandsOnSome gives next last new → LastsFrom u g old items texts next new

-- ---- what an open finds of the files that a crash left

-- The program stopped behind a run, and the files are opened again as a crash left them: behind each commit that was answered the tables show
-- the state behind it, or what one of the items that follow makes from there on.
abbrev pub ReopenedLast : {D : Type 0} → Type 0 → DiskGhosts D → Type 0
ReopenedLast {D} I g = (v : Service I) (s : State) (ms : List (Told I)) (next : List I) (old new : Stored (FileStore D g))
    → Lasts v s ms next (state over_files old) (state over_files new)
    → (before rest : List (Told I)) (m : Told I) → IsAnsweredCommit v s ms before rest m
    → HasCleanDisk (state over_files new) → (stopped : FileStore D g) → AreFoundAgain new.held stopped → IsTrue (view stopped).is_clean
    → (left : Image) → (files.state stopped).may_leave left
    → (opened : Held (FileStore D g)) → IsOpened opened → FindsIn left (file_state opened)
    → ∥ ((at : State) × ((at ≡ behind v (after v s before) m) ⊎ IsMadeBySome v (behind v (after v s before) m) rest next at)
    × connections.KeepsState at (file_state opened)) ∥₁
