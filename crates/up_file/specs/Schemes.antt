-- A file belongs to one scheme of signatures: the keys of its roles are of one method.
use Rattle.std.specs.Prelude.{◌≡◌, ◌⊎◌, ◌&&◌, false, ℕ, List, Bool, true, bytes_eq, Option, None, Some, Result, Ok, Err, IfOk, codes}
use Rattle.std.specs.List.{list_all}
use Rattle.sqlite.specs.State.{State, HasCleanDisk, Survives}
use Rattle.up_canon.specs.declared.refusal.Refusal.{Refusal}
use Rattle.up_roles.specs.Root.{root_in}
use Rattle.up_roles.specs.declared.root.RoleKeys.{RoleKeys}
use Rattle.up_roles.specs.declared.root.RootFile.{RootFile}
use Rattle.up_roles.specs.declared.repository.Repository.TheVariants.{Director}
use Rattle.up_rows.specs.Lookups.{text_held}
use Rattle.up_sign.specs.declared.envelope.Envelope.{Envelope}
use Rattle.up_rows.specs.StateRows.{StateRows, no_rows}
use Rattle.up_store.specs.Connections.{HoldsRows, KeepsAs, KeepsRows}
use Rattle.up_tables.specs.declared.open.OpenFault.{OpenFault}
use Rattle.up_tables.specs.declared.open.OpenFault.TheVariants.{Store}
use Rattle.up_tables.specs.declared.open.SchemaVersion.{SchemaVersion}
use Rattle.up_tables.specs.Making.{FailsToMake}
use Rattle.up_tables.specs.Stands.{IfClean, IsAsCommitted, HasNoTables, LeavesOnly}
use Rattle.up_file.specs.Adopting.{AdoptedIn, FailsToTake, IsAdopted}

-- each key of the role is of the method
abbrev pub is_role_by : List ℕ → RoleKeys → Bool
is_role_by method role = list_all (λ key. bytes_eq key.method method) role.keys

-- each key of the Root is
abbrev pub is_root_by : List ℕ → RootFile → Bool
is_root_by method file =
    is_role_by method file.root && is_role_by method file.targets && is_role_by method file.snapshot && is_role_by method file.timestamp

-- the same of what was read as a Root; what is no Root has no key of another
abbrev pub is_by : List ℕ → Result (RootFile × Envelope) Refusal → Bool
is_by method (Ok read) = is_root_by method read.0
is_by method (Err refusal) = true

-- the same of the text of a Root, none where nothing is founded
abbrev pub are_keys_of : List ℕ → Option (List ℕ) → Bool
are_keys_of method None = true
are_keys_of method (Some text) = is_by method (root_in text)

-- whatever rows the tables of a version of the schema list, the keys of the Director's latest Root are, or are not, of the method
abbrev pub TellKeys : List ℕ → Bool → State → Type 0
TellKeys method are s =
    (version : SchemaVersion) (rows : StateRows) → IfClean (KeepsAs version rows) s → are_keys_of method (text_held rows Director (codes "root.json")) ≡ are

-- what is answered is told by the rows that the tables of a version list
abbrev pub Answers : {A E : Type 0} → (StateRows → A) → State → State → Result A E → Type 0
Answers told old new result =
    HasCleanDisk new → IfOk result (λ found. (version : SchemaVersion) (rows : StateRows) → IfClean (KeepsAs version rows) old → found ≡ told rows)

-- by the Director's latest Root
abbrev pub AnswersKeys : {E : Type 0} → List ℕ → State → State → Result Bool E → Type 0
AnswersKeys method = Answers (λ rows. are_keys_of method (text_held rows Director (codes "root.json")))

-- the database was read, stays as it was committed, with no transaction under way, and a crash leaves what it could leave before
pub record IsRead (old new : State) : Type 0 where
  pub kept : IfClean (IsAsCommitted old) new
  pub survives : Survives old new (λ _. ⊥)
  pub mode : new.in_transaction ≡ false

-- it had no tables, of this product or another, and now has those of this product, which show that nothing is founded, also after a crash
pub record IsMade (old new : State) : Type 0 where
  pub empty : HasNoTables old
  pub made : KeepsRows no_rows new
  pub durable : LeavesOnly (HoldsRows no_rows) new

-- it was read, all keys that its tables told were of the method, and then it was adopted or made
pub record IsTakenFor {C : Type 0} (of_conn : C → State) (method : List ℕ) (old new : State) : Type 0 where
  pub between : C
  pub read : IsRead old (of_conn between)
  pub taken : HasCleanDisk new → IsAdopted (of_conn between) new ⊎ IsMade (of_conn between) new
  pub crash : Survives (of_conn between) new (AdoptedIn (of_conn between))
  pub keys : HasCleanDisk new → TellKeys method true old

-- It was read, and is as it was committed, with no transaction under way. `Store` is told only for what keeps it from being taken, or, where
-- its Root couldn't be read, from being made.
pub record IsRefused {C : Type 0} (of_conn : C → State) (old new : State) (fault : OpenFault) : Type 0 where
  pub between : C
  pub cause : fault ≡ Store → HasCleanDisk new → FailsToTake (of_conn between) new ⊎ FailsToMake (of_conn between) new
  pub read : IsRead old (of_conn between)
  pub crash : Survives (of_conn between) new (AdoptedIn (of_conn between))
  pub kept : IfClean (IsAsCommitted old) new
  pub mode : new.in_transaction ≡ false

-- it was read alone, and a key that its tables told was of another method
pub record IsOther (method : List ℕ) (old new : State) : Type 0 where
  pub read : IsRead old new
  pub keys : HasCleanDisk new → TellKeys method false old
