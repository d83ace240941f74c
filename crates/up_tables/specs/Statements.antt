-- What a statement does within a transaction, where the disk has returned what was written so far. What it writes or finds is said where the
-- whole schema is there, and of the other tables nothing is altered; of what makes a table or raises those of an older version, where the
-- schema before it is there.
use Rattle.std.specs.Prelude.{◌≡◌, ◌≤◌, ◌++◌, pos, ℕ, ℤ, List, [], ◌∷◌, Result, IfOk, IfErr, OnOk, length}
use Rattle.std.specs.Borrow.{MutBor}
use Rattle.sqlite_rules.specs.Lists.{Has}
use Rattle.sqlite_trees.specs.declared.store.Store.{Ghosts}
use Rattle.sqlite_disk.specs.Disk.{MoreFaults}
use Rattle.sqlite.specs.Held.{Held, state}
use Rattle.sqlite.specs.Order.{Row}
use Rattle.sqlite.specs.Schema.{Schema}
use Rattle.sqlite.specs.State.{State, HasCleanDisk}
use Rattle.sqlite.specs.Table.{Table}
use Rattle.sqlite.specs.Tree.{Trees}
use Rattle.up_tables.specs.declared.image_repository.ImageRepositoryRow.{ImageRepositoryRow}
use Rattle.up_tables.specs.declared.meta.MetaRow.{MetaRow}
use Rattle.up_tables.specs.declared.open.SchemaVersion.{SchemaVersion}
use Rattle.up_tables.specs.declared.repo_file.FileRow.{FileRow}
use Rattle.up_tables.specs.declared.values.StoreFault.{StoreFault}
use Rattle.up_tables.specs.declared.values.StoreFault.TheVariants.{Store}
use Rattle.up_tables.specs.declared.vehicle.VehicleRow.{VehicleRow}
use Rattle.up_tables.specs.Forms.{image_repository_of, file_row, meta_of, set_files, vehicle_row}
use Rattle.up_tables.specs.Lines.{EcuLine, AreRecorded, IsRecorded, campaign_line, ecu_row, image_repository_row, meta_row, meta_row_of, set_ecu, set_ecus, vehicle_line}
use Rattle.up_tables.specs.Listed.{TableRows, ListsTables}
use Rattle.up_tables.specs.Makes.{MakesIn}
use Rattle.up_tables.specs.Replaced.{replaced_line, with_replaced}
use Rattle.up_tables.specs.Rows.{with_only, with_only_at}
use Rattle.up_tables.specs.Stands.{AnyRows, GoesOn, IfClean, IsInside, IsOpen, IsReadable, IsWithin, HasTables, Alters, Lists, ListsAll, ListsPairs, Reads, Steps}
use Rattle.up_tables.specs.Tables.{campaign_table, ecu_table, image_repository_table, meta_table, repo_file_table, role_key_table, up_schema, vehicle_table}
use Rattle.up_tables.specs.Versions.{ListsKeys, ListsAs, schema_of}

-- ---- any step

-- a step of a transaction, whichever way it ended: on the same connection, nothing is committed, and a crash leaves what it could leave
-- before
pub record IsStep {S : Type 0} (g : Ghosts S) (old new : MutBor (Held S)) : Type 0 where
  pub same_reference : new.ghost_name ≡ old.ghost_name
  pub steps : Steps (state g old.now) (state g new.now)

-- such a step, after which the transaction goes on and the connection is open, where it went through
pub record IsOpenStep {S A E : Type 0} (g : Ghosts S) (old new : MutBor (Held S)) (result : Result A E) : Type 0 where
  pub same_reference : new.ghost_name ≡ old.ghost_name
  pub steps : Steps (state g old.now) (state g new.now)
  pub inside : OnOk result (IfClean IsInside (state g new.now))
  pub is_open : OnOk result (IfClean IsOpen (state g new.now))

-- where a transaction is under way on the connection
abbrev pub WhereInside : {S : Type 0} → Ghosts S → MutBor (Held S) → Type 0 → Type 0
WhereInside g conn P = IfClean IsInside (state g conn.now) → P

-- where it is open
abbrev pub WhereOpen : {S : Type 0} → Ghosts S → MutBor (Held S) → Type 0 → Type 0
WhereOpen g conn P = IfClean IsOpen (state g conn.now) → P

-- ---- writes

-- by the text in the column at this place, the table has the next rows
abbrev pub AltersRows : {A E : Type 0} → Table → ℕ → ((List ℕ → List Row) → List ℕ → List Row) → State → State → Result A E → Type 0
AltersRows table at next old new result =
    HasCleanDisk new → OnOk result ((rows_of : List ℕ → List Row) → HasTables old
    → Lists at rows_of (old.now.trees table.tree) → Alters table (Lists at (next rows_of)) old new)

-- it has more rows, behind all others
abbrev pub AppendsRows : {A E : Type 0} → Table → List Row → State → State → Result A E → Type 0
AppendsRows table more old new result =
    HasCleanDisk new → OnOk result ((all : List Row) → HasTables old
    → ListsAll all (old.now.trees table.tree) → Alters table (ListsAll (all ++ more)) old new)

-- it has just these rows
abbrev pub SetsRows : {A E : Type 0} → Table → List Row → State → State → Result A E → Type 0
SetsRows table rows old new result =
    HasCleanDisk new → OnOk result ((all : List Row) → HasTables old
    → ListsAll all (old.now.trees table.tree) → Alters table (ListsAll rows) old new)

-- the one row of `meta` has these numbers
abbrev pub SetsMeta : {A E : Type 0} → MetaRow → State → State → Result A E → Type 0
SetsMeta meta old new result =
    HasCleanDisk new → OnOk result ((root : ℕ) (image_version : ℕ) (stamp : ℕ) → HasTables old
    → old.now.trees meta_table.tree ≡ meta_row root image_version stamp ∷ [] → Alters meta_table (λ rows. rows ≡ meta_of meta ∷ []) old new)

-- the one row of `image_repository` has these numbers
abbrev pub SetsImageRepository : {A E : Type 0} → ImageRepositoryRow → State → State → Result A E → Type 0
SetsImageRepository row old new result =
    HasCleanDisk new → OnOk result ((root : ℕ) (targets : ℕ) → HasTables old
    → old.now.trees image_repository_table.tree ≡ image_repository_row root targets ∷ []
    → Alters image_repository_table (λ rows. rows ≡ image_repository_of row ∷ []) old new)

-- a file that stood there once at most has this text
abbrev pub SetsFile : {A E : Type 0} → FileRow → State → State → Result A E → Type 0
SetsFile file old new result =
    HasCleanDisk new → OnOk result ((rows_of : List ℕ → List ℕ → List Row) → HasTables old
    → ListsPairs rows_of (old.now.trees repo_file_table.tree) → length (rows_of file.repository.now file.name.now) ≤ 1
    → Alters repo_file_table (ListsPairs (with_only_at file.repository.now file.name.now (file_row file) rows_of)) old new)

-- where each file stood there once at most, these have their texts
abbrev pub SetsFiles : {A E : Type 0} → List FileRow → State → State → Result A E → Type 0
SetsFiles files old new result =
    HasCleanDisk new → OnOk result ((rows_of : List ℕ → List ℕ → List Row) → HasTables old
    → ListsPairs rows_of (old.now.trees repo_file_table.tree) → ((repository : List ℕ) (name : List ℕ) → length (rows_of repository name) ≤ 1)
    → Alters repo_file_table (ListsPairs (set_files files rows_of)) old new)

-- the campaign that was there doesn't run
abbrev pub ClosesCampaign : {A E : Type 0} → List ℕ → State → State → Result A E → Type 0
ClosesCampaign name old new result =
    HasCleanDisk new → OnOk result ((rows_of : List ℕ → List Row) (reach : List ℕ) (items : List ℕ) (running : ℤ) → HasTables old
    → Lists 1 rows_of (old.now.trees campaign_table.tree) → rows_of name ≡ campaign_line name reach items running ∷ []
    → Alters campaign_table (Lists 1 (with_only name (campaign_line name reach items (pos 0)) rows_of)) old new)

-- the vehicle that was there has this row
abbrev pub SetsVehicle : {A E : Type 0} → VehicleRow → State → State → Result A E → Type 0
SetsVehicle vehicle old new result =
    HasCleanDisk new → OnOk result ((rows_of : List ℕ → List Row) (primary : List ℕ) (version : ℕ) (last : ℕ) → HasTables old
    → Lists 1 rows_of (old.now.trees vehicle_table.tree)
    → rows_of vehicle.vehicle.now ≡ vehicle_line vehicle.vehicle.now primary version last ∷ []
    → Alters vehicle_table (Lists 1 (with_only vehicle.vehicle.now (vehicle_row vehicle) rows_of)) old new)

-- the ECU that was recorded has this row
abbrev pub SetsEcu : {A E : Type 0} → EcuLine → State → State → Result A E → Type 0
SetsEcu ecu old new result =
    HasCleanDisk new → OnOk result ((rows_of : List ℕ → List Row) (was : EcuLine) → HasTables old
    → IsRecorded ecu was rows_of (old.now.trees ecu_table.tree) → Alters ecu_table (Lists 2 (set_ecu ecu rows_of)) old new)

-- all ECUs of the vehicle, which were recorded, have these rows
abbrev pub SetsEcus : {A E : Type 0} → List ℕ → List EcuLine → State → State → Result A E → Type 0
SetsEcus vehicle ecus old new result =
    HasCleanDisk new → OnOk result ((rows_of : List ℕ → List Row) (olds : List EcuLine) → HasTables old
    → AreRecorded vehicle ecus olds rows_of (old.now.trees ecu_table.tree) → Alters ecu_table (Lists 2 (set_ecus vehicle ecus rows_of)) old new)

-- an ECU stands in the place of the one of this name, before its first report
abbrev pub ReplacesEcu : {A E : Type 0} → List ℕ → List ℕ → List ℕ → List ℕ → State → State → Result A E → Type 0
ReplacesEcu replaced ecu hardware public_key old new result =
    HasCleanDisk new → OnOk result ((rows_of : List ℕ → List Row) (was : EcuLine) → HasTables old
    → Lists 2 rows_of (old.now.trees ecu_table.tree) → Has (rows_of was.vehicle) (ecu_row was) → was.ecu ≡ replaced
    → Alters ecu_table (Lists 2 (with_replaced was (replaced_line ecu hardware public_key was) rows_of)) old new)

-- ---- reads

-- nothing is written, whatever stands in the database
abbrev pub OnlyReads : {A E : Type 0} → State → State → Result A E → Type 0
OnlyReads old new result = HasCleanDisk new → OnOk result (Reads old new)

-- what is found is told by the table's rows, by the text in the column at this place
abbrev pub Finds : {A E : Type 0} → Table → ℕ → ((List ℕ → List Row) → A → Type 0) → State → State → Result A E → Type 0
Finds table at told old new result =
    HasCleanDisk new → IfOk result (λ found. (rows_of : List ℕ → List Row) → HasTables old
    → Lists at rows_of (old.now.trees table.tree) → told rows_of found)

-- by all its rows
abbrev pub FindsAll : {A E : Type 0} → Table → (List Row → A → Type 0) → State → State → Result A E → Type 0
FindsAll table told old new result =
    HasCleanDisk new → IfOk result (λ found. (all : List Row) → HasTables old → ListsAll all (old.now.trees table.tree) → told all found)

-- by the files' rows, by repository and name
abbrev pub FindsFiles : {A E : Type 0} → ((List ℕ → List ℕ → List Row) → A → Type 0) → State → State → Result A E → Type 0
FindsFiles told old new result =
    HasCleanDisk new → IfOk result (λ found. (rows_of : List ℕ → List ℕ → List Row) → HasTables old
    → ListsPairs rows_of (old.now.trees repo_file_table.tree) → told rows_of found)

-- ---- faults of reads

-- where the tables can be read, and P holds of them, `Store` is told only where the disk counted a fault
abbrev pub BlamesDisk : {A : Type 0} → (State → Type 0) → State → State → Result A StoreFault → Type 0
BlamesDisk P old new result =
    HasCleanDisk new → IfErr result (λ fault. fault ≡ Store → IsReadable old → P old → MoreFaults old.faults new.faults)

-- P holds of the table's rows, by the text in the column at this place
abbrev pub HoldsBy : Table → ℕ → ((List ℕ → List Row) → Type 0) → State → Type 0
HoldsBy table at P s = (rows_of : List ℕ → List Row) × Lists at rows_of (s.now.trees table.tree) × P rows_of

-- of all its rows
abbrev pub HoldsOfAll : Table → (List Row → Type 0) → State → Type 0
HoldsOfAll table P s = (all : List Row) × ListsAll all (s.now.trees table.tree) × P all

-- of the files' rows, by repository and name
abbrev pub HoldsOfFiles : ((List ℕ → List ℕ → List Row) → Type 0) → State → Type 0
HoldsOfFiles P s = (rows_of : List ℕ → List ℕ → List Row) × ListsPairs rows_of (s.now.trees repo_file_table.tree) × P rows_of

-- the vehicle stands there, with its Primary
abbrev pub HasVehicle : VehicleRow → State → Type 0
HasVehicle vehicle =
    HoldsBy vehicle_table 1 (λ rows_of. (version : ℕ) × (last : ℕ)
    × (rows_of vehicle.vehicle.now ≡ vehicle_line vehicle.vehicle.now vehicle.primary_ecu.now version last ∷ []))

-- ---- tables that are made, and raised to the latest version of the schema

-- a table more is there, and empty
abbrev pub MakesTable : {A E : Type 0} → Schema → Table → State → State → Result A E → Type 0
MakesTable schema table old new result = HasCleanDisk new → OnOk result (IsWithin schema AnyRows old → MakesIn schema table old new)

-- the one row of `meta` names the latest version, and has the numbers that it had
abbrev pub NamesLatest : {A E : Type 0} → State → State → Result A E → Type 0
NamesLatest old new result =
    HasCleanDisk new → OnOk result ((number : ℕ) (root : ℕ) (image_version : ℕ) (stamp : ℕ) → HasTables old
    → old.now.trees meta_table.tree ≡ meta_row_of number root image_version stamp ∷ []
    → Alters meta_table (λ rows. rows ≡ meta_row root image_version stamp ∷ []) old new)

-- the image repository gets the numbers of `meta`
abbrev pub TakesNumbers : {A E : Type 0} → State → State → Result A E → Type 0
TakesNumbers old new result =
    HasCleanDisk new → OnOk result ((number : ℕ) (root : ℕ) (image_version : ℕ) (stamp : ℕ) → HasTables old
    → old.now.trees meta_table.tree ≡ meta_row_of number root image_version stamp ∷ [] → old.now.trees image_repository_table.tree ≡ []
    → Alters image_repository_table (λ rows. rows ≡ image_repository_row root image_version ∷ []) old new)

-- of the keys those of the last root version stay
abbrev pub DropsKeys : {A E : Type 0} → State → State → Result A E → Type 0
DropsKeys old new result =
    HasCleanDisk new → OnOk result ((number : ℕ) (root : ℕ) (image_version : ℕ) (stamp : ℕ) (keys : List Row) → HasTables old
    → old.now.trees meta_table.tree ≡ meta_row_of number root image_version stamp ∷ [] → ListsKeys root keys (old.now.trees role_key_table.tree)
    → Alters role_key_table (ListsAll keys) old new)

-- tables of this schema are those of the latest, with the rows that were there, whatever number `meta` names
abbrev pub RaisesAny : {A E : Type 0} → Schema → (ℕ → TableRows → Trees → Type 0) → State → State → Result A E → Type 0
RaisesAny schema Lists old new result =
    HasCleanDisk new → OnOk result ((number : ℕ) (rows : TableRows) → IsWithin schema (Lists number rows) old → GoesOn up_schema (ListsTables rows) new)

-- tables of this version are those of the latest, with the rows that were there
abbrev pub RaisesFrom : {A E : Type 0} → SchemaVersion → State → State → Result A E → Type 0
RaisesFrom version old new result =
    HasCleanDisk new → OnOk result ((rows : TableRows) → IsWithin (schema_of version) (ListsAs version rows) old
    → GoesOn up_schema (ListsTables rows) new)
