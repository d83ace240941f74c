-- What rows are read as, whoever wrote them: each column as what it says, so that a row that says no image, campaign or kept manifest isn't read.
use Rattle.std.specs.Prelude.{◌≡◌, ◌≢◌, ◌∷◌, ℕ, pos, List, [], Option, Some, None, Result, length, map, filter}
use Rattle.std.specs.Prelude.{bytes_eq, Ok, IfOk, IfSome, IsSomeAnd, MatchOption, option_map}
use Rattle.std.specs.FinMap as table
use Rattle.std.specs.List.{list_any}
use Rattle.std.specs.Option.{option_to_list}
use Rattle.sqlite.specs.Order.{Row, column}
use Rattle.sqlite.specs.declared.types.Value.{Value}
use Rattle.sqlite.specs.declared.types.Value.TheVariants.{Blob, Int, Null}
use Rattle.sqlite.specs.State.{State as Connected, HasCleanDisk}
use Rattle.sqlite.specs.Table.{Table as SqlTable}
use Rattle.up_canon.specs.Names.{Name, Table}
use Rattle.up_canon.specs.declared.refusal.Refusal.{Refusal}
use Rattle.up_manifest.specs.declared.report.Installed.{Installed}
use Rattle.up_plan.specs.Campaigns.{CampaignData}
use Rattle.up_plan.specs.Images.{ImageData}
use Rattle.up_machine.specs.declared.rows.EcuRow.{EcuRow}
use Rattle.up_machine.specs.declared.rows.Founding.{Founding}
use Rattle.up_machine.specs.declared.rows.Kept.{Kept}
use Rattle.up_machine.specs.declared.rows.VehicleRow.{VehicleRow}
use Rattle.up_columns.specs.Columns.{names_in, needs_in, file_names_in}
use Rattle.up_columns.specs.CampaignColumns.{reach_in, campaign_items_in}
use Rattle.up_columns.specs.PlanColumns.{plan_in}
use Rattle.up_store.specs.declared.campaign_rows.CampaignShown.{CampaignShown}
use Rattle.up_store.specs.declared.image_rows.ImageShown.{ImageShown}
use Rattle.up_store.specs.declared.files.ServedFile.{ServedFile}
use Rattle.up_store.specs.declared.second_hashes.SecondHash.{SecondHash}
use Rattle.up_tables.specs.declared.image_repository.ImageRepositoryRow.{ImageRepositoryRow}
use Rattle.up_tables.specs.declared.meta.MetaRow.{MetaRow}
use Rattle.up_store.specs.declared.keys.RoleKey.{RoleKey}
use Rattle.up_tables.specs.Ecus.{owns}
use Rattle.up_tables.specs.Forms.{FitImageRepository, FitMeta, campaign_places, file_places, image_places, keys_shown, kept_places, running_shown}
use Rattle.up_tables.specs.Forms.{sha512_places, vehicle_places}
use Rattle.up_tables.specs.Found.{ReadsByPlace, image_repository_shown, meta_shown}
use Rattle.up_tables.specs.Kinds.{IsText}
use Rattle.up_tables.specs.Rows.{columns_at, has_number, has_text}
use Rattle.up_tables.specs.Lines.{yes_or_no}
use Rattle.up_tables.specs.Stands.{HasTables, Lists, ListsAll}
use Rattle.up_tables.specs.Stored.{EachSays}
use Rattle.up_tables.specs.Tables.{image_repository_table, meta_table, role_key_table}
use Rattle.up_store.specs.Shown.{IsFoundingOf, reported_sha512}

-- ---- one row

-- with the second hash that was found beside it
pub record IsReadImage (shown : ImageShown) (hash : Option (List ℕ)) (read : ImageData) : Type 0 where
  pub file : read.file ≡ shown.file
  pub length : read.length ≡ shown.length
  pub sha256 : read.sha256 ≡ shown.sha256
  pub sha512 : read.sha512 ≡ hash
  pub hardware : names_in shown.hardware ≡ Ok read.hardware
  pub release : read.release ≡ shown.release
  pub needs : needs_in shown.needs ≡ Ok read.needs
  pub conflicts : file_names_in shown.conflicts ≡ Ok read.conflicts

pub record IsReadCampaign (shown : CampaignShown) (read : CampaignData) : Type 0 where
  pub name : read.name ≡ shown.name
  pub reach : reach_in shown.reach ≡ Ok read.reach
  pub items : campaign_items_in shown.items ≡ Ok read.items
  pub running : read.running ≡ shown.running

-- the column is a text in UTF-8 that is read as this value
abbrev pub IsColumnOf : {A : Type 0} → (List ℕ → Result A Refusal) → Value → A → Type 0
IsColumnOf read v x = (text : List ℕ) × IsText v text × (read text ≡ Ok x)

-- the row says this kept manifest
pub record SaysKept (row : Row) (read : Kept) : Type 0 where
  pub vehicle : IsText (column row 0) read.vehicle
  pub counter : column row 1 ≡ Int (pos read.counter)
  pub version : column row 2 ≡ Int (pos read.version)
  pub moment : column row 3 ≡ Int (pos read.at)
  pub root : column row 4 ≡ Int (pos read.root)
  pub signed : IsText (column row 5) read.signed
  pub plan : IsColumnOf plan_in (column row 6) read.plan
  pub reply : IsText (column row 7) read.reply

-- the row says this file
pub record SaysFile (row : Row) (read : ServedFile) : Type 0 where
  pub repository : IsText (column row 0) read.repository
  pub name : IsText (column row 1) read.name
  pub body : IsText (column row 2) read.body

-- the row says this vehicle
pub record SaysVehicle (row : Row) (read : VehicleRow) : Type 0 where
  pub vehicle : IsText (column row 0) read.vehicle
  pub primary : IsText (column row 1) read.primary
  pub version : column row 2 ≡ Int (pos read.version)
  pub last : column row 3 ≡ Int (pos read.last)

-- the text, or null
abbrev pub IsTextOrNull : Value → Option (List ℕ) → Type 0
IsTextOrNull v None = v ≡ Null
IsTextOrNull v (Some t) = IsText v t

-- three columns say what is installed, or none
abbrev pub SaysInstalled : Row → Option Installed → Type 0
SaysInstalled row None = (column row 3 ≡ Null) × (column row 4 ≡ Null) × (column row 5 ≡ Null)
SaysInstalled row (Some i) = IsText (column row 3) i.file × (column row 4 ≡ Int (pos i.length)) × (column row 5 ≡ Blob i.sha256)

-- one of the three is null, and another isn't
abbrev pub IsPartlyNull : Row → Type 0
IsPartlyNull row =
    ¬ ((column row 3 ≡ Null) × (column row 4 ≡ Null) × (column row 5 ≡ Null)) × ¬ ((column row 3 ≢ Null) × (column row 4 ≢ Null) × (column row 5 ≢ Null))

-- what a read shows of an ECU says this one, with the second hash that its report's text has
pub record SaysEcu (row : Row) (read : EcuRow) : Type 0 where
  pub ecu : IsText (column row 0) read.ecu
  pub hardware : IsText (column row 1) read.hardware
  pub public : column row 2 ≡ Blob read.public
  pub installed : SaysInstalled row read.installed
  pub counter : column row 6 ≡ Int (pos read.counter)
  pub report : IsTextOrNull (column row 7) read.report
  pub sha512 : IfSome read.installed (λ i. i.sha512 ≡ reported_sha512 read.report)

-- the row says this image, and this campaign, their lists still texts
pub record SaysImage (row : Row) (read : ImageShown) : Type 0 where
  pub file : IsText (column row 0) read.file
  pub length : column row 1 ≡ Int (pos read.length)
  pub sha256 : column row 2 ≡ Blob read.sha256
  pub hardware : IsText (column row 3) read.hardware
  pub release : column row 4 ≡ Int (pos read.release)
  pub needs : IsText (column row 5) read.needs
  pub conflicts : IsText (column row 6) read.conflicts

pub record SaysCampaign (row : Row) (read : CampaignShown) : Type 0 where
  pub name : IsText (column row 0) read.name
  pub reach : IsText (column row 1) read.reach
  pub items : IsText (column row 2) read.items
  pub running : column row 3 ≡ Int (yes_or_no read.running)

-- the row says this key
pub record SaysKey (row : Row) (read : RoleKey) : Type 0 where
  pub root : column row 0 ≡ Int (pos read.root)
  pub repository : IsText (column row 1) read.repository
  pub role : IsText (column row 2) read.role
  pub place : column row 3 ≡ Int (pos read.place)
  pub secret : column row 4 ≡ Blob read.secret
  pub threshold : column row 5 ≡ Int (pos read.threshold)

-- the row says these numbers, which fit their columns
pub record SaysNumbers (row : Row) (read : MetaRow) : Type 0 where
  pub root : column row 0 ≡ Int (pos read.root)
  pub image_version : column row 1 ≡ Int (pos read.image_version)
  pub stamp : column row 2 ≡ Int (pos read.stamp)
  pub fit : FitMeta read

-- the row says these numbers of the image repository, likewise
pub record SaysOwn (row : Row) (read : ImageRepositoryRow) : Type 0 where
  pub root : column row 0 ≡ Int (pos read.root)
  pub targets : column row 1 ≡ Int (pos read.targets)
  pub fit : FitImageRepository read

-- ---- rows of a table, one after another

-- each item in turn makes what is behind it of what was before it
abbrev pub InTurn : {A S : Type 0} → (A → S → S → Type 0) → List A → S → S → Type 0
InTurn step [] before after = after ≡ before
InTurn {A} {S} step (x ∷ xs) before after = (mid : S) × step x before mid × InTurn step xs mid after

-- the image that the row is read as is put in under its own filename, with the second hash of that name
pub record PutsImage (hashes : Table (List ℕ)) (shown : ImageShown) (before after : Table ImageData) : Type 0 where
  pub image : ImageData
  pub read : IsReadImage shown (table.get hashes shown.file) image
  pub put : after ≡ table.insert before image.file image

-- the row says this second hash, of 64 bytes
pub record SaysHash (row : Row) (read : SecondHash) : Type 0 where
  pub file : IsText (column row 0) read.file
  pub sha512 : column row 1 ≡ Blob read.sha512
  pub whole : length read.sha512 ≡ 64

-- it is put in under its filename
abbrev pub PutsSha512 : SecondHash → Table (List ℕ) → Table (List ℕ) → Type 0
PutsSha512 read before after = after ≡ table.insert before read.file read.sha512

-- the campaign that the row is read as is put in under its own name
pub record PutsCampaign (shown : CampaignShown) (before after : Table CampaignData) : Type 0 where
  pub campaign : CampaignData
  pub read : IsReadCampaign shown campaign
  pub put : after ≡ table.insert before campaign.name campaign

-- ---- what is told of a table's rows, whoever wrote them

-- none where there is no row, else what it is read as
abbrev pub IsReadOf : {A B : Type 0} → (A → B → Type 0) → Option A → Option B → Type 0
IsReadOf reads shown read = MatchOption shown (read ≡ None) (λ row. IsSomeAnd read (reads row))

-- the campaign of this name is what its row is read as
abbrev pub ReadsCampaign : Name → (List ℕ → List Row) → Option CampaignData → Type 0
ReadsCampaign name rows_of read =
    (shown : Option CampaignShown) × EachSays SaysCampaign (map (columns_at campaign_places) (rows_of name)) (option_to_list shown)
    × IsReadOf IsReadCampaign shown read

-- of each name the rows that run
abbrev pub RunOf : (List ℕ → List Row) → List CampaignShown → Type 0
RunOf rows_of shown = (name : List ℕ) → EachSays SaysCampaign (running_shown (rows_of name)) (filter (λ c. bytes_eq c.name name) shown)

-- the campaigns that run are what those rows are read as, one after another
abbrev pub ReadsRunning : (List ℕ → List Row) → Table CampaignData → Type 0
ReadsRunning rows_of read = (shown : List CampaignShown) × RunOf rows_of shown × InTurn PutsCampaign shown table.empty read

-- the kept manifest of this vehicle and counter is what its row says
abbrev pub ReadsKept : Name → ℕ → (List ℕ → List Row) → Option Kept → Type 0
ReadsKept vehicle counter rows_of read =
    EachSays SaysKept (map (columns_at kept_places) (filter (has_number 1 (pos counter)) (rows_of vehicle))) (option_to_list read)

-- ---- of vehicles and their ECUs

-- what is found is told by the rows of two tables, of each by the text in the column at its place
abbrev pub FindsBoth : {A E : Type 0} → SqlTable → ℕ → SqlTable → ℕ → ((List ℕ → List Row) → (List ℕ → List Row) → A → Type 0)
    → Connected → Connected → Result A E → Type 0
FindsBoth first at second place told old new result =
    HasCleanDisk new → IfOk result (λ found. (rows_of more_of : List ℕ → List Row) → HasTables old → Lists at rows_of (old.now.trees first.tree)
    → Lists place more_of (old.now.trees second.tree) → told rows_of more_of found)

-- the vehicle of this name is what its row says
abbrev pub ReadsVehicle : Name → (List ℕ → List Row) → Option VehicleRow → Type 0
ReadsVehicle vehicle rows_of read = EachSays SaysVehicle (map (columns_at vehicle_places) (rows_of vehicle)) (option_to_list read)

-- the kept manifest of the greatest counter in the vehicle's row is what its own row says; none of an unknown vehicle
abbrev pub ReadsLatest : Name → (List ℕ → List Row) → (List ℕ → List Row) → Option Kept → Type 0
ReadsLatest vehicle rows_of kept_of read =
    (row : Option VehicleRow) × ReadsVehicle vehicle rows_of row × MatchOption row (read ≡ None) (λ r. ReadsKept vehicle r.last kept_of read)

-- its ECUs are what their rows say, in the order of their places
abbrev pub ReadsEcus : Name → (List ℕ → List Row) → List EcuRow → Type 0
ReadsEcus vehicle rows_of read = ReadsByPlace (rows_of vehicle) (λ rows. EachSays SaysEcu rows read)

-- the ECU stands in the rows of this vehicle, and of no other; of none where there is none
abbrev pub StandsIn : Name → (List ℕ → List Row) → Option Name → Type 0
StandsIn ecu rows_of owner = (vehicle : List ℕ) → list_any (has_text 0 ecu) (rows_of vehicle) ≡ owns owner vehicle

-- the vehicle in whose rows the ECU stands, else the one in whose rows of replaced ECUs it does
abbrev pub ReadsOwner : Name → (List ℕ → List Row) → (List ℕ → List Row) → Option Name → Type 0
ReadsOwner ecu rows_of retired_of read =
    (owner : Option Name) × StandsIn ecu rows_of owner × MatchOption owner (StandsIn ecu retired_of read) (λ vehicle. read ≡ Some vehicle)

-- ---- of images, second hashes and the founding

-- the second hash of the image of this filename is what its row says
abbrev pub ReadsSha512 : Name → (List ℕ → List Row) → Option (List ℕ) → Type 0
ReadsSha512 file rows_of read =
    (said : Option SecondHash) × EachSays SaysHash (map (columns_at sha512_places) (rows_of file)) (option_to_list said) × (read ≡ option_map (λ h. h.sha512) said)

-- all second hashes are what their rows say, one after another
abbrev pub ReadsSha512s : (List ℕ → List Row) → Table (List ℕ) → Type 0
ReadsSha512s rows_of read =
    (said : List SecondHash)
    × ((name : List ℕ) → EachSays SaysHash (map (columns_at sha512_places) (rows_of name)) (filter (λ h. bytes_eq h.file name) said))
    × InTurn PutsSha512 said table.empty read

-- it is read, with the second hash that it has
abbrev pub IsRead : ImageShown → ImageData → Type 0
IsRead shown read = IsReadImage shown read.sha512 read

-- the image of this filename is what its row is read as, with the second hash of that filename
abbrev pub ReadsImage : Name → (List ℕ → List Row) → (List ℕ → List Row) → Option ImageData → Type 0
ReadsImage file rows_of hashes_of read =
    (shown : Option ImageShown) × EachSays SaysImage (map (columns_at image_places) (rows_of file)) (option_to_list shown)
    × IsReadOf (λ row image. IsRead row image × ReadsSha512 file hashes_of image.sha512) shown read

-- the images of these rows are what they are read as, one after another, each with the second hash of its name
abbrev pub ReadsBeside : List ImageShown → (List ℕ → List Row) → Table ImageData → Type 0
ReadsBeside shown hashes_of read = (hashes : Table (List ℕ)) × ReadsSha512s hashes_of hashes × InTurn (PutsImage hashes) shown table.empty read

-- all images are what their rows are read as
abbrev pub ReadsImages : (List ℕ → List Row) → (List ℕ → List Row) → Table ImageData → Type 0
ReadsImages rows_of hashes_of read =
    (shown : List ImageShown)
    × ((name : List ℕ) → EachSays SaysImage (map (columns_at image_places) (rows_of name)) (filter (λ i. bytes_eq i.file name) shown))
    × ReadsBeside shown hashes_of read

-- the row of `meta` is there, and this is told of its numbers
abbrev pub FindsNumbers : {A E : Type 0} → (MetaRow → A → Type 0) → Connected → Connected → Result A E → Type 0
FindsNumbers told old new result =
    HasCleanDisk new → IfOk result (λ found. HasTables old
    → (row : MetaRow) × EachSays SaysNumbers (meta_shown (old.now.trees meta_table.tree)) (row ∷ []) × told row found)

-- the row of `image_repository` is there, and says these numbers
abbrev pub FindsOwn : {E : Type 0} → Connected → Connected → Result ImageRepositoryRow E → Type 0
FindsOwn old new result =
    HasCleanDisk new
    → IfOk result (λ found. HasTables old → EachSays SaysOwn (image_repository_shown (old.now.trees image_repository_table.tree)) (found ∷ []))

-- none where its root version is 0, else the founding of these numbers, of the image repository's own, and of all keys
abbrev pub ReadsKeyed : MetaRow → ImageRepositoryRow → List Row → Option Founding → Type 0
ReadsKeyed row own all read =
    MatchOption read ⊥ (λ founding. (keys : List RoleKey) × EachSays SaysKey (keys_shown all) keys × IsFoundingOf row own keys (Some founding))

abbrev pub ReadsFounding : MetaRow → List Row → List Row → Option Founding → Type 0
ReadsFounding row own_rows all read =
    MatchOption read (row.root ≡ 0) (λ founding. (row.root ≢ 0) × (own : ImageRepositoryRow)
    × EachSays SaysOwn own_rows (own ∷ []) × ReadsKeyed row own all (Some founding))

-- of a row of `meta` it is told by the row of `image_repository`, and by the rows of keys
abbrev pub FindsFounded : {E : Type 0} → MetaRow → Connected → Connected → Result (Option Founding) E → Type 0
FindsFounded row old new result =
    HasCleanDisk new → IfOk result (λ read. (all : List Row) → HasTables old → ListsAll all (old.now.trees role_key_table.tree)
    → ReadsFounding row (image_repository_shown (old.now.trees image_repository_table.tree)) all read)

-- it is told by its numbers, and by the rows of keys
abbrev pub FindsFounding : {E : Type 0} → Connected → Connected → Result (Option Founding) E → Type 0
FindsFounding old =
    FindsNumbers (λ row read. (all : List Row) → ListsAll all (old.now.trees role_key_table.tree)
    → ReadsFounding row (image_repository_shown (old.now.trees image_repository_table.tree)) all read) old

-- the text of the file of this name is what its row says
abbrev pub ReadsFile : Name → Name → (List ℕ → List ℕ → List Row) → Option (List ℕ) → Type 0
ReadsFile repository name rows_of read =
    (said : Option ServedFile) × EachSays SaysFile (map (columns_at file_places) (rows_of repository name)) (option_to_list said)
    × (read ≡ option_map (λ f. f.body) said)
