-- What is kept in memory of the tables, so that deliveries needn't read it again.
use Rattle.std.specs.Prelude.{◌≡◌, ◌≤◌, ◌⊎◌, ℕ, true, ⊤, Option, Some, None, IfSome, IsTrue, is_some, Result, Ok, OnErr}
use Rattle.std.specs.FinMap as table
use Rattle.up_canon.specs.Names.{Name, Table}
use Rattle.up_plan.specs.Campaigns.{CampaignData}
use Rattle.up_sign.specs.Schemes.{Rules}
use Rattle.up_metadata.specs.Keys.{hashed_roles}
use Rattle.up_machine.specs.declared.primary.Primary.{Primary}
use Rattle.up_machine.specs.Primaries.{primary_of}
use Rattle.up_machine.specs.Rows.{founding_row}
use Rattle.up_machine.specs.RowsFit.{founding_fits}
use Rattle.up_machine.specs.State.{State}
use Rattle.up_tables.specs.declared.values.StoreFault.{StoreFault}
use Rattle.up_store.specs.Found.{values_where}
use Rattle.up_records.specs.declared.catalog.Catalog.{Catalog}

-- ---- of which state it is

-- each is the Primary of its vehicle; not every vehicle's has to be there
abbrev pub ArePrimaries : State → Table Primary → Type 0
ArePrimaries s primaries = (vehicle : Name) (primary : Primary) → table.get primaries vehicle ≡ Some primary → primary_of s vehicle ≡ Some primary

-- it is of the state: its founding, its running campaigns, its images, and Primaries of its vehicles
pub record IsOf (s : State) (c : Catalog) : Type 0 where
  pub founding : founding_row s ≡ Some c.founding
  pub campaigns : c.campaigns ≡ values_where (λ (x : CampaignData). x.running) s.campaigns
  pub images : c.images ≡ s.images
  pub primaries : ArePrimaries s c.primaries

-- what there is, if anything, is of the state
abbrev pub Fits : State → Option Catalog → Type 0
Fits s None = ⊤
Fits s (Some c) = IsOf s c

-- it was loaded: there is nothing before founding
abbrev pub IsLoaded : State → Option Catalog → Type 0
IsLoaded s None = founding_row s ≡ None
IsLoaded s (Some c) = IsOf s c

-- ---- whatever the state

-- of how many vehicles the Primaries are kept at most
abbrev pub most_primaries : ℕ
most_primaries = 65536

abbrev pub AreFew : Table Primary → Type 0
AreFew primaries = table.len primaries ≤ most_primaries

-- the keys can sign, the hashed ones are those of the Director's roles, and not too many Primaries are kept
pub record CanDecide (k : Rules) (c : Catalog) : Type 0 where
  pub keys : IsTrue (founding_fits k c.founding)
  pub hashed : c.hashed ≡ hashed_roles k c.founding.keys.director
  pub few : AreFew c.primaries

-- ---- what becomes of it

-- each Primary that was there is there
abbrev pub StayKept : Table Primary → Table Primary → Type 0
StayKept old new = (vehicle : Name) (primary : Primary) → table.get old vehicle ≡ Some primary → table.get new vehicle ≡ Some primary

-- Primaries of further vehicles may come, but no more than so many, and all else stays
pub record KeepsMore (old new : Catalog) : Type 0 where
  pub rest : new ≡ record old { primaries = new.primaries }
  pub primaries : StayKept old.primaries new.primaries
  pub few : AreFew old.primaries → AreFew new.primaries

-- what is there stays, and Primaries may come to it; where nothing is it may be loaded
abbrev pub StaysLoaded : Option Catalog → Option Catalog → Type 0
StaysLoaded None new = ⊤
StaysLoaded (Some c) None = ⊥
StaysLoaded (Some c) (Some d) = KeepsMore c d

-- the Primaries that are there
abbrev pub primaries_in : Option Catalog → Table Primary
primaries_in None = table.empty
primaries_in (Some c) = c.primaries

-- it was just read: one can decide by it, and no Primary is there
pub record IsFresh (k : Rules) (read : Option Catalog) : Type 0 where
  pub can : IfSome read (CanDecide k)
  pub none : primaries_in read ≡ table.empty

-- each Primary that comes is such a one
abbrev pub Come : (Name → Primary → Type 0) → Table Primary → Table Primary → Type 0
Come P old new = (vehicle : Name) (primary : Primary) → table.get new vehicle ≡ Some primary
    → (table.get old vehicle ≡ Some primary) ⊎ P vehicle primary

-- what there was stays, and what wasn't there may be loaded, without a Primary; where that failed all is as it was
pub record Loads {S : Type 0} (k : Rules) (kept after : Option Catalog) (old new : S) (result : Result ⊤ StoreFault) : Type 0 where
  pub stays : StaysLoaded kept after
  pub can : IfSome kept (CanDecide k) → IfSome after (CanDecide k)
  pub came : Come (λ vehicle primary. ⊥) (primaries_in kept) (primaries_in after)
  pub lost : OnErr result (after ≡ kept)
  pub there : is_some kept ≡ true → (result ≡ Ok tt) × (after ≡ kept) × (new ≡ old)
