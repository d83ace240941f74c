-- Who sent a manifest, by what is kept in memory and by the tables.
use Rattle.std.specs.Prelude.{◌≡◌, ◌⊎◌, Bool, true, Option, None, Some, IfSome, is_some, option_and_then, Result, Ok, Err, MatchBool, ⊤}
use Rattle.std.specs.Borrow.{MutBor}
use Rattle.std.specs.FinMap as table
use Rattle.sqlite.specs.Held.{Held, state}
use Rattle.sqlite.specs.State.{HasCleanDisk}
use Rattle.sqlite_trees.specs.declared.store.Store.{Ghosts}
use Rattle.up_canon.specs.Names.{Name, Table}
use Rattle.up_canon.specs.Steps.{error_of}
use Rattle.up_canon.specs.declared.refusal.Refusal.{Refusal}
use Rattle.up_canon.specs.declared.refusal.Refusal.TheVariants.{NotFounded}
use Rattle.up_canon.specs.Refusals.{is_memory}
use Rattle.up_sign.specs.Schemes.{Rules}
use Rattle.up_manifest.specs.declared.manifest.Incoming.{Incoming}
use Rattle.up_machine.specs.declared.primary.Primary.{Primary}
use Rattle.up_machine.specs.declared.rows.Founding.{Founding}
use Rattle.up_machine.specs.declared.rows.VehicleRows.{VehicleRows}
use Rattle.up_machine.specs.Deliveries.{Received}
use Rattle.up_machine.specs.Primaries.{GivesSent, check_sent}
use Rattle.up_machine.specs.Senders.{IsSenderOf, SenderData}
use Rattle.up_machine.specs.State.{State}
use Rattle.up_records.specs.declared.catalog.Catalog.{Catalog}
use Rattle.up_tables.specs.Statements.{WhereInside}
use Rattle.up_records.specs.Catalogs.{CanDecide, Come, Fits, IsOf, KeepsMore, StaysLoaded, primaries_in}
use Rattle.up_records.specs.Connected.{is_fault}
use Rattle.up_records.specs.Sessions.{SeesState}

-- the refusal by what is kept of its vehicle's Primary, if it is kept and didn't send the manifest
abbrev pub refused_by : Rules → Table Primary → Incoming → Option Refusal
refused_by k primaries incoming = option_and_then (λ primary. error_of (check_sent k primary incoming)) (table.get primaries incoming.manifest.vehicle)

abbrev pub refused_in : Rules → Option Catalog → Incoming → Option Refusal
refused_in k None incoming = None
refused_in k (Some c) incoming = refused_by k c.primaries incoming

-- it is of this vehicle, and this Primary sent it
abbrev pub IsSentBy : Rules → Incoming → Name → Primary → Type 0
IsSentBy k incoming vehicle primary = (vehicle ≡ incoming.manifest.vehicle) × (check_sent k primary incoming ≡ Ok tt)

-- it is refused so, whatever the database does, and nothing is read of the tables
pub record RefusesUnread {S A : Type 0} (old new : S) (result : Result A Refusal) (r : Refusal) : Type 0 where
  pub refused : result ≡ Err r
  pub unread : new ≡ old

-- whether the Primary of the vehicle is kept, and so sent the manifest, or the refusal that is due
abbrev pub GivesKept : Rules → State → Incoming → Result Bool Refusal → Type 0
GivesKept k s incoming (Ok is_kept) = MatchBool is_kept (GivesSent k s incoming (Ok tt)) ⊤
GivesKept k s incoming (Err r) = GivesSent k s incoming (Err r)

-- the rows of the vehicle whose Primary sent the manifest
abbrev pub GivesSenderRows : Rules → State → Incoming → Founding → Result VehicleRows Refusal → Result Received Refusal → Type 0
GivesSenderRows k s incoming founding (Ok vehicle) computed = IsSenderOf k s incoming (record { founding = founding; vehicle = vehicle })
GivesSenderRows k s incoming founding (Err r) computed = MatchBool (is_memory r) ⊤ (computed ≡ Err r)

-- what is kept in memory is of the state, and the vehicle's Primary sent the manifest
pub record IsSent (k : Rules) (s : State) (incoming : Incoming) (catalog : Catalog) (sender : SenderData) : Type 0 where
  pub kept : IsOf s catalog
  pub from : IsSenderOf k s incoming sender

-- ---- what a manifest leaves in memory

-- what it leaves of a session and of a catalog, whatever is answered
pub record Leaves {S A : Type 0} (g : Ghosts S) (k : Rules) (incoming : Incoming) (kept after : Catalog) (old new : MutBor (Held S))
    (result : Result A Refusal) : Type 0 where
  -- Primaries may come, but no more than so many, and all else stays
  pub more : KeepsMore kept after
  -- it is of the state of which it was
  pub of : WhereInside g old (HasCleanDisk (state g new.now) → (s : State) → SeesState s (state g old.now) → IsOf s kept → IsOf s after)
  -- each Primary that comes sent the manifest
  pub came : WhereInside g old (HasCleanDisk (state g new.now) → (s : State) → SeesState s (state g old.now) → IsOf s kept
      → Come (IsSentBy k incoming) kept.primaries after.primaries)
  -- one that the kept Primary of its vehicle didn't send is refused as that, and nothing is read or kept
  pub unread : IfSome (refused_by k kept.primaries incoming) (RefusesUnread {S = MutBor (Held S) × Catalog} (old, kept) (new, after) result)

-- before founding it is refused, and all stays as it is
pub record LeavesNone {S A : Type 0} (after : Option Catalog) (old new : S) (result : Result A Refusal) : Type 0 where
  pub refused : result ≡ Err NotFounded
  pub unread : new ≡ old
  pub none : after ≡ None

-- so of what is kept, if anything
abbrev pub LeavesIn : {S A : Type 0} → Ghosts S → Rules → Incoming → Option Catalog → Option Catalog → MutBor (Held S) → MutBor (Held S) → Result A Refusal
    → Type 0
LeavesIn g k incoming None after old new result = LeavesNone after old new result
LeavesIn g k incoming (Some c) None old new result = ⊥
LeavesIn g k incoming (Some c) (Some d) old new result = Leaves g k incoming c d old new result

-- a catalog is there, unless a fault was told or the repositories aren't founded
abbrev pub IsLoadedBehind : {A : Type 0} → Result A Refusal → Option Catalog → Type 0
IsLoadedBehind (Ok x) catalog = is_some catalog ≡ true
IsLoadedBehind (Err r) catalog = MatchBool (is_fault r) ⊤ ((r ≡ NotFounded) ⊎ (is_some catalog ≡ true))

-- what becomes of what is kept, whatever is answered
pub record KeepsOver {S A : Type 0} (g : Ghosts S) (k : Rules) (incoming : Incoming) (kept after : Option Catalog) (old new : MutBor (Held S))
    (result : Result A Refusal) : Type 0 where
  -- it stays, and no more than so many Primaries are kept
  pub stays : StaysLoaded kept after
  -- it is of the state of which it was, and can be used, if it could be
  pub fits : WhereInside g old (HasCleanDisk (state g new.now) → (s : State) → SeesState s (state g old.now) → Fits s kept → Fits s after)
  pub can : IfSome kept (CanDecide k) → IfSome after (CanDecide k)
  -- each Primary that comes to be kept sent the manifest
  pub came : WhereInside g old (HasCleanDisk (state g new.now) → (s : State) → SeesState s (state g old.now) → Fits s kept
      → Come (IsSentBy k incoming) (primaries_in kept) (primaries_in after))
  -- a catalog is there, unless a fault was told or the repositories aren't founded
  pub there : IsLoadedBehind result after
  -- a manifest that the kept Primary of its vehicle didn't send changes nothing, and is refused with nothing read
  pub left : IfSome (refused_in k kept incoming) (λ r. (after ≡ kept) × RefusesUnread old new result r)
