-- What a manifest leaves of what is kept in memory.
use Rattle.std.proofs.Common.{◌≡◌, Option, None, Some, Result, inl, inr, refl, sym, ap, subst}
use Rattle.std.specs.Prelude.{IfSome}
use Rattle.std.specs.Borrow.{MutBor}
use Rattle.std.specs.FinMap as table
use Rattle.sqlite.specs.Held.{Held, state}
use Rattle.sqlite.specs.State.{HasCleanDisk}
use Rattle.sqlite_trees.specs.declared.store.Store.{Ghosts}
use Rattle.up_canon.specs.declared.refusal.Refusal.{Refusal}
use Rattle.up_sign.specs.Schemes.{Rules}
use Rattle.up_manifest.specs.declared.manifest.Incoming.{Incoming}
use Rattle.up_machine.specs.State.{State}
use Rattle.up_tables.specs.Statements.{WhereInside}
use Rattle.up_records.specs.declared.catalog.Catalog.{Catalog}
use Rattle.up_records.specs.Catalogs.{CanDecide, Come, Fits, StaysLoaded, primaries_in}
use Rattle.up_records.specs.Senders.{IsSentBy, LeavesIn, RefusesUnread, refused_in}
use Rattle.up_records.specs.Sessions.{SeesState}
use Rattle.up_records.proofs.Cataloged.{can_more, come_none}
use Rattle.up_records.proofs.SentBy.{IsThere}

-- where both are left
left_of : {S A : Type 0} (o : Option Refusal) (old new : S) (kept after : Catalog) (result : Result A Refusal) → IfSome o (RefusesUnread {S = S × Catalog} (old, kept) (new, after) result)
    → IfSome o (λ r. (◌≡◌ {A = Option Catalog} (Some after) (Some kept)) × RefusesUnread old new result r)
left_of None old new kept after result h = tt
left_of {S} (Some r) old new kept after result h = (ap (λ (p : S × Catalog). Some p.1) h.unread, record { refused = h.refused; unread = ap (λ (p : S × Catalog). p.0) h.unread })

-- what is left of what is kept, if anything
pub record LeftIn {S A : Type 0} (g : Ghosts S) (k : Rules) (incoming : Incoming) (kept after : Option Catalog) (old new : MutBor (Held S)) (result : Result A Refusal) : Type 0 where
  pub stays : StaysLoaded kept after
  pub fits : WhereInside g old (HasCleanDisk (state g new.now) → (s : State) → SeesState s (state g old.now) → Fits s kept → Fits s after)
  pub came : WhereInside g old (HasCleanDisk (state g new.now) → (s : State) → SeesState s (state g old.now) → Fits s kept → Come (IsSentBy k incoming) (primaries_in kept) (primaries_in after))
  pub there : IsThere result after
  pub can : IfSome kept (CanDecide k) → IfSome after (CanDecide k)
  pub left : IfSome (refused_in k kept incoming) (λ r. (after ≡ kept) × RefusesUnread old new result r)

pub left_in : {S A : Type 0} (g : Ghosts S) (k : Rules) (incoming : Incoming) (kept after : Option Catalog) (old new : MutBor (Held S)) (result : Result A Refusal)
    → LeavesIn g k incoming kept after old new result → LeftIn g k incoming kept after old new result
left_in g k incoming None after old new result h = record {
  stays = tt;
  fits = λ inside clean s sees fits. subst (λ o. Fits s o) (sym h.none) tt;
  came = λ inside clean s sees fits. subst (λ o. Come (IsSentBy k incoming) table.empty (primaries_in o)) (sym h.none) (come_none (IsSentBy k incoming) table.empty);
  there = inl h.refused;
  can = λ can. subst (λ o. IfSome o (CanDecide k)) (sym h.none) tt;
  left = tt;
}
left_in g k incoming (Some c) None old new result h = absurd h
left_in g k incoming (Some c) (Some d) old new result h = record {
  stays = h.more;
  fits = h.of;
  came = h.came;
  there = inr refl;
  can = λ can. can_more k c d h.more can;
  left = left_of (refused_in k (Some c) incoming) old new c d result h.unread;
}
