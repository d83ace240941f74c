-- Who sent a manifest, by the Primary that is kept and by the rows of its vehicle.
use Rattle.std.proofs.Common.{◌≡◌, Bool, true, false, Option, None, Some, Result, Ok, Err, inl, inr, refl, sym, ap, ◌∙◌, subst}
use Rattle.std.specs.Prelude.{⊤, ◌⊎◌, IfSome, MatchBool, is_some, option_and_then}
use Rattle.std.specs.FinMap as table
use Rattle.up_canon.specs.Names.{Name, Table}
use Rattle.up_canon.specs.Steps.{error_of}
use Rattle.up_canon.specs.declared.refusal.Refusal.{Refusal}
use Rattle.up_canon.specs.declared.refusal.Refusal.TheVariants.{NotFounded}
use Rattle.up_sign.specs.Schemes.{Rules}
use Rattle.up_manifest.specs.declared.manifest.Incoming.{Incoming}
use Rattle.up_machine.specs.declared.primary.Primary.{Primary}
use Rattle.up_machine.specs.declared.rows.Founding.{Founding}
use Rattle.up_machine.specs.State.{State}
use Rattle.up_machine.specs.Deliveries.{Received, receive_manifest}
use Rattle.up_machine.specs.Primaries.{check_sent, primary_of}
use Rattle.up_machine.specs.Rows.{founding_row}
use Rattle.up_machine.proofs.Primaries.{gives_sent}
use Rattle.up_records.specs.declared.catalog.Catalog.{Catalog}
use Rattle.up_records.specs.Senders.{IsLoadedBehind, IsSentBy, RefusesUnread, refused_by, refused_in}
use Rattle.up_records.specs.Connected.{is_fault}
use Rattle.up_records.specs.Catalogs.{ArePrimaries, Come}

-- what is due, or a fault
pub due : (b : Bool) (X : Type 0) → X → MatchBool b ⊤ X
due true X h = tt
due false X h = h

-- ---- what the kept Primary refuses

-- by no Primary nothing is refused
pub none_refused : (k : Rules) (kept : Table Primary) (incoming : Incoming) (P : Refusal → Type 0) → table.get kept incoming.manifest.vehicle ≡ None → IfSome (refused_by k kept incoming) P
none_refused k kept incoming P none = subst (λ o. IfSome (option_and_then (λ primary. error_of (check_sent k primary incoming)) o) P) (sym none) tt

pub sent_refused : (k : Rules) (kept : Table Primary) (incoming : Incoming) (primary : Primary) (x : ⊤) (P : Refusal → Type 0) → table.get kept incoming.manifest.vehicle ≡ Some primary
    → check_sent k primary incoming ≡ Ok x → IfSome (refused_by k kept incoming) P
sent_refused k kept incoming primary x P there sent =
    subst (λ o. IfSome (option_and_then (λ primary. error_of (check_sent k primary incoming)) o) P) (sym there) (subst (λ r. IfSome (error_of r) P) (sym sent) tt)

pub not_sent_refused : (k : Rules) (kept : Table Primary) (incoming : Incoming) (primary : Primary) (r : Refusal) (P : Refusal → Type 0) → table.get kept incoming.manifest.vehicle ≡ Some primary
    → check_sent k primary incoming ≡ Err r → P r → IfSome (refused_by k kept incoming) P
not_sent_refused k kept incoming primary r P there bad h =
    subst (λ o. IfSome (option_and_then (λ primary. error_of (check_sent k primary incoming)) o) P) (sym there) (subst (λ q. IfSome (error_of q) P) (sym bad) h)

-- a refusal that is told stays one, with nothing read
pub refused_on : {S : Type 0} (A B : Type 0) (o : Option Refusal) (old new : S) (q : Refusal) → IfSome o (RefusesUnread {A = A} old new (Err q)) → IfSome o (RefusesUnread {A = B} old new (Err q))
refused_on A B None old new q h = tt
refused_on A B (Some r) old new q h = let is : ◌≡◌ {A = Result A Refusal} (Err q) (Err r) = h.refused in let same : q ≡ r = cc in record { refused = ap (λ x. Err x) same; unread = h.unread }

-- what passed was refused by nothing
pub passed_on : {S A : Type 0} (o : Option Refusal) (old new : S) (x : A) (P : Refusal → Type 0) → IfSome o (RefusesUnread old new (Ok x)) → IfSome o P
passed_on None old new x P h = tt
passed_on {A = A} (Some r) old new x P h = absurd (let is : ◌≡◌ {A = Result A Refusal} (Ok x) (Err r) = h.refused in cc)

-- where nothing is loaded yet nothing is refused so, and what was there is still there
pub still_refused : {S A : Type 0} (k : Rules) (incoming : Incoming) (old mid new : Option Catalog) (before after last : S) (result : Result A Refusal) (P : Type 0) → (is_some old ≡ true → P × (mid ≡ old) × (after ≡ before))
    → IfSome (refused_in k mid incoming) (λ r. (new ≡ mid) × RefusesUnread after last result r) → IfSome (refused_in k old incoming) (λ r. (new ≡ old) × RefusesUnread before last result r)
still_refused k incoming None mid new before after last result P there h = tt
still_refused k incoming (Some c) mid new before after last result P there h =
    let it = there refl in
    subst (λ x. IfSome (refused_in k (Some c) incoming) (λ r. (new ≡ Some c) × RefusesUnread x last result r)) it.2
    (subst (λ (o : Option Catalog). IfSome (refused_in k o incoming) (λ r. (new ≡ o) × RefusesUnread after last result r)) it.1 h)

pub none_loaded : {E : Type 0} (k : Rules) (incoming : Incoming) (old : Option Catalog) (fault : E) (Q : Type 0) (P : Refusal → Type 0)
    → (is_some old ≡ true → (◌≡◌ {A = Result ⊤ E} (Err fault) (Ok tt)) × Q) → IfSome (refused_in k old incoming) P
none_loaded k incoming None fault Q P there = tt
none_loaded {E = E} k incoming (Some c) fault Q P there = absurd (let no : ◌≡◌ {A = Result ⊤ E} (Err fault) (Ok tt) = (there refl).0 in cc)

-- ---- which Primary comes to be kept

-- that of a vehicle from which a manifest was received sent it
sent_checked : (k : Rules) (s : State) (incoming : Incoming) (founding : Founding) (primary : Primary) (received : Received) → founding_row s ≡ Some founding
    → primary_of s incoming.manifest.vehicle ≡ Some primary → receive_manifest k s incoming ≡ Ok received → check_sent k primary incoming ≡ Ok tt
sent_checked k s incoming founding primary received there is receives = by_check (check_sent k primary incoming) refl
  where
    by_check : (r : Result ⊤ Refusal) → check_sent k primary incoming ≡ r → check_sent k primary incoming ≡ Ok tt
    by_check (Ok passed) same = same
    by_check (Err r) same = absurd (let no : ◌≡◌ {A = Result Received Refusal} (Ok received) (Err r) = sym receives ∙ gives_sent k s incoming founding primary (Err r) there is (sym same) in cc)

pub come_sent : (k : Rules) (s : State) (incoming : Incoming) (founding : Founding) (received : Received) (old new : Table Primary) → founding_row s ≡ Some founding
    → receive_manifest k s incoming ≡ Ok received → ArePrimaries s new → Come (λ name primary. name ≡ incoming.manifest.vehicle) old new → Come (IsSentBy k incoming) old new
come_sent k s incoming founding received old new there receives are come vehicle primary found = by_case (come vehicle primary found)
  where
    by_case : (table.get old vehicle ≡ Some primary) ⊎ (vehicle ≡ incoming.manifest.vehicle) → (table.get old vehicle ≡ Some primary) ⊎ IsSentBy k incoming vehicle primary
    by_case (inl was) = inl was
    by_case (inr same) = inr (same, sent_checked k s incoming founding primary received there (subst (λ (n : Name). primary_of s n ≡ Some primary) same (are vehicle primary found)) receives)

-- a catalog is there, unless the repositories aren't founded
abbrev pub IsThere : {A : Type 0} → Result A Refusal → Option Catalog → Type 0
IsThere result catalog = (result ≡ Err NotFounded) ⊎ (is_some catalog ≡ true)

-- what was loaded
pub loaded_behind : {A : Type 0} (result : Result A Refusal) (catalog : Option Catalog) → IsThere result catalog → IsLoadedBehind result catalog
loaded_behind {A} (Ok x) catalog (inl is) = let no : ◌≡◌ {A = Result A Refusal} (Ok x) (Err NotFounded) = is in cc
loaded_behind (Ok x) catalog (inr there) = there
loaded_behind {A} (Err r) catalog (inl is) = let same : r ≡ NotFounded = (let it : ◌≡◌ {A = Result A Refusal} (Err r) (Err NotFounded) = is in cc) in due (is_fault r) _ (inl same)
loaded_behind (Err r) catalog (inr there) = due (is_fault r) _ (inr there)
