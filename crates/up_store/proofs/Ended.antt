-- A session, from its begin to its end.
use Rattle.std.proofs.Common.{true, ◌≡◌, ℕ, List, Result, refl, sym, subst}
use Rattle.up_tables.proofs.TransactionLemmas.{undone}
use Rattle.up_store.specs.Within.{MadeAndPut, PutWithin}
use Rattle.up_store.proofs.Common.{MutBor, Held, state, Row, Connected, HasCleanDisk, IsRolledBack, Ghosts, IfClean, IsAsCommitted, IsInside, Steps, BlamesOne, IsOpenStep, Ran, StoreFault}

module _ {S : Type 0} (g : Ghosts S) (old mid : Held S) (last : Connected) (steps : Steps (state g (record old { in_transaction = true })) (state g mid)) where
  pub as_before : (HasCleanDisk last → HasCleanDisk (state g mid)) → IfClean (IsRolledBack (state g mid)) last → IfClean (IsAsCommitted (state g old)) last
  as_before before rolled clean =
      let it = undone (state g (record old { in_transaction = true })) (state g mid) last (steps.kept (before clean)) (rolled clean) in
      record { mode = it.mode; was_open = it.was_open; undone = it.undone }

pub within : {S : Type 0} (g : Ghosts S) (viewed : Held S) {first : Held S} → first ≡ record viewed { in_transaction = true } → IfClean IsInside (state g first)
within g viewed begun = subst (λ h. IfClean IsInside (state g h)) (sym begun) (λ _. refl)

-- what a put leaves, whatever want of memory undid
pub record Puts {S A : Type 0} (g : Ghosts S) (puts : Connected → Connected → Result A StoreFault → Type 0) (these : List (List ℕ × Row)) (may : Connected → Type 0) (old new : MutBor (Held S))
    (result : Result A StoreFault) : Type 0 where
  pub put : puts (state g old.now) (state g new.now) result
  pub ran : Ran these (state g old.now) (state g new.now) result
  pub blame : BlamesOne these may (state g old.now) (state g new.now) result
  pub step : IsOpenStep g old new result

module _ {S A : Type 0} (g : Ghosts S) {puts : Connected → Connected → Result A StoreFault → Type 0} {these : List (List ℕ × Row)} {may : Connected → Type 0} {old new : MutBor (Held S)} {r : Result A StoreFault} where
  pub of_put : PutWithin g puts these may old new r → Puts g puts these may old new r
  of_put it = record { put = it.put; ran = it.ran; blame = it.blame; step = it.step }

  pub of_made : MadeAndPut g puts these may old new r → Puts g puts these may old new r
  of_made it = record { put = it.put; ran = it.ran; blame = it.blame; step = it.step }
