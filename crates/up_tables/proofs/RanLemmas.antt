-- What the statements that raise tables made, whatever stood there.
use Rattle.std.proofs.Common.{◌≡◌, inl, inr, ℕ, None, Some, Option, Ok, Err, Result, IfOk, IfSome, IsTrue, true, false, sym, ap, subst, ◌∙◌}
use Rattle.std.specs.Result.{IsOk}
use Rattle.sqlite.specs.declared.error.Error.{Error}
use Rattle.sqlite.specs.Effect.{Database}
use Rattle.sqlite.specs.Held.{Held, state}
use Rattle.sqlite.specs.State.{State, HasCleanDisk, Survives, Shows as Sees}
use Rattle.sqlite.specs.Tree.{Trees}
use Rattle.sqlite_trees.specs.declared.store.Store.{Ghosts}
use Rattle.up_tables.specs.declared.open.OpenFault.{OpenFault}
use Rattle.up_tables.specs.declared.open.SchemaVersion.{SchemaVersion}
use Rattle.up_tables.specs.declared.open.SchemaVersion.TheVariants.{One, Two, Three, Four}
use Rattle.up_tables.specs.Making.{IsTaken, ShowsRaised, TriesAnywhere, raising}
use Rattle.up_tables.specs.Ours.{IsOlder, NamesVersion, older_of, ours_told}
use Rattle.up_tables.specs.Stands.{IfClean, IsAsCommitted}
use Rattle.up_tables.specs.Tried.{Makes}

-- ---- from the start of the transaction to its commit

module _ {S : Type 0} (g : Ghosts S) (version : SchemaVersion) (old first mid : Held S) (begun : first ≡ record old { in_transaction = true }) where
  went : (step : Result ℕ Error) → IsOk step → TriesAnywhere (raising version) (state g first) (state g mid) step → Makes (state g first).step_limit (raising version) (state g first).now (state g mid).now
  went (Ok n) is h = h
  went (Err e) is h = absurd (let no = is in cc)

  -- the statements went through
  pub made_within : (step : Result ℕ Error) → IsOk step → TriesAnywhere (raising version) (state g first) (state g mid) step → Makes (state g old).step_limit (raising version) (state g old).now (state g mid).now
  made_within step is tried = subst (λ s. Makes (state g s).step_limit (raising version) (state g s).now (state g mid).now) begun (went step is tried)

-- what they made was committed
pub shows_raised : (version : SchemaVersion) (limit : Option ℕ) (db : Database) (mid last : State) → (IsTrue last.is_open → (trees : Trees) → last.may_leave trees → trees ≡ last.committed.trees) → Makes limit (raising version) db mid.now
    → Sees mid last mid.now mid.now false → ShowsRaised version limit db last
shows_raised version limit db mid last settled made sees =
    let same = sees.committed_is ∙ sym sees.now_is in record {
      mode = sees.mode;
      is_open = sees.is_open;
      made = subst (Makes limit (raising version) db) (sym sees.now_is) made;
      committed = same;
      left = λ trees may. settled sees.is_open trees may ∙ ap (λ (d : Database). d.trees) same;
    }

-- ---- after `meta` was read

pub taken_older : (w : SchemaVersion) (old mid new : State) → Survives old mid (λ _. ⊥) → IfClean (IsAsCommitted old) mid → HasCleanDisk mid → IsTrue mid.is_open → IsOlder w → NamesVersion w old → ShowsRaised w mid.step_limit mid.now new
    → IsTaken old new
taken_older w old mid new first kept clean is_open older names shows =
    inr (w, older, names, subst (λ l. ShowsRaised w l old.committed new) first.limit (subst (λ d. ShowsRaised w mid.step_limit d new) ((kept clean).undone is_open).0 shows))

ran_of : (old new : State) (found : Result (Option SchemaVersion) OpenFault) → older_of found ≡ None → (HasCleanDisk new → IfOk found (λ f. IfSome f (λ version. NamesVersion version old))) → IfClean (IsAsCommitted old) new
    → IfOk (ours_told found) (λ b. IsTrue b → HasCleanDisk new → IsTaken old new)
ran_of old new (Ok None) none named kept = λ is. absurd (let no = is in cc)
ran_of old new (Ok (Some One)) none named kept = absurd (let no = none in cc)
ran_of old new (Ok (Some Two)) none named kept = absurd (let no = none in cc)
ran_of old new (Ok (Some Three)) none named kept = absurd (let no = none in cc)
ran_of old new (Ok (Some Four)) none named kept = λ is clean. inl (named clean, kept clean)
ran_of old new (Err e) none named kept = tt

pub told_ran : (old new : State) (found : Result (Option SchemaVersion) OpenFault) (told : Result _ OpenFault) → told ≡ ours_told found → older_of found ≡ None → (HasCleanDisk new → IfOk found (λ f. IfSome f (λ version. NamesVersion version old)))
    → IfClean (IsAsCommitted old) new → IfOk told (λ b. IsTrue b → HasCleanDisk new → IsTaken old new)
told_ran old new found told is none named kept = subst (λ r. IfOk r (λ b. IsTrue b → HasCleanDisk new → IsTaken old new)) (sym is) (ran_of old new found none named kept)
