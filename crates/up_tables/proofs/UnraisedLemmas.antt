-- Why tables of an older version were not raised.
use Rattle.std.proofs.Common.{◌≡◌, ◌⊎◌, [], inl, inr, false, Result, OnOk, IsTrue, subst, arith}
use Rattle.std.proofs.lemmas.Bool.{cases_Bool}
use Rattle.std.specs.Result.{IsOk}
use Rattle.sqlite.specs.State.{State, HasCleanDisk, KeepsCounts, Survives, Shows as Sees}
use Rattle.sqlite.specs.Tree.{Trees}
use Rattle.up_tables.specs.declared.open.SchemaVersion.{SchemaVersion}
use Rattle.up_tables.specs.Making.{FailsToRaise, StopsAtOne, raising}
use Rattle.up_tables.specs.Ours.{HasFailed, IsHindered, IsOlder, NamesVersion}
use Rattle.up_tables.specs.Stands.{IfClean, IsAsCommitted}
use Rattle.up_tables.proofs.MakingLemmas.{failed_later}
use Rattle.up_tables.proofs.OpenedLemmas.{on_opened}
use Rattle.up_tables.proofs.RunLemmas.{then_ok}

-- the commit went through
pub raised_then : {A B E F R : Type 0} {mid last : State} (commit : Result A E) (told : Result B F) → OnOk told (IsOk commit) → (Sees mid last mid.now mid.now false → HasCleanDisk mid → R)
    → Survives mid last (λ db. db ≡ mid.now.trees) → (HasCleanDisk last → OnOk commit (IsTrue mid.in_transaction × Sees mid last mid.now mid.now false × KeepsCounts mid last × (last.marks ≡ []))) → HasCleanDisk last → OnOk told R
raised_then {mid = mid} {last = last} commit told went raises ends ok clean =
    on_opened _ commit told went (then_ok commit (λ done. raises done.1 (omega (arith, clean, ends.clean))) (ok clean))

-- after `meta` was read
pub unraised : (w : SchemaVersion) (old mid new : State) (Q : Trees → Type 0) → Survives old mid (λ _. ⊥) → IfClean (IsAsCommitted old) mid → Survives mid new Q → HasCleanDisk new → IsOlder w → NamesVersion w old
    → HasFailed mid new ⊎ StopsAtOne mid.step_limit (raising w) mid.now → IsHindered old new ⊎ FailsToRaise old
unraised w old mid new Q first kept second clean older names cause = elim (cases_Bool mid.is_open) [
  | inl is_open ↦ elim cause [
    | inl failed ↦ inl (inl (later failed))
    | inr stops ↦ inr (w, older, names, subst (λ l. StopsAtOne l (raising w) old.committed) first.limit (subst (StopsAtOne mid.step_limit (raising w)) ((kept between).undone is_open).0 stops))
  ]
  | inr shut ↦ inl (inl (later (inl shut)))
]
  where
    between : HasCleanDisk mid
    between = omega (arith, clean, second.clean)

    later : HasFailed mid new → HasFailed old new
    later failed = failed_later old mid new (λ _. ⊥) Q first second between failed
