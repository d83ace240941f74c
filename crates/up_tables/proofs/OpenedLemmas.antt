-- A transaction by which the tables are made or raised, whose commit is told.
use Rattle.std.proofs.Common.{◌≡◌, Result, Ok, Err, OnOk, IsTrue, false, [], arith}
use Rattle.std.specs.Result.{IsOk}
use Rattle.sqlite.specs.State.{State, HasCleanDisk, KeepsCounts, Survives, Shows as Sees}
use Rattle.sqlite.specs.Schema.{Schema}
use Rattle.sqlite.specs.Tree.{Trees}
use Rattle.up_tables.specs.Stands.{IfClean, GoesOn, AreWith, LeavesOnly}
use Rattle.up_tables.proofs.TransactionLemmas.{durable_after}

-- what is told holds where the step was carried out
pub on_opened : {A B E F : Type 0} (P : Type 0) (step : Result A E) (told : Result B F) → OnOk told (IsOk step) → OnOk step P → OnOk told P
on_opened P step (Err fault) h k = tt
on_opened P (Ok x) (Ok y) h k = k
on_opened P (Err e) (Ok y) h k = absurd (let no = h in cc)

-- what was committed is what a crash leaves
pub commit_leaves : {A E : Type 0} (schema : Schema) (P : Trees → Type 0) (mid last : State) (r : Result A E) → (IsTrue last.is_open → (trees : Trees) → last.may_leave trees → trees ≡ last.committed.trees) → IfClean (GoesOn schema P) mid
    → Survives mid last (λ db. db ≡ mid.now.trees) → (HasCleanDisk last → OnOk r (IsTrue mid.in_transaction × Sees mid last mid.now mid.now false × KeepsCounts mid last × (last.marks ≡ []))) → OnOk r (IfClean (LeavesOnly (AreWith schema P)) last)
commit_leaves schema P mid last (Err e) settled goes ends ok = tt
commit_leaves schema P mid last (Ok x) settled goes ends ok = λ clean. let before : HasCleanDisk mid = omega (arith, ends.clean) in durable_after schema P mid last settled (goes before) (ok clean).1

pub carried_out : {A E : Type 0} (P : Type 0) (step : Result A E) → IsOk step → OnOk step P → P
carried_out P (Ok x) is h = h
carried_out P (Err e) is h = absurd (let no = is in cc)
