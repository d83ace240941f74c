-- What is told of a commit.
use Rattle.std.proofs.Common.{◌≡◌, inl, inr, [], Result, Ok, Err, OnOk, OnErr, IfErr, IsTrue, sym, ap, false, ◌∙◌, arith}
use Rattle.sqlite.specs.declared.error.Error.{Error}
use Rattle.sqlite.specs.Steps.{FailsToCommit}
use Rattle.sqlite_trees.specs.declared.error.StoreError.{StoreError}
use Rattle.sqlite_trees.specs.declared.error.StoreError.TheVariants.{OutOfMemory, Io, Corrupt, Full, Broken, Unstorable}
use Rattle.up_tables.specs.Faults.{store_fault}
use Rattle.up_tables.specs.Stands.{LeavesOnly}
use Rattle.up_store.proofs.Common.{IsOk, Database, Trees, State, HasCleanDisk, HasCause, Fails, IsRolledBack, KeepsCounts, Shows, Survives, store_error, HasFailed, IfClean, IsInside, StoreFault, Memory, Store, Commits}

pub committed_on : {A B : Type 0} (mid last : State) (commit : Result A Error) (told : Result B StoreFault) → OnOk told (IsOk commit)
    → (HasCleanDisk last → OnOk commit (IsTrue mid.in_transaction × Shows mid last mid.now mid.now false × KeepsCounts mid last × (last.marks ≡ []))) → OnOk told (IfClean (Commits mid) last)
committed_on mid last commit (Err f) ok did = tt
committed_on mid last (Ok x) (Ok y) ok did = λ clean. (did clean).1
committed_on mid last (Err e) (Ok y) ok did = absurd (let no = ok in cc)

-- a crash leaves it alone
pub durable_on : {B : Type 0} (mid last : State) (told : Result B StoreFault) → (IsTrue last.is_open → (trees : Trees) → last.may_leave trees → trees ≡ last.committed.trees)
    → OnOk told (IfClean (Commits mid) last) → OnOk told (IfClean (LeavesOnly (λ trees. trees ≡ mid.now.trees)) last)
durable_on mid last (Err f) settled commits = tt
durable_on mid last (Ok y) settled commits = λ clean trees may. settled (commits clean).is_open trees may ∙ ap (λ (db : Database). db.trees) (commits clean).committed_is

-- a transaction was under way, so that the store failed
failed : (mid last : State) (e : Error) → IfClean IsInside mid → Survives mid last (λ trees. trees ≡ mid.now.trees) → HasCleanDisk last → FailsToCommit mid last e → Fails mid last ⊥ e
failed mid last e inside ends clean (inl h) = h
failed mid last e inside ends clean (inr h) = absurd (let before : HasCleanDisk mid = omega (arith, ends.clean, clean) in let no = sym h.1 ∙ inside before in cc)

pub undone_on : {A B : Type 0} (mid last : State) (commit : Result A Error) (told : Result B StoreFault) → IfClean IsInside mid → Survives mid last (λ trees. trees ≡ mid.now.trees) → OnOk commit (IsOk told)
    → (HasCleanDisk last → IfErr commit (FailsToCommit mid last)) → OnErr told (IfClean (IsRolledBack mid) last)
undone_on mid last commit (Ok y) inside ends went err = tt
undone_on mid last (Ok x) (Err f) inside ends went err = absurd (let no = went in cc)
undone_on mid last (Err e) (Err f) inside ends went err = λ clean. (failed mid last e inside ends clean (err clean)).3

by_store : (mid last : State) (cause : StoreError) (e : Error) → e ≡ store_error cause → HasCause mid last ⊥ cause → store_fault e ≡ Store → HasFailed mid last
by_store mid last OutOfMemory e is has told = absurd (let no : Memory ≡ Store = sym (ap store_fault is) ∙ told in cc)
by_store mid last Io e is has told = inr has
by_store mid last Corrupt e is has told = inr has
by_store mid last Full e is has told = inr has
by_store mid last Broken e is has told = inl has
by_store mid last Unstorable e is has told = absurd has

pub cause_on : {A B : Type 0} (mid last : State) (commit : Result A Error) (told : Result B StoreFault) → IfClean IsInside mid → Survives mid last (λ trees. trees ≡ mid.now.trees) → OnOk commit (IsOk told)
    → IfErr commit (λ e. told ≡ Err (store_fault e)) → (HasCleanDisk last → IfErr commit (FailsToCommit mid last)) → HasCleanDisk last → IfErr told (λ fault. fault ≡ Store → HasFailed mid last)
cause_on mid last commit (Ok y) inside ends went is err clean = tt
cause_on mid last (Ok x) (Err f) inside ends went is err clean = absurd (let no = went in cc)
cause_on mid last (Err e) (Err f) inside ends went is err clean = λ store.
    let h = failed mid last e inside ends clean (err clean) in
    let same : f ≡ store_fault e = let told = is in cc in
    by_store mid last h.0 e h.1 h.2 (sym same ∙ store)
