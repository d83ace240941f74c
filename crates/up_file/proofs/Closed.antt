-- What is told of a close, by what it answered.
use Rattle.std.proofs.Common.{◌≡◌, Ok, Err, Result, IfOk, IfErr, refl, sym, subst}
use Rattle.sqlite_disk.specs.declared.Disk.{Ghosts}
use Rattle.sqlite_disk.specs.declared.Files.{Files}
use Rattle.sqlite_store.specs.declared.store.FileStore.{FileStore}
use Rattle.sqlite.specs.State.{HasCleanDisk}
use Rattle.sqlite.specs.Held.{Held}
use Rattle.sqlite.specs.Files.{file_state, IsClosed, FailsToClose}
use Rattle.sqlite.specs.declared.error.Error.{Error}
use Rattle.up_tables.specs.declared.values.StoreFault.{StoreFault}
use Rattle.up_file.specs.Closing.{FailsClosing, closed_fault}

pub files_told : {D : Type 0} {g : Ghosts D} (closed : Result (Files D) (Error × FileStore D g)) (r : Result (Files D) (StoreFault × Files D)) (P : Files D → Type 0)
    → r ≡ closed_fault closed → IfOk closed P → IfOk r P
files_told (Ok files) r P is h = subst (λ x. IfOk x P) (sym is) h
files_told (Err left) r P is h = subst (λ x. IfOk x P) (sym is) tt

pub failed_told : {D : Type 0} {g : Ghosts D} (c : Held (FileStore D g)) (closed : Result (Files D) (Error × FileStore D g)) (r : Result (Files D) (StoreFault × Files D))
    → r ≡ closed_fault closed
    → IfErr closed (λ left. IsClosed c left.1 × (HasCleanDisk (file_state (record c { store = left.1 })) → FailsToClose c left.1 left.0)) → IfErr r (FailsClosing c)
failed_told c (Ok files) r is h = subst (λ x. IfErr x (FailsClosing c)) (sym is) tt
failed_told c (Err left) r is h = subst (λ x. IfErr x (FailsClosing c)) (sym is) (left.1, left.0, refl, refl, h.0, h.1)
