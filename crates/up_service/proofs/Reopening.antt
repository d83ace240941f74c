-- What an open finds behind a run, of the files that a crash left.
use Rattle.std.proofs.Common.{◌≡◌, ◌⊎◌, inl, inr, refl, List}
use Rattle.std.proofs.Math.Logic.{∥∥₁_map}
use Rattle.sqlite_disk.specs.declared.Disk.{Ghosts as DiskGhosts}
use Rattle.sqlite.specs.Files.{file_state}
use Rattle.sqlite.specs.Tree.{Trees}
use Rattle.up_machine.specs.State.{State}
use Rattle.up_rows.specs.StateRows.{rows_of_state}
use Rattle.up_records.specs.Standing.{HoldsState}
use Rattle.up_service.specs.Runs.{Service, Told, behind, after, HoldsSome, IsMadeBySome, ReopenedLast}

stays_or_made : {I : Type 0} (v : Service I) (s : State) (ms : List (Told I)) (next : List I) (trees : Trees) → HoldsState s trees ⊎ HoldsSome v s ms next trees
    → (at : State) × ((at ≡ s) ⊎ IsMadeBySome v s ms next at) × HoldsState at trees
stays_or_made v s ms next trees (inl held) = (s, inl refl, held)
stays_or_made v s ms next trees (inr held) = (held.0, inr held.1, held.2)

pub reopened_last : {D : Type 0} (I : Type 0) (g : DiskGhosts D) → ReopenedLast I g
reopened_last I g v s ms next old new lasts before rest m made clean stopped again whole left may opened is found =
    let f = again whole left may opened is found in
    ∥∥₁_map f.left (λ r.
    let held = stays_or_made v (behind v (after v s before) m) rest next (file_state opened).committed.trees (lasts.durable before rest m made clean (file_state opened).committed.trees r) in
    (held.0, held.1, f.shown (rows_of_state held.0) held.2))
