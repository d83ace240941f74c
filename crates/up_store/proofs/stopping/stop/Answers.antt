use Rattle.std.proofs.Math.Logic.{∥∥₁_map}
use Rattle.sqlite.proofs.Theorems.{next_run}
use Rattle.sqlite.specs.Files.{file_state}
use Rattle.sqlite_trees.proofs.Doubt.{no_doubt}
use Rattle.up_tables.proofs.CrashLemmas.{opened_with}
use Rattle.up_store.proofs.Common.{ListsRows}
use Rattle.up_store.proofs.stopping.stop.Goals as goal

pub returns : goal.returns
returns g c clean = λ left may opened is found. record {
  left = ∥∥₁_map (next_run c.files_of.result (c.files_of.ensures.numbered (no_doubt _ clean)) (c.files_of.ensures.sound (no_doubt _ clean)) left may (file_state opened) found)
      (c.files_of.ensures.quiet.outcomes _);
  shown = λ rows held. opened_with (ListsRows rows) opened is held;
}
