use Rattle.std.proofs.Common.{ℕ, Bool, true, cond, List, sym, ap₂, subst, rules}
use Rattle.sqlite_disk.specs.Events.{Event, replay}
use Rattle.sqlite_wal.specs.Recovery.{Image}
use Rattle.sqlite.specs.Files.{file_state, IsBlankAs}
use Rattle.sqlite.specs.Start.{FindsIn}
use Rattle.up_file.proofs.opening.connect_files.Goals as goal

abbrev image : List ℕ → List ℕ → Image
image log db = record { log = log; db = db }

abbrev seen : List ℕ → List ℕ → Bool → List Event → List ℕ
seen log db is_log history = (replay (cond is_log log db) history).seen

pub returns-in-Ok-clause-connected : goal.returns-in-Ok-clause-connected
returns-in-Ok-clause-connected g c =
    let (log, db) = c.requires.fresh in
    let same = ap₂ image (ap₂ (seen g.S.Start.log g.S.Start.db) log.0 log.1) (ap₂ (seen g.S.Start.log g.S.Start.db) db.0 db.1) in
    record {
      opened = c.in-Ok.ensures.opened;
      found = λ clean. let found = c.in-Ok.ensures.found clean in subst (λ i. FindsIn i (file_state c.in-Ok.conn)) same (record { holds = found.holds; reads = found.reads });
      sums = λ clean blank. c.in-Ok.ensures.sums clean (subst (IsBlankAs true) (sym same) blank);
      mode = search rules;
      unlimited = search rules;
      shielded = c.in-Ok.ensures.guarded;
    }

pub returns-in-Err-clause-refused : goal.returns-in-Err-clause-refused
returns-in-Err-clause-refused g c = record {
  known = c.why.ensures.known;
  error = c.in-Err.error;
  told = c.why.ensures.told;
  cause = c.in-Err.ensures.cause;
  unharmed = c.in-Err.ensures.unharmed;
}
