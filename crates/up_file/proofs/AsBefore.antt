-- What is as it was committed in what a call left that changed nothing is so in what it was given.
use Rattle.std.proofs.Common.{◌∙◌}
use Rattle.sqlite.specs.State.{State}
use Rattle.up_tables.specs.Stands.{IsAsCommitted}

pub as_before : (old mid new : State) → IsAsCommitted old mid → IsAsCommitted mid new → IsAsCommitted old new
as_before old mid new first second = record {
  mode = second.mode;
  was_open = λ is_open. first.was_open (second.was_open is_open);
  undone = λ is_open. let here = first.undone (second.was_open is_open) in let now = second.undone is_open in (now.0 ∙ here.1, now.1 ∙ here.1);
}
