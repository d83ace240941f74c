use Rattle.up_machine.proofs.Repeating as repeating
use Rattle.up_machine.proofs.laws.repeats_are_found.Goals as goal

pub returns : goal.returns
returns c = record {
  stale = repeating.stale c.body_laws.ensures.read c.body_laws.ensures.signed;
  kept = repeating.kept_for_repeats;
  found = repeating.found_by_counter c.body_laws.ensures.read c.body_laws.ensures.signed;
  older = repeating.older_is_stale;
}
