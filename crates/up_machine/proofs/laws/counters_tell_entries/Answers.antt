use Rattle.up_machine.proofs.Counters as counters
use Rattle.up_machine.proofs.laws.counters_tell_entries.Goals as goal

pub returns : goal.returns
returns c = record { apart = counters.told_apart; versions = counters.versions_are_counts }
