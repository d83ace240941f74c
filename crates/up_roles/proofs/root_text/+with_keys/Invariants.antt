use Rattle.std.proofs.Common.{length}
use Rattle.up_roles.proofs.root_text.+with_keys.Given as goal

abbrev pub decreases-with_keys : goal.decreases-with_keys
decreases-with_keys l = length l.keys.now
