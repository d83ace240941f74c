use Rattle.up_ed25519.proofs.Shown.{shows_keys}
use Rattle.up_ed25519.proofs.shows.keys_are_shown.Goals as goal

pub returns : goal.returns
returns c = shows_keys
