use Rattle.std.proofs.Common.{◌≡◌, true, rules}
use Rattle.serde_json.specs.View.{view}
use Rattle.up_canon.specs.Canon.{has_canon}
use Rattle.up_canon.proofs.CanonicalText.{has_one}
use Rattle.up_canon.proofs.canonical.canonical.Goals as goal

pub returns : goal.returns
returns c =
    let has : has_canon (view c.args.value.now) ≡ true = search rules in
    has_one (view c.args.value.now) _ has c.in_ok-canonical_text.ensures
