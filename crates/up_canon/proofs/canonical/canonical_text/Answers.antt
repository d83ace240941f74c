use Rattle.std.specs.Prelude.{string_bytes}
use Rattle.std.proofs.lemmas.Result.{IfOk-weaker}
use Rattle.serde_json.specs.View.{view}
use Rattle.up_canon.proofs.CanonicalText.{printed}
use Rattle.up_canon.proofs.canonical.canonical_text.Goals as goal

pub returns : goal.returns
returns c = IfOk-weaker c.to_string.result _ _ (λ t h. printed (view c.args.value.now) (string_bytes t) c.requires h) c.to_string.ensures.text
