use Rattle.std.proofs.Common.{sym, subst}
use Rattle.serde_json.specs.View.{view}
use Rattle.up_canon.specs.Refusals.{GivesAs}
use Rattle.up_canon.specs.Steps.{or_error}
use Rattle.up_canon.specs.declared.refusal.Refusal.TheVariants.{NotJson}
use Rattle.up_script.proofs.PlainLines.{value_of_utf8}
use Rattle.up_script.proofs.asked.line_value.Goals as goal

pub returns : goal.returns
returns c = subst (λ o. GivesAs view c.value_of_text.result (or_error NotJson o)) (sym (value_of_utf8 c.args.line.now c.utf8.line)) c.value_of_text.ensures
