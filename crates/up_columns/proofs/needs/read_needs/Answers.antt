use Rattle.std.proofs.Common.{ap, ◌∙◌, subst}
use Rattle.up_canon.specs.Refusals.{Gives}
use Rattle.up_columns.specs.Columns.{needs_in}
use Rattle.up_columns.proofs.NeedsRead.{needs-there}
use Rattle.up_columns.proofs.needs.read_needs.Goals as goal

pub returns-clause-again : goal.returns-clause-again
returns-clause-again c = λ xs typed is. subst (Gives c.read_items.result) (ap needs_in is ∙ needs-there c.canonical_laws.ensures.read xs typed) c.read_items.ensures
