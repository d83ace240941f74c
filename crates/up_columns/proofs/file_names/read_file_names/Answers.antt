use Rattle.std.proofs.Common.{ap, ◌∙◌, subst}
use Rattle.up_canon.specs.Refusals.{Gives}
use Rattle.up_columns.specs.Columns.{file_names_in}
use Rattle.up_columns.proofs.NamesRead.{file_names-there}
use Rattle.up_columns.proofs.file_names.read_file_names.Goals as goal

pub returns-clause-again : goal.returns-clause-again
returns-clause-again c = λ xs typed is. subst (Gives c.read_items.result) (ap file_names_in is ∙ file_names-there c.canonical_laws.ensures.read xs typed) c.read_items.ensures
