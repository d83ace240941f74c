use Rattle.up_rows.proofs.Replacements.{ecus_replaced}
use Rattle.up_rows.proofs.Fitting.{replacements_fit}
use Rattle.up_rows.proofs.laws.ecus_are_replaced.Goals as goal

pub returns : goal.returns
returns c = record { replaced = ecus_replaced; fits = replacements_fit }
