use Rattle.up_rows.proofs.Found as found
use Rattle.up_rows.proofs.laws.views_are_told.Goals as goal

pub returns : goal.returns
returns c = record { versions = found.versions_told; ecus = found.ecus_told; installed = found.installed_told; assigned = found.assigned_told }
