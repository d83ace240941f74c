use Rattle.up_metadata.proofs.Signing.{root_files_signed, role_files_signed}
use Rattle.up_metadata.proofs.laws.files_are_signed.Goals as goal

pub returns : goal.returns
returns c = record { roots = root_files_signed; roles = role_files_signed }
