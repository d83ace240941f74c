use Rattle.std.proofs.Common.{refl}
use Rattle.up_machine.proofs.new_files.image_files.Goals as goal

pub role_texts-requires-clause-files : goal.role_texts-requires-clause-files
role_texts-requires-clause-files g c = record {
  version = c.requires.founding.version;
  moment = c.requires.founding.moment;
  vehicle = refl;
  targets = c.requires.targets;
  ecus = c.requires.ecus;
}
