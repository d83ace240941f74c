use Rattle.std.proofs.Common.{◌+◌, refl, arith}
use Rattle.up_machine.proofs.NewFiles.{version_in_limits}
use Rattle.up_machine.proofs.director_files.reply_text.Goals as goal

pub role_texts-requires-clause-files : goal.role_texts-requires-clause-files
role_texts-requires-clause-files g c =
    let small = c.requires.version in
    record {
      version = version_in_limits (c.args.row.now.version + 1) (omega arith) (omega (arith, small));
      moment = c.requires.moment;
      vehicle = refl;
      targets = c.requires.targets;
      ecus = c.requires.ecus;
    }
