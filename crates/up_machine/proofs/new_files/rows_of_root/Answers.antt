use Rattle.std.proofs.Common.{refl, sym, subst}
use Rattle.std.specs.Prelude.{IsTrue}
use Rattle.up_canon.specs.Names.{are_distinct}
use Rattle.up_roles.specs.Targets.{ecus_of}
use Rattle.up_roles.specs.declared.repository.Repository.TheVariants.{Director, Image}
use Rattle.up_machine.proofs.NewFiles.{both_fit, both_sign, both_sign_before, no_ecus}
use Rattle.up_machine.proofs.new_files.rows_of_root.Goals as goal

pub root_text-requires-clause-root : goal.root_text-requires-clause-root
root_text-requires-clause-root g c = record {
  keys = (both_fit (g.K.Scheme.rules c.args.scheme.now) c.args.keys.now c.requires.keys).0;
  number = c.requires.number;
  moment = c.requires.moment;
}

pub root_text-requires-clause-before : goal.root_text-requires-clause-before
root_text-requires-clause-before g c = both_sign_before (g.K.Scheme.rules c.args.scheme.now) Director c.args.before c.requires.before

pub root_text-requires-2-clause-root : goal.root_text-requires-2-clause-root
root_text-requires-2-clause-root g c = record {
  keys = (both_fit (g.K.Scheme.rules c.args.scheme.now) c.args.keys.now c.requires.keys).1;
  number = c.requires.image_number;
  moment = c.requires.moment;
}

pub root_text-requires-2-clause-before : goal.root_text-requires-2-clause-before
root_text-requires-2-clause-before g c = both_sign_before (g.K.Scheme.rules c.args.scheme.now) Image c.args.before c.requires.before

pub role_texts-requires-clause-keys : goal.role_texts-requires-clause-keys
role_texts-requires-clause-keys g c = (both_sign (g.K.Scheme.rules c.args.scheme.now) c.args.keys.now c.requires.keys).1

pub role_texts-requires-clause-files : goal.role_texts-requires-clause-files
role_texts-requires-clause-files g c = record {
  version = c.requires.version;
  moment = c.requires.moment;
  vehicle = refl;
  targets = c.in_ok-targets.ensures.fit;
  ecus = subst (λ ts. IsTrue (are_distinct (ecus_of ts))) (sym c.in_ok-targets.ensures.value) (no_ecus c.args.images.now);
}
