use Rattle.up_manifest.proofs.manifest_read.read_manifest.Goals as goal

pub returns-in-Some-clause-value : goal.returns-in-Some-clause-value
returns-in-Some-clause-value c = (c.body_laws.ensures.read c.args.body.now c.in-Some.incoming).1 c.in-Some.ensures
