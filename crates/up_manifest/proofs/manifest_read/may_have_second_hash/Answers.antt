use Rattle.up_manifest.proofs.NoReport.{no_second_hash}
use Rattle.up_manifest.proofs.manifest_read.may_have_second_hash.Goals as goal

pub returns : goal.returns
returns c = λ none. no_second_hash c.args.signed.now (rw none at c.contains.ensures.cases)
