use Rattle.up_manifest.proofs.Laws as laws
use Rattle.up_manifest.proofs.body_laws.Goals as goal

pub returns : goal.returns
returns c = record {
  read = laws.bodies_are_read;
  one = laws.bodies_mean_one_or_fail;
  signed = laws.signed_texts_mean c.canonical_laws.ensures.read;
  reports = laws.report_texts_mean c.canonical_laws.ensures.read;
}
