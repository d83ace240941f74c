use Rattle.up_manifest.proofs.Lengths.{joined-four}
use Rattle.up_manifest.proofs.writing.push_primary.Goals as goal

pub returns : goal.returns
returns c = joined-four _ _ _ _ _ _ _ _ _ c.in_ok-push_str.ensures.bytes c.in_ok-push_number.ensures c.in_ok-push_str-2.ensures.bytes c.in_ok-push_ident.ensures
