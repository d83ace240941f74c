use Rattle.up_roles.specs.Meaning.{MeansRoot}
use Rattle.up_roles.specs.Root.{root_in}
use Rattle.up_brought.proofs.Enveloped.{envelope_limits}
use Rattle.up_brought.proofs.spelled.spelled_root.Goals as goal

pub is_spelled-requires : goal.is_spelled-requires
is_spelled-requires c =
    envelope_limits MeansRoot root_in c.meaning_laws.ensures.root c.envelope_laws.ensures.fits c.args.text.now c.in_ok-file.file c.in_ok-file.envelope c.in_ok-file.ensures.value
