use Rattle.std.proofs.Common.{sym, subst}
use Rattle.std.specs.Prelude.{IsTrue, insert}
use Rattle.up_canon.specs.Names.{are_distinct}
use Rattle.up_roles.specs.Targets.{ecus_of}
use Rattle.up_machine.specs.Registers.{place_among}
use Rattle.up_machine.proofs.NewFiles.{no_ecus}
use Rattle.up_machine.proofs.FoundingRows.{of_targets}
use Rattle.up_machine.proofs.new_files.rows_with_image.Goals as goal

pub rows_with_targets-requires-clause-ecus : goal.rows_with_targets-requires-clause-ecus
rows_with_targets-requires-clause-ecus g c =
    subst (λ ts. IsTrue (are_distinct (ecus_of ts))) (sym c.in-Ok.ensures.value) (no_ecus (insert c.args.images.now (place_among c.args.image.now.file c.args.images.now) c.args.image.now))

pub returns-in-Ok : goal.returns-in-Ok
returns-in-Ok g c =
    of_targets (g.K.Scheme.rules c.args.scheme.now) c.args.founding (insert c.args.images.now (place_among c.args.image.now.file c.args.images.now) c.args.image.now) c.in-Ok.targets c.in-Ok.ensures.value
    c.rows_with_targets.result c.rows_with_targets.ensures
