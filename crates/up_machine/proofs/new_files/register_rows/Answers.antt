use Rattle.std.proofs.Common.{sym, ap, ◌∙◌, subst}
use Rattle.std.specs.Prelude.{IsTrue}
use Rattle.std.specs.FinMap as table
use Rattle.up_canon.specs.Names.{are_distinct}
use Rattle.up_roles.specs.Targets.{ecus_of}
use Rattle.up_machine.proofs.NewFiles.{no_ecus}
use Rattle.up_machine.proofs.FoundingRows.{register_rows_are, of_targets}
use Rattle.up_machine.proofs.new_files.register_rows.Goals as goal

pub rows_with_targets-requires-clause-ecus : goal.rows_with_targets-requires-clause-ecus
rows_with_targets-requires-clause-ecus g c =
    subst (λ ts. IsTrue (are_distinct (ecus_of ts))) (sym c.in-Ok.ensures.value) (no_ecus c.values.result.now)

pub returns-in-Ok : goal.returns-in-Ok
returns-in-Ok g c = λ next has made images.
    let k = g.K.Scheme.rules c.args.scheme.now in
    register_rows_are k next c.args.founding has made c.values.result.now (c.values.ensures ∙ ap (λ t. table.values t) images) c.rows_with_targets.result
    (of_targets k c.args.founding c.values.result.now c.in-Ok.targets c.in-Ok.ensures.value c.rows_with_targets.result c.rows_with_targets.ensures)
