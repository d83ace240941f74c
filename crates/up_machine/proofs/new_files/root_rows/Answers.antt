use Rattle.std.proofs.Common.{◌≡◌, ap, ◌∙◌, subst}
use Rattle.std.specs.Prelude.{IfOk}
use Rattle.std.specs.FinMap as table
use Rattle.up_machine.proofs.NewFiles.{lent_before}
use Rattle.up_machine.proofs.FoundingRows.{root_rows_of, root_rows_are}
use Rattle.up_machine.proofs.new_files.root_rows.Goals as goal

pub rows_of_root-requires-clause-before : goal.rows_of_root-requires-clause-before
rows_of_root-requires-clause-before g c = lent_before (g.K.Scheme.rules c.args.scheme.now) c.as_ref-before.result c.args.new.now.before c.as_ref-before.ensures.value c.requires.before

pub returns : goal.returns
returns g c = λ next has images.
    let k = g.K.Scheme.rules c.args.scheme.now in
    let made = subst (λ before. IfOk c.rows_of_root.result (λ rows. rows ≡ root_rows_of k c.args.at c.args.keys.now c.args.new.now before c.values-images.result.now)) c.as_ref-before.ensures.value c.rows_of_root.ensures in
    root_rows_are k next c.args.at c.args.keys.now c.args.new.now has c.values-images.result.now (c.values-images.ensures ∙ ap (λ t. table.values t) images) c.rows_of_root.result made
