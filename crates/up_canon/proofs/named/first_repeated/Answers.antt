use Rattle.std.proofs.Common.{sym, ap, ◌∙◌, take}
use Rattle.std.specs.Prelude.{bytes_eq}
use Rattle.std.specs.List.{list_any}
use Rattle.up_canon.proofs.Repeated.{repeated-passes, repeated-found}
use Rattle.up_canon.proofs.named.first_repeated.Goals as goal

pub loop-i-preserved : goal.loop-i-preserved
loop-i-preserved g c =
    repeated-passes g.T.Named.name_of c.args.items.now c.loop-i.i c.index-items-i.result c.loop-i-test.true c.index-items-i.is
    (ap (λ t. list_any (λ x. bytes_eq t (g.T.Named.name_of x)) (take c.loop-i.i c.args.items.now)) (sym c.name.ensures) ∙ sym c.has_name.ensures ∙ c.if-has_name.false)
    ∙ c.loop-i.invariant

pub returns-then-has_name : goal.returns-then-has_name
returns-then-has_name g c =
    let found = repeated-found g.T.Named.name_of c.args.items.now c.loop-i.i c.index-items-i.result c.loop-i-test.true c.index-items-i.is
    (ap (λ t. list_any (λ x. bytes_eq t (g.T.Named.name_of x)) (take c.loop-i.i c.args.items.now)) (sym c.name.ensures) ∙ sym c.has_name.ensures ∙ c.if-has_name.true) in
    sym (sym c.loop-i.invariant ∙ found)
