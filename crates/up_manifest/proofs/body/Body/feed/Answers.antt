use Rattle.std.proofs.Common.{◌≡◌, ◌++◌, ◌∙◌, take, arith, subst}
use Rattle.std.proofs.lemmas.Grind.{common_steps}
use Rattle.up_manifest.proofs.BodyLaws.{taken_fits}
use Rattle.up_manifest.specs.Bodies.{Coming}
use Rattle.up_manifest.proofs.body.Body.feed.Goals as goal

pub returns-clause-ok : goal.returns-clause-ok
returns-clause-ok c =
    let old = c.self.inside in
    let fits = taken_fits old.size c.min-taken.result old.items.items c.args.piece.now c.self.invariant.0 (grind (arith, common_steps)) in
    let after : Coming = record { size = old.size; bytes = c.extend_from_slice.new.self.items } in
    subst (λ (v : Coming). after ≡ record { size = v.size; bytes = take v.size (v.bytes ++ c.args.piece.now) }) c.self.view_is
    (λ i. record { size = old.size; bytes = (c.in_ok-extend_from_slice.ensures.items ∙ fits) i })
