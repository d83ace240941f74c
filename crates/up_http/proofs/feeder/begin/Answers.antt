use Rattle.std.proofs.Common.{◌≤◌, ◌∙◌, refl, sym, ap, subst}
use Rattle.up_manifest.specs.Manifests.{largest_body}
use Rattle.up_http.proofs.FeedLaws.{made, made_is, size_small, begins_body}
use Rattle.up_http.proofs.feeder.begin.Goals as goal

pub unwrap-body-requires : goal.unwrap-body-requires
unwrap-body-requires c =
    made c.new.result c.unwrap_or.result (subst (λ n. n ≤ largest_body) (sym c.unwrap_or.ensures) (size_small c.args.head.now c.args.facts.now c.args.stated c.requires.states.whole c.requires.states.framed)) c.new.ensures

pub returns-clause-waits : goal.returns-clause-waits
returns-clause-waits c =
    begins_body c.args.head.now c.args.facts.now c.args.stated _ c.requires.states.whole c.requires.states.framed
    (ap (λ b. b.size) (made_is c.new.result c.unwrap-body.result c.unwrap_or.result c.unwrap-body.ensures c.new.ensures) ∙ c.unwrap_or.ensures)
    c.in_ok-asks.ensures c.is_head.ensures refl
