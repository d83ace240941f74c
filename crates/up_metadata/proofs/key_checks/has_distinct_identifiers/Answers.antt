use Rattle.std.proofs.Common.{◌∙◌}
use Rattle.up_metadata.proofs.HashedIds.{one_more}
use Rattle.up_metadata.proofs.key_checks.has_distinct_identifiers.Goals as goal

pub loop-i-preserved : goal.loop-i-preserved
loop-i-preserved g c =
    c.in_ok-push.ensures.items ∙ one_more (g.K.Scheme.rules c.args.scheme.now) c.args.keys.now c.args.hashed.now c.loop-i.names.items c.loop-i.i c.index-hashed-i.result c.in_ok-id.field-0 c.loop-i-test.true c.requires c.index-hashed-i.is c.loop-i.invariant c.in_ok-id.ensures
