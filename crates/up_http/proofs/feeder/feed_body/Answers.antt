use Rattle.std.proofs.Common.{refl}
use Rattle.up_http.proofs.FeedLaws.{gives_body}
use Rattle.up_http.proofs.feeder.feed_body.Goals as goal

pub returns-in-Ok-clause-ok : goal.returns-in-Ok-clause-ok
returns-in-Ok-clause-ok c = (
  c.settle.ensures.kept,
  gives_body c.args.parts.now.head.items c.args.piece.now c.args.waiting _ c.args.parts.now.given c.in-Ok.taken c.settle.result _ c.requires.holds.waits refl c.in-Ok.ensures.ok c.in-Ok.ensures.taken c.requires.holds.bounded c.requires.between.few c.settle.ensures.settled,
)
