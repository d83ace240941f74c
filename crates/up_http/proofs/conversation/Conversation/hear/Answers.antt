use Rattle.std.proofs.Common.{◌≡◌, ◌∙◌, false, [], refl, ap}
use Rattle.std.specs.Prelude.{is_some}
use Rattle.up_http.proofs.TalkLaws.{reads, wants_read, hears_running}
use Rattle.up_http.specs.Talks.{Talk}
use Rattle.up_http.proofs.conversation.Conversation.hear.Goals as goal

pub returns-clause-running : goal.returns-clause-running
returns-clause-running c =
    let old : Talk = record { fed = c.self.inside.feeder; asking = false; unsent = [] } in
    let new : Talk = record { fed = c.feed.new.self; asking = is_some c.in_ok-step.step.next; unsent = [] } in
    let going : c.self.inside.feeder.ended ≡ false = ap (λ t. t.fed.ended) c.self.view_is ∙ (reads c.args.self.now c.requires).going in
    hears_running old new c.args.piece.now c.in_ok-step.step.taken c.in_ok-step.step.next (wants_read old refl refl going)
    (record { feeds = c.in_ok-step.ensures.ok; asks = refl; same = refl })
