use Rattle.std.proofs.Common.{false, [], refl}
use Rattle.std.specs.Prelude.{is_some}
use Rattle.up_http.proofs.TalkLaws.{ends_running}
use Rattle.up_http.specs.Talks.{Talk}
use Rattle.up_http.proofs.conversation.Conversation.end.Goals as goal

pub returns-clause-running : goal.returns-clause-running
returns-clause-running c =
    let old : Talk = record { fed = c.self.inside.feeder; asking = false; unsent = [] } in
    let new : Talk = record { fed = c.end-next.new.self; asking = is_some c.end-next.result; unsent = [] } in
    ends_running old new c.end-next.result (record { ends = c.end-next.ensures; asks = refl; same = refl })
