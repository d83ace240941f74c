use Rattle.up_http.proofs.TalkLaws.{keeps_order}
use Rattle.up_http.proofs.laws.conversations_keep_order.Goals as goal

pub returns : goal.returns
returns c = keeps_order
