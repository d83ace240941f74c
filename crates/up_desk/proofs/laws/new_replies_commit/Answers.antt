use Rattle.up_desk.proofs.Commits.{new_replies}
use Rattle.up_desk.proofs.laws.new_replies_commit.Goals as goal

pub returns : goal.returns
returns c = new_replies
