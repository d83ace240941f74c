use Rattle.up_http.proofs.StreamLaws.{requests_once}
use Rattle.up_http.proofs.laws.requests_are_one.Goals as goal

pub returns : goal.returns
returns c = requests_once
