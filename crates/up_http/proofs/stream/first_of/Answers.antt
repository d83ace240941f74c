use Rattle.std.proofs.Common.{subst}
use Rattle.up_http.specs.Feeding.{Gives}
use Rattle.up_http.proofs.InputLaws.{first_given}
use Rattle.up_http.proofs.stream.first_of.Goals as goal

pub returns-in-Some-clause-first : goal.returns-in-Some-clause-first
returns-in-Some-clause-first c =
    first_given c.args.feeder.now _ c.args.bytes.now c.in_ok-taken.field-0.taken c.in-Some.next c.requires.fresh
    (subst (λ n. Gives c.args.feeder.now c.args.bytes.now c.in_ok-taken.field-0.taken n c.feed.new.self) c.in-Some.is (c.in_ok-taken.ensures.ok.going_on c.requires.open))
