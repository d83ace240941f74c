use Rattle.std.proofs.Common.{sym, ◌∙◌}
use Rattle.up_machine.proofs.Fetched.{fetch_unfounded, fetch_unknown, fetch_found}
use Rattle.up_machine.proofs.decide_fetch.decide_fetch.Goals as goal

pub returns-then-not-is_founded : goal.returns-then-not-is_founded
returns-then-not-is_founded c = λ s repository name founded there.
    fetch_unfounded s c.args.at repository name c.requires (sym c.if-not-is_founded.true ∙ founded)

pub returns-in-Some : goal.returns-in-Some
returns-in-Some c = λ s repository name founded there.
    fetch_found s c.args.at repository name c.in-Some.text c.requires (sym c.if-not-is_founded.false ∙ founded) (sym c.in-Some.is ∙ there)

pub returns-in-None : goal.returns-in-None
returns-in-None c = λ s repository name founded there.
    fetch_unknown s c.args.at repository name c.requires (sym c.if-not-is_founded.false ∙ founded) (sym c.in-None.is ∙ there)
