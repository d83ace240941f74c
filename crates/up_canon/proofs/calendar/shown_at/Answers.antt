use Rattle.std.proofs.Common.{◌≡◌, ◌/◌, pos, ◌∙◌, ap, arith}
use Rattle.std.proofs.lemmas.Int.{ints}
use Rattle.jiff.specs.Words.{epoch_day}
use Rattle.up_canon.proofs.MomentTexts.{moment_texts}
use Rattle.up_canon.proofs.calendar.shown_at.Goals as goal

pub returns : goal.returns
returns c =
    let day : epoch_day c.date_of.result ≡ pos (c.args.second / 86400) = c.date_of.ensures ∙ omega (arith, ints) in
    moment_texts c.at.result c.args.second (ap epoch_day c.at.ensures.date ∙ day)
    (omega (arith, ints)) (omega (arith, ints)) (omega (arith, ints)) (omega (arith, ints))
