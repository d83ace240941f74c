use Rattle.std.proofs.Common.{◌≡◌, ◌*◌, pos, refl, ◌∙◌, arith, FitsSigned, w64, to_z, of_z, to_z-of_z}
use Rattle.std.proofs.lemmas.Int.{ints}
use Rattle.jiff_core.specs.Date.{IsYmd}
use Rattle.jiff_core.proofs.SignedLemmas.{signed_arith}
use Rattle.up_canon.specs.Moments.{day_number}
use Rattle.up_canon.proofs.Days.{is_date_true, epoch_day_is, seconds_since}
use Rattle.up_canon.proofs.calendar.midnight_of.Goals as goal

abbrev at : goal.After-as_secs → Type 0
at c = to_z w64 (of_z w64 c.as_secs.result) ≡ pos (day_number c.args.year c.args.month c.args.day * 86_400)

abbrev found : goal.After-as_secs → Type 0
found c = IsYmd (pos c.args.year) (pos c.args.month) (pos c.args.day) c.in-Ok.found

found_is : (c : goal.After-as_secs) → found c
found_is c =
    let value = c.in-Ok.ensures.value in
    (value.0 ∙ omega (arith, ints), value.1 ∙ omega (arith, ints), value.2 ∙ omega (arith, ints))

seconds_are : (c : goal.After-as_secs) → c.as_secs.result ≡ pos (day_number c.args.year c.args.month c.args.day * 86_400)
seconds_are c =
    let day = epoch_day_is c.in-Ok.found c.args.year c.args.month c.args.day (found_is c) c.if-year-lt1970.false in
    c.as_secs.ensures ∙ seconds_since _ _ _ _ c.duration_since.ensures day c.epoch.ensures

at_is : (c : goal.After-as_secs) → at c
at_is c =
    let fits : FitsSigned w64 c.as_secs.result = omega (arith, signed_arith) in
    to_z-of_z fits ∙ seconds_are c

pub overflow_cast-result : goal.overflow_cast-result
overflow_cast-result c =
    let small = rw (seconds_are c) at c.as_secs.type_inv in
    rw (at_is c) (tt, omega (arith, small))

pub returns-in-Ok : goal.returns-in-Ok
returns-in-Ok c = rw (at_is c, is_date_true c.in-Ok.found c.args.year c.args.month c.args.day (found_is c) c.if-year-lt1970.false) refl
