use Rattle.std.proofs.Common.{sym, arith, ◌∙◌}
use Rattle.up_service.proofs.Decimals.{number_read, number_not_read, number_not_begun}
use Rattle.up_service.proofs.numbers.number.Goals as goal

pub returns-then-first_byte-le48 : goal.returns-then-first_byte-le48
returns-then-first_byte-le48 c = sym (number_not_begun c.args.most c.args.text.now c.ranges.most.fits (λ first. omega (arith, c.first_byte.ensures, c.if-first_byte-le48.true)))

pub returns-in-Ok : goal.returns-in-Ok
returns-in-Ok c = sym (number_read c.args.most c.in-Ok.n c.args.text.now c.parse.result (omega (arith, c.first_byte.ensures, c.if-first_byte-le48.false)) c.parse.ensures.value.0 c.in-Ok.is c.if-n-most.true)

pub returns-in_default-2 : goal.returns-in_default-2
returns-in_default-2 c = sym (number_not_read c.args.most c.args.text.now c.parse.result c.ranges.most.fits c.parse.ensures.value.0 (λ n is. absurd (cc (sym c.in_default.is ∙ is))))
