use Rattle.std.proofs.Common.{◌*◌, ◌^◌, ◌<◌, arith}
use Rattle.std.proofs.lemmas.Nat.{mul-lt}
use Rattle.up_field.specs.Points.{number}
use Rattle.up_field.proofs.squares.square.Goals as goal

pub squared-n-requires-clause-below : goal.squared-n-requires-clause-below
squared-n-requires-clause-below c =
    let n : number c.args.a < 2 ^ 256 = omega arith in
    let h : number c.args.a * number c.args.a < 2 ^ 256 * 2 ^ 256 = mul-lt (number c.args.a) (number c.args.a) (2 ^ 256) (2 ^ 256) n n in
    omega (arith, h, c.doubled-t.ensures.value, c.crossed-m.ensures.value)
