use Rattle.std.proofs.Common.{refl}
use Rattle.up_field.specs.Points.{number}
use Rattle.up_field.proofs.Powers.{itself, product, nested}
use Rattle.up_field.proofs.power.root_power.Goals as goal

pub returns : goal.returns
returns c =
    product (number c.mul.result) (number c.squares-c.result) (number c.args.a) (number c.args.a) 7237005577332262213973186563042994240829374041602535252466099000494570602492 1 7237005577332262213973186563042994240829374041602535252466099000494570602493 refl c.mul.ensures
    (nested (number c.squares-c.result) (number c.towards.result.1) (number c.args.a) 1809251394333065553493296640760748560207343510400633813116524750123642650623 4 7237005577332262213973186563042994240829374041602535252466099000494570602492 refl c.towards.ensures.high c.squares-c.ensures)
    (itself (number c.args.a))
