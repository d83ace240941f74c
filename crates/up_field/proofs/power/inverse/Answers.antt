use Rattle.std.proofs.Common.{refl}
use Rattle.up_field.specs.Points.{number}
use Rattle.up_field.proofs.Powers.{product, nested}
use Rattle.up_field.proofs.power.inverse.Goals as goal

pub returns : goal.returns
returns c =
    product (number c.mul.result) (number c.squares-c.result) (number c.towards.result.0) (number c.args.a) 57896044618658097711785492504343953926634992332820282019728792003956564819936 11 57896044618658097711785492504343953926634992332820282019728792003956564819947 refl c.mul.ensures
    (nested (number c.squares-c.result) (number c.towards.result.1) (number c.args.a) 1809251394333065553493296640760748560207343510400633813116524750123642650623 32 57896044618658097711785492504343953926634992332820282019728792003956564819936 refl c.towards.ensures.high c.squares-c.ensures)
    c.towards.ensures.low
