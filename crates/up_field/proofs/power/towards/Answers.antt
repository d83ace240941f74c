use Rattle.std.proofs.Common.{refl}
use Rattle.up_field.specs.Points.{number}
use Rattle.up_field.proofs.Powers.{itself, product, nested, IsPower}
use Rattle.up_field.proofs.power.towards.Goals as goal

pub returns-clause-low : goal.returns-clause-low
returns-clause-low c =
    let p-a2 : IsPower (number c.square-a2.result) (number c.args.a) 2 = product (number c.square-a2.result) (number c.args.a) (number c.args.a) (number c.args.a) 1 1 2 refl c.square-a2.ensures (itself (number c.args.a)) (itself (number c.args.a)) in
    let p-a8 : IsPower (number c.squares-a8.result) (number c.args.a) 8 = nested (number c.squares-a8.result) (number c.square-a2.result) (number c.args.a) 2 4 8 refl p-a2 c.squares-a8.ensures in
    let p-a9 : IsPower (number c.mul-a9.result) (number c.args.a) 9 = product (number c.mul-a9.result) (number c.args.a) (number c.squares-a8.result) (number c.args.a) 1 8 9 refl c.mul-a9.ensures (itself (number c.args.a)) p-a8 in
    let p-a11 : IsPower (number c.mul-a11.result) (number c.args.a) 11 = product (number c.mul-a11.result) (number c.square-a2.result) (number c.mul-a9.result) (number c.args.a) 2 9 11 refl c.mul-a11.ensures p-a2 p-a9 in
    p-a11

pub returns-clause-high : goal.returns-clause-high
returns-clause-high c =
    let p-a2 : IsPower (number c.square-a2.result) (number c.args.a) 2 = product (number c.square-a2.result) (number c.args.a) (number c.args.a) (number c.args.a) 1 1 2 refl c.square-a2.ensures (itself (number c.args.a)) (itself (number c.args.a)) in
    let p-a8 : IsPower (number c.squares-a8.result) (number c.args.a) 8 = nested (number c.squares-a8.result) (number c.square-a2.result) (number c.args.a) 2 4 8 refl p-a2 c.squares-a8.ensures in
    let p-a9 : IsPower (number c.mul-a9.result) (number c.args.a) 9 = product (number c.mul-a9.result) (number c.args.a) (number c.squares-a8.result) (number c.args.a) 1 8 9 refl c.mul-a9.ensures (itself (number c.args.a)) p-a8 in
    let p-a11 : IsPower (number c.mul-a11.result) (number c.args.a) 11 = product (number c.mul-a11.result) (number c.square-a2.result) (number c.mul-a9.result) (number c.args.a) 2 9 11 refl c.mul-a11.ensures p-a2 p-a9 in
    let p-a22 : IsPower (number c.square-a22.result) (number c.args.a) 22 = product (number c.square-a22.result) (number c.mul-a11.result) (number c.mul-a11.result) (number c.args.a) 11 11 22 refl c.square-a22.ensures p-a11 p-a11 in
    let p-b5 : IsPower (number c.mul-b5.result) (number c.args.a) 31 = product (number c.mul-b5.result) (number c.mul-a9.result) (number c.square-a22.result) (number c.args.a) 9 22 31 refl c.mul-b5.ensures p-a9 p-a22 in
    let p-c5 : IsPower (number c.squares-c5.result) (number c.args.a) 992 = nested (number c.squares-c5.result) (number c.mul-b5.result) (number c.args.a) 31 32 992 refl p-b5 c.squares-c5.ensures in
    let p-b10 : IsPower (number c.mul-b10.result) (number c.args.a) 1023 = product (number c.mul-b10.result) (number c.squares-c5.result) (number c.mul-b5.result) (number c.args.a) 992 31 1023 refl c.mul-b10.ensures p-c5 p-b5 in
    let p-c10 : IsPower (number c.squares-c10.result) (number c.args.a) 1047552 = nested (number c.squares-c10.result) (number c.mul-b10.result) (number c.args.a) 1023 1024 1047552 refl p-b10 c.squares-c10.ensures in
    let p-b20 : IsPower (number c.mul-b20.result) (number c.args.a) 1048575 = product (number c.mul-b20.result) (number c.squares-c10.result) (number c.mul-b10.result) (number c.args.a) 1047552 1023 1048575 refl c.mul-b20.ensures p-c10 p-b10 in
    let p-c20 : IsPower (number c.squares-c20.result) (number c.args.a) 1099510579200 = nested (number c.squares-c20.result) (number c.mul-b20.result) (number c.args.a) 1048575 1048576 1099510579200 refl p-b20 c.squares-c20.ensures in
    let p-b40 : IsPower (number c.mul-b40.result) (number c.args.a) 1099511627775 = product (number c.mul-b40.result) (number c.squares-c20.result) (number c.mul-b20.result) (number c.args.a) 1099510579200 1048575 1099511627775 refl c.mul-b40.ensures p-c20 p-b20 in
    let p-c40 : IsPower (number c.squares-c40.result) (number c.args.a) 1125899906841600 = nested (number c.squares-c40.result) (number c.mul-b40.result) (number c.args.a) 1099511627775 1024 1125899906841600 refl p-b40 c.squares-c40.ensures in
    let p-b50 : IsPower (number c.mul-b50.result) (number c.args.a) 1125899906842623 = product (number c.mul-b50.result) (number c.squares-c40.result) (number c.mul-b10.result) (number c.args.a) 1125899906841600 1023 1125899906842623 refl c.mul-b50.ensures p-c40 p-b10 in
    let p-c50 : IsPower (number c.squares-c50.result) (number c.args.a) 1267650600228228275596796362752 = nested (number c.squares-c50.result) (number c.mul-b50.result) (number c.args.a) 1125899906842623 1125899906842624 1267650600228228275596796362752 refl p-b50 c.squares-c50.ensures in
    let p-b100 : IsPower (number c.mul-b100.result) (number c.args.a) 1267650600228229401496703205375 = product (number c.mul-b100.result) (number c.squares-c50.result) (number c.mul-b50.result) (number c.args.a) 1267650600228228275596796362752 1125899906842623 1267650600228229401496703205375 refl c.mul-b100.ensures p-c50 p-b50 in
    let p-c100 : IsPower (number c.squares-c100.result) (number c.args.a) 1606938044258990275541962092339894951921974764381296132096000 = nested (number c.squares-c100.result) (number c.mul-b100.result) (number c.args.a) 1267650600228229401496703205375 1267650600228229401496703205376 1606938044258990275541962092339894951921974764381296132096000 refl p-b100 c.squares-c100.ensures in
    let p-b200 : IsPower (number c.mul-b200.result) (number c.args.a) 1606938044258990275541962092341162602522202993782792835301375 = product (number c.mul-b200.result) (number c.squares-c100.result) (number c.mul-b100.result) (number c.args.a) 1606938044258990275541962092339894951921974764381296132096000 1267650600228229401496703205375 1606938044258990275541962092341162602522202993782792835301375 refl c.mul-b200.ensures p-c100 p-b100 in
    let p-c200 : IsPower (number c.squares-c200.result) (number c.args.a) 1809251394333065553493296640760748560207343510400633813116523624223735808000 = nested (number c.squares-c200.result) (number c.mul-b200.result) (number c.args.a) 1606938044258990275541962092341162602522202993782792835301375 1125899906842624 1809251394333065553493296640760748560207343510400633813116523624223735808000 refl p-b200 c.squares-c200.ensures in
    let p-b250 : IsPower (number c.mul-b250.result) (number c.args.a) 1809251394333065553493296640760748560207343510400633813116524750123642650623 = product (number c.mul-b250.result) (number c.squares-c200.result) (number c.mul-b50.result) (number c.args.a) 1809251394333065553493296640760748560207343510400633813116523624223735808000 1125899906842623 1809251394333065553493296640760748560207343510400633813116524750123642650623 refl c.mul-b250.ensures p-c200 p-b50 in
    p-b250
