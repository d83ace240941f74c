use Rattle.std.proofs.Common.{◌++◌, ◌∙◌, length, sym, ap}
use Rattle.up_canon.specs.Canon.{json_string}
use Rattle.up_manifest.proofs.LowerDigits.{lower-written}
use Rattle.up_manifest.proofs.cursor.Cursor.digits_of.Goals as goal

pub returns-in-Ok : goal.returns-in-Ok
returns-in-Ok c =
    let text = c.as_bytes.ensures.value in
    c.in_ok-digits.ensures.value
    ∙ ap (λ t. json_string t ++ c.lower_digits.new.self.rest.now)
    (sym text ∙ lower-written c.as_bytes.result.now c.decode_to_slice.new.out (length c.args.out.now) c.decode_to_slice.result c.in-Ok.field-0
    c.decode_to_slice.ensures.value c.in-Ok.is (rw text c.in_ok-digits.ensures.lower))
