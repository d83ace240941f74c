use Rattle.std.proofs.Common.{◌++◌, ◌∙◌, sym, ap}
use Rattle.up_canon.specs.Canon.{json_string}
use Rattle.up_manifest.proofs.LowerDigits.{lower-decoded, decoded-bytes}
use Rattle.up_manifest.proofs.cursor.Cursor.bytes.Goals as goal

pub returns-in-Ok-clause-value : goal.returns-in-Ok-clause-value
returns-in-Ok-clause-value c =
    let text = c.as_bytes.ensures.value in
    c.in_ok-digits.ensures.value
    ∙ ap (λ t. json_string t ++ c.lower_digits.new.self.rest.now)
    (sym text ∙ lower-decoded c.as_bytes.result.now c.in-Ok.bytes.items c.in-Ok.ensures.ok (rw text c.in_ok-digits.ensures.lower))

pub returns-in-Ok-clause-typed : goal.returns-in-Ok-clause-typed
returns-in-Ok-clause-typed c = decoded-bytes c.as_bytes.result.now c.in-Ok.bytes.items c.in-Ok.ensures.ok
