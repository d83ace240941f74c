use Rattle.std.proofs.Common.{◌≡◌, ◌∙◌, IfSome, lit<, slice_index, subst, sym, ap, rules, arith}
use Rattle.std.specs.Prelude.{codes, decimal}
use Rattle.std.proofs.lemmas.Fmt.{decimal_digit}
use Rattle.up_manifest.proofs.PlainTexts.{parsed-decimal}
use Rattle.up_manifest.proofs.cursor.number_of.Goals as goal

pub returns-then-eq : goal.returns-then-eq
returns-then-eq c =
    let zero : c.args.digits.now ≡ codes "0" = search rules in
    zero ∙ sym (decimal_digit 0 (lit< tt))

pub returns-then-first_byte-gt48 : goal.returns-then-first_byte-gt48
returns-then-first_byte-gt48 c =
    let first = c.first_byte.ensures ∙ ap (λ t. slice_index t 0) c.as_bytes.ensures.value in
    subst (λ o. IfSome o (λ n. c.args.digits.now ≡ decimal n)) (sym c.ok.ensures.value)
    (parsed-decimal c.args.digits.now c.parse.result c.parse.ensures.value.0 (omega arith))
