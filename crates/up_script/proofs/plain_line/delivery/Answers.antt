use Rattle.std.proofs.Common.{◌≡◌, ◌++◌, ◌∙◌, true, Ok, sym, ap, rules, arith}
use Rattle.std.specs.Prelude.{codes, decimal}
use Rattle.up_canon.specs.Canon.{is_printable_text}
use Rattle.up_machine.specs.declared.command.Command.TheVariants as command
use Rattle.up_script.specs.declared.asked.What.TheVariants.{Call}
use Rattle.up_script.proofs.PlainLines.{delivery_in}
use Rattle.up_script.proofs.plain_line.delivery.Goals as goal

pub returns-clause-value : goal.returns-clause-value
returns-clause-value c =
    let at = c.in_ok-at.at in
    let body = c.in_ok-body.body.items in
    let text = c.in_ok-text.text.now in
    let printable : is_printable_text body ≡ true = search rules in
    let escaped = sym c.as_bytes.ensures.value ∙ c.in_ok-body.ensures in
    let whole =
    sym c.new-cursor.ensures ∙ c.in_ok-pass.ensures ∙ ap (λ t. codes "{\"at\":" ++ t) (
    c.in_ok-at.ensures ∙ ap (λ t. decimal at ++ t) (
    c.in_ok-pass-2.ensures ∙ ap (λ t. codes ",\"body\":\"" ++ t) (
    c.in_ok-text.ensures ∙ ap (λ t. t ++ codes "\",\"do\":\"deliver\"}") escaped))) in
    λ k.
    delivery_in c.canonical_laws.ensures.deeper k at body (omega arith) printable c.args.line.now c.utf8.line whole
    ∙ ap (λ bytes. Ok (record { at = at; what = Call (command.Deliver bytes) })) (sym c.new.ensures)
