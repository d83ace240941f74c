use Rattle.std.proofs.Common.{◌∷◌, ◌++◌, ◌∙◌, ap}
use Rattle.up_manifest.proofs.LowerDigits.{digits-direct}
use Rattle.up_manifest.proofs.PlainTexts.{direct-json_string}
use Rattle.up_manifest.proofs.cursor.Cursor.lower_digits.Goals as goal

pub returns-clause-value : goal.returns-clause-value
returns-clause-value c =
    let digits = c.in_ok-digits.digits.now in
    c.in_ok-pass.ensures ∙ ap (λ s. 34 ∷ s) (c.in_ok-digits.ensures.0 ∙ ap (λ s. digits ++ s) c.in_ok-pass-2.ensures)
    ∙ direct-json_string digits c.pass-2.new.self.rest.now (digits-direct digits c.in_ok-digits.ensures.1)
