use Rattle.std.proofs.Common.{◌∷◌, ◌++◌, ◌∙◌, ap}
use Rattle.up_manifest.proofs.PlainTexts.{direct-json_string, direct-prints}
use Rattle.up_manifest.proofs.cursor.Cursor.quoted.Goals as goal

pub returns-clause-value : goal.returns-clause-value
returns-clause-value c =
    let text = c.in_ok-text.text.now in
    c.in_ok-pass.ensures ∙ ap (λ s. 34 ∷ s) (c.in_ok-text.ensures.0 ∙ ap (λ s. text ++ s) c.in_ok-pass-2.ensures)
    ∙ direct-json_string text c.pass-2.new.self.rest.now c.in_ok-text.ensures.1

pub returns-clause-printable : goal.returns-clause-printable
returns-clause-printable c = direct-prints c.in_ok-text.text.now c.in_ok-text.ensures.1
