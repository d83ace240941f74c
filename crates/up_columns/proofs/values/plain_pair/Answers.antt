use Rattle.std.proofs.Common.{◌≤◌, ◌++◌, sym, ap, ◌∙◌, subst}
use Rattle.std.specs.Prelude.{codes}
use Rattle.serde_json.specs.Data.{depth}
use Rattle.up_canon.specs.Canon.{is_plain, text}
use Rattle.up_columns.proofs.PlainItems.{pair-plain, pair-text}
use Rattle.up_columns.proofs.values.plain_pair.Goals as goal

pub returns : goal.returns
returns c =
    let file = c.in-Some.file.now in
    let hardware = c.in-Some-name_before.hardware.now in
    let behind = c.in-Some-name_before.behind.now in
    let is = c.in_ok-pair_value.ensures in
    let plain = pair-plain file hardware c.in-Some.ensures.1 c.in-Some-name_before.ensures.1 in (
      ap is_plain is ∙ plain.plain,
      subst (λ d. depth d ≤ 1) (sym is) plain.shallow,
      ap (λ t. codes "{\"file\":\"" ++ t) (c.in-Some.ensures.0 ∙ ap (λ m. file ++ (codes "\",\"hardware\":\"" ++ m)) c.in-Some-name_before.ensures.0)
          ∙ pair-text file hardware behind c.in-Some.ensures.1 c.in-Some-name_before.ensures.1
          ∙ sym (ap (λ d. text d ++ behind) is),
    )
