use Rattle.std.proofs.Common.{◌≤◌, ◌++◌, sym, ap, ◌∙◌, subst, arith}
use Rattle.std.specs.Prelude.{codes}
use Rattle.serde_json.specs.Data.{depth}
use Rattle.up_canon.specs.Canon.{is_plain, text}
use Rattle.up_columns.proofs.PlainItems.{name-plain, name-text}
use Rattle.up_columns.proofs.values.plain_name.Goals as goal

pub returns-in_ok-try_from_str-in-Some : goal.returns-in_ok-try_from_str-in-Some
returns-in_ok-try_from_str-in-Some c =
    let name = c.in-Some.name.now in
    let behind = c.in-Some.behind.now in
    let is = c.in_ok-try_from_str-in-Some.ensures in (
      ap is_plain is ∙ (name-plain name c.in-Some.ensures.1).plain,
      subst (λ d. depth d ≤ 1) (sym is) (omega arith),
      ap (λ t. codes "\"" ++ t) c.in-Some.ensures.0 ∙ name-text name behind c.in-Some.ensures.1 ∙ sym (ap (λ d. text d ++ behind) is),
    )
