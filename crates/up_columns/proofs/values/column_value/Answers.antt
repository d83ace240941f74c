use Rattle.std.proofs.Common.{◌≡◌, true, length, ap, ◌∙◌, subst}
use Rattle.std.specs.Prelude.{IfSome}
use Rattle.serde_json.specs.View.{view}
use Rattle.up_canon.specs.Canon.{has_canon, text}
use Rattle.up_canon.specs.JsonText.{value_within}
use Rattle.up_columns.proofs.Texts.{text-there}
use Rattle.up_columns.proofs.values.column_value.Goals as goal

pub returns-in-Some-clause-value : goal.returns-in-Some-clause-value
returns-in-Some-clause-value c =
    let found = subst (λ o. IfSome o (λ v. (has_canon (view v) ≡ true) × (c.args.column.now ≡ text (view v)))) c.in-Some.is c.in_ok-value.ensures.value in
    ap (λ t. value_within (length t) t) found.1 ∙ text-there c.canonical_laws.ensures.read (view c.in-Some.value) found.0
