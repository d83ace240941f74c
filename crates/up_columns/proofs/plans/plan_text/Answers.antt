use Rattle.std.proofs.Common.{map, ap, sym, ◌∙◌}
use Rattle.std.specs.List.{list_all}
use Rattle.std.specs.Prelude.{codes}
use Rattle.up_canon.proofs.Joined.{begun, pushed, pushed_as}
use Rattle.up_canon.proofs.Printable.{both}
use Rattle.up_canon.specs.Build.{list_with}
use Rattle.up_canon.specs.Canon.{text}
use Rattle.up_columns.specs.PlanColumns.{assigned_data, cause_data, plan_column}
use Rattle.up_columns.specs.Typed.{is_typed_assigned}
use Rattle.up_columns.proofs.plans.plan_text.Goals as goal

pub returns-clause-column : goal.returns-clause-column
unfolding plan_column
returns-clause-column c =
    let p = c.args.plan.now in
    begun _ _ _ c.in_ok-out.ensures.bytes (
    pushed _ _ _ (codes "{\"assigned\":") _ c.in_ok-push_str.ensures.bytes (
    pushed _ _ _ (text (list_with (map assigned_data p.assigned))) _ (pushed_as _ _ _ _ (ap (λ xs. text (list_with (map assigned_data xs))) c.as_slice-assigned.ensures) c.in_ok-push_assigned.ensures.value) (
    pushed _ _ _ (codes ",\"withheld\":") _ c.in_ok-push_str-2.ensures.bytes (
    pushed _ _ _ (text (cause_data p.withheld)) (codes "}") c.in_ok-push_withheld.ensures.value c.in_ok-push_str-3.ensures.bytes
    )
    )
    )
    )

pub returns-clause-typed : goal.returns-clause-typed
returns-clause-typed c = both _ _ (ap (list_all is_typed_assigned) (sym c.as_slice-assigned.ensures) ∙ c.in_ok-push_assigned.ensures.typed) c.in_ok-push_withheld.ensures.typed
