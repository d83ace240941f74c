use Rattle.std.proofs.Common.{ap, sym, ◌∙◌, arith}
use Rattle.std.specs.List.{list_all}
use Rattle.std.proofs.lemmas.Grind.{common_steps}
use Rattle.std.proofs.lemmas.List.Folds.{list_all_more}
use Rattle.up_canon.specs.Canon.{text}
use Rattle.up_canon.proofs.Joined.{separator_more, joined_more, listed_text}
use Rattle.up_canon.proofs.Printable.{both}
use Rattle.up_columns.specs.PlanColumns.{assigned_data}
use Rattle.up_columns.specs.Typed.{is_typed_assigned}
use Rattle.up_columns.proofs.plans.push_assigned.Goals as goal

pub loop-image-preserved : goal.loop-image-preserved
loop-image-preserved c =
    let more = joined_more (λ x. text (assigned_data x)) c.args.assigned.now c.loop-image.image-index c.image-item.result (omega arith) in
    record {
      written = grind (arith, common_steps, more);
      typed = list_all_more is_typed_assigned c.args.assigned.now c.loop-image.image-index c.image-item.result (omega arith)
          ∙ both _ _ c.loop-image.invariant.typed (ap is_typed_assigned (sym c.image-item.is) ∙ c.in_ok-push_item.ensures.typed);
      separator = separator_more c.args.assigned.now c.loop-image.image-index c.image-item.result (omega arith);
    }

pub returns : goal.returns
returns c = let all = listed_text assigned_data c.args.assigned.now in grind (arith, common_steps, all)
