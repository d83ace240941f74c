use Rattle.std.proofs.Common.{ap, sym, ◌∙◌, arith}
use Rattle.std.specs.List.{list_all}
use Rattle.std.proofs.lemmas.Grind.{common_steps}
use Rattle.std.proofs.lemmas.List.Folds.{list_all_more}
use Rattle.up_canon.specs.Canon.{text}
use Rattle.up_roles.specs.Targets.{target_value, target_is_typed}
use Rattle.up_canon.proofs.Joined.{separator_more, joined_more, listed_text}
use Rattle.up_canon.proofs.Printable.{both}
use Rattle.up_roles.proofs.targets_text.push_targets.Goals as goal

pub loop-target-preserved : goal.loop-target-preserved
loop-target-preserved c =
    let more = joined_more (λ x. text (target_value x)) c.args.targets.now c.loop-target.target-index c.target-item.result (omega arith) in
    record {
      written = grind (arith, common_steps, more);
      typed = list_all_more target_is_typed c.args.targets.now c.loop-target.target-index c.target-item.result (omega arith)
          ∙ both _ _ c.loop-target.invariant.typed (ap target_is_typed (sym c.target-item.is) ∙ c.in_ok-push_target.ensures.typed);
      separator = separator_more c.args.targets.now c.loop-target.target-index c.target-item.result (omega arith);
    }

pub returns : goal.returns
returns c = let all = listed_text target_value c.args.targets.now in grind (arith, common_steps, all)
