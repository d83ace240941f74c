use Rattle.std.proofs.Common.{rules, ◌≡◌, ◌+◌, ◌++◌, [], ◌∷◌, ap, ◌∙◌, arith, vec_len}
use Rattle.std.specs.List.{list_any}
use Rattle.up_plan.specs.Running.{passes_named}
use Rattle.up_plan.proofs.Reaching.{name_more}
use Rattle.up_plan.proofs.running.push_names.Goals as goal

pub loop-name-preserved : goal.loop-name-preserved
loop-name-preserved c =
    let kept = c.loop-name.invariant in
    let pushed : c.push.new.self.items ≡ c.loop-name.names.items ++ record { campaign = c.args.place; name = c.loop-name.name } ∷ [] = search rules in
    let longer : vec_len c.push.new.self ≡ vec_len c.loop-name.names + 1 = search rules in
    record {
      found = λ campaigns vehicle test there.
          ap (list_any (passes_named campaigns vehicle test)) pushed
          ∙ name_more campaigns c.args.campaign.now c.args.place there c.loop-name.name (omega arith) c.loop-name.names.items c.args.names.now.items vehicle test
          (kept.found campaigns vehicle test there);
      end = kept.end;
      len = omega arith;
      room = omega arith;
      capacity = omega arith;
    }
