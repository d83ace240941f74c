use Rattle.std.proofs.Common.{ap, sym, ◌∙◌, arith}
use Rattle.std.specs.List.{list_all}
use Rattle.std.proofs.lemmas.Grind.{common_steps}
use Rattle.std.proofs.lemmas.List.Folds.{list_all_more}
use Rattle.up_canon.specs.Canon.{text}
use Rattle.serde_json.specs.Data.{string}
use Rattle.up_canon.specs.Names.{is_ident}
use Rattle.up_canon.proofs.Joined.{separator_more, joined_more, listed_text}
use Rattle.up_canon.proofs.Printable.{both}
use Rattle.up_roles.proofs.targets_text.push_names.Goals as goal

pub loop-name-preserved : goal.loop-name-preserved
loop-name-preserved c =
    let more = joined_more (λ x. text (string x)) c.args.names.now c.loop-name.name-index c.name-item.result (omega arith) in
    record {
      written = grind (arith, common_steps, more);
      typed = list_all_more is_ident c.args.names.now c.loop-name.name-index c.name-item.result (omega arith)
          ∙ both _ _ c.loop-name.invariant.typed (ap is_ident (sym c.name-item.is) ∙ c.in_ok-push_name.ensures.typed);
      separator = separator_more c.args.names.now c.loop-name.name-index c.name-item.result (omega arith);
    }

pub returns : goal.returns
returns c = let all = listed_text string c.args.names.now in grind (arith, common_steps, all)
