use Rattle.std.proofs.Common.{◌++◌, [], map, sym, ap, ◌∙◌}
use Rattle.std.specs.Prelude.{option_map, unwrap_or}
use Rattle.std.proofs.lemmas.List.{append-nil}
use Rattle.std.proofs.lemmas.Option.{slice_get_past}
use Rattle.up_plan.proofs.running.push_at.Goals as goal

pub returns-in-None-clause-value : goal.returns-in-None-clause-value
returns-in-None-clause-value c =
    let none = slice_get_past c.args.campaigns.now c.args.place c.in-None.ensures.lookup.3 in
    sym (ap (λ o. map (λ i. i.now) c.args.items.now.items ++ unwrap_or (option_map (λ d. d.items) o) []) none ∙ append-nil _)
