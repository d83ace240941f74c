use Rattle.std.proofs.Common.{rules, ◌≡◌, ◌+◌, ◌++◌, [], ◌∷◌, true, false, take, vec_len, sym, ap, ◌∙◌}
use Rattle.std.specs.Prelude.{count_by}
use Rattle.std.specs.List.{list_any}
use Rattle.std.proofs.lemmas.List.Sums.{count_by_more_no, count_by_more_yes}
use Rattle.up_plan.specs.Running.{passes_at, reaches_all}
use Rattle.up_plan.proofs.Reaching.{place_less, place_more}
use Rattle.up_plan.proofs.running.places_for_all.Goals as goal
use Rattle.up_plan.proofs.running.places_for_all.Goals.{then-reaches_all, else-reaches_all}

pub loop-place-preserved : goal.loop-place-preserved
loop-place-preserved c =
    let cs = c.args.campaigns.now in
    let i = c.loop-place.place in
    let d = c.index-campaigns-place.result in
    let within = c.loop-place-test.true in
    let at = c.index-campaigns-place.is in
    let kept = c.loop-place.invariant in
    elim c.if-reaches_all.branch [
      | then-reaches_all w ↦
          let all : reaches_all d ≡ true = sym c.reaches_all.ensures ∙ w.if-reaches_all.true in
          let pushed : w.push.new.self.items ≡ c.loop-place.places.items ++ i ∷ [] = search rules in
          let longer : vec_len w.push.new.self ≡ vec_len c.loop-place.places + 1 = search rules in
          let more : count_by reaches_all (take (i + 1) cs) ≡ count_by reaches_all (take i cs) + 1 = count_by_more_yes reaches_all cs i d within (ap reaches_all (sym at) ∙ all) in
          record {
            found = λ test.
                ap (λ v. list_any (passes_at cs test) v.items) w.places-is
                ∙ ap (list_any (passes_at cs test)) pushed
                ∙ place_more cs i d within at c.loop-place.places.items all kept.found test;
            len = ap vec_len w.places-is ∙ longer ∙ ap (λ n. n + 1) kept.len ∙ sym more;
            room = search rules;
          }
      | else-reaches_all w ↦
          let none : reaches_all d ≡ false = sym c.reaches_all.ensures ∙ w.if-reaches_all.false in
          let same : count_by reaches_all (take (i + 1) cs) ≡ count_by reaches_all (take i cs) = count_by_more_no reaches_all cs i d within (ap reaches_all (sym at) ∙ none) in
          record {
            found = λ test.
                ap (λ v. list_any (passes_at cs test) v.items) w.places-is
                ∙ place_less cs i d within at c.loop-place.places.items none kept.found test;
            len = ap vec_len w.places-is ∙ kept.len ∙ sym same;
            room = search rules;
          }
    ]
