use Rattle.std.proofs.Common.{rules, of_calls, sym, ◌∙◌}
use Rattle.std.specs.Ordering.{is_lt, nat_cmp}
use Rattle.std.specs.Cmp.Lexicographic.{slice_cmp}
use Rattle.std.proofs.lemmas.Cmp.{nat_list_cmp_total}
use Rattle.std.proofs.lemmas.Fn.{always_returns_same}
use Rattle.std.proofs.lemmas.List.Sorted.{list_any-IsPermutation, ranks_by}
use Rattle.up_plan.specs.Running.{AreInOrder, AreNamed, name_at, passes_named}
use Rattle.up_plan.proofs.running.names_in_order.Goals as goal

pub returns-clause-value : goal.returns-clause-value
returns-clause-value c =
    let cs = c.args.campaigns.now in
    let old = c.in_ok-names.names.items in
    let new = c.sort_unstable_by.new.self.items in
    let named : AreNamed cs new = λ vehicle test. sym (list_any-IsPermutation (passes_named cs vehicle test) old new c.sort_unstable_by.ensures.permutation) ∙ c.in_ok-names.ensures.value vehicle test in
    let order : AreInOrder cs new =
    c.sort_unstable_by.ensures.sorted (λ a b. is_lt (slice_cmp nat_cmp (name_at cs a) (name_at cs b))) (ranks_by nat_list_cmp_total (name_at cs)) (always_returns_same _ _ _ (λ a r f called. search (rules, of_calls))) in
    (named, order)
