use Rattle.std.proofs.Common.{ℕ, List, sym, ap, ◌∙◌}
use Rattle.std.proofs.Math.Seq.{take-length}
use Rattle.std.proofs.lemmas.Fn.{always_returns_same}
use Rattle.std.specs.Ordering.{nat_cmp, is_lt}
use Rattle.std.specs.Cmp.Lexicographic.{slice_cmp}
use Rattle.up_canon.proofs.Searches.{searched, behind}
use Rattle.up_canon.proofs.table.place_for.Goals as goal

pub returns-then-lt : goal.returns-then-lt
returns-then-lt c =
    behind c.args.name.now c.args.names.now c.in-Some.last.now c.requires (sym c.in-Some.ensures.value)
    (ap (λ (t : List ℕ). is_lt (slice_cmp nat_cmp t c.args.name.now)) (sym c.as_str.ensures) ∙ sym c.lt.ensures ∙ c.if-lt.true)

pub returns : goal.returns
returns c =
    let facts = c.binary_search_by.ensures in
    searched c.args.name.now c.args.names.now c.binary_search_by.result c.requires facts.bound
    (facts.position (λ y. slice_cmp nat_cmp y c.args.name.now) (always_returns_same _ _ _ (λ a r f called. (called.met.1 ∙ ap (slice_cmp nat_cmp a.0.now) (take-length c.args.name.now), λ j. record { 0 = called.met.0 j }))))
