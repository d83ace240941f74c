use Rattle.std.proofs.Common.{rules, of_calls, ◌≡◌, ◌-◌, true, false, length, take, drop, bytes_eq, sym, subst, ap, ◌∙◌, arith}
use Rattle.std.specs.Prelude.{filter}
use Rattle.std.specs.List.Sorted.{IsPartitionedBy, IsPartitionPoint}
use Rattle.std.specs.Ordering.{is_lt, nat_cmp}
use Rattle.std.specs.Cmp.Lexicographic.{slice_cmp}
use Rattle.std.proofs.lemmas.Fn.{always_returns_same}
use Rattle.std.proofs.lemmas.List.{length-drop, take_all}
use Rattle.up_plan.specs.Running.{name_at}
use Rattle.up_plan.proofs.Ranges.{below_first, equal_first, range_is}
use Rattle.up_plan.proofs.running.names_like.Goals as goal

pub returns : goal.returns
returns c =
    let cs = c.args.campaigns.now in
    let names = c.args.names.now in
    let q = c.text-text.result.now in
    let first = c.partition_point-first.result in
    let count = c.partition_point-count.result in
    let within = c.partition_point-first.ensures.bound in
    let point = c.partition_point-first.ensures.partitioned (λ at. is_lt (slice_cmp nat_cmp (name_at cs at) q)) (always_returns_same _ _ _ (λ a r f called. search (rules, of_calls))) (below_first (name_at cs) q names c.requires) in
    let rest : take (length names - first) (drop first names) ≡ drop first names = take_all (length names - first) (drop first names) (omega (arith, length-drop first names)) in
    let end =
    c.partition_point-count.ensures.partitioned (λ at. bytes_eq q (name_at cs at)) (always_returns_same _ _ _ (λ a r f called. search (rules, of_calls)))
    (subst (IsPartitionedBy (λ at. bytes_eq q (name_at cs at))) (sym rest) (equal_first (name_at cs) q names c.requires first within point)) in
    ap (take count) rest
    ∙ range_is (name_at cs) q names c.requires first within point count
    (subst (λ l. IsPartitionPoint (λ at. bytes_eq q (name_at cs at) ≡ true) (λ at. bytes_eq q (name_at cs at) ≡ false) l count) rest end)
    ∙ ap (λ t. filter (λ at. bytes_eq t (name_at cs at)) names) c.text-text.ensures.value
