use Rattle.std.proofs.Common.{◌||◌, ◌==◌, ap, sym, ◌∙◌}
use Rattle.std.specs.Prelude.{not}
use Rattle.std.specs.List.{list_all}
use Rattle.up_canon.proofs.Written.{all_straight}
use Rattle.up_canon.proofs.writing.push_quoted.Goals as goal

pub push_straight-requires : goal.push_straight-requires
push_straight-requires c =
    all_straight c.args.text.now (ap (list_all (λ x. not ((x == 34) || (x == 92)))) (sym c.as_bytes.ensures.value) ∙ sym c.is_straight.ensures ∙ c.if-is_straight.true)
