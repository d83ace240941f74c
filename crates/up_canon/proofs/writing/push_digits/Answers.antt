use Rattle.std.proofs.Common.{◌≡◌, ◌++◌, ◌∙◌, length, append_assoc, sym, ap, arith}
use Rattle.std.proofs.lemmas.Grind.{common_steps}
use Rattle.hex.specs.Hex.{encode_lower}
use Rattle.up_canon.proofs.Written.{hex-append, hex-ends}
use Rattle.up_canon.proofs.writing.push_digits.Goals as goal

pub pieces-preserved : goal.pieces-preserved
pieces-preserved c =
    let before = c.pieces.out.bytes.items in
    let few = c.split_at.result.0.now in
    let behind = c.split_at.result.1.now in
    ap (λ t. t ++ encode_lower behind) c.in_ok-push_few_digits.ensures ∙ append_assoc before (encode_lower few) (encode_lower behind)
    ∙ ap (λ t. before ++ t) (sym (hex-append few behind) ∙ ap encode_lower (sym c.split_at.ensures.by_index.0)) ∙ c.pieces.invariant

pub returns : goal.returns
returns c =
    let none : length c.pieces.rest.now ≡ 0 = grind (arith, common_steps, c.is_empty.ensures, c.pieces-test.false) in
    sym (hex-ends c.pieces.out.bytes.items c.pieces.rest.now none) ∙ c.pieces.invariant
