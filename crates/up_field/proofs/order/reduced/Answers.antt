use Rattle.std.proofs.Common.{◌≡◌, ℕ, ◌+◌, ◌*◌, ◌-◌, ◌^◌, ◌%◌, List, length, take, drop, ap, ap₂, sym, ◌∙◌, arith}
use Rattle.std.proofs.Math.Seq.{take-length}
use Rattle.std.proofs.lemmas.List.{length-drop}
use Rattle.up_curve.proofs.Decode.{number, number-bytes}
use Rattle.up_curve.specs.Curve.{order}
use Rattle.up_field.specs.Limbs.{limbs}
use Rattle.up_field.proofs.Digits.{number-halves}
use Rattle.up_field.proofs.order.reduced.Goals as goal

all_of_rest : (n : ℕ) (xs : List ℕ) → take (length xs - n) (drop n xs) ≡ drop n xs
all_of_rest n xs = ap (λ z. take z (drop n xs)) (sym (length-drop n xs)) ∙ take-length (drop n xs)

pub returns : goal.returns
returns c =
    let bs : List ℕ = c.args.bytes.now in
    let l : ℕ = limbs c.from_bytes-low.result.l0 c.from_bytes-low.result.l1 c.from_bytes-low.result.l2 c.from_bytes-low.result.l3 c.from_bytes-low.result.l4 in
    let h : ℕ = limbs c.from_bytes-high.result.l0 c.from_bytes-high.result.l1 c.from_bytes-high.result.l2 c.from_bytes-high.result.l3 c.from_bytes-high.result.l4 in
    let high : h ≡ number (drop 32 bs) = c.from_bytes-high.ensures.value ∙ ap number (ap (λ z. take (z - 32) (drop 32 bs)) (sym c.told-bytes) ∙ all_of_rest 32 bs) in
    let e : l + 2 ^ 256 * h ≡ number bs = ap₂ (λ (x y : ℕ). x + 2 ^ 256 * y) c.from_bytes-low.ensures.value high ∙ sym (number-halves 32 bs (omega (arith, c.told-bytes))) in
    ap number c.to_bytes.ensures
    ∙ number-bytes 32 (limbs c.reduce.result.l0 c.reduce.result.l1 c.reduce.result.l2 c.reduce.result.l3 c.reduce.result.l4) (omega (arith, c.reduce.ensures.limit.l4))
    ∙ c.reduce.ensures.value
    ∙ ap (λ z. z % order) (c.joined-digits.ensures.value ∙ e)
