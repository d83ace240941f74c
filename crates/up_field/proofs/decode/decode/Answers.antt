use Rattle.std.proofs.Common.{◌≡◌, ℕ, ◌/◌, ◌^◌, ◌%◌, sym, ◌∙◌, ap, ap₂, subst, true, ltb, eq-eqb, List, length, Option}
use Rattle.up_curve.specs.Field.{p}
use Rattle.up_field.specs.Points.{number}
use Rattle.up_field.specs.Decoded.{IsMaybe}
use Rattle.up_field.proofs.Steps.{point_none, point_some, decode_is}
use Rattle.up_field.specs.declared.points.Extended.{Extended}
use Rattle.up_curve.proofs.Decode.{u_of, v_of}
use Rattle.up_field.proofs.Steps.{number as little, with_root, root_of, candidate, decode}
use Rattle.up_field.proofs.decode.decode.Goals as goal

-- the number's parts are what the code has
whole : (bs : List ℕ) (n y s : ℕ) (q : Option Extended) → length bs ≡ 32 → n ≡ little bs → y ≡ n % 2 ^ 255 → s ≡ n / 2 ^ 255 → ltb y p ≡ true
    → IsMaybe q (with_root s y (root_of (u_of y) (v_of y) (candidate (u_of y) (v_of y)))) → IsMaybe q (decode bs)
whole bs n y s q l hn hy hs t k =
    let ey : y ≡ little bs % 2 ^ 255 = hy ∙ ap (λ z. z % 2 ^ 255) hn in
    let es : s ≡ little bs / 2 ^ 255 = hs ∙ ap (λ z. z / 2 ^ 255) hn in
    subst (IsMaybe q)
    (ap₂ (λ y s. with_root s y (root_of (u_of y) (v_of y) (candidate (u_of y) (v_of y)))) ey es
    ∙ sym (point_some (little bs) (ap (λ z. ltb z p) (sym ey) ∙ t)) ∙ sym (decode_is bs (eq-eqb (length bs) 32 l)))
    k

pub returns-then-is_reduced : goal.returns-then-is_reduced
returns-then-is_reduced c =
    whole c.args.bytes.now (number c.in_words-n.result) (number c.split-sign.result.0) c.split-sign.result.1 c.with_sign.result c.requires
    (c.in_words-n.ensures ∙ c.from_bytes.ensures.value) c.split-sign.ensures.value c.split-sign.ensures.bit (sym c.is_reduced.ensures ∙ c.if-is_reduced.true) c.with_sign.ensures

pub returns-else-is_reduced : goal.returns-else-is_reduced
returns-else-is_reduced c =
    decode_is c.args.bytes.now (eq-eqb (length c.args.bytes.now) 32 c.requires)
    ∙ point_none (little c.args.bytes.now) (ap (λ z. ltb z p) (sym (c.split-sign.ensures.value ∙ ap (λ z. z % 2 ^ 255) (c.in_words-n.ensures ∙ c.from_bytes.ensures.value))) ∙ sym c.is_reduced.ensures ∙ c.if-is_reduced.false)
