use Rattle.std.proofs.Common.{◌≡◌, [], ◌∷◌, ◌++◌, ◌∙◌, sym, ap, subst, arith}
use Rattle.std.specs.Prelude.{flat_map}
use Rattle.up_canon.specs.Canon.{escape_of}
use Rattle.up_script.proofs.Escapes.{front_itself, all_itself, escape-more, last-more}
use Rattle.up_script.proofs.plain_line.unescaped.Goals as goal

pub escapes-preserved : goal.escapes-preserved
escapes-preserved c =
    let before = c.escapes.bytes.items in
    let rest = c.escapes.rest.now in
    let place = c.in-Some.place in
    let direct = c.split_at.result.0.now in
    let special = c.in-Some-escape.special in
    let left = c.in-Some-escape.left.now in
    let within = c.in-Some.ensures.0.high in
    let itself = subst (λ t. flat_map escape_of t ≡ t) (sym c.split_at.ensures.front) (front_itself rest place (omega arith) c.in-Some.ensures.0.before) in
    let all : c.push.new.self.items ≡ (before ++ direct) ++ special ∷ [] =
    c.in_ok-push.ensures.items ∙ ap (λ t. t ++ special ∷ []) c.in_ok-extend_from_slice.ensures.items in
    c.escapes.invariant
    ∙ ap (λ t. flat_map escape_of before ++ t) (c.split_at.ensures.by_index.0 ∙ ap (λ t. direct ++ t) c.in-Some-escape.ensures.value)
    ∙ escape-more before direct (special ∷ []) left itself
    ∙ ap (λ t. flat_map escape_of t ++ left) (sym all)

pub returns : goal.returns
returns c =
    let before = c.escapes.bytes.items in
    let rest = c.escapes.rest.now in
    let all : c.extend_from_slice-2.new.self.items ≡ before ++ rest = c.in_ok-extend_from_slice-2.ensures.items in
    c.escapes.invariant ∙ last-more before rest (all_itself rest c.in_default.ensures) ∙ ap (λ t. flat_map escape_of t) (sym all)
