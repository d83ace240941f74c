use Rattle.std.proofs.Common.{◌≡◌, ◌∷◌, ◌++◌, ◌∙◌, sym, ap}
use Rattle.std.specs.Prelude.{flat_map}
use Rattle.up_canon.specs.Canon.{escape_of, json_string, is_printable_text}
use Rattle.up_manifest.proofs.PlainTexts.{direct-more, direct-prints, escape_of-more, escape_of-ends, printable-more}
use Rattle.up_manifest.proofs.cursor.Cursor.escaped.Goals as goal

pub pieces-preserved : goal.pieces-preserved
pieces-preserved c =
    let before = c.pieces.text.bytes.items in
    let direct = c.in_ok-direct.direct.now in
    let special = c.in_ok-special.special.now in
    let rest = c.escape.new.self.rest.now in
    let all : c.push_str-in-pieces.new.self.bytes.items ≡ (before ++ direct) ++ special = c.in_ok-push_str-2.ensures.bytes ∙ ap (λ t. t ++ special) c.in_ok-push_str.ensures.bytes in (
      c.pieces.invariant.0
          ∙ ap (λ t. 34 ∷ (flat_map escape_of before ++ t)) (c.in_ok-direct.ensures.0 ∙ ap (λ t. direct ++ t) (sym c.if-takes.ensures ∙ c.in_ok-special.ensures.value))
          ∙ ap (λ t. 34 ∷ t) (direct-more before direct (flat_map escape_of special ++ rest) c.in_ok-direct.ensures.1 ∙ escape_of-more (before ++ direct) special rest)
          ∙ ap (λ t. 34 ∷ (flat_map escape_of t ++ rest)) (sym all),
      ap is_printable_text all
          ∙ printable-more (before ++ direct) special (printable-more before direct c.pieces.invariant.1 (direct-prints direct c.in_ok-direct.ensures.1)) c.in_ok-special.ensures.printable,
    )

pub returns-then-takes-clause-value : goal.returns-then-takes-clause-value
returns-then-takes-clause-value c =
    let before = c.pieces.text.bytes.items in
    let direct = c.in_ok-direct.direct.now in
    let rest = c.takes.new.self.rest.now in
    let all : c.push_str.new.self.bytes.items ≡ before ++ direct = c.in_ok-push_str.ensures.bytes in
    c.pieces.invariant.0
    ∙ ap (λ t. 34 ∷ (flat_map escape_of before ++ t)) (c.in_ok-direct.ensures.0 ∙ ap (λ t. direct ++ t) c.if-takes.ensures)
    ∙ ap (λ t. 34 ∷ t) (direct-more before direct (34 ∷ rest) c.in_ok-direct.ensures.1)
    ∙ escape_of-ends (before ++ direct) rest
    ∙ ap (λ t. json_string t ++ rest) (sym all)

pub returns-then-takes-clause-printable : goal.returns-then-takes-clause-printable
returns-then-takes-clause-printable c =
    let before = c.pieces.text.bytes.items in
    let direct = c.in_ok-direct.direct.now in
    let all : c.push_str.new.self.bytes.items ≡ before ++ direct = c.in_ok-push_str.ensures.bytes in
    ap is_printable_text all ∙ printable-more before direct c.pieces.invariant.1 (direct-prints direct c.in_ok-direct.ensures.1)
