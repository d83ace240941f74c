use Rattle.std.proofs.Common.{◌≡◌, ℕ, ◌-◌, ◌&&◌, eq-eqb, ne_eqb, List, length, take, drop, sym, ap, ◌∙◌, arith}
use Rattle.std.proofs.lemmas.List.{length-take-le, length-drop}
use Rattle.std.proofs.Math.Seq.{take-length}
use Rattle.up_curve.proofs.Signatures.{is_valid, is_valid_of}
use Rattle.up_ed25519.proofs.ready_key.ReadyKey.verify.Goals as goal

pub returns-then-signature-ne64 : goal.returns-then-signature-ne64
unfolding is_valid
returns-then-signature-ne64 c =
    sym (ap (λ t. t && is_valid_of c.args.self.now c.args.message.now (take 32 c.args.signature.now) (drop 32 c.args.signature.now))
    (ne_eqb (length c.args.signature.now) 64 c.if-signature-ne64.true))

pub slice_bounds-r-end : goal.slice_bounds-r-end
slice_bounds-r-end c = sym (length-take-le 32 c.args.signature.now (omega arith))

pub halves-requires-clause-first : goal.halves-requires-clause-first
halves-requires-clause-first c = length-take-le 32 c.args.signature.now (omega arith)

all_of_rest : (n : ℕ) (xs : List ℕ) → take (length xs - n) (drop n xs) ≡ drop n xs
all_of_rest n xs = ap (λ z. take z (drop n xs)) (sym (length-drop n xs)) ∙ take-length (drop n xs)

pub returns : goal.returns
unfolding is_valid
returns c =
    c.halves.ensures
    ∙ ap (is_valid_of c.args.self.now c.args.message.now (take 32 c.args.signature.now)) (all_of_rest 32 c.args.signature.now)
    ∙ sym (ap (λ t. t && is_valid_of c.args.self.now c.args.message.now (take 32 c.args.signature.now) (drop 32 c.args.signature.now))
    (eq-eqb (length c.args.signature.now) 64 c.if-signature-ne64.false))
