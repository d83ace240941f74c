use Rattle.std.proofs.Common.{◌≡◌, ℕ, ◌-◌, List, length, take, drop, sym, ap, ◌∙◌, arith}
use Rattle.std.proofs.lemmas.List.{length-take-le, length-drop}
use Rattle.std.proofs.Math.Seq.{take-length}
use Rattle.up_curve.proofs.Signatures.{is_valid_of}
use Rattle.up_ed25519.proofs.verification.sized.Goals as goal

pub slice_bounds-r-end : goal.slice_bounds-r-end
slice_bounds-r-end c = sym (length-take-le 32 c.args.signature.now (omega arith))

pub halves-requires-clause-first : goal.halves-requires-clause-first
halves-requires-clause-first c = length-take-le 32 c.args.signature.now (omega arith)

all_of_rest : (n : ℕ) (xs : List ℕ) → take (length xs - n) (drop n xs) ≡ drop n xs
all_of_rest n xs = ap (λ z. take z (drop n xs)) (sym (length-drop n xs)) ∙ take-length (drop n xs)

pub returns : goal.returns
returns c =
    c.halves.ensures
    ∙ ap (is_valid_of c.args.public.now c.args.message.now (take 32 c.args.signature.now)) (all_of_rest 32 c.args.signature.now)
