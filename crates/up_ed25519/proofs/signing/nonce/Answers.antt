use Rattle.std.proofs.Common.{◌≡◌, ℕ, ◌-◌, ◌%◌, ◌++◌, List, [], length, take, drop, sym, ap, ◌∙◌}
use Rattle.std.proofs.Math.Seq.{take-length}
use Rattle.std.proofs.lemmas.List.{length-drop}
use Rattle.sha2.specs.Sha512.{sha512}
use Rattle.up_curve.specs.Curve.{order}
use Rattle.up_curve.proofs.Decode.{number}
use Rattle.up_ed25519.proofs.signing.nonce.Goals as goal

all_of_rest : (n : ℕ) (xs : List ℕ) → take (length xs - n) (drop n xs) ≡ drop n xs
all_of_rest n xs = ap (λ z. take z (drop n xs)) (sym (length-drop n xs)) ∙ take-length (drop n xs)

pub returns : goal.returns
returns c =
    let d = c.finalize-digest.ensures _ (c.update-2.ensures _ (c.update.ensures [] c.new-hasher.ensures)) in
    c.reduced.ensures ∙ ap (λ z. number z % order) d
    ∙ ap (λ z. number (sha512 (z ++ c.args.message.now)) % order) (ap (λ z. take (z - 32) (drop 32 c.args.hash.now)) (sym c.told-hash) ∙ all_of_rest 32 c.args.hash.now)
