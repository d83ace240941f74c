use Rattle.std.proofs.Common.{◌≡◌, ◌%◌, ◌++◌, [], ap, ◌∙◌}
use Rattle.sha2.specs.Sha512.{sha512}
use Rattle.up_curve.specs.Curve.{order}
use Rattle.up_curve.proofs.Decode.{number}
use Rattle.up_ed25519.proofs.verification.challenge.Goals as goal

pub returns : goal.returns
returns c =
    let d : c.finalize-digest.result ≡ sha512 (c.args.r.now ++ c.args.public.now ++ c.args.message.now) =
    c.finalize-digest.ensures _ (c.update-3.ensures _ (c.update-2.ensures _ (c.update.ensures [] c.new-hasher.ensures))) in
    c.reduced.ensures ∙ ap (λ z. number z % order) d
