use Rattle.std.proofs.Common.{◌≡◌, ℕ, ◌-◌, ◌++◌, List, length, take, if◌then◌else◌, replicate, nat_lt, sym, ap, ◌∙◌}
use Rattle.std.proofs.Math.Seq.{take-append_seam}
use Rattle.sha2.specs.Sha256.{sha256}
use Rattle.up_sign.specs.Hmac.{block_key}
use Rattle.up_curve.proofs.Signatures.{public_of, sized}
use Rattle.up_ed25519.proofs.scheme.Ed25519Scheme.sign_by.Goals as goal

-- a key of 32 bytes is at the front of its block
front : (p : List ℕ) → length p ≡ 32 → take 32 (block_key p) ≡ p
unfolding block_key
front p l =
    ap (λ t. take 32 (if t then sha256 p ++ replicate 32 0 else p ++ replicate (64 - length p) 0)) (ap (nat_lt 64) l)
    ∙ ap (λ n. take n (p ++ replicate (64 - length p) 0)) (sym l)
    ∙ take-append_seam p (replicate (64 - length p) 0)

pub sign_with-requires : goal.sign_with-requires
sign_with-requires c =
    ap (take 32) (c.block_under.ensures ∙ c.requires) ∙ front (public_of c.args.secret.now) (sized.public_length c.args.secret.now)
