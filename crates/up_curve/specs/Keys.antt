-- Which bytes are a public key that only its secret signs for.
use Rattle.std.specs.Prelude.{ℕ, Bool, false, not, ◌&&◌, List, None, Some, Option, IsTrue}
use Rattle.up_curve.specs.Curve.{Point, neutral, multiple, order}
use Rattle.up_curve.specs.Encoding.{decode}
use Rattle.up_curve.specs.Signatures.{public_of, is_same_point}

-- a point that isn't neutral, in the subgroup of the base point's order
abbrev pub is_in_subgroup : Option Point → Bool
is_in_subgroup None = false
is_in_subgroup (Some a) = not (is_same_point a neutral) && is_same_point (multiple order a) neutral

-- whether bytes are a public key: they write such a point (RFC 8032, section 5.1.3)
unfoldable pub is_public : List ℕ → Bool
is_public p = is_in_subgroup (decode p)

-- the public key of each secret is one: a point that isn't neutral, in the subgroup of the base point's order
abbrev pub PublicsArePublic : Type 0
PublicsArePublic = (s : List ℕ) → IsTrue (is_public (public_of s))
