-- Laws of the field, the curve, its encoding and its signatures.
use Rattle.std.specs.Prelude.{◌≡◌, ◌≢◌, ℕ, ◌+◌, ◌*◌, ◌/◌, ◌-◌, ◌%◌, List, length, Some, IsTrue}
use Rattle.std.specs.List.{list_all}
use Rattle.up_curve.specs.Field.{p, pow_mod, inverse, sqrt_minus_one}
use Rattle.up_curve.specs.Curve.{d, Point, add, neutral, base}
use Rattle.up_curve.specs.Points.{IsPoint}
use Rattle.up_curve.specs.LittleEndian.{is_byte}
use Rattle.up_curve.specs.Encoding.{encode, decode}
use Rattle.up_curve.specs.Signatures.{public_of, signature_of, is_valid}

-- a number that isn't 0 modulo p times its inverse is 1
abbrev pub InversesInvert : Type 0
InversesInvert = (a : ℕ) → a % p ≢ 0 → (a * inverse a) % p ≡ 1

-- the literals are what RFC 8032, section 5.1, says of them: d is -121665 / 121666, B has y = 4 / 5 and an even x
pub record AreConstants : Type 0 where
  pub d_is : (d * 121666 + 121665) % p ≡ 0
  pub root_is : sqrt_minus_one ≡ pow_mod 256 p 2 ((p - 1) / 4)
  pub root_squared : (sqrt_minus_one * sqrt_minus_one) % p ≡ p - 1
  pub base_y : (5 * base.y) % p ≡ 4
  pub base_x : base.x % 2 ≡ 0
  pub base_point : IsPoint base

-- the point of which the sum with another is neutral: (-x, y)
abbrev pub negated : Point → Point
negated a = record { x = (p - a.x) % p; y = a.y }

-- the points of the curve are a commutative group
pub record ArePointsAGroup : Type 0 where
  pub closed : (a b : Point) → IsPoint a → IsPoint b → IsPoint (add a b)
  pub associative : (a b c : Point) → IsPoint a → IsPoint b → IsPoint c → add (add a b) c ≡ add a (add b c)
  pub commutative : (a b : Point) → add a b ≡ add b a
  pub neutral_is_point : IsPoint neutral
  pub adds_nothing : (a : Point) → IsPoint a → add neutral a ≡ a
  pub negated_is_point : (a : Point) → IsPoint a → IsPoint (negated a)
  pub cancels : (a : Point) → IsPoint a → add a (negated a) ≡ neutral

-- what is encoded is decoded again
abbrev pub EncodedIsDecoded : Type 0
EncodedIsDecoded = (a : Point) → IsPoint a → decode (encode a) ≡ Some a

-- what is decoded is a point, and its encoding is the bytes: no other bytes are decoded as it
pub record IsDecoded (bs : List ℕ) (a : Point) : Type 0 where
  pub point : IsPoint a
  pub encoded : encode a ≡ bs

abbrev pub DecodedIsEncoded : Type 0
DecodedIsEncoded = (bs : List ℕ) (a : Point) → IsTrue (list_all is_byte bs) → decode bs ≡ Some a → IsDecoded bs a

-- public keys are 32 bytes, signatures 64
pub record AreSized : Type 0 where
  pub public_length : (s : List ℕ) → length (public_of s) ≡ 32
  pub signature_length : (s m : List ℕ) → length (signature_of s m) ≡ 64
  pub signature_bytes : (s m : List ℕ) → IsTrue (list_all is_byte (signature_of s m))

-- each signature of a secret is valid under its public key
abbrev pub SignedIsValid : Type 0
SignedIsValid = (s m : List ℕ) → IsTrue (is_valid (public_of s) m (signature_of s m))
