-- Ed25519's public keys and signatures (RFC 8032, sections 5.1.5 to 5.1.7).
use Rattle.std.specs.Prelude.{ℕ, ◌+◌, ◌*◌, ◌/◌, ◌^◌, ◌%◌, Bool, false, ◌&&◌, eqb, ltb, List, ◌++◌, length, take, drop, None, Some, Option}
use Rattle.sha2.specs.Sha512.{sha512}
use Rattle.up_curve.specs.Curve.{Point, add, multiple, base, order}
use Rattle.up_curve.specs.LittleEndian.{number, bytes}
use Rattle.up_curve.specs.Encoding.{encode, decode}

-- 256 bits pruned: the lowest three are cleared, the highest is cleared, and the one below it is set (section 5.1.5, step 2)
abbrev pub clamped : ℕ → ℕ
clamped n = 2 ^ 254 + 8 * (n / 8 % 2 ^ 251)

-- the secret scalar s of a secret of 32 bytes (section 5.1.5, step 3)
unfoldable pub scalar_of : List ℕ → ℕ
scalar_of s = clamped (number (take 32 (sha512 s)))

-- the public key A of a secret: the encoding of [s]B (section 5.1.5, step 4)
unfoldable pub public_of : List ℕ → List ℕ
public_of s = encode (multiple (scalar_of s) base)

-- r of a signature: the hash of the second half of the secret's hash, and the message (section 5.1.6, step 2)
unfoldable pub nonce_of : List ℕ → List ℕ → ℕ
nonce_of s m = number (sha512 (drop 32 (sha512 s) ++ m))

-- k of a signature: the hash of R, the public key and the message, modulo the order (section 5.1.6, step 4, and 5.1.7, step 2)
abbrev pub challenge_of : List ℕ → List ℕ → List ℕ → ℕ
challenge_of r p m = number (sha512 (r ++ p ++ m)) % order

-- R, and S = r + k s modulo the order (section 5.1.6, steps 5 and 6)
abbrev pub signature_with : List ℕ → List ℕ → List ℕ → List ℕ
signature_with r s m = r ++ bytes 32 ((nonce_of s m + challenge_of r (public_of s) m * scalar_of s) % order)

-- the signature of a message by a secret, where R is the encoding of [r]B (section 5.1.6, step 3)
unfoldable pub signature_of : List ℕ → List ℕ → List ℕ
signature_of s m = signature_with (encode (multiple (nonce_of s m) base)) s m

abbrev pub is_same_point : Point → Point → Bool
is_same_point a b = eqb a.x b.x && eqb a.y b.y

-- [S]B = R + [k]A, where neither decoding failed (section 5.1.7, step 3, without the factor 8)
abbrev pub equation_holds : ℕ → ℕ → Option Point → Option Point → Bool
equation_holds s k None r = false
equation_holds s k (Some a) None = false
equation_holds s k (Some a) (Some r) = is_same_point (multiple s base) (add r (multiple k a))

-- whether R and S are a signature of m under the public key p: S is below the order, and the equation holds (section 5.1.7)
abbrev pub is_valid_of : List ℕ → List ℕ → List ℕ → List ℕ → Bool
is_valid_of p m r s = ltb (number s) order && equation_holds (number s) (challenge_of r p m) (decode p) (decode r)

-- whether 64 bytes are a signature of m under the public key p (section 5.1.7, step 1)
unfoldable pub is_valid : List ℕ → List ℕ → List ℕ → Bool
is_valid p m g = eqb (length g) 64 && is_valid_of p m (take 32 g) (drop 32 g)
