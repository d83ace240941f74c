-- Public keys and signatures have their sizes, and what is signed is valid.
use Rattle.up_curve.specs.LittleEndian.{is_byte}
use Rattle.up_curve.specs.Laws.{AreSized}
pub use Rattle.up_curve.specs.Signatures.{clamped, challenge_of, signature_with, is_same_point, equation_holds, is_valid_of}
unfoldable pub use Rattle.up_curve.specs.Signatures.{scalar_of, public_of, nonce_of, signature_of, is_valid}
use Rattle.std.proofs.Common.{◌≡◌, ℕ, zero, suc, ◌+◌, ◌*◌, ◌/◌, ◌^◌, ◌%◌, ◌<◌, refl, sym, ◌∙◌, ap, ap₂, arith, mod-lt, lit<, true, ◌&&◌, ltb, eq-eqb, lt-ltb, List, ◌++◌, length, take, drop, length-append}
use Rattle.std.proofs.Math.Seq.{take-append_seam, drop-append_seam}
use Rattle.std.proofs.lemmas.List.Folds.{list_all-append}
use Rattle.std.specs.List.{list_all}
use Rattle.up_curve.proofs.Curve.{Point, add, multiple, base, order, multiple_point, base_point, signature_holds}
use Rattle.up_curve.proofs.Decode.{number, bytes, length-bytes, number-bytes, encode, decode, decode-encode}

length-encode : (a : Point) → length (encode a) ≡ 32
unfolding encode
length-encode a = length-bytes 32 (a.y + 2 ^ 255 * (a.x % 2))

length-signature : (s m : List ℕ) → length (signature_of s m) ≡ 64
unfolding signature_of
length-signature s m =
    length-append (encode (multiple (nonce_of s m) base)) (bytes 32 ((nonce_of s m + challenge_of (encode (multiple (nonce_of s m) base)) (public_of s) m * scalar_of s) % order))
    ∙ ap₂ (λ a b. a + b) (length-encode (multiple (nonce_of s m) base)) (length-bytes 32 ((nonce_of s m + challenge_of (encode (multiple (nonce_of s m) base)) (public_of s) m * scalar_of s) % order))

are_bytes : (k n : ℕ) → list_all is_byte (bytes k n) ≡ true
unfolding bytes
are_bytes zero n = refl
are_bytes (suc k) n = ap₂ (λ a b. a && b) (lt-ltb (n % 256) 256 (mod-lt n {m = 256} (lit< tt))) (are_bytes k (n / 256))

are_bytes-encode : (a : Point) → list_all is_byte (encode a) ≡ true
unfolding encode
are_bytes-encode a = are_bytes 32 (a.y + 2 ^ 255 * (a.x % 2))

are_bytes-signature : (s m : List ℕ) → list_all is_byte (signature_of s m) ≡ true
unfolding signature_of
are_bytes-signature s m =
    list_all-append is_byte (encode (multiple (nonce_of s m) base)) (bytes 32 ((nonce_of s m + challenge_of (encode (multiple (nonce_of s m) base)) (public_of s) m * scalar_of s) % order))
    ∙ ap₂ (λ a b. a && b) (are_bytes-encode (multiple (nonce_of s m) base)) (are_bytes 32 ((nonce_of s m + challenge_of (encode (multiple (nonce_of s m) base)) (public_of s) m * scalar_of s) % order))

same_is : (a b : Point) → a ≡ b → is_same_point a b ≡ true
same_is a b e = ap₂ (λ m n. m && n) (eq-eqb a.x b.x (ap (λ (q : Point). q.x) e)) (eq-eqb a.y b.y (ap (λ (q : Point). q.y) e))

-- the equation of what is signed, with the challenge as it is
honest : (r k a : ℕ) → equation_holds ((r + k * a) % order) k (decode (encode (multiple a base))) (decode (encode (multiple r base))) ≡ true
honest r k a =
    ap₂ (equation_holds ((r + k * a) % order) k)
    (decode-encode (multiple a base) (multiple_point a base base_point))
    (decode-encode (multiple r base) (multiple_point r base base_point))
    ∙ same_is (multiple ((r + k * a) % order) base) (add (multiple r base) (multiple k (multiple a base))) (signature_holds r k a)

halves : (s m r : List ℕ) → length r ≡ 32 → r ≡ encode (multiple (nonce_of s m) base)
    → is_valid_of (public_of s) m r (bytes 32 ((nonce_of s m + challenge_of r (public_of s) m * scalar_of s) % order)) ≡ true
unfolding public_of
halves s m r l e =
    let n : ℕ = (nonce_of s m + challenge_of r (public_of s) m * scalar_of s) % order in
    let low : n < order = mod-lt (nonce_of s m + challenge_of r (public_of s) m * scalar_of s) {m = order} (lit< tt) in
    let back : number (bytes 32 n) ≡ n = number-bytes 32 n (omega (arith, low)) in
    ap (λ j. ltb j order && equation_holds j (challenge_of r (public_of s) m) (decode (public_of s)) (decode r)) back
    ∙ ap₂ (λ a b. a && b) (lt-ltb n order low)
    (ap (λ z. equation_holds n (challenge_of r (public_of s) m) (decode (public_of s)) (decode z)) e
    ∙ honest (nonce_of s m) (challenge_of r (public_of s) m) (scalar_of s))

at_halves : (p m r t : List ℕ) → length r ≡ 32 → is_valid_of p m (take 32 (r ++ t)) (drop 32 (r ++ t)) ≡ is_valid_of p m r t
at_halves p m r t l =
    ap₂ (is_valid_of p m)
    (ap (λ n. take n (r ++ t)) (sym l) ∙ take-append_seam r t)
    (ap (λ n. drop n (r ++ t)) (sym l) ∙ drop-append_seam r t)

-- each signature of a secret is valid under its public key
pub valid_when_signed : (s m : List ℕ) → is_valid (public_of s) m (signature_of s m) ≡ true
unfolding is_valid signature_of
valid_when_signed s m =
    let r : List ℕ = encode (multiple (nonce_of s m) base) in
    let t : List ℕ = bytes 32 ((nonce_of s m + challenge_of r (public_of s) m * scalar_of s) % order) in
    ap₂ (λ a b. a && b)
    (eq-eqb (length (signature_of s m)) 64 (length-signature s m))
    (at_halves (public_of s) m r t (length-encode (multiple (nonce_of s m) base))
    ∙ halves s m r (length-encode (multiple (nonce_of s m) base)) refl)

pub sized : AreSized
unfolding public_of
sized = record {
  public_length = λ s. length-encode (multiple (scalar_of s) base);
  signature_length = length-signature;
  signature_bytes = λ s m. are_bytes-signature s m;
}
