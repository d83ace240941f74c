-- Numbers as bytes.
unfoldable pub use Rattle.up_curve.specs.LittleEndian.{number, bytes}
use Rattle.std.proofs.Common.{◌≡◌, ℕ, zero, suc, ◌+◌, ◌*◌, ◌/◌, ◌^◌, ◌%◌, ◌<◌, ◌≤◌, List, [], ◌∷◌, ◌++◌, length, drop, get_or, refl, sym, ◌∙◌, ap, arith, pow-suc, lit<}
use Rattle.std.proofs.Math.Nat.{pow-zero, pow-le-pow_right, div-one, div-div-eq-div-mul}
use Rattle.std.proofs.lemmas.List.{drop_more}

-- one more byte in front
pub number-drop : (bs : List ℕ) (i : ℕ) → i < length bs → number (drop i bs) ≡ get_or bs i 0 + 256 * number (drop (i + 1) bs)
unfolding number
number-drop bs i h = ap number (drop_more bs i 0 h)

pub number-nil : number [] ≡ 0
unfolding number
number-nil = refl

pub pow-below : (j k : ℕ) → j ≤ k → 256 ^ j ≤ 256 ^ k
pow-below j k h = pow-le-pow_right {n = 256} (lit< tt) h

-- one more byte at the end
pub bytes-more : (k n : ℕ) → bytes (k + 1) n ≡ bytes k n ++ n / 256 ^ k % 256 ∷ []
unfolding bytes
bytes-more zero n = ap (λ z. z % 256 ∷ []) (sym (ap (λ z. n / z) (pow-zero 256) ∙ div-one n))
bytes-more (suc k) n =
    ap (λ z. bytes z n) (let e : suc k + 1 ≡ suc (k + 1) = omega arith in e)
    ∙ ap (λ z. n % 256 ∷ z) (bytes-more k (n / 256))
    ∙ ap (λ z. n % 256 ∷ bytes k (n / 256) ++ z % 256 ∷ []) (shift n (256 ^ k) ∙ ap (λ z. n / z) (sym (pow-suc 256 k)))
  where
    shift : (n m : ℕ) → n / 256 / m ≡ n / (m * 256)
    shift n m = div-div-eq-div-mul n 256 m ∙ ap (λ z. n / z) (let e : 256 * m ≡ m * 256 = omega arith in e)
