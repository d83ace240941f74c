-- One more digit of a number, modulo the order.
unfoldable pub use Rattle.up_field.specs.Digits.{written}
unfoldable pub use Rattle.up_curve.specs.LittleEndian.{number}
use Rattle.std.proofs.Common.{◌≡◌, ℕ, zero, suc, ◌∷◌, lit<, ◌+◌, ◌*◌, ◌%◌, ◌<◌, ◌^◌, List, [], length, take, drop, get_or, pow-suc, ◌≤◌, refl, sym, ◌∙◌, ap, arith, mod-eq_of_lt}
use Rattle.std.proofs.lemmas.List.{drop_more}
use Rattle.std.proofs.Math.Nat.{pow-zero, mod-mod}
use Rattle.up_curve.proofs.Ring.{mod_plus, mod_times}
use Rattle.up_curve.specs.Curve.{order}

-- one more digit in front
pub written-drop : (ds : List ℕ) (i : ℕ) → i < length ds → written (drop i ds) ≡ get_or ds i 0 + 2 ^ 51 * written (drop (i + 1) ds)
unfolding written
written-drop ds i h = ap written (drop_more ds i 0 h)

pub written-nil : written [] ≡ 0
unfolding written
written-nil = refl

pub horner : (r acc d n m : ℕ) → r < order → r % order ≡ (2 ^ 51 * acc + d) % order → acc ≡ n % order → m ≡ d + 2 ^ 51 * n → r ≡ m % order
horner r acc d n m low h k e =
    sym (mod-eq_of_lt {n = r} {m = order} low) ∙ h
    ∙ mod_plus order (2 ^ 51 * acc) (2 ^ 51 * n) d d (mod_times order (2 ^ 51) (2 ^ 51) acc n refl (ap (λ z. z % order) k ∙ mod-mod n order)) refl
    ∙ ap (λ z. z % order) (let s : 2 ^ 51 * n + d ≡ m = omega (arith, e) in s)

-- ten digits below a bound
pub ten_below : (a b c d e f g h i j : ℕ) → a < 2 ^ 110 → b < 2 ^ 110 → c < 2 ^ 110 → d < 2 ^ 110 → e < 2 ^ 110 → f < 2 ^ 110 → g < 2 ^ 110 → h < 2 ^ 110 → i < 2 ^ 110 → j < 2 ^ 110
    → (k : ℕ) → get_or (a ∷ b ∷ c ∷ d ∷ e ∷ f ∷ g ∷ h ∷ i ∷ j ∷ []) k 0 < 2 ^ 110
ten_below a b c d e f g h i j ha hb hc hd he hf hg hh hi hj zero = ha
ten_below a b c d e f g h i j ha hb hc hd he hf hg hh hi hj (suc zero) = hb
ten_below a b c d e f g h i j ha hb hc hd he hf hg hh hi hj (suc (suc zero)) = hc
ten_below a b c d e f g h i j ha hb hc hd he hf hg hh hi hj (suc (suc (suc zero))) = hd
ten_below a b c d e f g h i j ha hb hc hd he hf hg hh hi hj (suc (suc (suc (suc zero)))) = he
ten_below a b c d e f g h i j ha hb hc hd he hf hg hh hi hj (suc (suc (suc (suc (suc zero))))) = hf
ten_below a b c d e f g h i j ha hb hc hd he hf hg hh hi hj (suc (suc (suc (suc (suc (suc zero)))))) = hg
ten_below a b c d e f g h i j ha hb hc hd he hf hg hh hi hj (suc (suc (suc (suc (suc (suc (suc zero))))))) = hh
ten_below a b c d e f g h i j ha hb hc hd he hf hg hh hi hj (suc (suc (suc (suc (suc (suc (suc (suc zero)))))))) = hi
ten_below a b c d e f g h i j ha hb hc hd he hf hg hh hi hj (suc (suc (suc (suc (suc (suc (suc (suc (suc zero))))))))) = hj
ten_below a b c d e f g h i j ha hb hc hd he hf hg hh hi hj (suc (suc (suc (suc (suc (suc (suc (suc (suc (suc k)))))))))) = lit< tt

-- bytes in two parts
pub number-halves : (k : ℕ) (bs : List ℕ) → k ≤ length bs → number bs ≡ number (take k bs) + 256 ^ k * number (drop k bs)
unfolding number
number-halves zero bs h = omega (arith, ap (λ z. z * number bs) (pow-zero 256))
number-halves (suc k) [] h = absurd (omega arith)
number-halves (suc k) (b ∷ bs) h = omega (arith, ap (λ z. z * number (drop k bs)) (pow-suc 256 k), number-halves k bs (omega arith))
