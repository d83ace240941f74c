-- Digits that are put into a list, and taken from it.
unfoldable pub use Rattle.up_field.specs.Sparse.{scattered}
use Rattle.std.proofs.Common.{◌≡◌, ℕ, zero, suc, ◌+◌, ◌*◌, ◌-◌, ◌^◌, ◌<◌, Bool, true, false, ◌==◌, eqb, eqb-true, eq-eqb, List, [], ◌∷◌, ◌++◌, length, take, drop, get_or, refl, sym, ◌∙◌, ap, subst, arith, pow-suc}
use Rattle.std.proofs.Math.Nat.{pow-zero}
use Rattle.std.proofs.Math.ListN.{set}
use Rattle.std.proofs.lemmas.List.{drop_more, drop_all, take_more_set, get_or-set_other, get_or-take, length-take, length-take-le}
use Rattle.std.proofs.lemmas.Grind.{get_or-set_at}

pub scattered-drop : (ds : List ℕ) (i : ℕ) → i < length ds → scattered (drop i ds) ≡ get_or ds i 0 + 2 * scattered (drop (i + 1) ds)
unfolding scattered
scattered-drop ds i h = ap scattered (drop_more ds i 0 h)

pub scattered-nil : scattered [] ≡ 0
unfolding scattered
scattered-nil = refl

scattered-more : (ds : List ℕ) (d : ℕ) → scattered (ds ++ d ∷ []) ≡ scattered ds + 2 ^ length ds * d
unfolding scattered
scattered-more [] d = omega (arith, ap (λ z. z * d) (pow-zero 2))
scattered-more (e ∷ ds) d = omega (arith, scattered-more ds d, ap (λ z. z * d) (pow-suc 2 (length ds)))

pub scattered-set : (ds : List ℕ) (i d : ℕ) → i < length ds → scattered (take (i + 1) (set ds i d)) ≡ scattered (take i ds) + 2 ^ i * d
scattered-set ds i d h =
    ap scattered (take_more_set ds i d h) ∙ scattered-more (take i ds) d
    ∙ ap (λ z. scattered (take i ds) + 2 ^ z * d) (let e : length (take i ds) ≡ i = omega (arith, length-take i ds, h) in e)

scattered-halves : (n : ℕ) (ds : List ℕ) → n < length ds → scattered (take n ds) + 2 ^ n * scattered (drop n ds) ≡ scattered ds
unfolding scattered
scattered-halves zero ds h = omega (arith, ap (λ z. z * scattered ds) (pow-zero 2))
scattered-halves (suc n) [] h = absurd (omega (arith, h))
scattered-halves (suc n) (d ∷ ds) h = omega (arith, scattered-halves n ds (omega (arith, h)), ap (λ z. z * scattered (drop n ds)) (pow-suc 2 n))

eqb_ne : (a b : ℕ) → eqb a b ≡ false → a ≡ b → ⊥
eqb_ne a b e h = let k : true ≡ false = sym (eq-eqb a b h) ∙ e in absurd (cc)

-- a property of all of a list in which one is set
pub all_set : (P : ℕ → Type 0) (ds : List ℕ) (i d k : ℕ) → i < length ds → P d → P (get_or ds k 0) → P (get_or (set ds i d) k 0)
all_set P ds i d k l h j = from (k == i) refl
  where
    from : (b : Bool) → (k == i) ≡ b → P (get_or (set ds i d) k 0)
    from true e = subst P (sym (get_or-set_at ds i k d 0 (eqb-true k i e) l)) h
    from false e = subst P (sym (get_or-set_other ds i k d 0 (λ z. eqb_ne k i e z))) j

-- a digit more of n
pub last-more : (ds : List ℕ) (n i : ℕ) → n < length ds + 1 → i < n → 2 * scattered (drop (n - i) ds) + get_or ds (n - 1 - i) 0 ≡ scattered (drop (n - (i + 1)) ds)
last-more ds n i l h =
    let k = scattered-drop ds (n - 1 - i) (omega (arith, h, l)) in
    let x : scattered (drop (n - 1 - i + 1) ds) ≡ scattered (drop (n - i) ds) = ap (λ z. scattered (drop z ds)) (omega (arith, h)) in
    let y : scattered (drop (n - (i + 1)) ds) ≡ scattered (drop (n - 1 - i) ds) = ap (λ z. scattered (drop z ds)) (omega (arith, h)) in
    omega (arith, k, x, y)

pub scattered-end : (ds : List ℕ) → length ds ≡ 258 → scattered (drop 258 ds) ≡ 0
scattered-end ds l = ap scattered (drop_all 258 ds (omega (arith, l))) ∙ scattered-nil

-- a digit that is 0 before others that are
pub none-before : (ds : List ℕ) → length ds ≡ 258 → (i : ℕ) → i < 258 → scattered (drop (258 - i) ds) ≡ 0 → get_or ds (257 - i) 0 ≡ 0 → scattered (drop (258 - (i + 1)) ds) ≡ 0
none-before ds l i h e k =
    let m = last-more ds 258 i (omega (arith, l)) h in
    let z : get_or ds (258 - 1 - i) 0 ≡ get_or ds (257 - i) 0 = ap (λ y. get_or ds y 0) (omega arith) in
    omega (arith, m, e, k, z)

-- the last digits of each half of 258, so many
abbrev pub halves : List ℕ → ℕ → ℕ
halves ds i = scattered (drop (129 - i) (take 129 ds)) + 2 ^ 129 * scattered (drop (258 - i) ds)

module _ (ds : List ℕ) (l : length ds ≡ 258) where
  half : length (take 129 ds) ≡ 129
  half = length-take-le 129 ds (omega (arith, l))

  pub halves-none : halves ds 0 ≡ 0
  halves-none =
      let x : scattered (drop (129 - 0) (take 129 ds)) ≡ 0 = ap scattered (drop_all (129 - 0) (take 129 ds) (omega (arith, half))) ∙ scattered-nil in
      let y : scattered (drop (258 - 0) ds) ≡ 0 = ap scattered (drop_all (258 - 0) ds (omega (arith, l))) ∙ scattered-nil in
      omega (arith, x, y)

  pub halves-more : (i : ℕ) → i < 129 → 2 * halves ds i + get_or ds (128 - i) 0 + 2 ^ 129 * get_or ds (257 - i) 0 ≡ halves ds (i + 1)
  halves-more i h =
      let low = scattered-drop (take 129 ds) (128 - i) (omega (arith, h, half)) in
      let high = scattered-drop ds (257 - i) (omega (arith, h, l)) in
      let g : get_or (take 129 ds) (128 - i) 0 ≡ get_or ds (128 - i) 0 = get_or-take 129 ds (128 - i) 0 (omega (arith, h)) in
      let a : scattered (drop (128 - i + 1) (take 129 ds)) ≡ scattered (drop (129 - i) (take 129 ds)) = ap (λ z. scattered (drop z (take 129 ds))) (omega (arith, h)) in
      let b : scattered (drop (129 - (i + 1)) (take 129 ds)) ≡ scattered (drop (128 - i) (take 129 ds)) = ap (λ z. scattered (drop z (take 129 ds))) (omega (arith, h)) in
      let u : scattered (drop (257 - i + 1) ds) ≡ scattered (drop (258 - i) ds) = ap (λ z. scattered (drop z ds)) (omega (arith, h)) in
      let v : scattered (drop (258 - (i + 1)) ds) ≡ scattered (drop (257 - i) ds) = ap (λ z. scattered (drop z ds)) (omega (arith, h)) in
      omega (arith, low, high, g, a, b, u, v)

  pub halves-all : halves ds 129 ≡ scattered ds
  halves-all = scattered-halves 129 ds (omega (arith, l))
