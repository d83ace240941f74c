-- The order of the base point is prime, and the public key of each secret is a point of this order.
unfoldable pub use Rattle.up_curve.specs.Keys.{is_public}
use Rattle.std.proofs.Common.{◌≡◌, ◌≢◌, ℕ, zero, suc, ◌+◌, ◌*◌, ◌/◌, ◌-◌, ◌^◌, ◌%◌, ◌<◌, ◌⊎◌, inl, inr, refl, sym, ◌∙◌, ap, ap₂, arith, pow-suc, lit<, mod-lt, mod-eq_of_lt, Bool, true, false, not, ◌&&◌, IsTrue, eqb, eqb-true, eq-eqb, List}
use Rattle.std.proofs.lemmas.Bool.{and_parts, false≢true}
use Rattle.up_curve.specs.Keys.{is_in_subgroup}
use Rattle.up_curve.specs.Primes.{IsPrime}
use Rattle.up_curve.proofs.Fermat.{fermat_one}
use Rattle.up_curve.proofs.Prime.{pow_mod, by_one, by_two, of_order, prime_of}
use Rattle.up_curve.proofs.Curve.{Point, neutral, base, order, multiple, multiple_point, multiple-mul, multiple-one, reduced, base_point, order_of_base}
use Rattle.up_curve.proofs.Decode.{decode-encode}
use Rattle.up_curve.proofs.Signatures.{is_same_point, clamped, scalar_of, public_of}

-- no number up to fuel + 1, from 2 on, divides n
abbrev none_divides : ℕ → ℕ → Bool
none_divides zero n = true
none_divides (suc k) n = not (eqb (n % suc (suc k)) 0) && none_divides k n

none_divides_is : (k n : ℕ) → IsTrue (none_divides k n) → (a : ℕ) → 1 < a → a < suc (suc k) → n % a ≢ 0
none_divides_is zero n h a i j e = omega (arith, i, j)
none_divides_is (suc k) n h a i j e = from (λ y. none_divides_is k n (and_parts _ _ h).1 a i y e) (cases a j)
  where
    cases : (a : ℕ) → a < suc (suc (suc k)) → (a < suc (suc k)) ⊎ (a ≡ suc (suc k))
    cases a j = grind arith

    differs : (m : ℕ) → not (eqb m 0) ≡ true → m ≢ 0
    differs zero t z = absurd (false≢true t)
    differs (suc m) t z = omega (arith, z)

    from : (a < suc (suc k) → ⊥) → (a < suc (suc k)) ⊎ (a ≡ suc (suc k)) → ⊥
    from f (inl y) = f y
    from f (inr y) = differs (n % suc (suc k)) (and_parts _ _ h).0 (ap (λ m. n % m) (sym y) ∙ e)

small : (n : ℕ) → 1 < n → IsTrue (none_divides (n - 2) n) → IsPrime n
small n h t = record { above = h; none = λ a i j. none_divides_is (n - 2) n t a i (omega arith) }

prime_2551 : IsPrime 2551
unfolding pow_mod
prime_2551 = small 2551 (lit< tt) refl

prime_3797 : IsPrime 3797
unfolding pow_mod
prime_3797 = small 3797 (lit< tt) refl

prime-1 : IsPrime 1224481
unfolding pow_mod
prime-1 =
    by_one 1224481 2551 (lit< tt) (lit< tt) prime_2551 (of_order 1224481 2551 445782 248483 (lit< tt) (lit< tt) refl refl)

prime-2 : IsPrime 531581
unfolding pow_mod
prime-2 =
    by_one 531581 3797 (lit< tt) (lit< tt) prime_3797 (of_order 531581 3797 27374 8001 (lit< tt) (lit< tt) refl refl)

prime-3 : IsPrime 1257559732178653
unfolding pow_mod
prime-3 =
    by_two 1257559732178653 1224481 531581 (lit< tt) (lit< tt) prime-1 prime-2 (λ e. omega (arith, e))
    (of_order 1257559732178653 1224481 541030282966657 401053080469311 (lit< tt) (lit< tt) refl refl)
    (of_order 1257559732178653 531581 530623790861715 772600364725480 (lit< tt) (lit< tt) refl refl)

prime-4 : IsPrime 4434155615661930479
unfolding pow_mod
prime-4 =
    by_one 4434155615661930479 1257559732178653 (lit< tt) (lit< tt) prime-3 (of_order 4434155615661930479 1257559732178653 4109694043688065297 1904577115290454359 (lit< tt) (lit< tt) refl refl)

prime-5 : IsPrime 172054593956031949258510691
unfolding pow_mod
prime-5 =
    by_one 172054593956031949258510691 4434155615661930479 (lit< tt) (lit< tt) prime-4 (of_order 172054593956031949258510691 4434155615661930479 71589432256870860141876378 122751836107414251555425672 (lit< tt) (lit< tt) refl refl)

prime-6 : IsPrime 19757330305831588566944191468367130476339
unfolding pow_mod
prime-6 =
    by_one 19757330305831588566944191468367130476339 172054593956031949258510691 (lit< tt) (lit< tt) prime-5 (of_order 19757330305831588566944191468367130476339 172054593956031949258510691 17005702279272444156026630179386155725539 9977939805024188770588965216839106466721 (lit< tt) (lit< tt) refl refl)

prime-7 : IsPrime 276602624281642239937218680557139826668747
unfolding pow_mod
prime-7 =
    by_one 276602624281642239937218680557139826668747 19757330305831588566944191468367130476339 (lit< tt) (lit< tt) prime-6 (of_order 276602624281642239937218680557139826668747 19757330305831588566944191468367130476339 245328037311110859183427891936126381839937 206602086976874972020051199817196942523476 (lit< tt) (lit< tt) refl refl)

pub order_number : IsPrime 7237005577332262213973186563042994240857116359379907606001950938285454250989
unfolding pow_mod
order_number =
    by_one 7237005577332262213973186563042994240857116359379907606001950938285454250989 276602624281642239937218680557139826668747 (lit< tt) (lit< tt) prime-7 (of_order 7237005577332262213973186563042994240857116359379907606001950938285454250989 276602624281642239937218680557139826668747 726144006969177187622581407731246303654564725919580376738653171319118778617 1815940696704271963883774656977901418207074417038528254872672866383576753529 (lit< tt) (lit< tt) refl refl)

-- a number that isn't 0 modulo the order has an inverse (Fermat)
inverse_of : (n : ℕ) → n % order ≢ 0 → (n * n ^ (order - 2)) % order ≡ 1
inverse_of n h =
    ap (λ z. z % order) (let turned : n * n ^ (order - 2) ≡ n ^ (order - 2) * n = omega arith in turned)
    ∙ ap (λ z. z % order) (sym (pow-suc n (order - 2)))
    ∙ fermat_one order (prime_of order order_number) n h

multiple-neutral : (k : ℕ) → multiple k neutral ≡ neutral
unfolding multiple
multiple-neutral k =
    sym (multiple-mul k 0 base base_point) ∙ ap (λ z. multiple z base) (let none : k * 0 ≡ 0 = omega arith in none)

base_apart : base ≢ neutral
base_apart e = omega (arith, ap (λ (q : Point). q.y) e)

-- a multiple of the base point is neutral only for a multiple of the order
multiple_apart : (n : ℕ) → n % order ≢ 0 → multiple n base ≢ neutral
multiple_apart n h e =
    let u : ℕ = n ^ (order - 2) in
    base_apart (
    sym (multiple-one base base_point)
    ∙ ap (λ z. multiple z base) (sym (inverse_of n h))
    ∙ reduced (n * u)
    ∙ ap (λ z. multiple z base) (let turned : n * u ≡ u * n = omega arith in turned)
    ∙ multiple-mul u n base base_point
    ∙ ap (multiple u) e
    ∙ multiple-neutral u
    )

-- the scalar of a secret is no multiple of the order: it is 8 times a number below it
clamped_apart : (n : ℕ) → clamped n % order ≢ 0
clamped_apart n e = from ((prime_of order order_number).divides 8 (2 ^ 251 + n / 8 % 2 ^ 251) (ap (λ z. z % order) whole ∙ e))
  where
    whole : 8 * (2 ^ 251 + n / 8 % 2 ^ 251) ≡ clamped n
    whole = omega arith

    below : n / 8 % 2 ^ 251 < 2 ^ 251
    below = mod-lt (n / 8) {m = 2 ^ 251} (lit< tt)

    from : (8 % order ≡ 0) ⊎ ((2 ^ 251 + n / 8 % 2 ^ 251) % order ≡ 0) → ⊥
    from (inl z) = omega (arith, z)
    from (inr z) =
        omega (arith, z, below, mod-eq_of_lt {n = 2 ^ 251 + n / 8 % 2 ^ 251} {m = order} (omega (arith, below)))

same_is : (a b : Point) → a ≡ b → is_same_point a b ≡ true
same_is a b e = ap₂ (λ m n. m && n) (eq-eqb a.x b.x (ap (λ (q : Point). q.x) e)) (eq-eqb a.y b.y (ap (λ (q : Point). q.y) e))

is_same : (a b : Point) → is_same_point a b ≡ true → a ≡ b
is_same a b e = from (eqb a.x b.x) refl (eqb a.y b.y) refl e
  where
    from : (s : Bool) → eqb a.x b.x ≡ s → (t : Bool) → eqb a.y b.y ≡ t → is_same_point a b ≡ true → a ≡ b
    from true h true k e = ap₂ (λ (u v : ℕ). let q : Point = record { x = u; y = v } in q) (eqb-true a.x b.x h) (eqb-true a.y b.y k)
    from true h false k e = let f : false ≡ true = sym (ap₂ (λ m n. m && n) h k) ∙ e in absurd (cc)
    from false h true k e = let f : false ≡ true = sym (ap₂ (λ m n. m && n) h k) ∙ e in absurd (cc)
    from false h false k e = let f : false ≡ true = sym (ap₂ (λ m n. m && n) h k) ∙ e in absurd (cc)

apart_is : (a b : Point) → a ≢ b → is_same_point a b ≡ false
apart_is a b h = from (is_same_point a b) refl
  where
    from : (t : Bool) → is_same_point a b ≡ t → is_same_point a b ≡ false
    from true e = absurd (h (is_same a b e))
    from false e = e

-- the order times a multiple of the base point is neutral
order_of_multiple : (n : ℕ) → multiple order (multiple n base) ≡ neutral
order_of_multiple n =
    sym (multiple-mul order n base base_point)
    ∙ ap (λ z. multiple z base) (let t : order * n ≡ n * order = omega arith in t)
    ∙ multiple-mul n order base base_point
    ∙ ap (multiple n) order_of_base
    ∙ multiple-neutral n

-- the public key of each secret is one
pub public_is : (s : List ℕ) → is_public (public_of s) ≡ true
unfolding is_public public_of scalar_of
public_is s =
    let n : ℕ = scalar_of s in
    ap is_in_subgroup (decode-encode (multiple n base) (multiple_point n base base_point))
    ∙ ap₂ (λ a b. not a && b)
    (apart_is (multiple n base) neutral (multiple_apart n (clamped_apart _)))
    (same_is (multiple order (multiple n base)) neutral (order_of_multiple n))
