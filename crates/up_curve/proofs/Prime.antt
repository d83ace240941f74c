-- 2^255 - 19 is prime: certificates of Pocklington's, checked by computation.
unfoldable pub use Rattle.up_curve.specs.Field.{pow_mod}
use Rattle.std.proofs.Common.{◌≡◌, ◌≢◌, ℕ, zero, suc, ◌+◌, ◌*◌, ◌/◌, ◌-◌, ◌^◌, ◌%◌, ◌<◌, ◌≤◌, ◌⊎◌, inl, inr, refl, sym, ◌∙◌, ap, arith, pow-suc, mod-eq_of_lt, mod-lt, eq-zero-or-pos, lit<, eqb, Bool, true, not, ◌&&◌, IsTrue, mul-le-mul}
use Rattle.std.proofs.Math.Nat.{pow-zero, mul-mod_right, mul-mod_left, zero-mod, mod-mod, mod_self, mod-mod_of_dvd, dvd_trans, dvd_of_mod-eq-zero, mod-eq-zero_of_dvd, div-add-mod}
use Rattle.std.proofs.lemmas.Nat.{mul-mod_second, pow-mod, pow-add, mul-pow}
use Rattle.std.proofs.lemmas.Nat.Gcd.{le_of_dvd}
use Rattle.std.proofs.lemmas.Bool.{and_parts, false≢true}
use Rattle.up_curve.proofs.Ring.{mod_plus, mod_times, mod_cancel}
use Rattle.up_curve.proofs.Fermat.{IsPrimeElement, fermat_one}
use Rattle.up_curve.specs.Primes.{IsPrime}

pub pow_mod_is : (fuel m b e : ℕ) → 1 < m → e < 2 ^ fuel → pow_mod fuel m b e ≡ b ^ e % m
unfolding pow_mod
pow_mod_is zero m b e h k =
    sym (ap (λ z. b ^ z % m) (omega (arith, k, pow-zero 2)) ∙ ap (λ z. z % m) (pow-zero b) ∙ mod-eq_of_lt {n = 1} {m = m} h)
pow_mod_is (suc fuel) m b e h k =
    ap (λ z. (b ^ (e % 2) * z) % m) (pow_mod_is fuel m (b * b % m) (e / 2) h (omega (arith, k, pow-suc 2 fuel)) ∙ pow-mod (b * b) (e / 2) m)
    ∙ mul-mod_second (b ^ (e % 2)) ((b * b) ^ (e / 2)) m
    ∙ ap (λ z. (b ^ (e % 2) * z) % m) (mul-pow b b (e / 2) ∙ sym (pow-add b (e / 2) (e / 2)))
    ∙ ap (λ z. z % m) (sym (pow-add b (e % 2) (e / 2 + e / 2)))
    ∙ ap (λ z. b ^ z % m) (omega arith)

zero_divided : (q n : ℕ) → n ≡ q * 0 → n % q ≡ 0
zero_divided q n e = ap (λ z. z % q) e ∙ mul-mod_right q 0

-- each number below a prime, but 0, has an inverse
inverse_below : (q : ℕ) → IsPrime q → (fuel a : ℕ) → a ≤ fuel → 0 < a → a < q → (u : ℕ) × ((a * u) % q ≡ 1)
inverse_below q prime zero a h k l = absurd (omega arith)
inverse_below q prime (suc fuel) zero h k l = absurd (omega arith)
inverse_below q prime (suc fuel) (suc zero) h k l = (1, mod-eq_of_lt {n = 1} {m = q} prime.above)
inverse_below q prime (suc fuel) (suc (suc b)) h k l =
    from (λ z. inverse_below q prime fuel (q % suc (suc b)) (omega (arith, mod-lt q {m = suc (suc b)} (omega arith))) z (omega (arith, mod-lt q {m = suc (suc b)} (omega arith)))) (eq-zero-or-pos (q % suc (suc b)))
  where
    a : ℕ
    a = suc (suc b)

    r : ℕ
    r = q % suc (suc b)

    below : r < a
    below = mod-lt q {m = a} (omega arith)

    step : (v : ℕ) → (r * v) % q ≡ 1 → (a * ((q - 1) * ((q / a) * v))) % q ≡ 1
    step v e =
        mod_cancel q (a * ((q - 1) * ((q / a) * v))) (r * v) ((q - 1) * (r * v))
        (ap (λ z. z % q) left ∙ mul-mod_right q ((q - 1) * v) ∙ sym (mul-mod_right q (r * v)) ∙ ap (λ z. z % q) (sym right))
        ∙ e
      where
        up : (m : ℕ) × (q ≡ suc m)
        up = (q - 1, omega (arith, prime.above))

        split : a * (q / a) + r ≡ q
        split = div-add-mod q a

        left : a * ((q - 1) * ((q / a) * v)) + (q - 1) * (r * v) ≡ q * ((q - 1) * v)
        left = omega (arith, ap (λ z. z * ((q - 1) * v)) split)

        right : r * v + (q - 1) * (r * v) ≡ q * (r * v)
        right = omega (arith, ap (λ z. z * (r * v)) up.1, ap (λ z. (z - 1) * (r * v)) up.1)

    from : (0 < q % suc (suc b) → (v : ℕ) × ((q % suc (suc b) * v) % q ≡ 1)) → (q % suc (suc b) ≡ 0) ⊎ (0 < q % suc (suc b)) → (u : ℕ) × ((suc (suc b) * u) % q ≡ 1)
    from f (inl e) = absurd (prime.none (suc (suc b)) (omega arith) l e)
    from f (inr z) = ((q - 1) * ((q / a) * (f z).0), step (f z).0 (f z).1)

-- a prime divides a product only if it divides a factor
pub prime_of : (q : ℕ) → IsPrime q → IsPrimeElement q
prime_of q prime = record { above = prime.above; divides = λ a b e. from a b e (eq-zero-or-pos (a % q)) }
  where
    from : (a b : ℕ) → (a * b) % q ≡ 0 → (a % q ≡ 0) ⊎ (0 < a % q) → (a % q ≡ 0) ⊎ (b % q ≡ 0)
    from a b e (inl z) = inl z
    from a b e (inr z) =
        let w : (u : ℕ) × ((a % q * u) % q ≡ 1) = inverse_below q prime (a % q) (a % q) (omega arith) z (mod-lt a {m = q} (omega (arith, prime.above)))
        in inr (
        ap (λ n. n % q) (omega arith)
        ∙ mod_times q 1 (a % q * w.0) b b (mod-eq_of_lt {n = 1} {m = q} prime.above ∙ sym w.1) refl
        ∙ ap (λ n. n % q) (omega arith)
        ∙ mod_times q (a % q) a (w.0 * b) (w.0 * b) (mod-mod a q) refl
        ∙ ap (λ n. n % q) (omega arith)
        ∙ mod_times q (a * b) 0 w.0 w.0 (e ∙ sym (zero-mod q)) refl
        ∙ ap (λ n. n % q) (omega arith) ∙ zero-mod q
        )

-- a divisor of a divisor
divided : (a k n : ℕ) → k % a ≡ 0 → n % k ≡ 0 → n % a ≡ 0
divided a k n h l = mod-eq-zero_of_dvd a (dvd_trans a (dvd_of_mod-eq-zero a h) (dvd_of_mod-eq-zero k l))

-- the least divisor
record IsLeast (n q : ℕ) : Type 0 where
  prime : IsPrime q
  divides : n % q ≡ 0
  least : (a : ℕ) → 1 < a → a < q → n % a ≢ 0

least_from : (fuel k n : ℕ) → 1 < k → ((a : ℕ) → 1 < a → a < k → n % a ≢ 0) → k + fuel ≡ n → (q : ℕ) × IsLeast n q
least_from zero k n h l e =
    let same : k ≡ n = omega arith
    in (
      k,
      record {
        prime = record { above = h; none = λ a i j z. l a i j (ap (λ m. m % a) (sym same) ∙ z) };
        divides = ap (λ m. m % k) (sym same) ∙ mod_self k;
        least = l;
      },
    )
least_from (suc fuel) k n h l e =
    from (λ m. least_from fuel (suc k) n (omega arith) m (omega arith)) (eq-zero-or-pos (n % k))
  where
    more : 0 < n % k → (a : ℕ) → 1 < a → a < suc k → n % a ≢ 0
    more z a i j d = at_end (cases a j)
      where
        cases : (a : ℕ) → a < suc k → (a < k) ⊎ (a ≡ k)
        cases a j = grind arith

        at_end : (a < k) ⊎ (a ≡ k) → ⊥
        at_end (inl y) = l a i y d
        at_end (inr y) = omega (arith, z, ap (λ m. n % m) y, d)

    from : (((a : ℕ) → 1 < a → a < suc k → n % a ≢ 0) → (q : ℕ) × IsLeast n q) → (n % k ≡ 0) ⊎ (0 < n % k) → (q : ℕ) × IsLeast n q
    from f (inl z) = (k, record { prime = record { above = h; none = λ a i j y. l a i j (divided a k n y z) }; divides = z; least = l })
    from f (inr z) = f (more z)

least_of : (n : ℕ) → 1 < n → (q : ℕ) × IsLeast n q
least_of n h = least_from (n - 2) 2 n (omega arith) (λ a i j. absurd (omega arith)) (omega arith)

-- a number with no divisor but itself whose square is not above it
prime_if_large : (n : ℕ) → 1 < n → ((q : ℕ) → IsPrime q → n % q ≡ 0 → n < q * q) → IsPrime n
prime_if_large n h big = from (least_of n h)
  where
    from : (q : ℕ) × IsLeast n q → IsPrime n
    from (q, k) = record { above = h; none = λ a i j z. wrong a i j z }
      where
        wrong : (a : ℕ) → 1 < a → a < n → n % a ≡ 0 → ⊥
        wrong a i j z = both (n / a) (div-add-mod n a)
          where
            -- both a and n / a are at least q, so q * q ≤ n
            at_least : (b : ℕ) → 1 < b → n % b ≡ 0 → q ≤ b
            at_least b x y = from_order b x y (order b)
              where
                order : (b : ℕ) → (b < q) ⊎ (q ≤ b)
                order b = grind arith

                from_order : (b : ℕ) → 1 < b → n % b ≡ 0 → (b < q) ⊎ (q ≤ b) → q ≤ b
                from_order b x y (inl o) = absurd (k.least b x o y)
                from_order b x y (inr o) = o

            both : (c : ℕ) → a * c + n % a ≡ n → ⊥
            both zero e = omega (arith, e, z)
            both (suc zero) e = omega (arith, e, z)
            both (suc (suc c)) e =
                let whole : n ≡ a * suc (suc c) = omega (arith, e, z) in
                let up : q ≤ suc (suc c) = at_least (suc (suc c)) (omega arith) (ap (λ m. m % suc (suc c)) whole ∙ mul-mod_left a (suc (suc c)))
                in omega (arith, mul-le-mul (at_least a i z) up, big q k.prime k.divides, whole)

one_pow : (k : ℕ) → 1 ^ k ≡ 1
one_pow zero = pow-zero 1
one_pow (suc k) = pow-suc 1 k ∙ omega (arith, one_pow k)

pow_pow : (b j k : ℕ) → (b ^ j) ^ k ≡ b ^ (j * k)
pow_pow b j zero = pow-zero (b ^ j) ∙ sym (pow-zero b) ∙ ap (λ z. b ^ z) (omega arith)
pow_pow b j (suc k) =
    pow-suc (b ^ j) k ∙ ap (λ z. z * b ^ j) (pow_pow b j k) ∙ sym (pow-add b (j * k) j) ∙ ap (λ z. b ^ z) (omega arith)

-- a power of what is 1 modulo q
pow_one : (q b k : ℕ) → 1 < q → b % q ≡ 1 → b ^ k % q ≡ 1
pow_one q b k h e =
    sym (pow-mod b k q) ∙ ap (λ z. z ^ k % q) e ∙ ap (λ z. z % q) (one_pow k) ∙ mod-eq_of_lt {n = 1} {m = q} h

-- z has the order r modulo n: its power is 1, and z - 1 has an inverse, v
pub record HasOrder (n r z v : ℕ) : Type 0 where
  power : z ^ r % n ≡ 1
  apart : ((z + (n - 1)) * v) % n ≡ 1

pub of_order : (n r z v : ℕ) → 1 < n → r < 2 ^ 256 → pow_mod 256 n z r ≡ 1 → ((z + (n - 1)) * v) % n ≡ 1 → HasOrder n r z v
of_order n r z v h k e a = record { power = sym (pow_mod_is 256 n z r h k) ∙ e; apart = a }

-- then r divides q - 1 for each prime divisor q of n
order_divides : (n r z v q : ℕ) → 1 < n → IsPrime r → HasOrder n r z v → IsPrime q → n % q ≡ 0 → (q - 1) % r ≡ 0
order_divides n r z v q h prime o primeq d = from (eq-zero-or-pos ((q - 1) % r))
  where
    -- what holds modulo n holds modulo q
    down : (a : ℕ) → a % n ≡ 1 → a % q ≡ 1
    down a e =
        sym (mod-mod_of_dvd q a (dvd_of_mod-eq-zero q d)) ∙ ap (λ m. m % q) e ∙ mod-eq_of_lt {n = 1} {m = q} primeq.above

    power : z ^ r % q ≡ 1
    power = down (z ^ r) o.power

    nonzero : z % q ≢ 0
    nonzero e = zero_power r prime.above power
      where
        zero_power : (k : ℕ) → 1 < k → z ^ k % q ≡ 1 → ⊥
        zero_power zero i y = omega (arith, i)
        zero_power (suc k) i y =
            omega (arith, y, sym y ∙ ap (λ m. m % q) (pow-suc z k) ∙ mod_times q (z ^ k) (z ^ k) z 0 refl (e ∙ sym (zero-mod q)) ∙ ap (λ m. m % q) (omega arith) ∙ zero-mod q)

    little : z ^ (q - 1) % q ≡ 1
    little = fermat_one q (prime_of q primeq) z nonzero

    is_one : (u : ℕ) → ((q - 1) % r * u) % r ≡ 1 → z % q ≡ 1
    is_one u e =
        ap (λ m. m % q) (omega arith)
        ∙ sym (mod_times q (z ^ (r * k)) 1 z z (ap (λ m. m % q) (sym (pow_pow z r k)) ∙ pow_one q (z ^ r) k primeq.above power ∙ sym (mod-eq_of_lt {n = 1} {m = q} primeq.above)) refl)
        ∙ ap (λ m. m % q) (sym (pow-suc z (r * k)))
        ∙ ap (λ m. z ^ m % q) whole
        ∙ ap (λ m. m % q) (sym (pow_pow z (q - 1) u))
        ∙ pow_one q (z ^ (q - 1)) u primeq.above little
      where
        k : ℕ
        k = (q - 1) * u / r

        rest : ((q - 1) * u) % r ≡ 1
        rest = sym (mod_times r ((q - 1) % r) (q - 1) u u (mod-mod (q - 1) r) refl) ∙ e

        whole : suc (r * k) ≡ (q - 1) * u
        whole = omega (arith, div-add-mod ((q - 1) * u) r, rest)

    wrong : z % q ≡ 1 → ⊥
    wrong e =
        omega (
          arith,
          down ((z + (n - 1)) * v) o.apart,
          mod_times q (z + (n - 1)) (1 + (n - 1)) v v (mod_plus q z 1 (n - 1) (n - 1) (e ∙ sym (mod-eq_of_lt {n = 1} {m = q} primeq.above)) refl) refl
              ∙ ap (λ m. (m * v) % q) (omega arith)
              ∙ mod_times q n 0 v v (d ∙ sym (zero-mod q)) refl
              ∙ ap (λ m. m % q) (omega arith)
              ∙ zero-mod q,
        )

    from : ((q - 1) % r ≡ 0) ⊎ (0 < (q - 1) % r) → (q - 1) % r ≡ 0
    from (inl e) = e
    from (inr y) =
        let w : (u : ℕ) × (((q - 1) % r * u) % r ≡ 1) = inverse_below r prime ((q - 1) % r) ((q - 1) % r) (omega arith) y (mod-lt (q - 1) {m = r} (omega (arith, prime.above)))
        in absurd (wrong (is_one w.0 w.1))

-- a certificate with one prime divisor r of n - 1
pub by_one : (n r : ℕ) {z v : ℕ} → 1 < n → n < r * r → IsPrime r → HasOrder n r z v → IsPrime n
by_one n r {z} {v} h big prime o = prime_if_large n h (λ q primeq d. above q primeq d)
  where
    above : (q : ℕ) → IsPrime q → n % q ≡ 0 → n < q * q
    above q primeq d =
        let low : r ≤ q - 1 = le_of_dvd {m = r} {n = q - 1} (omega (arith, primeq.above)) (dvd_of_mod-eq-zero r (order_divides n r z v q h prime o primeq d)) in
        let up : r ≤ q = omega (arith, low) in
        omega (arith, big, mul-le-mul up up)

-- and with two
pub by_two : (n r s : ℕ) {z v y u : ℕ} → 1 < n → n < r * s * (r * s) → IsPrime r → IsPrime s → r % s ≢ 0 → HasOrder n r z v → HasOrder n s y u → IsPrime n
by_two n r s {z} {v} {y} {u} h big prime_r prime_s apart o w = prime_if_large n h (λ q primeq d. above q primeq d)
  where
    above : (q : ℕ) → IsPrime q → n % q ≡ 0 → n < q * q
    above q primeq d = from ((prime_of s prime_s).divides r k (ap (λ m. m % s) whole ∙ order_divides n s y u q h prime_s w primeq d))
      where
        k : ℕ
        k = (q - 1) / r

        whole : r * k ≡ q - 1
        whole = omega (arith, div-add-mod (q - 1) r, order_divides n r z v q h prime_r o primeq d)

        from : (r % s ≡ 0) ⊎ (k % s ≡ 0) → n < q * q
        from (inl e) = absurd (apart e)
        from (inr e) =
            let t : ℕ = k / s in
            let part : s * t ≡ k = omega (arith, div-add-mod k s, e) in
            let all : r * s * t ≡ q - 1 = omega (arith, whole, ap (λ m. r * m) part) in
            let low : r * s ≤ q - 1 = le_of_dvd {m = r * s} {n = q - 1} (omega (arith, primeq.above)) (dvd_of_mod-eq-zero (r * s) (ap (λ m. m % (r * s)) (sym all) ∙ mul-mod_right (r * s) t)) in
            let up : r * s ≤ q = omega (arith, low) in
            omega (arith, big, mul-le-mul up up)

-- no number up to fuel + 1, from 2 on, divides n
abbrev none_divides : ℕ → ℕ → Bool
none_divides zero n = true
none_divides (suc k) n = not (eqb (n % suc (suc k)) 0) && none_divides k n

none_divides_is : (k n : ℕ) → IsTrue (none_divides k n) → (a : ℕ) → 1 < a → a < suc (suc k) → n % a ≢ 0
none_divides_is zero n h a i j e = omega (arith, i, j)
none_divides_is (suc k) n h a i j e = at_end (λ y. none_divides_is k n (and_parts _ _ h).1 a i y e) (cases a j)
  where
    cases : (a : ℕ) → a < suc (suc (suc k)) → (a < suc (suc k)) ⊎ (a ≡ suc (suc k))
    cases a j = grind arith

    at_end : (a < suc (suc k) → ⊥) → (a < suc (suc k)) ⊎ (a ≡ suc (suc k)) → ⊥
    at_end f (inl y) = f y
    at_end f (inr y) = differs (n % suc (suc k)) (and_parts _ _ h).0 (ap (λ m. n % m) (sym y) ∙ e)
      where
        differs : (m : ℕ) → not (eqb m 0) ≡ true → m ≢ 0
        differs zero t z = absurd (false≢true t)
        differs (suc m) t z = omega (arith, z)

small : (n : ℕ) → 1 < n → IsTrue (none_divides (n - 2) n) → IsPrime n
small n h t = record { above = h; none = λ a i j. none_divides_is (n - 2) n t a i (omega arith) }

differ : (r s : ℕ) → IsTrue (not (eqb (r % s) 0)) → r % s ≢ 0
differ r s h = differs (r % s) h
  where
    differs : (m : ℕ) → not (eqb m 0) ≡ true → m ≢ 0
    differs zero t z = absurd (false≢true t)
    differs (suc m) t z = omega (arith, z)

prime_991 : IsPrime 991
unfolding pow_mod
prime_991 = small 991 (lit< tt) refl

prime_103 : IsPrime 103
unfolding pow_mod
prime_103 = small 103 (lit< tt) refl

prime_127 : IsPrime 127
unfolding pow_mod
prime_127 = small 127 (lit< tt) refl

prime_419 : IsPrime 419
unfolding pow_mod
prime_419 = small 419 (lit< tt) refl

prime_97 : IsPrime 97
unfolding pow_mod
prime_97 = small 97 (lit< tt) refl

prime_1723 : IsPrime 1723
unfolding pow_mod
prime_1723 = small 1723 (lit< tt) refl

prime_4153 : IsPrime 4153
unfolding pow_mod
prime_4153 = small 4153 (lit< tt) refl

prime-1 : IsPrime 8574133
unfolding pow_mod
prime-1 =
    by_two 8574133 991 103 (lit< tt) (lit< tt) prime_991 prime_103 (differ 991 103 refl)
    (of_order 8574133 991 3435729 1014251 (lit< tt) (lit< tt) refl refl)
    (of_order 8574133 103 4321357 3531099 (lit< tt) (lit< tt) refl refl)

prime-2 : IsPrime 1919519569386763
unfolding pow_mod
prime-2 =
    by_two 1919519569386763 8574133 127 (lit< tt) (lit< tt) prime-1 prime_127 (differ 8574133 127 refl)
    (of_order 1919519569386763 8574133 1059928654987441 1290547218147893 (lit< tt) (lit< tt) refl refl)
    (of_order 1919519569386763 127 576774792492622 1870148777187772 (lit< tt) (lit< tt) refl refl)

prime-3 : IsPrime 569003
unfolding pow_mod
prime-3 =
    by_two 569003 419 97 (lit< tt) (lit< tt) prime_419 prime_97 (differ 419 97 refl)
    (of_order 569003 419 236160 533245 (lit< tt) (lit< tt) refl refl)
    (of_order 569003 97 439588 345875 (lit< tt) (lit< tt) refl refl)

prime-4 : IsPrime 2773320623
unfolding pow_mod
prime-4 =
    by_one 2773320623 569003 (lit< tt) (lit< tt) prime-3 (of_order 2773320623 569003 2039232613 2440407146 (lit< tt) (lit< tt) refl refl)

prime-5 : IsPrime 72106336199
unfolding pow_mod
prime-5 =
    by_one 72106336199 2773320623 (lit< tt) (lit< tt) prime-4 (of_order 72106336199 2773320623 67108864 8149528284 (lit< tt) (lit< tt) refl refl)

prime-6 : IsPrime 75445702479781427272750846543864801
unfolding pow_mod
prime-6 =
    by_two 75445702479781427272750846543864801 1919519569386763 72106336199 (lit< tt) (lit< tt) prime-2 prime-5 (differ 1919519569386763 72106336199 refl)
    (of_order 75445702479781427272750846543864801 1919519569386763 56747016255153332959347766392083459 74602835786463724888147869570305675 (lit< tt) (lit< tt) refl refl)
    (of_order 75445702479781427272750846543864801 72106336199 71619851993489548214160924360205394 55965016733432503242248684386325671 (lit< tt) (lit< tt) refl refl)

prime-7 : IsPrime 430751
unfolding pow_mod
prime-7 =
    by_one 430751 1723 (lit< tt) (lit< tt) prime_1723 (of_order 430751 1723 293176 198753 (lit< tt) (lit< tt) refl refl)

prime-8 : IsPrime 31757755568855353
unfolding pow_mod
prime-8 =
    by_two 31757755568855353 430751 4153 (lit< tt) (lit< tt) prime-7 prime_4153 (differ 430751 4153 refl)
    (of_order 31757755568855353 430751 15280470251845350 15419847897348699 (lit< tt) (lit< tt) refl refl)
    (of_order 31757755568855353 4153 28256283979054930 25117532289192573 (lit< tt) (lit< tt) refl refl)

prime-9 : IsPrime 74058212732561358302231226437062788676166966415465897661863160754340907
unfolding pow_mod
prime-9 =
    by_two 74058212732561358302231226437062788676166966415465897661863160754340907 75445702479781427272750846543864801 31757755568855353 (lit< tt) (lit< tt) prime-6 prime-8 (differ 75445702479781427272750846543864801 31757755568855353 refl)
    (of_order 74058212732561358302231226437062788676166966415465897661863160754340907 75445702479781427272750846543864801 69490809710348678725736597923071784769591275419387514694139338586948360 70463328703800545008217672123162676565183935400628861884889913886334520 (lit< tt) (lit< tt) refl refl)
    (of_order 74058212732561358302231226437062788676166966415465897661863160754340907 31757755568855353 50366660687963342066214195241331738400016478712605795091965648721912165 18232248056023258384404751131439975669387062239511397558448549501188471 (lit< tt) (lit< tt) refl refl)

pub prime_number : IsPrime 57896044618658097711785492504343953926634992332820282019728792003956564819949
unfolding pow_mod
prime_number =
    by_one 57896044618658097711785492504343953926634992332820282019728792003956564819949 74058212732561358302231226437062788676166966415465897661863160754340907 (lit< tt) (lit< tt) prime-9 (of_order 57896044618658097711785492504343953926634992332820282019728792003956564819949 74058212732561358302231226437062788676166966415465897661863160754340907 427094198651976259540344842774561673889945192655078505504941250475370961481 55540832096118778044507775605005710249233119951144946814680141076505643269084 (lit< tt) (lit< tt) refl refl)

-- 2^255 - 19 is prime
pub prime_p : IsPrimeElement (2 ^ 255 - 19)
prime_p = prime_of (2 ^ 255 - 19) prime_number
