-- What bytes are decoded as is a point, and its encoding is the bytes.
use Rattle.std.proofs.Common.{◌≡◌, ◌≢◌, ℕ, zero, suc, ◌+◌, ◌*◌, ◌/◌, ◌-◌, ◌^◌, ◌%◌, ◌<◌, refl, sym, ◌∙◌, ap, ap₂, arith, pow-suc, mod-lt, lit<, Bool, true, false, ◌&&◌, eqb, ltb, eqb-true, eq-eqb, ltb-true, subst, List, [], ◌∷◌, length, Option, None, Some, if◌then◌else◌}
use Rattle.std.proofs.Math.Nat.{pow-zero}
use Rattle.std.proofs.lemmas.Bool.{and_parts, eqb-false, false≢true}
use Rattle.std.specs.List.{list_all}
use Rattle.up_curve.specs.Field.{p, sqrt_minus_one}
use Rattle.up_curve.specs.Curve.{Point}
use Rattle.up_curve.specs.Points.{IsPoint}
use Rattle.up_curve.specs.LittleEndian.{is_byte}
use Rattle.up_curve.specs.Laws.{IsDecoded}
use Rattle.up_curve.proofs.Ring.{num, var, plus, times, same_by}
use Rattle.up_curve.proofs.Decode.{u_of, v_of, number, bytes, candidate, root_of, encode, signed, with_root, point_of, decode, candidate_below, picked_root, root_on_curve}

-- ---- bytes

pub number-below : (bs : List ℕ) → list_all is_byte bs ≡ true → number bs < 256 ^ length bs
unfolding number
number-below [] h = omega (arith, pow-zero 256)
number-below (b ∷ bs) h =
    omega (arith, ltb-true b 256 (and_parts _ _ h).0, number-below bs (and_parts _ _ h).1, pow-suc 256 (length bs))

pub bytes-number : (bs : List ℕ) → list_all is_byte bs ≡ true → bytes (length bs) (number bs) ≡ bs
unfolding number bytes
bytes-number [] h = refl
bytes-number (b ∷ bs) h =
    let low : b < 256 = ltb-true b 256 (and_parts _ _ h).0 in
    ap₂ (λ (c : ℕ) (cs : List ℕ). c ∷ cs) (let e : (b + 256 * number bs) % 256 ≡ b = omega (arith, low) in e)
    (ap (bytes (length bs)) (let e : (b + 256 * number bs) / 256 ≡ number bs = omega (arith, low) in e) ∙ bytes-number bs (and_parts _ _ h).1)

-- ---- points

-- it is a point, and its coordinates write the number
record IsPointOf (n : ℕ) (a : Point) : Type 0 where
  point : IsPoint a
  is : a.y + 2 ^ 255 * (a.x % 2) ≡ n

some_is : {A : Type 0} {a b : A} → Some a ≡ Some b → a ≡ b
some_is e = cc

root_below : (u v c r : ℕ) → c < p → root_of u v c ≡ Some r → r < p
unfolding root_of
root_below u v c r h e = at_first (eqb ((v * (c * c)) % p) (u % p)) e
  where
    at_second : (t : Bool) → (if t then Some ((c * sqrt_minus_one) % p) else None) ≡ Some r → r < p
    at_second true e = omega (arith, some_is e, mod-lt (c * sqrt_minus_one) {m = p} (lit< tt))
    at_second false e = absurd (cc)

    at_first : (t : Bool) → (if t then Some c else (if eqb ((v * (c * c) + u) % p) 0 then Some ((c * sqrt_minus_one) % p) else None)) ≡ Some r → r < p
    at_first true e = omega (arith, some_is e, h)
    at_first false e = at_second (eqb ((v * (c * c) + u) % p) 0) e

not_zero : (s r : ℕ) → (eqb r 0 && eqb s 1) ≡ false → s < 2 → r % 2 ≢ s → 0 < r
not_zero s zero e h k = absurd (false≢true (sym e ∙ eq-eqb s 1 (omega (arith, h, k))))
not_zero s (suc r) e h k = omega arith

-- the negative of a root is one
pub other_root : (v u r n : ℕ) → n + r ≡ p → (v * (r * r)) % p ≡ u % p → (v * (n * n)) % p ≡ u % p
other_root v u r n h k =
    same_by p (times (var 0) (times (var 3) (var 3))) (var 1) (v ∷ u ∷ r ∷ n ∷ [])
    ((num 1, times (var 0) (times (var 2) (var 2)), var 1)
    ∷ (times (var 0) (plus (var 3) (times (num (p - 1)) (var 2))), plus (var 3) (var 2), num 0)
    ∷ [])
    (k, (ap (λ z. z % p) h, tt)) refl

signed_point : (n s y r : ℕ) (a : Point) → n ≡ y + 2 ^ 255 * s → s < 2 → y < p → r < p → (v_of y * (r * r)) % p ≡ u_of y % p
    → signed s y r ≡ Some a → IsPointOf n a
unfolding signed
signed_point n s y r a e two ly lr root k = at_first (eqb r 0 && eqb s 1) refl k
  where
    same : IsPoint (record { x = r; y = y })
    same = record { curve = root_on_curve r y root; x_below = lr; y_below = ly }

    other : 0 < r → IsPoint (record { x = p - r; y = y })
    other z = record {
      curve = root_on_curve (p - r) y (other_root (v_of y) (u_of y) r (p - r) (omega (arith, lr)) root);
      x_below = omega (arith, z);
      y_below = ly;
    }

    at_second : (eqb r 0 && eqb s 1) ≡ false → (t : Bool) → eqb (r % 2) s ≡ t
        → (if t then Some (record { x = r; y = y }) else Some (record { x = p - r; y = y })) ≡ Some a → IsPointOf n a
    at_second f true g k = subst (IsPointOf n) (some_is k) (record { point = same; is = ap (λ z. y + 2 ^ 255 * z) (eqb-true (r % 2) s g) ∙ sym e })
    at_second f false g k =
        let z : 0 < r = not_zero s r f two (eqb-false (r % 2) s g) in
        subst (IsPointOf n) (some_is k) (record { point = other z; is = omega (arith, e, two, z, lr, eqb-false (r % 2) s g) })

    at_first : (t : Bool) → (eqb r 0 && eqb s 1) ≡ t
        → (if t then None else (if eqb (r % 2) s then Some (record { x = r; y = y }) else Some (record { x = p - r; y = y }))) ≡ Some a → IsPointOf n a
    at_first true f k = absurd (cc)
    at_first false f k = at_second f (eqb (r % 2) s) refl k

point_of_point : (n : ℕ) (a : Point) → n < 2 ^ 256 → point_of n ≡ Some a → IsPointOf n a
unfolding point_of with_root
point_of_point n a h e = at_first (ltb (n % 2 ^ 255) p) refl e
  where
    y : ℕ
    y = n % 2 ^ 255

    u : ℕ
    u = u_of y

    v : ℕ
    v = v_of y

    at_root : y < p → (o : Option ℕ) → root_of u v (candidate u v) ≡ o → with_root (n / 2 ^ 255) y o ≡ Some a → IsPointOf n a
    at_root ly None k e = absurd (cc)
    at_root ly (Some r) k e =
        signed_point n (n / 2 ^ 255) y r a (omega arith) (omega (arith, h)) ly (root_below u v (candidate u v) r (candidate_below u v) k)
        (picked_root u v (candidate u v) r k) e

    at_first : (t : Bool) → ltb y p ≡ t
        → (if t then with_root (n / 2 ^ 255) y (root_of u v (candidate u v)) else None) ≡ Some a → IsPointOf n a
    at_first true k e = at_root (ltb-true y p k) (root_of u v (candidate u v)) refl e
    at_first false k e = absurd (cc)

pub decoded : (bs : List ℕ) (a : Point) → list_all is_byte bs ≡ true → decode bs ≡ Some a → IsDecoded bs a
unfolding decode encode
decoded bs a h e = at_length (eqb (length bs) 32) refl e
  where
    from : length bs ≡ 32 → IsPointOf (number bs) a → IsDecoded bs a
    from l q = record {
      point = q.point;
      encoded = ap (bytes 32) q.is ∙ ap (λ k. bytes k (number bs)) (sym l) ∙ bytes-number bs h;
    }

    at_length : (t : Bool) → eqb (length bs) 32 ≡ t → (if t then point_of (number bs) else None) ≡ Some a → IsDecoded bs a
    at_length true k e =
        let l : length bs ≡ 32 = eqb-true (length bs) 32 k in
        from l (point_of_point (number bs) a (omega (arith, number-below bs h, ap (λ k. 256 ^ k) l)) e)
    at_length false k e = absurd (cc)
