-- The sum of points of the curve -x^2 + y^2 = 1 + d x^2 y^2 (RFC 8032, section 5.1) is associative: the two identities.
pub use Rattle.up_curve.specs.Field.{p}
use Rattle.std.proofs.Common.{◌≡◌, ℕ, ◌+◌, ◌*◌, ◌-◌, ◌%◌, refl, [], ◌∷◌}
use Rattle.up_curve.proofs.Ring.{Term, num, var, plus, times, value, same_by, Facts}

abbrev pub minus : Term → Term
minus t = times (num (p - 1)) t

abbrev pub v0 : Term
v0 = var 0

abbrev pub v1 : Term
v1 = var 1

abbrev pub v2 : Term
v2 = var 2

abbrev pub v3 : Term
v3 = var 3

abbrev pub v4 : Term
v4 = var 4

abbrev pub v5 : Term
v5 = var 5

abbrev pub v6 : Term
v6 = var 6

abbrev pub factor_x0 : Term
factor_x0 = (plus (plus (plus (plus (minus (times (times (times (times (times (times (times (times (times (times (times (times v0 v2) v2) v2) v2) v3) v3) v3) v4) v4) v5) v6) v6)) (minus (times (times (times (times (times (times (times (times (times v0 v2) v2) v2) v2) v3) v4) v4) v5) v6))) (plus (minus (times (times (times (times (times (times (times (times (times (times (times (times v0 v2) v2) v2) v3) v3) v3) v3) v4) v5) v5) v6) v6)) (minus (times (times (times (times (times (times (times (times (times v0 v2) v2) v2) v3) v3) v4) v4) v4) v6)))) (plus (plus (minus (times (times (times (times (times (times (times v0 v2) v2) v2) v3) v3) v4) v6)) (times (times (times (times (times (times (times (times (times v0 v2) v2) v3) v3) v3) v5) v5) v5) v6)) (plus (minus (times (times (times (times (times (times (times v0 v2) v2) v3) v3) v3) v5) v6)) (times (times (times (times (times (times (times (times (times v0 v2) v3) v3) v3) v3) v4) v5) v5) v6)))) (plus (plus (plus (times (times (times (times (times (times (times (times (times (times (times (times v1 v2) v2) v2) v2) v3) v3) v3) v4) v5) v5) v6) v6) (times (times (times (times (times (times (times (times (times v1 v2) v2) v2) v2) v3) v4) v5) v5) v6)) (plus (times (times (times (times (times (times (times (times (times (times (times (times v1 v2) v2) v2) v3) v3) v3) v3) v4) v4) v5) v6) v6) (times (times (times (times (times (times (times (times (times v1 v2) v2) v2) v3) v3) v5) v5) v5) v6))) (plus (plus (minus (times (times (times (times (times (times (times v1 v2) v2) v2) v3) v3) v5) v6)) (minus (times (times (times (times (times (times (times (times (times v1 v2) v2) v3) v3) v3) v4) v4) v4) v6))) (plus (minus (times (times (times (times (times (times (times v1 v2) v2) v3) v3) v3) v4) v6)) (minus (times (times (times (times (times (times (times (times (times v1 v2) v3) v3) v3) v3) v4) v4) v5) v6))))))

abbrev pub factor_x1 : Term
factor_x1 = (plus (plus (plus (plus (times (times (times (times (times (times (times (times (times v0 v0) v0) v2) v2) v3) v4) v4) v5) v6) (times (times (times (times (times (times (times (times (times v0 v0) v0) v2) v3) v3) v4) v5) v5) v6)) (plus (minus (times (times (times (times (times (times (times (times (times v0 v0) v1) v2) v2) v3) v4) v4) v4) v6)) (minus (times (times (times (times (times (times (times v0 v0) v1) v2) v2) v3) v4) v6)))) (plus (plus (minus (times (times (times (times (times (times (times (times (times v0 v0) v1) v2) v3) v3) v5) v5) v5) v6)) (times (times (times (times (times (times (times v0 v0) v1) v2) v3) v3) v5) v6)) (plus (minus (times (times (times (times (times (times (times (times (times v0 v1) v1) v2) v2) v3) v5) v5) v5) v6)) (times (times (times (times (times (times (times v0 v1) v1) v2) v2) v3) v5) v6)))) (plus (plus (plus (minus (times (times (times (times (times (times (times (times (times v0 v1) v1) v2) v3) v3) v4) v4) v4) v6)) (minus (times (times (times (times (times (times (times v0 v1) v1) v2) v3) v3) v4) v6))) (plus (times (times (times (times (times (times (times v0 v2) v2) v3) v4) v4) v5) v6) (times (times (times (times (times (times (times v0 v2) v3) v3) v4) v5) v5) v6))) (plus (plus (times (times (times (times (times (times (times (times (times v1 v1) v1) v2) v2) v3) v4) v5) v5) v6) (times (times (times (times (times (times (times (times (times v1 v1) v1) v2) v3) v3) v4) v4) v5) v6)) (plus (minus (times (times (times (times (times (times (times v1 v2) v2) v3) v4) v5) v5) v6)) (minus (times (times (times (times (times (times (times v1 v2) v3) v3) v4) v4) v5) v6))))))

abbrev pub factor_x2 : Term
factor_x2 = (plus (plus (plus (plus (times (times (times (times (times (times (times (times (times v0 v0) v0) v2) v2) v2) v3) v3) v4) v6) (times (times (times (times (times (times (times (times (times v0 v0) v0) v2) v2) v3) v3) v3) v5) v6)) (plus (times (times (times (times (times (times (times (times (times (times (times (times v0 v0) v1) v2) v2) v2) v2) v3) v3) v3) v4) v6) v6) (times (times (times (times (times (times (times (times (times v0 v0) v1) v2) v2) v2) v2) v3) v4) v6))) (plus (plus (minus (times (times (times (times (times (times (times (times (times (times (times (times v0 v0) v1) v2) v2) v2) v3) v3) v3) v3) v5) v6) v6)) (times (times (times (times (times (times (times (times (times v0 v0) v1) v2) v3) v3) v3) v3) v5) v6)) (plus (minus (times (times (times (times (times (times (times (times (times (times (times (times v0 v1) v1) v2) v2) v2) v2) v3) v3) v3) v5) v6) v6)) (minus (times (times (times (times (times (times (times (times (times v0 v1) v1) v2) v2) v2) v2) v3) v5) v6))))) (plus (plus (plus (times (times (times (times (times (times (times (times (times (times (times (times v0 v1) v1) v2) v2) v2) v3) v3) v3) v3) v4) v6) v6) (minus (times (times (times (times (times (times (times (times (times v0 v1) v1) v2) v3) v3) v3) v3) v4) v6))) (plus (times (times (times (times (times (times (times v0 v2) v2) v2) v3) v3) v4) v6) (times (times (times (times (times (times (times v0 v2) v2) v3) v3) v3) v5) v6))) (plus (plus (minus (times (times (times (times (times (times (times (times (times v1 v1) v1) v2) v2) v2) v3) v3) v5) v6)) (minus (times (times (times (times (times (times (times (times (times v1 v1) v1) v2) v2) v3) v3) v3) v4) v6))) (plus (times (times (times (times (times (times (times v1 v2) v2) v2) v3) v3) v5) v6) (times (times (times (times (times (times (times v1 v2) v2) v3) v3) v3) v4) v6)))))

abbrev pub factor_y0 : Term
factor_y0 = (plus (plus (plus (plus (times (times (times (times (times (times (times (times (times (times (times (times v0 v2) v2) v2) v2) v3) v3) v3) v4) v5) v5) v6) v6) (times (times (times (times (times (times (times (times (times v0 v2) v2) v2) v2) v3) v4) v5) v5) v6)) (plus (times (times (times (times (times (times (times (times (times (times (times (times v0 v2) v2) v2) v3) v3) v3) v3) v4) v4) v5) v6) v6) (times (times (times (times (times (times (times (times (times v0 v2) v2) v2) v3) v3) v5) v5) v5) v6))) (plus (plus (minus (times (times (times (times (times (times (times v0 v2) v2) v2) v3) v3) v5) v6)) (minus (times (times (times (times (times (times (times (times (times v0 v2) v2) v3) v3) v3) v4) v4) v4) v6))) (plus (minus (times (times (times (times (times (times (times v0 v2) v2) v3) v3) v3) v4) v6)) (minus (times (times (times (times (times (times (times (times (times v0 v2) v3) v3) v3) v3) v4) v4) v5) v6))))) (plus (plus (plus (minus (times (times (times (times (times (times (times (times (times (times (times (times v1 v2) v2) v2) v2) v3) v3) v3) v4) v4) v5) v6) v6)) (minus (times (times (times (times (times (times (times (times (times v1 v2) v2) v2) v2) v3) v4) v4) v5) v6))) (plus (minus (times (times (times (times (times (times (times (times (times (times (times (times v1 v2) v2) v2) v3) v3) v3) v3) v4) v5) v5) v6) v6)) (minus (times (times (times (times (times (times (times (times (times v1 v2) v2) v2) v3) v3) v4) v4) v4) v6)))) (plus (plus (minus (times (times (times (times (times (times (times v1 v2) v2) v2) v3) v3) v4) v6)) (times (times (times (times (times (times (times (times (times v1 v2) v2) v3) v3) v3) v5) v5) v5) v6)) (plus (minus (times (times (times (times (times (times (times v1 v2) v2) v3) v3) v3) v5) v6)) (times (times (times (times (times (times (times (times (times v1 v2) v3) v3) v3) v3) v4) v5) v5) v6)))))

abbrev pub factor_y1 : Term
factor_y1 = (plus (plus (plus (plus (minus (times (times (times (times (times (times (times (times (times v0 v0) v0) v2) v2) v3) v4) v5) v5) v6)) (minus (times (times (times (times (times (times (times (times (times v0 v0) v0) v2) v3) v3) v4) v4) v5) v6))) (plus (times (times (times (times (times (times (times (times (times v0 v0) v1) v2) v2) v3) v5) v5) v5) v6) (minus (times (times (times (times (times (times (times v0 v0) v1) v2) v2) v3) v5) v6)))) (plus (plus (times (times (times (times (times (times (times (times (times v0 v0) v1) v2) v3) v3) v4) v4) v4) v6) (times (times (times (times (times (times (times v0 v0) v1) v2) v3) v3) v4) v6)) (plus (times (times (times (times (times (times (times (times (times v0 v1) v1) v2) v2) v3) v4) v4) v4) v6) (times (times (times (times (times (times (times v0 v1) v1) v2) v2) v3) v4) v6)))) (plus (plus (plus (times (times (times (times (times (times (times (times (times v0 v1) v1) v2) v3) v3) v5) v5) v5) v6) (minus (times (times (times (times (times (times (times v0 v1) v1) v2) v3) v3) v5) v6))) (plus (minus (times (times (times (times (times (times (times v0 v2) v2) v3) v4) v5) v5) v6)) (minus (times (times (times (times (times (times (times v0 v2) v3) v3) v4) v4) v5) v6)))) (plus (plus (minus (times (times (times (times (times (times (times (times (times v1 v1) v1) v2) v2) v3) v4) v4) v5) v6)) (minus (times (times (times (times (times (times (times (times (times v1 v1) v1) v2) v3) v3) v4) v5) v5) v6))) (plus (times (times (times (times (times (times (times v1 v2) v2) v3) v4) v4) v5) v6) (times (times (times (times (times (times (times v1 v2) v3) v3) v4) v5) v5) v6)))))

abbrev pub factor_y2 : Term
factor_y2 = (plus (plus (plus (plus (times (times (times (times (times (times (times (times (times v0 v0) v0) v2) v2) v2) v3) v3) v5) v6) (times (times (times (times (times (times (times (times (times v0 v0) v0) v2) v2) v3) v3) v3) v4) v6)) (plus (times (times (times (times (times (times (times (times (times (times (times (times v0 v0) v1) v2) v2) v2) v2) v3) v3) v3) v5) v6) v6) (times (times (times (times (times (times (times (times (times v0 v0) v1) v2) v2) v2) v2) v3) v5) v6))) (plus (plus (minus (times (times (times (times (times (times (times (times (times (times (times (times v0 v0) v1) v2) v2) v2) v3) v3) v3) v3) v4) v6) v6)) (times (times (times (times (times (times (times (times (times v0 v0) v1) v2) v3) v3) v3) v3) v4) v6)) (plus (minus (times (times (times (times (times (times (times (times (times (times (times (times v0 v1) v1) v2) v2) v2) v2) v3) v3) v3) v4) v6) v6)) (minus (times (times (times (times (times (times (times (times (times v0 v1) v1) v2) v2) v2) v2) v3) v4) v6))))) (plus (plus (plus (times (times (times (times (times (times (times (times (times (times (times (times v0 v1) v1) v2) v2) v2) v3) v3) v3) v3) v5) v6) v6) (minus (times (times (times (times (times (times (times (times (times v0 v1) v1) v2) v3) v3) v3) v3) v5) v6))) (plus (times (times (times (times (times (times (times v0 v2) v2) v2) v3) v3) v5) v6) (times (times (times (times (times (times (times v0 v2) v2) v3) v3) v3) v4) v6))) (plus (plus (minus (times (times (times (times (times (times (times (times (times v1 v1) v1) v2) v2) v2) v3) v3) v4) v6)) (minus (times (times (times (times (times (times (times (times (times v1 v1) v1) v2) v2) v3) v3) v3) v5) v6))) (plus (times (times (times (times (times (times (times v1 v2) v2) v2) v3) v3) v4) v6) (times (times (times (times (times (times (times v1 v2) v2) v3) v3) v3) v5) v6)))))

-- the numerators and denominators of a sum, of two points
abbrev pub te : Term → Term → Term → Term → Term
te a b c e = plus (times a e) (times c b)

abbrev pub th : Term → Term → Term → Term → Term
th a b c e = plus (times b e) (times a c)

abbrev pub tk : Term → Term → Term → Term → Term
tk a b c e = times v6 (times (times a c) (times b e))

abbrev pub tf : Term → Term → Term → Term → Term
tf a b c e = plus (num 1) (minus (tk a b c e))

abbrev pub tg : Term → Term → Term → Term → Term
tg a b c e = plus (num 1) (tk a b c e)

-- the numerators and the denominators of the sum of a sum and a point
abbrev pub nx : Term → Term → Term → Term → Term → Term → Term
nx a b c e g h = plus (times (times (te a b c e) (tf a b c e)) h) (times (times (tg a b c e) (th a b c e)) g)

abbrev pub ny : Term → Term → Term → Term → Term → Term → Term
ny a b c e g h = plus (times (times (th a b c e) (tg a b c e)) h) (times (times (te a b c e) (tf a b c e)) g)

abbrev pub dk : Term → Term → Term → Term → Term → Term → Term
dk a b c e g h = times v6 (times (times (te a b c e) (th a b c e)) (times g h))

abbrev pub dx : Term → Term → Term → Term → Term → Term → Term
dx a b c e g h = plus (times (tf a b c e) (tg a b c e)) (dk a b c e g h)

abbrev pub dy : Term → Term → Term → Term → Term → Term → Term
dy a b c e g h = plus (times (tf a b c e) (tg a b c e)) (minus (dk a b c e g h))

-- the sides of the curve's equation
abbrev pub curve_left : Term → Term → Term
curve_left a b = times b b

abbrev pub curve_right : Term → Term → Term
curve_right a b = plus (num 1) (plus (times a a) (times v6 (times (times a a) (times b b))))

abbrev pub facts : Term → Term → Term → Facts
facts r s t = (r, curve_left v0 v1, curve_right v0 v1) ∷ (s, curve_left v2 v3, curve_right v2 v3) ∷ (t, curve_left v4 v5, curve_right v4 v5) ∷ []

abbrev pub OnCurve : ℕ → ℕ → ℕ → Type 0
OnCurve d x y = (y * y) % p ≡ (1 + (x * x + d * (x * x * (y * y)))) % p

pub assoc_x : (x1 y1 x2 y2 x3 y3 d : ℕ) → OnCurve d x1 y1 → OnCurve d x2 y2 → OnCurve d x3 y3
    → value (times (nx v0 v1 v2 v3 v4 v5) (dx v2 v3 v4 v5 v0 v1)) (x1 ∷ y1 ∷ x2 ∷ y2 ∷ x3 ∷ y3 ∷ d ∷ []) % p
    ≡ value (times (nx v2 v3 v4 v5 v0 v1) (dx v0 v1 v2 v3 v4 v5)) (x1 ∷ y1 ∷ x2 ∷ y2 ∷ x3 ∷ y3 ∷ d ∷ []) % p
assoc_x x1 y1 x2 y2 x3 y3 d h1 h2 h3 =
    same_by p (times (nx v0 v1 v2 v3 v4 v5) (dx v2 v3 v4 v5 v0 v1)) (times (nx v2 v3 v4 v5 v0 v1) (dx v0 v1 v2 v3 v4 v5))
    (x1 ∷ y1 ∷ x2 ∷ y2 ∷ x3 ∷ y3 ∷ d ∷ []) (facts factor_x0 factor_x1 factor_x2) (h1, (h2, (h3, tt))) refl

pub assoc_y : (x1 y1 x2 y2 x3 y3 d : ℕ) → OnCurve d x1 y1 → OnCurve d x2 y2 → OnCurve d x3 y3
    → value (times (ny v0 v1 v2 v3 v4 v5) (dy v2 v3 v4 v5 v0 v1)) (x1 ∷ y1 ∷ x2 ∷ y2 ∷ x3 ∷ y3 ∷ d ∷ []) % p
    ≡ value (times (ny v2 v3 v4 v5 v0 v1) (dy v0 v1 v2 v3 v4 v5)) (x1 ∷ y1 ∷ x2 ∷ y2 ∷ x3 ∷ y3 ∷ d ∷ []) % p
assoc_y x1 y1 x2 y2 x3 y3 d h1 h2 h3 =
    same_by p (times (ny v0 v1 v2 v3 v4 v5) (dy v2 v3 v4 v5 v0 v1)) (times (ny v2 v3 v4 v5 v0 v1) (dy v0 v1 v2 v3 v4 v5))
    (x1 ∷ y1 ∷ x2 ∷ y2 ∷ x3 ∷ y3 ∷ d ∷ []) (facts factor_y0 factor_y1 factor_y2) (h1, (h2, (h3, tt))) refl
