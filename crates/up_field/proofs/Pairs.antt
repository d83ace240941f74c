-- Sums of multiples of two points.
unfoldable pub use Rattle.up_curve.specs.Curve.{add, multiple}
use Rattle.std.proofs.Common.{◌≡◌, ℕ, ◌+◌, ◌*◌, refl, sym, ◌∙◌, ap, ap₂, subst, arith}
use Rattle.up_curve.specs.Curve.{Point, neutral}
use Rattle.up_curve.specs.Points.{IsPoint}
use Rattle.up_curve.proofs.Curve.{add_point, add_associative, add_comm, add_neutral, neutral_point, multiple_point, multiple-add, multiple-mul}
use Rattle.up_curve.specs.Laws.{negated}
use Rattle.up_curve.proofs.Negated.{negated_point, add_negated}
use Rattle.up_field.specs.Sides.{Lies}
use Rattle.up_field.specs.Tables.{pair}
use Rattle.up_field.specs.declared.sides.Projective.{Projective}
use Rattle.up_field.proofs.Chains.{cancel_right}

interchange : (a b c d : Point) → IsPoint a → IsPoint b → IsPoint c → IsPoint d → add (add a b) (add c d) ≡ add (add a c) (add b d)
interchange a b c d h k l m =
    add_associative a b (add c d) h k (add_point c d l m)
    ∙ ap (add a) (sym (add_associative b c d k l m) ∙ ap (λ z. add z d) (add_comm b c) ∙ add_associative c b d l k m)
    ∙ sym (add_associative a c (add b d) h l (add_point b d k m))

module _ (m n : Point) (h : IsPoint m) (k : IsPoint n) where
  pub pair-second : (c e j : ℕ) → add (pair c e m n) (multiple j n) ≡ pair c (e + j) m n
  pair-second c e j =
      add_associative (multiple c m) (multiple e n) (multiple j n) (multiple_point c m h) (multiple_point e n k) (multiple_point j n k)
      ∙ ap (add (multiple c m)) (sym (multiple-add e j n k))

  pub pair-first : (c e i : ℕ) → add (pair c e m n) (multiple i m) ≡ pair (c + i) e m n
  pair-first c e i =
      add_associative (multiple c m) (multiple e n) (multiple i m) (multiple_point c m h) (multiple_point e n k) (multiple_point i m h)
      ∙ ap (add (multiple c m)) (add_comm (multiple e n) (multiple i m))
      ∙ sym (add_associative (multiple c m) (multiple i m) (multiple e n) (multiple_point c m h) (multiple_point i m h) (multiple_point e n k))
      ∙ ap (λ z. add z (multiple e n)) (sym (multiple-add c i m h))

  pub pair-twice : (c e : ℕ) → add (pair c e m n) (pair c e m n) ≡ pair (2 * c) (2 * e) m n
  pair-twice c e =
      sym (add_associative (pair c e m n) (multiple c m) (multiple e n) (add_point (multiple c m) (multiple e n) (multiple_point c m h) (multiple_point e n k)) (multiple_point c m h) (multiple_point e n k))
      ∙ ap (λ z. add z (multiple e n)) (pair-first c e c)
      ∙ pair-second (c + c) e e
      ∙ ap₂ (λ x y. pair x y m n) (omega arith) (omega arith)

  pub pair-none : neutral ≡ pair 0 0 m n
  unfolding multiple
  pair-none = sym (add_neutral neutral neutral_point)

  both_points : (c e : ℕ) → IsPoint (pair c e m n)
  both_points c e = add_point (multiple c m) (multiple e n) (multiple_point c m h) (multiple_point e n k)

  pair-add : (x y c e : ℕ) → add (pair x y m n) (pair c e m n) ≡ pair (x + c) (y + e) m n
  pair-add x y c e =
      interchange (multiple x m) (multiple y n) (multiple c m) (multiple e n) (multiple_point x m h) (multiple_point y n k) (multiple_point c m h) (multiple_point e n k)
      ∙ ap₂ add (sym (multiple-add x c m h)) (sym (multiple-add y e n k))

  pair-left : (a : ℕ) → multiple a m ≡ pair a 0 m n
  unfolding multiple
  pair-left a = sym (add_comm (multiple a m) neutral ∙ add_neutral (multiple a m) (multiple_point a m h))

  pair-right : (a : ℕ) → multiple a n ≡ pair 0 a m n
  unfolding multiple
  pair-right a = sym (add_neutral (multiple a n) (multiple_point a n k))

  -- a point that with one sum of multiples is another
  pub record Differs (q : Point) (x y c e : ℕ) : Type 0 where
    pub point : IsPoint q
    pub is : add q (pair c e m n) ≡ pair x y m n

  pub differs-none : Differs neutral 0 0 0 0
  differs-none = record { point = neutral_point; is = add_neutral (pair 0 0 m n) (both_points 0 0) }

  pub differs-twice : (q : Point) (x y c e : ℕ) → Differs q x y c e → Differs (add q q) (2 * x) (2 * y) (2 * c) (2 * e)
  differs-twice q x y c e d = record {
    point = add_point q q d.point d.point;
    is = ap (add (add q q)) (sym (pair-twice c e))
        ∙ interchange q q (pair c e m n) (pair c e m n) d.point d.point (both_points c e) (both_points c e)
        ∙ ap₂ add d.is d.is
        ∙ pair-twice x y;
  }

  differs-more : (q : Point) (x y c e a f b g : ℕ) → Differs q x y c e
      → Differs (add (add q (pair a f m n)) (negated (pair b g m n))) (x + a) (y + f) (c + b) (e + g)
  differs-more q x y c e a f b g d =
      let w : Point = pair c e m n in
      let u : Point = pair a f m n in
      let v : Point = pair b g m n in
      let pw = both_points c e in
      let pu = both_points a f in
      let pv = both_points b g in
      let qu = add_point q u d.point pu in
      record {
        point = add_point (add q u) (negated v) qu (negated_point v pv);
        is = ap (add (add (add q u) (negated v))) (sym (pair-add c e b g))
            ∙ interchange (add q u) (negated v) w v qu (negated_point v pv) pw pv
            ∙ ap (add (add (add q u) w)) (add_comm (negated v) v ∙ add_negated v pv)
            ∙ add_comm (add (add q u) w) neutral
            ∙ add_neutral (add (add q u) w) (add_point (add q u) w qu pw)
            ∙ add_associative q u w d.point pu pw
            ∙ ap (add q) (add_comm u w)
            ∙ sym (add_associative q w u d.point pw pu)
            ∙ ap (λ z. add z u) d.is
            ∙ pair-add x y a f;
      }

  pub moved : {q : Point} {x x' y y' c c' e e' : ℕ} → x ≡ x' → y ≡ y' → c ≡ c' → e ≡ e' → Differs q x y c e → Differs q x' y' c' e'
  moved u v w z d = record { point = d.point; is = ap (add _) (sym (ap₂ (λ c e. pair c e m n) w z)) ∙ d.is ∙ ap₂ (λ x y. pair x y m n) u v }

  pub differs-first : (q : Point) (x y c e a b : ℕ) → Differs q x y c e
      → Differs (add (add q (multiple a m)) (negated (multiple b m))) (x + a) y (c + b) e
  differs-first q x y c e a b d =
      let r = differs-more q x y c e a 0 b 0 d in
      let s = ap₂ (λ u v. add (add q u) (negated v)) (pair-left a) (pair-left b) in
      subst (λ z. Differs z (x + a) y (c + b) e) (sym s)
      (moved refl (let z : y + 0 ≡ y = omega arith in z) refl (let z : e + 0 ≡ e = omega arith in z) r)

  turned : (d w : ℕ) → multiple d (multiple w m) ≡ multiple (w * d) m
  turned d w = sym (multiple-mul d w m h) ∙ ap (λ z. multiple z m) (omega arith)

  pub differs-far : (w : ℕ) (q : Point) (x y c e a b : ℕ) → Differs q x y c e
      → Differs (add (add q (multiple a (multiple w m))) (negated (multiple b (multiple w m)))) (x + w * a) y (c + w * b) e
  differs-far w q x y c e a b d =
      subst (λ z. Differs z (x + w * a) y (c + w * b) e) (sym (ap₂ (λ u v. add (add q u) (negated v)) (turned a w) (turned b w)))
      (differs-first q x y c e (w * a) (w * b) d)

  pub differs-second : (q : Point) (x y c e a b : ℕ) → Differs q x y c e
      → Differs (add (add q (multiple a n)) (negated (multiple b n))) x (y + a) c (e + b)
  differs-second q x y c e a b d =
      let r = differs-more q x y c e 0 a 0 b d in
      let s = ap₂ (λ u v. add (add q u) (negated v)) (pair-right a) (pair-right b) in
      subst (λ z. Differs z x (y + a) c (e + b)) (sym s)
      (moved (let z : x + 0 ≡ x = omega arith in z) refl (let z : c + 0 ≡ c = omega arith in z) refl r)

  pub differs-all : (q : Point) (x y c e : ℕ) → Differs q (x + c) (y + e) c e → q ≡ pair x y m n
  differs-all q x y c e d = cancel_right q (pair x y m n) (pair c e m n) d.point (both_points x y) (both_points c e) (d.is ∙ sym (pair-add x y c e))

  -- coordinates of such a point, without T
  pub record LiesBy (r : Projective) (x y c e : ℕ) : Type 0 where
    pub at : Point
    pub lies : Lies r at
    pub differs : Differs at x y c e
