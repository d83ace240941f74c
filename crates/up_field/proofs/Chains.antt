-- Multiples of the base point by a list of sums, each of them checked by its coordinates.
use Rattle.std.proofs.Common.{◌≡◌, ◌≢◌, ℕ, zero, suc, ◌+◌, ◌*◌, ◌-◌, ◌%◌, ◌<◌, Bool, true, false, ◌&&◌, eqb, ltb, eqb-true, ltb-true, List, [], ◌∷◌, length, get_or, refl, sym, ◌∙◌, ap, ap₂, subst, arith, mod-eq_of_lt}
use Rattle.up_curve.specs.Field.{p, inverse}
use Rattle.up_curve.specs.Curve.{d, Point, add, multiple, base, neutral}
use Rattle.up_curve.specs.Points.{IsPoint}
use Rattle.up_curve.specs.Laws.{negated}
use Rattle.up_curve.proofs.Group as Group
use Rattle.up_curve.proofs.Prime.{prime_p}
use Rattle.up_curve.proofs.Curve.{inverts, nonsquare, sum_of, add_point, add_comm, add_neutral, add_associative, multiple_point, multiple-add, multiple-one, base_point}
use Rattle.up_curve.proofs.Negated.{negated_point, add_negated}
use Rattle.up_field.specs.declared.affine.Affine.{Affine}
use Rattle.up_field.specs.Affine.{Keeps}
use Rattle.up_field.specs.Points.{number}

-- ---- the sum of two points is the one whose coordinates fit

cancels : (a b c : ℕ) → c % p ≢ 0 → (a * c) % p ≡ (b * c) % p → a % p ≡ b % p
cancels = Group.cancel inverse prime_p inverts nonsquare

same_point : (a b : Point) → a.x ≡ b.x → a.y ≡ b.y → a ≡ b
same_point a b e k = ap₂ (λ (u v : ℕ). let q : Point = record { x = u; y = v } in q) e k

same_below : (a b : ℕ) → a < p → b < p → a % p ≡ b % p → a ≡ b
same_below a b h k e = sym (mod-eq_of_lt {n = a} {m = p} h) ∙ e ∙ mod-eq_of_lt {n = b} {m = p} k

sum_is : (a b r : Point) → IsPoint a → IsPoint b → IsPoint r
    → (r.x * (1 + d * (a.x * b.x * (a.y * b.y)))) % p ≡ (a.x * b.y + b.x * a.y) % p
    → (r.y * (1 + (p - 1) * (d * (a.x * b.x * (a.y * b.y))))) % p ≡ (a.y * b.y + a.x * b.x) % p
    → add a b ≡ r
sum_is a b r h k l ex ey =
    let s = sum_of a b h k in
    let q : IsPoint (add a b) = add_point a b h k in
    same_point (add a b) r
    (same_below (add a b).x r.x q.x_below l.x_below
    (cancels (add a b).x r.x (1 + d * (a.x * b.x * (a.y * b.y))) (Group.g_nonzero inverse prime_p inverts nonsquare a.x a.y b.x b.y h.curve k.curve) (s.x ∙ sym ex)))
    (same_below (add a b).y r.y q.y_below l.y_below
    (cancels (add a b).y r.y (1 + (p - 1) * (d * (a.x * b.x * (a.y * b.y)))) (Group.f_nonzero inverse prime_p inverts nonsquare a.x a.y b.x b.y h.curve k.curve) (s.y ∙ sym ey)))

-- a point that is added on both sides is left out
pub cancel_right : (a b c : Point) → IsPoint a → IsPoint b → IsPoint c → add a c ≡ add b c → a ≡ b
cancel_right a b c h k l e = sym (back a h) ∙ ap (λ z. add z (negated c)) e ∙ back b k
  where
    back : (z : Point) → IsPoint z → add (add z c) (negated c) ≡ z
    back z m =
        add_associative z c (negated c) m l (negated_point c l)
        ∙ ap (add z) (add_negated c l)
        ∙ add_comm z neutral
        ∙ add_neutral z m

-- ---- steps

-- a point, and the number whose multiple of the base point it is
pub record Known : Type 0 where
  pub n : ℕ
  pub x : ℕ
  pub y : ℕ

abbrev pub point_of : Known → Point
point_of k = record { x = k.x; y = k.y }

-- a point by the i-th and the j-th of those before it, the last first: it is their sum, or its sum with the one is the other
pub record Step : Type 0 where
  pub less : Bool
  pub shown : Bool
  pub i : ℕ
  pub j : ℕ
  pub known : Known

-- a sum that isn't shown, one that is, and a difference that is
abbrev pub sum : ℕ → ℕ → ℕ → ℕ → ℕ → Step
sum i j n x y = record { less = false; shown = false; i = i; j = j; known = record { n = n; x = x; y = y } }

abbrev pub shown : ℕ → ℕ → ℕ → ℕ → ℕ → Step
shown i j n x y = record { less = false; shown = true; i = i; j = j; known = record { n = n; x = x; y = y } }

abbrev pub less : ℕ → ℕ → ℕ → ℕ → ℕ → Step
less i j n x y = record { less = true; shown = true; i = i; j = j; known = record { n = n; x = x; y = y } }

abbrev pub first : Known
first = record { n = 1; x = base.x; y = base.y }

abbrev pub is_point : Point → Bool
is_point a = eqb ((a.y * a.y) % p) ((1 + (a.x * a.x + d * (a.x * a.x * (a.y * a.y)))) % p) && (ltb a.x p && ltb a.y p)

abbrev pub is_sum : Point → Point → Point → Bool
is_sum a b r =
    eqb ((r.x * (1 + d * (a.x * b.x * (a.y * b.y)))) % p) ((a.x * b.y + b.x * a.y) % p)
    && eqb ((r.y * (1 + (p - 1) * (d * (a.x * b.x * (a.y * b.y))))) % p) ((a.y * b.y + a.x * b.x) % p)

abbrev pub is_linked : Bool → Known → Known → Known → Bool
is_linked false a b r = eqb r.n (a.n + b.n) && is_sum (point_of a) (point_of b) (point_of r)
is_linked true a b r = eqb (r.n + a.n) b.n && is_sum (point_of r) (point_of a) (point_of b)

abbrev pub is_kept : Known → Affine → Bool
is_kept k e =
    eqb (number e.plus % p) ((k.y + k.x) % p)
    && (eqb (number e.minus % p) ((k.y + (p - 1) * k.x) % p) && eqb (number e.t % p) ((2 * d * (k.x * k.y)) % p))

abbrev pub is_shown : Bool → Known → List Affine → Bool
is_shown false k ts = true
is_shown true k [] = false
is_shown true k (e ∷ ts) = is_kept k e

abbrev pub rest : Bool → List Affine → List Affine
rest false ts = ts
rest true [] = []
rest true (e ∷ ts) = ts

-- each step fits those before it, and what is shown is the table
unfoldable pub is_chain : List Step → List Known → List Affine → Bool
is_chain [] known [] = true
is_chain [] known (e ∷ ts) = false
is_chain (s ∷ ss) known ts =
    (is_point (point_of s.known) && (is_linked s.less (get_or known s.i first) (get_or known s.j first) s.known && is_shown s.shown s.known ts))
    && is_chain ss (s.known ∷ known) (rest s.shown ts)

abbrev pub listed : Bool → ℕ → List ℕ → List ℕ
listed false n ns = ns
listed true n ns = n ∷ ns

-- the numbers of those that are shown
unfoldable pub numbers : List Step → List ℕ
numbers [] = []
numbers (s ∷ ss) = listed s.shown s.known.n (numbers ss)

-- ---- what a chain proves

pub record IsKnown (k : Known) : Type 0 where
  pub point : IsPoint (point_of k)
  pub is : multiple k.n base ≡ point_of k

pub record AllKnown (ks : List Known) : Type 0 where
  pub each : (i : ℕ) → IsKnown (get_or ks i first)

-- an entry that keeps a multiple
pub record IsEntry (e : Affine) (n : ℕ) : Type 0 where
  pub keeps : Keeps e (multiple n base)

both : (a b : Bool) → (a && b) ≡ true → (a ≡ true) × (b ≡ true)
both true true e = (refl, refl)
both true false e = (refl, e)
both false b e = (e, absurd (let k : false ≡ true = e in cc))

first_known : IsKnown first
first_known = record { point = base_point; is = multiple-one base base_point }

pub all_first : AllKnown (first ∷ [])
all_first = record { each = at }
  where
    at : (i : ℕ) → IsKnown (get_or (first ∷ []) i first)
    at zero = first_known
    at (suc i) = first_known

more : (k : Known) (ks : List Known) → IsKnown k → AllKnown ks → AllKnown (k ∷ ks)
more k ks h all = record { each = at }
  where
    at : (i : ℕ) → IsKnown (get_or (k ∷ ks) i first)
    at zero = h
    at (suc i) = all.each i

point_is : (a : Point) → is_point a ≡ true → IsPoint a
point_is a e =
    let x = both _ _ e in
    let y = both (ltb a.x p) (ltb a.y p) x.1 in
    record { curve = eqb-true _ _ x.0; x_below = ltb-true a.x p y.0; y_below = ltb-true a.y p y.1 }

sum_fits : (a b r : Point) → IsPoint a → IsPoint b → IsPoint r → is_sum a b r ≡ true → add a b ≡ r
sum_fits a b r h k l e = let x = both _ _ e in sum_is a b r h k l (eqb-true _ _ x.0) (eqb-true _ _ x.1)

linked_is : (t : Bool) (a b r : Known) → IsKnown a → IsKnown b → IsPoint (point_of r) → is_linked t a b r ≡ true → IsKnown r
linked_is false a b r h k l e =
    let x = both _ _ e in
    record {
      point = l;
      is = ap (λ z. multiple z base) (eqb-true r.n (a.n + b.n) x.0)
          ∙ multiple-add a.n b.n base base_point
          ∙ ap₂ add h.is k.is
          ∙ sum_fits (point_of a) (point_of b) (point_of r) h.point k.point l x.1;
    }
linked_is true a b r h k l e =
    let x = both _ _ e in
    record {
      point = l;
      is = cancel_right (multiple r.n base) (point_of r) (point_of a) (multiple_point r.n base base_point) l h.point
          (ap (add (multiple r.n base)) (sym h.is)
          ∙ sym (multiple-add r.n a.n base base_point)
          ∙ ap (λ z. multiple z base) (eqb-true (r.n + a.n) b.n x.0)
          ∙ k.is
          ∙ sym (sum_fits (point_of r) (point_of a) (point_of b) l h.point k.point x.1));
    }

kept_is : (k : Known) (e : Affine) → IsKnown k → is_kept k e ≡ true → IsEntry e k.n
kept_is k e h t =
    let u = both _ _ t in
    let v = both _ _ u.1 in
    let keeps : Keeps e (point_of k) = record { point = h.point; holds = record { plus_is = eqb-true _ _ u.0; minus_is = eqb-true _ _ v.0; t_is = eqb-true _ _ v.1 } } in
    record { keeps = subst (Keeps e) (sym h.is) keeps }

-- the table's entries keep the multiples by the numbers that are shown
pub chain_is : (ss : List Step) (ks : List Known) (ts : List Affine) → AllKnown ks → is_chain ss ks ts ≡ true
    → (j : ℕ) → j < length ts → (q : Affine) → IsEntry (get_or ts j q) (get_or (numbers ss) j 0)
unfolding is_chain numbers
chain_is [] ks [] all e j l q = absurd (omega arith)
chain_is [] ks (t ∷ ts) all e j l q = absurd (let k : false ≡ true = e in cc)
chain_is (s ∷ ss) ks ts all e j l q =
    let a = both (is_point (point_of s.known) && (is_linked s.less (get_or ks s.i first) (get_or ks s.j first) s.known && is_shown s.shown s.known ts)) (is_chain ss (s.known ∷ ks) (rest s.shown ts)) e in
    let b = both (is_point (point_of s.known)) (is_linked s.less (get_or ks s.i first) (get_or ks s.j first) s.known && is_shown s.shown s.known ts) a.0 in
    let c = both (is_linked s.less (get_or ks s.i first) (get_or ks s.j first) s.known) (is_shown s.shown s.known ts) b.1 in
    let known : IsKnown s.known = linked_is s.less (get_or ks s.i first) (get_or ks s.j first) s.known (all.each s.i) (all.each s.j) (point_is (point_of s.known) b.0) c.0 in
    at s.shown s.known known ts c.1 (chain_is ss (s.known ∷ ks) (rest s.shown ts) (more s.known ks known all) a.1) j l
  where
    at : (t : Bool) (k : Known) → IsKnown k → (us : List Affine) → is_shown t k us ≡ true
        → ((i : ℕ) → i < length (rest t us) → (r : Affine) → IsEntry (get_or (rest t us) i r) (get_or (numbers ss) i 0))
        → (i : ℕ) → i < length us → IsEntry (get_or us i q) (get_or (listed t k.n (numbers ss)) i 0)
    at false k h us f g i m = g i m q
    at true k h [] f g i m = absurd (let z : false ≡ true = f in cc)
    at true k h (u ∷ us) f g zero m = kept_is k u h f
    at true k h (u ∷ us) f g (suc i) m = g i (omega arith) q
