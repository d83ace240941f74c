-- The equation of a signature, with all on one side.
unfoldable pub use Rattle.up_curve.specs.Curve.{add, multiple}
use Rattle.std.proofs.Common.{◌≡◌, ℕ, ◌+◌, ◌&&◌, refl, sym, ◌∙◌, ap, ap₂, Bool, true, false, eqb, eqb-true, eq-eqb}
use Rattle.up_curve.specs.Curve.{Point, neutral, base, order}
use Rattle.up_curve.specs.Signatures.{is_same_point}
use Rattle.up_curve.specs.Points.{IsPoint}
use Rattle.up_curve.proofs.Curve.{add_point, add_associative, add_comm, add_neutral, multiple_point, multiple-add, base_point, order_of_base}
use Rattle.up_field.specs.Tables.{pair}

same_is : (a b : Point) → a ≡ b → is_same_point a b ≡ true
same_is a b e = ap₂ (λ m n. m && n) (eq-eqb a.x b.x (ap (λ (q : Point). q.x) e)) (eq-eqb a.y b.y (ap (λ (q : Point). q.y) e))

is_same : (a b : Point) → is_same_point a b ≡ true → a ≡ b
is_same a b e = from (eqb a.x b.x) refl (eqb a.y b.y) refl e
  where
    from : (s : Bool) → eqb a.x b.x ≡ s → (t : Bool) → eqb a.y b.y ≡ t → is_same_point a b ≡ true → a ≡ b
    from true h true k e = ap₂ (λ (u v : ℕ). let q : Point = record { x = u; y = v } in q) (eqb-true a.x b.x h) (eqb-true a.y b.y k)
    from true h false k e = let f : false ≡ true = sym (ap₂ (λ m n. m && n) h k) ∙ e in absurd (cc)
    from false h true k e = let f : false ≡ true = sym (ap₂ (λ m n. m && n) h k) ∙ e in absurd (cc)
    from false h false k e = let f : false ≡ true = sym (ap₂ (λ m n. m && n) h k) ∙ e in absurd (cc)

same_tests : (a b c d : Point) → (a ≡ b → c ≡ d) → (c ≡ d → a ≡ b) → is_same_point a b ≡ is_same_point c d
same_tests a b c d h k = from (is_same_point a b) refl (is_same_point c d) refl
  where
    from : (s : Bool) → is_same_point a b ≡ s → (t : Bool) → is_same_point c d ≡ t → is_same_point a b ≡ is_same_point c d
    from true e true f = e ∙ sym f
    from false e false f = e ∙ sym f
    from true e false f = e ∙ sym (same_is c d (h (is_same a b e)))
    from false e true f = same_is a b (k (is_same c d f)) ∙ sym f

-- [s]B = n + [k]m when n + [k]m + [t]B is neutral, where s + t is the order
pub one_side : (s k t : ℕ) (m n : Point) → IsPoint m → IsPoint n → t + s ≡ order
    → is_same_point (add n (pair k t m base)) neutral ≡ is_same_point (multiple s base) (add n (multiple k m))
one_side s k t m n h l e = same_tests (add n (pair k t m base)) neutral (multiple s base) (add n (multiple k m)) to back
  where
    hq : IsPoint (multiple k m)
    hq = multiple_point k m h

    hs : IsPoint (multiple s base)
    hs = multiple_point s base base_point

    ht : IsPoint (multiple t base)
    ht = multiple_point t base base_point

    hn : IsPoint (add n (multiple k m))
    hn = add_point n (multiple k m) l hq

    -- n + (q + [t]B) = (n + q) + [t]B
    grouped : add n (pair k t m base) ≡ add (add n (multiple k m)) (multiple t base)
    grouped = sym (add_associative n (multiple k m) (multiple t base) l hq ht)

    whole : add (multiple t base) (multiple s base) ≡ neutral
    whole = sym (multiple-add t s base base_point) ∙ ap (λ z. multiple z base) e ∙ order_of_base

    to : add n (pair k t m base) ≡ neutral → multiple s base ≡ add n (multiple k m)
    to f =
        sym (add_neutral (multiple s base) hs)
        ∙ ap (λ z. add z (multiple s base)) (sym f ∙ grouped)
        ∙ add_associative (add n (multiple k m)) (multiple t base) (multiple s base) hn ht hs
        ∙ ap (add (add n (multiple k m))) whole
        ∙ add_comm (add n (multiple k m)) neutral ∙ add_neutral (add n (multiple k m)) hn

    back : multiple s base ≡ add n (multiple k m) → add n (pair k t m base) ≡ neutral
    back f = grouped ∙ ap (λ z. add z (multiple t base)) (sym f) ∙ add_comm (multiple s base) (multiple t base) ∙ whole
