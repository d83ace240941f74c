-- Digits that are 0, and odd ones.
unfoldable pub use Rattle.up_curve.specs.Curve.{multiple}
use Rattle.std.proofs.Common.{◌≡◌, ℕ, ◌+◌, ◌*◌, ◌/◌, ◌%◌, ◌<◌, refl, sym, ◌∙◌, ap, arith}
use Rattle.up_curve.specs.Curve.{Point, add, neutral}
use Rattle.up_curve.specs.Laws.{negated}
use Rattle.up_curve.specs.Points.{IsPoint}
use Rattle.up_curve.proofs.Curve.{add_comm, add_neutral, neutral_point}
use Rattle.up_curve.proofs.Negated.{negated_point, add_negated}
use Rattle.up_field.specs.Sides.{Yields}
use Rattle.up_field.specs.declared.sides.Sides.{Sides}

pub point_of : (s : Sides) (q : Point) → Yields s q → IsPoint q
point_of s q h = (h.each _ _ _ _ refl refl refl refl).point

-- nothing is added
pub nothing_more : (d : ℕ) (m q : Point) → IsPoint q → d ≡ 0 → q ≡ add q (multiple d m)
unfolding multiple
nothing_more d m q h e = sym (ap (λ z. add q (multiple z m)) e ∙ add_comm q neutral ∙ add_neutral q h)

none_negated : negated neutral ≡ neutral
none_negated = sym (add_neutral (negated neutral) (negated_point neutral neutral_point)) ∙ add_negated neutral neutral_point

pub nothing_less : (d : ℕ) (m q : Point) → IsPoint q → d ≡ 0 → q ≡ add q (negated (multiple d m))
unfolding multiple
nothing_less d m q h e =
    sym (ap (λ z. add q (negated (multiple z m))) e ∙ ap (add q) none_negated ∙ add_comm q neutral ∙ add_neutral q h)

-- an odd digit, by its half
pub half : (d : ℕ) → (d % 2 ≡ 0 → d ≡ 0) → 0 < d → 2 * (d / 2) + 1 ≡ d
half d h k = grind (arith, h, k)
