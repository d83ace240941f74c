-- A multiple by the order, as the code computes it.
unfoldable pub use Rattle.up_curve.specs.Curve.{multiple}
use Rattle.std.proofs.Common.{◌≡◌, ℕ, ◌+◌, ◌∙◌, ap, arith}
use Rattle.up_curve.specs.Curve.{Point, add, neutral, base, order}
use Rattle.up_curve.specs.Points.{IsPoint}
use Rattle.up_curve.proofs.Curve.{add_comm, add_neutral, multiple_point}
use Rattle.up_field.specs.Tables.{pair}

-- the neutral point adds nothing on the other side either
pub add_nothing : (m : Point) → IsPoint m → add m neutral ≡ m
add_nothing m h = add_comm m neutral ∙ add_neutral m h

-- a sum with no multiple of the base point
pub by_order_alone : (n z : ℕ) (m : Point) → IsPoint m → z ≡ 0 → n + z ≡ order → pair n z m base ≡ multiple order m
unfolding multiple
by_order_alone n z m h e k =
    ap (λ x. add (multiple n m) (multiple x base)) e
    ∙ add_nothing (multiple n m) (multiple_point n m h)
    ∙ ap (λ x. multiple x m) (let same : n ≡ order = omega (arith, e, k) in same)
