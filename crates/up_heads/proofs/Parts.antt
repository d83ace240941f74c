-- Definitions that proofs alone use: no contract says them.
use Rattle.matchit.specs.Router.{RouteOf}
use Rattle.std.specs.Prelude.{List, None, Option, Some, bytes_eq, codes, cond, ℕ}
use Rattle.up_heads.specs.Routes.{is_segment, strip}
use Rattle.up_heads.specs.Rows.{director_row, image_row, manifest_row}
use Rattle.up_heads.specs.declared.routes.Kind.{Kind}

-- the row by what stands behind `/director/`, or else behind `/image/`
abbrev pub row_from : Option (List ℕ) → Option (List ℕ) → Option (RouteOf Kind)
row_from (Some rest) other = cond (bytes_eq rest (codes "manifest")) (Some manifest_row) (cond (is_segment rest) (Some director_row) None)
row_from None (Some rest) = cond (is_segment rest) (Some image_row) None
row_from None None = None

-- the row of a path
abbrev pub row : List ℕ → Option (RouteOf Kind)
row path = row_from (strip (codes "/director/") path) (strip (codes "/image/") path)
