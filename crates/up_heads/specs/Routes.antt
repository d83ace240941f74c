-- The routes.
use Rattle.std.specs.Prelude.{ℕ, ◌==◌, not, Bool, false, List, [], ◌∷◌, Option, Some, None, codes, bytes_eq, if◌then◌else◌}
use Rattle.matchit.specs.Seek.{has_slash}
use Rattle.up_heads.specs.declared.routes.Kind.{Kind}
use Rattle.up_heads.specs.declared.routes.Kind.TheVariants.{Manifest, Director, Image}

-- what stands behind a text at the front
abbrev pub strip : List ℕ → List ℕ → Option (List ℕ)
strip [] path = Some path
strip (x ∷ text) [] = None
strip (x ∷ text) (b ∷ path) = if x == b then strip text path else None

-- one segment of a path
abbrev pub is_segment : List ℕ → Bool
is_segment [] = false
is_segment (b ∷ path) = not (has_slash (b ∷ path))

-- the route by what stands behind `/director/`, or else behind `/image/`
abbrev pub kind_from : Option (List ℕ) → Option (List ℕ) → Option Kind
kind_from (Some rest) other = if bytes_eq rest (codes "manifest") then Some Manifest else (if is_segment rest then Some Director else None)
kind_from None (Some rest) = if is_segment rest then Some Image else None
kind_from None None = None

-- the route of a path: `/director/manifest`, and `/director/` or `/image/` and one segment
unfoldable pub kind : List ℕ → Option Kind
kind path = kind_from (strip (codes "/director/") path) (strip (codes "/image/") path)
