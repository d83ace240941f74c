-- Names in byte order, each with its value, and the place of a name among them, of which no public contract speaks.
use Rattle.std.specs.Prelude.{◌≡◌, ℕ, suc, List, [], ◌∷◌, IsTrue, length, Result, Ok, Err}
use Rattle.std.specs.List.{zip}
use Rattle.std.specs.Ordering.{nat_cmp}
use Rattle.std.specs.declared.cmp.Ordering.{Ordering}
use Rattle.std.specs.declared.cmp.Ordering.TheVariants.{Less, Equal, Greater}
use Rattle.std.specs.Cmp.Lexicographic.{slice_cmp}
use Rattle.std.specs.FinMap.{is_sorted}
use Rattle.up_canon.specs.Names.{Name}

-- as many names as values, and the names strictly rise
pub record IsInOrder {X : Type 0} (names : List Name) (values : List X) : Type 0 where
  pub paired : length names ≡ length values
  pub sorted : IsTrue (is_sorted (slice_cmp nat_cmp) (zip names values))

-- one place on
abbrev pub shifted : Result ℕ ℕ → Result ℕ ℕ
shifted (Ok i) = Ok (suc i)
shifted (Err i) = Err (suc i)

-- stop before, stop here, or go on
abbrev pub place_by : Ordering → Result ℕ ℕ → Result ℕ ℕ
place_by Less rest = Err 0
place_by Equal rest = Ok 0
place_by Greater rest = shifted rest

-- the place of the name, or where it would stand
abbrev pub place_of : Name → List Name → Result ℕ ℕ
place_of name [] = Err 0
place_of name (n ∷ ns) = place_by (slice_cmp nat_cmp name n) (place_of name ns)
