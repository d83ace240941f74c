-- A table of which each value is changed.
use Rattle.std.specs.Prelude.{map}
use Rattle.std.specs.FinMap as table
use Rattle.up_canon.specs.Names.{Name, Table}

-- the function of its name and value stands at each name
abbrev pub each_value : {X Y : Type 0} → (Name → X → Y) → Table X → Table Y
each_value f t = table.from_sorted (map (λ e. (e.0, f e.0 e.1)) (table.entries t))
