-- What a desk is seen as, and what its views find.
use Rattle.std.specs.Prelude.{◌≡◌, Result}
use Rattle.sqlite_trees.specs.declared.store.Store.{Ghosts}
use Rattle.up_sign.specs.Schemes.{Rules}
use Rattle.up_machine.specs.State.{State}
use Rattle.up_tables.specs.declared.values.StoreFault.{StoreFault}
use Rattle.up_records.specs.Reads.{Finds}
use Rattle.up_records.specs.Standing.{Stored}

-- a scheme, and the records
pub record DeskView (K D : Type 0) : Type 0 where
  pub scheme : K
  pub store : Stored D

-- what a view finds is told by the state, and the scheme stays
pub record Views {K D A : Type 0} (g : Ghosts D) (of_state : Rules → State → A) (old new : DeskView K D) (result : Result A StoreFault) : Type 0 where
  pub found : Finds g of_state old.store new.store result
  pub scheme : new.scheme ≡ old.scheme
