-- What a desk answers and shows, how it leaves its tables, and when it tells a fault of the database.
use Rattle.std.specs.Prelude.{◌≡◌, ℕ, Result}
use Rattle.sqlite_trees.specs.declared.store.Store.{Ghosts}
use Rattle.up_canon.specs.Names.{Name}
use Rattle.up_sign.specs.Schemes.{Rules}
use Rattle.up_machine.specs.declared.answer.Answer.{Answer}
use Rattle.up_machine.specs.declared.command.Command.{Command}
use Rattle.up_machine.specs.State.{State}
use Rattle.up_tables.specs.declared.values.StoreFault.{StoreFault}
use Rattle.up_records.specs.Reads as reading
use Rattle.up_records.specs.Standing.{state}
use Rattle.up_desk.specs.Calls.{IsCalled}
use Rattle.up_desk.specs.Desks.{DeskView}

-- what a call of the desk comes to, whose scheme stays
abbrev pub Calls : {K D : Type 0} → (K → Rules) → Ghosts D → DeskView K D → ℕ → Command → Answer → DeskView K D → Type 0
Calls rules g old at command answer new =
    (new.scheme ≡ old.scheme) × IsCalled (rules old.scheme) at command answer (state g old.store) (state g new.store)

-- what is read of a vehicle by a desk, whose scheme stays
abbrev pub Finds : {K D A : Type 0} → Ghosts D → (State → Name → A) → DeskView K D → Name → Result A StoreFault → DeskView K D → Type 0
Finds g of_state old vehicle found new = (new.scheme ≡ old.scheme) × reading.Finds g (λ k s. of_state s vehicle) old.store new.store found
