-- What a desk answers it answers as the plain machine does.
use Rattle.std.proofs.Common.{◌≡◌, ℕ, None, ap, ◌∙◌, subst}
use Rattle.sqlite.specs.State.{State as Connected}
use Rattle.sqlite_trees.specs.declared.store.Store.{Ghosts}
use Rattle.up_sign.specs.Schemes.{Rules}
use Rattle.up_machine.specs.declared.answer.Answer.{Answer}
use Rattle.up_machine.specs.declared.command.Command.{Command}
use Rattle.up_machine.specs.Sound.{IsSound}
use Rattle.up_machine.specs.State.{empty_state}
use Rattle.up_rows.specs.StateRows.{no_rows, rows_of_state}
use Rattle.up_store.specs.Opening.{Creates}
use Rattle.up_records.specs.Standing.{HasCleanDisk, state}
use Rattle.up_desk.specs.Calls.{IsCalled}
use Rattle.up_desk.specs.Desks.{DeskView}
use Rattle.up_shipped.specs.Machines.{AnswersAsMachine, StandsFor}
use Rattle.up_shipped.proofs.FromNothing.{shows_nothing}

-- over fresh tables a desk stands for the empty state
pub fresh_stands : {K D : Type 0} (rules : K → Rules) (g : Ghosts D) (k : Rules) → IsSound k empty_state → rows_of_state empty_state ≡ no_rows → (empty made : Connected) (desk : DeskView K D) → Creates empty made
    → state g desk.store ≡ record { connection = made; catalog = None } → rules desk.scheme ≡ k → StandsFor rules g k empty_state desk
fresh_stands rules g k sound none empty made desk creates fresh same = record {
  same = same;
  sound = sound;
  shown = shows_nothing none empty made (state g desk.store) creates fresh;
}

-- each call keeps it, and is answered as there
pub desk_answers : {K D : Type 0} (rules : K → Rules) (g : Ghosts D) (at : ℕ) (c : Command) (a : Answer) (old new : DeskView K D) → IsCalled (rules old.scheme) at c a (state g old.store) (state g new.store)
    → new.scheme ≡ old.scheme → HasCleanDisk (state g new.store) → (k : Rules) → AnswersAsMachine k (StandsFor rules g k) at c a old new
desk_answers {K} {D} rules g at c a old new called scheme clean k s stands =
    let here : IsCalled k at c a (state g old.store) (state g new.store) = subst (λ (r : Rules). IsCalled r at c a (state g old.store) (state g new.store)) stands.same called in
    let it = here.served clean s stands.sound stands.shown in
    (it.0, it.1, record { same = ap rules scheme ∙ stands.same; sound = it.3; shown = λ _. it.4 })
