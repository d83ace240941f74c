-- What holds of every state that commands reach from nothing.
use Rattle.std.proofs.Common.{List, [], ◌++◌}
use Rattle.std.specs.Prelude.{IsTrue}
use Rattle.up_sign.specs.Schemes.{Rules}
use Rattle.up_metadata.specs.Files.{Root}
use Rattle.up_metadata.proofs.Lists.{each_weaker}
use Rattle.up_machine.specs.Commands.{is_command}
use Rattle.up_machine.specs.Laws.{EmptyIsSound, RunsStaySound}
use Rattle.up_machine.specs.Machine.{Timed, run}
use Rattle.up_machine.specs.Made.{IsMade, roots_of, EmptyIsMade, RunsMake}
use Rattle.up_machine.specs.Sound.{IsSound}
use Rattle.up_machine.specs.State.{State, empty_state}
use Rattle.up_laws.specs.Plans.{HasOwnPlans, EmptyHasOwnPlans, RunsKeepOwnPlans}
use Rattle.up_laws.specs.Typed.{IsTyped, command_is_typed, EmptyIsTyped, RunsStayTyped}
use Rattle.up_primary.specs.Laws.{AreGiven}
use Rattle.up_uptane.specs.Deliveries.{AreCommands}

-- what every run keeps
pub record Reaching : Type 0 where
  pub sound : RunsStaySound
  pub none_sound : EmptyIsSound
  pub made : RunsMake
  pub none_made : EmptyIsMade
  pub typed : RunsStayTyped
  pub none_typed : EmptyIsTyped
  pub own : RunsKeepOwnPlans
  pub none_own : EmptyHasOwnPlans

pub record Reached (k : Rules) (s : State) (roots : List Root) : Type 0 where
  pub sound : IsSound k s
  pub made : IsMade k s roots
  pub typed : IsTyped s
  pub own : HasOwnPlans s

pub commands_of : (ts : List Timed) → AreGiven ts → AreCommands ts
commands_of ts given = each_weaker (λ (t : Timed). IsTrue (is_command t.command) × IsTrue (command_is_typed t.command)) (λ (t : Timed). IsTrue (is_command t.command)) (λ t h. h.0) ts given

pub further : Reaching → (k : Rules) (s : State) (roots : List Root) (ts : List Timed) → AreGiven ts → Reached k s roots → Reached k (run k s ts) (roots ++ roots_of k s ts)
further keeping k s roots ts given at =
    let commands = commands_of ts given in
    let typed = each_weaker (λ (t : Timed). IsTrue (is_command t.command) × IsTrue (command_is_typed t.command)) (λ (t : Timed). IsTrue (command_is_typed t.command)) (λ t h. h.1) ts given in
    record {
      sound = keeping.sound k s ts commands at.sound;
      made = keeping.made k s ts roots commands at.sound at.made;
      typed = keeping.typed k s ts typed at.typed;
      own = keeping.own k s ts commands at.sound at.own;
    }

pub reach : Reaching → (k : Rules) (ts : List Timed) → AreGiven ts → Reached k (run k empty_state ts) (roots_of k empty_state ts)
reach keeping k ts given =
    further keeping k empty_state [] ts given (record { sound = keeping.none_sound k; made = keeping.none_made k; typed = keeping.none_typed; own = keeping.none_own })
