use Rattle.up_machine.proofs.TwoSteps as steps
use Rattle.up_machine.proofs.laws.decided_in_two_steps.Goals as goal

pub returns : goal.returns
returns c = record {
  founding = steps.founded_in_two_steps;
  rotation = steps.rotated_in_two_steps;
  image = steps.registered_in_two_steps;
  refresh = steps.refreshed_in_two_steps;
}
