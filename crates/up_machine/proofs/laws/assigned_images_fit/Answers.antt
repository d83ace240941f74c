use Rattle.up_machine.proofs.FittingImages.{assigned_fit}
use Rattle.up_machine.proofs.laws.assigned_images_fit.Goals as goal

pub returns : goal.returns
returns c = assigned_fit c.assigned_is_due.ensures
