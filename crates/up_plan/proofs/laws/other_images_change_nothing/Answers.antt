use Rattle.up_plan.proofs.OtherImages.{others_change_nothing}
use Rattle.up_plan.proofs.laws.other_images_change_nothing.Goals as goal

pub returns : goal.returns
returns c = others_change_nothing
