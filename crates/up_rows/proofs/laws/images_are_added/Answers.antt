use Rattle.up_rows.proofs.Repositories.{files_replaced, images_added}
use Rattle.up_rows.proofs.Fitting.{images_new}
use Rattle.up_rows.proofs.laws.images_are_added.Goals as goal

pub returns : goal.returns
returns c = record { files = files_replaced; images = images_added; new = images_new }
