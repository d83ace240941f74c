use Rattle.up_store.proofs.Common.{FitsFounding}
use Rattle.up_store.proofs.WithinLemmas.{makes_puts}
use Rattle.up_store.proofs.images.put_image.Goals as goal

pub returns : goal.returns
returns g c inside = makes_puts g.D.Store _ _ _ _ c.put_image_made.result _ (λ _. FitsFounding c.args.new.now.founding) (λ fits. fits) (c.put_image_made.ensures inside)
