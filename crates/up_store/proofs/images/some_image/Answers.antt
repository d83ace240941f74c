use Rattle.std.proofs.Common.{Some, ap}
use Rattle.up_store.proofs.images.some_image.Goals as goal

pub returns-in-Ok-clause-same : goal.returns-in-Ok-clause-same
returns-in-Ok-clause-same c = λ file image typed is second. ap Some (c.in-Ok.ensures.same file image typed is second)
