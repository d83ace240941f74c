-- What a desk tells on a connection is a response.
use Rattle.std.proofs.Common.{◌≡◌, ℕ, List}
use Rattle.sqlite_trees.specs.declared.store.Store.{Ghosts}
use Rattle.up_sign.specs.Schemes.{Rules}
use Rattle.up_http.specs.Talks.{Told}
use Rattle.up_desk.specs.Desks.{DeskView}
use Rattle.up_service.specs.Desks.{Calls}
use Rattle.up_service.specs.Responses.{Responses}
use Rattle.up_service.specs.Told.{TellsNext}
use Rattle.up_service.proofs.Telling.{next_told}
use Rattle.up_connections.specs.Lines.{Line, Shown, HappensTo, IsUntold}

pub told_there : {K D : Type 0} (rules : K → Rules) (g : Ghosts D) (at : ℕ) (old new : DeskView K D) (was is : Line) → (text : List ℕ) × HappensTo (TellsNext (Calls rules g) at) old was (Told text) new is
    → (text : List ℕ) × HappensTo (Responses rules g at) old was (Told text) new is
told_there rules g at old new was is (text, h) = (text, (h.0, h.1, h.2, h.3, next_told rules g at old new h.0 text h.4))

pub untold_there : {K D : Type 0} (rules : K → Rules) (g : Ghosts D) (at : ℕ) (old new : DeskView K D) (was is : Shown) → IsUntold (TellsNext (Calls rules g) at) old was.line new × (is ≡ was)
    → IsUntold (Responses rules g at) old was.line new × (is ≡ was)
untold_there rules g at old new was is h = ((h.0.0, h.0.1, h.0.2, next_told rules g at old new h.0.0 h.0.1 h.0.3), h.1)
