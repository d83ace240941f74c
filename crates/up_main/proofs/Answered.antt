-- What is answered at a desk, as clients and operators meet it.
use Rattle.std.proofs.Common.{◌≡◌, ℕ, List, ◌++◌, Result, Ok, Err, OnOk, refl}
use Rattle.std.specs.Prelude.{OnErr}
use Rattle.sqlite_trees.specs.declared.store.Store.{Ghosts}
use Rattle.up_sign.specs.Schemes.{Rules}
use Rattle.up_machine.specs.declared.answer.Answer.{Answer}
use Rattle.up_machine.specs.declared.command.Command.{Command}
use Rattle.up_http.specs.Talks.{Told}
use Rattle.up_connections.specs.Lines.{HappensTo, IsUntold}
use Rattle.up_connections.specs.Lines as connections
use Rattle.up_records.specs.Standing.{state}
use Rattle.up_desk.specs.Desks.{DeskView}
use Rattle.up_desk.specs.Runs.{AreCalled}
use Rattle.up_service.specs.Desks.{Calls}
use Rattle.up_service.specs.Responses.{Responses}
use Rattle.up_service.specs.Together.{CallsEach}
use Rattle.up_service.specs.Told.{TellsNext}
use Rattle.up_service.proofs.Telling.{next_told}

module _ {K D E : Type 0} (rules : K → Rules) (g : Ghosts D) (old new : DeskView K D) where
  -- a request is answered by itself
  pub told_ok : (at : ℕ) (line now : connections.Line) (result : Result (Unit {0}) E) → OnOk result ((text : List ℕ) × HappensTo (TellsNext (Calls rules g) at) old line (Told text) new now)
      → OnOk result ((text : List ℕ) × HappensTo (Responses rules g at) old line (Told text) new now)
  told_ok at line now (Ok done) h = (h.0, (h.1.0, h.1.1, h.1.2, h.1.3, next_told rules g at old new h.1.0 h.0 h.1.4))
  told_ok at line now (Err e) h = tt

  pub untold_err : (A : Type 0) (at : ℕ) (line : connections.Line) (result : Result (Unit {0}) E) → OnErr result (IsUntold (TellsNext (Calls rules g) at) old line new × A)
      → OnErr result (IsUntold (Responses rules g at) old line new × A)
  untold_err A at line (Ok done) h = tt
  untold_err A at line (Err e) h = ((h.0.0, h.0.1, h.0.2, next_told rules g at old new h.0.0 h.0.1 h.0.3), h.1)

  -- commands are carried out together
  pub called_ok : (cs : List (ℕ × Command)) (held answers : List Answer) (result : Result (Unit {0}) E) → new.scheme ≡ old.scheme
      → OnOk result (AreCalled (rules old.scheme) cs held answers (state g old.store) (state g new.store))
      → OnOk result ((told : List Answer) × (answers ≡ held ++ told) × CallsEach rules g old cs told new)
  called_ok cs held answers (Ok done) scheme h = (
    h.told,
    h.appended,
    (
      scheme,
      record {
        told = h.told;
        appended = refl;
        outright = h.outright;
        ran = h.ran;
        crash = h.crash;
        lasts = h.lasts;
      },
    ),
  )
  called_ok cs held answers (Err e) scheme h = tt

  pub same_err : (A B C : Type 0) (result : Result (Unit {0}) E) → OnErr result (A × B × C) → OnErr result (A × B)
  same_err A B C (Ok done) h = tt
  same_err A B C (Err e) h = (h.0, h.1)
