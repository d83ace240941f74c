-- Scripts and streams are what clients and operators are: lists of steps, of which the same lasts.
use Rattle.std.specs.Prelude.{ℕ, Bool, List, [], ◌∷◌}
use Rattle.sqlite_trees.specs.declared.store.Store.{Ghosts}
use Rattle.up_sign.specs.Schemes.{Rules}
use Rattle.up_machine.specs.State.{State}
use Rattle.up_lines.specs.Runs.{Run}
use Rattle.up_http.specs.declared.asked.Next.{Next}
use Rattle.up_records.specs.Standing.{Standing, state}
use Rattle.up_desk.specs.Desks.{DeskView}
use Rattle.up_service.specs.Responses.{Responses}
use Rattle.up_service.specs.Runs.{Lasts, told}
use Rattle.up_service.specs.Scripts.{line_service}
use Rattle.up_service.specs.Streams.{request_service}
use Rattle.up_service.specs.Together as together
use Rattle.up_sockets.specs.Served.{Done, Single, Lines, Steps}
use Rattle.up_main.specs.Clients.{AllLast, Does, part_of}

-- requests of a stream, each answered by itself, at its moment
abbrev pub singles : ℕ → List Next → List (List ℕ) → List Done
singles at [] texts = []
singles at (next ∷ nexts) [] = []
singles at (next ∷ nexts) (text ∷ texts) = Single at next text ∷ singles at nexts texts

-- lines of a script are one step, and each request of a stream is one
pub record AreSteps {K D : Type 0} (rules : K → Rules) (g : Ghosts D) : Type 0 where
  pub lines : (old new : DeskView K D) (lines texts : List (List ℕ)) → together.Lines rules g old lines texts new
      → Steps (Does rules g) old (Lines lines texts ∷ []) new
  pub requests : (at : ℕ) (old new : DeskView K D) (nexts : List Next) (texts : List (List ℕ)) → Run (Responses rules g at) old nexts texts new
      → Steps (Does rules g) old (singles at nexts texts) new

-- and what lasts of these steps is what lasts of a script, and of a stream
pub record LastAlike (last head : Bool) (k : Rules) (s : State) (old new : Standing) : Type 0 where
  pub lines : (lines texts : List (List ℕ)) → AllLast (part_of last head k) k s (Lines lines texts ∷ []) old new
      → Lasts (line_service k) s (told lines texts) [] old new
  pub requests : (at : ℕ) (nexts : List Next) (texts : List (List ℕ)) → AllLast (part_of last head k) k s (singles at nexts texts) old new
      → Lasts (request_service k at) s (told nexts texts) [] old new

abbrev pub ScriptsAndStreamsAreSteps : {K D : Type 0} → (K → Rules) → Ghosts D → Type 0
ScriptsAndStreamsAreSteps {K} {D} rules g = AreSteps rules g
    × ((last head : Bool) (k : Rules) (s : State) (old new : DeskView K D) → LastAlike last head k s (state g old.store) (state g new.store))
