-- Lines of a script that are answered together: what they ask is called as one list, which may share a commit.
use Rattle.std.specs.Prelude.{◌≡◌, ◌<◌, ◌≤◌, ◌++◌, ℕ, List, [], ◌∷◌, flat_map, map, length, take, IsTrue, Ok, Result}
use Rattle.std.specs.List.{AllByRecursion}
use Rattle.std.proofs.Common.{◌+◌, ap, ap₂, sym, subst, refl, ◌∙◌, append_assoc, length-append}
use Rattle.sqlite_trees.specs.declared.store.Store.{Ghosts}
use Rattle.up_canon.specs.declared.refusal.Refusal.{Refusal}
use Rattle.up_sign.specs.Schemes.{Rules}
use Rattle.up_lines.specs.Runs.{Composes}
use Rattle.up_lines.specs.LineRuns as lines
use Rattle.up_machine.specs.Commands.{opens_running}
use Rattle.up_machine.specs.declared.answer.Answer.{Answer}
use Rattle.up_machine.specs.declared.command.Command.{Command}
use Rattle.up_records.specs.Standing.{state}
use Rattle.up_desk.specs.Desks.{DeskView}
use Rattle.up_desk.specs.Runs.{AreCalled}
use Rattle.up_script.specs.PrintedLines.{answer_text}
use Rattle.up_script.specs.declared.asked.Asked.{Asked}
use Rattle.up_script.specs.declared.asked.What.TheVariants.{Call}
use Rattle.up_service.specs.LineAnswers.{IsReadAs, Line}
use Rattle.up_service.specs.Told.{Asks}

-- what answers lists of commands: these may have these answers, which leave that state
abbrev pub GivesEach : Type 0 → Type 1
GivesEach S = S → List (ℕ × Command) → List Answer → S → Type 0

-- each line is read as such a command, at such a moment
abbrev pub AreRead : (List ℕ → Result Asked Refusal → Type 0) → List (List ℕ) → List (ℕ × Command) → Type 0
AreRead asks [] [] = Unit {0}
AreRead asks [] (c ∷ cs) = ⊥
AreRead asks (line ∷ lines) [] = ⊥
AreRead asks (line ∷ lines) (c ∷ cs) = asks line (Ok (record { at = c.0; what = Call c.1 })) × AreRead asks lines cs

-- the lines are read, the commands that they ask are called as one list, and each answer is told
pub record AreCalledAsOne {S : Type 0} (asks : Asks S) (gives : GivesEach S) (old : S) (lines texts : List (List ℕ)) (new : S) : Type 0 where
  pub commands : List (ℕ × Command)
  pub read : AreRead (asks old) lines commands
  pub answers : List Answer
  pub called : gives old commands answers new
  pub told : texts ≡ map answer_text answers
  pub count : length texts ≡ length lines

-- lines, and what is told of them
pub record Part : Type 0 where
  pub lines : List (List ℕ)
  pub texts : List (List ℕ)

-- a line that is answered by itself
abbrev pub part_of : List ℕ → List ℕ → Part
part_of line text = record { lines = line ∷ []; texts = text ∷ [] }

-- a part is one line, answered by itself, or some that are answered together
pub data IsPart {S : Type 0} (Alone : S → List ℕ → List ℕ → S → Type 0) (AsOne : lines.Gives S) (old : S) (p : Part) (new : S) : Type 0 where
  alone : (line text : List ℕ) → p ≡ part_of line text → Alone old line text new → IsPart Alone AsOne old p new
  as_one : length p.texts ≡ length p.lines → AsOne old p.lines p.texts new → IsPart Alone AsOne old p new

-- parts, one after another
abbrev pub AreParts : {S : Type 0} → (S → List ℕ → List ℕ → S → Type 0) → lines.Gives S → S → List Part → S → Type 0
AreParts Alone AsOne old [] new = new ≡ old
AreParts {S} Alone AsOne old (p ∷ ps) new = (mid : S) × IsPart Alone AsOne old p mid × AreParts Alone AsOne mid ps new

abbrev pub lines_in : List Part → List (List ℕ)
lines_in ps = flat_map (λ (p : Part). p.lines) ps

abbrev pub texts_in : List Part → List (List ℕ)
texts_in ps = flat_map (λ (p : Part). p.texts) ps

-- lines that are answered in parts
pub record InParts {S : Type 0} (Alone : S → List ℕ → List ℕ → S → Type 0) (AsOne : lines.Gives S) (old : S) (lines texts : List (List ℕ)) (new : S) : Type 0 where
  pub parts : List Part
  pub lines_are : lines ≡ lines_in parts
  pub texts_are : texts ≡ texts_in parts
  pub told : AreParts Alone AsOne old parts new

-- what a desk makes of a list of commands, whose scheme stays
abbrev pub CallsEach : {K D : Type 0} → (K → Rules) → Ghosts D → DeskView K D → List (ℕ × Command) → List Answer → DeskView K D → Type 0
CallsEach rules g old commands answers new =
    (new.scheme ≡ old.scheme) × AreCalled (rules old.scheme) commands [] answers (state g old.store) (state g new.store)

-- what a desk may answer lines together, and how it leaves it
abbrev pub LinesAsOne : {K D : Type 0} → (K → Rules) → Ghosts D → DeskView K D → List (List ℕ) → List (List ℕ) → DeskView K D → Type 0
LinesAsOne rules g old lines texts new = AreCalledAsOne (λ d. IsReadAs (rules d.scheme)) (CallsEach rules g) old lines texts new

-- and what it may answer lines at all
abbrev pub Lines : {K D : Type 0} → (K → Rules) → Ghosts D → DeskView K D → List (List ℕ) → List (List ℕ) → DeskView K D → Type 0
Lines rules g old lines texts new = InParts (Line rules g) (LinesAsOne rules g) old lines texts new

-- the first of these lines are read as commands, each of which is one of a list's
pub record ReadsSome (asks : List ℕ → Result Asked Refusal → Type 0) (lines : List (List ℕ)) (commands : List (ℕ × Command)) : Type 0 where
  pub some : 0 < length commands
  pub within : length commands ≤ length lines
  pub read : AreRead asks (take (length commands) lines) commands
  pub running : AllByRecursion (λ c. IsTrue (opens_running c.1)) commands

-- and these were called as one list
pub record CallsSome {S : Type 0} (asks : Asks S) (gives : GivesEach S) (old : S) (lines : List (List ℕ)) (told : List Answer) (new : S) : Type 0 where
  pub commands : List (ℕ × Command)
  pub reads : ReadsSome (asks old) lines commands
  pub called : gives old commands told new
  pub count : length told ≡ length commands

-- ---- parts compose

part_length : {S : Type 0} (Alone : S → List ℕ → List ℕ → S → Type 0) (AsOne : lines.Gives S) (old new : S) (p : Part) → IsPart Alone AsOne old p new → length p.texts ≡ length p.lines
part_length Alone AsOne old new p (alone line text is gave) = ap (λ (q : Part). length q.texts) is ∙ sym (ap (λ (q : Part). length q.lines) is)
part_length Alone AsOne old new p (as_one count gave) = count

parts_length : {S : Type 0} (Alone : S → List ℕ → List ℕ → S → Type 0) (AsOne : lines.Gives S) (ps : List Part) (old new : S) → AreParts Alone AsOne old ps new → length (texts_in ps) ≡ length (lines_in ps)
parts_length Alone AsOne [] old new told = refl
parts_length Alone AsOne (p ∷ ps) old new told =
    length-append p.texts (texts_in ps) ∙ ap₂ (λ (a b : ℕ). a + b) (part_length Alone AsOne old told.0 p told.1) (parts_length Alone AsOne ps told.0 new told.2)
    ∙ sym (length-append p.lines (lines_in ps))

parts_append : {S : Type 0} (Alone : S → List ℕ → List ℕ → S → Type 0) (AsOne : lines.Gives S) (ps qs : List Part) (old mid new : S) → AreParts Alone AsOne old ps mid → AreParts Alone AsOne mid qs new
    → AreParts Alone AsOne old (ps ++ qs) new
parts_append Alone AsOne [] qs old mid new told more = subst (λ s. AreParts Alone AsOne s qs new) told more
parts_append Alone AsOne (p ∷ ps) qs old mid new told more = (told.0, told.1, parts_append Alone AsOne ps qs told.0 mid new told.2 more)

flat_append : (f : Part → List (List ℕ)) (ps qs : List Part) → flat_map f (ps ++ qs) ≡ flat_map f ps ++ flat_map f qs
flat_append f [] qs = refl
flat_append f (p ∷ ps) qs = ap (λ l. f p ++ l) (flat_append f ps qs) ∙ sym (append_assoc (f p) (flat_map f ps) (flat_map f qs))

-- two lists of lines in parts are one
pub parts_compose : {S : Type 0} (Alone : S → List ℕ → List ℕ → S → Type 0) (AsOne : lines.Gives S) → Composes (InParts Alone AsOne)
parts_compose Alone AsOne = record {
  each = λ old new items texts h. ap length h.texts_are ∙ parts_length Alone AsOne h.parts old new h.told ∙ sym (ap length h.lines_are);
  none = λ s. record { parts = []; lines_are = refl; texts_are = refl; told = refl };
  both = λ old mid new some more texts others h i. record {
    parts = h.parts ++ i.parts;
    lines_are = ap₂ (λ (a b : List (List ℕ)). a ++ b) h.lines_are i.lines_are ∙ sym (flat_append (λ (p : Part). p.lines) h.parts i.parts);
    texts_are = ap₂ (λ (a b : List (List ℕ)). a ++ b) h.texts_are i.texts_are ∙ sym (flat_append (λ (p : Part). p.texts) h.parts i.parts);
    told = parts_append Alone AsOne h.parts i.parts old mid new h.told i.told;
  };
}
