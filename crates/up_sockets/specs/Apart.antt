-- Many connections over one state: each is a conversation of its own, whatever is done together.
use Rattle.std.specs.Prelude.{◌≡◌, ◌≢◌, ◌⊎◌, ⊤, ℕ, ◌==◌, Bool, true, false, List, [], ◌∷◌, ◌++◌, filter, flat_map, map, if◌then◌else◌, Some, None}
use Rattle.up_lines.specs.Runs.{listed}
use Rattle.up_machine.specs.declared.answer.Answer.{Answer}
use Rattle.up_machine.specs.declared.command.Command.{Command}
use Rattle.up_http.specs.Serving.{Gives}
use Rattle.up_http.specs.Talks.{Event, Told, Happens, KeepsOrder, asked_at, answered_at}
use Rattle.up_http.specs.declared.asked.Next.{Next}
use Rattle.up_http.specs.declared.asked.What.TheVariants.{Call}
use Rattle.up_connections.specs.Lines.{Line, HappensTo, fresh}
use Rattle.up_sockets.specs.Served.{Done, Single, Group, Lines, Steps}

-- where each connection stands, by its number
abbrev pub AllLines : Type 0
AllLines = ℕ → Line

-- how an answer to a command is told: whether the stream ends with it, and whether its method is HEAD, are given
abbrev pub Tells : Type 0
Tells = Answer → Bool → Bool → List ℕ

-- ---- what is done

-- a request that waited on the connection of this number, its answer, and whether there was memory to tell it
pub record Answered : Type 0 where
  pub number : ℕ
  pub request : Next
  pub text : List ℕ
  pub told : Bool

-- the same of a command of a group
pub record Member : Type 0 where
  pub number : ℕ
  pub command : Command
  pub head : Bool
  pub last : Bool
  pub answer : Answer
  pub told : Bool

-- a request is answered by itself, commands are carried out together, or lines of an operator's script are answered
pub data Deed : Type 0 where
  Alone : Answered → Deed
  Together : List Member → Deed
  Script : List (List ℕ) → List (List ℕ) → Deed

-- what that does to the state, each request and command at the moment of its connection
abbrev pub done_of : (ℕ → ℕ) → Deed → Done
done_of at (Alone a) = Single (at a.number) a.request a.text
done_of at (Together ms) = Group (map (λ m. (at m.number, m.command)) ms) (map (λ m. m.answer) ms)
done_of at (Script lines texts) = Lines lines texts

abbrev pub told_of : Tells → Member → Answered
told_of tells m = record {
  number = m.number;
  request = record { what = Call m.command; head = m.head; last = m.last };
  text = tells m.answer m.last m.head;
  told = m.told;
}

-- the requests that it answers
abbrev pub answered_of : Tells → Deed → List Answered
answered_of tells (Alone a) = a ∷ []
answered_of tells (Together ms) = map (told_of tells) ms
answered_of tells (Script lines texts) = []

-- ---- what happens

-- something happens on one connection, which answers nothing; or something is done
pub data Happening : Type 0 where
  On : ℕ → Event → Happening
  Does : Deed → Happening

-- nothing is answered
abbrev pub nothing : {S : Type 0} → Gives S
nothing old next text new = ⊥

-- the request waited, and is told its answer; or that can't be told, and then nothing more is answered on the connection
abbrev pub IsAnswered : Bool → Answered → Line → Line → Type 0
IsAnswered true a old new = Happens old.talk (Told a.text) new.talk × (new.asks ≡ None)
IsAnswered false a old new = new ≡ record old { asks = None }

-- one connection changes so, and the others stay as they were
pub record Changes (n : ℕ) (here : Line → Line → Type 0) (old new : AllLines) : Type 0 where
  pub changed : here (old n) (new n)
  pub others : (m : ℕ) → m ≢ n → new m ≡ old m

-- requests are answered, each on its connection
abbrev pub AreAnswered : List Answered → AllLines → AllLines → Type 0
AreAnswered [] old new = (n : ℕ) → new n ≡ old n
AreAnswered (a ∷ more) old new = (mid : AllLines)
    × Changes a.number (λ l m. (l.asks ≡ Some a.request) × IsAnswered a.told a l m) old mid × AreAnswered more mid new

-- one thing happens; what is done is told to those who asked for it
abbrev pub HappensOnce : {S : Type 0} → (S → Done → S → Type 0) → Tells → (ℕ → ℕ) → S → AllLines → Happening → S → AllLines → Type 0
HappensOnce does tells at s old (On n e) now new = Changes n (λ l m. HappensTo nothing s l e now m) old new
HappensOnce does tells at s old (Does d) now new = does s (done_of at d) now × AreAnswered (answered_of tells d) old new

-- one after another
abbrev pub AllHappen : {S : Type 0} → (S → Done → S → Type 0) → Tells → (ℕ → ℕ) → S → AllLines → List Happening → S → AllLines → Type 0
AllHappen does tells at s old [] now new = (now ≡ s) × ((n : ℕ) → new n ≡ old n)
AllHappen {S} does tells at s old (x ∷ xs) now new = (mid : S) × (lines : AllLines) × HappensOnce does tells at s old x mid lines
    × AllHappen does tells at mid lines xs now new

-- ---- what that comes to

-- all that was done, in order
abbrev pub done_at : (ℕ → ℕ) → Happening → List Done
done_at at (On n e) = []
done_at at (Does d) = done_of at d ∷ []

abbrev pub done_in : (ℕ → ℕ) → List Happening → List Done
done_in at xs = flat_map (done_at at) xs

-- the requests that it answered
abbrev pub answered_in : Tells → Happening → List Answered
answered_in tells (On n e) = []
answered_in tells (Does d) = answered_of tells d

-- those of one connection
abbrev pub own : ℕ → List Answered → List Answered
own n rs = filter (λ a. a.number == n) rs

abbrev pub answered_on : Tells → ℕ → List Happening → List Answered
answered_on tells n xs = own n (flat_map (answered_in tells) xs)

-- those that were told
abbrev pub texts_told : List Answered → List (List ℕ)
texts_told rs = map (λ a. a.text) (filter (λ a. a.told) rs)

-- only behind the last of them nothing was told
abbrev pub AreToldButLast : List Answered → Type 0
AreToldButLast [] = ⊤
AreToldButLast (a ∷ more) = ((a.told ≡ true) × AreToldButLast more) ⊎ (more ≡ [])

-- what happened on one connection
abbrev pub events_at : Tells → ℕ → Happening → List Event
events_at tells n (On m e) = if m == n then e ∷ [] else []
events_at tells n (Does d) = map Told (texts_told (own n (answered_of tells d)))

abbrev pub events_on : Tells → ℕ → List Happening → List Event
events_on tells n xs = flat_map (events_at tells n) xs

-- However what happens on many connections is interleaved, and whatever is done together: all that is done is one list, one after another over the
-- state. Each connection's own requests are answered there, in their order, and it is told those answers, as if it were alone.
pub record AreApart {S : Type 0} (does : S → Done → S → Type 0) (tells : Tells) (at : ℕ → ℕ) (s : S) (xs : List Happening) (now : S) (new : AllLines) : Type 0 where
  pub steps : Steps does s (done_in at xs) now
  -- each connection's are the requests that it gave, but for the last while that waits
  pub requests : (n : ℕ) → flat_map asked_at (events_on tells n xs) ≡ map (λ a. a.request) (answered_on tells n xs) ++ listed (new n).asks
  -- it was told their answers, each in its place: only the last may not have been told
  pub answers : (n : ℕ) → flat_map answered_at (events_on tells n xs) ≡ texts_told (answered_on tells n xs)
  pub last : (n : ℕ) → AreToldButLast (answered_on tells n xs)
  -- and its conversation keeps its order
  pub order : (n : ℕ) → KeepsOrder (events_on tells n xs) (new n).talk

-- so of all connections, each with its moment, from where nothing was said on any
abbrev pub ConnectionsAreApart : {A S : Type 0} → (A → S → Done → S → Type 0) → (A → Tells) → Type 0
ConnectionsAreApart {A} {S} does tells = (service : A) (at : ℕ → ℕ) (s now : S) (xs : List Happening) (new : AllLines)
    → AllHappen (does service) (tells service) at s (λ n. fresh) xs now new → AreApart (does service) (tells service) at s xs now new
