-- What a feeder keeps.
use Rattle.std.specs.Prelude.{◌≡◌, ℕ, ◌+◌, ◌<◌, ◌≤◌, Bool, true, false, ◌||◌, ◌==◌, Option, Some, None, Ok, Result, IfOk, OnErr, List, [], ◌++◌, length, take}
use Rattle.std.specs.List.{list_all}
use Rattle.httparse.specs.Grammar.{RequestHead, HasNoRequest}
use Rattle.up_heads.specs.Heads.{Heads, NeverHasHead, most_head}
use Rattle.up_heads.specs.Framing.{framing}
use Rattle.up_heads.specs.Closing.{closes}
use Rattle.up_heads.specs.Routed.{request_route}
use Rattle.up_http.specs.Requests.{asked, is_head, most_requests, size_of}
use Rattle.up_heads.specs.Fronts.{IsFactsOf}
use Rattle.up_http.specs.Feeding.{Fed, Feeds}
use Rattle.up_http.specs.declared.asked.Next.{Next}
use Rattle.up_http.specs.declared.asked.Step.{Step}
use Rattle.up_heads.specs.declared.heads.Facts.{Facts}
use Rattle.up_heads.specs.declared.heads.Front.{Front}
use Rattle.up_heads.specs.declared.heads.Front.TheVariants.{Whole, Cut, Bad}
use Rattle.up_http.specs.declared.head_bytes.Taken.{Taken}
use Rattle.up_http.specs.declared.feeder.Intent.{Intent}
use Rattle.up_http.specs.declared.feeder.Waiting.{Waiting}
use Rattle.up_http.specs.declared.feeder.Parts.{Parts}

-- CR or LF
abbrev pub is_newline : ℕ → Bool
is_newline byte = byte == 13 || byte == 10

-- bytes of a head that isn't whole: whether a byte of the request line is among them
pub record Begins (bytes : List ℕ) (begun : Bool) : Type 0 where
  pub none : HasNoRequest bytes
  pub short : length bytes < most_head
  pub blank : begun ≡ false → list_all is_newline bytes ≡ true

-- the bytes are a head of which that is said
abbrev pub IsWhole : List ℕ → Facts → Type 0
IsWhole bytes facts = (head : RequestHead) × Heads bytes head [] × IsFactsOf bytes head facts

-- how the bytes are read when one more was taken
abbrev pub ReadsByte : List ℕ → Bool → Front → Type 0
ReadsByte bytes begun (Whole facts) = IsWhole bytes facts
ReadsByte bytes begun Cut = HasNoRequest bytes × (begun ≡ false → list_all is_newline bytes ≡ true)
ReadsByte bytes begun Bad = NeverHasHead bytes

-- how the bytes are read when so many of a piece were taken
abbrev pub ReadsPiece : List ℕ → List ℕ → Taken → Front → Type 0
ReadsPiece bytes piece taken (Whole facts) = IsWhole bytes facts
ReadsPiece bytes piece taken Cut = (taken.bytes ≡ length piece) × Begins bytes taken.begun
ReadsPiece bytes piece taken Bad = NeverHasHead bytes

-- bytes were taken to a head
pub record TakesHead (old piece : List ℕ) (taken : Taken) (new : List ℕ) : Type 0 where
  pub within : taken.bytes ≤ length piece
  pub added : new ≡ old ++ take taken.bytes piece
  pub bounded : length new ≤ most_head
  pub stands : ReadsPiece new piece taken taken.front

-- what is kept of a head that states this length of its body
pub record IsIntentOf (head : RequestHead) (stated : Option ℕ) (intent : Intent) : Type 0 where
  pub asks_is : intent.asks ≡ request_route head stated
  pub head_is : intent.head ≡ is_head head
  pub closes_is : intent.closes ≡ closes head

-- the bytes are a head that states this length of its body
pub record States (bytes : List ℕ) (facts : Facts) (stated : Option ℕ) : Type 0 where
  pub whole : IsWhole bytes facts
  pub framed : facts.framing ≡ Ok stated

-- a whole head is kept, and a body of the length that it states, as far as it has come
pub record IsWaiting (bytes : List ℕ) (waiting : Waiting) : Type 0 where
  pub head : RequestHead
  pub heads : Heads bytes head []
  pub stated : Option ℕ
  pub framing_is : framing head ≡ Ok stated
  pub size_is : waiting.body.size ≡ size_of stated
  pub intent_is : IsIntentOf head stated waiting.intent

-- no more of the body is kept than the head states
pub record Holds (bytes : List ℕ) (waiting : Waiting) : Type 0 where
  pub waits : IsWaiting bytes waiting
  pub bounded : length waiting.body.bytes ≤ waiting.body.size

-- the bytes of a body
abbrev pub body_of : Option Waiting → List ℕ
body_of (Some waiting) = waiting.body.bytes
body_of None = []

-- what is shown of the parts
abbrev pub fed_of : Parts → Fed
fed_of parts = record { rest = parts.head.items ++ body_of parts.waiting; given = parts.given; ended = parts.ended }

-- how far the next request has come
abbrev pub Stage : List ℕ → Bool → Option Waiting → Type 0
Stage head begun None = Begins head begun
Stage head begun (Some waiting) = IsWaiting head waiting × (length waiting.body.bytes < waiting.body.size)

-- what holds of the parts
pub record Keeps (parts : Parts) : Type 0 where
  pub few : parts.given ≤ most_requests
  pub more : parts.ended ≡ false → parts.given < most_requests
  pub stage : parts.ended ≡ false → Stage parts.head.items parts.begun parts.waiting

-- no whole head is kept, and the stream may give another request
pub record IsBetween (parts : Parts) : Type 0 where
  pub none : parts.waiting ≡ None
  pub going : parts.ended ≡ false
  pub few : parts.given < most_requests

-- what a piece leaves of the parts: what a feeder does with it, and nothing where memory is refused
pub record FeedsParts {E : Type 0} (old : Parts) (piece : List ℕ) (result : Result Step E) (new : Parts) : Type 0 where
  pub kept : Keeps new
  pub ok : IfOk result (λ step. Feeds (fed_of old) piece step.taken step.next (fed_of new))
  pub err : OnErr result (fed_of new ≡ fed_of old)

-- a request whose head is whole is kept while its body isn't whole, and is given once that is
abbrev pub Settles : List ℕ → Waiting → ℕ → Option Next → Fed → Type 0
Settles bytes waiting given None new =
    (length waiting.body.bytes < waiting.body.size) × (new ≡ record { rest = bytes ++ waiting.body.bytes; given = given; ended = false })
Settles bytes waiting given (Some next) new =
    (length waiting.body.bytes ≡ waiting.body.size) × (new ≡ record { rest = []; given = given + 1; ended = next.last })
    × ((head : RequestHead) (stated : Option ℕ) → IsIntentOf head stated waiting.intent → next ≡ asked given head stated waiting.body.bytes)
