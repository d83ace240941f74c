-- What a feeder shows.
use Rattle.std.specs.Prelude.{◌≡◌, ◌⊎◌, ℕ, ◌+◌, ◌-◌, ◌<◌, ◌≤◌, Bool, true, false, Option, Some, None, Result, Ok, Err, List, [], ◌++◌, length, take}
use Rattle.httparse.specs.Grammar.{RequestHead, HasNoRequest}
use Rattle.up_heads.specs.Heads.{Heads, most_head}
use Rattle.up_heads.specs.Framing.{framing}
use Rattle.up_http.specs.Requests.{First, most_requests, most_request, size_of}
use Rattle.up_heads.specs.declared.check.Check.{Check}
use Rattle.up_heads.specs.declared.check.Check.TheVariants.{BadRequest}
use Rattle.up_http.specs.declared.asked.What.TheVariants.{Fixed}
use Rattle.up_http.specs.declared.asked.Next.{Next}

-- the bytes taken since the last request, how many requests were given, and whether the stream has ended
pub record Fed : Type 0 where
  pub rest : List ℕ
  pub given : ℕ
  pub ended : Bool

-- the head states a body of which not all is there
abbrev pub IsCut : Result (Option ℕ) Check → List ℕ → Type 0
IsCut (Ok stated) after = length after < size_of stated
IsCut (Err check) after = ⊥

-- bytes of which nothing can be answered yet
abbrev pub Waits : List ℕ → Type 0
Waits bytes = (HasNoRequest bytes × (length bytes < most_head))
    ⊎ ((head : RequestHead) × (after : List ℕ) × Heads bytes head after × IsCut (framing head) after)

-- what a piece gives: nothing yet, and all of it was taken; or the next request, which is all of what was taken or the stream's last, and
-- without the last byte that was taken nothing could be answered yet
abbrev pub Gives : Fed → List ℕ → ℕ → Option Next → Fed → Type 0
Gives old piece taken None new =
    (taken ≡ length piece) × (new ≡ record { rest = old.rest ++ piece; given = old.given; ended = false }) × Waits new.rest
Gives old piece taken (Some next) new =
    (taken ≤ length piece) × (new ≡ record { rest = []; given = old.given + 1; ended = next.last })
    × (old.given < most_requests) × (0 < length (old.rest ++ take taken piece)) × (length (old.rest ++ take taken piece) ≤ most_request)
    × ((more : List ℕ) → First old.given ((old.rest ++ take taken piece) ++ more) next more)
    × ((taken ≡ 0) ⊎ Waits (old.rest ++ take (taken - 1) piece))

-- what a feeder does with a piece
pub record Feeds (old : Fed) (piece : List ℕ) (taken : ℕ) (next : Option Next) (new : Fed) : Type 0 where
  pub going_on : old.ended ≡ false → Gives old piece taken next new
  pub over : old.ended ≡ true → (taken ≡ 0) × (next ≡ None) × (new ≡ old)

-- a rest that isn't empty at the end of the input is one bad request more; then the stream has ended
abbrev pub Ends : Fed → Option Next → Fed → Type 0
Ends old None new = (old.ended ≡ false → old.rest ≡ []) × (new ≡ record { rest = old.rest; given = old.given; ended = true })
Ends old (Some next) new =
    (old.ended ≡ false) × (old.given < most_requests) × (0 < length old.rest) × First old.given old.rest next []
    × (next.what ≡ Fixed BadRequest) × (next.last ≡ true) × (new ≡ record { rest = []; given = old.given + 1; ended = true })
