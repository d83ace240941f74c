-- The requests of a stream of bytes (RFC 9112, sections 2 to 9).
use Rattle.std.specs.Prelude.{◌≡◌, ◌⊎◌, ℕ, ◌+◌, ◌<◌, ◌||◌, Bool, true, false, MatchBool, Option, unwrap_or, Result, Ok, Err, List, [], ◌∷◌, length, take, drop, nat_le}
use Rattle.httparse.specs.Grammar.{RequestHead}
use Rattle.up_heads.specs.Heads.{Heads, HasNoHead, most_head}
use Rattle.up_manifest.specs.Manifests.{largest_body}
use Rattle.up_heads.specs.Framing.{framing}
use Rattle.up_heads.specs.Closing.{closes}
use Rattle.up_heads.specs.Methods.{verb_of, is_head_verb}
use Rattle.up_heads.specs.Routed.{request_route}
use Rattle.up_heads.specs.declared.check.Check.{Check}
use Rattle.up_heads.specs.declared.check.Check.TheVariants.{BadRequest, NotFound, AllowGet, AllowPost, LengthRequired, TooLarge, NotImplemented}
use Rattle.up_heads.specs.declared.routed.Routed.{Routed}
use Rattle.up_heads.specs.declared.routed.Routed.TheVariants as routed_as
use Rattle.up_roles.specs.declared.repository.Repository.TheVariants.{Director, Image}
use Rattle.up_machine.specs.declared.command.Command.TheVariants.{Deliver, Fetch}
use Rattle.up_machine.specs.Commands.{opens_running}
use Rattle.up_http.specs.declared.asked.What.{What}
use Rattle.up_http.specs.declared.asked.What.TheVariants.{Call, Fixed}
use Rattle.up_http.specs.declared.asked.Next.{Next}

-- the most requests of a stream
abbrev pub most_requests : ℕ
most_requests = 100

-- the most bytes of a request
abbrev pub most_request : ℕ
most_request = most_head + largest_body

-- the bytes of a body; where no length is stated it is empty
abbrev pub size_of : Option ℕ → ℕ
size_of stated = unwrap_or stated 0

-- what a request asks, with its body
abbrev pub with_body : Routed → List ℕ → What
with_body (routed_as.Fixed check) body = Fixed check
with_body routed_as.Deliver body = Call (Deliver body)
with_body (routed_as.FetchDirector file) body = Call (Fetch Director file)
with_body (routed_as.FetchImage file) body = Call (Fetch Image file)

-- whether a campaign that is opened is running
unfoldable pub asks_running : What → Bool
asks_running (Call command) = opens_running command
asks_running (Fixed check) = true

-- whether a length has to be stated: then the stream ends, since nobody knows where the body does
abbrev pub needs_length : Check → Bool
needs_length LengthRequired = true
needs_length BadRequest = false
needs_length NotFound = false
needs_length AllowGet = false
needs_length AllowPost = false
needs_length TooLarge = false
needs_length NotImplemented = false

abbrev pub ends_with : Routed → Bool
ends_with (routed_as.Fixed check) = needs_length check
ends_with routed_as.Deliver = false
ends_with (routed_as.FetchDirector file) = false
ends_with (routed_as.FetchImage file) = false

-- whether the method is HEAD
unfoldable pub is_head : RequestHead → Bool
is_head head = is_head_verb (verb_of head.method)

-- bytes that don't begin with a head are one bad request
abbrev pub bad_request : Next
bad_request = record { what = Fixed BadRequest; head = false; last = true }

-- a check of the head alone ends the stream
abbrev pub refused : RequestHead → Check → Next
refused head check = record { what = Fixed check; head = is_head head; last = true }

-- a whole request, of which so many stood before it, with the length that it states and its body
abbrev pub asked : ℕ → RequestHead → Option ℕ → List ℕ → Next
asked before head stated body = record {
  what = with_body (request_route head stated) body;
  head = is_head head;
  last = closes head || (ends_with (request_route head stated) || nat_le most_requests (before + 1));
}

-- a whole head, what comes after it, the request that its framing makes of them, and what is left behind the request
abbrev pub Framed : ℕ → RequestHead → List ℕ → Result (Option ℕ) Check → Next → List ℕ → Type 0
Framed before head after (Err check) next rest = next ≡ refused head check
Framed before head after (Ok stated) next rest =
    MatchBool (nat_le (size_of stated) (length after)) ((next ≡ asked before head stated (take (size_of stated) after)) × (rest ≡ drop (size_of stated) after)) (next ≡ refused head BadRequest)

-- the first request of bytes, of which so many stood before, and what is left behind it; what follows the last request isn't answered
abbrev pub First : ℕ → List ℕ → Next → List ℕ → Type 0
First before bytes next rest =
    (HasNoHead bytes × (next ≡ bad_request))
    ⊎ ((head : RequestHead) × (after : List ℕ) × Heads bytes head after × Framed before head after (framing head) next rest)

-- the first requests of bytes, one after another, whether the stream ends with them, and what is left behind them
abbrev pub Firsts : ℕ → List ℕ → List Next → Bool → List ℕ → Type 0
Firsts before bytes [] ended rest = (ended ≡ false) × (rest ≡ bytes)
Firsts before bytes (next ∷ nexts) ended rest =
    (0 < length bytes) × (mid : List ℕ) × First before bytes next mid
    × MatchBool next.last ((nexts ≡ []) × (ended ≡ true)) (Firsts (before + 1) mid nexts ended rest)

-- the requests of bytes
pub record Requests (bytes : List ℕ) (nexts : List Next) : Type 0 where
  pub ended : Bool
  pub rest : List ℕ
  pub firsts : Firsts 0 bytes nexts ended rest
  pub all : ended ≡ false → rest ≡ []

-- bytes have their requests once
abbrev pub RequestsOnce : Type 0
RequestsOnce = (bytes : List ℕ) (nexts others : List Next) → Requests bytes nexts → Requests bytes others → nexts ≡ others
