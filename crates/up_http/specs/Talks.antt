-- What a conversation shows: how far its stream has come, whether a request waits for its answer, and what isn't written of the answers.
use Rattle.std.specs.Prelude.{◌≡◌, ◌+◌, ◌++◌, ℕ, Bool, true, false, ◌||◌, List, [], ◌∷◌, Option, is_some, length, take, flat_map, if◌then◌else◌}
use Rattle.up_lines.specs.Runs.{listed}
use Rattle.up_http.specs.Feeding.{Fed, Feeds, Ends}
use Rattle.up_http.specs.Requests.{Firsts, Requests}
use Rattle.up_http.specs.declared.asked.Next.{Next}
use Rattle.up_http.specs.declared.conversation.Wants.{Wants}
use Rattle.up_http.specs.declared.conversation.Wants.TheVariants.{Read, Answer, Write, Close}

pub record Talk : Type 0 where
  pub fed : Fed
  pub asking : Bool
  pub unsent : List ℕ

-- no byte has come
abbrev pub silent : Talk
silent = record { fed = record { rest = []; given = 0; ended = false }; asking = false; unsent = [] }

-- what is written of an answer comes before the next request is read
abbrev pub unsent_wants : List ℕ → Bool → Wants
unsent_wants [] ended = if ended then Close else Read
unsent_wants (byte ∷ bytes) ended = Write

-- what it goes on with
abbrev pub wants_of : Talk → Wants
wants_of talk = if talk.asking then Answer else unsent_wants talk.unsent talk.fed.ended

-- bytes were taken, perhaps with a request
pub record Hears (old : Talk) (piece : List ℕ) (taken : ℕ) (next : Option Next) (new : Talk) : Type 0 where
  pub feeds : Feeds old.fed piece taken next new.fed
  pub asks : new.asking ≡ is_some next
  pub same : new.unsent ≡ old.unsent

-- the bytes have ended, perhaps with a request
pub record EndsTalk (old : Talk) (next : Option Next) (new : Talk) : Type 0 where
  pub ends : Ends old.fed next new.fed
  pub asks : new.asking ≡ is_some next
  pub same : new.unsent ≡ old.unsent

-- ---- a whole conversation

-- what happens to it: bytes come, of which so many are taken, or no more come; an answer is given; bytes of answers are written
pub data Event : Type 0 where
  Came : List ℕ → ℕ → Option Next → Event
  Ended : Option Next → Event
  Told : List ℕ → Event
  Wrote : List ℕ → Event

-- each as its contract says, and only where it may be
abbrev pub Happens : Talk → Event → Talk → Type 0
Happens old (Came piece taken next) new = (wants_of old ≡ Read) × Hears old piece taken next new
Happens old (Ended next) new = (wants_of old ≡ Read) × EndsTalk old next new
Happens old (Told text) new = (wants_of old ≡ Answer) × (new ≡ record old { asking = false; unsent = text })
Happens old (Wrote bytes) new = (rest : List ℕ) × (old.unsent ≡ bytes ++ rest) × (new ≡ record old { unsent = rest })

-- one after another
abbrev pub Happen : Talk → List Event → Talk → Type 0
Happen old [] new = new ≡ old
Happen old (e ∷ es) new = (mid : Talk) × Happens old e mid × Happen mid es new

-- the bytes that were taken of all that came
abbrev pub taken_at : Event → List ℕ
taken_at (Came piece taken next) = take taken piece
taken_at (Ended next) = []
taken_at (Told text) = []
taken_at (Wrote bytes) = []

-- the request that was given
abbrev pub asked_at : Event → List Next
asked_at (Came piece taken next) = listed next
asked_at (Ended next) = listed next
asked_at (Told text) = []
asked_at (Wrote bytes) = []

-- its answer
abbrev pub answered_at : Event → List (List ℕ)
answered_at (Came piece taken next) = []
answered_at (Ended next) = []
answered_at (Told text) = text ∷ []
answered_at (Wrote bytes) = []

-- the bytes that were written
abbrev pub written_at : Event → List ℕ
written_at (Came piece taken next) = []
written_at (Ended next) = []
written_at (Told text) = []
written_at (Wrote bytes) = bytes

-- whether no more bytes come
abbrev pub is_end : Event → Bool
is_end (Came piece taken next) = false
is_end (Ended next) = true
is_end (Told text) = false
is_end (Wrote bytes) = false

abbrev pub has_end : List Event → Bool
has_end [] = false
has_end (e ∷ es) = is_end e || has_end es

-- how many requests wait for their answer
abbrev pub waiting : Bool → ℕ
waiting asking = if asking then 1 else 0

-- However its bytes are cut, and whenever its answers come and are written: the requests that it gave are those of the bytes, in order, none
-- twice and none left out; each answer is that of the request in its place; and what was written are the answers, in order, byte for byte.
pub record KeepsOrder (es : List Event) (now : Talk) : Type 0 where
  -- the first requests of the bytes, whatever follows
  pub first : has_end es ≡ false → (more : List ℕ) → Firsts 0 (flat_map taken_at es ++ more) (flat_map asked_at es) now.fed.ended (now.fed.rest ++ more)
  -- once the stream has ended they are all of its requests
  pub all : now.fed.ended ≡ true → (more : List ℕ) → (has_end es ≡ true → more ≡ []) → Requests (flat_map taken_at es ++ more) (flat_map asked_at es)
  -- one answer for each, but for the last while that waits
  pub answers : length (flat_map asked_at es) ≡ length (flat_map answered_at es) + waiting now.asking
  -- the bytes of the answers
  pub bytes : flat_map (λ text. text) (flat_map answered_at es) ≡ flat_map written_at es ++ now.unsent

-- so of every conversation
abbrev pub ConversationsKeepOrder : Type 0
ConversationsKeepOrder = (es : List Event) (now : Talk) → Happen silent es now → KeepsOrder es now
