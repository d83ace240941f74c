-- What a connection shows.
use Rattle.std.specs.Prelude.{◌≡◌, ℕ, Bool, true, false, Option, Some, None, List, [], take, drop}
use Rattle.up_http.specs.Serving.{Gives}
use Rattle.up_http.specs.Talks.{Talk, silent, Event, Came, Ended, Told, Wrote, Happens}
use Rattle.up_http.specs.declared.asked.Next.{Next}
use Rattle.up_http.specs.declared.asked.What.TheVariants.{Call}
use Rattle.up_machine.specs.declared.command.Command.{Command}
use Rattle.up_machine.specs.declared.command.Command.TheVariants.{Deliver}
use Rattle.up_connections.specs.declared.connection.Delivery.{Delivery}

-- its conversation, and the request that waits for its answer
pub record Line : Type 0 where
  pub talk : Talk
  pub asks : Option Next

-- nothing was said on it
abbrev pub fresh : Line
fresh = record { talk = silent; asks = None }

-- What happens on it, over a state that all share. Each is what happens to its conversation, and only an answer leaves another state: it is
-- that of the request that waits.
abbrev pub HappensTo : {S : Type 0} → Gives S → S → Line → Event → S → Line → Type 0
HappensTo gives s old (Came piece taken next) now new = Happens old.talk (Came piece taken next) new.talk × (new.asks ≡ next) × (now ≡ s)
HappensTo gives s old (Ended next) now new = Happens old.talk (Ended next) new.talk × (new.asks ≡ next) × (now ≡ s)
HappensTo gives s old (Told text) now new = (next : Next) × (old.asks ≡ Some next) × Happens old.talk (Told text) new.talk × (new.asks ≡ None) × gives s next text now
HappensTo gives s old (Wrote bytes) now new = Happens old.talk (Wrote bytes) new.talk × (new.asks ≡ old.asks) × (now ≡ s)

-- what a connection shows: its line, and the bytes that came and that it hasn't taken
pub record Shown : Type 0 where
  pub line : Line
  pub coming : List ℕ

-- of the bytes that came it took those up to the end of the next request
abbrev pub TakesBytes : Shown → Shown → Type 0
TakesBytes old new = (taken : ℕ) × (next : Option Next) × Happens old.line.talk (Came old.coming taken next) new.line.talk
    × (new.line.asks ≡ next) × (new.coming ≡ drop taken old.coming)

-- no more bytes come
abbrev pub EndsBytes : Shown → Shown → Type 0
EndsBytes old new = (next : Option Next) × Happens old.line.talk (Ended next) new.line.talk × (new.line.asks ≡ next) × (new.coming ≡ [])

-- the request that waits is this command, to be told so, and is answered; or nothing changes
abbrev pub IsTold : Command → Bool → Bool → List ℕ → Shown → Shown → Bool → Type 0
IsTold asked head last text old new false = new ≡ old
IsTold asked head last text old new true = (old.line.asks ≡ Some (record { what = Call asked; head = head; last = last }))
    × Happens old.line.talk (Told text) new.line.talk × (new.line.asks ≡ None) × (new.coming ≡ old.coming)

-- the request that delivers a manifest so
abbrev pub asked_by : Delivery → Next
asked_by d = record { what = Call (Deliver d.body); head = d.head; last = d.last }

-- so many bytes of answers were written
abbrev pub WritesBytes : ℕ → Shown → Shown → Type 0
WritesBytes bytes old new = Happens old.line.talk (Wrote (take bytes old.line.talk.unsent)) new.line.talk × (new.line.asks ≡ old.line.asks) × (new.coming ≡ old.coming)

-- the request that waits has an answer, which leaves this state, but it couldn't be told
abbrev pub IsUntold : {S : Type 0} → Gives S → S → Line → S → Type 0
IsUntold gives s line now = (next : Next) × (text : List ℕ) × (line.asks ≡ Some next) × gives s next text now
