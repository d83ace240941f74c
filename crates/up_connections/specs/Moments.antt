-- How long a connection is waited for, in milliseconds.
use Rattle.std.specs.Prelude.{ℕ, ◌-◌, min, Option, Some, None}
use Rattle.up_connections.specs.declared.patience.Patience.{Patience}

-- how long one may be silent: it sends nothing, or takes nothing of an answer
abbrev pub most_silence : ℕ
most_silence = 30000

-- how long it may last
abbrev pub most_life : ℕ
most_life = 300000

-- how long one may be silent behind its last answer, and how long what it still sends is dropped
abbrev pub last_silence : ℕ
last_silence = 2000

abbrev pub most_closing : ℕ
most_closing = 10000

-- what is left of a time that began at a moment
abbrev pub left_since : ℕ → ℕ → ℕ → ℕ
left_since most begun now = most - (now - begun)

-- how long one is still waited for: nothing is left once it was silent too long, or lasted too long
abbrev pub left_closing : Patience → Option ℕ → ℕ → ℕ
left_closing p None now = min (left_since most_silence p.moved now) (left_since most_life p.begun now)
left_closing p (Some since) now = min (left_since last_silence p.moved now) (left_since most_closing since now)

abbrev pub left_of : Patience → ℕ → ℕ
left_of p now = left_closing p p.closing now
