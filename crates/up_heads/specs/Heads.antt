-- The head at the front of bytes (RFC 9112, sections 2 to 5), within this service's limits.
use Rattle.std.specs.Prelude.{ℕ, ◌≤◌, List, ◌++◌, length}
use Rattle.httparse.specs.Grammar.{RequestHead, print_request, ReadsRequest}

-- the most bytes of a head, the empty lines before it included
abbrev pub most_head : ℕ
most_head = 16384

-- the most fields of a head
abbrev pub most_fields : ℕ
most_fields = 64

-- the bytes begin with that head, within the limits, and go on with these
pub record Heads (bytes : List ℕ) (head : RequestHead) (after : List ℕ) : Type 0 where
  pub reads : ReadsRequest bytes head after
  pub few : length head.fields ≤ most_fields
  pub short : length (print_request head) ≤ most_head

-- no head is at the front
abbrev pub HasNoHead : List ℕ → Type 0
HasNoHead bytes = (head : RequestHead) (after : List ℕ) → ¬ (Heads bytes head after)

-- no head is at the front, whatever bytes follow
abbrev pub NeverHasHead : List ℕ → Type 0
NeverHasHead bytes = (more : List ℕ) → HasNoHead (bytes ++ more)
