-- The connections that are served at once.
use Rattle.std.specs.Prelude.{ℕ, min, Option, Some, None, List, [], ◌∷◌}
use Rattle.up_connections.specs.Moments.{left_of}
use Rattle.up_connections.specs.Lines.{fresh}
use Rattle.up_connections.specs.declared.hub.Client.{Client}

-- the most connections at once
abbrev pub most_clients : ℕ
most_clients = 256

-- a client that is accepted now
abbrev pub accepted_client : {T : Type 0} → ℕ → ℕ → ℕ → T → Client T
accepted_client number at now socket = record {
  number = number;
  at = at;
  patience = record { begun = now; moved = now; closing = None };
  connection = record { line = fresh; coming = [] };
  socket = socket;
}

-- the shorter of two times, of which the first may be none
abbrev pub sooner : Option ℕ → ℕ → ℕ
sooner None left = left
sooner (Some least) left = min least left

-- for how long the first of them is still waited for
abbrev pub least_from : {T : Type 0} → Option ℕ → ℕ → List (Client T) → Option ℕ
least_from least now [] = least
least_from least now (client ∷ clients) = least_from (Some (sooner least (left_of client.patience now))) now clients

abbrev pub least_left : {T : Type 0} → ℕ → List (Client T) → Option ℕ
least_left now clients = least_from None now clients
