use Rattle.std.proofs.Common.{◌≡◌, map, take}
use Rattle.std.specs.Prelude.{⊤}
use Rattle.std.specs.FinMap as table
use Rattle.up_tables.specs.Statements.{WhereInside}
use Rattle.up_records.proofs.Sessions.{Chain}
use Rattle.up_desk.proofs.campaigns.known_vehicles.Given as goal

-- the vehicles so far are marked
abbrev pub invariant-loop-name : goal.invariant-loop-name
invariant-loop-name g l = WhereInside g.D.Store l.fn.tx.conn
    (Chain g.D.Store (λ _. ⊤) l.fn.tx.conn (λ _ s. l.known.items ≡ map (table.contains_key s.vehicles) (take l.name-index l.names)) l.tx.conn)
