-- What a script and a stream come to over a database that was taken.
use Rattle.std.specs.Prelude.{◌≡◌, ◌⊎◌, ℕ, List, Option, Result}
use Rattle.sqlite_disk.specs.Disk.{MoreFaults}
use Rattle.sqlite.specs.Held.{Held}
use Rattle.sqlite.specs.Held as holding
use Rattle.sqlite.specs.State.{State as Connected}
use Rattle.sqlite_trees.specs.declared.store.Store.{Ghosts}
use Rattle.up_sign.specs.Schemes.{Rules}
use Rattle.up_machine.specs.Sound.{IsSound}
use Rattle.up_machine.specs.State.{State, empty_state}
use Rattle.up_rows.specs.StateRows.{rows_of_state}
use Rattle.up_tables.specs.Stands.{HasNoTables, IfClean}
use Rattle.up_tables.specs.declared.open.SchemaVersion.{SchemaVersion}
use Rattle.up_store.specs.Connections.{KeepsAs}
use Rattle.up_file.specs.Schemes.{IsTakenFor}
use Rattle.up_lines.specs.declared.fault.ScriptFault.{ScriptFault}
use Rattle.up_http.specs.declared.fault.ServeFault.{ServeFault}
use Rattle.up_http.specs.declared.served.Served.{Served}
use Rattle.up_records.specs.Standing as standing
use Rattle.up_records.specs.Standing.{HasCleanDisk, ShowsState, bare}
use Rattle.up_desk.specs.Desks.{DeskView}
use Rattle.up_shipped.specs.Shipped.{ShipsScript, ShipsStream}

-- The tables of some version of the schema showed the state. Or there were none, and nothing is founded in it, where the disk counted no
-- fault, which may shut a connection.
abbrev pub WasShown : State → Connected → Connected → Type 0
WasShown s conn taken = ((version : SchemaVersion) × IfClean (KeepsAs version (rows_of_state s)) conn)
    ⊎ ((s ≡ empty_state) × IfClean HasNoTables conn × ¬ MoreFaults conn.faults taken.faults)

-- a database that was taken shows each sound state that it showed before
abbrev pub TakenTablesShow : {K D : Type 0} → (K → Rules) → Ghosts D → Type 0
TakenTablesShow {K} {D} rules g = (scheme : K) (conn taken : Held D) → IsTakenFor (holding.state g) (rules scheme).method (holding.state g conn) (holding.state g taken)
    → (s : State) → IsSound (rules scheme) s → WasShown s (holding.state g conn) (holding.state g taken)
    → standing.IfClean (ShowsState s) (standing.state g (bare taken))

-- The database was taken for this scheme, and then the script was carried out over it. Its commands with their answers are a run of the plain
-- machine, from each sound state that was shown before.
pub record StartsScript {K D : Type 0} (rules : K → Rules) (g : Ghosts D) (scheme : K) (conn : Held D) (had has held holds : Option (List ℕ)) (result : Result ℕ ScriptFault) (now : DeskView K D) : Type 0 where
  pub taken : Held D
  pub is_taken : IsTakenFor (holding.state g) (rules scheme).method (holding.state g conn) (holding.state g taken)
  pub ships : HasCleanDisk (standing.state g now.store) → (s : State) → IsSound (rules scheme) s → WasShown s (holding.state g conn) (holding.state g taken)
      → ShipsScript rules g s had has (record { state = record { scheme = scheme; store = bare taken }; held = held }) (record { state = now; held = holds }) result

-- the same of a stream of requests
pub record StartsStream {K D : Type 0} (rules : K → Rules) (g : Ghosts D) (at : ℕ) (scheme : K) (conn : Held D) (had has held holds : Option (List ℕ)) (result : Result Served ServeFault) (now : DeskView K D) : Type 0 where
  pub taken : Held D
  pub is_taken : IsTakenFor (holding.state g) (rules scheme).method (holding.state g conn) (holding.state g taken)
  pub ships : HasCleanDisk (standing.state g now.store) → (s : State) → IsSound (rules scheme) s → WasShown s (holding.state g conn) (holding.state g taken)
      → ShipsStream rules g at s had has (record { state = record { scheme = scheme; store = bare taken }; held = held }) (record { state = now; held = holds }) result
