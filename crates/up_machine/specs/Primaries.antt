-- Who sent a manifest, told by its vehicle's Primary alone. No delivery changes a Primary or its key, so what was once read of them holds
-- over deliveries.
use Rattle.std.specs.Prelude.{◌≡◌, ℕ, List, [], ◌∷◌, Option, option_map, option_and_then, bytes_eq, ⊤, Result, Ok, Err}
use Rattle.std.specs.FinMap as table
use Rattle.up_canon.specs.Names.{Name}
use Rattle.up_canon.specs.Steps.{◌>>=◌, unless}
use Rattle.up_canon.specs.declared.refusal.Refusal.{Refusal}
use Rattle.up_canon.specs.declared.refusal.Refusal.TheVariants.{WrongPrimary, BadManifestSignature}
use Rattle.up_sign.specs.Schemes.{Rules}
use Rattle.up_sign.specs.Envelopes.{is_accepted}
use Rattle.up_manifest.specs.declared.manifest.Incoming.{Incoming}
use Rattle.up_machine.specs.declared.command.Command.TheVariants.{Deliver}
use Rattle.up_machine.specs.declared.primary.Primary.{Primary}
use Rattle.up_machine.specs.Vehicles.{ecu_in}
use Rattle.up_machine.specs.State.{State, Vehicle}
use Rattle.up_machine.specs.Deliveries.{Received, receive_manifest}
use Rattle.up_machine.specs.Repeats.{serve}

-- the vehicle's Primary, with the public part of its key; none where it is none of its ECUs
abbrev pub primary_in : Vehicle → Option Primary
primary_in v = option_map (λ e. record { ecu = v.primary; public = e.public }) (ecu_in v.ecus v.primary)

-- none of an unknown vehicle
abbrev pub primary_of : State → Name → Option Primary
primary_of s name = option_and_then primary_in (table.get s.vehicles name)

-- the manifest names this Primary, and its key signed it
unfoldable pub check_sent : Rules → Primary → Incoming → Result ⊤ Refusal
check_sent k primary incoming = do
  wrong_primary ← unless (bytes_eq incoming.manifest.primary primary.ecu) WrongPrimary
  unless (is_accepted k (primary.public ∷ []) 1 incoming.envelope) BadManifestSignature

-- no check up to the Primary's signature refuses the manifest, or this refusal is due
abbrev pub GivesSent : Rules → State → Incoming → Result ⊤ Refusal → Type 0
GivesSent k s incoming (Ok passed) = (received : Received) × (receive_manifest k s incoming ≡ Ok received)
GivesSent k s incoming (Err r) = receive_manifest k s incoming ≡ Err r

-- whatever is delivered, every vehicle keeps its Primary, and the Primary its key
abbrev pub DeliveriesKeepPrimaries : Type 0
DeliveriesKeepPrimaries = (k : Rules) (s : State) (at : ℕ) (body : List ℕ) (name : Name) → primary_of (serve k s at (Deliver body)).next name ≡ primary_of s name
