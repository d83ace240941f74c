-- What a delivery that passed the checks up to its Primary's signature says of its manifest and its vehicle.
use Rattle.std.proofs.Common.{◌≡◌, ℕ, ◌≤◌, List, true, Some, Ok, refl, ap, ◌∙◌, subst}
use Rattle.std.specs.Cmp.Lexicographic.{bytes_decides}
use Rattle.std.specs.FinMap as table
use Rattle.up_canon.specs.Moments.{last_command_moment}
use Rattle.up_sign.specs.Schemes.{Rules}
use Rattle.up_manifest.specs.declared.manifest.Incoming.{Incoming}
use Rattle.up_manifest.specs.Manifests.{incoming_in}
use Rattle.up_machine.specs.State.{State, is_founded}
use Rattle.up_machine.specs.Deliveries.{Received, receive_manifest, receive, is_signed_by}
use Rattle.up_canon.proofs.Steps.{first_ok, same_ok, or_error_ok, unless_ok}
use Rattle.up_machine.proofs.Decided.{in_time, founded_is}

pub record IsReceivedManifest (k : Rules) (s : State) (incoming : Incoming) (r : Received) : Type 0 where
  pub founded : is_founded s ≡ true
  pub vehicle : table.get s.vehicles r.incoming.manifest.vehicle ≡ Some r.vehicle
  pub primary : r.incoming.manifest.primary ≡ r.vehicle.primary
  pub signed : is_signed_by k r.vehicle.ecus r.vehicle.primary r.incoming.envelope ≡ true
  pub same : incoming ≡ r.incoming

pub manifest_received : (k : Rules) (s : State) (incoming : Incoming) (r : Received) → receive_manifest k s incoming ≡ Ok r → IsReceivedManifest k s incoming r
unfolding receive_manifest
manifest_received k s incoming r h =
    first_ok _ _ _ _ h (λ a there h. first_ok _ _ _ _ h (λ v found h. first_ok _ _ _ _ h (λ b primary h. first_ok _ _ _ _ h (λ c signed h.
    subst (IsReceivedManifest k s incoming) (same_ok _ _ h) (record {
      founded = founded_is s a there;
      vehicle = or_error_ok _ _ _ found;
      primary = (bytes_decides incoming.manifest.primary v.primary).0 (unless_ok _ _ _ primary);
      signed = unless_ok _ _ _ signed;
      same = refl;
    })))))

pub record IsReceived (k : Rules) (s : State) (at : ℕ) (body : List ℕ) (r : Received) : Type 0 where
  pub moment : at ≤ last_command_moment
  pub reads : incoming_in body ≡ Ok r.incoming
  pub founded : is_founded s ≡ true
  pub vehicle : table.get s.vehicles r.incoming.manifest.vehicle ≡ Some r.vehicle
  pub primary : r.incoming.manifest.primary ≡ r.vehicle.primary

pub received : (k : Rules) (s : State) (at : ℕ) (body : List ℕ) (r : Received) → receive k s at body ≡ Ok r → IsReceived k s at body r
unfolding receive
received k s at body r h =
    first_ok _ _ _ _ h (λ a moment h. first_ok _ _ _ _ h (λ incoming reads h.
    let is = manifest_received k s incoming r h in
    record { moment = in_time at a moment; reads = reads ∙ ap Ok is.same; founded = is.founded; vehicle = is.vehicle; primary = is.primary }))
