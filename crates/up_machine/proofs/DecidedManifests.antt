-- What the decision on a manifest comes to at each of its ends, over the rows of a state.
use Rattle.std.proofs.Common.{◌≡◌, ℕ, ◌<◌, ◌≤◌, List, Option, Some, None, Ok, Err, refl, sym, ap, ◌∙◌, subst}
use Rattle.std.specs.Prelude.{⊤, option_map}
use Rattle.std.specs.FinMap as table
use Rattle.up_canon.specs.Moments.{last_command_moment}
use Rattle.up_canon.specs.Names.{Table}
use Rattle.up_canon.specs.Steps.{and_then, ◌>>=◌, or_error}
use Rattle.up_canon.specs.declared.refusal.Refusal.{Refusal}
use Rattle.up_canon.specs.declared.refusal.Refusal.TheVariants.{NotFounded, UnknownVehicle}
use Rattle.up_sign.specs.Schemes.{Rules}
use Rattle.up_manifest.specs.declared.manifest.Incoming.{Incoming}
use Rattle.up_manifest.specs.Laws.{BodiesAreRead, SignedTextsMean}
use Rattle.up_manifest.specs.Manifests.{manifest_of}
use Rattle.up_plan.specs.declared.campaign.Item.{Item}
use Rattle.up_plan.specs.Images.{ImageData}
use Rattle.up_plan.specs.Laws.{OtherImagesChangeNothing}
use Rattle.up_plan.specs.Offers.{OffersAloneCount}
use Rattle.up_plan.specs.Planning.{items_for}
use Rattle.up_machine.specs.declared.answer.Answer.TheVariants.{Reply as Replied}
use Rattle.up_machine.specs.declared.rows.Founding.{Founding}
use Rattle.up_machine.specs.declared.rows.Kept.{Kept}
use Rattle.up_machine.specs.declared.rows.VehicleRows.{VehicleRows}
use Rattle.up_machine.specs.declared.decision.Delivered.TheVariants.{Accepted}
use Rattle.up_machine.specs.State.{Vehicle, State, last_counter}
use Rattle.up_machine.specs.Deciding.{check_founded}
use Rattle.up_machine.specs.Deliveries.{Received, receive_manifest, accepted, decide_received, entry_of, with_entry}
use Rattle.up_machine.specs.Repeats.{repeat_in}
use Rattle.up_machine.specs.Rows.{founding_row, rows_of, vehicle_rows, reply_kept}
use Rattle.up_machine.specs.Sound.{IsSound}
use Rattle.up_machine.specs.Senders.{ArePlanned}
use Rattle.up_machine.specs.Decisions.{IsRead, DeliveryData, AreRowsFor, resolve, decide_incoming, GivesDelivered}
use Rattle.up_machine.specs.ManifestRows.{check_primary, repeated, accepted_rows}
use Rattle.up_machine.proofs.Parts.{check_new_of}
use Rattle.up_canon.proofs.Steps.{bind-ok, bind-err, map_some}
use Rattle.up_machine.proofs.FoundedRow.{founded_by_row, check_by_row}
use Rattle.up_machine.proofs.CheckedRows.{bind_same, bind_assoc, received_same, new_same}
use Rattle.up_machine.proofs.FoundRepeats.{resolve_kept, resolved}
use Rattle.up_machine.proofs.AcceptedManifests.{accepted_alike, accepted_are}
use Rattle.up_machine.proofs.NamedImages.{images_alike}

-- the rows that the decision is given are those of a sound state
pub record Given (k : Rules) (s : State) (at : ℕ) (incoming : Incoming) (rows : DeliveryData) : Type 0 where
  pub sound : IsSound k s
  pub moment : at ≤ last_command_moment
  pub read : IsRead incoming
  pub of_state : AreRowsFor s incoming.manifest rows

-- ---- before the vehicle is known

pub not_founded : (k : Rules) (s : State) (at : ℕ) (incoming : Incoming) (rows : DeliveryData)
    → Given k s at incoming rows → rows.founding ≡ None → decide_incoming k s at incoming ≡ Err NotFounded
unfolding decide_incoming receive_manifest
not_founded k s at incoming rows given none =
    let refused : check_founded s ≡ Err NotFounded = founded_by_row s ∙ ap check_by_row (sym given.of_state.founding ∙ none) in
    bind-err _ _ NotFounded (bind-err _ _ NotFounded refused)

-- the founding's row is there
is_founded : (s : State) (f : Founding) → founding_row s ≡ Some f → check_founded s ≡ Ok tt
is_founded s f there = founded_by_row s ∙ ap check_by_row there

no_vehicle : (s : State) (incoming : Incoming) (o : Option Vehicle) → None ≡ option_map (rows_of incoming.manifest.vehicle) o → o ≡ None
no_vehicle s incoming None h = refl
no_vehicle s incoming (Some v) h = cc

pub unknown_vehicle : (k : Rules) (s : State) (at : ℕ) (incoming : Incoming) (rows : DeliveryData) (f : Founding)
    → Given k s at incoming rows → rows.founding ≡ Some f → rows.vehicle ≡ None → decide_incoming k s at incoming ≡ Err UnknownVehicle
unfolding decide_incoming receive_manifest
unknown_vehicle k s at incoming rows f given there none =
    let founded = is_founded s f (sym given.of_state.founding ∙ there) in
    let missing : table.get s.vehicles incoming.manifest.vehicle ≡ None = no_vehicle s incoming _ (sym none ∙ given.of_state.vehicle) in
    bind-err _ _ UnknownVehicle (bind-ok _ _ tt founded ∙ bind-err _ _ UnknownVehicle (ap (or_error UnknownVehicle) missing))

-- ---- where the vehicle is known

-- the vehicle whose rows these are
record HasVehicle (s : State) (incoming : Incoming) (vehicle : VehicleRows) : Type 0 where
  v : Vehicle
  there : table.get s.vehicles incoming.manifest.vehicle ≡ Some v
  same : rows_of incoming.manifest.vehicle v ≡ vehicle

vehicle_there : (s : State) (incoming : Incoming) (vehicle : VehicleRows) → vehicle_rows s incoming.manifest.vehicle ≡ Some vehicle → HasVehicle s incoming vehicle
vehicle_there s incoming vehicle h =
    let found = map_some (rows_of incoming.manifest.vehicle) (table.get s.vehicles incoming.manifest.vehicle) vehicle h in
    record { v = found.0; there = found.1; same = found.2 }

pub decided : BodiesAreRead → SignedTextsMean → (k : Rules) (s : State) (at : ℕ) (incoming : Incoming) (rows : DeliveryData) (f : Founding) (v : Vehicle)
    → Given k s at incoming rows → rows.founding ≡ Some f → table.get s.vehicles incoming.manifest.vehicle ≡ Some v
    → decide_incoming k s at incoming ≡ (check_primary k (rows_of incoming.manifest.vehicle v) incoming >>= (λ _. resolve_kept k s at (record { vehicle = v; incoming = incoming }) (repeated incoming rows.kept)))
unfolding decide_incoming and_then
decided bodies texts k s at incoming rows f v given there found =
    let d : Received = record { vehicle = v; incoming = incoming } in
    let founded = is_founded s f (sym given.of_state.founding ∙ there) in
    let received = received_same k s incoming v tt founded found in
    ap (λ r. r >>= (λ r. resolve k s at r (repeat_in r))) received
    ∙ bind_assoc (check_primary k (rows_of incoming.manifest.vehicle v) incoming) (λ _. Ok d) (λ r. resolve k s at r (repeat_in r))
    ∙ bind_same (check_primary k (rows_of incoming.manifest.vehicle v) incoming) (λ _. resolve k s at d (repeat_in d)) (λ _. resolve_kept k s at d (repeated incoming rows.kept))
    (λ x ok. resolved bodies texts k s at d given.read.0 given.sound given.moment given.read.1 (received ∙ bind-ok _ _ x ok) found ∙ ap (λ o. resolve_kept k s at d (repeated incoming o)) (sym given.of_state.kept))

-- ---- the ends where the vehicle is known

by_vehicle : (s : State) (incoming : Incoming) (o : Option VehicleRows) (vehicle : VehicleRows) → o ≡ vehicle_rows s incoming.manifest.vehicle → o ≡ Some vehicle → HasVehicle s incoming vehicle
by_vehicle s incoming o vehicle of_vehicle is = vehicle_there s incoming vehicle (sym of_vehicle ∙ is)

-- the same, of the rows
decided_rows : BodiesAreRead → SignedTextsMean → (k : Rules) (s : State) (at : ℕ) (incoming : Incoming) (rows : DeliveryData) (f : Founding) (vehicle : VehicleRows)
    → Given k s at incoming rows → rows.founding ≡ Some f → (h : HasVehicle s incoming vehicle)
    → decide_incoming k s at incoming ≡ (check_primary k vehicle incoming >>= (λ _. resolve_kept k s at (record { vehicle = h.v; incoming = incoming }) (repeated incoming rows.kept)))
decided_rows bodies texts k s at incoming rows f vehicle given there h =
    decided bodies texts k s at incoming rows f h.v given there h.there
    ∙ ap (λ x. check_primary k x incoming >>= (λ _. resolve_kept k s at (record { vehicle = h.v; incoming = incoming }) (repeated incoming rows.kept))) h.same

pub bad_primary : BodiesAreRead → SignedTextsMean → (k : Rules) (s : State) (at : ℕ) (incoming : Incoming) (rows : DeliveryData) (f : Founding) (vehicle : VehicleRows) (e : Refusal)
    → Given k s at incoming rows → rows.founding ≡ Some f → rows.vehicle ≡ Some vehicle → check_primary k vehicle incoming ≡ Err e → decide_incoming k s at incoming ≡ Err e
bad_primary bodies texts k s at incoming rows f vehicle e given there is bad =
    let h = by_vehicle s incoming rows.vehicle vehicle given.of_state.vehicle is in
    decided_rows bodies texts k s at incoming rows f vehicle given there h ∙ bind-err _ _ e bad

-- what the decision comes to once the Primary's signature was checked
checked : BodiesAreRead → SignedTextsMean → (k : Rules) (s : State) (at : ℕ) (incoming : Incoming) (rows : DeliveryData) (f : Founding) (vehicle : VehicleRows) (x : ⊤)
    → Given k s at incoming rows → rows.founding ≡ Some f → (h : HasVehicle s incoming vehicle) → check_primary k vehicle incoming ≡ Ok x
    → decide_incoming k s at incoming ≡ resolve_kept k s at (record { vehicle = h.v; incoming = incoming }) (repeated incoming rows.kept)
checked bodies texts k s at incoming rows f vehicle x given there h good =
    decided_rows bodies texts k s at incoming rows f vehicle given there h ∙ bind-ok _ _ x good

pub is_repeated : BodiesAreRead → SignedTextsMean → (k : Rules) (s : State) (at : ℕ) (incoming : Incoming) (rows : DeliveryData) (f : Founding) (vehicle : VehicleRows) (row : Kept) (x : ⊤)
    → Given k s at incoming rows → rows.founding ≡ Some f → rows.vehicle ≡ Some vehicle → check_primary k vehicle incoming ≡ Ok x → repeated incoming rows.kept ≡ Some row
    → decide_incoming k s at incoming ≡ Ok (record { answer = Replied (reply_kept row); next = s })
is_repeated bodies texts k s at incoming rows f vehicle row x given there is good again =
    let h = by_vehicle s incoming rows.vehicle vehicle given.of_state.vehicle is in
    checked bodies texts k s at incoming rows f vehicle x given there h good ∙ ap (resolve_kept k s at (record { vehicle = h.v; incoming = incoming })) again

-- what the decision comes to where the manifest is no repeat
as_new : BodiesAreRead → SignedTextsMean → (k : Rules) (s : State) (at : ℕ) (incoming : Incoming) (rows : DeliveryData) (f : Founding) (vehicle : VehicleRows) (x : ⊤)
    → Given k s at incoming rows → rows.founding ≡ Some f → (h : HasVehicle s incoming vehicle) → check_primary k vehicle incoming ≡ Ok x → repeated incoming rows.kept ≡ None
    → decide_incoming k s at incoming ≡ (check_new_of k vehicle incoming.manifest >>= (λ _. Ok (accepted k s at (record { vehicle = h.v; incoming = incoming }))))
unfolding decide_received
as_new bodies texts k s at incoming rows f vehicle x given there h good fresh =
    let d : Received = record { vehicle = h.v; incoming = incoming } in
    checked bodies texts k s at incoming rows f vehicle x given there h good
    ∙ ap (resolve_kept k s at d) fresh
    ∙ ap (λ r. r >>= (λ _. Ok (accepted k s at d))) (sym (new_same k d))
    ∙ ap (λ vehicle. check_new_of k vehicle incoming.manifest >>= (λ _. Ok (accepted k s at d))) h.same

pub bad_manifest : BodiesAreRead → SignedTextsMean → (k : Rules) (s : State) (at : ℕ) (incoming : Incoming) (rows : DeliveryData) (f : Founding) (vehicle : VehicleRows) (x : ⊤) (e : Refusal)
    → Given k s at incoming rows → rows.founding ≡ Some f → rows.vehicle ≡ Some vehicle → check_primary k vehicle incoming ≡ Ok x → repeated incoming rows.kept ≡ None → check_new_of k vehicle incoming.manifest ≡ Err e
    → decide_incoming k s at incoming ≡ Err e
bad_manifest bodies texts k s at incoming rows f vehicle x e given there is good fresh bad =
    let h = by_vehicle s incoming rows.vehicle vehicle given.of_state.vehicle is in
    as_new bodies texts k s at incoming rows f vehicle x given there h good fresh ∙ bind-err _ _ e bad

pub is_accepted : OtherImagesChangeNothing → OffersAloneCount → BodiesAreRead → SignedTextsMean → (k : Rules) (s : State) (at : ℕ) (incoming : Incoming) (rows : DeliveryData) (f : Founding) (vehicle : VehicleRows) (x y : ⊤)
    (images : Table ImageData) (items : List Item) → ArePlanned s incoming.manifest images items → Given k s at incoming rows → rows.founding ≡ Some f → rows.vehicle ≡ Some vehicle → check_primary k vehicle incoming ≡ Ok x → repeated incoming rows.kept ≡ None
    → check_new_of k vehicle incoming.manifest ≡ Ok y → vehicle.vehicle.last < incoming.manifest.counter
    → GivesDelivered s incoming.manifest.vehicle (Ok (Accepted (accepted_rows k f vehicle at incoming images items))) (decide_incoming k s at incoming)
is_accepted others offers bodies texts k s at incoming rows f vehicle x y images items planned given there is good fresh passes later =
    let h = by_vehicle s incoming rows.vehicle vehicle given.of_state.vehicle is in
    let d : Received = record { vehicle = h.v; incoming = incoming } in
    let above : last_counter h.v.entries < incoming.manifest.counter = subst (λ (r : VehicleRows). r.vehicle.last < incoming.manifest.counter) (sym h.same) later in
    let read : manifest_of incoming.envelope.signed ≡ Some incoming.manifest = texts given.read.0 incoming given.read.1 in
    let has = accepted_are k s at d f (sym given.of_state.founding ∙ there) above read in
    let comes = as_new bodies texts k s at incoming rows f vehicle x given there h good fresh ∙ bind-ok _ _ y passes in
    let all = items_for (table.values s.campaigns) incoming.manifest.vehicle in
    let same : accepted_rows k f (rows_of incoming.manifest.vehicle h.v) at incoming s.images all ≡ accepted_rows k f vehicle at incoming images items =
    images_alike others (table.values s.campaigns) (rows_of incoming.manifest.vehicle h.v) incoming k f at images s.images planned.images_are
    (λ file image is. (given.sound.repositories.each_image file image is).named)
    ∙ accepted_alike offers k f (rows_of incoming.manifest.vehicle h.v) at incoming images all items (λ hardware image. sym (planned.items_are hardware image))
    ∙ ap (λ r. accepted_rows k f r at incoming images items) h.same in
    subst (λ a. GivesDelivered s incoming.manifest.vehicle (Ok (Accepted a)) (decide_incoming k s at incoming)) same
    (h.v, entry_of k s at d, h.there, comes ∙ ap (λ reply. Ok (record { answer = Replied reply; next = with_entry s incoming.manifest.vehicle h.v (entry_of k s at d) })) (sym (ap reply_kept has.kept)), has)
