-- The steps of the decision on a manifest, over the rows of a state.
use Rattle.std.proofs.Common.{◌≡◌, ℕ, ◌+◌, ◌<◌, ◌≤◌, List, [], ◌∷◌, true, false, Option, Some, None, Result, Ok, Err, refl, sym, ap, ◌∙◌, subst, arith}
use Rattle.std.proofs.lemmas.Bool.Decides.{nat_tests}
use Rattle.std.proofs.lemmas.Result.{err_from_is_err_and}
use Rattle.std.specs.Prelude.{⊤, ◌==◌, Bool, bytes_eq, find, is_some, nat_le, nat_lt, option_and_then, option_map, IsErrAnd}
use Rattle.std.specs.List.{AllByRecursion, enumerate_from}
use Rattle.std.specs.FinMap as table
use Rattle.up_canon.specs.Moments.{last_command_moment}
use Rattle.up_canon.specs.Names.{Name, Table}
use Rattle.up_canon.specs.Steps.{and_then, ◌>>=◌, or_error, refuse_if, unless}
use Rattle.up_canon.specs.declared.refusal.Refusal.{Refusal}
use Rattle.up_canon.specs.declared.refusal.Refusal.TheVariants.{Memory, NotFounded, UnknownVehicle, WrongPrimary, BadManifestSignature, Stale}
use Rattle.up_sign.specs.Schemes.{Rules}
use Rattle.up_manifest.specs.declared.manifest.Incoming.{Incoming}
use Rattle.up_manifest.specs.declared.manifest.Manifest.{Manifest}
use Rattle.up_manifest.specs.Laws.{BodiesAreRead, SignedTextsMean}
use Rattle.up_plan.specs.declared.campaign.Item.{Item}
use Rattle.up_plan.specs.Images.{ImageData}
use Rattle.up_plan.specs.Laws.{OtherImagesChangeNothing}
use Rattle.up_plan.specs.Offers.{OffersAloneCount}
use Rattle.up_machine.specs.declared.answer.Answer.TheVariants.{Reply as Replied}
use Rattle.up_machine.specs.declared.decision.Delivered.TheVariants.{Accepted}
use Rattle.up_machine.specs.declared.rows.Founding.{Founding}
use Rattle.up_machine.specs.declared.rows.Kept.{Kept}
use Rattle.up_machine.specs.declared.rows.VehicleRows.{VehicleRows}
use Rattle.up_machine.specs.State.{Entry, Vehicle, State, last_counter}
use Rattle.up_machine.specs.Sound.{IsSound}
use Rattle.up_machine.specs.Deciding.{check_founded}
use Rattle.up_machine.specs.Deliveries.{receive_manifest}
use Rattle.up_machine.specs.Decisions.{IsRead, DeliveryData, decide_incoming, files_named, GivesDelivered}
use Rattle.up_machine.specs.ManifestRows.{accepted_rows, check_primary, check_reports_of, is_signed_by_row, repeated}
use Rattle.up_machine.proofs.Parts.{check_new_of}
use Rattle.up_machine.specs.Rows.{founding_row, kept_at, kept_row, reply_kept, rows_of, vehicle_rows}
use Rattle.up_machine.specs.Senders.{ArePlanned, GivesSender, IsSenderOf, SenderData, TakesMemory}
use Rattle.up_canon.proofs.Steps.{bind-ok, bind-err, first_ok, map_some}
use Rattle.up_machine.proofs.CheckedRows.{received_same}
use Rattle.up_machine.proofs.DecidedManifests.{Given, bad_manifest, is_accepted, is_repeated}
use Rattle.up_machine.proofs.FoundedRow.{founded_by_row, check_by_row}
use Rattle.up_machine.proofs.Passing.{memory_first}

-- ---- who sent it

pub no_founding : (k : Rules) (s : State) (incoming : Incoming) → founding_row s ≡ None → receive_manifest k s incoming ≡ Err NotFounded
unfolding receive_manifest
no_founding k s incoming none = bind-err _ _ NotFounded (founded_by_row s ∙ ap check_by_row none)

pub is_founded : (s : State) (f : Founding) → founding_row s ≡ Some f → check_founded s ≡ Ok tt
is_founded s f there = founded_by_row s ∙ ap check_by_row there

no_rows : (name : Name) (o : Option Vehicle) → option_map (rows_of name) o ≡ None → o ≡ None
no_rows name None h = refl
no_rows name (Some v) h = cc

pub no_vehicle : (k : Rules) (s : State) (incoming : Incoming) (f : Founding) → founding_row s ≡ Some f → vehicle_rows s incoming.manifest.vehicle ≡ None
    → receive_manifest k s incoming ≡ Err UnknownVehicle
unfolding receive_manifest
no_vehicle k s incoming f there none =
    let missing : table.get s.vehicles incoming.manifest.vehicle ≡ None = no_rows incoming.manifest.vehicle _ none in
    bind-ok _ _ tt (is_founded s f there) ∙ bind-err _ _ UnknownVehicle (ap (or_error UnknownVehicle) missing)

-- the vehicle is there, and the rest is the test of its Primary
record IsTested (k : Rules) (s : State) (incoming : Incoming) (vehicle : VehicleRows) : Type 0 where
  v : Vehicle
  receives : receive_manifest k s incoming ≡ (check_primary k vehicle incoming >>= (λ _. Ok (record { vehicle = v; incoming = incoming })))

tested : (k : Rules) (s : State) (incoming : Incoming) (f : Founding) (vehicle : VehicleRows) → founding_row s ≡ Some f → vehicle_rows s incoming.manifest.vehicle ≡ Some vehicle
    → IsTested k s incoming vehicle
tested k s incoming f vehicle there is =
    let found = map_some (rows_of incoming.manifest.vehicle) (table.get s.vehicles incoming.manifest.vehicle) vehicle is in
    record {
      v = found.0;
      receives = received_same k s incoming found.0 tt (is_founded s f there) found.1
          ∙ ap (λ rows. check_primary k rows incoming >>= (λ _. Ok (record { vehicle = found.0; incoming = incoming }))) found.2;
    }

pub not_sent : (k : Rules) (s : State) (incoming : Incoming) (f : Founding) (vehicle : VehicleRows) (e : Refusal) → founding_row s ≡ Some f → vehicle_rows s incoming.manifest.vehicle ≡ Some vehicle
    → check_primary k vehicle incoming ≡ Err e → receive_manifest k s incoming ≡ Err e
not_sent k s incoming f vehicle e there is bad = (tested k s incoming f vehicle there is).receives ∙ bind-err _ _ e bad

pub is_sent : (k : Rules) (s : State) (incoming : Incoming) (sender : SenderData) (x : ⊤) → founding_row s ≡ Some sender.founding → vehicle_rows s incoming.manifest.vehicle ≡ Some sender.vehicle
    → check_primary k sender.vehicle incoming ≡ Ok x → IsSenderOf k s incoming sender
is_sent k s incoming sender x there is good =
    let test = tested k s incoming sender.founding sender.vehicle there is in
    record { founding = there; vehicle = is; received = record { vehicle = test.v; incoming = incoming }; receives = test.receives ∙ bind-ok _ _ x good }

signed_by : (k : Rules) (s : State) (incoming : Incoming) (sender : SenderData) → IsSenderOf k s incoming sender → check_primary k sender.vehicle incoming ≡ Ok tt
signed_by k s incoming sender from =
    let test = tested k s incoming sender.founding sender.vehicle from.founding from.vehicle in
    first_ok (check_primary k sender.vehicle incoming) (λ _. Ok (record { vehicle = test.v; incoming = incoming })) from.received (check_primary k sender.vehicle incoming ≡ Ok tt)
    (sym test.receives ∙ from.receives) (λ x is _. is)

pub sender_refused : (k : Rules) (s : State) (incoming : Incoming) (result : Result SenderData Refusal) (e : Refusal) → IsErrAnd result (λ x. x ≡ e) → receive_manifest k s incoming ≡ Err e
    → GivesSender k s incoming result
sender_refused k s incoming result e is bad =
    let (x, was, same) = err_from_is_err_and result is in
    subst (GivesSender k s incoming) (sym (was ∙ ap (λ x. Err x) same)) bad

-- what refuses the sender refuses the manifest
pub refused_first : (k : Rules) (s : State) (at : ℕ) (incoming : Incoming) (e : Refusal) → receive_manifest k s incoming ≡ Err e → decide_incoming k s at incoming ≡ Err e
unfolding decide_incoming
refused_first k s at incoming e bad = bind-err _ _ e bad

-- ---- want of memory

no_memory : (a b : Bool) → (unless a WrongPrimary >>= (λ _. unless b BadManifestSignature)) ≡ Err Memory → ⊥
unfolding and_then
no_memory true true h = cc
no_memory true false h = cc
no_memory false b h = cc

-- the test of the Primary takes none
pub sender_outright : {A : Type 0} (k : Rules) (incoming : Incoming) (vehicle : VehicleRows) (result : Result A Refusal) (e : Refusal) → IsErrAnd result (λ x. x ≡ e) → result ≡ Err Memory
    → check_primary k vehicle incoming ≡ Err e → ⊥
unfolding check_primary
sender_outright k incoming vehicle result e is memory bad =
    no_memory (bytes_eq incoming.manifest.primary vehicle.vehicle.primary) (is_signed_by_row k vehicle.ecus vehicle.vehicle.primary incoming.envelope)
    (memory_first result e (check_primary k vehicle incoming) is memory bad)

-- behind it some is taken for a counter above the last one, and for a repeat
pub taken_again : (k : Rules) (incoming : Incoming) (given rows : DeliveryData) (sender : SenderData) → given ≡ rows → given.founding ≡ Some sender.founding → given.vehicle ≡ Some sender.vehicle
    → check_primary k sender.vehicle incoming ≡ Ok tt → is_some (repeated incoming given.kept) ≡ true → TakesMemory k incoming rows
taken_again k incoming given rows sender is founding vehicle sent again =
    subst (TakesMemory k incoming) is (record { sender = sender; founding = founding; vehicle = vehicle; sent = sent; again = λ older. again })

never_older : (a b : ℕ) → nat_lt a b ≡ true → b ≤ a → ⊥
never_older a b later older =
    let no : nat_lt a b ≡ false = grind (arith, nat_tests) in
    cc

pub taken_later : (k : Rules) (incoming : Incoming) (given rows : DeliveryData) (sender : SenderData) → given ≡ rows → given.founding ≡ Some sender.founding → given.vehicle ≡ Some sender.vehicle
    → check_primary k sender.vehicle incoming ≡ Ok tt → nat_lt sender.vehicle.vehicle.last incoming.manifest.counter ≡ true → TakesMemory k incoming rows
taken_later k incoming given rows sender is founding vehicle sent later =
    subst (TakesMemory k incoming) is (record {
      sender = sender;
      founding = founding;
      vehicle = vehicle;
      sent = sent;
      again = λ older. absurd (never_older sender.vehicle.vehicle.last incoming.manifest.counter later older);
    })

-- ---- above the last counter no row is kept

other_counter : (a counter : ℕ) → a < counter → (a == counter) ≡ false
other_counter a counter h = grind (arith, nat_tests)

none_above : (n counter : ℕ) (entries : List Entry) → last_counter entries < counter → find (λ (e : ℕ × Entry). e.1.counter == counter) (enumerate_from n entries) ≡ None
none_above n counter [] h = refl
none_above n counter (e ∷ entries) h =
    let here : e.counter < counter = omega arith in
    let more : last_counter entries < counter = omega arith in
    rw (other_counter e.counter counter here, none_above (n + 1) counter entries more)

pub none_kept : (s : State) (name : Name) (rows : VehicleRows) (counter : ℕ) → vehicle_rows s name ≡ Some rows → rows.vehicle.last < counter → kept_at s name counter ≡ None
none_kept s name rows counter is later =
    let found = map_some (rows_of name) (table.get s.vehicles name) rows is in
    let v : Vehicle = found.0 in
    let above : last_counter v.entries < counter = subst (λ (r : VehicleRows). r.vehicle.last < counter) (sym found.2) later in
    ap (option_and_then (λ (v : Vehicle). option_map (λ (e : ℕ × Entry). kept_row name e.0 e.1) (find (λ (e : ℕ × Entry). e.1.counter == counter) (enumerate_from 1 v.entries)))) found.1
    ∙ ap (option_map (λ (e : ℕ × Entry). kept_row name e.0 e.1)) (none_above 1 counter v.entries above)

-- ---- the rows of a state itself

same_images : (images : Table ImageData) (files : List Name) → AllByRecursion (λ file. table.get images file ≡ table.get images file) files
same_images images [] = tt
same_images images (file ∷ files) = (refl, same_images images files)

abbrev all_rows : State → Manifest → DeliveryData
all_rows s manifest = record {
  founding = founding_row s;
  vehicle = vehicle_rows s manifest.vehicle;
  kept = kept_at s manifest.vehicle manifest.counter;
  images = s.images;
  campaigns = table.values s.campaigns;
}

all_given : (k : Rules) (s : State) (at : ℕ) (incoming : Incoming) → IsSound k s → at ≤ last_command_moment → IsRead incoming → Given k s at incoming (all_rows s incoming.manifest)
all_given k s at incoming sound moment read = record {
  sound = sound;
  moment = moment;
  read = read;
  of_state = record {
    founding = refl;
    vehicle = refl;
    kept = refl;
    images = record {
      named = λ file image is. (sound.repositories.each_image file image is).named;
      same = same_images s.images (files_named (table.values s.campaigns) incoming.manifest.vehicle incoming.manifest.reports);
    };
    campaigns = refl;
  };
}

-- ---- a counter that isn't above the last

pub again_repeated : BodiesAreRead → SignedTextsMean → (k : Rules) (s : State) (at : ℕ) (incoming : Incoming) (sender : SenderData) (kept : Option Kept) (row : Kept)
    → IsSound k s → at ≤ last_command_moment → IsRead incoming → IsSenderOf k s incoming sender → kept ≡ kept_at s incoming.manifest.vehicle incoming.manifest.counter → repeated incoming kept ≡ Some row
    → decide_incoming k s at incoming ≡ Ok (record { answer = Replied (reply_kept row); next = s })
again_repeated bodies texts k s at incoming sender kept row sound moment read from is again =
    is_repeated bodies texts k s at incoming (all_rows s incoming.manifest) sender.founding sender.vehicle row tt (all_given k s at incoming sound moment read)
    from.founding from.vehicle (signed_by k s incoming sender from) (ap (repeated incoming) (sym is) ∙ again)

not_above : (a b : ℕ) → a ≤ b → nat_le a b ≡ true
not_above a b h = grind (arith, nat_tests)

stale_of : (k : Rules) (rows : VehicleRows) (manifest : Manifest) → manifest.counter ≤ rows.vehicle.last → check_new_of k rows manifest ≡ Err (Stale rows.vehicle.last)
unfolding check_new_of
stale_of k rows manifest older =
    bind-err _ _ (Stale rows.vehicle.last) (ap (λ b. refuse_if b (Stale rows.vehicle.last)) (not_above manifest.counter rows.vehicle.last older))

pub again_stale : BodiesAreRead → SignedTextsMean → (k : Rules) (s : State) (at : ℕ) (incoming : Incoming) (sender : SenderData) (kept : Option Kept)
    → IsSound k s → at ≤ last_command_moment → IsRead incoming → IsSenderOf k s incoming sender → kept ≡ kept_at s incoming.manifest.vehicle incoming.manifest.counter → repeated incoming kept ≡ None
    → incoming.manifest.counter ≤ sender.vehicle.vehicle.last → decide_incoming k s at incoming ≡ Err (Stale sender.vehicle.vehicle.last)
again_stale bodies texts k s at incoming sender kept sound moment read from is fresh older =
    bad_manifest bodies texts k s at incoming (all_rows s incoming.manifest) sender.founding sender.vehicle tt (Stale sender.vehicle.vehicle.last) (all_given k s at incoming sound moment read)
    from.founding from.vehicle (signed_by k s incoming sender from) (ap (repeated incoming) (sym is) ∙ fresh) (stale_of k sender.vehicle incoming.manifest older)

-- ---- a counter above the last

above_it : (a b : ℕ) → b < a → nat_le a b ≡ false
above_it a b h = grind (arith, nat_tests)

later_of : (k : Rules) (rows : VehicleRows) (manifest : Manifest) → rows.vehicle.last < manifest.counter → check_new_of k rows manifest ≡ check_reports_of k rows.ecus manifest.reports
unfolding check_new_of
later_of k rows manifest later =
    bind-ok _ _ tt (ap (λ b. refuse_if b (Stale rows.vehicle.last)) (above_it manifest.counter rows.vehicle.last later))

not_repeated : (k : Rules) (s : State) (incoming : Incoming) (sender : SenderData) → IsSenderOf k s incoming sender → sender.vehicle.vehicle.last < incoming.manifest.counter
    → repeated incoming (kept_at s incoming.manifest.vehicle incoming.manifest.counter) ≡ None
not_repeated k s incoming sender from later = ap (repeated incoming) (none_kept s incoming.manifest.vehicle sender.vehicle incoming.manifest.counter from.vehicle later)

pub new_refused : BodiesAreRead → SignedTextsMean → (k : Rules) (s : State) (at : ℕ) (incoming : Incoming) (sender : SenderData) (e : Refusal)
    → IsSound k s → at ≤ last_command_moment → IsRead incoming → IsSenderOf k s incoming sender → sender.vehicle.vehicle.last < incoming.manifest.counter
    → check_reports_of k sender.vehicle.ecus incoming.manifest.reports ≡ Err e → decide_incoming k s at incoming ≡ Err e
new_refused bodies texts k s at incoming sender e sound moment read from later bad =
    bad_manifest bodies texts k s at incoming (all_rows s incoming.manifest) sender.founding sender.vehicle tt e (all_given k s at incoming sound moment read)
    from.founding from.vehicle (signed_by k s incoming sender from) (not_repeated k s incoming sender from later) (later_of k sender.vehicle incoming.manifest later ∙ bad)

pub new_accepted : OtherImagesChangeNothing → OffersAloneCount → BodiesAreRead → SignedTextsMean → (k : Rules) (s : State) (at : ℕ) (incoming : Incoming) (sender : SenderData) (images : Table ImageData) (items : List Item)
    → IsSound k s → at ≤ last_command_moment → IsRead incoming → IsSenderOf k s incoming sender → ArePlanned s incoming.manifest images items → sender.vehicle.vehicle.last < incoming.manifest.counter
    → check_reports_of k sender.vehicle.ecus incoming.manifest.reports ≡ Ok tt
    → GivesDelivered s incoming.manifest.vehicle (Ok (Accepted (accepted_rows k sender.founding sender.vehicle at incoming images items))) (decide_incoming k s at incoming)
new_accepted others offers bodies texts k s at incoming sender images items sound moment read from planned later passes =
    is_accepted others offers bodies texts k s at incoming (all_rows s incoming.manifest) sender.founding sender.vehicle tt tt images items planned (all_given k s at incoming sound moment read)
    from.founding from.vehicle (signed_by k s incoming sender from)
    (not_repeated k s incoming sender from later) (later_of k sender.vehicle incoming.manifest later ∙ passes) later
