-- States only grow, and what was kept stays.
use Rattle.std.proofs.Common.{◌≡◌, ℕ, List, [], ◌∷◌, ◌++◌, Bool, true, false, Some, None, Result, Ok, Err, ◌⊎◌, inl, inr, refl, sym, ap, ◌∙◌, subst, append-nil, append_assoc}
use Rattle.std.specs.Ordering.{nat_cmp, eq_by_cmp}
use Rattle.std.specs.Cmp.Lexicographic.{slice_cmp, bytes_decides}
use Rattle.std.specs.Prelude.{◌||◌, if◌then◌else◌, map, bytes_eq}
use Rattle.std.specs.FinMap as table
use Rattle.up_canon.specs.Names.{Name, Table}
use Rattle.up_canon.specs.declared.refusal.Refusal.{Refusal}
use Rattle.up_sign.specs.Schemes.{Rules}
use Rattle.up_plan.specs.Images.{ImageData}
use Rattle.up_machine.specs.declared.command.Command.{Command}
use Rattle.up_machine.specs.declared.command.Command.TheVariants.{Found, Rotate, AddImage, Refresh, AddVehicle, ReplaceEcu, OpenCampaign, CloseCampaign, Deliver, Fetch}
use Rattle.up_machine.specs.Vehicles.{NewVehicleData, has_ecu, is_among, in_place_of}
use Rattle.up_machine.specs.declared.vehicle.NewEcu.{NewEcu}
use Rattle.up_machine.specs.declared.vehicle.Replacement.{Replacement}
use Rattle.up_machine.specs.State.{Chain, Entry, Vehicle, State, is_taken_in}
use Rattle.up_machine.specs.Deciding.{Outcome, already}
use Rattle.up_machine.specs.Inventory.{with_vehicle, with_replaced, with_replacement}
use Rattle.up_machine.specs.Deliveries.{with_entry}
use Rattle.up_machine.specs.Machine.{decide, outcome_of, step}
use Rattle.up_machine.specs.Laws.{IsLaterVehicle, IsLaterChain, IsLater, LaterIsReflexive, LaterIsTransitive, StepsGrow, RunsGrow}
use Rattle.up_canon.proofs.Steps.{one_value}
use Rattle.up_machine.proofs.Tables.{one_name, get_new, kept_by_insert}
use Rattle.up_machine.proofs.Decided.{found_ok, rotate_ok, image_ok, refresh_ok, vehicle_ok, replace_ok, open_ok, close_ok, delivery_ok, fetch_ok}
use Rattle.up_machine.proofs.Receiving.{received}

-- what holds of the state where a command is refused, and of the next state of each outcome, holds after the step
pub by_decision : (s : State) (r : Result Outcome Refusal) (P : State → Type 0) → P s → ((o : Outcome) → r ≡ Ok o → P o.next) → P (outcome_of s r).next
by_decision s (Ok o) P here go = go o refl
by_decision s (Err e) P here go = here

-- the same vehicle
pub same_later : (v : Vehicle) → IsLaterVehicle v v
same_later v = record { primary = refl; more_entries = []; entries = sym (append-nil v.entries); more_retired = []; retired = sym (append-nil v.retired); taken = λ ecu h. h }

-- the same root versions
pub same_chain : (chain : Chain) → IsLaterChain chain chain
same_chain chain = ([], sym (append-nil chain.texts))

both_chains : (a b c : Chain) → IsLaterChain a b → IsLaterChain b c → IsLaterChain a c
both_chains a b c first second = (first.0 ++ second.0, second.1 ∙ ap (λ ts. ts ++ second.0) first.1 ∙ append_assoc a.texts first.0 second.0)

pub later_with : (s next : State) → IsLaterChain s.director next.director → IsLaterChain s.image next.image
    → ((file : Name) (image : ImageData) → table.get s.images file ≡ Some image → table.get next.images file ≡ Some image)
    → ((name : Name) (v : Vehicle) → table.get s.vehicles name ≡ Some v → table.get next.vehicles name ≡ Some v) → IsLater s next
later_with s next director image images vehicles = record {
  director = director;
  image = image;
  images = images;
  vehicles = λ name v there. (v, vehicles name v there, same_later v);
}

pub itself : LaterIsReflexive
itself s = later_with s s (same_chain s.director) (same_chain s.image) (λ file image h. h) (λ name v h. h)

both_later : (v w x : Vehicle) → IsLaterVehicle v w → IsLaterVehicle w x → IsLaterVehicle v x
both_later v w x a b = record {
  primary = b.primary ∙ a.primary;
  more_entries = a.more_entries ++ b.more_entries;
  entries = b.entries ∙ ap (λ es. es ++ b.more_entries) a.entries ∙ append_assoc v.entries a.more_entries b.more_entries;
  more_retired = a.more_retired ++ b.more_retired;
  retired = b.retired ∙ ap (λ ns. ns ++ b.more_retired) a.retired ∙ append_assoc v.retired a.more_retired b.more_retired;
  taken = λ ecu h. b.taken ecu (a.taken ecu h);
}

pub onward : LaterIsTransitive
onward s t u a b = record {
  director = both_chains s.director t.director u.director a.director b.director;
  image = both_chains s.image t.image u.image a.image b.image;
  images = λ file image h. b.images file image (a.images file image h);
  vehicles = λ name v h.
      let first = a.vehicles name v h in
      let second = b.vehicles name first.0 first.1 in
      (second.0, second.1, both_later v first.0 second.0 first.2 second.2);
}

-- ---- each outcome

grown_image : (s : State) (image : ImageData) (next : State) → table.get s.images image.file ≡ None → next.director ≡ s.director → next.image ≡ s.image → next.vehicles ≡ s.vehicles
    → next.images ≡ table.insert s.images image.file image → IsLater s next
grown_image s image next new director image_chain vehicles images =
    later_with s next (subst (IsLaterChain s.director) (sym director) (same_chain s.director)) (subst (IsLaterChain s.image) (sym image_chain) (same_chain s.image))
    (λ file old there. ap (λ (t : Table ImageData). table.get t file) images ∙ kept_by_insert s.images image.file file image old new there)
    (λ name v there. ap (λ (t : Table Vehicle). table.get t name) vehicles ∙ there)

grown_vehicle : (s : State) (new : NewVehicleData) → table.get s.vehicles new.vehicle ≡ None → IsLater s (with_vehicle s new)
grown_vehicle s new none =
    later_with s (with_vehicle s new) (same_chain s.director) (same_chain s.image) (λ file image h. h) (λ name v there. kept_by_insert s.vehicles new.vehicle name _ v none there)

pub grown_entries : (s : State) (name : Name) (v : Vehicle) (e : Entry) → table.get s.vehicles name ≡ Some v → IsLater s (with_entry s name v e)
grown_entries s name v e found = record {
  director = same_chain s.director;
  image = same_chain s.image;
  images = λ file old there. there;
  vehicles = λ q w there. by_test q w there (eq_by_cmp (slice_cmp nat_cmp) q name) refl;
}
  where
    by_test : (q : Name) (w : Vehicle) → table.get s.vehicles q ≡ Some w → (b : Bool) → eq_by_cmp (slice_cmp nat_cmp) q name ≡ b
        → (x : Vehicle) × (table.get (with_entry s name v e).vehicles q ≡ Some x) × IsLaterVehicle w x
    by_test q w there true is =
        let same : v ≡ w = one_value _ v w found (ap (table.get s.vehicles) (sym (one_name q name is)) ∙ there) in (
          record v { entries = v.entries ++ e ∷ [] },
          get_new s.vehicles name q _ ∙ rw is refl,
          subst (λ (x : Vehicle). IsLaterVehicle x (record v { entries = v.entries ++ e ∷ [] })) same
              (record { primary = refl; more_entries = e ∷ []; entries = refl; more_retired = []; retired = sym (append-nil v.retired); taken = λ ecu h. h }),
        )
    by_test q w there false is = (w, get_new s.vehicles name q _ ∙ rw is there, same_later w)

-- ---- replacements

pub or_left : (a b : Bool) → a ≡ true → (a || b) ≡ true
or_left true b h = refl
or_left false b h = cc

pub or_right : (a b : Bool) → b ≡ true → (a || b) ≡ true
or_right true b h = refl
or_right false b h = h

-- a name that was taken is that of an ECU that stays, of the one that is replaced, or of one that was
pub still_taken : (old ecu : Name) (new : NewEcu) (ecus : List NewEcu) → has_ecu ecu ecus ≡ true → (has_ecu ecu (map (in_place_of old new) ecus) ≡ true) ⊎ (bytes_eq old ecu ≡ true)
still_taken old ecu new [] h = cc
still_taken old ecu new (e ∷ ecus) h = by_test (still_taken old ecu new ecus) (bytes_eq e.ecu ecu) (bytes_eq e.ecu old) refl refl h
  where
    by_test : (has_ecu ecu ecus ≡ true → (has_ecu ecu (map (in_place_of old new) ecus) ≡ true) ⊎ (bytes_eq old ecu ≡ true)) → (a b : Bool) → bytes_eq e.ecu ecu ≡ a → bytes_eq e.ecu old ≡ b → (a || has_ecu ecu ecus) ≡ true
        → ((bytes_eq (if b then new else e).ecu ecu || has_ecu ecu (map (in_place_of old new) ecus)) ≡ true) ⊎ (bytes_eq old ecu ≡ true)
    by_test more true true is hit h = inr (let same : e.ecu ≡ old = (bytes_decides e.ecu old).0 hit in ap (λ n. bytes_eq n ecu) (sym same) ∙ is)
    by_test more true false is hit h = inl (or_left _ _ is)
    by_test more false b is hit h = elim (more h) [
      | inl there ↦ inl (or_right _ _ there)
      | inr it ↦ inr it
    ]

pub one_more_name : (ecu old : Name) (names : List Name) → (is_among ecu names || bytes_eq old ecu) ≡ is_among ecu (names ++ old ∷ [])
one_more_name ecu old [] = or-false-last (bytes_eq old ecu)
  where
    or-false-last : (b : Bool) → b ≡ (b || false)
    or-false-last true = refl
    or-false-last false = refl
one_more_name ecu old (n ∷ names) = by_test (bytes_eq n ecu) (one_more_name ecu old names)
  where
    by_test : (b : Bool) → (is_among ecu names || bytes_eq old ecu) ≡ is_among ecu (names ++ old ∷ []) → ((b || is_among ecu names) || bytes_eq old ecu) ≡ (b || is_among ecu (names ++ old ∷ []))
    by_test true h = refl
    by_test false h = h

pub replaced_later : (v : Vehicle) (old : Name) (new : NewEcu) → IsLaterVehicle v (with_replaced v old new)
replaced_later v old new = record { primary = refl; more_entries = []; entries = sym (append-nil v.entries); more_retired = old ∷ []; retired = refl; taken = λ ecu h. stays ecu (has_ecu ecu v.ecus) refl h }
  where
    stays : (ecu : Name) (a : Bool) → has_ecu ecu v.ecus ≡ a → (a || is_among ecu v.retired) ≡ true → is_taken_in ecu (with_replaced v old new) ≡ true
    stays ecu true is h = elim (still_taken old ecu new v.ecus is) [
      | inl there ↦ or_left _ _ there
      | inr it ↦ or_right _ _ (sym (one_more_name ecu old v.retired) ∙ or_right (is_among ecu v.retired) _ it)
    ]
    stays ecu false is h = or_right _ _ (sym (one_more_name ecu old v.retired) ∙ or_left _ _ h)

pub grown_replacement : (s : State) (r : Replacement) (v : Vehicle) → table.get s.vehicles r.vehicle ≡ Some v → IsLater s (with_replacement s r v)
grown_replacement s r v found = record {
  director = same_chain s.director;
  image = same_chain s.image;
  images = λ file old there. there;
  vehicles = λ q w there. by_test q w there (eq_by_cmp (slice_cmp nat_cmp) q r.vehicle) refl;
}
  where
    by_test : (q : Name) (w : Vehicle) → table.get s.vehicles q ≡ Some w → (b : Bool) → eq_by_cmp (slice_cmp nat_cmp) q r.vehicle ≡ b
        → (x : Vehicle) × (table.get (with_replacement s r v).vehicles q ≡ Some x) × IsLaterVehicle w x
    by_test q w there true is =
        let same : v ≡ w = one_value _ v w found (ap (table.get s.vehicles) (sym (one_name q r.vehicle is)) ∙ there) in
        (with_replaced v r.old r.ecu, get_new s.vehicles r.vehicle q _ ∙ rw is refl, subst (λ (x : Vehicle). IsLaterVehicle x (with_replaced v r.old r.ecu)) same (replaced_later v r.old r.ecu))
    by_test q w there false is = (w, get_new s.vehicles r.vehicle q _ ∙ rw is there, same_later w)

unchanged : (s : State) (o : Outcome) → already s ≡ o → IsLater s o.next
unchanged s o h = subst (λ (o : Outcome). IsLater s o.next) h (itself s)

same_vehicles : (s next : State) → IsLaterChain s.director next.director → IsLaterChain s.image next.image → next.images ≡ s.images → next.vehicles ≡ s.vehicles → IsLater s next
same_vehicles s next director image images vehicles = later_with s next director image
    (λ file image there. ap (λ (t : Table ImageData). table.get t file) images ∙ there)
    (λ name v there. ap (λ (t : Table Vehicle). table.get t name) vehicles ∙ there)

pub grow_outcome : (k : Rules) (s : State) (at : ℕ) (c : Command) (o : Outcome) → decide k s at c ≡ Ok o → IsLater s o.next
grow_outcome k s at (Found keys) o h = subst (λ (o : Outcome). IsLater s o.next) (found_ok k s at keys o h).is (same_vehicles s _ (_, refl) (_, refl) refl refl)
grow_outcome k s at (Rotate keys) o h = subst (λ (o : Outcome). IsLater s o.next) (rotate_ok k s at keys o h).is (same_vehicles s _ (_, refl) (_, refl) refl refl)
grow_outcome k s at (AddImage image) o h = elim (image_ok k s at image o h) [
  | inl same ↦ unchanged s o same
  | inr new ↦ subst (λ (o : Outcome). IsLater s o.next) new.is (grown_image s image _ new.none refl refl refl refl)
]
grow_outcome k s at (Refresh version) o h = subst (λ (o : Outcome). IsLater s o.next) (refresh_ok k s at version o h).is (same_vehicles s _ (same_chain s.director) (same_chain s.image) refl refl)
grow_outcome k s at (AddVehicle new) o h = elim (vehicle_ok k s at new o h) [
  | inl same ↦ unchanged s o same
  | inr is ↦ subst (λ (o : Outcome). IsLater s o.next) is.is (grown_vehicle s new is.none)
]
grow_outcome k s at (ReplaceEcu r) o h =
    let is = replace_ok k s at r o h in
    subst (λ (o : Outcome). IsLater s o.next) is.is (grown_replacement s r is.vehicle is.there)
grow_outcome k s at (OpenCampaign campaign) o h = elim (open_ok s at campaign o h) [
  | inl same ↦ unchanged s o same
  | inr is ↦ subst (λ (o : Outcome). IsLater s o.next) is.is (same_vehicles s _ (same_chain s.director) (same_chain s.image) refl refl)
]
grow_outcome k s at (CloseCampaign name) o h = elim (close_ok s at name o h) [
  | inl same ↦ unchanged s o same
  | inr is ↦ subst (λ (o : Outcome). IsLater s o.next) is.is (same_vehicles s _ (same_chain s.director) (same_chain s.image) refl refl)
]
grow_outcome k s at (Deliver body) o h =
    let is = delivery_ok k s at body o h in
    subst (λ (o : Outcome). IsLater s o.next) is.is (grown_entries s _ _ _ (received k s at body is.received is.receives).vehicle)
grow_outcome k s at (Fetch repository name) o h = subst (λ (o : Outcome). IsLater s o.next) (fetch_ok s at repository name o h).2 (itself s)

pub grow : StepsGrow
unfolding step
grow k s at c = by_decision s (decide k s at c) (IsLater s) (itself s) (grow_outcome k s at c)

pub grow_on : RunsGrow
grow_on k s [] = itself s
grow_on k s (t ∷ ts) = onward s _ _ (grow k s t.at t.command) (grow_on k (step k s t.at t.command).next ts)
