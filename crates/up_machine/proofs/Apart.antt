-- What is served to one vehicle doesn't depend on what other vehicles deliver.
use Rattle.std.proofs.Common.{◌≡◌, ℕ, List, Bool, true, false, cond, not, Option, Some, None, Result, Ok, Err, refl, sym, ap, ◌∙◌, subst}
use Rattle.std.proofs.lemmas.Bool.{not-true, not-false}
use Rattle.std.specs.Prelude.{⊤, ◌≢◌, option_map, unwrap_or, is_some, find, bytes_eq, nat_le}
use Rattle.std.specs.List.{list_any, list_all}
use Rattle.std.specs.Ordering.{nat_cmp, eq_by_cmp}
use Rattle.std.specs.Cmp.Lexicographic.{slice_cmp, bytes_decides}
use Rattle.std.specs.FinMap as table
use Rattle.up_canon.specs.Names.{Name, Table, first_repeated}
use Rattle.up_canon.specs.Steps.{and_then, ◌>>=◌, unless, refuse_if, refuse_first, or_error, value_of}
use Rattle.up_canon.specs.declared.refusal.Refusal.{Refusal}
use Rattle.up_canon.specs.declared.refusal.Refusal.TheVariants.{AlreadyFounded, ImageTaken, RegisterFull, VersionNotGreater, UnknownFile, RootFull, DuplicateEcu, VehicleTaken, EcuTaken, CampaignTaken, UnknownVehicle, UnknownEcu, PrimaryFixed, UnknownCampaign, UnknownImage, WrongHardware}
use Rattle.up_sign.specs.Schemes.{Rules}
use Rattle.up_roles.specs.declared.repository.Repository.{Repository}
use Rattle.up_roles.specs.declared.repository.Repository.TheVariants.{Director, Image}
use Rattle.up_manifest.specs.declared.manifest.Incoming.{Incoming}
use Rattle.up_manifest.specs.Manifests.{incoming_in}
use Rattle.up_plan.specs.declared.campaign.Reach.{Reach}
use Rattle.up_plan.specs.declared.campaign.Reach.TheVariants.{All, Named}
use Rattle.up_plan.specs.Campaigns.{CampaignData}
use Rattle.up_plan.specs.Images.{ImageData}
use Rattle.up_metadata.specs.declared.keys.KeySet.{KeySet}
use Rattle.up_metadata.specs.Keys.{check_keys}
use Rattle.up_machine.specs.declared.vehicle.Replacement.{Replacement}
use Rattle.up_machine.specs.declared.command.Command.{Command}
use Rattle.up_machine.specs.declared.command.Command.TheVariants.{Found, Rotate, AddImage, Refresh, AddVehicle, ReplaceEcu, OpenCampaign, CloseCampaign, Deliver, Fetch}
use Rattle.up_machine.specs.declared.answer.Answer.TheVariants.{Refused}
use Rattle.up_machine.specs.Vehicles.{NewVehicleData, has_ecu, ecu_names}
use Rattle.up_machine.specs.State.{Vehicle, State, is_founded, root_number, image_root_number, added, is_taken_in, is_taken}
use Rattle.up_machine.specs.Files.{files, file}
use Rattle.up_machine.specs.Deciding.{Outcome, done, already, where_new, check_moment, check_founded, check_version}
use Rattle.up_machine.specs.Repositories.{same_image, are_roots_full, decide_found, decide_rotate, decide_new_image, decide_image, decide_refresh, decide_fetch}
use Rattle.up_machine.specs.Inventory.{same_vehicle, same_campaign, reach_is_known, has_its_image, has_its_hardware, closed, with_campaign, decide_new_vehicle, decide_vehicle, with_replaced, decide_replacement, decide_replace, decide_new_campaign, decide_open, decide_close}
use Rattle.up_machine.specs.Deliveries.{receive, receive_manifest}
use Rattle.up_machine.specs.Machine.{decide, outcome_of, step}
use Rattle.up_machine.specs.Repeats.{serve, vehicle_of}
use Rattle.up_machine.proofs.Tables.{one_name, get_new, get_other}
use Rattle.up_machine.proofs.Values.{found_any, any_found}
use Rattle.up_machine.proofs.Lists.{find_alike, all_alike, both_ways}
use Rattle.up_machine.proofs.Effects.{with_vehicles, bare, changed, made, Effect, effect, serve_refused}

-- ---- states that are equal but for other vehicles' entries

pub record AlikeTables (name : Name) (a b : Table Vehicle) : Type 0 where
  pub own : table.get b name ≡ table.get a name
  pub others : (q : Name) → option_map bare (table.get b q) ≡ option_map bare (table.get a q)

pub record IsAlike (name : Name) (s t : State) : Type 0 where
  pub vehicles : Table Vehicle
  pub rest : t ≡ with_vehicles s vehicles
  pub alike : AlikeTables name s.vehicles vehicles

pub itself : (name : Name) (vehicles : Table Vehicle) → AlikeTables name vehicles vehicles
itself name vehicles = record { own = refl; others = λ q. refl }

alike_cond : (b : Bool) (v : Vehicle) (x y : Option Vehicle) → option_map bare x ≡ option_map bare y → option_map bare (cond b (Some v) x) ≡ option_map bare (cond b (Some v) y)
alike_cond true v x y h = refl
alike_cond false v x y h = h

both_inserted : (name : Name) (a b : Table Vehicle) (n : Name) (v : Vehicle) → AlikeTables name a b → AlikeTables name (table.insert a n v) (table.insert b n v)
both_inserted name a b n v h = record {
  own = get_new b n name v ∙ ap (cond (eq_by_cmp (slice_cmp nat_cmp) name n) (Some v)) h.own ∙ sym (get_new a n name v);
  others = λ q. ap (option_map bare) (get_new b n q v) ∙ alike_cond (eq_by_cmp (slice_cmp nat_cmp) q n) v _ _ (h.others q) ∙ sym (ap (option_map bare) (get_new a n q v));
}

both_changed : (name : Name) (a b : Table Vehicle) (n : Name) (change : Option Vehicle) → AlikeTables name a b → AlikeTables name (changed n change a) (changed n change b)
both_changed name a b n None h = h
both_changed name a b n (Some v) h = both_inserted name a b n v h

-- a change of another vehicle's entries
other_changed : (name : Name) (a b : Table Vehicle) (n : Name) (change : Option Vehicle) → n ≢ name
    → ((v : Vehicle) → change ≡ Some v → option_map bare (table.get a n) ≡ Some (bare v)) → AlikeTables name a b → AlikeTables name (changed n change a) b
other_changed name a b n None apart keeps h = h
other_changed name a b n (Some v) apart keeps h = record {
  own = h.own ∙ sym (get_other a n name v apart);
  others = λ q. by_test q (eq_by_cmp (slice_cmp nat_cmp) q n) refl ∙ sym (ap (option_map bare) (get_new a n q v));
}
  where
    by_test : (q : Name) (t : Bool) → eq_by_cmp (slice_cmp nat_cmp) q n ≡ t → option_map bare (table.get b q) ≡ option_map bare (cond t (Some v) (table.get a q))
    by_test q true is = h.others q ∙ ap (λ (n : Name). option_map bare (table.get a n)) (one_name q n is) ∙ keeps v refl
    by_test q false is = h.others q

-- ---- decisions

abbrev AlikeResult : Name → Result Outcome Refusal → Result Outcome Refusal → Type 0
AlikeResult name (Ok o) (Ok p) = (p.answer ≡ o.answer) × IsAlike name o.next p.next
AlikeResult name (Ok o) (Err f) = ⊥
AlikeResult name (Err e) (Ok p) = ⊥
AlikeResult name (Err e) (Err f) = f ≡ e

bind_alike : {A : Type 0} (name : Name) (r : Result A Refusal) (f g : A → Result Outcome Refusal) → ((x : A) → AlikeResult name (f x) (g x)) → AlikeResult name (r >>= f) (r >>= g)
unfolding and_then
bind_alike name (Ok x) f g h = h x
bind_alike name (Err e) f g h = refl

-- the same where the second step's check is another one with the same result
bind_alike_to : {A : Type 0} (name : Name) (r q : Result A Refusal) (f g : A → Result Outcome Refusal) → q ≡ r → ((x : A) → AlikeResult name (f x) (g x)) → AlikeResult name (r >>= f) (q >>= g)
bind_alike_to name r q f g same h = subst (λ x. AlikeResult name (r >>= f) (x >>= g)) (sym same) (bind_alike name r f g h)

where_alike : {A : Type 0} (name : Name) (s : State) (vehicles : Table Vehicle) (is_same : A → Bool) (taken : Refusal) (there : Option A) (d e : Result Outcome Refusal)
    → AlikeTables name s.vehicles vehicles → AlikeResult name d e → AlikeResult name (where_new s is_same taken there d) (where_new (with_vehicles s vehicles) is_same taken there e)
where_alike name s vehicles is_same taken None d e h more = more
where_alike name s vehicles is_same taken (Some old) d e h more = by_test (is_same old)
  where
    by_test : (b : Bool) → AlikeResult name (cond b (Ok (already s)) (Err taken)) (cond b (Ok (already (with_vehicles s vehicles))) (Err taken))
    by_test true = (refl, record { vehicles = vehicles; rest = refl; alike = h })
    by_test false = refl

found_alike : (k : Rules) (s : State) (vehicles : Table Vehicle) (at : ℕ) (keys : KeySet) (name : Name) → AlikeTables name s.vehicles vehicles
    → AlikeResult name (decide_found k s at keys) (decide_found k (with_vehicles s vehicles) at keys)
unfolding decide_found
found_alike k s vehicles at keys name h =
    bind_alike name (check_moment at) _ _ (λ a. bind_alike name (check_keys k keys) _ _ (λ b. bind_alike name (refuse_if (is_founded s) AlreadyFounded) _ _ (λ c.
    (refl, record { vehicles = vehicles; rest = refl; alike = h }))))

rotate_alike : (k : Rules) (s : State) (vehicles : Table Vehicle) (at : ℕ) (keys : KeySet) (name : Name) → AlikeTables name s.vehicles vehicles
    → AlikeResult name (decide_rotate k s at keys) (decide_rotate k (with_vehicles s vehicles) at keys)
unfolding decide_rotate
rotate_alike k s vehicles at keys name h =
    bind_alike name (check_moment at) _ _ (λ a. bind_alike name (check_keys k keys) _ _ (λ b. bind_alike name (check_founded s) _ _ (λ c.
    bind_alike name (refuse_if (are_roots_full (root_number s) (image_root_number s)) RootFull) _ _ (λ d. bind_alike name (check_version s) _ _ (λ e.
    (refl, record { vehicles = vehicles; rest = refl; alike = h }))))))

image_alike : (k : Rules) (s : State) (vehicles : Table Vehicle) (at : ℕ) (image : ImageData) (name : Name) → AlikeTables name s.vehicles vehicles
    → AlikeResult name (decide_image k s at image) (decide_image k (with_vehicles s vehicles) at image)
unfolding decide_image decide_new_image
image_alike k s vehicles at image name h =
    bind_alike name (check_moment at) _ _ (λ a. bind_alike name (check_founded s) _ _ (λ b.
    where_alike name s vehicles (same_image image) ImageTaken (table.get s.images image.file) _ _ h
    (bind_alike name (refuse_if (nat_le 1024 (table.len s.images)) RegisterFull) _ _ (λ c. bind_alike name (check_version s) _ _ (λ d.
    (refl, record { vehicles = vehicles; rest = refl; alike = h }))))))

refresh_alike : (k : Rules) (s : State) (vehicles : Table Vehicle) (at version : ℕ) (name : Name) → AlikeTables name s.vehicles vehicles
    → AlikeResult name (decide_refresh k s at version) (decide_refresh k (with_vehicles s vehicles) at version)
unfolding decide_refresh
refresh_alike k s vehicles at version name h =
    bind_alike name (check_moment at) _ _ (λ a. bind_alike name (check_founded s) _ _ (λ b. bind_alike name (refuse_if (nat_le version s.image_version) VersionNotGreater) _ _ (λ c.
    (refl, record { vehicles = vehicles; rest = refl; alike = h }))))

files_alike : (s : State) (vehicles : Table Vehicle) (repository : Repository) → files (with_vehicles s vehicles) repository ≡ files s repository
unfolding files
files_alike s vehicles Director = refl
files_alike s vehicles Image = refl

fetch_alike : (s : State) (vehicles : Table Vehicle) (at : ℕ) (repository : Repository) (file_name name : Name) → AlikeTables name s.vehicles vehicles
    → AlikeResult name (decide_fetch s at repository file_name) (decide_fetch (with_vehicles s vehicles) at repository file_name)
unfolding decide_fetch
fetch_alike s vehicles at repository file_name name h =
    bind_alike name (check_moment at) _ _ (λ a. bind_alike name (check_founded s) _ _ (λ b.
    bind_alike_to name (or_error UnknownFile (file s repository file_name)) (or_error UnknownFile (file (with_vehicles s vehicles) repository file_name)) _ _
    (ap (λ fs. or_error UnknownFile (option_map (λ f. f.1) (find (λ f. bytes_eq f.0 file_name) fs))) (files_alike s vehicles repository)) (λ text.
    (refl, record { vehicles = vehicles; rest = refl; alike = h }))))

-- ---- vehicles and campaigns

-- the vehicle of a name in the other table
counterpart : (x y : Option Vehicle) (v : Vehicle) → option_map bare y ≡ option_map bare x → x ≡ Some v → (w : Vehicle) × (y ≡ Some w) × (bare w ≡ bare v)
counterpart None y v h is = cc
counterpart (Some u) None v h is = cc
counterpart (Some u) (Some w) v h is = (w, refl, cc)

recorded_in : (name : Name) (a b : Table Vehicle) (ecu : Name) → ((q : Name) → option_map bare (table.get b q) ≡ option_map bare (table.get a q))
    → list_any (is_taken_in ecu) (table.values a) ≡ true → list_any (is_taken_in ecu) (table.values b) ≡ true
recorded_in name a b ecu others h =
    let found = any_found (is_taken_in ecu) a h in
    let other = counterpart (table.get a found.0) (table.get b found.0) found.1 (others found.0) found.2 in
    found_any (is_taken_in ecu) b found.0 other.0 other.1 (ap (is_taken_in ecu) other.2 ∙ found.3)

recorded_alike : (name : Name) (s : State) (vehicles : Table Vehicle) (ecu : Name) → AlikeTables name s.vehicles vehicles → is_taken (with_vehicles s vehicles) ecu ≡ is_taken s ecu
recorded_alike name s vehicles ecu h =
    both_ways _ _ (recorded_in name vehicles s.vehicles ecu (λ q. sym (h.others q))) (recorded_in name s.vehicles vehicles ecu h.others)

-- two vehicles that are equal but for their entries are put in
inserted_alike : (name : Name) (a b : Table Vehicle) (n : Name) (v w : Vehicle) → bare w ≡ bare v → (n ≡ name → w ≡ v) → AlikeTables name a b → AlikeTables name (table.insert a n v) (table.insert b n w)
inserted_alike name a b n v w alike own h = record {
  own = get_new b n name w ∙ own_test (eq_by_cmp (slice_cmp nat_cmp) name n) refl ∙ sym (get_new a n name v);
  others = λ q. ap (option_map bare) (get_new b n q w) ∙ others_test q (eq_by_cmp (slice_cmp nat_cmp) q n) ∙ sym (ap (option_map bare) (get_new a n q v));
}
  where
    own_test : (t : Bool) → eq_by_cmp (slice_cmp nat_cmp) name n ≡ t → cond t (Some w) (table.get b name) ≡ cond t (Some v) (table.get a name)
    own_test true is = ap Some (own (sym (one_name name n is)))
    own_test false is = h.own

    others_test : (q : Name) (t : Bool) → option_map bare (cond t (Some w) (table.get b q)) ≡ option_map bare (cond t (Some v) (table.get a q))
    others_test q true = ap Some alike
    others_test q false = h.others q

replacement_alike : (s : State) (vehicles : Table Vehicle) (r : Replacement) (v w : Vehicle) (name : Name) → bare w ≡ bare v → (r.vehicle ≡ name → w ≡ v) → AlikeTables name s.vehicles vehicles
    → AlikeResult name (decide_replacement s r v) (decide_replacement (with_vehicles s vehicles) r w)
unfolding decide_replacement
replacement_alike s vehicles r v w name alike own h =
    bind_alike_to name (unless (has_ecu r.old v.ecus) (UnknownEcu r.old)) (unless (has_ecu r.old w.ecus) (UnknownEcu r.old)) _ _ (ap (λ (x : Vehicle). unless (has_ecu r.old x.ecus) (UnknownEcu r.old)) alike) (λ a.
    bind_alike_to name (refuse_if (bytes_eq r.old v.primary) PrimaryFixed) (refuse_if (bytes_eq r.old w.primary) PrimaryFixed) _ _ (ap (λ (x : Vehicle). refuse_if (bytes_eq r.old x.primary) PrimaryFixed) alike) (λ b.
    bind_alike_to name (refuse_if (is_taken s r.ecu.ecu) (EcuTaken r.ecu.ecu)) (refuse_if (is_taken (with_vehicles s vehicles) r.ecu.ecu) (EcuTaken r.ecu.ecu)) _ _
    (ap (λ t. refuse_if t (EcuTaken r.ecu.ecu)) (recorded_alike name s vehicles r.ecu.ecu h)) (λ c. (
      refl,
      record {
        vehicles = table.insert vehicles r.vehicle (with_replaced w r.old r.ecu);
        rest = refl;
        alike = inserted_alike name s.vehicles vehicles r.vehicle (with_replaced v r.old r.ecu) (with_replaced w r.old r.ecu) (ap (λ (x : Vehicle). with_replaced x r.old r.ecu) alike)
            (λ same. ap (λ (x : Vehicle). with_replaced x r.old r.ecu) (own same)) h;
      },
    ))))

known_alike : (name : Name) (x y : Option Vehicle) → option_map bare y ≡ option_map bare x → (f g : Vehicle → Result Outcome Refusal)
    → ((v w : Vehicle) → x ≡ Some v → y ≡ Some w → bare w ≡ bare v → AlikeResult name (f v) (g w)) → AlikeResult name (or_error UnknownVehicle x >>= f) (or_error UnknownVehicle y >>= g)
unfolding and_then
known_alike name None None h f g each = refl
known_alike name None (Some w) h f g each = cc
known_alike name (Some v) None h f g each = cc
known_alike name (Some v) (Some w) h f g each = each v w refl refl cc

replace_alike : (k : Rules) (s : State) (vehicles : Table Vehicle) (at : ℕ) (r : Replacement) (name : Name) → AlikeTables name s.vehicles vehicles
    → AlikeResult name (decide_replace k s at r) (decide_replace k (with_vehicles s vehicles) at r)
unfolding decide_replace
replace_alike k s vehicles at r name h =
    bind_alike name (check_moment at) _ _ (λ a. bind_alike name _ _ _ (λ b. bind_alike name (check_founded s) _ _ (λ c.
    known_alike name (table.get s.vehicles r.vehicle) (table.get vehicles r.vehicle) (h.others r.vehicle) _ _ (λ v w here there alike.
    replacement_alike s vehicles r v w name alike (λ same.
    let both : Some w ≡ Some v = sym there ∙ ap (table.get vehicles) same ∙ h.own ∙ ap (table.get s.vehicles) (sym same) ∙ here in
    cc) h))))

where_vehicle_alike : (name : Name) (s : State) (vehicles : Table Vehicle) (new : NewVehicleData) (x y : Option Vehicle) (d e : Result Outcome Refusal)
    → option_map bare y ≡ option_map bare x → AlikeTables name s.vehicles vehicles → AlikeResult name d e
    → AlikeResult name (where_new s (same_vehicle new) VehicleTaken x d) (where_new (with_vehicles s vehicles) (same_vehicle new) VehicleTaken y e)
where_vehicle_alike name s vehicles new None None d e same h more = more
where_vehicle_alike name s vehicles new None (Some w) d e same h more = cc
where_vehicle_alike name s vehicles new (Some v) None d e same h more = cc
where_vehicle_alike name s vehicles new (Some v) (Some w) d e same h more =
    let one : bare w ≡ bare v = cc in
    let test : same_vehicle new w ≡ same_vehicle new v = ap (same_vehicle new) one in
    subst (λ b. AlikeResult name (cond (same_vehicle new v) (Ok (already s)) (Err VehicleTaken)) (cond b (Ok (already (with_vehicles s vehicles))) (Err VehicleTaken))) (sym test) (by_test (same_vehicle new v))
  where
    by_test : (b : Bool) → AlikeResult name (cond b (Ok (already s)) (Err VehicleTaken)) (cond b (Ok (already (with_vehicles s vehicles))) (Err VehicleTaken))
    by_test true = (refl, record { vehicles = vehicles; rest = refl; alike = h })
    by_test false = refl

new_vehicle_alike : (s : State) (vehicles : Table Vehicle) (new : NewVehicleData) (name : Name) → AlikeTables name s.vehicles vehicles
    → AlikeResult name (decide_new_vehicle s new) (decide_new_vehicle (with_vehicles s vehicles) new)
unfolding decide_new_vehicle
new_vehicle_alike s vehicles new name h =
    bind_alike name (refuse_first DuplicateEcu (first_repeated (ecu_names new.ecus))) _ _ (λ a.
    bind_alike_to name (refuse_first EcuTaken (find (is_taken s) (ecu_names new.ecus))) (refuse_first EcuTaken (find (is_taken (with_vehicles s vehicles)) (ecu_names new.ecus))) _ _
    (ap (refuse_first EcuTaken) (find_alike (is_taken (with_vehicles s vehicles)) (is_taken s) (λ ecu. recorded_alike name s vehicles ecu h) (ecu_names new.ecus))) (λ b.
    (refl, record { vehicles = table.insert vehicles new.vehicle (added new); rest = refl; alike = both_inserted name s.vehicles vehicles new.vehicle _ h })))

vehicle_alike : (k : Rules) (s : State) (vehicles : Table Vehicle) (at : ℕ) (new : NewVehicleData) (name : Name) → AlikeTables name s.vehicles vehicles
    → AlikeResult name (decide_vehicle k s at new) (decide_vehicle k (with_vehicles s vehicles) at new)
unfolding decide_vehicle
vehicle_alike k s vehicles at new name h =
    bind_alike name (check_moment at) _ _ (λ a. bind_alike name _ _ _ (λ b. bind_alike name (check_founded s) _ _ (λ c.
    where_vehicle_alike name s vehicles new (table.get s.vehicles new.vehicle) (table.get vehicles new.vehicle) _ _ (h.others new.vehicle) h (new_vehicle_alike s vehicles new name h))))

is_some_bare : (o : Option Vehicle) → is_some o ≡ is_some (option_map bare o)
is_some_bare None = refl
is_some_bare (Some v) = refl

reach_alike : (s : State) (vehicles : Table Vehicle) (name : Name) (reach : Reach) → AlikeTables name s.vehicles vehicles → reach_is_known (with_vehicles s vehicles) reach ≡ reach_is_known s reach
reach_alike s vehicles name All h = refl
reach_alike s vehicles name (Named names) h = all_alike (table.contains_key vehicles) (table.contains_key s.vehicles) (λ q.
    is_some_bare (table.get vehicles q) ∙ ap is_some (h.others q) ∙ sym (is_some_bare (table.get s.vehicles q))) names

new_campaign_alike : (s : State) (vehicles : Table Vehicle) (campaign : CampaignData) (name : Name) → AlikeTables name s.vehicles vehicles
    → AlikeResult name (decide_new_campaign s campaign) (decide_new_campaign (with_vehicles s vehicles) campaign)
unfolding decide_new_campaign
new_campaign_alike s vehicles campaign name h =
    bind_alike_to name (unless (reach_is_known s campaign.reach) UnknownVehicle) (unless (reach_is_known (with_vehicles s vehicles) campaign.reach) UnknownVehicle) _ _
    (ap (λ b. unless b UnknownVehicle) (reach_alike s vehicles name campaign.reach h)) (λ a.
    bind_alike name (unless (list_all (has_its_image s) campaign.items) UnknownImage) _ _ (λ b. bind_alike name (unless (list_all (has_its_hardware s) campaign.items) WrongHardware) _ _ (λ c.
    (refl, record { vehicles = vehicles; rest = refl; alike = h }))))

open_alike : (s : State) (vehicles : Table Vehicle) (at : ℕ) (campaign : CampaignData) (name : Name) → AlikeTables name s.vehicles vehicles
    → AlikeResult name (decide_open s at campaign) (decide_open (with_vehicles s vehicles) at campaign)
unfolding decide_open
open_alike s vehicles at campaign name h =
    bind_alike name (check_moment at) _ _ (λ a. bind_alike name (check_founded s) _ _ (λ b.
    where_alike name s vehicles (same_campaign campaign) CampaignTaken (table.get s.campaigns campaign.name) _ _ h (new_campaign_alike s vehicles campaign name h)))

close_alike : (s : State) (vehicles : Table Vehicle) (at : ℕ) (campaign name : Name) → AlikeTables name s.vehicles vehicles
    → AlikeResult name (decide_close s at campaign) (decide_close (with_vehicles s vehicles) at campaign)
unfolding decide_close
close_alike s vehicles at campaign name h =
    bind_alike name (check_moment at) _ _ (λ a. bind_alike name (check_founded s) _ _ (λ b. bind_alike name (or_error UnknownCampaign (table.get s.campaigns campaign)) _ _ (λ c. by_running c c.running)))
  where
    by_running : (c : CampaignData) (b : Bool)
        → AlikeResult name (Ok (cond b (done (with_campaign s (closed c))) (already s))) (Ok (cond b (done (with_campaign (with_vehicles s vehicles) (closed c))) (already (with_vehicles s vehicles))))
    by_running c true = (refl, record { vehicles = vehicles; rest = refl; alike = h })
    by_running c false = (refl, record { vehicles = vehicles; rest = refl; alike = h })

-- ---- what is served

pub record ServedAlike (name : Name) (o p : Outcome) : Type 0 where
  pub answer : p.answer ≡ o.answer
  pub next : IsAlike name o.next p.next

outcome_alike : (name : Name) (s : State) (vehicles : Table Vehicle) (r q : Result Outcome Refusal) → AlikeTables name s.vehicles vehicles → AlikeResult name r q
    → ServedAlike name (outcome_of s r) (outcome_of (with_vehicles s vehicles) q)
outcome_alike name s vehicles (Ok o) (Ok p) h is = record { answer = is.0; next = is.1 }
outcome_alike name s vehicles (Ok o) (Err f) h is = absurd is
outcome_alike name s vehicles (Err e) (Ok p) h is = absurd is
outcome_alike name s vehicles (Err e) (Err f) h is = record { answer = ap Refused is; next = record { vehicles = vehicles; rest = refl; alike = h } }

-- a body that means no manifest is refused in each state
no_manifest : (k : Rules) (at : ℕ) (body : List ℕ) (e : Refusal) → incoming_in body ≡ Err e → (fault : Refusal) × ((s : State) → receive k s at body ≡ Err fault)
unfolding receive and_then
no_manifest k at body e h = by_moment (check_moment at)
  where
    by_moment : (c : Result ⊤ Refusal) → (fault : Refusal) × ((s : State) → and_then c (λ passed. and_then (incoming_in body) (λ incoming. receive_manifest k s incoming)) ≡ Err fault)
    by_moment (Ok x) = (e, λ s. ap (λ (r : Result Incoming Refusal). and_then r (λ incoming. receive_manifest k s incoming)) h)
    by_moment (Err f) = (f, λ s. refl)

own_alike : (k : Rules) (s : State) (vehicles : Table Vehicle) (at : ℕ) (body : List ℕ) (name : Name) → AlikeTables name s.vehicles vehicles → Effect k s at body name
    → ServedAlike name (serve k s at (Deliver body)) (serve k (with_vehicles s vehicles) at (Deliver body))
own_alike k s vehicles at body name h effect =
    let first = effect.acts s.vehicles refl in
    let second = effect.acts vehicles h.own in
    subst (λ (o : Outcome). ServedAlike name o (serve k (with_vehicles s vehicles) at (Deliver body))) (sym first)
    (subst (λ (o : Outcome). ServedAlike name (made effect.answer (with_vehicles s (changed name effect.change s.vehicles))) o) (sym second)
    (record { answer = refl; next = record { vehicles = changed name effect.change vehicles; rest = refl; alike = both_changed name s.vehicles vehicles name effect.change h } }))

delivery_alike : (k : Rules) (s : State) (vehicles : Table Vehicle) (at : ℕ) (body : List ℕ) (name : Name) → AlikeTables name s.vehicles vehicles
    → (o : Result Incoming Refusal) → incoming_in body ≡ o → ((incoming : Incoming) → o ≡ Ok incoming → incoming.manifest.vehicle ≡ name)
    → ServedAlike name (serve k s at (Deliver body)) (serve k (with_vehicles s vehicles) at (Deliver body))
delivery_alike k s vehicles at body name h (Err e) is own =
    let refused = no_manifest k at body e is in
    subst (λ (o : Outcome). ServedAlike name o (serve k (with_vehicles s vehicles) at (Deliver body))) (sym (serve_refused k s at body refused.0 (refused.1 s)))
    (subst (λ (o : Outcome). ServedAlike name (made (Refused refused.0) s) o) (sym (serve_refused k (with_vehicles s vehicles) at body refused.0 (refused.1 (with_vehicles s vehicles))))
    (record { answer = refl; next = record { vehicles = vehicles; rest = refl; alike = h } }))
delivery_alike k s vehicles at body name h (Ok incoming) is own =
    own_alike k s vehicles at body name h (subst (Effect k s at body) (own incoming refl) (effect k s at body incoming is))

-- the vehicle of what is read of a body
abbrev others_vehicle : Name → Result Incoming Refusal → Bool
others_vehicle name r = unwrap_or (option_map (λ vehicle. not (bytes_eq vehicle name)) (option_map (λ (incoming : Incoming). incoming.manifest.vehicle) (value_of r))) false

own_vehicle : (name : Name) (o : Result Incoming Refusal) (incoming : Incoming) → others_vehicle name o ≡ false → o ≡ Ok incoming → incoming.manifest.vehicle ≡ name
own_vehicle name (Err e) incoming h is = cc
own_vehicle name (Ok i) incoming h is =
    let same : i ≡ incoming = cc in
    ap (λ (i : Incoming). i.manifest.vehicle) (sym same) ∙ (bytes_decides i.manifest.vehicle name).0 (not-false _ h)

delivered_alike : (k : Rules) (s : State) (vehicles : Table Vehicle) (at : ℕ) (body : List ℕ) (name : Name) → AlikeTables name s.vehicles vehicles
    → others_vehicle name (incoming_in body) ≡ false → ServedAlike name (serve k s at (Deliver body)) (serve k (with_vehicles s vehicles) at (Deliver body))
delivered_alike k s vehicles at body name h own = delivery_alike k s vehicles at body name h (incoming_in body) refl (λ incoming is. own_vehicle name (incoming_in body) incoming own is)

others_delivery : (k : Rules) (s : State) (vehicles : Table Vehicle) (at : ℕ) (body : List ℕ) (name : Name) → AlikeTables name s.vehicles vehicles
    → (o : Result Incoming Refusal) → incoming_in body ≡ o → others_vehicle name o ≡ true → IsAlike name (serve k s at (Deliver body)).next (with_vehicles s vehicles)
others_delivery k s vehicles at body name h (Err e) is other = cc
others_delivery k s vehicles at body name h (Ok incoming) is other =
    let one = effect k s at body incoming is in
    let apart : incoming.manifest.vehicle ≢ name = λ same. let no = not-true _ other in let yes = (bytes_decides incoming.manifest.vehicle name).1 same in cc in
    subst (λ (o : Outcome). IsAlike name o.next (with_vehicles s vehicles)) (sym (one.acts s.vehicles refl))
    (record { vehicles = vehicles; rest = refl; alike = other_changed name s.vehicles vehicles incoming.manifest.vehicle one.change apart one.keeps h })

-- whether a command delivers another vehicle's manifest
abbrev pub is_others : Name → Command → Bool
is_others name c = unwrap_or (option_map (λ vehicle. not (bytes_eq vehicle name)) (vehicle_of c)) false

step_alike : (k : Rules) (s : State) (vehicles : Table Vehicle) (at : ℕ) (c : Command) (name : Name) → AlikeTables name s.vehicles vehicles
    → AlikeResult name (decide k s at c) (decide k (with_vehicles s vehicles) at c) → ServedAlike name (step k s at c) (step k (with_vehicles s vehicles) at c)
unfolding step
step_alike k s vehicles at c name h is = outcome_alike name s vehicles (decide k s at c) (decide k (with_vehicles s vehicles) at c) h is

-- a command that delivers no other vehicle's manifest is served alike
pub served_alike : (k : Rules) (s : State) (vehicles : Table Vehicle) (at : ℕ) (c : Command) (name : Name) → AlikeTables name s.vehicles vehicles → is_others name c ≡ false
    → ServedAlike name (serve k s at c) (serve k (with_vehicles s vehicles) at c)
unfolding serve
served_alike k s vehicles at (Found keys) name h own = step_alike k s vehicles at (Found keys) name h (found_alike k s vehicles at keys name h)
served_alike k s vehicles at (Rotate keys) name h own = step_alike k s vehicles at (Rotate keys) name h (rotate_alike k s vehicles at keys name h)
served_alike k s vehicles at (AddImage image) name h own = step_alike k s vehicles at (AddImage image) name h (image_alike k s vehicles at image name h)
served_alike k s vehicles at (Refresh version) name h own = step_alike k s vehicles at (Refresh version) name h (refresh_alike k s vehicles at version name h)
served_alike k s vehicles at (AddVehicle new) name h own = step_alike k s vehicles at (AddVehicle new) name h (vehicle_alike k s vehicles at new name h)
served_alike k s vehicles at (ReplaceEcu r) name h own = step_alike k s vehicles at (ReplaceEcu r) name h (replace_alike k s vehicles at r name h)
served_alike k s vehicles at (OpenCampaign campaign) name h own = step_alike k s vehicles at (OpenCampaign campaign) name h (open_alike s vehicles at campaign name h)
served_alike k s vehicles at (CloseCampaign campaign) name h own = step_alike k s vehicles at (CloseCampaign campaign) name h (close_alike s vehicles at campaign name h)
served_alike k s vehicles at (Fetch repository file_name) name h own = step_alike k s vehicles at (Fetch repository file_name) name h (fetch_alike s vehicles at repository file_name name h)
served_alike k s vehicles at (Deliver body) name h own = delivered_alike k s vehicles at body name h own

-- a command that delivers another vehicle's manifest leaves a state that is alike
pub other_alike : (k : Rules) (s : State) (vehicles : Table Vehicle) (at : ℕ) (c : Command) (name : Name) → AlikeTables name s.vehicles vehicles → is_others name c ≡ true
    → IsAlike name (serve k s at c).next (with_vehicles s vehicles)
other_alike k s vehicles at (Found keys) name h other = cc
other_alike k s vehicles at (Rotate keys) name h other = cc
other_alike k s vehicles at (AddImage image) name h other = cc
other_alike k s vehicles at (Refresh version) name h other = cc
other_alike k s vehicles at (AddVehicle new) name h other = cc
other_alike k s vehicles at (ReplaceEcu replacement) name h other = cc
other_alike k s vehicles at (OpenCampaign campaign) name h other = cc
other_alike k s vehicles at (CloseCampaign campaign) name h other = cc
other_alike k s vehicles at (Fetch repository file_name) name h other = cc
other_alike k s vehicles at (Deliver body) name h other = others_delivery k s vehicles at body name h (incoming_in body) refl other
