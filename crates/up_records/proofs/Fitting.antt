-- What is decided fits the rows that are kept, and takes them to those of the next state.
use Rattle.std.proofs.Common.{◌≡◌, ℕ, suc, ◌+◌, List, [], ◌∷◌, ◌++◌, Bool, true, false, Option, Some, None, Ok, inl, inr, refl, sym, ap, ap₂, ◌∙◌, subst, map, length, arith}
use Rattle.std.specs.Prelude.{◌<◌, ◌≤◌, ◌^◌, ⊤, if◌then◌else◌, not, codes, option_map, nat_le, is_none}
use Rattle.std.specs.List.{AllByRecursion, list_all}
use Rattle.std.specs.FinMap as table
use Rattle.std.proofs.lemmas.List.{length-append}
use Rattle.std.proofs.lemmas.Option.{same_Some}
use Rattle.std.proofs.lemmas.Bool.{leb-true}
use Rattle.up_canon.specs.Names.{Name, first_repeated, is_from_to}
use Rattle.up_sign.specs.Envelopes.{identifier}
use Rattle.up_sign.specs.Schemes.{Rules}
use Rattle.up_plan.specs.Campaigns.{CampaignData}
use Rattle.up_plan.specs.Images.{ImageData}
use Rattle.up_metadata.specs.declared.keys.RoleSecrets.{RoleSecrets}
use Rattle.up_metadata.specs.declared.keys.RepoKeys.{RepoKeys}
use Rattle.up_metadata.specs.declared.keys.KeySet.{KeySet}
use Rattle.up_metadata.specs.Keys.{role_fits, keys_fit, threshold_fits, secret_fits, repository_fits, key_set_fits}
use Rattle.up_metadata.specs.declared.role_files.RoleTexts.{RoleTexts}
use Rattle.up_machine.specs.declared.decision.AcceptedRows.{AcceptedRows}
use Rattle.up_machine.specs.declared.decision.RegisterRows.{RegisterRows}
use Rattle.up_machine.specs.declared.decision.RootRows.{RootRows}
use Rattle.up_machine.specs.declared.rows.EcuRow.{EcuRow}
use Rattle.up_machine.specs.declared.rows.Founding.{Founding}
use Rattle.up_machine.specs.declared.rows.Kept.{Kept}
use Rattle.up_machine.specs.declared.rows.VehicleRows.{VehicleRows}
use Rattle.up_machine.specs.declared.vehicle.Replacement.{Replacement}
use Rattle.up_machine.specs.declared.vehicle.NewEcu.{NewEcu}
use Rattle.up_machine.specs.Vehicles.{NewVehicleData, has_ecu, new_vehicle_fault}
use Rattle.up_machine.specs.State.{Chain, Entry, Vehicle, State, is_founded, root_number, image_root_number, key_set, added, version}
use Rattle.up_machine.specs.Sound.{IsGrounded, IsSound}
use Rattle.up_machine.specs.Deciding.{Outcome, done}
use Rattle.up_machine.specs.Decisions.{IsDone, HasRootRows, HasRegisterRows, HasAcceptedRows}
use Rattle.up_machine.specs.Deliveries.{with_entry}
use Rattle.up_machine.specs.Inventory.{closed, with_campaign, decide_open, with_vehicle, decide_vehicle, with_replacement, decide_replace}
use Rattle.up_machine.specs.Repositories.{stamped, with_root, with_image, decide_found, decide_rotate, decide_image, decide_refresh}
use Rattle.up_machine.specs.Rows.{ecu_row, founding_row, rows_of}
use Rattle.up_metadata.proofs.Lists.{and_left, and_right}
use Rattle.up_machine.proofs.Counters.{versions_are_counts}
use Rattle.up_machine.proofs.Decided.{found_ok, rotate_ok, image_ok, refresh_ok}
use Rattle.up_machine.proofs.Keeping.{there as is_there}
use Rattle.up_machine.proofs.ReplacedRows.{rows_have}
use Rattle.up_machine.proofs.SoundRows.{row_names}
use Rattle.up_machine.proofs.Tables.{get_same}
use Rattle.up_rows.specs.SecondHashes.{TellsItsHash}
use Rattle.up_rows.specs.StateRows.{rows_of_state, ecu_of}
use Rattle.up_rows.specs.Changes.{with_root_rows, with_register_rows, with_image_rows, with_vehicle_rows, with_replaced_rows, with_campaign_row, with_accepted_rows}
use Rattle.up_rows.specs.Laws.{VehiclesAreFound, EcusTellTheirHash, RootsAreAdded, FilesAreReplaced, ImagesAreAdded, VehiclesAreAdded, EcusAreReplaced, CampaignsAreWritten, ManifestsAreAdded}
use Rattle.up_rows.specs.Fitting.{NewImagesAreNew, NewVehiclesAreNew, ReplacementsFit, NewCampaignsAreNew}
use Rattle.up_rows.proofs.Told.{ecus_back}
use Rattle.up_store.specs.Fitting.{IsNextRoot, IsSameRoot, IsNewImage, IsNewVehicle, IsReplacement, IsClosing, IsNewCampaign, IsRecorded}
use Rattle.up_store.specs.Typed.{HasKeys, HaveKeys, EachHasKeys}
use Rattle.up_store.specs.Writes.{FitsAccepted, FitsFounding, FitsVehicle, root_writes, register_writes, image_writes, campaign_writes, close_writes, vehicle_writes, replace_writes, accept_writes}
use Rattle.up_store.specs.Writes as writes
use Rattle.up_records.proofs.Writing.{WillWrite}

-- ---- campaigns

pub closing_fits : (k : Rules) (s : State) (name : Name) (row was : CampaignData) → IsSound k s → CampaignsAreWritten → table.get s.campaigns name ≡ Some was → row ≡ closed was
    → WillWrite k s (with_campaign s row) (close_writes row) (λ _. ⊤) (IsClosing row) (λ rows. with_campaign_row rows row)
closing_fits k s name row was sound written there is = record {
  fit = fit;
  rows = written s row;
  holds = λ next_sound. tt;
  write = writes.close row fit (sym (written s row)) refl;
}
  where
    named : row.name ≡ name
    named = ap (λ (c : CampaignData). c.name) is ∙ (sound.campaigns name was there).named

    fit : IsClosing row (rows_of_state s)
    fit = record { was = was; there = ap (table.get s.campaigns) named ∙ there; is = is }

pub opening_fits : (k : Rules) (s : State) (at : ℕ) (row : CampaignData) → CampaignsAreWritten → NewCampaignsAreNew → decide_open s at row ≡ Ok (done (with_campaign s row))
    → WillWrite k s (with_campaign s row) (campaign_writes row) (λ _. ⊤) (IsNewCampaign row) (λ rows. with_campaign_row rows row)
opening_fits k s at row written new it = record {
  fit = fit;
  rows = written s row;
  holds = λ next_sound. tt;
  write = writes.campaign row fit (sym (written s row)) refl;
}
  where
    fit : IsNewCampaign row (rows_of_state s)
    fit = new s at row it

-- ---- the last root version

-- what is told of the founding where there is one
abbrev founding_told : State → Founding
founding_told s = record { root = root_number s; image_root = image_root_number s; keys = key_set s; image_version = s.image_version; targets_version = s.targets_version; stamp = s.stamp }

pair : Chain → Chain → KeySet
pair director image = record { director = director.keys; image = image.keys }

-- files that are made anew are of the same root version
same_root : (s next : State) (new : RegisterRows) → is_founded s ≡ true → next.director ≡ s.director → next.image ≡ s.image → Some (founding_told next) ≡ Some new.founding → IsSameRoot new (rows_of_state s)
unfolding pair
same_root s next new founded director image h =
    let files = is_there s.files founded in
    let same : founding_told next ≡ new.founding = same_Some (founding_told next) new.founding h in
    record {
      before = founding_told s;
      there = ap (option_map (λ (files : RoleTexts). founding_told s)) files.1;
      root = sym (ap (λ (f : Founding). f.root) same) ∙ ap (λ (c : Chain). length c.texts) director;
      image_root = sym (ap (λ (f : Founding). f.image_root) same) ∙ ap (λ (c : Chain). length c.texts) image;
      keys = sym (ap (λ (f : Founding). f.keys) same) ∙ ap₂ (λ (d i : Chain). pair d i) director image;
    }

-- ---- numbers that columns hold

founding_numbers : (k : Rules) (next : State) (f : Founding) → IsSound k next → founding_row next ≡ Some f → FitsFounding f
founding_numbers k next f sound h = by_files next.files h
  where
    by_files : (o : Option RoleTexts) → option_map (λ (files : RoleTexts). founding_told next) o ≡ Some f → FitsFounding f
    by_files None h = cc
    by_files (Some files) h =
        let same : founding_told next ≡ f = same_Some (founding_told next) f h in
        subst FitsFounding same (record {
          root = omega (arith, sound.repositories.director_limit);
          image_root = omega (arith, sound.repositories.image_limit_of_roots);
          image_version = omega (arith, sound.repositories.version_limit);
          targets_version = omega (arith, sound.repositories.targets_limit, sound.repositories.version_limit);
        })

ecu_count : (v : Vehicle) (ecus : List NewEcu) → length (map (ecu_row v) ecus) ≡ length ecus
ecu_count v [] = refl
ecu_count v (e ∷ ecus) = ap suc (ecu_count v ecus)

few_ecus : (v : NewVehicleData) → new_vehicle_fault v ≡ None → length v.ecus ≤ 32
few_ecus v h = by_number (is_from_to 1 32 (length v.ecus)) refl h
  where
    by_number : (b : Bool) → is_from_to 1 32 (length v.ecus) ≡ b → (if not b then Some (codes "ecus") else if not (has_ecu v.primary v.ecus) then Some (codes "primary") else None) ≡ None → length v.ecus ≤ 32
    by_number true is h = leb-true _ _ (and_right (nat_le 1 (length v.ecus)) (nat_le (length v.ecus) 32) is)
    by_number false is h = cc

vehicle_numbers : (k : Rules) (next : State) (name : Name) (v : Vehicle) → IsSound k next → table.get next.vehicles name ≡ Some v → FitsVehicle (rows_of name v)
vehicle_numbers k next name v sound there =
    let counts = versions_are_counts k next name v sound there in
    let few = few_ecus (record { vehicle = name; primary = v.primary; ecus = v.ecus }) (sound.vehicles name v there).fits in
    let size = ecu_count v v.ecus in
    record { version = omega (arith, counts.0, counts.1); ecus = omega (arith, few, size) }

pub refreshing_fits : (k : Rules) (s : State) (at version : ℕ) (new : RegisterRows) → IsSound k s → FilesAreReplaced
    → IsDone (HasRegisterRows (stamped k s at version)) (stamped k s at version) new (decide_refresh k s at version)
    → WillWrite k s (stamped k s at version) (register_writes new) (λ _. FitsFounding new.founding) (IsSameRoot new) (λ rows. with_register_rows rows new)
refreshing_fits k s at version new sound replaced it = record {
  fit = fit;
  rows = replaced k s at version new it.1;
  holds = λ next_sound. founding_numbers k (stamped k s at version) new.founding next_sound it.1.founding;
  write = writes.register new fit (sym (replaced k s at version new it.1)) refl;
}
  where
    fit : IsSameRoot new (rows_of_state s)
    fit = same_root s (stamped k s at version) new (refresh_ok k s at version _ it.0).founded refl refl it.1.founding

-- an image that is added is added where something is founded
image_founded : (k : Rules) (s : State) (at : ℕ) (image : ImageData) (next : State) → decide_image k s at image ≡ Ok (done next) → is_founded s ≡ true
image_founded k s at image next h = elim (image_ok k s at image (done next) h) [
  | inl it ↦ let bad = ap (λ (o : Outcome). o.answer) it in absurd (cc)
  | inr is ↦ is.founded
]

pub image_fits : (k : Rules) (s : State) (at : ℕ) (image : ImageData) (new : RegisterRows) → IsSound k s → ImagesAreAdded → NewImagesAreNew
    → IsDone (HasRegisterRows (stamped k (with_image s image) at (s.image_version + 1))) (stamped k (with_image s image) at (s.image_version + 1)) new (decide_image k s at image)
    → WillWrite k s (stamped k (with_image s image) at (s.image_version + 1)) (image_writes image new) (λ _. FitsFounding new.founding) (IsNewImage image new) (λ rows. with_image_rows rows image new)
image_fits k s at image new sound added fresh it =
    let none = fresh k s at (s.image_version + 1) image it.0 in
    let founded = image_founded k s at image (stamped k (with_image s image) at (s.image_version + 1)) it.0 in
    let fit : IsNewImage image new (rows_of_state s) =
    record { none = none; root = same_root s (stamped k (with_image s image) at (s.image_version + 1)) new founded refl refl it.1.founding } in
    record {
      fit = fit;
      rows = added k s at (s.image_version + 1) image new it.1;
      holds = λ next_sound. founding_numbers k (stamped k (with_image s image) at (s.image_version + 1)) new.founding next_sound it.1.founding;
      write = writes.image image new fit (sym (added k s at (s.image_version + 1) image new it.1)) refl;
    }

-- ---- one more root version

has_keys : (k : Rules) (role : RoleSecrets) → role_fits k role ≡ true → HasKeys role
has_keys k role h =
    let fit : keys_fit k role ≡ true = and_left (keys_fit k role) (threshold_fits role) h in
    let number : is_from_to 1 4 (length role.keys) ≡ true = and_left (is_from_to 1 4 (length role.keys)) (list_all (secret_fits k) role.keys) (and_left _ (is_none (first_repeated (map (identifier k) role.keys))) fit) in
    inl (leb-true _ _ (and_left (nat_le 1 (length role.keys)) (nat_le (length role.keys) 4) number))

have_keys : (k : Rules) (keys : RepoKeys) → repository_fits k keys ≡ true → HaveKeys keys
have_keys k keys h =
    let three = and_left _ (role_fits k keys.timestamp) h in
    let two = and_left _ (role_fits k keys.snapshot) three in
    record {
      root = has_keys k keys.root (and_left (role_fits k keys.root) (role_fits k keys.targets) two);
      targets = has_keys k keys.targets (and_right (role_fits k keys.root) (role_fits k keys.targets) two);
      snapshot = has_keys k keys.snapshot (and_right _ (role_fits k keys.snapshot) three);
      timestamp = has_keys k keys.timestamp (and_right _ (role_fits k keys.timestamp) h);
    }

each_has_keys : (k : Rules) (keys : KeySet) → key_set_fits k keys ≡ true → EachHasKeys keys
each_has_keys k keys h = record { director = have_keys k keys.director (and_left _ _ h); image = have_keys k keys.image (and_right _ _ h) }

next_root : (k : Rules) (s : State) (at version : ℕ) (keys : KeySet) (new : RootRows) → IsSound k s → key_set_fits k keys ≡ true → HasRootRows (stamped k (with_root k s at keys) at version) new
    → IsNextRoot new (rows_of_state s)
next_root k s at version keys new sound fits has =
    let next = stamped k (with_root k s at keys) at version in
    let same : founding_told next ≡ new.founding = same_Some (founding_told next) new.founding has.founding in
    record {
      director = sym (ap (λ (f : Founding). f.root) same) ∙ length-append s.director.texts _;
      image = sym (ap (λ (f : Founding). f.image_root) same) ∙ length-append s.image.texts _;
      keys = subst EachHasKeys (ap (λ (f : Founding). f.keys) same) (each_has_keys k keys fits);
    }

pub founding_fits : (k : Rules) (s : State) (at : ℕ) (keys : KeySet) (new : RootRows) → IsSound k s → RootsAreAdded
    → IsDone (HasRootRows (stamped k (with_root k s at keys) at 1)) (stamped k (with_root k s at keys) at 1) new (decide_found k s at keys)
    → WillWrite k s (stamped k (with_root k s at keys) at 1) (root_writes new) (λ _. FitsFounding new.founding) (IsNextRoot new) (λ rows. with_root_rows rows new)
founding_fits k s at keys new sound added it = record {
  fit = next_root k s at 1 keys new sound (found_ok k s at keys _ it.0).fits it.1;
  rows = added k s at 1 keys new it.1;
  holds = λ next_sound. founding_numbers k (stamped k (with_root k s at keys) at 1) new.founding next_sound it.1.founding;
  write = writes.root new (next_root k s at 1 keys new sound (found_ok k s at keys _ it.0).fits it.1) (sym (added k s at 1 keys new it.1)) refl;
}

pub rotation_fits : (k : Rules) (s : State) (at : ℕ) (keys : KeySet) (new : RootRows) → IsSound k s → RootsAreAdded
    → IsDone (HasRootRows (stamped k (with_root k s at keys) at (s.image_version + 1))) (stamped k (with_root k s at keys) at (s.image_version + 1)) new (decide_rotate k s at keys)
    → WillWrite k s (stamped k (with_root k s at keys) at (s.image_version + 1)) (root_writes new) (λ _. FitsFounding new.founding) (IsNextRoot new) (λ rows. with_root_rows rows new)
rotation_fits k s at keys new sound added it = record {
  fit = next_root k s at (s.image_version + 1) keys new sound (rotate_ok k s at keys _ it.0).fits it.1;
  rows = added k s at (s.image_version + 1) keys new it.1;
  holds = λ next_sound. founding_numbers k (stamped k (with_root k s at keys) at (s.image_version + 1)) new.founding next_sound it.1.founding;
  write = writes.root new (next_root k s at (s.image_version + 1) keys new sound (rotate_ok k s at keys _ it.0).fits it.1)
      (sym (added k s at (s.image_version + 1) keys new it.1)) refl;
}

-- ---- vehicles

pub vehicle_fits : (k : Rules) (s : State) (at : ℕ) (new : NewVehicleData) (row : VehicleRows) → VehiclesAreFound → VehiclesAreAdded → NewVehiclesAreNew → EcusTellTheirHash
    → IsDone (λ r. r ≡ rows_of new.vehicle (added new)) (with_vehicle s new) row (decide_vehicle k s at new)
    → WillWrite k s (with_vehicle s new) (vehicle_writes row) (λ _. FitsVehicle row) (IsNewVehicle row) (λ rows. with_vehicle_rows rows row)
vehicle_fits k s at new row found written fresh tell it =
    let none = (fresh k s at new it.0).none in
    let rows = ap (with_vehicle_rows (rows_of_state s)) it.1 ∙ written s new none in
    let fit : IsNewVehicle row (rows_of_state s) = record {
      none = ap (λ (r : VehicleRows). table.get (rows_of_state s).vehicles r.vehicle.vehicle) it.1 ∙ found s new.vehicle ∙ ap (option_map (rows_of new.vehicle)) none;
      tell = subst (λ (r : VehicleRows). AllByRecursion TellsItsHash r.ecus) (sym it.1) (tell new.vehicle (added new));
    } in
    record {
      fit = fit;
      rows = rows;
      holds = λ next_sound. subst FitsVehicle (sym it.1) (vehicle_numbers k (with_vehicle s new) new.vehicle (added new) next_sound (get_same s.vehicles new.vehicle (added new)));
      write = writes.vehicle row fit (sym rows) refl;
    }

pub replacement_fits : (k : Rules) (s : State) (at : ℕ) (new : Replacement) (v : Vehicle) → IsSound k s → VehiclesAreFound → EcusAreReplaced → ReplacementsFit
    → table.get s.vehicles new.vehicle ≡ Some v → decide_replace k s at new ≡ Ok (done (with_replacement s new v))
    → WillWrite k s (with_replacement s new v) (replace_writes new) (λ _. ⊤) (IsReplacement new) (λ rows. with_replaced_rows rows new)
replacement_fits k s at new v sound found replaced fit there is_done =
    let fits = fit k s at new v sound there is_done in
    let is : IsReplacement new (rows_of_state s) = record {
      was = rows_of new.vehicle v;
      there = found s new.vehicle ∙ ap (option_map (rows_of new.vehicle)) there;
      has = rows_have v new.old v.ecus ∙ fits.has;
      once = ap first_repeated (row_names v v.ecus) ∙ fits.once;
    } in
    record {
      fit = is;
      rows = replaced k s new v sound there fits.free;
      holds = λ next_sound. tt;
      write = writes.replacement new is (sym (replaced k s new v sound there fits.free)) refl;
    }

recorded : (k : Rules) (s : State) (name : Name) (v : Vehicle) (e : Entry) (new : AcceptedRows) → IsSound k s → VehiclesAreFound → EcusTellTheirHash → table.get s.vehicles name ≡ Some v → HasAcceptedRows name v e new
    → IsRecorded new (rows_of_state s)
recorded k s name v e new sound found tell there has =
    let next : Vehicle = record v { entries = v.entries ++ e ∷ [] } in record {
      was = rows_of name v;
      there = ap (λ (r : VehicleRows). table.get (rows_of_state s).vehicles r.vehicle.vehicle) has.vehicle ∙ found s name ∙ ap (option_map (rows_of name)) there;
      primary = ap (λ (r : VehicleRows). r.vehicle.primary) has.vehicle;
      ecus = ap (λ (r : VehicleRows). map ecu_of r.ecus) has.vehicle ∙ ecus_back next v.ecus ∙ sym (ecus_back v v.ecus);
      once = ap (λ (r : VehicleRows). first_repeated (map (λ (row : EcuRow). row.ecu) r.ecus)) has.vehicle ∙ ap first_repeated (row_names next v.ecus) ∙ (sound.vehicles name v there).once;
      tell = subst (λ (r : VehicleRows). AllByRecursion TellsItsHash r.ecus) (sym has.vehicle) (tell name next);
    }

last_of : {A : Type 0} (P : A → Type 0) (xs : List A) (x : A) → AllByRecursion P (xs ++ x ∷ []) → P x
last_of P [] x h = h.0
last_of P (y ∷ xs) x h = last_of P xs x h.1

accepted_numbers : (k : Rules) (s : State) (name : Name) (v : Vehicle) (e : Entry) (new : AcceptedRows) → IsSound k (with_entry s name v e) → HasAcceptedRows name v e new → FitsAccepted new
accepted_numbers k s name v e new sound has =
    let after : Vehicle = record v { entries = v.entries ++ e ∷ [] } in
    let next = with_entry s name v e in
    let there : table.get next.vehicles name ≡ Some after = get_same s.vehicles name after in
    let counts = versions_are_counts k next name after sound there in
    let size : length (v.entries ++ e ∷ []) ≡ length v.entries + 1 = length-append v.entries (e ∷ []) in
    let version : version v.entries + 1 < 2 ^ 63 = omega (arith, counts.0, counts.1, size) in
    let grounded = last_of (IsGrounded next) v.entries e (sound.vehicles name after there).grounded in
    let root : e.root < 2 ^ 63 = omega (arith, grounded.to, sound.repositories.director_limit) in
    record {
      vehicle = subst FitsVehicle (sym has.vehicle) (vehicle_numbers k next name after sound there);
      version = subst (λ (row : Kept). row.version < 2 ^ 63) (sym has.kept) version;
      root = subst (λ (row : Kept). row.root < 2 ^ 63) (sym has.kept) root;
    }

pub accepting_fits : (k : Rules) (s : State) (name : Name) (v : Vehicle) (e : Entry) (new : AcceptedRows) → IsSound k s → VehiclesAreFound → ManifestsAreAdded → EcusTellTheirHash
    → table.get s.vehicles name ≡ Some v → HasAcceptedRows name v e new
    → WillWrite k s (with_entry s name v e) (accept_writes new) (λ rows. IsRecorded new rows × FitsAccepted new) (IsRecorded new) (λ rows. with_accepted_rows rows new)
accepting_fits k s name v e new sound found added tell there has = record {
  fit = fit;
  rows = added s name v e new there has;
  holds = λ next_sound. (fit, accepted_numbers k s name v e new next_sound has);
  write = writes.manifest new fit (sym (added s name v e new there has)) refl;
}
  where
    fit : IsRecorded new (rows_of_state s)
    fit = recorded k s name v e new sound found tell there has
