-- What is computed is never `Store`: only a database refuses so.
use Rattle.std.proofs.Common.{◌≡◌, ℕ, List, [], ◌∷◌, Bool, true, false, Option, Some, None, Result, Ok, Err, length, ap}
use Rattle.std.specs.Prelude.{nat_le, nat_lt, if◌then◌else◌, bytes_eq, codes, find}
use Rattle.std.specs.List.{list_all}
use Rattle.std.specs.FinMap as table
use Rattle.serde_json.specs.Data.{Data}
use Rattle.up_canon.specs.Canon.{max_count}
use Rattle.up_canon.specs.Moments.{last_command_moment, read_moment}
use Rattle.up_canon.specs.Names.{Name, first_repeated, is_from_to, is_ident, is_file_name, is_note, is_short_text}
use Rattle.up_canon.specs.HexText.{hex_of, hex_in, sha256_in}
use Rattle.up_canon.specs.JsonText.{value_in, value_within}
use Rattle.up_canon.specs.Members.{text_of, count_of, list_of, object_of, member_in, member_as, text_in, count_in, list_in, object_in}
use Rattle.up_canon.specs.Readers.{fitting, text_fitting, ident_of, file_name_of, note_of, ident_in, file_name_in, note_in, word_in, short_text_in, positive_in, list_within, moment_in}
use Rattle.up_canon.specs.Refusals.{canonical_text}
use Rattle.up_canon.specs.Steps.{and_then, unless, refuse_if, refuse_first, or_error, each}
use Rattle.up_canon.specs.declared.refusal.Refusal.{Refusal}
use Rattle.up_canon.specs.declared.refusal.Refusal.TheVariants.{Store, BadShape, MomentOutOfRange, TooLarge, NotJson, NotCanonical, NotFounded, AlreadyFounded, UnknownVehicle, WrongPrimary, BadManifestSignature, Stale, UnknownEcu, DuplicateEcu, MissingEcu, BadReportSignature, ReportReplayed, ImageTaken, RegisterFull, VersionLimit, VehicleTaken, EcuTaken, CampaignTaken, UnknownCampaign, UnknownImage, WrongHardware, VersionNotGreater, UnknownFile, RootFull, PrimaryFixed}
use Rattle.up_sign.specs.Formats.{is_object}
use Rattle.up_sign.specs.Reading.{signature_in, signatures_in, signed_in, opened_in}
use Rattle.up_sign.specs.Schemes.{Rules}
use Rattle.up_manifest.specs.declared.manifest.Incoming.{Incoming}
use Rattle.up_manifest.specs.declared.report.SignedReport.{SignedReport}
use Rattle.up_manifest.specs.Manifests.{largest_body, most_reports, installed_in, report_in, signed_report_in, reports_in, manifest_in, incoming_in}
use Rattle.up_metadata.specs.declared.keys.KeySet.{KeySet}
use Rattle.up_metadata.specs.declared.keys.RepoKeys.{RepoKeys}
use Rattle.up_metadata.specs.declared.keys.RoleSecrets.{RoleSecrets}
use Rattle.up_metadata.specs.Keys.{keys_fit, threshold_fits, check_role, check_repository, check_keys}
use Rattle.up_plan.specs.Campaigns.{CampaignData}
use Rattle.up_plan.specs.Images.{ImageData}
use Rattle.up_roles.specs.declared.repository.Repository.{Repository}
use Rattle.up_machine.specs.declared.vehicle.Replacement.{Replacement}
use Rattle.up_machine.specs.Deciding.{Outcome, already, where_new, check_moment, check_founded, check_version}
use Rattle.up_machine.specs.Decisions.{resolve, decide_incoming}
use Rattle.up_machine.specs.Deliveries.{Received, is_signed_by, report_name, receive_manifest, check_reports, check_new, decide_received}
use Rattle.up_machine.specs.Files.{file}
use Rattle.up_machine.specs.Inventory.{same_vehicle, same_campaign, reach_is_known, has_its_image, has_its_hardware, decide_new_vehicle, decide_vehicle, decide_replacement, decide_replace, decide_new_campaign, decide_open, decide_close}
use Rattle.up_machine.specs.Repeats.{KeptEntry, repeat_in}
use Rattle.up_machine.specs.Repositories.{are_roots_full, same_image, decide_found, decide_rotate, decide_new_image, decide_image, decide_refresh, decide_fetch}
use Rattle.up_machine.specs.State.{Vehicle, State, is_founded, root_number, image_root_number, is_taken, last_counter}
use Rattle.up_machine.specs.Vehicles.{NewVehicleData, has_ecu, ecu_names, public_fits}

-- its error, if it has one, is another
abbrev pub NeverStore : {A : Type 0} → Result A Refusal → Type 0
NeverStore r = r ≡ Err Store → ⊥

abbrev IsOther : Refusal → Type 0
IsOther e = e ≡ Store → ⊥

-- ---- steps

never_ok : {A : Type 0} (x : A) → NeverStore (Ok x)
never_ok x = λ is. cc

never_err : {A : Type 0} (e : Refusal) → IsOther e → NeverStore {A = A} (Err e)
never_err e other = λ is. let same : e ≡ Store = cc in other same

never_then : {A B : Type 0} (m : Result A Refusal) (f : A → Result B Refusal) → NeverStore m → ((x : A) → NeverStore (f x)) → NeverStore (and_then m f)
unfolding and_then
never_then (Ok x) f first next = next x
never_then (Err e) f first next = λ is. let same : e ≡ Store = cc in first (ap (λ (r : Refusal). Err r) same)

never_unless : (b : Bool) (e : Refusal) → IsOther e → NeverStore (unless b e)
never_unless true e other = never_ok tt
never_unless false e other = never_err e other

never_if : (b : Bool) (e : Refusal) → IsOther e → NeverStore (refuse_if b e)
never_if true e other = never_err e other
never_if false e other = never_ok tt

never_first : {A : Type 0} (error : A → Refusal) (o : Option A) → ((x : A) → IsOther (error x)) → NeverStore (refuse_first error o)
never_first error None other = never_ok tt
never_first error (Some x) other = never_err (error x) (other x)

never_else : {A : Type 0} (e : Refusal) (o : Option A) → IsOther e → NeverStore (or_error e o)
never_else e None other = never_err e other
never_else e (Some x) other = never_ok x

never_each : {A B : Type 0} (step : A → Result B Refusal) (xs : List A) → ((x : A) → NeverStore (step x)) → NeverStore (each step xs)
unfolding each
never_each step [] never = never_ok []
never_each step (x ∷ xs) never =
    never_then (step x) _ (never x) (λ y. never_then (each step xs) _ (never_each step xs never) (λ ys. never_ok (y ∷ ys)))

never_fitting : {A : Type 0} (fits : A → Bool) (name : List ℕ) (x : A) → NeverStore (fitting fits name x)
never_fitting fits name x = by_test (fits x)
  where
    by_test : (b : Bool) → NeverStore (if b then Ok x else Err (BadShape name))
    by_test true = never_ok x
    by_test false = never_err _ (λ is. cc)

never_where_new : {A : Type 0} (s : State) (is_same : A → Bool) (taken : Refusal) (o : Option A) (decided : Result Outcome Refusal) → IsOther taken → NeverStore decided
    → NeverStore (where_new s is_same taken o decided)
never_where_new s is_same taken None decided other never = never
never_where_new s is_same taken (Some old) decided other never = by_test (is_same old)
  where
    by_test : (b : Bool) → NeverStore (if b then Ok (already s) else Err taken)
    by_test true = never_ok _
    by_test false = never_err taken other

-- ---- what is read of JSON

never_text_of : (name : List ℕ) (d : Data) → NeverStore (text_of name d)
unfolding text_of
never_text_of name d = never_else (BadShape name) _ (λ is. cc)

never_count_of : (name : List ℕ) (d : Data) → NeverStore (count_of name d)
unfolding count_of
never_count_of name d = never_else (BadShape name) _ (λ is. cc)

never_list_of : (name : List ℕ) (d : Data) → NeverStore (list_of name d)
unfolding list_of
never_list_of name d = never_else (BadShape name) _ (λ is. cc)

never_object_of : (name : List ℕ) (d : Data) → NeverStore (object_of name d)
unfolding object_of
never_object_of name d = never_else (BadShape name) _ (λ is. cc)

never_member : (name : List ℕ) (d : Data) → NeverStore (member_in name d)
unfolding member_in
never_member name d = never_else (BadShape name) _ (λ is. cc)

never_member_as : {A : Type 0} (reader : List ℕ → Data → Result A Refusal) (name : List ℕ) (d : Data) → ((value : Data) → NeverStore (reader name value)) → NeverStore (member_as reader name d)
never_member_as reader name d never = never_then (member_in name d) (reader name) (never_member name d) never

never_text : (name : List ℕ) (d : Data) → NeverStore (text_in name d)
unfolding text_in
never_text name d = never_member_as text_of name d (never_text_of name)

never_count : (name : List ℕ) (d : Data) → NeverStore (count_in name d)
unfolding count_in
never_count name d = never_member_as count_of name d (never_count_of name)

never_list : (name : List ℕ) (d : Data) → NeverStore (list_in name d)
unfolding list_in
never_list name d = never_member_as list_of name d (never_list_of name)

never_object : (name : List ℕ) (d : Data) → NeverStore (object_in name d)
unfolding object_in
never_object name d = never_member_as object_of name d (never_object_of name)

never_text_fitting : (fits : List ℕ → Bool) (name : List ℕ) (d : Data) → NeverStore (text_fitting fits name d)
never_text_fitting fits name d = never_then (text_of name d) (fitting fits name) (never_text_of name d) (never_fitting fits name)

never_ident : (name : List ℕ) (d : Data) → NeverStore (ident_in name d)
unfolding ident_in ident_of
never_ident name d = never_member_as ident_of name d (λ value. never_text_fitting is_ident name value)

never_file_name : (name : List ℕ) (d : Data) → NeverStore (file_name_in name d)
unfolding file_name_in file_name_of
never_file_name name d = never_member_as file_name_of name d (λ value. never_text_fitting is_file_name name value)

never_note : (name : List ℕ) (d : Data) → NeverStore (note_in name d)
unfolding note_in note_of
never_note name d = never_member_as note_of name d (λ value. never_text_fitting is_note name value)

never_word : (word name : List ℕ) (d : Data) → NeverStore (word_in word name d)
unfolding word_in
never_word word name d = never_then (text_in name d) _ (never_text name d) (λ text. never_unless (bytes_eq text word) (BadShape name) (λ is. cc))

never_short_text : (least most : ℕ) (name : List ℕ) (d : Data) → NeverStore (short_text_in least most name d)
unfolding short_text_in
never_short_text least most name d = never_then (text_in name d) _ (never_text name d) (never_fitting (is_short_text least most) name)

never_positive : (name : List ℕ) (d : Data) → NeverStore (positive_in name d)
unfolding positive_in
never_positive name d = never_then (count_in name d) _ (never_count name d) (never_fitting (nat_le 1) name)

never_list_within : (least most : ℕ) (name : List ℕ) (d : Data) → NeverStore (list_within least most name d)
unfolding list_within
never_list_within least most name d =
    never_then (list_in name d) _ (never_list name d) (never_fitting (λ (ds : List Data). is_from_to least most (length ds)) name)

never_moment : (name : List ℕ) (d : Data) → NeverStore (moment_in name d)
unfolding moment_in
never_moment name d = never_then (text_in name d) _ (never_text name d) (λ text. never_else (BadShape name) (read_moment text) (λ is. cc))

never_hex_of : (least most : ℕ) (name : List ℕ) (d : Data) → NeverStore (hex_of least most name d)
unfolding hex_of
never_hex_of least most name d =
    never_then (text_of name d) _ (never_text_of name d)
    (λ text. never_then (fitting (λ (t : List ℕ). is_from_to least most (length t)) name text) _ (never_fitting (λ (t : List ℕ). is_from_to least most (length t)) name text)
    (λ digits. never_else (BadShape name) _ (λ is. cc)))

never_hex : (least most : ℕ) (name : List ℕ) (d : Data) → NeverStore (hex_in least most name d)
unfolding hex_in
never_hex least most name d = never_then (member_in name d) _ (never_member name d) (never_hex_of least most name)

never_sha256 : (name : List ℕ) (d : Data) → NeverStore (sha256_in name d)
unfolding sha256_in
never_sha256 name d = never_then (member_in name d) _ (never_member name d) (never_hex_of 64 64 name)

never_value : (most : ℕ) (bytes : List ℕ) → NeverStore (value_within most bytes)
unfolding value_within
never_value most bytes = never_then _ _ (never_unless (nat_le (length bytes) most) TooLarge (λ is. cc)) (λ _. never_else NotJson (value_in bytes) (λ is. cc))

never_canonical : (d : Data) → NeverStore (canonical_text d)
unfolding canonical_text
never_canonical d = never_else NotCanonical _ (λ is. cc)

-- ---- bodies

never_signature : (place : List ℕ) (d : Data) → NeverStore (signature_in place d)
unfolding signature_in
never_signature place d =
    never_then (object_of place d) _ (never_object_of place d) (λ members.
    never_then (short_text_in 1 128 (codes "keyid") members) _ (never_short_text 1 128 (codes "keyid") members) (λ keyid.
    never_then (short_text_in 1 64 (codes "method") members) _ (never_short_text 1 64 (codes "method") members) (λ method.
    never_then (hex_in 2 1024 (codes "sig") members) _ (never_hex 2 1024 (codes "sig") members) (λ sig. never_ok _))))

never_signatures : (d : Data) → NeverStore (signatures_in d)
unfolding signatures_in
never_signatures d =
    never_then (list_within 1 8 (codes "signatures") d) _ (never_list_within 1 8 (codes "signatures") d) (λ values.
    never_then (fitting (list_all is_object) (codes "signatures") values) _ (never_fitting (list_all is_object) (codes "signatures") values) (λ objects.
    never_each (signature_in (codes "signatures")) objects (never_signature (codes "signatures"))))

never_signed : (d : Data) → NeverStore (signed_in d)
unfolding signed_in
never_signed d =
    never_then (object_in (codes "signed") d) _ (never_object (codes "signed") d) (λ payload.
    never_then (canonical_text payload) _ (never_canonical payload) (λ text. never_ok _))

never_opened : (place : List ℕ) (d : Data) → NeverStore (opened_in place d)
unfolding opened_in
never_opened place d =
    never_then (object_of place d) _ (never_object_of place d) (λ members.
    never_then (signatures_in members) _ (never_signatures members) (λ signatures.
    never_then (signed_in members) _ (never_signed members) (λ signed. never_ok _)))

never_installed : (d : Data) → NeverStore (installed_in d)
unfolding installed_in
never_installed d =
    never_then (file_name_in (codes "file") d) _ (never_file_name (codes "file") d) (λ file.
    never_then (count_in (codes "length") d) _ (never_count (codes "length") d) (λ size.
    never_then (object_in (codes "hashes") d) _ (never_object (codes "hashes") d) (λ hashes.
    never_then (sha256_in (codes "sha256") hashes) _ (never_sha256 (codes "sha256") hashes) (λ sha256. never_ok _))))

never_report : (payload : Data) → NeverStore (report_in payload)
unfolding report_in
never_report payload =
    never_then (word_in (codes "report") (codes "type") payload) _ (never_word (codes "report") (codes "type") payload) (λ kind.
    never_then (ident_in (codes "ecu") payload) _ (never_ident (codes "ecu") payload) (λ ecu.
    never_then (count_in (codes "counter") payload) _ (never_count (codes "counter") payload) (λ counter.
    never_then (moment_in (codes "time") payload) _ (never_moment (codes "time") payload) (λ time.
    never_then (note_in (codes "attack") payload) _ (never_note (codes "attack") payload) (λ attack.
    never_then (object_in (codes "image") payload) _ (never_object (codes "image") payload) (λ image.
    never_then (installed_in image) _ (never_installed image) (λ installed. never_ok _)))))))

never_signed_report : (place : List ℕ) (d : Data) → NeverStore (signed_report_in place d)
unfolding signed_report_in
never_signed_report place d =
    never_then (opened_in place d) _ (never_opened place d) (λ opened.
    never_then (report_in opened.payload) _ (never_report opened.payload) (λ report. never_ok _))

never_reports : (payload : Data) → NeverStore (reports_in payload)
unfolding reports_in
never_reports payload =
    never_then (list_within 0 most_reports (codes "reports") payload) _ (never_list_within 0 most_reports (codes "reports") payload) (λ listed.
    never_each (signed_report_in (codes "reports")) listed (never_signed_report (codes "reports")))

never_manifest : (payload : Data) → NeverStore (manifest_in payload)
unfolding manifest_in
never_manifest payload =
    never_then (word_in (codes "manifest") (codes "type") payload) _ (never_word (codes "manifest") (codes "type") payload) (λ kind.
    never_then (ident_in (codes "vehicle") payload) _ (never_ident (codes "vehicle") payload) (λ vehicle.
    never_then (ident_in (codes "primary") payload) _ (never_ident (codes "primary") payload) (λ primary.
    never_then (positive_in (codes "counter") payload) _ (never_positive (codes "counter") payload) (λ counter.
    never_then (reports_in payload) _ (never_reports payload) (λ reports. never_ok _)))))

pub never_incoming : (body : List ℕ) → NeverStore (incoming_in body)
unfolding incoming_in
never_incoming body =
    never_then (value_within largest_body body) _ (never_value largest_body body) (λ d.
    never_then (opened_in (codes "body") d) _ (never_opened (codes "body") d) (λ opened.
    never_then (manifest_in opened.payload) _ (never_manifest opened.payload) (λ manifest. never_ok _)))

-- ---- decisions

never_late : (at : ℕ) → NeverStore (check_moment at)
never_late at = never_if (nat_lt last_command_moment at) MomentOutOfRange (λ is. cc)

never_unfounded : (s : State) → NeverStore (check_founded s)
never_unfounded s = never_unless (is_founded s) NotFounded (λ is. cc)

never_limit : (s : State) → NeverStore (check_version s)
never_limit s = never_if (nat_le max_count s.image_version) VersionLimit (λ is. cc)

never_role : (k : Rules) (role : RoleSecrets) → NeverStore (check_role k role)
unfolding check_role
never_role k role =
    never_then _ _ (never_unless (keys_fit k role) (BadShape (codes "keys")) (λ is. cc)) (λ _. never_unless (threshold_fits role) (BadShape (codes "threshold")) (λ is. cc))

never_repository : (k : Rules) (keys : RepoKeys) → NeverStore (check_repository k keys)
unfolding check_repository
never_repository k keys =
    never_then (check_role k keys.root) _ (never_role k keys.root) (λ _.
    never_then (check_role k keys.targets) _ (never_role k keys.targets) (λ _.
    never_then (check_role k keys.snapshot) _ (never_role k keys.snapshot) (λ _. never_role k keys.timestamp)))

never_keys : (k : Rules) (keys : KeySet) → NeverStore (check_keys k keys)
unfolding check_keys
never_keys k keys = never_then (check_repository k keys.director) _ (never_repository k keys.director) (λ _. never_repository k keys.image)

pub never_found : (k : Rules) (s : State) (at : ℕ) (keys : KeySet) → NeverStore (decide_found k s at keys)
unfolding decide_found
never_found k s at keys =
    never_then _ _ (never_late at) (λ _.
    never_then (check_keys k keys) _ (never_keys k keys) (λ _.
    never_then _ _ (never_if (is_founded s) AlreadyFounded (λ is. cc)) (λ _. never_ok _)))

pub never_rotate : (k : Rules) (s : State) (at : ℕ) (keys : KeySet) → NeverStore (decide_rotate k s at keys)
unfolding decide_rotate
never_rotate k s at keys =
    never_then _ _ (never_late at) (λ _.
    never_then (check_keys k keys) _ (never_keys k keys) (λ _.
    never_then _ _ (never_unfounded s) (λ _.
    never_then _ _ (never_if (are_roots_full (root_number s) (image_root_number s)) RootFull (λ is. cc)) (λ _.
    never_then _ _ (never_limit s) (λ _. never_ok _)))))

pub never_new_image : (k : Rules) (s : State) (at : ℕ) (image : ImageData) → NeverStore (decide_new_image k s at image)
unfolding decide_new_image
never_new_image k s at image =
    never_then _ _ (never_if (nat_le 1024 (table.len s.images)) RegisterFull (λ is. cc)) (λ _. never_then _ _ (never_limit s) (λ _. never_ok _))

pub never_image : (k : Rules) (s : State) (at : ℕ) (image : ImageData) → NeverStore (decide_image k s at image)
unfolding decide_image
never_image k s at image =
    never_then _ _ (never_late at) (λ _.
    never_then _ _ (never_unfounded s) (λ _.
    never_where_new s (same_image image) ImageTaken (table.get s.images image.file) (decide_new_image k s at image) (λ is. cc) (never_new_image k s at image)))

pub never_refresh : (k : Rules) (s : State) (at version : ℕ) → NeverStore (decide_refresh k s at version)
unfolding decide_refresh
never_refresh k s at version =
    never_then _ _ (never_late at) (λ _.
    never_then _ _ (never_unfounded s) (λ _.
    never_then _ _ (never_if (nat_le version s.image_version) VersionNotGreater (λ is. cc)) (λ _. never_ok _)))

pub never_fetch : (s : State) (at : ℕ) (repository : Repository) (name : Name) → NeverStore (decide_fetch s at repository name)
unfolding decide_fetch
never_fetch s at repository name =
    never_then _ _ (never_late at) (λ _.
    never_then _ _ (never_unfounded s) (λ _.
    never_then _ _ (never_else UnknownFile (file s repository name) (λ is. cc)) (λ text. never_ok _)))

never_new_vehicle : (s : State) (new : NewVehicleData) → NeverStore (decide_new_vehicle s new)
unfolding decide_new_vehicle
never_new_vehicle s new =
    never_then _ _ (never_first DuplicateEcu (first_repeated (ecu_names new.ecus)) (λ x is. cc)) (λ _.
    never_then _ _ (never_first EcuTaken (find (is_taken s) (ecu_names new.ecus)) (λ x is. cc)) (λ _. never_ok _))

pub never_vehicle : (k : Rules) (s : State) (at : ℕ) (new : NewVehicleData) → NeverStore (decide_vehicle k s at new)
unfolding decide_vehicle
never_vehicle k s at new =
    never_then _ _ (never_late at) (λ _.
    never_then _ _ (never_unless (list_all (λ e. public_fits k e.public) new.ecus) (BadShape (codes "key")) (λ is. cc)) (λ _.
    never_then _ _ (never_unfounded s) (λ _.
    never_where_new s (same_vehicle new) VehicleTaken (table.get s.vehicles new.vehicle) (decide_new_vehicle s new) (λ is. cc) (never_new_vehicle s new))))

never_replacement : (s : State) (r : Replacement) (v : Vehicle) → NeverStore (decide_replacement s r v)
unfolding decide_replacement
never_replacement s r v =
    never_then _ _ (never_unless (has_ecu r.old v.ecus) (UnknownEcu r.old) (λ is. cc)) (λ _.
    never_then _ _ (never_if (bytes_eq r.old v.primary) PrimaryFixed (λ is. cc)) (λ _.
    never_then _ _ (never_if (is_taken s r.ecu.ecu) (EcuTaken r.ecu.ecu) (λ is. cc)) (λ _. never_ok _)))

pub never_replace : (k : Rules) (s : State) (at : ℕ) (r : Replacement) → NeverStore (decide_replace k s at r)
unfolding decide_replace
never_replace k s at r =
    never_then _ _ (never_late at) (λ _.
    never_then _ _ (never_unless (public_fits k r.ecu.public) (BadShape (codes "key")) (λ is. cc)) (λ _.
    never_then _ _ (never_unfounded s) (λ _.
    never_then _ _ (never_else UnknownVehicle (table.get s.vehicles r.vehicle) (λ is. cc)) (never_replacement s r))))

never_new_campaign : (s : State) (campaign : CampaignData) → NeverStore (decide_new_campaign s campaign)
unfolding decide_new_campaign
never_new_campaign s campaign =
    never_then _ _ (never_unless (reach_is_known s campaign.reach) UnknownVehicle (λ is. cc)) (λ _.
    never_then _ _ (never_unless (list_all (has_its_image s) campaign.items) UnknownImage (λ is. cc)) (λ _.
    never_then _ _ (never_unless (list_all (has_its_hardware s) campaign.items) WrongHardware (λ is. cc)) (λ _. never_ok _)))

pub never_open : (s : State) (at : ℕ) (campaign : CampaignData) → NeverStore (decide_open s at campaign)
unfolding decide_open
never_open s at campaign =
    never_then _ _ (never_late at) (λ _.
    never_then _ _ (never_unfounded s) (λ _.
    never_where_new s (same_campaign campaign) CampaignTaken (table.get s.campaigns campaign.name) (decide_new_campaign s campaign) (λ is. cc) (never_new_campaign s campaign)))

pub never_close : (s : State) (at : ℕ) (name : Name) → NeverStore (decide_close s at name)
unfolding decide_close
never_close s at name =
    never_then _ _ (never_late at) (λ _.
    never_then _ _ (never_unfounded s) (λ _.
    never_then _ _ (never_else UnknownCampaign (table.get s.campaigns name) (λ is. cc)) (λ campaign. never_ok _)))

-- ---- deliveries

pub never_received : (k : Rules) (s : State) (incoming : Incoming) → NeverStore (receive_manifest k s incoming)
unfolding receive_manifest
never_received k s incoming =
    never_then _ _ (never_unfounded s) (λ _.
    never_then _ _ (never_else UnknownVehicle (table.get s.vehicles incoming.manifest.vehicle) (λ is. cc)) (λ vehicle.
    never_then _ _ (never_unless (bytes_eq incoming.manifest.primary vehicle.primary) WrongPrimary (λ is. cc)) (λ _.
    never_then _ _ (never_unless (is_signed_by k vehicle.ecus vehicle.primary incoming.envelope) BadManifestSignature (λ is. cc)) (λ _. never_ok _))))

never_reports_checked : (k : Rules) (v : Vehicle) (reports : List SignedReport) → NeverStore (check_reports k v reports)
unfolding check_reports
never_reports_checked k v reports =
    never_then _ _ (never_first UnknownEcu _ (λ x is. cc)) (λ _.
    never_then _ _ (never_first DuplicateEcu _ (λ x is. cc)) (λ _.
    never_then _ _ (never_first MissingEcu _ (λ x is. cc)) (λ _.
    never_then _ _ (never_first (λ (r : SignedReport). BadReportSignature (report_name r)) _ (λ x is. cc)) (λ _.
    never_first (λ (r : SignedReport). ReportReplayed (report_name r)) _ (λ x is. cc)))))

never_checked : (k : Rules) (r : Received) → NeverStore (check_new k r)
unfolding check_new
never_checked k r =
    never_then _ _ (never_if _ (Stale (last_counter r.vehicle.entries)) (λ is. cc)) (λ _. never_reports_checked k r.vehicle r.incoming.manifest.reports)

never_decided : (k : Rules) (s : State) (at : ℕ) (r : Received) → NeverStore (decide_received k s at r)
unfolding decide_received
never_decided k s at r = never_then (check_new k r) _ (never_checked k r) (λ _. never_ok _)

never_resolved : (k : Rules) (s : State) (at : ℕ) (r : Received) (o : Option KeptEntry) → NeverStore (resolve k s at r o)
never_resolved k s at r None = never_decided k s at r
never_resolved k s at r (Some p) = never_ok _

pub never_delivered : (k : Rules) (s : State) (at : ℕ) (incoming : Incoming) → NeverStore (decide_incoming k s at incoming)
unfolding decide_incoming
never_delivered k s at incoming = never_then (receive_manifest k s incoming) _ (never_received k s incoming) (λ r. never_resolved k s at r (repeat_in r))
