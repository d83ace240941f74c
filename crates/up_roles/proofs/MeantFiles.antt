-- What is read of a Snapshot, Timestamp or Targets payload is what it means, and so is what is read of the bytes of a file.
use Rattle.std.proofs.Common.{◌≡◌, ℕ, List, Bool, true, false, cond, Option, Some, None, Result, Ok, Err, length, refl, ap, sym, subst, ◌∙◌}
use Rattle.std.specs.Prelude.{codes, MatchResult}
use Rattle.std.proofs.lemmas.Bool.{and_parts}
use Rattle.serde_json.specs.Data.{Data, string, array, Items}
use Rattle.serde_json.specs.Find as json
use Rattle.up_canon.specs.Canon.{is_plain, has_canon, text}
use Rattle.up_canon.specs.Meaning.{EachMeans}
use Rattle.up_canon.specs.Members.{items_list, text_of, object_in}
use Rattle.up_canon.specs.Names.{Name, is_from_to, is_ident, are_distinct}
use Rattle.up_canon.specs.Readers.{ident_of}
use Rattle.up_canon.specs.Steps.{◌>>=◌, each}
use Rattle.up_canon.specs.declared.refusal.Refusal.{Refusal}
use Rattle.up_canon.proofs.Faults.{Fails, AllowsShapes, then_fails, ok_fails, each_fails, fitting_fails, self_fails, object_fails, list_fails, value_fails}
use Rattle.up_canon.proofs.JsonTexts.{value_read, value_there}
use Rattle.up_canon.proofs.Members.{is_text, list_read, list_there, object_read, object_there, self_read, self_there, has_member, fits_read, fits_there}
use Rattle.up_canon.proofs.Steps.{first_ok, bind-ok, same_ok, or_error_ok, each_read, each_there, each_size}
use Rattle.up_sign.specs.Laws.{IsTextFault}
use Rattle.up_sign.specs.declared.envelope.Envelope.{Envelope}
use Rattle.up_sign.proofs.Faults.{opened_text_fails}
use Rattle.up_sign.proofs.Meaning.{opened_read, opened_there}
use Rattle.up_roles.specs.Laws.{MeanOneOrFail}
use Rattle.up_roles.specs.Meaning.{HasName, MeansHead, MeansIdent, MeansTarget, MeansTargets, MeansListing, MeansSnapshot, MeansTimestamp, MeansFile}
use Rattle.up_roles.specs.Parts.{object_part}
use Rattle.up_roles.specs.Payload.{largest_file, head_in, vehicle_in, file_in}
use Rattle.up_roles.specs.declared.payload.Head.{Head}
use Rattle.up_roles.specs.Snapshot.{snapshot_entry_in, snapshot_of}
use Rattle.up_roles.specs.Targets.{ecus_of, ecu_of, hardware_of, target_of, target_list_in, targets_of}
use Rattle.up_roles.specs.Timestamp.{timestamp_entry_in, timestamp_of}
use Rattle.up_roles.specs.declared.repository.Repository.{Repository}
use Rattle.up_roles.specs.declared.repository.Repository.TheVariants.{Director, Image}
use Rattle.up_roles.specs.declared.snapshot.SnapshotFile.{SnapshotFile}
use Rattle.up_roles.specs.declared.targets.Target.{Target}
use Rattle.up_roles.specs.declared.targets.TargetsFile.{TargetsFile}
use Rattle.up_roles.specs.declared.timestamp.TimestampFile.{TimestampFile}
use Rattle.up_roles.proofs.MeantParts.{Moments, count_part_read, count_part_there, positive_part_read, positive_part_there, object_part_read, object_part_there, ident_part_read, ident_part_there, file_name_part_read, file_name_part_there, few_part_read, few_part_there, sha256_part_read, sha256_part_there, sha512_part_read, sha512_part_there, head_read, head_there, vehicle_read, vehicle_there, count_part_fails, positive_part_fails, object_part_fails, ident_of_fails, ident_part_fails, file_name_part_fails, few_part_fails, sha256_part_fails, head_fails, vehicle_fails}

shapes : AllowsShapes IsTextFault
shapes = record { shape = λ name. tt }

-- what is read of a payload is what M says that it means, and all faults are those of texts
pub record ReadsAs {F : Type 0} (meaning : Data → Result F Refusal) (M : Data → F → Type 0) : Type 0 where
  pub read : (d : Data) (file : F) → meaning d ≡ Ok file → M d file
  pub there : (d : Data) (file : F) → is_plain d ≡ true → M d file → meaning d ≡ Ok file
  pub fails : (d : Data) → Fails IsTextFault (meaning d)

-- ---- what begins each payload

heading_there : Moments → {B : Type 0} (kind : List ℕ) (d : Data) (r : Repository) (version expires : ℕ) (name : Option Name) (f : Head → Option Name → Result B Refusal) → MeansHead kind d r version expires
    → HasName r d (codes "vehicle") name → (head_in kind d >>= λ head. vehicle_in head.repository d >>= λ vehicle. f head vehicle) ≡ f (record { repository = r; version = version; expires = expires }) name
heading_there moments kind d r version expires name f head vehicle = bind-ok _ _ _ (head_there moments kind d r version expires head) ∙ bind-ok _ _ name (vehicle_there r d name vehicle)

heading_fails : {B : Type 0} (kind : List ℕ) (d : Data) (f : Head → Option Name → Result B Refusal) → ((head : Head) (vehicle : Option Name) → Fails IsTextFault (f head vehicle))
    → Fails IsTextFault (head_in kind d >>= λ head. vehicle_in head.repository d >>= λ vehicle. f head vehicle)
heading_fails kind d f more = then_fails _ _ (head_fails shapes kind d) (λ head. then_fails _ _ (vehicle_fails shapes head.repository d) (λ vehicle. more head vehicle))

-- ---- Snapshot

listing_read : Moments → (kind listed : List ℕ) (d meta entry : Data) (head : Head) (name : Option Name) → head_in kind d ≡ Ok head → vehicle_in head.repository d ≡ Ok name
    → object_in (codes "meta") d ≡ Ok meta → object_part (codes "meta") listed meta ≡ Ok entry → MeansListing kind listed d head.repository head.version head.expires name entry
listing_read moments kind listed d meta entry head name a b e f = record {
  head = head_read moments kind d head a;
  vehicle = vehicle_read head.repository d name b;
  meta = meta;
  has_meta = object_read (codes "meta") d meta e;
  has_entry = object_part_read (codes "meta") listed meta entry f;
}

snapshot_read : Moments → (d : Data) (file : SnapshotFile) → snapshot_of d ≡ Ok file → MeansSnapshot d file
unfolding snapshot_of snapshot_entry_in
snapshot_read moments d file h =
    first_ok _ _ _ _ h (λ head a h. first_ok _ _ _ _ h (λ vehicle b h. first_ok _ _ _ _ h (λ version c h.
    first_ok _ _ _ _ c (λ meta e c. first_ok _ _ _ _ c (λ entry f c.
    subst (MeansSnapshot d) (same_ok _ _ h) (record {
      entry = entry;
      listing = listing_read moments (codes "snapshot") (codes "targets.json") d meta entry head vehicle a b e f;
      targets_version = positive_part_read (codes "meta") (codes "version") entry version c;
    }))))))

snapshot_there : Moments → (d : Data) (file : SnapshotFile) → MeansSnapshot d file → snapshot_of d ≡ Ok file
unfolding snapshot_of snapshot_entry_in
snapshot_there moments d file h =
    heading_there moments (codes "snapshot") d file.repository file.version file.expires file.vehicle _ h.listing.head h.listing.vehicle
    ∙ bind-ok _ _ file.targets_version (
    bind-ok _ _ h.listing.meta (object_there (codes "meta") d h.listing.meta h.listing.has_meta)
    ∙ bind-ok _ _ h.entry (object_part_there (codes "meta") (codes "targets.json") h.listing.meta h.entry h.listing.has_entry)
    ∙ positive_part_there (codes "meta") (codes "version") h.entry file.targets_version h.targets_version)

snapshot_fails : (d : Data) → Fails IsTextFault (snapshot_of d)
unfolding snapshot_of snapshot_entry_in
snapshot_fails d =
    heading_fails (codes "snapshot") d _ (λ head vehicle. then_fails _ _ (
    then_fails _ _ (object_fails shapes (codes "meta") d) (λ meta.
    then_fails _ _ (object_part_fails shapes (codes "meta") (codes "targets.json") meta) (λ entry. positive_part_fails shapes (codes "meta") (codes "version") entry))) (λ version. ok_fails _))

pub snapshots_read : Moments → ReadsAs snapshot_of MeansSnapshot
snapshots_read moments = record { read = snapshot_read moments; there = λ d file plain h. snapshot_there moments d file h; fails = snapshot_fails }

-- ---- Timestamp

timestamp_read : Moments → (d : Data) (file : TimestampFile) → timestamp_of d ≡ Ok file → MeansTimestamp d file
unfolding timestamp_of timestamp_entry_in
timestamp_read moments d file h =
    first_ok _ _ _ _ h (λ head a h. first_ok _ _ _ _ h (λ vehicle b h. first_ok _ _ _ _ h (λ entry c h. first_ok _ _ _ _ h (λ version e h. first_ok _ _ _ _ h (λ hash f h.
    first_ok _ _ _ _ c (λ meta g c.
    subst (MeansTimestamp d) (same_ok _ _ h) (record {
      entry = entry;
      listing = listing_read moments (codes "timestamp") (codes "snapshot.json") d meta entry head vehicle a b g c;
      snapshot_version = positive_part_read (codes "meta") (codes "version") entry version e;
      snapshot_sha256 = sha256_part_read (codes "meta") entry hash f;
    })))))))

timestamp_there : Moments → (d : Data) (file : TimestampFile) → MeansTimestamp d file → timestamp_of d ≡ Ok file
unfolding timestamp_of timestamp_entry_in
timestamp_there moments d file h =
    heading_there moments (codes "timestamp") d file.repository file.version file.expires file.vehicle _ h.listing.head h.listing.vehicle
    ∙ bind-ok _ _ h.entry (bind-ok _ _ h.listing.meta (object_there (codes "meta") d h.listing.meta h.listing.has_meta) ∙ object_part_there (codes "meta") (codes "snapshot.json") h.listing.meta h.entry h.listing.has_entry)
    ∙ bind-ok _ _ file.snapshot_version (positive_part_there (codes "meta") (codes "version") h.entry file.snapshot_version h.snapshot_version)
    ∙ bind-ok _ _ file.snapshot_sha256 (sha256_part_there (codes "meta") h.entry file.snapshot_sha256 h.snapshot_sha256)

timestamp_fails : (d : Data) → Fails IsTextFault (timestamp_of d)
unfolding timestamp_of timestamp_entry_in
timestamp_fails d =
    heading_fails (codes "timestamp") d _ (λ head vehicle.
    then_fails _ _ (then_fails _ _ (object_fails shapes (codes "meta") d) (λ meta. object_part_fails shapes (codes "meta") (codes "snapshot.json") meta)) (λ entry.
    then_fails _ _ (positive_part_fails shapes (codes "meta") (codes "version") entry) (λ version.
    then_fails _ _ (sha256_part_fails shapes (codes "meta") entry) (λ hash. ok_fails _))))

pub timestamps_read : Moments → ReadsAs timestamp_of MeansTimestamp
timestamps_read moments = record { read = timestamp_read moments; there = λ d file plain h. timestamp_there moments d file h; fails = timestamp_fails }

-- ---- targets

ecu_read : (r : Repository) (d : Data) (ecu : Option Name) → ecu_of r d ≡ Ok ecu → HasName r d (codes "ecu") ecu
unfolding ecu_of
ecu_read Director d ecu h = first_ok _ _ _ _ h (λ t there h. subst (HasName Director d (codes "ecu")) (same_ok _ _ h) (ident_part_read (codes "targets") (codes "ecu") d t there))
ecu_read Image d ecu h = subst (HasName Image d (codes "ecu")) (same_ok _ _ h) tt

ecu_there : (r : Repository) (d : Data) (ecu : Option Name) → HasName r d (codes "ecu") ecu → ecu_of r d ≡ Ok ecu
unfolding ecu_of
ecu_there Director d (Some t) has = bind-ok _ _ t (ident_part_there (codes "targets") (codes "ecu") d t has.0 has.1)
ecu_there Director d None has = absurd has
ecu_there Image d (Some t) has = absurd has
ecu_there Image d None has = refl

ecu_fails : (r : Repository) (d : Data) → Fails IsTextFault (ecu_of r d)
unfolding ecu_of
ecu_fails Director d = then_fails _ _ (ident_part_fails shapes (codes "targets") (codes "ecu") d) (λ t. ok_fails (Some t))
ecu_fails Image d = ok_fails None

kind_read : (d : Data) (t : Name) → ident_of (codes "targets") d ≡ Ok t → MeansIdent d t
unfolding ident_of text_of
kind_read d t h = first_ok _ _ _ _ h (λ s is h. let p = fits_read is_ident (codes "targets") s t h in (is_text d s (or_error_ok _ _ s is) ∙ ap string p.1, p.0))

kind_there : (d : Data) (t : Name) → MeansIdent d t → ident_of (codes "targets") d ≡ Ok t
unfolding ident_of text_of
kind_there d t h = rw h.0 (bind-ok _ _ t refl ∙ fits_there is_ident (codes "targets") t h.1)

-- the kinds of hardware of a target
record MeansHardware (d : Data) (hardware : List Name) : Type 0 where
  kinds : Items
  has_hardware : json.get (codes "hardware") d ≡ Some (array kinds)
  each_kind : EachMeans MeansIdent kinds hardware
  number : is_from_to 1 16 (length hardware) ≡ true
  distinct : are_distinct hardware ≡ true

hardware_read : (d : Data) (hardware : List Name) → hardware_of d ≡ Ok hardware → MeansHardware d hardware
unfolding hardware_of
hardware_read d hardware h = first_ok _ _ _ _ h (λ values a h. first_ok _ _ _ _ h (λ names b h.
    let l = few_part_read 1 16 (codes "targets") (codes "hardware") d values a in
    let p = fits_read are_distinct (codes "targets") names hardware h in
    let kinds = each_read (ident_of (codes "targets")) MeansIdent kind_read l.0 hardware (ap (each (ident_of (codes "targets"))) l.2 ∙ b ∙ ap Ok p.1) in
    record {
      kinds = l.0;
      has_hardware = l.1;
      each_kind = kinds;
      number = ap (is_from_to 1 16) (sym (ap length (sym l.2) ∙ each_size MeansIdent l.0 hardware kinds)) ∙ l.3;
      distinct = p.0;
    }))

hardware_there : (d : Data) (hardware : List Name) → MeansHardware d hardware → hardware_of d ≡ Ok hardware
unfolding hardware_of
hardware_there d hardware h =
    bind-ok _ (λ values. _) (items_list h.kinds) (few_part_there 1 16 (codes "targets") (codes "hardware") d h.kinds h.has_hardware (ap (is_from_to 1 16) (each_size MeansIdent h.kinds hardware h.each_kind) ∙ h.number))
    ∙ bind-ok _ _ hardware (each_there (ident_of (codes "targets")) MeansIdent kind_there h.kinds hardware h.each_kind)
    ∙ fits_there are_distinct (codes "targets") hardware h.distinct

hardware_fails : (d : Data) → Fails IsTextFault (hardware_of d)
unfolding hardware_of
hardware_fails d =
    then_fails _ _ (few_part_fails shapes 1 16 (codes "targets") (codes "hardware") d) (λ values.
    then_fails _ _ (each_fails (ident_of (codes "targets")) (ident_of_fails shapes (codes "targets")) values) (λ names. fitting_fails shapes are_distinct (codes "targets") names))

target_read : (r : Repository) (d : Data) (target : Target) → target_of r d ≡ Ok target → MeansTarget r d target
unfolding target_of
target_read r value target h =
    first_ok _ _ _ _ h (λ d x h. first_ok _ _ _ _ h (λ ecu a h. first_ok _ _ _ _ h (λ file b h. first_ok _ _ _ _ h (λ hardware c h.
    first_ok _ _ _ _ h (λ sha256 e h. first_ok _ _ _ _ h (λ size f h. first_ok _ _ _ _ h (λ release g h.
    let name = file_name_part_read (codes "targets") (codes "file") d file b in
    let kinds = hardware_read d hardware c in
    subst (λ v. MeansTarget r v target) (sym (self_read (codes "targets") value d x))
    (subst (MeansTarget r d) (same_ok _ _ h) (record {
      ecu = ecu_read r d ecu a;
      file = name.0;
      file_fits = name.1;
      kinds = kinds.kinds;
      has_hardware = kinds.has_hardware;
      hardware = kinds.each_kind;
      some_distinct = rw (kinds.number, kinds.distinct) refl;
      sha256 = sha256_part_read (codes "targets") d sha256 e;
      sha512 = sha512_part_read d;
      size = count_part_read (codes "targets") (codes "length") d size f;
      release = count_part_read (codes "targets") (codes "release") d release g;
    })))))))))

target_there : (r : Repository) (d : Data) (target : Target) → MeansTarget r d target → target_of r d ≡ Ok target
unfolding target_of
target_there r d target h =
    let few = and_parts (is_from_to 1 16 (length target.hardware)) _ h.some_distinct in
    bind-ok _ _ d (self_there (codes "targets") d (has_member (codes "file") d _ h.file))
    ∙ bind-ok _ _ target.ecu (ecu_there r d target.ecu h.ecu)
    ∙ bind-ok _ _ target.file (file_name_part_there (codes "targets") (codes "file") d target.file h.file h.file_fits)
    ∙ bind-ok _ _ target.hardware (hardware_there d target.hardware (record { kinds = h.kinds; has_hardware = h.has_hardware; each_kind = h.hardware; number = few.0; distinct = few.1 }))
    ∙ bind-ok _ _ target.sha256 (sha256_part_there (codes "targets") d target.sha256 h.sha256)
    ∙ bind-ok _ _ target.length (count_part_there (codes "targets") (codes "length") d target.length h.size)
    ∙ bind-ok _ _ target.release (count_part_there (codes "targets") (codes "release") d target.release h.release)
    ∙ ap (λ (o : Option (List ℕ)). Ok (record { ecu = target.ecu; file = target.file; length = target.length; sha256 = target.sha256; sha512 = o; hardware = target.hardware; release = target.release })) (sha512_part_there d target.sha512 h.sha512)

target_fails : (r : Repository) (d : Data) → Fails IsTextFault (target_of r d)
unfolding target_of
target_fails r value =
    then_fails _ _ (self_fails shapes (codes "targets") value) (λ d.
    then_fails _ _ (ecu_fails r d) (λ ecu.
    then_fails _ _ (file_name_part_fails shapes (codes "targets") (codes "file") d) (λ file.
    then_fails _ _ (hardware_fails d) (λ hardware.
    then_fails _ _ (sha256_part_fails shapes (codes "targets") d) (λ sha256.
    then_fails _ _ (count_part_fails shapes (codes "targets") (codes "length") d) (λ size.
    then_fails _ _ (count_part_fails shapes (codes "targets") (codes "release") d) (λ release. ok_fails _)))))))

targets_read : Moments → (d : Data) (file : TargetsFile) → targets_of d ≡ Ok file → MeansTargets d file
unfolding targets_of target_list_in
targets_read moments d file h =
    first_ok _ _ _ _ h (λ head a h. first_ok _ _ _ _ h (λ vehicle b h. first_ok _ _ _ _ h (λ targets c h.
    first_ok _ _ _ _ c (λ values e c. first_ok _ _ _ _ c (λ each_target f c.
    let l = list_read (codes "targets") d values e in
    let p = fits_read (λ ts. are_distinct (ecus_of ts)) (codes "targets") each_target targets c in
    subst (MeansTargets d) (same_ok _ _ h) (record {
      head = head_read moments (codes "targets") d head a;
      vehicle = vehicle_read head.repository d vehicle b;
      listed = l.0;
      has_targets = l.1;
      targets = each_read (target_of head.repository) (MeansTarget head.repository) (target_read head.repository) l.0 targets (ap (each (target_of head.repository)) l.2 ∙ f ∙ ap Ok p.1);
      distinct = p.0;
    }))))))

targets_there : Moments → (d : Data) (file : TargetsFile) → MeansTargets d file → targets_of d ≡ Ok file
unfolding targets_of target_list_in
targets_there moments d file h =
    heading_there moments (codes "targets") d file.repository file.version file.expires file.vehicle _ h.head h.vehicle
    ∙ bind-ok _ _ file.targets (
    bind-ok _ _ (items_list h.listed) (list_there (codes "targets") d h.listed h.has_targets)
    ∙ bind-ok _ _ file.targets (each_there (target_of file.repository) (MeansTarget file.repository) (target_there file.repository) h.listed file.targets h.targets)
    ∙ fits_there (λ ts. are_distinct (ecus_of ts)) (codes "targets") file.targets h.distinct)

targets_fails : (d : Data) → Fails IsTextFault (targets_of d)
unfolding targets_of target_list_in
targets_fails d =
    heading_fails (codes "targets") d _ (λ head vehicle. then_fails _ _ (
    then_fails _ _ (list_fails shapes (codes "targets") d) (λ values.
    then_fails _ _ (each_fails (target_of head.repository) (target_fails head.repository) values) (λ targets. fitting_fails shapes (λ ts. are_distinct (ecus_of ts)) (codes "targets") targets))) (λ targets. ok_fails _))

pub targets_files_read : Moments → ReadsAs targets_of MeansTargets
targets_files_read moments = record { read = targets_read moments; there = λ d file plain h. targets_there moments d file h; fails = targets_fails }

-- ---- the bytes of a file

file_read : {F : Type 0} (meaning : Data → Result F Refusal) (M : Data → F → Type 0) → ReadsAs meaning M → (bytes : List ℕ) (p : F × Envelope) → file_in meaning bytes ≡ Ok p → MeansFile M bytes p.0 p.1
unfolding file_in
file_read meaning M reads bytes p h =
    first_ok _ _ _ _ h (λ d a h. first_ok _ _ _ _ h (λ opened b h. first_ok _ _ _ _ h (λ file c h.
    let v = value_read largest_file bytes d a in
    subst (λ p. MeansFile M bytes p.0 p.1) (same_ok _ _ h) (record {
      value = d;
      json_text = record { small = v.0; utf8 = v.1; reads = v.2 };
      payload = opened.payload;
      enveloped = opened_read (codes "body") d opened b;
      means = reads.read opened.payload file c;
    }))))

chosen : {A : Type 0} (b : Bool) (x t : A) → cond b (Some x) None ≡ Some t → b ≡ true
chosen true x t h = refl
chosen false x t h = cc

pub file_there : {F : Type 0} (meaning : Data → Result F Refusal) (M : Data → F → Type 0) → ReadsAs meaning M → (bytes : List ℕ) (file : F) (e : Envelope) → MeansFile M bytes file e → file_in meaning bytes ≡ Ok (file, e)
unfolding file_in
file_there meaning M reads bytes file e h =
    let canon = chosen (has_canon h.payload) (text h.payload) e.signed h.enveloped.signed.0 in
    let plain = (and_parts (is_plain h.payload) _ canon).0 in
    bind-ok _ _ h.value (value_there largest_file bytes h.value h.json_text.small h.json_text.utf8 h.json_text.reads)
    ∙ bind-ok _ _ _ (opened_there (codes "body") h.value h.payload e h.enveloped)
    ∙ bind-ok _ _ file (reads.there h.payload file plain h.means)

file_fails : {F : Type 0} (meaning : Data → Result F Refusal) (M : Data → F → Type 0) → ReadsAs meaning M → (bytes : List ℕ) → Fails IsTextFault (file_in meaning bytes)
unfolding file_in
file_fails meaning M reads bytes =
    then_fails _ _ (value_fails tt tt largest_file bytes) (λ d.
    then_fails _ _ (opened_text_fails (codes "body") d) (λ opened.
    then_fails _ _ (reads.fails opened.payload) (λ file. ok_fails _)))

pub bytes_mean_one_or_fail : {F : Type 0} (meaning : Data → Result F Refusal) (M : Data → F → Type 0) → ReadsAs meaning M → MeanOneOrFail M (file_in meaning)
bytes_mean_one_or_fail {F = F} meaning M reads bytes = by_result (file_in meaning bytes) refl
  where
    by_result : (r : Result (F × Envelope) Refusal) → file_in meaning bytes ≡ r → MatchResult r
        (λ p. MeansFile M bytes p.0 p.1 × ((file : F) (e : Envelope) → MeansFile M bytes file e → (file ≡ p.0) × (e ≡ p.1)))
        (λ fault. IsTextFault fault × ((file : F) (e : Envelope) → MeansFile M bytes file e → ⊥))
    by_result (Ok p) is = (
      file_read meaning M reads bytes p is,
      λ file e h.
          let same = same_ok (file, e) p (sym (file_there meaning M reads bytes file e h) ∙ is) in
          (ap (λ (x : F × Envelope). x.0) same, ap (λ (x : F × Envelope). x.1) same),
    )
    by_result (Err fault) is = ((file_fails meaning M reads bytes).allowed fault is, λ file e h. let both = sym (file_there meaning M reads bytes file e h) ∙ is in cc)
