-- The Director's files for a vehicle are far smaller than a file may be.
use Rattle.std.proofs.Common.{◌≡◌, ℕ, suc, lit≤, ◌+◌, ◌*◌, ◌≤◌, List, [], ◌∷◌, ◌++◌, Bool, true, Option, Some, None, length, map, refl, sym, ap, ◌∙◌, arith, length-append}
use Rattle.std.specs.Prelude.{◌&&◌, ◌==◌, nat_le, nat_lt, codes, decimal}
use Rattle.std.specs.List.{list_all, join_with_byte}
use Rattle.std.proofs.Math.Nat.{mul-suc}
use Rattle.std.proofs.lemmas.Bool.{and_parts, leb-true}
use Rattle.std.proofs.lemmas.Bool.Decides.{nat_tests}
use Rattle.std.proofs.lemmas.List.{length-map}
use Rattle.serde_json.specs.Data.{Data, string}
use Rattle.up_canon.specs.Build.{list_with, hashes_value}
use Rattle.up_canon.specs.Canon.{max_count, json_string, text}
use Rattle.up_canon.specs.HexText.{is_hash, is_second_hash}
use Rattle.up_canon.specs.Moments.{last_moment, moment_text, MomentTextIsPlain}
use Rattle.up_canon.specs.Names.{Name, is_from_to, is_ident, is_ident_byte, is_file_name, is_file_byte, hardware_fits, are_distinct}
use Rattle.up_canon.proofs.Joined.{listed_text}
use Rattle.up_canon.proofs.Members.{within}
use Rattle.up_sign.specs.Envelopes.{sealed_envelope}
use Rattle.up_sign.specs.Formats.{signature_fits, envelope_fits, signature_value, envelope_text}
use Rattle.up_sign.specs.Schemes.{Rules}
use Rattle.up_sign.specs.declared.envelope.Signature.{Signature}
use Rattle.up_sign.specs.declared.envelope.Envelope.{Envelope}
use Rattle.up_manifest.proofs.Lengths.{json_string-length, count-length, short-length, signature-length, hashes-length, sum-five, sum-nested, sum-eleven}
use Rattle.up_roles.specs.declared.repository.Repository.{Repository}
use Rattle.up_roles.specs.declared.repository.Repository.TheVariants.{Director, Image}
use Rattle.up_roles.specs.declared.targets.Target.{Target}
use Rattle.up_roles.specs.declared.targets.TargetsFile.{TargetsFile}
use Rattle.up_roles.specs.declared.snapshot.SnapshotFile.{SnapshotFile}
use Rattle.up_roles.specs.declared.timestamp.TimestampFile.{TimestampFile}
use Rattle.up_roles.specs.Payload.{payload, repository_text, sealed_text, version_fits, name_fits, is_moment, is_named}
use Rattle.up_roles.specs.Targets.{target_value, targets_payload, targets_text_of, target_fits, target_is_typed, targets_fits, targets_is_typed, ecus_of}
use Rattle.up_roles.specs.Snapshot.{snapshot_meta, snapshot_payload, snapshot_text_of, snapshot_fits, snapshot_is_typed}
use Rattle.up_roles.specs.Timestamp.{timestamp_meta, timestamp_payload, timestamp_text_of, timestamp_fits, timestamp_is_typed}
use Rattle.up_roles.proofs.Spelled.{vehicle_text, end_text, ecu_text, image_text, target_text, targets_text, listing_text, snapshot_meta_text, timestamp_meta_text}

-- ---- lists

joined-length : {X : Type 0} (f : X → Data) (p : X → Bool) (n : ℕ) → ((x : X) → p x ≡ true → length (text (f x)) ≤ n) → (xs : List X) → list_all p xs ≡ true
    → length (join_with_byte 44 (map (λ x. text (f x)) xs)) ≤ (n + 1) * length xs
joined-length f p n small [] h = omega arith
joined-length f p n small (x ∷ []) h =
    let q = and_parts (p x) true h in
    let here : length (text (f x)) ≤ n = small x q.0 in
    let one : (n + 1) * 1 ≡ (n + 1) * 0 + (n + 1) = mul-suc (n + 1) 0 in
    omega (arith, here, one)
joined-length f p n small (x ∷ y ∷ xs) h =
    let q = and_parts (p x) (list_all p (y ∷ xs)) h in
    let here : length (text (f x)) ≤ n = small x q.0 in
    let rest : length (join_with_byte 44 (map (λ z. text (f z)) (y ∷ xs))) ≤ (n + 1) * suc (length xs) = joined-length f p n small (y ∷ xs) q.1 in
    let sum : length (text (f x) ++ 44 ∷ join_with_byte 44 (map (λ z. text (f z)) (y ∷ xs))) ≡ length (text (f x)) + suc (length (join_with_byte 44 (map (λ z. text (f z)) (y ∷ xs)))) =
    length-append (text (f x)) (44 ∷ join_with_byte 44 (map (λ z. text (f z)) (y ∷ xs))) in
    let more : (n + 1) * suc (suc (length xs)) ≡ (n + 1) * suc (length xs) + (n + 1) = mul-suc (n + 1) (suc (length xs)) in
    omega (arith, sum, here, rest, more)

pub list-length : {X : Type 0} (f : X → Data) (p : X → Bool) (n : ℕ) → ((x : X) → p x ≡ true → length (text (f x)) ≤ n) → (xs : List X) → list_all p xs ≡ true
    → length (text (list_with (map f xs))) ≤ (n + 1) * length xs + 2
list-length f p n small xs h =
    let joined = joined-length f p n small xs h in
    let spelled = ap length (listed_text f xs) ∙ length-append (join_with_byte 44 (map (λ x. text (f x)) xs)) (93 ∷ []) in
    omega (arith, joined, spelled)

-- ---- names

ident-length : (name : Name) → is_ident name ≡ true → length (json_string name) ≤ 130
ident-length name h = json_string-length name 64 (within 1 64 (length name) (and_parts (is_from_to 1 64 (length name)) _ h).0).1

file-length : (name : Name) → is_file_name name ≡ true → length (json_string name) ≤ 258
file-length name h = json_string-length name 128 (within 1 128 (length name) (and_parts (is_from_to 1 128 (length name)) _ h).0).1

hardware-length : (names : List Name) → hardware_fits names ≡ true → list_all is_ident names ≡ true → length (text (list_with (map string names))) ≤ 2098
hardware-length names fits h =
    let few = (within 1 16 (length names) (and_parts (is_from_to 1 16 (length names)) _ fits).0).1 in
    let all = list-length string is_ident 130 ident-length names h in
    omega (arith, few, all)

ecu-length : (ecu : Option Name) → is_named ecu ≡ true → length (ecu_text ecu) ≤ 137
ecu-length None h = omega arith
ecu-length (Some name) h =
    let q = ident-length name h in
    let sum = length-append (json_string name) (codes ",") in
    let all = length-append (codes "\"ecu\":") (json_string name ++ codes ",") in
    omega (arith, q, sum, all)

-- ---- a target

hash_size : (xs : List ℕ) → (length xs == 32) ≡ true → length xs ≡ 32
hash_size xs h = grind (arith, nat_tests)

small_count : (n : ℕ) → nat_le n max_count ≡ true → n ≤ max_count
small_count n h = leb-true _ _ h

pub moment_count : (n : ℕ) → nat_le n last_moment ≡ true → n ≤ last_moment
moment_count n h = leb-true _ _ h

abbrev pub IsSmall : Repository → Target → Bool
IsSmall repository t = target_fits repository t && target_is_typed t

sum-ten : (a b c d e f g h i j : List ℕ) → length (a ++ (b ++ (c ++ (d ++ (e ++ (f ++ (g ++ (h ++ (i ++ j)))))))))
    ≡ length a + (length b + (length c + (length d + (length e + (length f + (length g + (length h + (length i + length j))))))))
sum-ten a b c d e f g h i j = simp length-append

pub target-length : (repository : Repository) (t : Target) → IsSmall repository t ≡ true → length (text (target_value t)) ≤ 2950
target-length repository t h =
    let both = and_parts (target_fits repository t) _ h in
    let fits = (and_parts (name_fits repository t.ecu) _ both.0).1 in
    let release = and_parts _ _ both.1 in
    let hardware = and_parts _ _ release.0 in
    let second = and_parts _ _ hardware.0 in
    let hash = and_parts _ _ second.0 in
    let size = and_parts _ _ hash.0 in
    let file = and_parts _ _ size.0 in
    let bytes = and_parts (length t.sha256 == 32) _ hash.1 in
    let whole : length t.sha256 ≡ 32 = hash_size t.sha256 bytes.0 in
    let long : t.length ≤ max_count = small_count t.length size.1 in
    let late : t.release ≤ max_count = small_count t.release release.1 in
    let e = ecu-length t.ecu file.0 in
    let f = file-length t.file file.1 in
    let w = hardware-length t.hardware fits hardware.1 in
    let s = hashes-length t.sha256 t.sha512 whole bytes.1 second.1 in
    let l = count-length t.length long in
    let r = count-length t.release late in
    let spelled = ap length (sym (target_text t)) ∙ length-append (codes "{" ++ ecu_text t.ecu) (image_text t) in
    let head = length-append (codes "{") (ecu_text t.ecu) in
    let sum = sum-eleven (codes "\"file\":") (json_string t.file) (codes ",\"hardware\":") (text (list_with (map string t.hardware))) (codes ",\"hashes\":") (text (hashes_value t.sha256 t.sha512))
    (codes ",\"length\":") (decimal t.length) (codes ",\"release\":") (decimal t.release) (codes "}") in
    omega (arith, e, f, w, s, l, r, spelled, head, sum)

-- ---- the payload

pub all-small : (repository : Repository) (ts : List Target) → list_all (target_fits repository) ts ≡ true → list_all target_is_typed ts ≡ true → list_all (IsSmall repository) ts ≡ true
all-small repository [] fits typed = refl
all-small repository (t ∷ ts) fits typed =
    let f = and_parts (target_fits repository t) _ fits in
    let y = and_parts (target_is_typed t) _ typed in
    rw (f.0, y.0, all-small repository ts f.1 y.1)

pub repository-length : (r : Repository) → length (json_string (repository_text r)) ≤ 10
repository-length Director = lit≤ tt
repository-length Image = lit≤ tt

vehicle-length : (vehicle : Option Name) → is_named vehicle ≡ true → length (vehicle_text vehicle) ≤ 141
vehicle-length None h = omega arith
vehicle-length (Some name) h =
    let q = ident-length name h in
    let sum = length-append (codes ",\"vehicle\":") (json_string name) in
    omega (arith, q, sum)

pub end-length : (vehicle : Option Name) (version : ℕ) → is_named vehicle ≡ true → version ≤ max_count → length (end_text vehicle version) ≤ 169
end-length vehicle version named small =
    let v = vehicle-length vehicle named in
    let n = count-length version small in
    let sum = length-append (vehicle_text vehicle) (codes ",\"version\":" ++ (decimal version ++ codes "}")) in
    let more = length-append (codes ",\"version\":") (decimal version ++ codes "}") in
    let rest = length-append (decimal version) (codes "}") in
    omega (arith, v, n, sum, more, rest)

payload-length : MomentTextIsPlain → (file : TargetsFile) → targets_fits file ≡ true → targets_is_typed file ≡ true → length file.targets ≤ 32
    → length (text (targets_payload file)) ≤ 95_000
unfolding targets_payload
payload-length law file fits typed few =
    let t = and_parts _ _ typed in
    let s = and_parts _ _ t.0 in
    let f = and_parts _ _ (and_parts _ _ fits).0 in
    let g = and_parts _ _ f.0 in
    let v = within 1 max_count file.version g.0 in
    let moment : file.expires ≤ last_moment = moment_count file.expires s.0 in
    let expires = json_string-length (moment_text file.expires) 20 (short-length 20 20 (moment_text file.expires) (law file.expires moment).0) in
    let repository = repository-length file.repository in
    let targets = list-length target_value (IsSmall file.repository) 2950 (target-length file.repository) file.targets (all-small file.repository file.targets f.1 t.1) in
    let end = end-length file.vehicle file.version s.1 v.1 in
    let spelled = ap length (sym (targets_text file.repository file.version file.expires file.vehicle file.targets)) in
    let head = length-append (codes "{\"expires\":") (json_string (moment_text file.expires)) in
    let middle = length-append (codes ",\"repository\":") (json_string (repository_text file.repository)) in
    let tail = sum-four (codes ",\"targets\":") (text (list_with (map target_value file.targets))) (codes ",\"type\":\"targets\"") (end_text file.vehicle file.version) in
    let joined = length-append (codes "{\"expires\":" ++ json_string (moment_text file.expires)) ((codes ",\"repository\":" ++ json_string (repository_text file.repository))
    ++ (codes ",\"targets\":" ++ (text (list_with (map target_value file.targets)) ++ (codes ",\"type\":\"targets\"" ++ end_text file.vehicle file.version)))) in
    let rest = length-append (codes ",\"repository\":" ++ json_string (repository_text file.repository))
    (codes ",\"targets\":" ++ (text (list_with (map target_value file.targets)) ++ (codes ",\"type\":\"targets\"" ++ end_text file.vehicle file.version))) in
    omega (arith, expires, repository, targets, end, spelled, head, middle, tail, joined, rest, few)
  where
    sum-four : (a b c d : List ℕ) → length (a ++ (b ++ (c ++ d))) ≡ length a + (length b + (length c + length d))
    sum-four a b c d = simp length-append

-- ---- the file

pub envelope-length : (e : Envelope) (n : ℕ) → envelope_fits e ≡ true → length e.signed ≤ n → length (envelope_text e) ≤ n + 20_100
unfolding envelope_text
envelope-length e n h small =
    let p = and_parts (is_from_to 1 8 (length e.signatures)) _ h in
    let few = (within 1 8 (length e.signatures) p.0).1 in
    let signatures = list-length signature_value signature_fits 2500 signature-length e.signatures p.1 in
    let sum = sum-five (codes "{\"signatures\":") (text (list_with (map signature_value e.signatures))) (codes ",\"signed\":") e.signed (codes "}") in
    omega (arith, sum, signatures, few, small)

-- at most 115,100 bytes
pub targets-length : MomentTextIsPlain → (k : Rules) (secrets : List (List ℕ)) (file : TargetsFile) → envelope_fits (sealed_envelope k secrets (text (targets_payload file))) ≡ true
    → targets_fits file ≡ true → targets_is_typed file ≡ true → length file.targets ≤ 32 → length (targets_text_of k secrets file) ≤ 115_100
unfolding targets_text_of sealed_text
targets-length law k secrets file sealed_fits fits typed few =
    envelope-length (sealed_envelope k secrets (text (targets_payload file))) 95_000 sealed_fits (payload-length law file fits typed few)

-- ---- files that list another one

-- of what is said of the other file
listing-length : MomentTextIsPlain → (kind : List ℕ) (r : Repository) (version expires : ℕ) (vehicle : Option Name) (meta : Data) → length (json_string kind) ≤ 20
    → expires ≤ last_moment → is_named vehicle ≡ true → version ≤ max_count → length (codes ",\"meta\":" ++ text meta) ≤ 400
    → length (text (payload kind r version expires vehicle ((codes "meta", meta) ∷ []))) ≤ 1000
listing-length law kind r version expires vehicle meta type moment named small said =
    let e = json_string-length (moment_text expires) 20 (short-length 20 20 (moment_text expires) (law expires moment).0) in
    let repository = repository-length r in
    let end = end-length vehicle version named small in
    let spelled = ap length (sym (listing_text kind r version expires vehicle meta)) in
    let head = length-append (codes "{\"expires\":") (json_string (moment_text expires)) in
    let middle = length-append (codes ",\"repository\":") (json_string (repository_text r)) in
    let typed = length-append (codes ",\"type\":") (json_string kind) in
    let tail = length-append (codes ",\"type\":" ++ json_string kind) (end_text vehicle version) in
    let rest = length-append (codes ",\"repository\":" ++ json_string (repository_text r)) ((codes ",\"type\":" ++ json_string kind) ++ end_text vehicle version) in
    let more = length-append (codes ",\"meta\":" ++ text meta) ((codes ",\"repository\":" ++ json_string (repository_text r)) ++ ((codes ",\"type\":" ++ json_string kind) ++ end_text vehicle version)) in
    let all = length-append (codes "{\"expires\":" ++ json_string (moment_text expires))
    ((codes ",\"meta\":" ++ text meta) ++ ((codes ",\"repository\":" ++ json_string (repository_text r)) ++ ((codes ",\"type\":" ++ json_string kind) ++ end_text vehicle version))) in
    omega (arith, e, repository, end, spelled, head, middle, typed, tail, rest, more, all, type, said)

-- at most 21,100 bytes
pub snapshot-length : MomentTextIsPlain → (k : Rules) (secrets : List (List ℕ)) (file : SnapshotFile) → envelope_fits (sealed_envelope k secrets (text (snapshot_payload file))) ≡ true
    → snapshot_fits file ≡ true → snapshot_is_typed file ≡ true → length (snapshot_text_of k secrets file) ≤ 21_100
unfolding snapshot_text_of sealed_text snapshot_payload
snapshot-length law k secrets file sealed_fits fits typed =
    let f = and_parts (version_fits file.version && name_fits file.repository file.vehicle) (version_fits file.targets_version) fits in
    let g = and_parts (version_fits file.version) (name_fits file.repository file.vehicle) f.0 in
    let t = and_parts (is_moment file.expires) (is_named file.vehicle) typed in
    let v = count-length file.targets_version (within 1 max_count file.targets_version f.1).1 in
    let said = ap length (sym (snapshot_meta_text file)) ∙ length-append (codes ",\"meta\":{\"targets.json\":{\"version\":") (decimal file.targets_version ++ codes "}}") in
    let rest = length-append (decimal file.targets_version) (codes "}}") in
    envelope-length (sealed_envelope k secrets (text (snapshot_payload file))) 1000 sealed_fits
    (listing-length law (codes "snapshot") file.repository file.version file.expires file.vehicle (snapshot_meta file) (lit≤ tt) (moment_count file.expires t.0) t.1 (within 1 max_count file.version g.0).1
    (omega (arith, v, said, rest)))

-- at most 21,100 bytes
pub timestamp-length : MomentTextIsPlain → (k : Rules) (secrets : List (List ℕ)) (file : TimestampFile) → envelope_fits (sealed_envelope k secrets (text (timestamp_payload file))) ≡ true
    → timestamp_fits file ≡ true → timestamp_is_typed file ≡ true → length (timestamp_text_of k secrets file) ≤ 21_100
unfolding timestamp_text_of sealed_text timestamp_payload
timestamp-length law k secrets file sealed_fits fits typed =
    let f = and_parts (version_fits file.version && name_fits file.repository file.vehicle) (version_fits file.snapshot_version) fits in
    let g = and_parts (version_fits file.version) (name_fits file.repository file.vehicle) f.0 in
    let h = and_parts (is_moment file.expires && is_named file.vehicle) (is_hash file.snapshot_sha256) typed in
    let t = and_parts (is_moment file.expires) (is_named file.vehicle) h.0 in
    let bytes = and_parts (length file.snapshot_sha256 == 32) (list_all (λ x. nat_lt x 256) file.snapshot_sha256) h.1 in
    let hashes = hashes-length file.snapshot_sha256 None (hash_size file.snapshot_sha256 bytes.0) bytes.1 refl in
    let v = count-length file.snapshot_version (within 1 max_count file.snapshot_version f.1).1 in
    let said = ap length (sym (timestamp_meta_text file))
    ∙ sum-nested (codes ",\"meta\":{\"snapshot.json\":{\"hashes\":") (text (hashes_value file.snapshot_sha256 None)) (codes ",\"version\":") (decimal file.snapshot_version) (codes "}}") in
    envelope-length (sealed_envelope k secrets (text (timestamp_payload file))) 1000 sealed_fits
    (listing-length law (codes "timestamp") file.repository file.version file.expires file.vehicle (timestamp_meta file) (lit≤ tt) (moment_count file.expires t.0) t.1 (within 1 max_count file.version g.0).1
    (omega (arith, v, said, hashes)))
