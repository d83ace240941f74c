-- What a payload means is within the limits of its role.
use Rattle.std.proofs.Common.{◌≡◌, ℕ, ◌*◌, ◌≤◌, List, [], ◌∷◌, ◌++◌, Bool, true, false, Option, Some, None, length, refl, ap, sym, ◌∙◌, ◌==◌, arith}
use Rattle.std.specs.Prelude.{bytes_eq, nat_lt, not, ◌&&◌, ◌||◌, codes}
use Rattle.std.specs.List.{AllByRecursion, list_all}
use Rattle.std.specs.Cmp.Lexicographic.{bytes_decides}
use Rattle.std.proofs.lemmas.Bool.Decides.{nat_tests}
use Rattle.hex.proofs.HexLemmas.{decode_of-ok}
use Rattle.serde_json.specs.Data.{Data, string, Items, no_items, item}
use Rattle.serde_json.specs.Find as json
use Rattle.up_canon.specs.Canon.{max_count}
use Rattle.up_canon.specs.Meaning.{EachMeans, MeansIfAny}
use Rattle.up_canon.specs.Moments.{last_moment}
use Rattle.up_canon.specs.Names.{Name, is_ident}
use Rattle.up_canon.proofs.ByteTests.{bytes_tested}
use Rattle.up_canon.proofs.Lists.{each_of_both}
use Rattle.up_canon.proofs.Members.{within_there}
use Rattle.up_canon.proofs.Printable.{both}
use Rattle.up_canon.proofs.Steps.{one_value}
use Rattle.up_roles.specs.Laws.{MeantRootsFit, MeantTargetsFit, MeantSnapshotsFit, MeantTimestampsFit}
use Rattle.up_roles.specs.Meaning.{HasPositive, HasName, HasHash, HasSha512, MeansIdent, MeansTarget, ShowsKey}
use Rattle.up_canon.specs.HexText.{is_second_hash}
use Rattle.up_roles.specs.Payload.{version_fits, name_fits, is_named, is_moment}
use Rattle.up_roles.specs.Root.{agree, keys_agree}
use Rattle.up_roles.specs.Targets.{target_fits, target_is_typed}
use Rattle.up_roles.specs.declared.repository.Repository.{Repository}
use Rattle.up_roles.specs.declared.repository.Repository.TheVariants.{Director, Image}
use Rattle.up_roles.specs.declared.root.RootKey.{RootKey}
use Rattle.up_roles.specs.declared.targets.Target.{Target}
use Rattle.up_roles.proofs.PlainFiles.{target_typed}

-- ---- parts

version_fitting : (d : Data) (name : List ℕ) (n : ℕ) → HasPositive d name n → version_fits n ≡ true
version_fitting d name n h = within_there 1 max_count n h.1 h.0.1

moment_fitting : (m : ℕ) → m ≤ last_moment → is_moment m ≡ true
moment_fitting m le = grind (arith, nat_tests)

name_fitting : (r : Repository) (d : Data) (name : List ℕ) (o : Option Name) → HasName r d name o → (name_fits r o ≡ true) × (is_named o ≡ true)
name_fitting Director d name (Some t) h = (refl, h.1)
name_fitting Director d name None h = absurd h
name_fitting Image d name (Some t) h = absurd h
name_fitting Image d name None h = (refl, refl)

hash_fitting : (size : ℕ) (name : List ℕ) (d : Data) (hash : List ℕ) → HasHash (2 * size) name d hash → ((length hash == size) && list_all (λ x. nat_lt x 256) hash) ≡ true
hash_fitting size name d hash h =
    let ok = decode_of-ok h.spelled.digits hash h.spelled.decoded in
    let twice = ok.2 in
    let low = h.spelled.at_least in
    let high = h.spelled.at_most in
    let whole : length hash ≡ size = omega arith in
    let test : (length hash == size) ≡ true = grind (arith, nat_tests) in
    both _ _ test (bytes_tested hash ok.3)

second_fitting : (d : Data) (o : Option (List ℕ)) → MeansIfAny (HasSha512 d) o → is_second_hash o ≡ true
second_fitting d None h = refl
second_fitting d (Some hash) h = hash_fitting 64 (codes "sha512") d hash h

-- ---- Snapshot and Timestamp

pub snapshots_fit : MeantSnapshotsFit
snapshots_fit d file h =
    let name = name_fitting file.repository d (codes "vehicle") file.vehicle h.listing.vehicle in (
      both _ _ (both _ _ (version_fitting d (codes "version") file.version h.listing.head.has_version) name.0) (version_fitting h.entry (codes "version") file.targets_version h.targets_version),
      both _ _ (moment_fitting file.expires h.listing.head.in_time) name.1,
    )

pub timestamps_fit : MeantTimestampsFit
timestamps_fit d file h =
    let name = name_fitting file.repository d (codes "vehicle") file.vehicle h.listing.vehicle in (
      both _ _ (both _ _ (version_fitting d (codes "version") file.version h.listing.head.has_version) name.0) (version_fitting h.entry (codes "version") file.snapshot_version h.snapshot_version),
      both _ _ (both _ _ (moment_fitting file.expires h.listing.head.in_time) name.1) (hash_fitting 32 (codes "sha256") h.entry file.snapshot_sha256 h.snapshot_sha256),
    )

-- ---- Targets

kinds_fit : (ds : Items) (names : List Name) → EachMeans MeansIdent ds names → list_all is_ident names ≡ true
kinds_fit no_items [] h = refl
kinds_fit no_items (t ∷ ts) h = absurd h
kinds_fit (item d ds) [] h = absurd h
kinds_fit (item d ds) (t ∷ ts) h = both _ _ h.0.1 (kinds_fit ds ts h.1)

target_fitting : (r : Repository) (d : Data) (target : Target) → MeansTarget r d target → (target_fits r target ≡ true) × (target_is_typed target ≡ true)
target_fitting r d target h =
    let name = name_fitting r d (codes "ecu") target.ecu h.ecu in (
      both _ _ name.0 h.some_distinct,
      target_typed target name.1 h.file_fits h.size.1 (hash_fitting 32 (codes "sha256") d target.sha256 h.sha256) (second_fitting d target.sha512 h.sha512) (kinds_fit h.kinds target.hardware h.hardware) h.release.1,
    )

targets_fitting : (r : Repository) (ds : Items) (targets : List Target) → EachMeans (MeansTarget r) ds targets → (list_all (target_fits r) targets ≡ true) × (list_all target_is_typed targets ≡ true)
targets_fitting r no_items [] h = (refl, refl)
targets_fitting r no_items (t ∷ ts) h = absurd h
targets_fitting r (item d ds) [] h = absurd h
targets_fitting r (item d ds) (t ∷ ts) h =
    let first = target_fitting r d t h.0 in
    let rest = targets_fitting r ds ts h.1 in
    (both _ _ first.0 rest.0, both _ _ first.1 rest.1)

pub targets_fit : MeantTargetsFit
targets_fit d file h =
    let name = name_fitting file.repository d (codes "vehicle") file.vehicle h.vehicle in
    let targets = targets_fitting file.repository h.listed file.targets h.targets in (
      both _ _ (both _ _ (both _ _ (version_fitting d (codes "version") file.version h.head.has_version) name.0) targets.0) h.distinct,
      both _ _ (both _ _ (moment_fitting file.expires h.head.in_time) name.1) targets.1,
    )

-- ---- Root

one_text : (s t : List ℕ) → string s ≡ string t → bytes_eq s t ≡ true
one_text s t h = let same : s ≡ t = cc in (bytes_decides s t).1 same

-- the member of one name shows one key
two_agree : (keys : Data) (x y : RootKey) → ShowsKey keys x → ShowsKey keys y → agree x y ≡ true
two_agree keys x y h k = by_test (bytes_eq x.keyid y.keyid) refl
  where
    by_test : (b : Bool) → bytes_eq x.keyid y.keyid ≡ b → (not b || (bytes_eq x.method y.method && bytes_eq x.shown y.shown)) ≡ true
    by_test false is = refl
    by_test true is =
        let id : x.keyid ≡ y.keyid = (bytes_decides x.keyid y.keyid).0 is in
        let first : json.get y.keyid keys ≡ Some h.shown = ap (λ i. json.get i keys) (sym id) ∙ h.has_key.1 ∙ ap Some (sym h.has_key.2) in
        let second : json.get y.keyid keys ≡ Some k.shown = k.has_key.1 ∙ ap Some (sym k.has_key.2) in
        let shown : h.shown ≡ k.shown = one_value _ h.shown k.shown first second in
        let method = one_value _ (string x.method) (string y.method) (ap (json.get (codes "method")) (sym shown) ∙ h.method) k.method in
        let public = one_value _ (string x.shown) (string y.shown) (ap (json.get (codes "public")) (sym shown) ∙ h.public) k.public in
        both _ _ (one_text x.method y.method method) (one_text x.shown y.shown public)

one_agrees : (keys : Data) (x : RootKey) (ys : List RootKey) → ShowsKey keys x → AllByRecursion (ShowsKey keys) ys → list_all (agree x) ys ≡ true
one_agrees keys x [] h all = refl
one_agrees keys x (y ∷ ys) h all = both _ _ (two_agree keys x y h all.0) (one_agrees keys x ys h all.1)

all_agree : (keys : Data) (xs : List RootKey) → AllByRecursion (ShowsKey keys) xs → keys_agree xs ≡ true
all_agree keys [] h = refl
all_agree keys (x ∷ xs) h = both _ _ (one_agrees keys x xs h.0 h.1) (all_agree keys xs h.1)

pub roots_fit : MeantRootsFit
roots_fit d file h =
    let P = ShowsKey h.keys in (
      both _ _ (both _ _ (both _ _ (both _ _ (version_fitting d (codes "version") file.version h.head.has_version) h.root.fits) h.targets.fits) h.snapshot.fits) h.timestamp.fits,
      moment_fitting file.expires h.head.in_time,
      all_agree h.keys _ (each_of_both P (file.root.keys ++ file.targets.keys ++ file.snapshot.keys) file.timestamp.keys
          (each_of_both P (file.root.keys ++ file.targets.keys) file.snapshot.keys (each_of_both P file.root.keys file.targets.keys h.root.shown h.targets.shown) h.snapshot.shown) h.timestamp.shown),
    )
