-- A state that was read is whole, and what is trusted behind whatever is served makes another.
use Rattle.std.proofs.Common.{◌≡◌, ℕ, ◌+◌, ◌-◌, ◌≤◌, suc, List, [], ◌∷◌, Bool, true, false, Option, Some, None, Result, Ok, Err, ◌⊎◌, inl, inr, length, refl, sym, ap, ◌∙◌, subst, arith}
use Rattle.std.specs.Prelude.{codes, if◌then◌else◌, nat_le, nat_lt, slice_get, IfOk, MatchResult, String, string_bytes}
use Rattle.std.specs.Global.{Global}
use Rattle.std.specs.List.{list_all}
use Rattle.std.proofs.lemmas.Bool.{eqb-true}
use Rattle.std.proofs.lemmas.Bool.Decides.{nat_tests}
use Rattle.hex.specs.Hex.{decode_of}
use Rattle.hex.proofs.HexLemmas.{decode_of-ok}
use Rattle.serde_json.specs.Data.{Data}
use Rattle.up_canon.specs.Canon.{max_count}
use Rattle.up_canon.specs.HexText.{hex_of}
use Rattle.up_canon.specs.Members.{text_in}
use Rattle.up_canon.specs.Names.{Name, is_from_to, is_ident}
use Rattle.up_canon.specs.Readers.{ident_of}
use Rattle.up_canon.specs.Steps.{◌>>=◌, each}
use Rattle.up_canon.specs.declared.refusal.Refusal.{Refusal}
use Rattle.up_canon.proofs.ByteTests.{bytes_tested}
use Rattle.up_canon.proofs.Members.{count_read, ident_read, fits_read, within, within_there}
use Rattle.up_canon.proofs.Printable.{both}
use Rattle.up_canon.proofs.Steps.{first_ok, same_ok, unless_ok, or_error_ok, value_of_some}
use Rattle.up_sign.specs.Laws.{IsTextFault}
use Rattle.up_sign.specs.declared.envelope.Envelope.{Envelope}
use Rattle.up_roles.specs.Laws.{MeanOneOrFail, MeaningLaws}
use Rattle.up_roles.specs.Meaning.{MeansFile, MeansSnapshot, MeansTargets, MeansTimestamp}
use Rattle.up_roles.specs.Root.{root_in}
use Rattle.up_roles.specs.Snapshot.{snapshot_in}
use Rattle.up_roles.specs.Targets.{targets_in}
use Rattle.up_roles.specs.Timestamp.{timestamp_in}
use Rattle.up_roles.specs.declared.repository.Repository.{Repository}
use Rattle.up_roles.specs.declared.repository.Repository.TheVariants.{Director, Image}
use Rattle.up_roles.specs.declared.root.RootFile.{RootFile}
use Rattle.up_roles.specs.declared.snapshot.SnapshotFile.{SnapshotFile}
use Rattle.up_roles.specs.declared.targets.Target.{Target}
use Rattle.up_roles.specs.declared.targets.TargetsFile.{TargetsFile}
use Rattle.up_roles.specs.declared.timestamp.TimestampFile.{TimestampFile}
use Rattle.up_metadata.specs.declared.role_files.RoleTexts.{RoleTexts}
use Rattle.up_verify.specs.declared.asked.Asked.{Asked}
use Rattle.up_verify.specs.declared.refused.Fault.{Fault}
use Rattle.up_verify.specs.declared.refused.Fault.TheVariants.{Expired}
use Rattle.up_verify.specs.declared.refused.Refused.{Refused}
use Rattle.up_verify.specs.declared.refused.Role.{Role}
use Rattle.up_verify.specs.declared.refused.Role.TheVariants.{Root as RootRole}
use Rattle.up_verify.specs.declared.served.Accepted.{Accepted}
use Rattle.up_verify.specs.declared.served.Checked.{Checked}
use Rattle.up_verify.specs.declared.served.Reply.{Reply}
use Rattle.up_verify.specs.declared.served.Served.{Served}
use Rattle.up_verify.specs.declared.trust.OwnEcu.{OwnEcu}
use Rattle.up_verify.specs.declared.trust.Primary.{Primary}
use Rattle.up_verify.specs.declared.trust.Trust.{Trust}
use Rattle.up_verify.specs.declared.trust.Versions.{Versions}
use Rattle.up_verify.specs.Files.{of_file, check_timestamp, check_snapshot, check_targets, check_files}
use Rattle.up_verify.specs.Roots.{same_keys, same_listing_keys, kept_if, with_root, or_unread, if_next, next_root, go_on, follow, unless_expired, latest}
use Rattle.up_verify.specs.Verifiers.{Verifier}
use Rattle.up_verify.specs.Verify.{check_reply, director_now, trusting, check_installs, verify, after}
use Rattle.up_primary_files.specs.declared.judged.Judged.{Judged}
use Rattle.up_primary_files.specs.declared.round.Outcome.{Outcome}
use Rattle.up_primary_files.specs.declared.state.Both.{Both}
use Rattle.up_primary_files.specs.declared.state.Kept.{Kept}
use Rattle.up_primary_files.specs.declared.state.Own.{Own}
use Rattle.up_primary_files.specs.declared.state.RootTexts.{RootTexts}
use Rattle.up_primary_files.specs.declared.state.State.{State}
use Rattle.up_primary_files.specs.States.{versions_of, root_of, trust_of, both_of, ecu_in, ecu_of, ecus_of, replaced_of, own_of, primary_of, held_of, texts_of, kept_of, state_behind, state_of, state_in}
use Rattle.up_primary_files.specs.Rounds.{IsVerified}
use Rattle.up_primary_files.specs.Verdicts.{IsJudged, verifier_by}
use Rattle.up_primary_files.specs.Written.{root_text, state_then, IsTold, ecu_fits, held_fits, IsWhole}

-- ---- a state that was read

trust_told : (d : Data) (text : List ℕ) (t : Trust) → text_in (codes "root") d ≡ Ok text → trust_of d ≡ Ok t → IsTold text t
unfolding trust_of versions_of root_of
trust_told d text t is h = first_ok _ _ _ _ h (λ v versions h. first_ok _ _ _ _ h (λ root told h. subst (IsTold text) (same_ok _ _ h)
    (first_ok _ _ _ _ told (λ own has told. first_ok _ _ _ _ told (λ file reads told.
    first_ok _ _ _ _ versions (λ a first versions. first_ok _ _ _ _ versions (λ b second versions. first_ok _ _ _ _ versions (λ c third versions.
    let same : own ≡ text = same_ok _ _ (sym has ∙ is) in
    let root_is : file.0 ≡ root = same_ok _ _ told in
    subst (λ (v : Versions). IsTold text (record { root = root; versions = v })) (same_ok _ _ versions) (record {
      envelope = file.1;
      read = ap root_in (sym same) ∙ reads ∙ ap (λ (r : RootFile). Ok (r, file.1)) root_is;
      timestamp = (count_read (codes "timestamp") d a first).1;
      snapshot = (count_read (codes "snapshot") d b second).1;
      targets = (count_read (codes "targets") d c third).1;
    })))))))))

all_read : {A : Type 0} (step : Data → Result A Refusal) (p : A → Bool) → ((d : Data) (x : A) → step d ≡ Ok x → p x ≡ true) → (ds : List Data) (xs : List A) → each step ds ≡ Ok xs → list_all p xs ≡ true
unfolding each
all_read step p one [] xs h = ap (list_all p) (sym (same_ok _ _ h))
all_read step p one (d ∷ ds) xs h = first_ok _ _ _ _ h (λ y first h. first_ok _ _ _ _ h (λ ys rest h. ap (list_all p) (sym (same_ok _ _ h)) ∙ both _ _ (one d y first) (all_read step p one ds ys rest)))

ecu_read : (place : List ℕ) (d : Data) (own : OwnEcu) → ecu_of place d ≡ Ok own → ecu_fits own ≡ true
unfolding ecu_of ecu_in
ecu_read place d own h = first_ok _ _ _ _ h (λ map is h. first_ok _ _ _ _ h (λ ecu named h. first_ok _ _ _ _ h (λ hardware fit h. first_ok _ _ _ _ h (λ release count h.
    let small = (count_read (codes "release") map release count).1 in
    let test : nat_le release max_count ≡ true = grind (arith, nat_tests) in
    ap ecu_fits (sym (same_ok _ _ h)) ∙ both _ _ (both _ _ (ident_read (codes "ecu") map ecu named).1 (ident_read (codes "hardware") map hardware fit).1) test))))

name_read : (place : List ℕ) (d : Data) (name : Name) → ident_of place d ≡ Ok name → is_ident name ≡ true
unfolding ident_of
name_read place d name h = first_ok _ _ _ _ h (λ text is h. (fits_read is_ident place text name h).0)

held_read : (place : List ℕ) (d : Data) (public : List ℕ) → hex_of 2 128 place d ≡ Ok public → held_fits public ≡ true
unfolding hex_of
held_read place d public h = first_ok _ _ _ _ h (λ text is h. first_ok _ _ _ _ h (λ digits fits h.
    let size = within 2 128 (length digits) (fits_read (λ t. is_from_to 2 128 (length t)) place text digits fits).0 in
    let decoded : decode_of digits ≡ Ok public = value_of_some _ public (or_error_ok _ _ public h) in
    let is = decode_of-ok digits public decoded in
    let twice = is.2 in
    let low = size.0 in
    let high = size.1 in
    both _ _ (within_there 1 64 (length public) (omega (arith, twice, low)) (omega (arith, twice, high))) (bytes_tested public is.3)))

abbrev OwnFits : Own → Type 0
OwnFits own = (is_ident own.vehicle ≡ true) × (list_all ecu_fits own.ecus ≡ true) × (list_all is_ident own.replaced ≡ true)

own_read : (map : Data) (own : Own) → own_of map ≡ Ok own → OwnFits own
unfolding own_of ecus_of replaced_of
own_read map own h = first_ok _ _ _ _ h (λ vehicle v h. first_ok _ _ _ _ h (λ ecus e h. first_ok _ _ _ _ h (λ replaced r h.
    first_ok _ _ _ _ e (λ some a e. first_ok _ _ _ _ r (λ others b r.
    subst OwnFits (same_ok _ _ h) (
      (ident_read (codes "vehicle") map vehicle v).1,
      all_read (ecu_of (codes "ecus")) ecu_fits (ecu_read (codes "ecus")) some ecus e,
      all_read (ident_of (codes "replaced")) is_ident (name_read (codes "replaced")) others replaced r,
    ))))))

abbrev BothTold : List ℕ → List ℕ → Both → Type 0
BothTold first second both = IsTold first both.director × IsTold second both.image

both_read : (director image : Data) (first second : List ℕ) (both : Both) → text_in (codes "root") director ≡ Ok first → text_in (codes "root") image ≡ Ok second → both_of director image ≡ Ok both → BothTold first second both
unfolding both_of
both_read director image first second both d_text i_text h = first_ok _ _ _ _ h (λ d of_director h. first_ok _ _ _ _ h (λ i of_image h.
    subst (BothTold first second) (same_ok _ _ h) (trust_told director first d d_text of_director, trust_told image second i i_text of_image)))

record Fits (first second : List ℕ) (p : Primary) : Type 0 where
  vehicle : is_ident p.vehicle ≡ true
  ecus : list_all ecu_fits p.ecus ≡ true
  replaced : list_all is_ident p.replaced ≡ true
  director : IsTold first p.director
  image : IsTold second p.image

primary_read : (map director image : Data) (first second : List ℕ) (p : Primary) → text_in (codes "root") director ≡ Ok first → text_in (codes "root") image ≡ Ok second → primary_of map director image ≡ Ok p → Fits first second p
unfolding primary_of
primary_read map director image first second p d_text i_text h = first_ok _ _ _ _ h (λ own of_own h. first_ok _ _ _ _ h (λ both of_both h.
    let o = own_read map own of_own in
    let b = both_read director image first second both d_text i_text of_both in
    subst (Fits first second) (same_ok _ _ h) (record { vehicle = o.0; ecus = o.1; replaced = o.2; director = b.0; image = b.1 })))

abbrev KeptFits : Data → Data → Kept → Type 0
KeptFits director image kept = (text_in (codes "root") director ≡ Ok kept.roots.director) × (text_in (codes "root") image ≡ Ok kept.roots.image) × (list_all held_fits kept.held ≡ true)

kept_read : (map director image : Data) (kept : Kept) → kept_of map director image ≡ Ok kept → KeptFits director image kept
unfolding kept_of texts_of held_of
kept_read map director image kept h = first_ok _ _ _ _ h (λ roots texts h. first_ok _ _ _ _ h (λ held of h. first_ok _ _ _ _ of (λ listed a of.
    subst (KeptFits director image) (same_ok _ _ h) (
    first_ok _ _ _ _ texts (λ first b texts. first_ok _ _ _ _ texts (λ second c texts.
    subst (λ (r : RootTexts). KeptFits director image (record { held = held; roots = r })) (same_ok _ _ texts)
    (b, c, all_read (hex_of 2 128 (codes "held")) held_fits (held_read (codes "held")) listed held of)))))))

pub whole_read : (text : List ℕ) (s : State) → state_in text ≡ Ok s → IsWhole s
unfolding state_in state_of state_behind
whole_read text s h = first_ok _ _ _ _ h (λ d a h. first_ok _ _ _ _ h (λ map b h. first_ok _ _ _ _ h (λ director c h. first_ok _ _ _ _ h (λ image e h. first_ok _ _ _ _ h (λ method f h. first_ok _ _ _ _ h (λ p of_p h. first_ok _ _ _ _ h (λ kept k h.
    let t = kept_read map director image kept k in
    let fits = primary_read map director image kept.roots.director kept.roots.image p t.0 t.1 of_p in
    subst IsWhole (same_ok _ _ h) (record { vehicle = fits.vehicle; ecus = fits.ecus; replaced = fits.replaced; held = t.2; director = fits.director; image = fits.image }))))))))

-- ---- the Root that is trusted behind others, and its text

-- it is the one before, or one of those that came
abbrev Reached : ℕ → List (List ℕ) → RootFile → RootFile → Type 0
Reached first texts before root = (root ≡ before) ⊎ ((place : ℕ) × (bytes : List ℕ) × (envelope : Envelope) × (slice_get texts place ≡ Some bytes) × (root.version ≡ first + 1 + place) × (root_in bytes ≡ Ok (root, envelope)))

next_read : (v : Verifier) (repository : Repository) (before root : RootFile) (bytes : List ℕ) → next_root v repository before bytes ≡ Ok root → (envelope : Envelope) × (root_in bytes ≡ Ok (root, envelope)) × (root.version ≡ before.version + 1)
unfolding next_root if_next
next_read v repository before root bytes h = first_ok _ _ _ _ h (λ read is h. first_ok _ _ _ _ h (λ a other h. first_ok _ _ _ _ h (λ b number h. first_ok _ _ _ _ h (λ c known h. first_ok _ _ _ _ h (λ d signed h. first_ok _ _ _ _ h (λ e own h.
    subst (λ (root : RootFile). (envelope : Envelope) × (root_in bytes ≡ Ok (root, envelope)) × (root.version ≡ before.version + 1)) (same_ok _ _ h)
    (read.1, unread (root_in bytes) read is, eqb-true read.0.version (before.version + 1) (unless_ok _ _ b number))))))))
  where
    unread : (r : Result (RootFile × Envelope) Refusal) (p : RootFile × Envelope) → or_unread r ≡ Ok p → r ≡ Ok p
    unread (Ok q) p h = let same : q ≡ p = same_ok q p h in ap Ok same
    unread (Err e) p h = cc

pub reached : (v : Verifier) (repository : Repository) (texts : List (List ℕ)) (t : Trust) → Reached t.root.version texts t.root (follow v repository t texts).trust.root
reached v repository [] t = inl refl
reached v repository (bytes ∷ more) t = by_next (next_root v repository t.root bytes) refl (λ root. reached v repository more (with_root t root))
  where
    behind : (root : RootFile) → next_root v repository t.root bytes ≡ Ok root → (last : RootFile) → Reached root.version more root last → Reached t.root.version (bytes ∷ more) t.root last
    behind root h last is =
        let r = next_read v repository t.root root bytes h in
        let number = r.2 in
        elim is [
          | inl same ↦ inr (0, bytes, r.0, refl, ap (λ (x : RootFile). x.version) same ∙ omega (arith, number), r.1 ∙ ap (λ (x : RootFile). Ok (x, r.0)) (sym same))
          | inr more ↦
              let far = more.4 in
              inr (suc more.0, more.1, more.2, more.3, omega (arith, number, far), more.5)
        ]

    by_next : (r : Result RootFile Fault) → next_root v repository t.root bytes ≡ r → ((root : RootFile) → Reached root.version more root (follow v repository (with_root t root) more).trust.root)
        → Reached t.root.version (bytes ∷ more) t.root (go_on t r (λ root. follow v repository (with_root t root) more)).trust.root
    by_next (Err fault) h further = inl refl
    by_next (Ok root) h further = behind root h (follow v repository (with_root t root) more).trust.root (further root)

-- so its text is read as it
text_told : (before : List ℕ) (texts : List (List ℕ)) (t next : Trust) → IsTold before t → Reached t.root.version texts t.root next.root → next.versions.timestamp ≤ max_count → next.versions.snapshot ≤ max_count → next.versions.targets ≤ max_count
    → IsTold (root_text before t.root.version texts next.root.version) next
text_told before texts t next told is a b c = elim is [
  | inl same ↦
      let low : next.root.version ≤ t.root.version = let level = ap (λ (x : RootFile). x.version) same in omega (arith, level) in
      let test : nat_le next.root.version t.root.version ≡ true = grind (arith, nat_tests) in
      record { envelope = told.envelope; read = rw test (told.read ∙ ap (λ (x : RootFile). Ok (x, told.envelope)) (sym same)); timestamp = a; snapshot = b; targets = c }
  | inr more ↦
      let far = more.4 in
      let test : nat_le next.root.version t.root.version ≡ false = grind (arith, nat_tests) in
      let place : next.root.version - t.root.version - 1 ≡ more.0 = omega (arith, far) in
      record { envelope = more.2; read = rw (test, place, more.3) more.5; timestamp = a; snapshot = b; targets = c }
]

-- ---- versions that were read are counts

abbrev AreCounts : Versions → Type 0
AreCounts versions = (versions.timestamp ≤ max_count) × (versions.snapshot ≤ max_count) × (versions.targets ≤ max_count)

kept_counts : (t : Trust) (root : RootFile) → AreCounts t.versions → AreCounts (with_root t root).versions
kept_counts t root h = (
  within_count (same_listing_keys t.root root) t.versions.timestamp h.0,
  within_count (same_listing_keys t.root root) t.versions.snapshot h.1,
  within_count (same_keys t.root.targets root.targets) t.versions.targets h.2,
)
  where
    within_count : (b : Bool) (n : ℕ) → n ≤ max_count → kept_if b n ≤ max_count
    within_count true n h = h
    within_count false n h = omega arith

followed_counts : (v : Verifier) (repository : Repository) (texts : List (List ℕ)) (t : Trust) → AreCounts t.versions → AreCounts (follow v repository t texts).trust.versions
followed_counts v repository [] t h = h
followed_counts v repository (bytes ∷ more) t h = by_next (next_root v repository t.root bytes) (λ root. followed_counts v repository more (with_root t root) (kept_counts t root h))
  where
    by_next : (r : Result RootFile Fault) → ((root : RootFile) → AreCounts (follow v repository (with_root t root) more).trust.versions)
        → AreCounts (go_on t r (λ root. follow v repository (with_root t root) more)).trust.versions
    by_next (Err fault) further = h
    by_next (Ok root) further = further root

means : {F : Type 0} (M : Data → F → Type 0) (reading : List ℕ → Result (F × Envelope) Refusal) → MeanOneOrFail M reading → (bytes : List ℕ) (p : F × Envelope) → or_unread (reading bytes) ≡ Ok p → (payload : Data) × M payload p.0
means {F = F} M reading law bytes p h = by_reading (reading bytes) (law bytes) h
  where
    by_reading : (r : Result (F × Envelope) Refusal) → MatchResult r (λ p. MeansFile M bytes p.0 p.1 × ((file : F) (e : Envelope) → MeansFile M bytes file e → (file ≡ p.0) × (e ≡ p.1)))
        (λ fault. IsTextFault fault × ((file : F) (e : Envelope) → MeansFile M bytes file e → ⊥)) → or_unread r ≡ Ok p → (payload : Data) × M payload p.0
    by_reading (Ok q) is h = subst (λ (x : F × Envelope). (payload : Data) × M payload x.0) (same_ok _ _ h) (is.0.payload, is.0.means)
    by_reading (Err e) is h = cc

timestamp_count : MeaningLaws → (v : Verifier) (asked : Asked) (t : Trust) (bytes : List ℕ) (file : TimestampFile) → check_timestamp v asked t bytes ≡ Ok file → file.version ≤ max_count
unfolding check_timestamp
timestamp_count laws v asked t bytes file h = first_ok _ _ _ _ h (λ p a h. first_ok _ _ _ _ h (λ b c h.
    subst (λ (x : TimestampFile). x.version ≤ max_count) (same_ok _ _ h) (means MeansTimestamp timestamp_in laws.timestamp bytes p a).1.listing.head.has_version.0.1))

snapshot_count : MeaningLaws → (v : Verifier) (asked : Asked) (t : Trust) (timestamp : TimestampFile) (bytes : List ℕ) (file : SnapshotFile) → check_snapshot v asked t timestamp bytes ≡ Ok file → file.version ≤ max_count
unfolding check_snapshot
snapshot_count laws v asked t timestamp bytes file h = first_ok _ _ _ _ h (λ p a h. first_ok _ _ _ _ h (λ b named h. first_ok _ _ _ _ h (λ c d h.
    subst (λ (x : SnapshotFile). x.version ≤ max_count) (same_ok _ _ h) (means MeansSnapshot snapshot_in laws.snapshot bytes p a).1.listing.head.has_version.0.1)))

targets_count : MeaningLaws → (v : Verifier) (asked : Asked) (t : Trust) (snapshot : SnapshotFile) (bytes : List ℕ) (file : TargetsFile) → check_targets v asked t snapshot bytes ≡ Ok file → file.version ≤ max_count
unfolding check_targets
targets_count laws v asked t snapshot bytes file h = first_ok _ _ _ _ h (λ p a h. first_ok _ _ _ _ h (λ b named h. first_ok _ _ _ _ h (λ c d h.
    subst (λ (x : TargetsFile). x.version ≤ max_count) (same_ok _ _ h) (means MeansTargets targets_in laws.targets bytes p a).1.head.has_version.0.1)))

of_file_ok : {A : Type 0} (repository : Repository) (role : Role) (r : Result A Fault) (x : A) → of_file repository role r ≡ Ok x → r ≡ Ok x
of_file_ok repository role (Ok y) x h = let same : y ≡ x = same_ok y x h in ap Ok same
of_file_ok repository role (Err fault) x h = cc

files_counts : MeaningLaws → (v : Verifier) (asked : Asked) (t : Trust) (texts : RoleTexts) (checked : Checked) → check_files v asked t texts ≡ Ok checked → AreCounts checked.versions
unfolding check_files
files_counts laws v asked t texts checked h = first_ok _ _ _ _ h (λ timestamp a h. first_ok _ _ _ _ h (λ snapshot b h. first_ok _ _ _ _ h (λ targets c h.
    subst (λ (x : Checked). AreCounts x.versions) (same_ok _ _ h) (
      timestamp_count laws v asked t texts.timestamp timestamp (of_file_ok asked.repository _ (check_timestamp v asked t texts.timestamp) timestamp a),
      snapshot_count laws v asked t timestamp texts.snapshot snapshot (of_file_ok asked.repository _ (check_snapshot v asked t timestamp texts.snapshot) snapshot b),
      targets_count laws v asked t snapshot texts.targets targets (of_file_ok asked.repository _ (check_targets v asked t snapshot texts.targets) targets c),
    ))))

reply_counts : MeaningLaws → (v : Verifier) (now : ℕ) (vehicle : Name) (t : Trust) (reply : Reply) (checked : Checked) → check_reply v now vehicle t reply ≡ Ok checked → AreCounts checked.versions
unfolding check_reply
reply_counts laws v now vehicle t reply checked h = first_ok _ _ _ _ h (λ a wrong h. first_ok _ _ _ _ h (λ b unknown h. first_ok _ _ _ _ h (λ c old h. first_ok _ _ _ _ h (λ it is h. first_ok _ _ _ _ h (λ d mixed h.
    subst (λ (x : Checked). AreCounts x.versions) (same_ok _ _ h) (files_counts laws v (record { repository = Director; vehicle = Some vehicle; moment = now }) t reply.files it is))))))

-- ---- what is trusted then

latest_is : (now : ℕ) (t x : Trust) (fault : Option Fault) → unless_expired now t fault ≡ Ok x → t ≡ x
latest_is now t x (Some fault) h = cc
latest_is now t x None h = by_test (nat_lt now t.root.expires) h
  where
    by_test : (b : Bool) → ◌≡◌ {A = Result Trust Fault} (if b then Ok t else Err Expired) (Ok x) → t ≡ x
    by_test true h = same_ok _ _ h
    by_test false h = cc

-- a Root that was reached from this one by these texts, and versions that are counts
record Follows (texts : List (List ℕ)) (t next : Trust) : Type 0 where
  root : Reached t.root.version texts t.root next.root
  counts : AreCounts next.versions

-- the vehicle's own is as it was
record Goes (p : Primary) (served : Served) (next : Primary) : Type 0 where
  vehicle : next.vehicle ≡ p.vehicle
  ecus : next.ecus ≡ p.ecus
  replaced : next.replaced ≡ p.replaced
  director : Follows served.director_roots p.director next.director
  image : Follows served.image_roots p.image next.image

-- what was verified under the latest Root
verified : (v : Verifier) (repository : Repository) (now : ℕ) (t last : Trust) (texts : List (List ℕ)) (checked : Checked)
    → of_file repository RootRole (latest now (follow v repository t texts)) ≡ Ok last → AreCounts checked.versions → Follows texts t (trusting last checked)
verified v repository now t last texts checked h counts =
    let f = follow v repository t texts in
    let same : f.trust ≡ last = latest_is now f.trust last f.fault (of_file_ok repository _ (latest now f) last h) in
    record { root = subst (λ (x : Trust). Reached t.root.version texts t.root x.root) same (reached v repository texts t); counts = counts }

installed : MeaningLaws → (v : Verifier) (now : ℕ) (p : Primary) (served : Served) (director : Trust) (targets : TargetsFile) (ts : List Target) (result : Accepted) → AreCounts p.image.versions
    → Follows served.director_roots p.director director → check_installs v now p served director targets ts ≡ Ok result → Goes p served result.next
unfolding check_installs
installed laws v now p served director targets [] result counts d h =
    subst (λ (x : Accepted). Goes p served x.next) (same_ok _ _ h) (record { vehicle = refl; ecus = refl; replaced = refl; director = d; image = record { root = inl refl; counts = counts } })
installed laws v now p served director targets (t ∷ ts) result counts d h = first_ok _ _ _ _ h (λ image last h. first_ok _ _ _ _ h (λ checked files h. first_ok _ _ _ _ h (λ installs each_is h.
    subst (λ (x : Accepted). Goes p served x.next) (same_ok _ _ h) (record {
      vehicle = refl;
      ecus = refl;
      replaced = refl;
      director = d;
      image = verified v Image now p.image image served.image_roots checked last (files_counts laws v (record { repository = Image; vehicle = None; moment = now }) image served.image checked files);
    }))))

goes : MeaningLaws → (v : Verifier) (now : ℕ) (p : Primary) (served : Served) → AreCounts p.director.versions → AreCounts p.image.versions → Goes p served (after v p served (verify v now p served))
unfolding verify
goes laws v now p served of_director of_image = by_result (director_now v now p served >>= (λ director. check_reply v now p.vehicle director served.reply >>= (λ checked. check_installs v now p served (trusting director checked) checked.targets checked.targets.targets))) refl
  where
    by_result : (r : Result Accepted Refused) → (director_now v now p served >>= (λ director. check_reply v now p.vehicle director served.reply >>= (λ checked. check_installs v now p served (trusting director checked) checked.targets checked.targets.targets))) ≡ r
        → Goes p served (after v p served r)
    by_result (Err refused) h = record {
      vehicle = refl;
      ecus = refl;
      replaced = refl;
      director = record { root = reached v Director served.director_roots p.director; counts = followed_counts v Director served.director_roots p.director of_director };
      image = record { root = reached v Image served.image_roots p.image; counts = followed_counts v Image served.image_roots p.image of_image };
    }
    by_result (Ok result) h = first_ok _ _ _ _ h (λ director last h. first_ok _ _ _ _ h (λ checked reply h.
        installed laws v now p served (trusting director checked) checked.targets checked.targets.targets result of_image
        (verified v Director now p.director director served.director_roots checked last (reply_counts laws v now p.vehicle director served.reply checked reply)) h))

pub whole_then : MeaningLaws → (v : Verifier) (now : ℕ) (s : State) (served : Served) → IsWhole s → IsWhole (state_then s (after v s.primary served (verify v now s.primary served)) served)
whole_then laws v now s served whole =
    let p = s.primary in
    let next = after v p served (verify v now p served) in
    let is = goes laws v now p served (whole.director.timestamp, whole.director.snapshot, whole.director.targets) (whole.image.timestamp, whole.image.snapshot, whole.image.targets) in
    record {
      vehicle = ap is_ident is.vehicle ∙ whole.vehicle;
      ecus = ap (list_all ecu_fits) is.ecus ∙ whole.ecus;
      replaced = ap (list_all is_ident) is.replaced ∙ whole.replaced;
      held = whole.held;
      director = text_told s.roots.director served.director_roots p.director next.director whole.director is.director.root is.director.counts.0 is.director.counts.1 is.director.counts.2;
      image = text_told s.roots.image served.image_roots p.image next.image whole.image is.image.root is.image.counts.0 is.image.counts.1 is.image.counts.2;
    }

-- What is written of the state behind is read as it, since it is whole.
pub verified_again : {A E : Type 0} → MeaningLaws → (v : Verifier) (now : ℕ) (s : State) (served : Served) (next : Primary) (written : Result (String A) E) (text : String A) → IsWhole s
    → next ≡ after v s.primary served (verify v now s.primary served)
    → IfOk written (λ text. IsWhole (state_then s next served) → state_in (string_bytes text) ≡ Ok (state_then s next served)) → written ≡ Ok text
    → state_in (string_bytes text) ≡ Ok (state_then s (after v s.primary served (verify v now s.primary served)) served)
verified_again {A = A} {E = E} laws v now s served next written text whole same again is =
    let behind = after v s.primary served (verify v now s.primary served) in
    let told : IfOk {T = String A} {E = E} (Ok text) (λ text. IsWhole (state_then s next served) → state_in (string_bytes text) ≡ Ok (state_then s next served)) = subst (λ (r : Result (String A) E). IfOk r (λ text. IsWhole (state_then s next served) → state_in (string_bytes text) ≡ Ok (state_then s next served))) is again in
    subst (λ (p : Primary). IsWhole (state_then s p served) → state_in (string_bytes text) ≡ Ok (state_then s p served)) same told (whole_then laws v now s served whole)

-- What is told of what was judged, with that text as the state's file, is as the definition says.
pub round_told : {E F : Type 0} → MeaningLaws → (now : ℕ) (s : State) (served : Served) (held : List (List ℕ)) (judged : Judged) (written : Result (String Global) E) (o : Result Outcome F) → IsWhole s → held ≡ s.held
    → IsJudged (verifier_by s.method held) now s.primary served judged
    → IfOk written (λ text. IsWhole (state_then s judged.next served) → state_in (string_bytes text) ≡ Ok (state_then s judged.next served))
    → IfOk o (λ o. (o.is_accepted ≡ judged.is_accepted) × (string_bytes o.told ≡ string_bytes judged.told) × (written ≡ Ok o.state))
    → IfOk o (IsVerified now s served)
round_told laws now s served held judged written (Err e) whole same is again told = told
round_told laws now s served held judged written (Ok o) whole same is again told =
    let j : IsJudged (verifier_by s.method s.held) now s.primary served judged = subst (λ (held : List (List ℕ)). IsJudged (verifier_by s.method held) now s.primary served judged) same is in
    record {
      verdict = told.0 ∙ j.verdict;
      told = told.1 ∙ j.told;
      state = verified_again laws (verifier_by s.method s.held) now s served judged.next written o.state whole j.next again told.2;
    }
