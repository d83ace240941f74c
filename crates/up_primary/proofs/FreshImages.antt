-- What is installed was served less than a day before.
use Rattle.std.proofs.Common.{◌≡◌, ℕ, ◌+◌, ◌≤◌, ◌⊎◌, List, [], ◌∷◌, true, None, Ok, inl, inr, refl, sym, ap, ◌∙◌, subst, arith}
use Rattle.std.specs.Prelude.{◌==◌, bytes_eq}
use Rattle.std.specs.Cmp.Lexicographic.{bytes_decides}
use Rattle.std.proofs.lemmas.Bool.{and_parts, eqb-true}
use Rattle.sha2.specs.Sha256.{sha256}
use Rattle.up_canon.proofs.Steps.{first_ok, same_ok, unless_ok}
use Rattle.up_roles.specs.declared.repository.Repository.TheVariants.{Director, Image}
use Rattle.up_roles.specs.declared.root.RootFile.{RootFile}
use Rattle.up_roles.specs.declared.snapshot.SnapshotFile.{SnapshotFile}
use Rattle.up_roles.specs.declared.targets.Target.{Target}
use Rattle.up_roles.specs.declared.targets.TargetsFile.{TargetsFile}
use Rattle.up_roles.specs.declared.timestamp.TimestampFile.{TimestampFile}
use Rattle.up_roles.specs.Meaning.{MeansTimestamp}
use Rattle.up_roles.specs.Timestamp.{timestamp_in}
use Rattle.up_metadata.specs.declared.role_files.RoleTexts.{RoleTexts}
use Rattle.up_metadata.specs.Files.{root_file}
use Rattle.up_machine.specs.State.{empty_state}
use Rattle.up_machine.specs.Machine.{run}
use Rattle.up_machine.specs.Made.{roots_of}
use Rattle.up_verify.specs.declared.asked.Asked.{Asked}
use Rattle.up_verify.specs.declared.trust.Trust.{Trust}
use Rattle.up_verify.specs.declared.trust.Primary.{Primary}
use Rattle.up_verify.specs.declared.served.Served.{Served}
use Rattle.up_verify.specs.declared.served.Checked.{Checked}
use Rattle.up_verify.specs.declared.served.Accepted.{Accepted}
use Rattle.up_verify.specs.Verifiers.{Verifier, is_signed_for}
use Rattle.up_verify.specs.Roots.{follow, latest}
use Rattle.up_verify.specs.Files.{check_timestamp, check_snapshot, check_files}
use Rattle.up_verify.specs.Verify.{image_now, trusting, check_installs, verify}
use Rattle.up_primary.specs.Following.{FollowsRoot}
use Rattle.up_primary.specs.Laws.{ImagesAreFresh}
use Rattle.up_primary.proofs.Fresh.{IsTimely, timestamp_parts}
use Rattle.up_primary.proofs.Honest.{of_timestamp, machine_signed}
use Rattle.up_primary.proofs.Meant.{enveloped}
use Rattle.up_primary.proofs.Runs.{Keeping, on_the_way}
use Rattle.up_primary.proofs.SignedTexts.{Formats, timestamp_from}
use Rattle.up_primary.proofs.TrueRoots.{of_file_ok, latest_ok, Safe, true_roots}

-- ---- what passed

-- the Snapshot that the Timestamp names
abbrev IsListed : TimestampFile → List ℕ → SnapshotFile → Type 0
IsListed timestamp bytes file = (sha256 bytes ≡ timestamp.snapshot_sha256) × (file.version ≡ timestamp.snapshot_version)

snapshot_parts : (v : Verifier) (asked : Asked) (t : Trust) (timestamp : TimestampFile) (bytes : List ℕ) (file : SnapshotFile) → check_snapshot v asked t timestamp bytes ≡ Ok file → IsListed timestamp bytes file
unfolding check_snapshot
snapshot_parts v asked t timestamp bytes file h = first_ok _ _ _ _ h (λ read is h. first_ok _ _ _ _ h (λ a named h. first_ok _ _ _ _ h (λ b checked h.
    let both = and_parts (bytes_eq (sha256 bytes) timestamp.snapshot_sha256) (read.0.version == timestamp.snapshot_version) (unless_ok _ _ a named) in
    subst (λ (file : SnapshotFile). (sha256 bytes ≡ timestamp.snapshot_sha256) × (file.version ≡ timestamp.snapshot_version)) (same_ok _ _ h)
    ((bytes_decides (sha256 bytes) timestamp.snapshot_sha256).0 both.0, eqb-true _ _ both.1))))

-- the Timestamp of files that were accepted, what it names, and the versions
record HasListed (v : Verifier) (asked : Asked) (t : Trust) (texts : RoleTexts) (checked : Checked) : Type 0 where
  pub file : TimestampFile
  pub is : IsTimely v asked t texts.timestamp file
  pub timestamp : checked.versions.timestamp ≡ file.version
  pub snapshot : checked.versions.snapshot ≡ file.snapshot_version
  pub hash : sha256 texts.snapshot ≡ file.snapshot_sha256

files_parts : (v : Verifier) (asked : Asked) (t : Trust) (texts : RoleTexts) (checked : Checked) → check_files v asked t texts ≡ Ok checked → HasListed v asked t texts checked
unfolding check_files
files_parts v asked t texts checked h = first_ok _ _ _ _ h (λ timestamp a h. first_ok _ _ _ _ h (λ snapshot b h. first_ok _ _ _ _ h (λ targets c h.
    let listed = snapshot_parts v asked t timestamp texts.snapshot snapshot (of_file_ok asked.repository _ (check_snapshot v asked t timestamp texts.snapshot) snapshot b) in
    subst (λ (checked : Checked). HasListed v asked t texts checked) (same_ok _ _ h) (record {
      file = timestamp;
      is = timestamp_parts v asked t texts.timestamp timestamp (of_file_ok asked.repository _ (check_timestamp v asked t texts.timestamp) timestamp a);
      timestamp = refl;
      snapshot = listed.1;
      hash = listed.0;
    }))))

abbrev asks : ℕ → Asked
asks now = record { repository = Image; vehicle = None; moment = now }

-- what was accepted of the Image repository
record IsServed (v : Verifier) (now : ℕ) (p : Primary) (served : Served) (result : Accepted) : Type 0 where
  pub image : Trust
  pub latest : image_now v now p served ≡ Ok image
  pub checked : Checked
  pub listed : HasListed v (asks now) image served.image checked
  pub next : result.next.image ≡ trusting image checked

installs_parts : (v : Verifier) (now : ℕ) (p : Primary) (served : Served) (director : Trust) (targets : TargetsFile) (ts : List Target) (result : Accepted)
    → check_installs v now p served director targets ts ≡ Ok result → (result.installs ≡ []) ⊎ IsServed v now p served result
unfolding check_installs
installs_parts v now p served director targets [] result h = inl (sym (ap (λ (r : Accepted). r.installs) (same_ok _ _ h)))
installs_parts v now p served director targets (t ∷ ts) result h = first_ok _ _ _ _ h (λ image latest h. first_ok _ _ _ _ h (λ checked is h. first_ok _ _ _ _ h (λ installs each_is h.
    inr (record {
      image = image;
      latest = latest;
      checked = checked;
      listed = files_parts v (asks now) image served.image checked is;
      next = sym (ap (λ (r : Accepted). r.next.image) (same_ok _ _ h));
    }))))

accepted_parts : (v : Verifier) (now : ℕ) (p : Primary) (served : Served) (result : Accepted) → verify v now p served ≡ Ok result → (result.installs ≡ []) ⊎ IsServed v now p served result
unfolding verify
accepted_parts v now p served result h = first_ok _ _ _ _ h (λ director latest h. first_ok _ _ _ _ h (λ checked is h.
    installs_parts v now p served (trusting director checked) checked.targets checked.targets.targets result h))

-- ---- the law

pub images_fresh : Formats → Keeping → ImagesAreFresh
images_fresh formats keeping v ts stolen now p served result law given agree unforged unforged_timestamp follows safe safe_timestamps h =
    elim (accepted_parts v now p served result h) [
      | inl none ↦ inl none
      | inr is ↦
          let roots = roots_of v.rules empty_state ts in
          let timely = is.listed.is in
          let all : Safe v ts Image stolen p.image.root.version = record { formats = formats; keeping = keeping; scheme = law; given = given; agree = agree; safe = safe } in
          let newer = served.image_roots in
          let reached = true_roots v ts Image stolen p.image.root.version all newer p.image unforged.each_root (omega arith) follows in
          let same : (follow v Image p.image newer).trust ≡ is.image = latest_ok now (follow v Image p.image newer) is.image (of_file_ok Image _ (latest now (follow v Image p.image newer)) is.image is.latest) in
          let f : FollowsRoot v.rules roots Image is.image = subst (λ (t : Trust). FollowsRoot v.rules roots Image t) same reached.0 in
          let from : p.image.root.version ≤ is.image.root.version = subst (λ (t : Trust). p.image.root.version ≤ t.root.version) same reached.1 in
          let root = root_file v.rules Image is.image.root.version f.root in
          let signed : is_signed_for v root.timestamp timely.envelope ≡ true = ap (λ (r : RootFile). is_signed_for v r.timestamp timely.envelope) (sym f.is) ∙ timely.signed in
          let was = machine_signed v ts stolen served.image.timestamp unforged_timestamp Image is.image.root.version f.root f.there root.timestamp (of_timestamp root) (safe_timestamps is.image.root.version f.root from f.there)
          timely.envelope (enveloped MeansTimestamp timestamp_in formats.meaning.timestamp served.image.timestamp is.listed.file timely.envelope timely.read) signed in
          let way = on_the_way keeping v.rules ts was.0 was.1 law given agree was.2 in
          let earlier = run v.rules empty_state was.0 in
          elim (timestamp_from formats v.rules earlier (roots_of v.rules empty_state was.0) way.facts served.image.timestamp is.listed.file timely.envelope timely.read was.3) [
            | inl image ↦
                let expires : is.listed.file.expires ≡ earlier.stamp + 86_400 = ap (λ (file : TimestampFile). file.expires) image.is in
                let late = timely.expires in
                inr (record {
                  earlier = was.0;
                  later = was.1;
                  split = was.2;
                  founded = image.founded;
                  fresh = omega (arith, expires, late);
                  timestamp = ap (λ (t : Trust). t.versions.timestamp) is.next ∙ is.listed.timestamp ∙ ap (λ (file : TimestampFile). file.version) image.is;
                  snapshot = ap (λ (t : Trust). t.versions.snapshot) is.next ∙ is.listed.snapshot ∙ ap (λ (file : TimestampFile). file.snapshot_version) image.is;
                  hash = is.listed.hash ∙ ap (λ (file : TimestampFile). file.snapshot_sha256) image.is;
                })
            | inr reply ↦ absurd (apart (sym (ap (λ (file : TimestampFile). file.repository) reply.is) ∙ timely.repository))
          ]
    ]
  where
    apart : Director ≡ Image → ⊥
    apart h = cc
