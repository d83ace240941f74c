-- Whatever reply comes of what the machine serves, accepted or not, the Primary follows the state behind it.
use Rattle.std.proofs.Common.{◌≡◌, ℕ, ◌≤◌, true, List, [], ◌∷◌, Some, None, Result, Ok, Err, ◌⊎◌, inl, inr, refl, sym, ap, ◌∙◌, subst, arith}
use Rattle.std.specs.Prelude.{◌==◌, ◌&&◌, is_some}
use Rattle.std.specs.FinMap as table
use Rattle.std.specs.Cmp.Lexicographic.{bytes_decides}
use Rattle.std.proofs.lemmas.Bool.{and_parts, eqb-true}
use Rattle.up_canon.specs.Names.{Name}
use Rattle.up_canon.specs.declared.refusal.Refusal.{Refusal}
use Rattle.up_canon.proofs.Steps.{first_ok, same_ok, unless_ok, one_value}
use Rattle.up_sign.specs.Laws.{SealedFits, SealedIsAccepted}
use Rattle.up_sign.specs.Schemes.{Rules, IsScheme}
use Rattle.up_sign.specs.declared.envelope.Envelope.{Envelope}
use Rattle.up_roles.specs.declared.repository.Repository.TheVariants.{Director, Image}
use Rattle.up_roles.specs.declared.snapshot.SnapshotFile.{SnapshotFile}
use Rattle.up_roles.specs.declared.targets.Target.{Target}
use Rattle.up_roles.specs.declared.targets.TargetsFile.{TargetsFile}
use Rattle.up_roles.specs.declared.timestamp.TimestampFile.{TimestampFile}
use Rattle.up_roles.specs.Laws.{RootsAreRead}
use Rattle.up_roles.specs.Snapshot.{snapshot_in}
use Rattle.up_roles.specs.Targets.{targets_in}
use Rattle.up_roles.specs.Timestamp.{timestamp_in}
use Rattle.up_metadata.specs.declared.role_files.RoleTexts.{RoleTexts}
use Rattle.up_metadata.specs.Files.{Root, MetadataSet, role_texts}
use Rattle.up_machine.specs.Files.{image_metadata}
use Rattle.up_machine.specs.Made.{IsMade}
use Rattle.up_machine.specs.Sound.{IsSound}
use Rattle.up_machine.specs.State.{Entry, Vehicle, State, nth, is_founded, version}
use Rattle.up_laws.specs.Plans.{HasOwnPlans}
use Rattle.up_laws.specs.Readings.{AreReadAgain}
use Rattle.up_laws.specs.Typed.{IsTyped}
use Rattle.up_verify.specs.declared.asked.Asked.{Asked}
use Rattle.up_verify.specs.declared.refused.Refused.{Refused}
use Rattle.up_verify.specs.declared.roots.Followed.{Followed}
use Rattle.up_verify.specs.declared.served.Accepted.{Accepted}
use Rattle.up_verify.specs.declared.served.Checked.{Checked}
use Rattle.up_verify.specs.declared.served.Reply.{Reply}
use Rattle.up_verify.specs.declared.served.Served.{Served}
use Rattle.up_verify.specs.declared.trust.Primary.{Primary}
use Rattle.up_verify.specs.declared.trust.Trust.{Trust}
use Rattle.up_verify.specs.declared.trust.Versions.{Versions}
use Rattle.up_verify.specs.Files.{check_timestamp, check_snapshot, check_targets, check_files}
use Rattle.up_verify.specs.Roots.{or_unread, follow, latest}
use Rattle.up_verify.specs.Verifiers.{Verifier}
use Rattle.up_verify.specs.Verify.{are_of_version, check_reply, director_now, image_now, trusting, check_installs, verify, after}
use Rattle.up_primary.specs.Following.{FollowsRoot, AreUpTo, Follows, KnowsKeys, KeysAgree}
use Rattle.up_primary.specs.Laws.{ImageFilesAreReadAgain, RootsAreSmall}
use Rattle.up_primary.specs.Machine.{reply_for, served_in}
use Rattle.up_primary.proofs.ManyRoots.{Reached, roots_reached, number_within}
use Rattle.up_primary.proofs.NextRoot.{Known}
use Rattle.up_primary.proofs.Serving.{serves_roots}
use Rattle.up_primary.proofs.Sets.{all_of}
use Rattle.up_primary.proofs.Taken.{follows_reached, all_up_to}
use Rattle.up_primary.proofs.TrueRoots.{unread_ok, of_file_ok, latest_ok}

-- ---- the versions of what was read

read_is : {F : Type 0} (r : Result (F × Envelope) Refusal) (p : F × Envelope) (file : F) (e : Envelope) → or_unread r ≡ Ok p → r ≡ Ok (file, e) → p.0 ≡ file
read_is r p file e h is = ap (λ q. q.0) (same_ok _ _ (sym (unread_ok r p h) ∙ is))

timestamp_is : (v : Verifier) (asked : Asked) (t : Trust) (bytes : List ℕ) (file read : TimestampFile) (e : Envelope) → timestamp_in bytes ≡ Ok (file, e) → check_timestamp v asked t bytes ≡ Ok read → read ≡ file
unfolding check_timestamp
timestamp_is v asked t bytes file read e is h = first_ok _ _ _ _ h (λ p a h. first_ok _ _ _ _ h (λ b c h. sym (same_ok _ _ h) ∙ read_is (timestamp_in bytes) p file e a is))

snapshot_is : (v : Verifier) (asked : Asked) (t : Trust) (timestamp : TimestampFile) (bytes : List ℕ) (file read : SnapshotFile) (e : Envelope) → snapshot_in bytes ≡ Ok (file, e)
    → check_snapshot v asked t timestamp bytes ≡ Ok read → read ≡ file
unfolding check_snapshot
snapshot_is v asked t timestamp bytes file read e is h = first_ok _ _ _ _ h (λ p a h. first_ok _ _ _ _ h (λ b named h. first_ok _ _ _ _ h (λ c checked h. sym (same_ok _ _ h) ∙ read_is (snapshot_in bytes) p file e a is)))

targets_is : (v : Verifier) (asked : Asked) (t : Trust) (snapshot : SnapshotFile) (bytes : List ℕ) (file read : TargetsFile) (e : Envelope) → targets_in bytes ≡ Ok (file, e)
    → check_targets v asked t snapshot bytes ≡ Ok read → read ≡ file
unfolding check_targets
targets_is v asked t snapshot bytes file read e is h = first_ok _ _ _ _ h (λ p a h. first_ok _ _ _ _ h (λ b named h. first_ok _ _ _ _ h (λ c checked h. sym (same_ok _ _ h) ∙ read_is (targets_in bytes) p file e a is)))

same_versions : (a b c n : ℕ) → a ≡ n → b ≡ n → c ≡ n → ◌≡◌ {A = Versions} (record { timestamp = a; snapshot = b; targets = c }) (all_of n)
same_versions a b c n h i j = cc

versions_are : (v : Verifier) (asked : Asked) (t : Trust) (m : MetadataSet) (checked : Checked) → AreReadAgain v.rules m → check_files v asked t (role_texts v.rules m) ≡ Ok checked → checked.versions ≡ all_of m.version
unfolding check_files
versions_are v asked t m checked reads h = first_ok _ _ _ _ h (λ timestamp a h. first_ok _ _ _ _ h (λ snapshot b h. first_ok _ _ _ _ h (λ targets c h.
    let texts = role_texts v.rules m in
    let first = timestamp_is v asked t texts.timestamp _ timestamp _ reads.timestamp.read (of_file_ok asked.repository _ (check_timestamp v asked t texts.timestamp) timestamp a) in
    let second = snapshot_is v asked t timestamp texts.snapshot _ snapshot _ reads.snapshot.read (of_file_ok asked.repository _ (check_snapshot v asked t timestamp texts.snapshot) snapshot b) in
    let third = targets_is v asked t snapshot texts.targets _ targets _ reads.targets.read (of_file_ok asked.repository _ (check_targets v asked t snapshot texts.targets) targets c) in
    sym (ap (λ (x : Checked). x.versions) (same_ok _ _ h))
    ∙ same_versions timestamp.version snapshot.version targets.version m.version (ap (λ (x : TimestampFile). x.version) first) (ap (λ (x : SnapshotFile). x.version) second) (ap (λ (x : TargetsFile). x.version) third))))

-- ---- what was accepted

reply_parts : (v : Verifier) (now : ℕ) (vehicle : Name) (t : Trust) (reply : Reply) (checked : Checked) → check_reply v now vehicle t reply ≡ Ok checked → (reply.vehicle ≡ vehicle) × (are_of_version reply.version checked.versions ≡ true)
unfolding check_reply
reply_parts v now vehicle t reply checked h = first_ok _ _ _ _ h (λ a wrong h. first_ok _ _ _ _ h (λ b unknown h. first_ok _ _ _ _ h (λ c old h. first_ok _ _ _ _ h (λ it is h. first_ok _ _ _ _ h (λ d mixed h. (
  (bytes_decides reply.vehicle vehicle).0 (unless_ok _ _ a wrong),
  ap (λ (x : Checked). are_of_version reply.version x.versions) (sym (same_ok _ _ h)) ∙ unless_ok _ _ d mixed,
))))))

up_to_version : (n m : ℕ) (versions : Versions) → n ≤ m → are_of_version n versions ≡ true → AreUpTo m versions
up_to_version n m versions low h =
    let outer = and_parts ((versions.timestamp == n) && (versions.snapshot == n)) (versions.targets == n) h in
    let inner = and_parts (versions.timestamp == n) (versions.snapshot == n) outer.0 in
    let a : versions.timestamp ≡ n = eqb-true _ _ inner.0 in
    let b : versions.snapshot ≡ n = eqb-true _ _ inner.1 in
    let c : versions.targets ≡ n = eqb-true _ _ outer.1 in
    record { timestamp = omega (arith, low, a); snapshot = omega (arith, low, b); targets = omega (arith, low, c) }

abbrev asks : ℕ → Asked
asks now = record { repository = Image; vehicle = None; moment = now }

-- of the Image repository as before, or what was verified of it
record Verified (v : Verifier) (now : ℕ) (p : Primary) (served : Served) (t : Trust) : Type 0 where
  image : Trust
  latest : image_now v now p served ≡ Ok image
  checked : Checked
  files : check_files v (asks now) image served.image ≡ Ok checked
  is : t ≡ trusting image checked

record IsNext (v : Verifier) (now : ℕ) (p : Primary) (served : Served) (director : Trust) (next : Primary) : Type 0 where
  own : next.vehicle ≡ p.vehicle
  of_director : next.director ≡ director
  of_image : (next.image ≡ p.image) ⊎ Verified v now p served next.image

next_is : (v : Verifier) (now : ℕ) (p : Primary) (served : Served) (director : Trust) (targets : TargetsFile) (ts : List Target) (result : Accepted)
    → check_installs v now p served director targets ts ≡ Ok result → IsNext v now p served director result.next
unfolding check_installs
next_is v now p served director targets [] result h =
    subst (λ (r : Accepted). IsNext v now p served director r.next) (same_ok _ _ h) (record { own = refl; of_director = refl; of_image = inl refl })
next_is v now p served director targets (t ∷ ts) result h = first_ok _ _ _ _ h (λ image latest h. first_ok _ _ _ _ h (λ checked files h. first_ok _ _ _ _ h (λ installs each h.
    subst (λ (r : Accepted). IsNext v now p served director r.next) (same_ok _ _ h)
    (record { own = refl; of_director = refl; of_image = inr (record { image = image; latest = latest; checked = checked; files = files; is = refl }) }))))

record IsAccepted (v : Verifier) (now : ℕ) (p : Primary) (served : Served) (next : Primary) : Type 0 where
  director : Trust
  latest : director_now v now p served ≡ Ok director
  checked : Checked
  reply : check_reply v now p.vehicle director served.reply ≡ Ok checked
  is : IsNext v now p served (trusting director checked) next

accepted_is : (v : Verifier) (now : ℕ) (p : Primary) (served : Served) (result : Accepted) → verify v now p served ≡ Ok result → IsAccepted v now p served result.next
unfolding verify
accepted_is v now p served result h = first_ok _ _ _ _ h (λ director latest h. first_ok _ _ _ _ h (λ checked reply h.
    record { director = director; latest = latest; checked = checked; reply = reply; is = next_is v now p served (trusting director checked) checked.targets checked.targets.targets result h }))

-- ---- what is followed then

-- that files are read again, and who knows the keys reads Roots
pub record Reading : Type 0 where
  pub seals : SealedFits
  pub accepts : SealedIsAccepted
  pub roots_read : RootsAreRead
  pub images_read : ImageFilesAreReadAgain
  pub small : RootsAreSmall

-- what is known of every state on the way
pub record Stands (k : Rules) (s : State) (roots : List Root) : Type 0 where
  pub made : IsMade k s roots
  pub sound : IsSound k s
  pub typed : IsTyped s
  pub own : HasOwnPlans s

-- it is the same vehicle's, and follows
abbrev pub Stays : Rules → State → List Root → Primary → Primary → Type 0
Stays k s roots p next = (next.vehicle ≡ p.vehicle) × Follows k s roots next

refused : (k : Rules) (s : State) (roots : List Root) (p : Primary) (df if_ : Followed) → Follows k s roots p → Reached k roots Director p.director df → Reached k roots Image p.image if_ → Follows k s roots (record p { director = df.trust; image = if_.trust })
refused k s roots p df if_ f d i = record {
  director = follows_reached k roots Director p.director df df.trust d refl;
  image = follows_reached k roots Image p.image if_ if_.trust i refl;
  owner = f.owner;
  known = f.known;
  director_versions = d.keeps (version f.owner.entries) f.director_versions;
  image_versions = i.keeps s.image_version f.image_versions;
}

with_image : Reading → (v : Verifier) (s : State) (roots : List Root) (now : ℕ) (p next : Primary) (served : Served) → IsScheme v.rules → Stands v.rules s roots → is_founded s ≡ true
    → served.image ≡ role_texts v.rules (image_metadata s) → (f : Follows v.rules s roots p) → Reached v.rules roots Image p.image (follow v Image p.image served.image_roots)
    → next.vehicle ≡ p.vehicle → FollowsRoot v.rules roots Director next.director → AreUpTo (version f.owner.entries) next.director.versions → (next.image ≡ p.image) ⊎ Verified v now p served next.image
    → Follows v.rules s roots next
with_image reading v s roots now p next served law stands there texts f i own d dv (inl same) = record {
  director = d;
  image = subst (λ (t : Trust). FollowsRoot v.rules roots Image t) (sym same) f.image;
  owner = f.owner;
  known = ap (table.get s.vehicles) own ∙ f.known;
  director_versions = dv;
  image_versions = subst (λ (t : Trust). AreUpTo s.image_version t.versions) (sym same) f.image_versions;
}
with_image reading v s roots now p next served law stands there texts f i own d dv (inr is) =
    let reached : (follow v Image p.image served.image_roots).trust ≡ is.image = latest_ok now (follow v Image p.image served.image_roots) is.image (of_file_ok Image _ (latest now (follow v Image p.image served.image_roots)) is.image is.latest) in
    let files : check_files v (asks now) is.image (role_texts v.rules (image_metadata s)) ≡ Ok is.checked = ap (check_files v (asks now) is.image) (sym texts) ∙ is.files in
    let versions : is.checked.versions ≡ all_of s.image_version = versions_are v (asks now) is.image (image_metadata s) is.checked (reading.images_read v.rules s law stands.sound stands.typed there) files in
    record {
      director = d;
      image = follows_reached v.rules roots Image p.image (follow v Image p.image served.image_roots) next.image i (ap (λ (t : Trust). t.root) is.is ∙ sym (ap (λ (t : Trust). t.root) reached));
      owner = f.owner;
      known = ap (table.get s.vehicles) own ∙ f.known;
      director_versions = dv;
      image_versions = subst (λ (t : Trust). AreUpTo s.image_version t.versions) (sym is.is) (subst (AreUpTo s.image_version) (sym versions) (all_up_to s.image_version s.image_version (omega arith)));
    }

accepted : Reading → (v : Verifier) (s : State) (roots : List Root) (now : ℕ) (p : Primary) (served : Served) (result : Accepted) → IsScheme v.rules → Stands v.rules s roots → is_founded s ≡ true
    → served.image ≡ role_texts v.rules (image_metadata s) → (owner : Vehicle) (e : Entry) → table.get s.vehicles served.reply.vehicle ≡ Some owner → nth owner.entries served.reply.version ≡ Some e
    → Follows v.rules s roots p → Reached v.rules roots Director p.director (follow v Director p.director served.director_roots) → Reached v.rules roots Image p.image (follow v Image p.image served.image_roots)
    → verify v now p served ≡ Ok result → Stays v.rules s roots p result.next
accepted reading v s roots now p served result law stands there texts owner e is_known is_there f d i h =
    let is = accepted_is v now p served result h in
    let reached : (follow v Director p.director served.director_roots).trust ≡ is.director = latest_ok now (follow v Director p.director served.director_roots) is.director (of_file_ok Director _ (latest now (follow v Director p.director served.director_roots)) is.director is.latest) in
    let parts = reply_parts v now p.vehicle is.director served.reply is.checked is.reply in
    let same : owner ≡ f.owner = one_value _ _ _ is_known (ap (table.get s.vehicles) parts.0 ∙ f.known) in
    let within = number_within owner.entries served.reply.version e is_there in
    let high : served.reply.version ≤ version f.owner.entries = subst (λ (w : Vehicle). served.reply.version ≤ version w.entries) same within in
    let root_is : result.next.director.root ≡ (follow v Director p.director served.director_roots).trust.root = ap (λ (t : Trust). t.root) is.is.of_director ∙ sym (ap (λ (t : Trust). t.root) reached) in
    let versions : AreUpTo (version f.owner.entries) result.next.director.versions =
    subst (λ (t : Trust). AreUpTo (version f.owner.entries) t.versions) (sym is.is.of_director) (up_to_version served.reply.version (version f.owner.entries) is.checked.versions high parts.1) in (
      is.is.own,
      with_image reading v s roots now p result.next served law stands there texts f i is.is.own (follows_reached v.rules roots Director p.director (follow v Director p.director served.director_roots) result.next.director d root_is) versions is.is.of_image,
    )

pub follow_after : Reading → (v : Verifier) (s : State) (roots : List Root) (files : RoleTexts) (now number : ℕ) (vehicle : Name) (e : Entry) (root : Root) (p : Primary) → IsScheme v.rules → Stands v.rules s roots
    → KeysAgree v.rules roots → KnowsKeys v roots → Follows v.rules s roots p → (owner : Vehicle) → table.get s.vehicles vehicle ≡ Some owner → nth owner.entries number ≡ Some e → s.files ≡ Some files
    → Stays v.rules s roots p (after v p (served_in s files p (reply_for v.rules s vehicle number e root)) (verify v now p (served_in s files p (reply_for v.rules s vehicle number e root))))
follow_after reading v s roots files now number vehicle e root p law stands agree knows f owner is_known is_there there =
    let served : Served = served_in s files p (reply_for v.rules s vehicle number e root) in
    let known : Known v.rules = record { scheme = law; seals = reading.seals; accepts = reading.accepts; roots_read = reading.roots_read } in
    let d = roots_reached v known s roots Director (serves_roots reading.small v s roots Director law stands.sound stands.made agree knows) p.director p.director.root.version f.director.root f.director.there f.director.is in
    let i = roots_reached v known s roots Image (serves_roots reading.small v s roots Image law stands.sound stands.made agree knows) p.image p.image.root.version f.image.root f.image.there f.image.is in
    by_result served d i (verify v now p served) refl (λ result h. accepted reading v s roots now p served result law stands (ap is_some there) (stands.made.files files there) owner e is_known is_there f d i h)
  where
    by_result : (served : Served) → Reached v.rules roots Director p.director (follow v Director p.director served.director_roots) → Reached v.rules roots Image p.image (follow v Image p.image served.image_roots)
        → (r : Result Accepted Refused) → verify v now p served ≡ r → ((result : Accepted) → verify v now p served ≡ Ok result → Stays v.rules s roots p result.next) → Stays v.rules s roots p (after v p served r)
    by_result served d i (Err fault) h more = (refl, refused v.rules s roots p (follow v Director p.director served.director_roots) (follow v Image p.image served.image_roots) f d i)
    by_result served d i (Ok result) h more = more result h
