-- Whatever bytes come, what is accepted is what the machine made for the vehicle, and what is installed is registered.
use Rattle.std.proofs.Common.{◌≡◌, ℕ, ◌≤◌, List, [], ◌∷◌, ◌++◌, true, Option, Some, None, Ok, ◌⊎◌, inl, inr, refl, sym, ap, ◌∙◌, subst, arith}
use Rattle.std.specs.Prelude.{filter_map, option_map, IsTrue}
use Rattle.std.specs.List.{AllByRecursion}
use Rattle.std.specs.FinMap as table
use Rattle.std.specs.Cmp.Lexicographic.{bytes_decides}
use Rattle.std.proofs.lemmas.Bool.{leb-true}
use Rattle.up_canon.specs.Names.{Name}
use Rattle.up_canon.specs.Steps.{each}
use Rattle.up_canon.proofs.Steps.{first_ok, same_ok, unless_ok}
use Rattle.up_sign.specs.Schemes.{Rules}
use Rattle.up_sign.specs.declared.envelope.Envelope.{Envelope}
use Rattle.up_roles.specs.declared.repository.Repository.TheVariants.{Director, Image}
use Rattle.up_roles.specs.declared.targets.Target.{Target}
use Rattle.up_roles.specs.declared.targets.TargetsFile.{TargetsFile}
use Rattle.up_roles.specs.declared.root.RootFile.{RootFile}
use Rattle.up_roles.specs.declared.snapshot.SnapshotFile.{SnapshotFile}
use Rattle.up_roles.specs.Meaning.{MeansTargets}
use Rattle.up_roles.specs.Targets.{targets_in}
use Rattle.up_plan.specs.declared.assigned.Assigned.{Assigned}
use Rattle.up_metadata.specs.declared.role_files.RoleTexts.{RoleTexts}
use Rattle.up_metadata.specs.Files.{Root, root_file, targets_file}
use Rattle.up_machine.specs.State.{Entry, State, empty_state, nth}
use Rattle.up_machine.specs.Files.{target_of}
use Rattle.up_machine.specs.Laws.{IsLater}
use Rattle.up_machine.specs.Machine.{run}
use Rattle.up_machine.specs.Made.{roots_of}
use Rattle.up_machine.specs.Replies.{assigned_target, reply_metadata}
use Rattle.up_machine.specs.Sound.{IsGrounded, IsSound}
use Rattle.up_machine.proofs.Keeping.{nth_at, there}
use Rattle.up_machine.proofs.Places.{nth_stays}
use Rattle.up_verify.specs.declared.trust.Trust.{Trust}
use Rattle.up_verify.specs.declared.trust.Primary.{Primary}
use Rattle.up_verify.specs.declared.served.Reply.{Reply}
use Rattle.up_verify.specs.declared.served.Served.{Served}
use Rattle.up_verify.specs.declared.served.Checked.{Checked}
use Rattle.up_verify.specs.declared.served.Accepted.{Accepted}
use Rattle.up_verify.specs.Verifiers.{Verifier, is_signed_for}
use Rattle.up_verify.specs.Roots.{follow, latest}
use Rattle.up_verify.specs.declared.asked.Asked.{Asked}
use Rattle.up_verify.specs.Files.{same_vehicle, check_file, check_targets, check_files}
use Rattle.up_verify.specs.Verify.{check_reply, check_target, director_now, image_now, trusting, check_installs, verify}
use Rattle.up_primary.specs.Following.{FollowsRoot}
use Rattle.up_primary.specs.Forging.{IsEntryAt}
use Rattle.up_primary.specs.Laws.{DirectorIsHeard}
use Rattle.up_primary.proofs.Honest.{of_targets, machine_signed}
use Rattle.up_primary.proofs.Meant.{enveloped}
use Rattle.up_primary.proofs.Runs.{Keeping, still_there, on_the_way}
use Rattle.up_primary.proofs.SignedTexts.{Formats, targets_from}
use Rattle.up_primary.proofs.TrueRoots.{unread_ok, same_one, of_file_ok, latest_ok, Safe, true_roots}

-- ---- what passed

pub same_names : (a b : Option Name) → same_vehicle a b ≡ true → a ≡ b
same_names None None h = refl
same_names (Some a) (Some b) h = ap Some ((bytes_decides a b).0 h)
same_names None (Some b) h = cc
same_names (Some a) None h = cc

-- Targets that were accepted
pub record IsChecked (v : Verifier) (asked : Asked) (t : Trust) (bytes : List ℕ) (file : TargetsFile) : Type 0 where
  pub envelope : Envelope
  pub read : targets_in bytes ≡ Ok (file, envelope)
  pub repository : file.repository ≡ asked.repository
  pub vehicle : file.vehicle ≡ asked.vehicle
  pub signed : is_signed_for v t.root.targets envelope ≡ true
  pub version : t.versions.targets ≤ file.version

targets_parts : (v : Verifier) (asked : Asked) (t : Trust) (snapshot : SnapshotFile) (bytes : List ℕ) (file : TargetsFile) → check_targets v asked t snapshot bytes ≡ Ok file → IsChecked v asked t bytes file
unfolding check_targets check_file
targets_parts v asked t snapshot bytes file h = first_ok _ _ _ _ h (λ read is h. first_ok _ _ _ _ h (λ a named h. first_ok _ _ _ _ h (λ b checked h.
    first_ok _ _ _ _ checked (λ c repository checked. first_ok _ _ _ _ checked (λ d vehicle checked. first_ok _ _ _ _ checked (λ e signed checked. first_ok _ _ _ _ checked (λ f version checked.
    subst (λ (file : TargetsFile). IsChecked v asked t bytes file) (same_ok _ _ h) (record {
      envelope = read.1;
      read = unread_ok (targets_in bytes) read is;
      repository = same_one read.0.repository asked.repository (unless_ok _ _ c repository);
      vehicle = same_names read.0.vehicle asked.vehicle (unless_ok _ _ d vehicle);
      signed = unless_ok _ _ e signed;
      version = leb-true _ _ (unless_ok _ _ f version);
    }))))))))

files_parts : (v : Verifier) (asked : Asked) (t : Trust) (texts : RoleTexts) (checked : Checked) → check_files v asked t texts ≡ Ok checked → IsChecked v asked t texts.targets checked.targets
unfolding check_files
files_parts v asked t texts checked h = first_ok _ _ _ _ h (λ timestamp a h. first_ok _ _ _ _ h (λ snapshot b h. first_ok _ _ _ _ h (λ targets c h.
    subst (λ (checked : Checked). IsChecked v asked t texts.targets checked.targets) (same_ok _ _ h)
    (targets_parts v asked t snapshot texts.targets targets (of_file_ok asked.repository _ (check_targets v asked t snapshot texts.targets) targets c)))))

reply_parts : (v : Verifier) (now : ℕ) (vehicle : Name) (t : Trust) (reply : Reply) (checked : Checked) → check_reply v now vehicle t reply ≡ Ok checked
    → IsChecked v (record { repository = Director; vehicle = Some vehicle; moment = now }) t reply.files.targets checked.targets
unfolding check_reply
reply_parts v now vehicle t reply checked h = first_ok _ _ _ _ h (λ a wrong h. first_ok _ _ _ _ h (λ b unknown h. first_ok _ _ _ _ h (λ c old h. first_ok _ _ _ _ h (λ it is h. first_ok _ _ _ _ h (λ d mixed h.
    subst (λ (checked : Checked). IsChecked v (record { repository = Director; vehicle = Some vehicle; moment = now }) t reply.files.targets checked.targets) (same_ok _ _ h)
    (files_parts v (record { repository = Director; vehicle = Some vehicle; moment = now }) t reply.files it is))))))

-- each target, over the Image repository's Targets
pub record IsInstalled (v : Verifier) (now : ℕ) (p : Primary) (served : Served) (ts installs : List Target) : Type 0 where
  pub image : Trust
  pub latest : image_now v now p served ≡ Ok image
  pub targets : TargetsFile
  pub checked : IsChecked v (record { repository = Image; vehicle = None; moment = now }) image served.image.targets targets
  pub each_is : each (check_target p targets.targets) ts ≡ Ok installs

abbrev pub Installed : Verifier → ℕ → Primary → Served → List Target → List Target → Type 0
Installed v now p served ts installs = (installs ≡ []) ⊎ IsInstalled v now p served ts installs

pub installs_parts : (v : Verifier) (now : ℕ) (p : Primary) (served : Served) (director : Trust) (targets : TargetsFile) (ts : List Target) (result : Accepted)
    → check_installs v now p served director targets ts ≡ Ok result → (result.targets ≡ targets) × Installed v now p served ts result.installs
unfolding check_installs
installs_parts v now p served director targets [] result h =
    let same = same_ok _ _ h in
    (sym (ap (λ (r : Accepted). r.targets) same), inl (sym (ap (λ (r : Accepted). r.installs) same)))
installs_parts v now p served director targets (t ∷ ts) result h = first_ok _ _ _ _ h (λ image latest h. first_ok _ _ _ _ h (λ checked is h. first_ok _ _ _ _ h (λ installs each_is h.
    let same = same_ok _ _ h in
    let installed : IsInstalled v now p served (t ∷ ts) installs = record {
      image = image;
      latest = latest;
      targets = checked.targets;
      checked = files_parts v (record { repository = Image; vehicle = None; moment = now }) image served.image checked is;
      each_is = each_is;
    } in
    (sym (ap (λ (r : Accepted). r.targets) same), inr (subst (λ (us : List Target). IsInstalled v now p served (t ∷ ts) us) (ap (λ (r : Accepted). r.installs) same) installed)))))

-- what was accepted of both repositories
pub record IsAccepted (v : Verifier) (now : ℕ) (p : Primary) (served : Served) (result : Accepted) : Type 0 where
  pub director : Trust
  pub latest : director_now v now p served ≡ Ok director
  pub checked : IsChecked v (record { repository = Director; vehicle = Some p.vehicle; moment = now }) director served.reply.files.targets result.targets
  pub installed : Installed v now p served result.targets.targets result.installs

pub accepted_parts : (v : Verifier) (now : ℕ) (p : Primary) (served : Served) (result : Accepted) → verify v now p served ≡ Ok result → IsAccepted v now p served result
unfolding verify
accepted_parts v now p served result h = first_ok _ _ _ _ h (λ director latest h. first_ok _ _ _ _ h (λ checked is h.
    let parts = installs_parts v now p served (trusting director checked) checked.targets checked.targets.targets result h in
    record {
      director = director;
      latest = latest;
      checked = subst (λ (file : TargetsFile). IsChecked v (record { repository = Director; vehicle = Some p.vehicle; moment = now }) director served.reply.files.targets file) (sym parts.0) (reply_parts v now p.vehicle director served.reply checked is);
      installed = subst (λ (file : TargetsFile). Installed v now p served file.targets result.installs) (sym parts.0) parts.1;
    }))

-- ---- later states

target_stays : (s later : State) (a : Assigned) → IsLater s later → table.contains_key s.images a.file ≡ true → assigned_target later a ≡ assigned_target s a
target_stays s later a is known =
    let image = there (table.get s.images a.file) known in
    ap (option_map (target_of (Some a.ecu))) (is.images a.file image.0 image.1 ∙ sym image.1)

targets_stay : (s later : State) (assigned : List Assigned) → IsLater s later → AllByRecursion (λ a. IsTrue (table.contains_key s.images a.file)) assigned
    → filter_map (assigned_target later) assigned ≡ filter_map (assigned_target s) assigned
targets_stay s later [] is known = refl
targets_stay s later (a ∷ assigned) is known = rw (target_stays s later a is known.0, targets_stay s later assigned is known.1)

pub entry_stays : (s later : State) (roots all more : List Root) (vehicle : Name) (number : ℕ) (e : Entry) (root : Root) → IsLater s later → all ≡ roots ++ more → IsEntryAt s roots vehicle number e root
    → IsEntryAt later all vehicle number e root
entry_stays s later roots all more vehicle number e root is grown at =
    let found = is.vehicles vehicle at.owner at.known in
    record {
      owner = found.0;
      known = found.1;
      there = ap (λ es. nth es number) found.2.entries ∙ nth_stays at.owner.entries found.2.more_entries number e at.there;
      under = still_there all roots more grown e.root root at.under;
    }

file_stays : (k : Rules) (s later : State) (roots : List Root) (vehicle : Name) (number : ℕ) (e : Entry) (root : Root) → IsSound k s → IsLater s later → IsEntryAt s roots vehicle number e root
    → targets_file (reply_metadata s root.keys vehicle number e.at e.plan) ≡ targets_file (reply_metadata later root.keys vehicle number e.at e.plan)
file_stays k s later roots vehicle number e root sound is at =
    let grounded = nth_at (IsGrounded s) at.owner.entries number e (sound.vehicles vehicle at.owner at.known).grounded at.there in
    ap (λ (ts : List Target). with_targets ts) (sym (targets_stay s later e.plan.assigned is grounded.images))
  where
    with_targets : List Target → TargetsFile
    with_targets ts = record (targets_file (reply_metadata s root.keys vehicle number e.at e.plan)) { targets = ts }

-- ---- the Director

pub heard : Formats → Keeping → DirectorIsHeard
heard formats keeping v ts stolen now p served result law given agree unforged follows safe h =
    let s = run v.rules empty_state ts in
    let roots = roots_of v.rules empty_state ts in
    let is = accepted_parts v now p served result h in
    let all : Safe v ts Director stolen p.director.root.version = record { formats = formats; keeping = keeping; scheme = law; given = given; agree = agree; safe = safe } in
    let newer = served.director_roots in
    let reached = true_roots v ts Director stolen p.director.root.version all newer p.director unforged.each_root (omega arith) follows in
    let same : (follow v Director p.director newer).trust ≡ is.director = latest_ok now (follow v Director p.director newer) is.director (of_file_ok Director _ (latest now (follow v Director p.director newer)) is.director is.latest) in
    let f : FollowsRoot v.rules roots Director is.director = subst (λ (t : Trust). FollowsRoot v.rules roots Director t) same reached.0 in
    let from : p.director.root.version ≤ is.director.root.version = subst (λ (t : Trust). p.director.root.version ≤ t.root.version) same reached.1 in
    let root = root_file v.rules Director is.director.root.version f.root in
    let signed : is_signed_for v root.targets is.checked.envelope ≡ true = ap (λ (r : RootFile). is_signed_for v r.targets is.checked.envelope) (sym f.is) ∙ is.checked.signed in
    let was = machine_signed v ts stolen served.reply.files.targets unforged.of_targets Director is.director.root.version f.root f.there root.targets (of_targets root) (safe is.director.root.version f.root from f.there).1 is.checked.envelope
    (enveloped MeansTargets targets_in formats.meaning.targets served.reply.files.targets result.targets is.checked.envelope is.checked.read) signed in
    let way = on_the_way keeping v.rules ts was.0 was.1 law given agree was.2 in
    let earlier = run v.rules empty_state was.0 in
    let earlier_roots = roots_of v.rules empty_state was.0 in
    let kept : is.director.versions.targets ≡ (follow v Director p.director newer).trust.versions.targets = ap (λ (t : Trust). t.versions.targets) (sym same) in
    elim (targets_from formats v.rules earlier earlier_roots way.facts served.reply.files.targets result.targets is.checked.envelope is.checked.read was.3) [
      | inl image ↦ absurd (apart (sym (ap (λ (file : TargetsFile). file.repository) image.is) ∙ is.checked.repository))
      | inr reply ↦
          let of : reply.vehicle ≡ p.vehicle = same_some (sym (ap (λ (file : TargetsFile). file.vehicle) reply.is) ∙ is.checked.vehicle) in
          let at : IsEntryAt earlier earlier_roots p.vehicle reply.number reply.e reply.root = subst (λ (name : Name). IsEntryAt earlier earlier_roots name reply.number reply.e reply.root) of reply.at in
          let made : result.targets ≡ targets_file (reply_metadata earlier reply.root.keys p.vehicle reply.number reply.e.at reply.e.plan) =
          reply.is ∙ ap (λ (name : Name). targets_file (reply_metadata earlier reply.root.keys name reply.number reply.e.at reply.e.plan)) of in
          let number = ap (λ (file : TargetsFile). file.version) reply.is in
          let low = is.checked.version in (
            reply.number,
            reply.e,
            reply.root,
            entry_stays earlier s earlier_roots roots way.more p.vehicle reply.number reply.e reply.root way.later way.grown at,
            made ∙ file_stays v.rules earlier s earlier_roots p.vehicle reply.number reply.e reply.root way.facts.sound way.later at,
            omega (arith, number, low, kept),
          )
    ]
  where
    apart : Image ≡ Director → ⊥
    apart h = cc

    same_some : {A : Type 0} {x y : A} → ◌≡◌ {A = Option A} (Some x) (Some y) → x ≡ y
    same_some h = cc
