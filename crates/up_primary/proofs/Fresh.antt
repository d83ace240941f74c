-- What is accepted of the Director is of a manifest of the last seven days.
use Rattle.std.proofs.Common.{◌≡◌, ℕ, ◌+◌, ◌<◌, ◌≤◌, List, true, Option, Some, Ok, inl, inr, refl, sym, ap, ◌∙◌, subst, arith}
use Rattle.std.specs.Prelude.{◌&&◌, ◌==◌, nat_lt}
use Rattle.std.proofs.lemmas.Bool.{and_parts, eqb-true}
use Rattle.std.proofs.lemmas.Bool.Decides.{nat_tests}
use Rattle.up_canon.specs.Names.{Name}
use Rattle.up_canon.proofs.Steps.{first_ok, same_ok, unless_ok, one_value}
use Rattle.up_sign.specs.declared.envelope.Envelope.{Envelope}
use Rattle.up_roles.specs.declared.repository.Repository.TheVariants.{Director, Image}
use Rattle.up_roles.specs.declared.root.RootFile.{RootFile}
use Rattle.up_roles.specs.declared.targets.TargetsFile.{TargetsFile}
use Rattle.up_roles.specs.declared.timestamp.TimestampFile.{TimestampFile}
use Rattle.up_roles.specs.Meaning.{MeansTimestamp}
use Rattle.up_roles.specs.Timestamp.{timestamp_in}
use Rattle.up_metadata.specs.declared.role_files.RoleTexts.{RoleTexts}
use Rattle.up_metadata.specs.Files.{root_file}
use Rattle.up_machine.specs.State.{Entry, Vehicle, empty_state, nth}
use Rattle.up_machine.specs.Machine.{run}
use Rattle.up_machine.specs.Made.{roots_of}
use Rattle.up_verify.specs.declared.trust.Trust.{Trust}
use Rattle.up_verify.specs.declared.trust.Primary.{Primary}
use Rattle.up_verify.specs.declared.served.Reply.{Reply}
use Rattle.up_verify.specs.declared.served.Served.{Served}
use Rattle.up_verify.specs.declared.served.Checked.{Checked}
use Rattle.up_verify.specs.declared.served.Accepted.{Accepted}
use Rattle.up_verify.specs.Verifiers.{Verifier, is_signed_for}
use Rattle.up_verify.specs.Roots.{follow, latest}
use Rattle.up_verify.specs.declared.asked.Asked.{Asked}
use Rattle.up_verify.specs.Files.{check_file, check_timestamp, check_files}
use Rattle.up_verify.specs.Verify.{are_of_version, check_reply, director_now, trusting, verify}
use Rattle.up_primary.specs.Following.{FollowsRoot}
use Rattle.up_primary.specs.Forging.{IsEntryAt}
use Rattle.up_primary.specs.Laws.{DirectorIsFresh}
use Rattle.up_primary.proofs.Heard.{same_names, entry_stays, heard, installs_parts}
use Rattle.up_primary.proofs.Honest.{of_timestamp, machine_signed}
use Rattle.up_primary.proofs.Meant.{enveloped}
use Rattle.up_primary.proofs.Runs.{Keeping, on_the_way}
use Rattle.up_primary.proofs.SignedTexts.{Formats, timestamp_from}
use Rattle.up_primary.proofs.TrueRoots.{unread_ok, same_one, of_file_ok, latest_ok, Safe, true_roots}

-- ---- what passed

pub record IsTimely (v : Verifier) (asked : Asked) (t : Trust) (bytes : List ℕ) (file : TimestampFile) : Type 0 where
  pub envelope : Envelope
  pub read : timestamp_in bytes ≡ Ok (file, envelope)
  pub repository : file.repository ≡ asked.repository
  pub vehicle : file.vehicle ≡ asked.vehicle
  pub signed : is_signed_for v t.root.timestamp envelope ≡ true
  pub expires : asked.moment < file.expires

below : (m n : ℕ) → nat_lt m n ≡ true → m < n
below m n h = grind (arith, nat_tests)

pub timestamp_parts : (v : Verifier) (asked : Asked) (t : Trust) (bytes : List ℕ) (file : TimestampFile) → check_timestamp v asked t bytes ≡ Ok file → IsTimely v asked t bytes file
unfolding check_timestamp check_file
timestamp_parts v asked t bytes file h = first_ok _ _ _ _ h (λ read is h. first_ok _ _ _ _ h (λ b checked h.
    first_ok _ _ _ _ checked (λ c repository checked. first_ok _ _ _ _ checked (λ d vehicle checked. first_ok _ _ _ _ checked (λ e signed checked. first_ok _ _ _ _ checked (λ f version checked.
    subst (λ (file : TimestampFile). IsTimely v asked t bytes file) (same_ok _ _ h) (record {
      envelope = read.1;
      read = unread_ok (timestamp_in bytes) read is;
      repository = same_one read.0.repository asked.repository (unless_ok _ _ c repository);
      vehicle = same_names read.0.vehicle asked.vehicle (unless_ok _ _ d vehicle);
      signed = unless_ok _ _ e signed;
      expires = below asked.moment read.0.expires (unless_ok _ _ b checked);
    })))))))

-- the Timestamp of files that were accepted, and its version
record HasTimely (v : Verifier) (asked : Asked) (t : Trust) (texts : RoleTexts) (checked : Checked) : Type 0 where
  pub file : TimestampFile
  pub is : IsTimely v asked t texts.timestamp file
  pub version : checked.versions.timestamp ≡ file.version
  pub targets : checked.versions.targets ≡ checked.targets.version

files_parts : (v : Verifier) (asked : Asked) (t : Trust) (texts : RoleTexts) (checked : Checked) → check_files v asked t texts ≡ Ok checked → HasTimely v asked t texts checked
unfolding check_files
files_parts v asked t texts checked h = first_ok _ _ _ _ h (λ timestamp a h. first_ok _ _ _ _ h (λ snapshot b h. first_ok _ _ _ _ h (λ targets c h.
    subst (λ (checked : Checked). HasTimely v asked t texts checked) (same_ok _ _ h) (record {
      file = timestamp;
      is = timestamp_parts v asked t texts.timestamp timestamp (of_file_ok asked.repository _ (check_timestamp v asked t texts.timestamp) timestamp a);
      version = refl;
      targets = refl;
    }))))

abbrev asks : Name → ℕ → Asked
asks vehicle now = record { repository = Director; vehicle = Some vehicle; moment = now }

-- the Timestamp of a reply has the version of its Targets
record HasOneVersion (v : Verifier) (asked : Asked) (t : Trust) (texts : RoleTexts) (targets : TargetsFile) : Type 0 where
  pub file : TimestampFile
  pub is : IsTimely v asked t texts.timestamp file
  pub version : file.version ≡ targets.version

reply_parts : (v : Verifier) (now : ℕ) (vehicle : Name) (t : Trust) (reply : Reply) (checked : Checked) → check_reply v now vehicle t reply ≡ Ok checked → HasOneVersion v (asks vehicle now) t reply.files checked.targets
unfolding check_reply
reply_parts v now vehicle t reply checked h = first_ok _ _ _ _ h (λ a wrong h. first_ok _ _ _ _ h (λ b unknown h. first_ok _ _ _ _ h (λ c old h. first_ok _ _ _ _ h (λ it is h. first_ok _ _ _ _ h (λ d mixed h.
    let has = files_parts v (asks vehicle now) t reply.files it is in
    let one : are_of_version reply.version it.versions ≡ true = unless_ok _ _ d mixed in
    let two = and_parts ((it.versions.timestamp == reply.version) && (it.versions.snapshot == reply.version)) (it.versions.targets == reply.version) one in
    let three = and_parts (it.versions.timestamp == reply.version) (it.versions.snapshot == reply.version) two.0 in
    let timestamp : it.versions.timestamp ≡ reply.version = eqb-true _ _ three.0 in
    let targets : it.versions.targets ≡ reply.version = eqb-true _ _ two.1 in
    subst (λ (checked : Checked). HasOneVersion v (asks vehicle now) t reply.files checked.targets) (same_ok _ _ h)
    (record { file = has.file; is = has.is; version = sym has.version ∙ timestamp ∙ sym targets ∙ has.targets }))))))

record IsTimelyReply (v : Verifier) (now : ℕ) (p : Primary) (served : Served) (result : Accepted) : Type 0 where
  pub director : Trust
  pub latest : director_now v now p served ≡ Ok director
  pub one : HasOneVersion v (asks p.vehicle now) director served.reply.files result.targets

accepted_parts : (v : Verifier) (now : ℕ) (p : Primary) (served : Served) (result : Accepted) → verify v now p served ≡ Ok result → IsTimelyReply v now p served result
unfolding verify
accepted_parts v now p served result h = first_ok _ _ _ _ h (λ director latest h. first_ok _ _ _ _ h (λ checked is h.
    let parts = installs_parts v now p served (trusting director checked) checked.targets checked.targets.targets result h in
    record {
      director = director;
      latest = latest;
      one = subst (λ (file : TargetsFile). HasOneVersion v (asks p.vehicle now) director served.reply.files file) (sym parts.0) (reply_parts v now p.vehicle director served.reply checked is);
    }))

-- ---- the law

pub fresh : Formats → Keeping → DirectorIsFresh
fresh formats keeping v ts stolen now p served result law given agree unforged unforged_timestamp follows safe safe_timestamps h =
    let s = run v.rules empty_state ts in
    let roots = roots_of v.rules empty_state ts in
    let made = heard formats keeping v ts stolen now p served result law given agree unforged follows safe h in
    let is = accepted_parts v now p served result h in
    let timely = is.one.is in
    let all : Safe v ts Director stolen p.director.root.version = record { formats = formats; keeping = keeping; scheme = law; given = given; agree = agree; safe = safe } in
    let newer = served.director_roots in
    let reached = true_roots v ts Director stolen p.director.root.version all newer p.director unforged.each_root (omega arith) follows in
    let same : (follow v Director p.director newer).trust ≡ is.director = latest_ok now (follow v Director p.director newer) is.director (of_file_ok Director _ (latest now (follow v Director p.director newer)) is.director is.latest) in
    let f : FollowsRoot v.rules roots Director is.director = subst (λ (t : Trust). FollowsRoot v.rules roots Director t) same reached.0 in
    let from : p.director.root.version ≤ is.director.root.version = subst (λ (t : Trust). p.director.root.version ≤ t.root.version) same reached.1 in
    let root = root_file v.rules Director is.director.root.version f.root in
    let signed : is_signed_for v root.timestamp timely.envelope ≡ true = ap (λ (r : RootFile). is_signed_for v r.timestamp timely.envelope) (sym f.is) ∙ timely.signed in
    let was = machine_signed v ts stolen served.reply.files.timestamp unforged_timestamp Director is.director.root.version f.root f.there root.timestamp (of_timestamp root) (safe_timestamps is.director.root.version f.root from f.there)
    timely.envelope (enveloped MeansTimestamp timestamp_in formats.meaning.timestamp served.reply.files.timestamp is.one.file timely.envelope timely.read) signed in
    let way = on_the_way keeping v.rules ts was.0 was.1 law given agree was.2 in
    let earlier = run v.rules empty_state was.0 in
    elim (timestamp_from formats v.rules earlier (roots_of v.rules empty_state was.0) way.facts served.reply.files.timestamp is.one.file timely.envelope timely.read was.3) [
      | inl image ↦ absurd (apart (sym (ap (λ (file : TimestampFile). file.repository) image.is) ∙ timely.repository))
      | inr reply ↦
          let of : reply.vehicle ≡ p.vehicle = same_some (sym (ap (λ (file : TimestampFile). file.vehicle) reply.is) ∙ timely.vehicle) in
          let at : IsEntryAt s roots p.vehicle reply.number reply.e reply.root =
          subst (λ (name : Name). IsEntryAt s roots name reply.number reply.e reply.root) of
          (entry_stays earlier s (roots_of v.rules empty_state was.0) roots way.more reply.vehicle reply.number reply.e reply.root way.later way.grown reply.at) in
          let number : reply.number ≡ made.0 = sym (ap (λ (file : TimestampFile). file.version) reply.is) ∙ is.one.version ∙ ap (λ (file : TargetsFile). file.version) made.4 in
          let owner : at.owner ≡ made.3.owner = one_value _ _ _ at.known made.3.known in
          let there : nth made.3.owner.entries made.0 ≡ Some reply.e = sym (ap (λ n. nth made.3.owner.entries n) number) ∙ (sym (ap (λ (w : Vehicle). nth w.entries reply.number) owner) ∙ at.there) in
          let entry : reply.e ≡ made.1 = one_value _ _ _ there made.3.there in
          let moment : reply.e.at ≡ made.1.at = ap (λ (e : Entry). e.at) entry in
          let expires : is.one.file.expires ≡ reply.e.at + 604_800 = ap (λ (file : TimestampFile). file.expires) reply.is in
          let late = timely.expires in
          (made.0, made.1, made.2, made.3, made.4, omega (arith, moment, expires, late))
    ]
  where
    apart : Image ≡ Director → ⊥
    apart h = cc

    same_some : {A : Type 0} {x y : A} → ◌≡◌ {A = Option A} (Some x) (Some y) → x ≡ y
    same_some h = cc
