-- Versions of what is published never fall.
use Rattle.std.proofs.Common.{◌≡◌, ℕ, ◌≤◌, List, ◌++◌, true, Some, Ok, inl, inr, length, refl, sym, ap, ◌∙◌, subst, arith, length-append}
use Rattle.std.specs.Prelude.{option_map, Result}
use Rattle.std.specs.FinMap as table
use Rattle.up_canon.specs.Names.{Name}
use Rattle.up_canon.specs.declared.refusal.Refusal.{Refusal}
use Rattle.up_canon.proofs.Steps.{and_then_some, map_some, one_value}
use Rattle.up_sign.specs.Schemes.{Rules}
use Rattle.up_sign.specs.declared.envelope.Envelope.{Envelope}
use Rattle.up_roles.specs.declared.repository.Repository.{Repository}
use Rattle.up_roles.specs.declared.repository.Repository.TheVariants.{Director, Image}
use Rattle.up_metadata.specs.declared.role_files.RoleTexts.{RoleTexts}
use Rattle.up_metadata.specs.Files.{Root, MetadataSet, targets_file, targets_text, snapshot_file, snapshot_text, timestamp_file, timestamp_text, role_texts}
use Rattle.up_machine.specs.declared.answer.Answer.TheVariants.{Refused, Reply as Replied}
use Rattle.up_machine.specs.declared.answer.Reply.{Reply}
use Rattle.up_machine.specs.declared.command.Command.TheVariants.{Deliver}
use Rattle.up_machine.specs.Deciding.{Outcome}
use Rattle.up_machine.specs.Files.{image_metadata}
use Rattle.up_machine.specs.Laws.{IsLaterChain, IsLater, KeptRepliesOutlastRuns, EmptyIsSound, RunsStaySound}
use Rattle.up_machine.specs.Machine.{step, run}
use Rattle.up_machine.specs.Replies.{reply_to, kept_reply}
use Rattle.up_machine.specs.Made.{roots_of}
use Rattle.up_machine.specs.State.{Vehicle, State, empty_state, nth, is_founded, chain_of}
use Rattle.up_machine.proofs.Growing.{grow_on}
use Rattle.up_machine.proofs.Keeping.{there as is_there}
use Rattle.up_machine.proofs.Places.{nth_stays, nth_there}
use Rattle.up_laws.specs.Readings.{AreReadAgain}
use Rattle.up_primary.specs.Laws.{ImageFilesAreReadAgain, RootsAreFetched}
use Rattle.up_primary.proofs.ManyRoots.{number_within}
use Rattle.up_uptane.specs.Deliveries.{IsAccepted, DeliveriesChangeTheirOwn}
use Rattle.up_uptane.specs.Versions.{NeverFalls, ImageNeverFalls, ImageVersionsNeverFall, RootVersionsNeverFall, RepliesRise, RepliesStayKept}
use Rattle.up_uptane.proofs.Published.{Moves, moves, targets_at, snapshot_at, timestamp_at}
use Rattle.up_uptane.proofs.Reaching.{Reaching, Reached, reach, further}

-- ---- Root versions

pub chain_later : (s t : State) (repository : Repository) → IsLater s t → IsLaterChain (chain_of repository s) (chain_of repository t)
chain_later s t Director later = later.director
chain_later s t Image later = later.image

-- a text stays under its number
pub text_stays : (s t : State) (repository : Repository) (i : ℕ) (text : List ℕ) → IsLater s t → nth (chain_of repository s).texts i ≡ Some text → nth (chain_of repository t).texts i ≡ Some text
text_stays s t repository i text later there =
    let grown = chain_later s t repository later in
    ap (λ (texts : List (List ℕ)). nth texts i) grown.1 ∙ nth_stays (chain_of repository s).texts grown.0 i text there

no_fewer : (s t : State) (repository : Repository) → IsLater s t → length (chain_of repository s).texts ≤ length (chain_of repository t).texts
no_fewer s t repository later =
    let grown = chain_later s t repository later in
    let sum = ap length grown.1 in
    let parts = length-append (chain_of repository s).texts grown.0 in
    omega (arith, sum, parts)

pub roots_never_fall : EmptyIsSound → RunsStaySound → RootsAreFetched → RootVersionsNeverFall
roots_never_fall empty stay fetched k ts us repository given more =
    let s = run k empty_state ts in
    let t = run k s us in
    let sound = stay k empty_state ts given (empty k) in
    let later = grow_on k s us in
    record {
      no_fewer = no_fewer s t repository later;
      each = λ i low high.
          let it = nth_there (chain_of repository s).texts i low high in
          (it.0, fetched k s repository i it.0 sound it.1, fetched k t repository i it.0 (stay k s us more sound) (text_stays s t repository i it.0 later it.1));
    }

-- ---- the Image repository's files

never : {F : Type 0} (reading : List ℕ → Result (F × Envelope) Refusal) (version_of : F → ℕ) (text_of : MetadataSet → List ℕ) (file_of : MetadataSet → F) (m n : MetadataSet) (e f : Envelope)
    → ((m : MetadataSet) → version_of (file_of m) ≡ m.version)
    → reading (text_of m) ≡ Ok (file_of m, e) → reading (text_of n) ≡ Ok (file_of n, f) → m.version ≤ n.version → (m.version ≡ n.version → m ≡ n) → NeverFalls reading version_of (text_of m) (text_of n)
never reading version_of text_of file_of m n e f versions first second low same =
    let a = versions m in
    let b = versions n in
    record {
      first = file_of m;
      first_sealed = e;
      first_read = first;
      second = file_of n;
      second_sealed = f;
      second_read = second;
      no_lower = omega (arith, low, a, b);
      one_text = λ h. ap text_of (same (sym a ∙ h ∙ b));
    }

by_moves : (s t : State) → Moves s t → (s.image_version ≤ t.image_version) × (s.image_version ≡ t.image_version → image_metadata s ≡ image_metadata t)
by_moves s t (inl same) = let version = ap (λ (m : MetadataSet). m.version) same in (omega (arith, version), λ h. same)
by_moves s t (inr more) = (omega (arith, more), λ h. absurd (omega (arith, more, h)))

image_never_falls : (k : Rules) (s t : State) → s.files ≡ Some (role_texts k (image_metadata s)) → t.files ≡ Some (role_texts k (image_metadata t)) → Moves s t
    → AreReadAgain k (image_metadata s) → AreReadAgain k (image_metadata t) → ImageNeverFalls s t
image_never_falls k s t here there moved first second =
    let m = image_metadata s in
    let n = image_metadata t in
    let is = by_moves s t moved in
    record {
      targets = record {
        first = targets_text k m;
        was = targets_at s (role_texts k m) here;
        second = targets_text k n;
        is = targets_at t (role_texts k n) there;
        never = never _ (λ f. f.version) (targets_text k) targets_file m n _ _ (λ m. refl) first.targets.read second.targets.read is.0 is.1;
      };
      snapshot = record {
        first = snapshot_text k m;
        was = snapshot_at s (role_texts k m) here;
        second = snapshot_text k n;
        is = snapshot_at t (role_texts k n) there;
        never = never _ (λ f. f.version) (snapshot_text k) snapshot_file m n _ _ (λ m. refl) first.snapshot.read second.snapshot.read is.0 is.1;
      };
      timestamp = record {
        first = timestamp_text k m;
        was = timestamp_at s (role_texts k m) here;
        second = timestamp_text k n;
        is = timestamp_at t (role_texts k n) there;
        never = never _ (λ f. f.version) (timestamp_text k) (timestamp_file k) m n _ _ (λ m. refl) first.timestamp.read second.timestamp.read is.0 is.1;
      };
    }

-- what is published where something is founded
pub published_files : (k : Rules) (s : State) (roots : List Root) → Reached k s roots → is_founded s ≡ true → s.files ≡ Some (role_texts k (image_metadata s))
published_files k s roots at founded =
    let texts = is_there s.files founded in
    texts.1 ∙ ap (λ (files : RoleTexts). Some files) (at.made.files texts.0 texts.1)

pub images_never_fall : Reaching → ImageFilesAreReadAgain → ImageVersionsNeverFall
images_never_fall keeping again k ts us law given more founded =
    let s = run k empty_state ts in
    let t = run k s us in
    let roots = roots_of k empty_state ts in
    let at = reach keeping k ts given in
    let then = further keeping k s roots us more at in
    let moved = moves k s us founded in
    image_never_falls k s t (published_files k s roots at founded) (published_files k t (roots ++ roots_of k s us) then moved.1) moved.0
    (again k s law at.sound at.typed founded) (again k t law then.sound then.typed moved.1)

-- ---- vehicles

within : (s : State) (vehicle : Name) (v : Vehicle) (number : ℕ) (reply : Reply) → table.get s.vehicles vehicle ≡ Some v → kept_reply s vehicle number ≡ Some reply → number ≤ length v.entries
within s vehicle v number reply there h =
    let found = and_then_some (λ (v : Vehicle). option_map (reply_to vehicle number) (nth v.entries number)) (table.get s.vehicles vehicle) reply h in
    let same : found.0 ≡ v = one_value _ _ _ found.1 there in
    let entry = map_some (reply_to vehicle number) (nth found.0.entries number) reply found.2 in
    number_within v.entries number entry.0 (subst (λ (x : Vehicle). nth x.entries number ≡ Some entry.0) same entry.1)

pub rise : KeptRepliesOutlastRuns → DeliveriesChangeTheirOwn → RepliesRise
rise outlast own k ts us number at body old new told kept =
    let s = run k empty_state ts in
    let t = run k s us in
    let still = outlast k s us new.vehicle number old kept in
    elim (own k t at body) [
      | inl refused ↦ absurd (differ refused.0 (ap (λ (o : Outcome). o.answer) (sym refused.1) ∙ told))
      | inr it ↦
          let same : it.0 ≡ new = same_reply it.0 new (sym it.1 ∙ told) in
          let is : IsAccepted t body new (step k t at (Deliver body)).next = subst (λ (r : Reply). IsAccepted t body r (step k t at (Deliver body)).next) same it.2 in
          let low = within t new.vehicle is.before number old is.there still in
          let raised = is.raised in
          omega (arith, low, raised)
    ]
  where
    differ : (r : Refusal) → Refused r ≡ Replied new → ⊥
    differ r h = cc

    same_reply : (a b : Reply) → Replied a ≡ Replied b → a ≡ b
    same_reply a b h = cc

pub stay_kept : KeptRepliesOutlastRuns → RepliesStayKept
stay_kept outlast k ts us vehicle number reply kept = outlast k (run k empty_state ts) us vehicle number reply kept
