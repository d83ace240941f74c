-- What each decision that ends in a next state has checked, and what that state is.
use Rattle.std.proofs.Common.{◌≡◌, ℕ, ◌+◌, ◌≤◌, ◌<◌, ◌++◌, List, [], ◌∷◌, Bool, true, false, Option, Some, None, Result, Ok, Err, ◌⊎◌, inl, inr, refl, sym, ap, ◌∙◌, subst, arith}
use Rattle.std.specs.Prelude.{⊤, nat_le, nat_lt, ◌||◌, ◌&&◌, ◌==◌, is_some, if◌then◌else◌, option_and_then, codes}
use Rattle.std.specs.Cmp.Lexicographic.{pointwise, bytes_decides}
use Rattle.std.proofs.lemmas.Bool.Decides.{nat_tests}
use Rattle.up_canon.specs.Names.{Table}
use Rattle.up_canon.specs.declared.refusal.Refusal.{Refusal}
use Rattle.up_canon.specs.declared.refusal.Refusal.TheVariants.{BadShape, ImageTaken}
use Rattle.up_canon.proofs.Steps.{first_ok, same_ok, or_error_ok, refuse_if_ok, unless_ok}
use Rattle.up_sign.specs.Schemes.{Rules}
use Rattle.up_sign.specs.Formats.{envelope_text}
use Rattle.up_sign.specs.declared.envelope.Envelope.{Envelope}
use Rattle.up_roles.specs.declared.repository.Repository.{Repository}
use Rattle.up_roles.specs.declared.repository.Repository.TheVariants.{Director, Image}
use Rattle.up_roles.specs.declared.root.RootFile.{RootFile}
use Rattle.up_roles.specs.declared.targets.TargetsFile.{TargetsFile}
use Rattle.up_roles.specs.Root.{root_in}
use Rattle.up_roles.specs.Targets.{targets_in}
use Rattle.up_plan.specs.Images.{ImageData}
use Rattle.up_metadata.specs.declared.keys.KeySet.{KeySet}
use Rattle.up_metadata.specs.declared.role_files.RoleTexts.{RoleTexts}
use Rattle.up_machine.specs.Repositories.{same_image}
use Rattle.up_brought.specs.declared.fault.Fault.TheVariants.{Known}
use Rattle.up_brought.specs.Faults.{known}
use Rattle.up_shown.specs.Showing.{Showing}
use Rattle.up_metadata.proofs.Lists.{and_left, and_right}
use Rattle.up_brought.specs.Shown.{accepts, shows_keys, roles_are_apart, in_one_spelling}
use Rattle.up_offline.specs.State.{Chain, State, is_offline, is_founded, root_number, last_root}
use Rattle.up_offline.specs.Making.{Listing, image_targets, made_targets, made_listing, with_files}
use Rattle.up_metadata.specs.declared.keys.RepoKeys.{RepoKeys}
use Rattle.up_brought.specs.declared.brought.BroughtRoot.{BroughtRoot}
use Rattle.up_brought.specs.Brought.{held_keys, next_keys, same_repository, root_read, same_target, accepted_before, test_root, check_root, check_listing, test_targets, check_targets, check_kept}
use Rattle.up_offline.specs.Publications.{Publication, next_chain, chain_with, are_apart, brought_targets, kept_targets, next_targets}
use Rattle.up_offline.specs.Repositories.{Decided, decide_found, decide_rotate, decide_publish, decide_new_image, decide_image, decide_refresh, where_new, with_roots, with_image, stamped, refreshed, next_of}

-- ---- steps

-- what holds of the state where nothing changes, and of each next state, holds after the step
pub by_decision : (s : State) (d : Decided) (P : State → Type 0) → P s → ((next : State) → d ≡ Ok (Some next) → P next) → P (next_of s d)
by_decision s (Ok (Some next)) P here go = go next refl
by_decision s (Ok None) P here go = here
by_decision s (Err fault) P here go = here

pub known_ok : {A : Type 0} (r : Result A Refusal) (x : A) → known r ≡ Ok x → r ≡ Ok x
known_ok (Ok y) x h = cc
known_ok (Err e) x h = cc

pub next_is : (a b : State) → ◌≡◌ {A = Decided} (Ok (Some a)) (Ok (Some b)) → a ≡ b
next_is a b h = cc

or_true : (a : Bool) → (a || true) ≡ true
or_true true = refl
or_true false = refl

-- ---- Targets

pub made_version : (k : Rules) (s : State) (at version : ℕ) → (made_listing k s at version).version ≡ version
unfolding made_targets
made_version k s at version = refl

-- what was read of Targets is signed for the last Root, and lists just the registered images
pub record IsListed (k : Showing) (s : State) (file : TargetsFile) (envelope : Envelope) : Type 0 where
  pub root : RootFile
  pub last : option_and_then root_read (last_root s.image) ≡ Some root
  pub signed : accepts k root.targets envelope ≡ true
  pub lists : pointwise same_target file.targets (image_targets s) ≡ true

pub listing_ok : (k : Showing) (s : State) (file : TargetsFile) (envelope : Envelope) (x : ⊤) → check_listing k (last_root s.image) (image_targets s) file envelope ≡ Ok x → IsListed k s file envelope
unfolding check_listing
listing_ok k s file envelope x h = first_ok _ _ _ _ h (λ root there h. first_ok _ _ _ _ h (λ a signed h.
    record { root = root; last = or_error_ok _ _ _ there; signed = unless_ok _ _ _ signed; lists = unless_ok _ _ _ h }))

pub record AreBrought (k : Showing) (s : State) (at : ℕ) (text : List ℕ) (targets : Listing) : Type 0 where
  pub file : TargetsFile
  pub envelope : Envelope
  pub read : targets_in text ≡ Ok (file, envelope)
  pub spelled : text ≡ envelope_text envelope
  pub lasts : at < file.expires
  pub version : file.version ≡ targets.version
  pub above : s.targets_version < targets.version
  pub below : targets.version ≤ s.image_version + 1
  pub listed : IsListed k s file envelope
  pub is : targets.text ≡ text

pub spelled_ok : {F : Type 0} (reading : List ℕ → Result (F × Envelope) Refusal) (text : List ℕ) (read : F × Envelope) → in_one_spelling reading text ≡ Ok read
    → (reading text ≡ Ok read) × (text ≡ envelope_text read.1)
unfolding in_one_spelling
spelled_ok {F = F} reading text read h = first_ok _ _ _ _ h (λ r is h. first_ok _ _ _ _ h (λ a spelled h.
    let same : r ≡ read = same_ok _ _ h in
    (is ∙ ap (λ x. Ok x) same, (bytes_decides text (envelope_text r.1)).0 (unless_ok _ _ a spelled) ∙ ap (λ (x : F × Envelope). envelope_text x.1) same)))

record AreTested (k : Showing) (s : State) (at : ℕ) (file : TargetsFile) (envelope : Envelope) : Type 0 where
  pub lasts : at < file.expires
  pub above : s.targets_version < file.version
  pub below : file.version ≤ s.image_version + 1
  pub listed : IsListed k s file envelope

tested_ok : (k : Showing) (s : State) (at : ℕ) (file : TargetsFile) (envelope : Envelope) (x : ⊤)
    → test_targets k (last_root s.image) (image_targets s) s.targets_version (s.image_version + 1) at file envelope ≡ Ok x → AreTested k s at file envelope
unfolding test_targets
tested_ok k s at file envelope x h = first_ok _ _ _ _ h (λ a other h. first_ok _ _ _ _ h (λ b greater h. first_ok _ _ _ _ h (λ c few h. first_ok _ _ _ _ h (λ d time h.
    let above : nat_le file.version s.targets_version ≡ false = refuse_if_ok _ _ b greater in
    let below : nat_lt (s.image_version + 1) file.version ≡ false = refuse_if_ok _ _ c few in
    let lasts : nat_le file.expires at ≡ false = refuse_if_ok _ _ d time in
    record { lasts = grind (arith, nat_tests); above = grind (arith, nat_tests); below = grind (arith, nat_tests); listed = listing_ok k s file envelope x h }))))

record AreChecked (k : Showing) (s : State) (at : ℕ) (text : List ℕ) (file : TargetsFile) : Type 0 where
  pub envelope : Envelope
  pub read : targets_in text ≡ Ok (file, envelope)
  pub spelled : text ≡ envelope_text envelope
  pub tested : AreTested k s at file envelope

checked_ok : (k : Showing) (s : State) (at : ℕ) (text : List ℕ) (file : TargetsFile)
    → check_targets k (last_root s.image) (image_targets s) s.targets_version (s.image_version + 1) at text ≡ Ok file → AreChecked k s at text file
unfolding check_targets
checked_ok k s at text file h = first_ok _ _ _ _ h (λ read is h. first_ok _ _ _ _ h (λ a tested h.
    subst (AreChecked k s at text) (same_ok _ _ h) (record {
      envelope = read.1;
      read = (spelled_ok targets_in text read (known_ok _ _ is)).0;
      spelled = (spelled_ok targets_in text read (known_ok _ _ is)).1;
      tested = tested_ok k s at read.0 read.1 a tested;
    })))

pub brought_ok : (k : Showing) (s : State) (at : ℕ) (text : List ℕ) (targets : Listing) → brought_targets k s at text ≡ Ok targets → AreBrought k s at text targets
unfolding brought_targets
brought_ok k s at text targets h = first_ok _ _ _ _ h (λ file is h.
    let checked = checked_ok k s at text file is in
    let same : ◌≡◌ {A = Listing} (record { text = text; version = file.version }) targets = same_ok _ _ h in
    record {
      file = file;
      envelope = checked.envelope;
      read = checked.read;
      spelled = checked.spelled;
      lasts = checked.tested.lasts;
      version = ap (λ (t : Listing). t.version) same;
      above = subst (λ (t : Listing). s.targets_version < t.version) same checked.tested.above;
      below = subst (λ (t : Listing). t.version ≤ s.image_version + 1) same checked.tested.below;
      listed = checked.tested.listed;
      is = ap (λ (t : Listing). t.text) (sym same);
    })

pub record AreKept (k : Showing) (s : State) (targets : Listing) : Type 0 where
  pub files : RoleTexts
  pub there : s.files ≡ Some files
  pub file : TargetsFile
  pub envelope : Envelope
  pub read : targets_in files.targets ≡ Ok (file, envelope)
  pub listed : IsListed k s file envelope
  pub is : targets ≡ record { text = files.targets; version = s.targets_version }

record AreListed (k : Showing) (s : State) (text : List ℕ) : Type 0 where
  pub file : TargetsFile
  pub envelope : Envelope
  pub read : targets_in text ≡ Ok (file, envelope)
  pub listed : IsListed k s file envelope

listed_ok : (k : Showing) (s : State) (text : List ℕ) (x : ⊤) → check_kept k (last_root s.image) (image_targets s) text ≡ Ok x → AreListed k s text
unfolding check_kept
listed_ok k s text x h = first_ok _ _ _ _ h (λ read is h. record { file = read.0; envelope = read.1; read = known_ok _ _ is; listed = listing_ok k s read.0 read.1 x h })

pub kept_ok : (k : Showing) (s : State) (targets : Listing) → kept_targets k s ≡ Ok targets → AreKept k s targets
unfolding kept_targets
kept_ok k s targets h = first_ok _ _ _ _ h (λ files there h. first_ok _ _ _ _ h (λ a listed h.
    let are = listed_ok k s files.targets a listed in
    record { files = files; there = or_error_ok _ _ _ there; file = are.file; envelope = are.envelope; read = are.read; listed = are.listed; is = sym (same_ok _ _ h) }))

-- they stay, were brought, or the server made them
pub data Come (k : Showing) (s : State) (at : ℕ) (brought : Option (List ℕ)) (targets : Listing) : Type 0 where
  stayed : is_offline s.image.keys.targets ≡ true → AreKept k s targets → Come k s at brought targets
  came : is_offline s.image.keys.targets ≡ true → (text : List ℕ) → brought ≡ Some text → AreBrought k s at text targets → Come k s at brought targets
  made : is_offline s.image.keys.targets ≡ false → targets ≡ made_listing k.rules s at (s.image_version + 1) → Come k s at brought targets

pub targets_ok : (k : Showing) (s : State) (at : ℕ) (brought : Option (List ℕ)) (targets : Listing) → next_targets k s at brought ≡ Ok targets → Come k s at brought targets
unfolding next_targets
targets_ok k s at None targets h = by_test (is_offline s.image.keys.targets) refl h
  where
    by_test : (b : Bool) → is_offline s.image.keys.targets ≡ b → (if b then kept_targets k s else Ok (made_listing k.rules s at (s.image_version + 1))) ≡ Ok targets → Come k s at None targets
    by_test true is h = stayed is (kept_ok k s targets h)
    by_test false is h = made is (sym (same_ok _ _ h))
targets_ok k s at (Some text) targets h = by_test (is_offline s.image.keys.targets) refl h
  where
    by_test : (b : Bool) → is_offline s.image.keys.targets ≡ b → (if b then brought_targets k s at text else Err (Known (BadShape (codes "targets")))) ≡ Ok targets → Come k s at (Some text) targets
    by_test true is h = came is text refl (brought_ok k s at text targets h)
    by_test false is h = cc

-- ---- root versions

pub record IsNextRoot (k : Showing) (at : ℕ) (chain : Chain) (text : List ℕ) (next : Chain) : Type 0 where
  pub file : RootFile
  pub envelope : Envelope
  pub read : root_in text ≡ Ok (file, envelope)
  pub spelled : text ≡ envelope_text envelope
  pub lasts : at < file.expires
  pub number : file.version ≡ root_number chain + 1
  pub before : accepted_before k (last_root chain) envelope ≡ true
  pub own : accepts k file.root envelope ≡ true
  pub texts : next.texts ≡ chain.texts ++ text ∷ []
  pub root : is_offline next.keys.root ≡ true

record IsPassed (k : Showing) (repository : Repository) (at : ℕ) (chain : Chain) (file : RootFile) (envelope : Envelope) : Type 0 where
  pub repository_is : same_repository repository file.repository ≡ true
  pub shown : shows_keys k file ≡ true
  pub apart : roles_are_apart file ≡ true
  pub lasts : at < file.expires
  pub number : file.version ≡ root_number chain + 1
  pub before : accepted_before k (last_root chain) envelope ≡ true
  pub own : accepts k file.root envelope ≡ true

passed_ok : (k : Showing) (repository : Repository) (chain : Chain) (at : ℕ) (file : RootFile) (envelope : Envelope) (x : ⊤)
    → test_root k repository (root_number chain) (last_root chain) at file envelope ≡ Ok x → IsPassed k repository at chain file envelope
unfolding test_root
passed_ok k repository chain at file envelope x h = first_ok _ _ _ _ h (λ a other h. first_ok _ _ _ _ h (λ b keys h. first_ok _ _ _ _ h (λ c room h. first_ok _ _ _ _ h (λ d version h. first_ok _ _ _ _ h (λ e time h. first_ok _ _ _ _ h (λ f before h.
    let test : (file.version == root_number chain + 1) ≡ true = unless_ok _ _ d version in
    let lasts : nat_le file.expires at ≡ false = refuse_if_ok _ _ e time in
    record {
      repository_is = unless_ok _ _ a other;
      shown = and_left _ (roles_are_apart file) (unless_ok _ _ b keys);
      apart = and_right (shows_keys k file) _ (unless_ok _ _ b keys);
      lasts = grind (arith, nat_tests);
      number = grind (arith, nat_tests);
      before = unless_ok _ _ f before;
      own = unless_ok _ _ x h;
    }))))))

pub record IsReadRoot (k : Showing) (repository : Repository) (at : ℕ) (chain : Chain) (text : List ℕ) (file : RootFile) : Type 0 where
  pub envelope : Envelope
  pub read : root_in text ≡ Ok (file, envelope)
  pub spelled : text ≡ envelope_text envelope
  pub repository_is : same_repository repository file.repository ≡ true
  pub shown : shows_keys k file ≡ true
  pub apart : roles_are_apart file ≡ true
  pub lasts : at < file.expires
  pub number : file.version ≡ root_number chain + 1
  pub before : accepted_before k (last_root chain) envelope ≡ true
  pub own : accepts k file.root envelope ≡ true

pub root_ok : (k : Showing) (repository : Repository) (chain : Chain) (at : ℕ) (text : List ℕ) (file : RootFile) → check_root k repository (root_number chain) (last_root chain) at text ≡ Ok file → IsReadRoot k repository at chain text file
unfolding check_root
root_ok k repository chain at text file h = first_ok _ _ _ _ h (λ read is h. first_ok _ _ _ _ h (λ a tested h.
    let passed = passed_ok k repository chain at read.0 read.1 a tested in
    subst (IsReadRoot k repository at chain text) (same_ok _ _ h) (record {
      envelope = read.1;
      read = (spelled_ok root_in text read (known_ok _ _ is)).0;
      spelled = (spelled_ok root_in text read (known_ok _ _ is)).1;
      lasts = passed.lasts;
      number = passed.number;
      repository_is = passed.repository_is;
      shown = passed.shown;
      apart = passed.apart;
      before = passed.before;
      own = passed.own;
    })))

-- the Root of which these keys are held
pub record HasKeys (k : Showing) (repository : Repository) (at : ℕ) (chain : Chain) (brought : BroughtRoot) (keys : RepoKeys) : Type 0 where
  pub file : RootFile
  pub root : IsReadRoot k repository at chain brought.text file
  pub held : held_keys k repository file chain.keys brought ≡ Ok keys

pub keys_ok : (k : Showing) (repository : Repository) (at : ℕ) (chain : Chain) (brought : BroughtRoot) (keys : RepoKeys)
    → next_keys k repository (root_number chain) (last_root chain) at chain.keys brought ≡ Ok keys → HasKeys k repository at chain brought keys
unfolding next_keys
keys_ok k repository at chain brought keys h = first_ok _ _ _ _ h (λ file is h. record { file = file; root = root_ok k repository chain at brought.text file is; held = h })

off_ok : (k : Showing) (repository : Repository) (file : RootFile) (present : RepoKeys) (brought : BroughtRoot) (keys : RepoKeys) → held_keys k repository file present brought ≡ Ok keys → is_offline keys.root ≡ true
unfolding held_keys
off_ok k repository file present brought keys h = first_ok _ _ _ _ h (λ targets a h. first_ok _ _ _ _ h (λ snapshot b h. first_ok _ _ _ _ h (λ timestamp c h.
    ap (λ (r : RepoKeys). is_offline r.root) (sym (same_ok _ _ h)))))

pub chain_ok : (k : Showing) (repository : Repository) (at : ℕ) (chain : Chain) (brought : BroughtRoot) (next : Chain) → next_chain k repository at chain brought ≡ Ok next → IsNextRoot k at chain brought.text next
unfolding next_chain
chain_ok k repository at chain brought next h = first_ok _ _ _ _ h (λ keys is h.
    let held = keys_ok k repository at chain brought keys is in
    let root = held.root in
    subst (IsNextRoot k at chain brought.text) (same_ok _ _ h) (record {
      file = held.file;
      envelope = root.envelope;
      read = root.read;
      spelled = root.spelled;
      lasts = root.lasts;
      number = root.number;
      before = root.before;
      own = root.own;
      texts = refl;
      root = off_ok k repository held.file chain.keys brought keys held.held;
    }))

-- a repository stays as it is, or a Root was brought
pub chain_with_ok : (k : Showing) (repository : Repository) (at : ℕ) (chain : Chain) (brought : Option BroughtRoot) (next : Chain) → chain_with k repository at chain brought ≡ Ok next
    → (next ≡ chain) ⊎ ((text : List ℕ) × IsNextRoot k at chain text next)
chain_with_ok k repository at chain None next h = inl (sym (same_ok _ _ h))
chain_with_ok k repository at chain (Some brought) next h = inr (brought.text, chain_ok k repository at chain brought next h)

-- ---- commands

-- a second founding is refused
pub found_ok : (k : Rules) (s : State) (at : ℕ) (keys : KeySet) (next : State) → is_founded s ≡ true → decide_found k s at keys ≡ Ok (Some next) → ⊥
unfolding decide_found
found_ok k s at keys next there h = first_ok _ _ _ _ h (λ a moment h. first_ok _ _ _ _ h (λ b fit h. first_ok _ _ _ _ h (λ c none h.
    let test = refuse_if_ok (is_founded s) _ c none in
    cc)))

pub record IsRotated (k : Rules) (s : State) (at : ℕ) (keys : KeySet) (next : State) : Type 0 where
  pub director : is_offline s.director.keys.root ≡ false
  pub image : is_offline s.image.keys.root ≡ false
  pub is : stamped k (with_roots k s at keys) at (s.image_version + 1) ≡ next

neither : (a b : Bool) → (a || b) ≡ false → (a ≡ false) × (b ≡ false)
neither true b h = cc
neither false b h = (refl, h)

pub rotate_ok : (k : Rules) (s : State) (at : ℕ) (keys : KeySet) (next : State) → decide_rotate k s at keys ≡ Ok (Some next) → IsRotated k s at keys next
unfolding decide_rotate
rotate_ok k s at keys next h = first_ok _ _ _ _ h (λ a moment h. first_ok _ _ _ _ h (λ b fit h. first_ok _ _ _ _ h (λ c there h. first_ok _ _ _ _ h (λ d held h. first_ok _ _ _ _ h (λ e room h. first_ok _ _ _ _ h (λ f below h.
    let both = neither (is_offline s.director.keys.root) (is_offline s.image.keys.root) (refuse_if_ok _ _ d held) in
    record { director = both.0; image = both.1; is = next_is _ _ h }))))))

pub record IsPublished (k : Showing) (s : State) (at : ℕ) (p : Publication) (next : State) : Type 0 where
  pub founded : (is_founded s || (is_some p.director && is_some p.image)) ≡ true
  pub director : Chain
  pub director_is : chain_with k Director at s.director p.director ≡ Ok director
  pub image : Chain
  pub image_is : chain_with k Image at s.image p.image ≡ Ok image
  pub apart : are_apart director image ≡ true
  pub images : Table ImageData
  pub targets : Listing
  pub targets_come : Come k (record s { director = director; image = image; images = images }) at p.targets targets
  pub is : with_files k.rules (record s { director = director; image = image; images = images }) at (s.image_version + 1) targets ≡ next

pub publish_ok : (k : Showing) (s : State) (at : ℕ) (p : Publication) (next : State) → decide_publish k s at p ≡ Ok (Some next) → IsPublished k s at p next
unfolding decide_publish
publish_ok k s at p next h = first_ok _ _ _ _ h (λ a moment h. first_ok _ _ _ _ h (λ b there h. first_ok _ _ _ _ h (λ director d h. first_ok _ _ _ _ h (λ image i h. first_ok _ _ _ _ h (λ f apart h. first_ok _ _ _ _ h (λ images r h. first_ok _ _ _ _ h (λ c room h. first_ok _ _ _ _ h (λ targets t h. first_ok _ _ _ _ h (λ e below h.
    record {
      founded = unless_ok _ _ b there;
      director = director;
      director_is = d;
      image = image;
      image_is = i;
      apart = unless_ok _ _ f apart;
      images = images;
      targets = targets;
      targets_come = targets_ok k _ at p.targets targets t;
      is = next_is _ _ h;
    })))))))))

pub record IsAdded (k : Rules) (s : State) (at : ℕ) (image : ImageData) (next : State) : Type 0 where
  pub held : is_offline s.image.keys.targets ≡ false
  pub is : stamped k (with_image s image) at (s.image_version + 1) ≡ next

pub new_image_ok : (k : Rules) (s : State) (at : ℕ) (image : ImageData) (next : State) → decide_new_image k s at image ≡ Ok (Some next) → IsAdded k s at image next
unfolding decide_new_image
new_image_ok k s at image next h = first_ok _ _ _ _ h (λ a held h. first_ok _ _ _ _ h (λ b room h. first_ok _ _ _ _ h (λ c below h.
    record { held = refuse_if_ok _ _ a held; is = next_is _ _ h })))

there_ok : (k : Rules) (s : State) (at : ℕ) (image : ImageData) (next : State) (old : Option ImageData) → where_new image old (decide_new_image k s at image) ≡ Ok (Some next) → IsAdded k s at image next
there_ok k s at image next None h = new_image_ok k s at image next h
there_ok k s at image next (Some old) h = by_test (same_image image old) h
  where
    by_test : (b : Bool) → ◌≡◌ {A = Decided} (if b then Ok None else Err (Known ImageTaken)) (Ok (Some next)) → IsAdded k s at image next
    by_test true h = cc
    by_test false h = cc

pub image_ok : (k : Rules) (s : State) (at : ℕ) (image : ImageData) (next : State) → decide_image k s at image ≡ Ok (Some next) → IsAdded k s at image next
unfolding decide_image
image_ok k s at image next h = first_ok _ _ _ _ h (λ a moment h. first_ok _ _ _ _ h (λ b there h. there_ok k s at image next _ h))

pub record IsRefreshed (k : Rules) (s : State) (at version : ℕ) (next : State) : Type 0 where
  pub files : RoleTexts
  pub there : s.files ≡ Some files
  pub above : s.image_version < version
  pub is : refreshed k s at version files.targets ≡ next

pub refresh_ok : (k : Rules) (s : State) (at version : ℕ) (next : State) → decide_refresh k s at version ≡ Ok (Some next) → IsRefreshed k s at version next
unfolding decide_refresh
refresh_ok k s at version next h = first_ok _ _ _ _ h (λ a moment h. first_ok _ _ _ _ h (λ files there h. first_ok _ _ _ _ h (λ c above h.
    let test = refuse_if_ok (nat_le version s.image_version) _ c above in
    record { files = files; there = or_error_ok _ _ _ there; above = grind (arith, nat_tests); is = next_is _ _ h })))
