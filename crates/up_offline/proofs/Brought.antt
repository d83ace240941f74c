-- What is kept offline is brought, and never made here.
use Rattle.std.proofs.Common.{◌≡◌, ℕ, ◌+◌, List, Bool, true, false, Some, Ok, ◌⊎◌, inl, inr, length, refl, sym, ap, ◌∙◌, subst, arith}
use Rattle.std.specs.Prelude.{⊤, ◌==◌, if◌then◌else◌, is_none, nat_le, option_map}
use Rattle.std.specs.List.{list_all}
use Rattle.std.proofs.lemmas.Bool.Decides.{nat_tests}
use Rattle.up_canon.specs.Names.{is_from_to}
use Rattle.up_canon.proofs.Steps.{first_ok, unless_ok}
use Rattle.up_metadata.specs.declared.role_files.RoleTexts.{RoleTexts}
use Rattle.up_sign.specs.Schemes.{Rules}
use Rattle.up_metadata.specs.declared.keys.KeySet.{KeySet}
use Rattle.up_metadata.specs.declared.keys.RepoKeys.{RepoKeys}
use Rattle.up_metadata.specs.declared.keys.RoleSecrets.{RoleSecrets}
use Rattle.up_metadata.specs.Keys.{secret_fits, check_role, check_repository, check_keys}
use Rattle.up_metadata.proofs.Lists.{and_left}
use Rattle.up_shown.specs.Showing.{Showing}
use Rattle.up_offline.specs.State.{Chain, State, is_offline, is_founded}
use Rattle.up_offline.specs.Making.{Listing, with_files}
use Rattle.up_offline.specs.Publications.{Publication}
use Rattle.up_offline.specs.Repositories.{Command, Found, Rotate, Publish, AddImage, Refresh, decide, decide_found, decide_rotate, step, stamped, refreshed, with_roots}
use Rattle.up_offline.specs.Laws.{targets_text, IsBroughtTargets, OfflineTargetsAreBrought, GrowsByBrought, StaysOffline, OfflineRootsAreBrought, OfflineRootsGrow}
use Rattle.up_offline.proofs.Decided.{by_decision, known_ok, next_is, Come, stayed, came, made, IsNextRoot, chain_with_ok, found_ok, rotate_ok, publish_ok, image_ok, refresh_ok}

-- ---- keys that are given

not_offline : (b : Bool) → b ≡ false → b ≡ true → ⊥
not_offline true a b = cc
not_offline false a b = cc

some_keys : (k : Rules) (role : RoleSecrets) (x : ⊤) → check_role k role ≡ Ok x → is_offline role ≡ false
unfolding check_role
some_keys k role x h = first_ok _ _ _ _ h (λ a fit h.
    let number : is_from_to 1 4 (length role.keys) ≡ true = and_left _ (list_all (secret_fits k) role.keys) (and_left _ (is_none _) (unless_ok _ _ a fit)) in
    let one : nat_le 1 (length role.keys) ≡ true = and_left _ (nat_le (length role.keys) 4) number in
    let none : (length role.keys == 0) ≡ false = grind (arith, nat_tests) in
    none)

-- of a repository's keys those of the root role and of Targets
pub record AreOnline (keys : RepoKeys) : Type 0 where
  pub root : is_offline keys.root ≡ false
  pub targets : is_offline keys.targets ≡ false

repository_online : (k : Rules) (keys : RepoKeys) (x : ⊤) → check_repository k keys ≡ Ok x → AreOnline keys
unfolding check_repository
repository_online k keys x h = first_ok _ _ _ _ h (λ a root h. first_ok _ _ _ _ h (λ b targets h.
    record { root = some_keys k keys.root a root; targets = some_keys k keys.targets b targets }))

keys_online : (k : Rules) (keys : KeySet) (x : ⊤) → check_keys k keys ≡ Ok x → AreOnline keys.director × AreOnline keys.image
unfolding check_keys
keys_online k keys x h = first_ok _ _ _ _ h (λ a director h. (repository_online k keys.director a director, repository_online k keys.image x h))

-- what the server makes of keys that are given
pub record IsMadeOf (k : Rules) (s : State) (at version : ℕ) (keys : KeySet) (next : State) : Type 0 where
  pub director : AreOnline keys.director
  pub image : AreOnline keys.image
  pub is : stamped k (with_roots k s at keys) at version ≡ next

made_of_found : (k : Rules) (s : State) (at : ℕ) (keys : KeySet) (next : State) → decide_found k s at keys ≡ Ok (Some next) → IsMadeOf k s at 1 keys next
unfolding decide_found
made_of_found k s at keys next h = first_ok _ _ _ _ h (λ a moment h. first_ok _ _ _ _ h (λ b fit h. first_ok _ _ _ _ h (λ c none h.
    let online = keys_online k keys b (known_ok _ _ fit) in
    record { director = online.0; image = online.1; is = next_is _ _ h })))

made_of_rotate : (k : Rules) (s : State) (at : ℕ) (keys : KeySet) (next : State) → decide_rotate k s at keys ≡ Ok (Some next) → IsMadeOf k s at (s.image_version + 1) keys next
unfolding decide_rotate
made_of_rotate k s at keys next h = first_ok _ _ _ _ h (λ a moment h. first_ok _ _ _ _ h (λ b fit h. first_ok _ _ _ _ h (λ c there h. first_ok _ _ _ _ h (λ d held h. first_ok _ _ _ _ h (λ e room h. first_ok _ _ _ _ h (λ f below h.
    let online = keys_online k keys b (known_ok _ _ fit) in
    record { director = online.0; image = online.1; is = next_is _ _ h }))))))

-- ---- Root

-- what a command that leaves root versions as they are keeps
same_chains : (k : Showing) (at : ℕ) (s next : State) → next.director ≡ s.director → next.image ≡ s.image → OfflineRootsAreBrought k at s next
same_chains k at s next director image = record {
  director = λ off. inl director;
  image = λ off. inl image;
  stay = λ there. (stay_by s.director next.director director, stay_by s.image next.image image);
}
  where
    stay_by : (chain later : Chain) → later ≡ chain → StaysOffline chain.keys.root later.keys.root
    stay_by chain later same off = ap (λ (c : Chain). is_offline c.keys.root) same ∙ off

grows : (k : Showing) (at : ℕ) (chain next : Chain) → (next ≡ chain) ⊎ ((text : List ℕ) × IsNextRoot k at chain text next) → GrowsByBrought k at chain next
grows k at chain next (inl same) off = inl same
grows k at chain next (inr (text, is)) off = inr (text, is.texts, record { file = is.file; envelope = is.envelope; read = is.read; spelled = is.spelled; lasts = is.lasts; number = is.number; before = is.before; own = is.own })

stays : (k : Showing) (at : ℕ) (chain next : Chain) → (next ≡ chain) ⊎ ((text : List ℕ) × IsNextRoot k at chain text next) → StaysOffline chain.keys.root next.keys.root
stays k at chain next (inl same) off = ap (λ (c : Chain). is_offline c.keys.root) same ∙ off
stays k at chain next (inr (text, is)) off = is.root

refreshed_roots : (k : Rules) (s : State) (at version : ℕ) (targets : List ℕ) → ((refreshed k s at version targets).director ≡ s.director) × ((refreshed k s at version targets).image ≡ s.image)
refreshed_roots k s at version targets = by_test (is_offline s.image.keys.targets)
  where
    by_test : (b : Bool) → ((if b then with_files k s at version (record { text = targets; version = s.targets_version }) else stamped k s at version).director ≡ s.director)
        × ((if b then with_files k s at version (record { text = targets; version = s.targets_version }) else stamped k s at version).image ≡ s.image)
    by_test true = (refl, refl)
    by_test false = (refl, refl)

-- Roots that the server makes have root keys that it holds
made_roots : (k : Showing) (s : State) (at version : ℕ) (keys : KeySet) → AreOnline keys.director → AreOnline keys.image
    → (is_founded s ≡ true → (is_offline s.director.keys.root ≡ false) × (is_offline s.image.keys.root ≡ false))
    → OfflineRootsAreBrought k at s (stamped k.rules (with_roots k.rules s at keys) at version)
made_roots k s at version keys director image was = record {
  director = λ off. absurd (not_offline _ director.root off);
  image = λ off. absurd (not_offline _ image.root off);
  stay = λ there. let held = was there in ((λ off. absurd (not_offline _ held.0 off)), (λ off. absurd (not_offline _ held.1 off)));
}

roots_go : (k : Showing) (s : State) (at : ℕ) (c : Command) (next : State) → decide k s at c ≡ Ok (Some next) → OfflineRootsAreBrought k at s next
roots_go k s at (Found keys) next h =
    let is = made_of_found k.rules s at keys next h in
    subst (OfflineRootsAreBrought k at s) is.is (made_roots k s at 1 keys is.director is.image (λ there. absurd (found_ok k.rules s at keys next there h)))
roots_go k s at (Rotate keys) next h =
    let is = made_of_rotate k.rules s at keys next h in
    let held = rotate_ok k.rules s at keys next h in
    subst (OfflineRootsAreBrought k at s) is.is (made_roots k s at (s.image_version + 1) keys is.director is.image (λ there. (held.director, held.image)))
roots_go k s at (Publish p) next h =
    let is = publish_ok k s at p next h in
    let director = chain_with_ok k _ at s.director p.director is.director is.director_is in
    let image = chain_with_ok k _ at s.image p.image is.image is.image_is in
    subst (OfflineRootsAreBrought k at s) is.is (record {
      director = grows k at s.director is.director director;
      image = grows k at s.image is.image image;
      stay = λ there. (stays k at s.director is.director director, stays k at s.image is.image image);
    })
roots_go k s at (AddImage image) next h =
    subst (OfflineRootsAreBrought k at s) (image_ok k.rules s at image next h).is (same_chains k at s _ refl refl)
roots_go k s at (Refresh version) next h =
    let is = refresh_ok k.rules s at version next h in
    let same = refreshed_roots k.rules s at version is.files.targets in
    subst (OfflineRootsAreBrought k at s) is.is (same_chains k at s _ same.0 same.1)

pub roots : OfflineRootsGrow
unfolding step
roots k s at c = by_decision s (decide k s at c) (OfflineRootsAreBrought k at s) (same_chains k at s s refl refl) (roots_go k s at c)

-- ---- Targets

abbrev Goes : Showing → ℕ → State → Command → State → Type 0
Goes k at s c next = is_offline next.image.keys.targets ≡ true
    → (targets_text next ≡ targets_text s) ⊎ ((text : List ℕ) × (targets_text next ≡ Some text) × IsBroughtTargets k at c next text)

targets_come : (k : Showing) (s t : State) (at : ℕ) (p : Publication) (targets : Listing) → t.files ≡ s.files → Come k t at p.targets targets
    → Goes k at s (Publish p) (with_files k.rules t at (s.image_version + 1) targets)
targets_come k s t at p targets same (stayed off kept) here =
    inl (ap (λ (l : Listing). Some l.text) kept.is ∙ sym (ap (λ f. option_map (λ files. files.targets) f) (sym same ∙ kept.there)))
targets_come k s t at p targets same (came off text there is) here =
    inr (
      text,
      ap (λ x. Some x) is.is,
      record {
        publication = p;
        command = refl;
        brought = there;
        file = is.file;
        envelope = is.envelope;
        read = is.read;
        spelled = is.spelled;
        lasts = is.lasts;
        root = is.listed.root;
        last = is.listed.last;
        signed = is.listed.signed;
        lists = is.listed.lists;
      },
    )
targets_come k s t at p targets same (made on is) here = absurd (not_offline _ on here)

-- Targets that the server makes at once with Roots have keys that it holds
made_targets_go : (k : Showing) (s : State) (at version : ℕ) (keys : KeySet) (c : Command) → AreOnline keys.image → Goes k at s c (stamped k.rules (with_roots k.rules s at keys) at version)
made_targets_go k s at version keys c image here = absurd (not_offline _ image.targets here)

targets_go : (k : Showing) (s : State) (at : ℕ) (c : Command) (next : State) → decide k s at c ≡ Ok (Some next) → Goes k at s c next
targets_go k s at (Found keys) next h =
    let is = made_of_found k.rules s at keys next h in
    subst (Goes k at s (Found keys)) is.is (made_targets_go k s at 1 keys (Found keys) is.image)
targets_go k s at (Rotate keys) next h =
    let is = made_of_rotate k.rules s at keys next h in
    subst (Goes k at s (Rotate keys)) is.is (made_targets_go k s at (s.image_version + 1) keys (Rotate keys) is.image)
targets_go k s at (Publish p) next h =
    let is = publish_ok k s at p next h in
    subst (Goes k at s (Publish p)) is.is (targets_come k s _ at p is.targets refl is.targets_come)
targets_go k s at (AddImage image) next h =
    let is = image_ok k.rules s at image next h in
    subst (Goes k at s (AddImage image)) is.is (λ here. absurd (not_offline _ is.held here))
targets_go k s at (Refresh version) next h =
    let is = refresh_ok k.rules s at version next h in
    subst (Goes k at s (Refresh version)) is.is (by_test is.there (is_offline s.image.keys.targets) refl)
  where
    by_test : {files : RoleTexts} → s.files ≡ Some files → (b : Bool) → is_offline s.image.keys.targets ≡ b
        → Goes k at s (Refresh version) (if b then with_files k.rules s at version (record { text = files.targets; version = s.targets_version }) else stamped k.rules s at version)
    by_test is true off here = inl (sym (ap (λ f. option_map (λ files. files.targets) f) is))
    by_test is false on here = absurd (not_offline _ on here)

pub targets : OfflineTargetsAreBrought
unfolding step
targets k s at c = by_decision s (decide k s at c) (Goes k at s c) (λ here. inl refl) (targets_go k s at c)
