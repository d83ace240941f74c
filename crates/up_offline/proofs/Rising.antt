-- Versions never fall, and the texts of root versions stay.
use Rattle.std.proofs.Common.{◌≡◌, ℕ, ◌+◌, ◌≤◌, ◌<◌, List, [], ◌∷◌, Bool, true, false, Option, Some, Ok, ◌⊎◌, inl, inr, refl, sym, ap, ◌∙◌, subst, append-nil, arith}
use Rattle.std.specs.Prelude.{if◌then◌else◌, option_map}
use Rattle.up_metadata.specs.declared.role_files.RoleTexts.{RoleTexts}
use Rattle.up_sign.specs.Schemes.{Rules}
use Rattle.up_shown.specs.Showing.{Showing}
use Rattle.up_offline.specs.State.{Chain, State, is_offline, is_founded}
use Rattle.up_offline.specs.Making.{Listing, made_listing, with_files}
use Rattle.up_offline.specs.Repositories.{Command, Found, Rotate, Publish, AddImage, Refresh, decide, step, stamped, refreshed, with_roots, with_image}
use Rattle.up_offline.specs.Laws.{IsLater, Rises, IsBelow, VersionsRise, targets_text}
use Rattle.up_offline.proofs.Decided.{by_decision, made_version, Come, stayed, came, made, IsNextRoot, chain_with_ok, found_ok, rotate_ok, publish_ok, image_ok, refresh_ok}

abbrev Goes : State → State → Type 0
Goes s next = Rises s next × IsBelow next

itself : (chain : Chain) → IsLater chain chain
itself chain = ([], sym (append-nil chain.texts))

stays : (s : State) → IsBelow s → Goes s s
stays s below = (record { director = itself s.director; image = itself s.image; image_version = omega arith; targets_version = omega arith; one_text = λ same. refl }, below)

-- new files under later root versions, of versions that are no lower
goes : (k : Rules) (s t : State) (at version : ℕ) (targets : Listing) → IsLater s.director t.director → IsLater s.image t.image
    → s.image_version ≤ version → s.targets_version ≤ targets.version → targets.version ≤ version
    → (targets.version ≡ s.targets_version → Some targets.text ≡ targets_text s) → Goes s (with_files k t at version targets)
goes k s t at version targets director image above greater below one =
    (record { director = director; image = image; image_version = above; targets_version = greater; one_text = one }, below)

-- Targets of a version that is greater
new_goes : (k : Rules) (s t : State) (at version : ℕ) (targets : Listing) → IsLater s.director t.director → IsLater s.image t.image
    → s.image_version ≤ version → s.targets_version < targets.version → targets.version ≤ version → Goes s (with_files k t at version targets)
new_goes k s t at version targets director image above greater below =
    goes k s t at version targets director image above (omega (arith, greater)) below (λ same. absurd (omega (arith, greater, same)))

made_goes : (k : Rules) (s t : State) (at version : ℕ) → IsBelow s → IsLater s.director t.director → IsLater s.image t.image → s.image_version < version → Goes s (stamped k t at version)
made_goes k s t at version low director image above =
    new_goes k s t at version (made_listing k t at version) director image (omega (arith, above))
    (omega (arith, made_version k t at version, low, above)) (omega (arith, made_version k t at version))

later_chain : (k : Showing) (at : ℕ) (chain next : Chain) → (next ≡ chain) ⊎ ((text : List ℕ) × IsNextRoot k at chain text next) → IsLater chain next
later_chain k at chain next (inl same) = subst (IsLater chain) (sym same) (itself chain)
later_chain k at chain next (inr (text, is)) = (text ∷ [], is.texts)

published : (k : Showing) (s t : State) (at : ℕ) (brought : Option (List ℕ)) (targets : Listing) → IsBelow s → IsLater s.director t.director → IsLater s.image t.image
    → t.image_version ≡ s.image_version → t.targets_version ≡ s.targets_version → t.files ≡ s.files → Come k t at brought targets
    → Goes s (with_files k.rules t at (s.image_version + 1) targets)
published k s t at brought targets low director image version number files (stayed is kept) =
    let same : targets.version ≡ t.targets_version = ap (λ (l : Listing). l.version) kept.is in
    let text : targets_text s ≡ Some targets.text = ap (λ f. option_map (λ it. it.targets) f) (sym files ∙ kept.there) ∙ ap (λ (l : Listing). Some l.text) (sym kept.is) in
    goes k.rules s t at _ targets director image (omega arith) (omega (arith, same, number)) (omega (arith, same, number, low)) (λ h. sym text)
published k s t at brought targets low director image version number files (came is text there brought_is) =
    new_goes k.rules s t at _ targets director image (omega arith) (omega (arith, brought_is.above, number)) (omega (arith, brought_is.below, version))
published k s t at brought targets low director image version number files (made is same) =
    let at_version : targets.version ≡ t.image_version + 1 = ap (λ (l : Listing). l.version) same ∙ made_version k.rules t at (t.image_version + 1) in
    new_goes k.rules s t at _ targets director image (omega arith) (omega (arith, at_version, version, low)) (omega (arith, at_version, version))

refresh_goes : (k : Rules) (s : State) (at version : ℕ) (files : RoleTexts) → s.files ≡ Some files → IsBelow s → s.image_version < version → Goes s (refreshed k s at version files.targets)
refresh_goes k s at version files there low above = by_test (is_offline s.image.keys.targets)
  where
    by_test : (b : Bool) → Goes s (if b then with_files k s at version (record { text = files.targets; version = s.targets_version }) else stamped k s at version)
    by_test true = goes k s s at version _ (itself s.director) (itself s.image) (omega (arith, above)) (omega arith) (omega (arith, low, above))
        (λ h. sym (ap (λ f. option_map (λ it. it.targets) f) there))
    by_test false = made_goes k s s at version low (itself s.director) (itself s.image) above

goes_on : (k : Showing) (s : State) (at : ℕ) (c : Command) → IsBelow s → is_founded s ≡ true → (next : State) → decide k s at c ≡ Ok (Some next) → Goes s next
goes_on k s at (Found keys) low there next h = absurd (found_ok k.rules s at keys next there h)
goes_on k s at (Rotate keys) low there next h =
    let is = rotate_ok k.rules s at keys next h in
    subst (Goes s) is.is (made_goes k.rules s (with_roots k.rules s at keys) at _ low (_ ∷ [], refl) (_ ∷ [], refl) (omega arith))
goes_on k s at (Publish p) low there next h =
    let is = publish_ok k s at p next h in
    subst (Goes s) is.is (published k s _ at p.targets is.targets low
    (later_chain k at s.director is.director (chain_with_ok k _ at s.director p.director is.director is.director_is))
    (later_chain k at s.image is.image (chain_with_ok k _ at s.image p.image is.image is.image_is)) refl refl refl is.targets_come)
goes_on k s at (AddImage image) low there next h =
    let is = image_ok k.rules s at image next h in
    subst (Goes s) is.is (made_goes k.rules s (with_image s image) at _ low (itself s.director) (itself s.image) (omega arith))
goes_on k s at (Refresh version) low there next h =
    let is = refresh_ok k.rules s at version next h in
    subst (Goes s) is.is (refresh_goes k.rules s at version is.files is.there low is.above)

pub rises : VersionsRise
unfolding step
rises k s at c low there = by_decision s (decide k s at c) (Goes s) (stays s low) (goes_on k s at c low there)
