-- Secrets are of the last Root.
use Rattle.std.proofs.Common.{◌≡◌, ℕ, ◌+◌, ◌-◌, ◌++◌, List, [], ◌∷◌, Bool, true, false, Option, Some, None, Ok, ◌⊎◌, inl, inr, length, refl, sym, ap, ap₂, ◌∙◌, subst, arith, length-append}
use Rattle.std.specs.Prelude.{◌==◌, if◌then◌else◌, option_map, option_and_then, slice_get}
use Rattle.std.proofs.lemmas.Bool.Decides.{nat_tests}
use Rattle.up_sign.specs.Schemes.{Rules}
use Rattle.up_shown.specs.Showing.{Showing}
use Rattle.up_sign.specs.declared.envelope.Envelope.{Envelope}
use Rattle.up_roles.specs.declared.repository.Repository.{Repository}
use Rattle.up_roles.specs.declared.repository.Repository.TheVariants.{Director, Image}
use Rattle.up_roles.specs.declared.root.RootFile.{RootFile}
use Rattle.up_metadata.specs.declared.keys.KeySet.{KeySet}
use Rattle.up_metadata.specs.declared.keys.RepoKeys.{RepoKeys}
use Rattle.up_canon.proofs.Steps.{first_ok, same_ok}
use Rattle.up_machine.specs.State.{nth}
use Rattle.up_brought.specs.declared.brought.BroughtRoot.{BroughtRoot}
use Rattle.up_brought.specs.Brought.{value_or_none, root_read, held_keys}
use Rattle.up_offline.specs.State.{Chain, State, is_offline}
use Rattle.up_offline.specs.Making.{with_files}
use Rattle.up_offline.specs.Publications.{next_chain, chain_with}
use Rattle.up_offline.specs.Repositories.{Command, Found, Rotate, Publish, AddImage, Refresh, decide, decide_found, step, stamped, refreshed, with_roots}
use Rattle.up_offline.specs.Trusted.{Holds}
use Rattle.up_offline.specs.Laws.{HoldsAtMost, HoldsOf, HoldsLast, stayed, made, came, HoldLast, SecretsAreOfTheLastRoot}
use Rattle.up_offline.proofs.Decided.{by_decision, next_is, keys_ok, rotate_ok, publish_ok, image_ok, refresh_ok}
use Rattle.up_offline.proofs.Staying.{HoldsNew, holds_new}

-- ---- a Root that was brought

-- the last of some texts and one more is that one
last_added : (ts : List (List ℕ)) (t : List ℕ) → nth (ts ++ t ∷ []) (length (ts ++ t ∷ [])) ≡ Some t
last_added ts t = rw (length-append ts (t ∷ [])) (at_end ts)
  where
    get_end : (ts : List (List ℕ)) → slice_get (ts ++ t ∷ []) (length ts) ≡ Some t
    get_end [] = refl
    get_end (u ∷ us) = get_end us

    at_end : (ts : List (List ℕ)) → nth (ts ++ t ∷ []) (length ts + 1) ≡ Some t
    at_end ts =
        let some : (length ts + 1 == 0) ≡ false = grind (arith, nat_tests) in
        let before : length ts + 1 - 1 ≡ length ts = omega arith in
        ap₂ (λ b (m : ℕ). if b then None else slice_get (ts ++ t ∷ []) m) some before ∙ get_end ts

at_most : (k : Showing) (repository : Repository) (may : Bool) (keys : RepoKeys) (file : RootFile) → is_offline keys.root ≡ true → HoldsNew k may keys file → HoldsOf k keys file
at_most k repository may keys file off new = record {
  root = inl off;
  targets = either new.targets;
  snapshot = inr new.snapshot;
  timestamp = inr new.timestamp;
}
  where
    either : ((may ≡ true) × (is_offline keys.targets ≡ true)) ⊎ Holds k keys.targets file.targets → HoldsAtMost k keys.targets file.targets
    either (inl none) = inl none.1
    either (inr holds) = inr holds

off_root : (k : Showing) (repository : Repository) (file : RootFile) (present : RepoKeys) (brought : BroughtRoot) (keys : RepoKeys) → held_keys k repository file present brought ≡ Ok keys → is_offline keys.root ≡ true
unfolding held_keys
off_root k repository file present brought keys h = first_ok _ _ _ _ h (λ targets a h. first_ok _ _ _ _ h (λ snapshot b h. first_ok _ _ _ _ h (λ timestamp c h.
    ap (λ (r : RepoKeys). is_offline r.root) (sym (same_ok _ _ h)))))

next_holds : (k : Showing) (repository : Repository) (at : ℕ) (chain : Chain) (brought : BroughtRoot) (next : Chain) → next_chain k repository at chain brought ≡ Ok next → HoldsLast k repository at chain next
unfolding next_chain
next_holds k repository at chain brought next h = first_ok _ _ _ _ h (λ keys is h.
    let held = keys_ok k repository at chain brought keys is in
    let read : root_read brought.text ≡ Some held.file = ap (λ r. option_map (λ (p : RootFile × Envelope). p.0) (value_or_none r)) held.root.read in
    subst (HoldsLast k repository at chain) (same_ok _ _ h)
    (came held.file (ap (option_and_then root_read) (last_added chain.texts brought.text) ∙ read)
    (at_most k repository _ keys held.file (off_root k repository held.file chain.keys brought keys held.held) (holds_new k repository held.file chain.keys brought keys held.held))))

chain_holds : (k : Showing) (repository : Repository) (at : ℕ) (chain : Chain) (brought : Option BroughtRoot) (next : Chain) → chain_with k repository at chain brought ≡ Ok next → HoldsLast k repository at chain next
chain_holds k repository at chain None next h = stayed (sym (same_ok _ _ h))
chain_holds k repository at chain (Some brought) next h = next_holds k repository at chain brought next h

-- ---- commands

unchanged : (k : Showing) (at : ℕ) (s : State) → HoldLast k at s s
unchanged k at s = record { director = stayed refl; image = stayed refl }

found_is : (k : Rules) (s : State) (at : ℕ) (keys : KeySet) (next : State) → decide_found k s at keys ≡ Ok (Some next) → stamped k (with_roots k s at keys) at 1 ≡ next
unfolding decide_found
found_is k s at keys next h = first_ok _ _ _ _ h (λ a moment h. first_ok _ _ _ _ h (λ b fit h. first_ok _ _ _ _ h (λ c none h. next_is _ _ h)))

refreshed_holds : (k : Showing) (s : State) (at version : ℕ) (targets : List ℕ) → HoldLast k at s (refreshed k.rules s at version targets)
refreshed_holds k s at version targets = by_test (is_offline s.image.keys.targets)
  where
    by_test : (b : Bool) → HoldLast k at s (if b then with_files k.rules s at version (record { text = targets; version = s.targets_version }) else stamped k.rules s at version)
    by_test true = record { director = stayed refl; image = stayed refl }
    by_test false = record { director = stayed refl; image = stayed refl }

holds_on : (k : Showing) (s : State) (at : ℕ) (c : Command) (next : State) → decide k s at c ≡ Ok (Some next) → HoldLast k at s next
holds_on k s at (Found keys) next h =
    subst (HoldLast k at s) (found_is k.rules s at keys next h) (record { director = made keys refl refl; image = made keys refl refl })
holds_on k s at (Rotate keys) next h =
    subst (HoldLast k at s) (rotate_ok k.rules s at keys next h).is (record { director = made keys refl refl; image = made keys refl refl })
holds_on k s at (Publish p) next h =
    let is = publish_ok k s at p next h in
    subst (HoldLast k at s) is.is (record {
      director = chain_holds k Director at s.director p.director is.director is.director_is;
      image = chain_holds k Image at s.image p.image is.image is.image_is;
    })
holds_on k s at (AddImage image) next h =
    subst (HoldLast k at s) (image_ok k.rules s at image next h).is (record { director = stayed refl; image = stayed refl })
holds_on k s at (Refresh version) next h =
    let is = refresh_ok k.rules s at version next h in
    subst (HoldLast k at s) is.is (refreshed_holds k s at version is.files.targets)

pub secrets : SecretsAreOfTheLastRoot
unfolding step
secrets k s at c = by_decision s (decide k s at c) (HoldLast k at s) (unchanged k at s) (holds_on k s at c)
