-- The texts of root versions, by their number, and behind others.
use Rattle.std.proofs.Common.{◌≡◌, ℕ, zero, suc, ◌+◌, ◌-◌, List, [], ◌∷◌, ◌++◌, true, false, Option, Some, None, refl, sym, ap, ap₂, ◌∙◌, arith}
use Rattle.std.specs.Prelude.{◌==◌, if◌then◌else◌, length, slice_get, option_map, is_some}
use Rattle.up_sign.specs.Schemes.{Rules}
use Rattle.up_roles.specs.declared.repository.Repository.{Repository}
use Rattle.up_roles.specs.declared.repository.Repository.TheVariants.{Director, Image}
use Rattle.up_metadata.specs.declared.keys.KeySet.{KeySet}
use Rattle.up_metadata.specs.declared.role_files.RoleTexts.{RoleTexts}
use Rattle.up_metadata.specs.Files.{Root, root_text}
use Rattle.std.proofs.lemmas.Bool.Decides.{nat_tests}
use Rattle.std.proofs.lemmas.Option.{same_Some}
use Rattle.up_machine.specs.State.{State, nth, chain_of, is_founded, key_set}
use Rattle.up_machine.specs.Made.{keys_at, root_texts, IsMade}
use Rattle.up_machine.proofs.Places.{nth_at_place, place_of}

-- the keys of the root version at this place, or those before all
keys_of_place : Option KeySet → ℕ → List Root → Option KeySet
keys_of_place before zero roots = before
keys_of_place before (suc i) [] = None
keys_of_place before (suc i) (root ∷ roots) = keys_of_place (Some root.keys) i roots

text_at : (k : Rules) (repository : Repository) (n : ℕ) (before : Option KeySet) (roots : List Root) (i : ℕ) (root : Root) → slice_get roots i ≡ Some root
    → slice_get (root_texts k repository n before roots) i ≡ Some (root_text k repository (n + i) root (keys_of_place before i roots))
unfolding keys_of_place
text_at k repository n before [] i root h = cc
text_at k repository n before (x ∷ roots) zero root h =
    let same : x ≡ root = cc in
    ap₂ (λ (m : ℕ) (r : Root). Some (root_text k repository m r before)) (plain n) same
  where
    plain : (n : ℕ) → n ≡ n + 0
    plain n = omega arith
text_at k repository n before (x ∷ roots) (suc i) root h =
    text_at k repository (n + 1) (Some x.keys) roots i root h
    ∙ ap (λ (m : ℕ). Some (root_text k repository m root (keys_of_place (Some x.keys) i roots))) (later n i)
  where
    later : (n i : ℕ) → n + 1 + i ≡ n + suc i
    later n i = omega arith

nth_suc : (roots : List Root) (i : ℕ) → nth roots (suc i) ≡ slice_get roots i
nth_suc roots i =
    let some : (suc i == 0) ≡ false = grind (arith, nat_tests) in
    let before : suc i - 1 ≡ i = omega arith in
    ap₂ (λ b (m : ℕ). if b then None else slice_get roots m) some before

-- they are those of the number before it
place_keys : (before : Option KeySet) (roots : List Root) (i : ℕ) → keys_of_place before (suc i) roots ≡ option_map (λ (root : Root). root.keys) (slice_get roots i)
unfolding keys_of_place
place_keys before [] zero = refl
place_keys before [] (suc i) = refl
place_keys before (root ∷ roots) zero = refl
place_keys before (root ∷ roots) (suc i) = place_keys (Some root.keys) roots i

before_first : (roots : List Root) (i : ℕ) → keys_of_place None i roots ≡ keys_at roots i
unfolding keys_of_place
before_first roots zero = refl
before_first roots (suc i) = place_keys None roots i ∙ ap (option_map (λ (root : Root). root.keys)) (sym (nth_suc roots i))

numbered_text : (k : Rules) (repository : Repository) (roots : List Root) (i : ℕ) (root : Root) → nth roots i ≡ Some root
    → nth (root_texts k repository 1 None roots) i ≡ Some (root_text k repository i root (keys_at roots (i - 1)))
numbered_text k repository roots i root there =
    let place = place_of roots i root there in
    let number : 1 + place.0 ≡ i = sym place.1 in
    let before : place.0 ≡ i - 1 = omega (arith, number) in
    nth_at_place (root_texts k repository 1 None roots) i place.0 _ place.1 (text_at k repository 1 None roots place.0 root place.2)
    ∙ ap₂ (λ (m : ℕ) (b : Option KeySet). Some (root_text k repository m root b)) number (before_first roots place.0 ∙ ap (keys_at roots) before)

pub made_root : (k : Rules) (s : State) (roots : List Root) (repository : Repository) (i : ℕ) (root : Root) → IsMade k s roots → nth roots i ≡ Some root
    → nth (chain_of repository s).texts i ≡ Some (root_text k repository i root (keys_at roots (i - 1)))
made_root k s roots Director i root made there = ap (λ (ts : List (List ℕ)). nth ts i) made.director ∙ numbered_text k Director roots i root there
made_root k s roots Image i root made there = ap (λ (ts : List (List ℕ)). nth ts i) made.image ∙ numbered_text k Image roots i root there

-- ---- the last one

by_files : (s : State) (o : Option RoleTexts) (last : Option Root) → is_some o ≡ true → option_map (λ (files : RoleTexts). key_set s) o ≡ option_map (λ (root : Root). root.keys) last
    → (root : Root) × (last ≡ Some root) × (root.keys ≡ key_set s)
by_files s None last some h = cc
by_files s (Some files) None some h = cc
by_files s (Some files) (Some root) some h = (root, refl, sym (same_Some (key_set s) root.keys h))

-- where the repositories are founded, there is one, whose keys are held
pub last_there : (k : Rules) (s : State) (roots : List Root) → IsMade k s roots → is_founded s ≡ true → (root : Root) × (nth roots (length roots) ≡ Some root) × (root.keys ≡ key_set s)
last_there k s roots made founded = by_files s s.files (nth roots (length roots)) founded made.keys

-- ---- one more

pub as_many : (k : Rules) (repository : Repository) (n : ℕ) (before : Option KeySet) (roots : List Root) → length (root_texts k repository n before roots) ≡ length roots
as_many k repository n before [] = refl
as_many k repository n before (root ∷ roots) = ap suc (as_many k repository (n + 1) (Some root.keys) roots)

-- the keys of the last of these, or those before all
last_of : Option KeySet → List Root → Option KeySet
last_of before [] = before
last_of before (root ∷ roots) = last_of (Some root.keys) roots

one_more : (k : Rules) (repository : Repository) (n : ℕ) (before : Option KeySet) (roots : List Root) (root : Root)
    → root_texts k repository n before (roots ++ root ∷ []) ≡ root_texts k repository n before roots ++ root_text k repository (n + length roots) root (last_of before roots) ∷ []
unfolding last_of
one_more k repository n before [] root = ap (λ (m : ℕ). root_text k repository m root before ∷ []) (plain n)
  where
    plain : (n : ℕ) → n ≡ n + 0
    plain n = omega arith
one_more k repository n before (x ∷ roots) root =
    ap (λ (ts : List (List ℕ)). root_text k repository n x before ∷ ts) (one_more k repository (n + 1) (Some x.keys) roots root
    ∙ ap (λ (m : ℕ). root_texts k repository (n + 1) (Some x.keys) roots ++ root_text k repository m root (last_of (Some x.keys) roots) ∷ []) (later n (length roots)))
  where
    later : (n i : ℕ) → n + 1 + i ≡ n + suc i
    later n i = omega arith

last_keys : (before : Option KeySet) (roots : List Root) → last_of before roots ≡ keys_of_place before (length roots) roots
unfolding keys_of_place last_of
last_keys before [] = refl
last_keys before (root ∷ roots) = last_keys (Some root.keys) roots

pub one_more_text : (k : Rules) (repository : Repository) (roots : List Root) (root : Root)
    → root_texts k repository 1 None (roots ++ root ∷ []) ≡ root_texts k repository 1 None roots ++ root_text k repository (length roots + 1) root (keys_at roots (length roots)) ∷ []
one_more_text k repository roots root =
    one_more k repository 1 None roots root
    ∙ ap₂ (λ (m : ℕ) (b : Option KeySet). root_texts k repository 1 None roots ++ root_text k repository m root b ∷ []) (turned (length roots)) (last_keys None roots ∙ before_first roots (length roots))
  where
    turned : (n : ℕ) → 1 + n ≡ n + 1
    turned n = omega arith
