-- What the decisions on both repositories come to, by what each check found.
use Rattle.std.proofs.Common.{◌≡◌, ℕ, ◌+◌, ◌<◌, ◌≤◌, Bool, true, false, cond, Some, None, Result, Ok, Err, refl, sym, ap, ◌∙◌, subst, arith}
use Rattle.std.specs.Prelude.{◌||◌, ⊤, MatchBool, IsErrAnd, nat_le, is_some}
use Rattle.std.specs.FinMap as table
use Rattle.std.proofs.lemmas.Bool.Decides.{nat_tests}
use Rattle.up_canon.specs.Canon.{max_count}
use Rattle.up_canon.specs.Moments.{last_command_moment}
use Rattle.up_canon.specs.Refusals.{is_memory}
use Rattle.up_canon.specs.Steps.{unless, refuse_if}
use Rattle.up_canon.specs.declared.refusal.Refusal.{Refusal}
use Rattle.up_canon.specs.declared.refusal.Refusal.TheVariants.{NotFounded, AlreadyFounded, ImageTaken, RegisterFull, VersionLimit, VersionNotGreater, RootFull}
use Rattle.up_sign.specs.Schemes.{Rules}
use Rattle.up_plan.specs.Images.{ImageData}
use Rattle.up_metadata.specs.declared.keys.KeySet.{KeySet}
use Rattle.up_metadata.specs.Keys.{check_keys}
use Rattle.up_machine.specs.State.{State, is_founded, root_number, image_root_number}
use Rattle.up_machine.specs.Deciding.{Outcome, done, already, where_new, check_founded, check_version}
use Rattle.up_machine.specs.Repositories.{stamped, with_root, with_image, are_roots_full, same_image, decide_found, decide_rotate, decide_new_image, decide_image, decide_refresh}
use Rattle.up_machine.specs.Decisions.{GivesRows}
use Rattle.up_machine.specs.Due.{GivesOutright}
use Rattle.up_machine.proofs.Fetched.{in_time}
use Rattle.up_canon.proofs.Steps.{bind-ok, bind-err}

-- ---- checks

founded : (s : State) → is_founded s ≡ true → check_founded s ≡ Ok tt
founded s h = ap (λ b. unless b NotFounded) h

not_founded : (s : State) → s.files ≡ None → check_founded s ≡ Err NotFounded
not_founded s h = ap (λ o. unless (is_some o) NotFounded) h

below_limit : (s : State) → s.image_version < max_count → check_version s ≡ Ok tt
below_limit s h = let test : nat_le max_count s.image_version ≡ false = grind (arith, nat_tests) in ap (λ b. refuse_if b VersionLimit) test

at_limit : (s : State) → max_count ≤ s.image_version → check_version s ≡ Err VersionLimit
at_limit s h = let test : nat_le max_count s.image_version ≡ true = grind (arith, nat_tests) in ap (λ b. refuse_if b VersionLimit) test

-- ---- foundings

found_bad : (k : Rules) (s : State) (at : ℕ) (keys : KeySet) (r : Refusal) → at ≤ last_command_moment → check_keys k keys ≡ Err r → decide_found k s at keys ≡ Err r
unfolding decide_found
found_bad k s at keys r moment bad = bind-ok _ _ tt (in_time at moment) ∙ bind-err _ _ r bad

-- what holds where memory wasn't refused
unless_memory : {A B : Type 0} (b : Bool) → (A → B) → MatchBool b ⊤ A → MatchBool b ⊤ B
unless_memory true f h = tt
unless_memory false f h = f h

-- an error that is passed on
pub passed_on : {R : Type 0} (has : R → Type 0) (next : State) (result : Result R Refusal) (computed : Result Outcome Refusal) (e : Refusal)
    → IsErrAnd result (λ r. r ≡ e) → MatchBool (is_memory e) ⊤ (computed ≡ Err e) → GivesRows has next result computed
passed_on has next (Ok rows) computed e is h = absurd is
passed_on has next (Err r) computed e is h = subst (λ r. MatchBool (is_memory r) ⊤ (computed ≡ Err r)) (sym is) h

-- what takes no memory, in a decision that takes some
pub outright : {R : Type 0} (has : R → Type 0) (next : State) (result : Result R Refusal) (computed : Result Outcome Refusal)
    → GivesOutright has next result computed → GivesRows has next result computed
outright has next (Ok rows) computed h = h
outright has next (Err r) computed h = by_kind (is_memory r)
  where
    by_kind : (b : Bool) → MatchBool b ⊤ (computed ≡ Err r)
    by_kind true = tt
    by_kind false = h

pub found_gives : (k : Rules) (s : State) (at : ℕ) (keys : KeySet) (r : Refusal) → at ≤ last_command_moment → MatchBool (is_memory r) ⊤ (check_keys k keys ≡ Err r)
    → MatchBool (is_memory r) ⊤ (decide_found k s at keys ≡ Err r)
found_gives k s at keys r moment h = unless_memory (is_memory r) (found_bad k s at keys r moment) h

pub found_again : (k : Rules) (s : State) (at : ℕ) (keys : KeySet) → at ≤ last_command_moment → check_keys k keys ≡ Ok tt → is_founded s ≡ true → decide_found k s at keys ≡ Err AlreadyFounded
unfolding decide_found
found_again k s at keys moment good some =
    bind-ok _ _ tt (in_time at moment) ∙ bind-ok _ _ tt good ∙ bind-err _ _ AlreadyFounded (ap (λ b. refuse_if b AlreadyFounded) some)

pub found_done : (k : Rules) (s : State) (at : ℕ) (keys : KeySet) → at ≤ last_command_moment → check_keys k keys ≡ Ok tt → s.files ≡ None
    → decide_found k s at keys ≡ Ok (done (stamped k (with_root k s at keys) at 1))
unfolding decide_found
found_done k s at keys moment good none =
    bind-ok _ _ tt (in_time at moment) ∙ bind-ok _ _ tt good ∙ bind-ok _ _ tt (ap (λ o. refuse_if (is_some o) AlreadyFounded) none)

-- ---- rotations

rotate_bad : (k : Rules) (s : State) (at : ℕ) (keys : KeySet) (r : Refusal) → at ≤ last_command_moment → check_keys k keys ≡ Err r → decide_rotate k s at keys ≡ Err r
unfolding decide_rotate
rotate_bad k s at keys r moment bad = bind-ok _ _ tt (in_time at moment) ∙ bind-err _ _ r bad

pub rotate_gives : (k : Rules) (s : State) (at : ℕ) (keys : KeySet) (r : Refusal) → at ≤ last_command_moment → MatchBool (is_memory r) ⊤ (check_keys k keys ≡ Err r)
    → MatchBool (is_memory r) ⊤ (decide_rotate k s at keys ≡ Err r)
rotate_gives k s at keys r moment h = unless_memory (is_memory r) (rotate_bad k s at keys r moment) h

pub rotate_unfounded : (k : Rules) (s : State) (at : ℕ) (keys : KeySet) → at ≤ last_command_moment → check_keys k keys ≡ Ok tt → s.files ≡ None → decide_rotate k s at keys ≡ Err NotFounded
unfolding decide_rotate
rotate_unfounded k s at keys moment good none = bind-ok _ _ tt (in_time at moment) ∙ bind-ok _ _ tt good ∙ bind-err _ _ NotFounded (not_founded s none)

pub rotate_full : (k : Rules) (s : State) (at : ℕ) (keys : KeySet) → at ≤ last_command_moment → check_keys k keys ≡ Ok tt → is_founded s ≡ true → are_roots_full (root_number s) (image_root_number s) ≡ true → decide_rotate k s at keys ≡ Err RootFull
unfolding decide_rotate
rotate_full k s at keys moment good some full =
    bind-ok _ _ tt (in_time at moment) ∙ bind-ok _ _ tt good ∙ bind-ok _ _ tt (founded s some) ∙ bind-err _ _ RootFull (ap (λ b. refuse_if b RootFull) full)

room_for_root : (s : State) → are_roots_full (root_number s) (image_root_number s) ≡ false → refuse_if (are_roots_full (root_number s) (image_root_number s)) RootFull ≡ Ok tt
room_for_root s room = ap (λ b. refuse_if b RootFull) room

pub rotate_limit : (k : Rules) (s : State) (at : ℕ) (keys : KeySet) → at ≤ last_command_moment → check_keys k keys ≡ Ok tt → is_founded s ≡ true → are_roots_full (root_number s) (image_root_number s) ≡ false → max_count ≤ s.image_version
    → decide_rotate k s at keys ≡ Err VersionLimit
unfolding decide_rotate
rotate_limit k s at keys moment good some room limit =
    bind-ok _ _ tt (in_time at moment) ∙ bind-ok _ _ tt good ∙ bind-ok _ _ tt (founded s some) ∙ bind-ok _ _ tt (room_for_root s room) ∙ bind-err _ _ VersionLimit (at_limit s limit)

pub rotate_done : (k : Rules) (s : State) (at : ℕ) (keys : KeySet) → at ≤ last_command_moment → check_keys k keys ≡ Ok tt → is_founded s ≡ true → are_roots_full (root_number s) (image_root_number s) ≡ false → s.image_version < max_count
    → decide_rotate k s at keys ≡ Ok (done (stamped k (with_root k s at keys) at (s.image_version + 1)))
unfolding decide_rotate
rotate_done k s at keys moment good some room below =
    bind-ok _ _ tt (in_time at moment) ∙ bind-ok _ _ tt good ∙ bind-ok _ _ tt (founded s some) ∙ bind-ok _ _ tt (room_for_root s room) ∙ bind-ok _ _ tt (below_limit s below)

-- neither number is at its limit
pub neither_full : (director image : ℕ) → are_roots_full director image ≡ false → (director < 64) × (image < 64)
neither_full director image h = by_tests (nat_le 64 director) (nat_le 64 image) refl refl h
  where
    by_tests : (a b : Bool) → nat_le 64 director ≡ a → nat_le 64 image ≡ b → (a || b) ≡ false → (director < 64) × (image < 64)
    by_tests true b first second h = cc
    by_tests false true first second h = cc
    by_tests false false first second h = (grind (arith, nat_tests), grind (arith, nat_tests))

-- ---- images

pub image_unfounded : (k : Rules) (s : State) (at : ℕ) (image : ImageData) → at ≤ last_command_moment → s.files ≡ None → decide_image k s at image ≡ Err NotFounded
unfolding decide_image
image_unfounded k s at image moment none = bind-ok _ _ tt (in_time at moment) ∙ bind-err _ _ NotFounded (not_founded s none)

of_founded : (k : Rules) (s : State) (at : ℕ) (image : ImageData) → at ≤ last_command_moment → is_founded s ≡ true
    → decide_image k s at image ≡ where_new s (same_image image) ImageTaken (table.get s.images image.file) (decide_new_image k s at image)
unfolding decide_image
of_founded k s at image moment some = bind-ok _ _ tt (in_time at moment) ∙ bind-ok _ _ tt (founded s some)

pub image_there : (k : Rules) (s : State) (at : ℕ) (image old : ImageData) → at ≤ last_command_moment → is_founded s ≡ true → table.get s.images image.file ≡ Some old → same_image image old ≡ true
    → decide_image k s at image ≡ Ok (already s)
image_there k s at image old moment some there same =
    of_founded k s at image moment some ∙ ap (λ o. where_new s (same_image image) ImageTaken o (decide_new_image k s at image)) there ∙ ap (λ b. cond b (Ok (already s)) (Err ImageTaken)) same

pub image_taken : (k : Rules) (s : State) (at : ℕ) (image old : ImageData) → at ≤ last_command_moment → is_founded s ≡ true → table.get s.images image.file ≡ Some old → same_image image old ≡ false
    → decide_image k s at image ≡ Err ImageTaken
image_taken k s at image old moment some there other =
    of_founded k s at image moment some ∙ ap (λ o. where_new s (same_image image) ImageTaken o (decide_new_image k s at image)) there ∙ ap (λ b. cond b (Ok (already s)) (Err ImageTaken)) other

pub image_new : (k : Rules) (s : State) (at : ℕ) (image : ImageData) → at ≤ last_command_moment → is_founded s ≡ true → table.get s.images image.file ≡ None → decide_image k s at image ≡ decide_new_image k s at image
image_new k s at image moment some none =
    of_founded k s at image moment some ∙ ap (λ o. where_new s (same_image image) ImageTaken o (decide_new_image k s at image)) none

-- ---- images of a new filename

pub image_full : (k : Rules) (s : State) (at : ℕ) (image : ImageData) → 1024 ≤ table.len s.images → decide_new_image k s at image ≡ Err RegisterFull
unfolding decide_new_image
image_full k s at image full =
    let test : nat_le 1024 (table.len s.images) ≡ true = grind (arith, nat_tests) in
    bind-err _ _ RegisterFull (ap (λ b. refuse_if b RegisterFull) test)

room_for_image : (s : State) → table.len s.images < 1024 → refuse_if (nat_le 1024 (table.len s.images)) RegisterFull ≡ Ok tt
room_for_image s room = let test : nat_le 1024 (table.len s.images) ≡ false = grind (arith, nat_tests) in ap (λ b. refuse_if b RegisterFull) test

pub image_limit : (k : Rules) (s : State) (at : ℕ) (image : ImageData) → table.len s.images < 1024 → max_count ≤ s.image_version → decide_new_image k s at image ≡ Err VersionLimit
unfolding decide_new_image
image_limit k s at image room limit = bind-ok _ _ tt (room_for_image s room) ∙ bind-err _ _ VersionLimit (at_limit s limit)

pub image_done : (k : Rules) (s : State) (at : ℕ) (image : ImageData) → table.len s.images < 1024 → s.image_version < max_count
    → decide_new_image k s at image ≡ Ok (done (stamped k (with_image s image) at (s.image_version + 1)))
unfolding decide_new_image
image_done k s at image room below = bind-ok _ _ tt (room_for_image s room) ∙ bind-ok _ _ tt (below_limit s below)

-- ---- new files

pub refresh_unfounded : (k : Rules) (s : State) (at version : ℕ) → at ≤ last_command_moment → s.files ≡ None → decide_refresh k s at version ≡ Err NotFounded
unfolding decide_refresh
refresh_unfounded k s at version moment none = bind-ok _ _ tt (in_time at moment) ∙ bind-err _ _ NotFounded (not_founded s none)

pub refresh_not_greater : (k : Rules) (s : State) (at version : ℕ) → at ≤ last_command_moment → is_founded s ≡ true → version ≤ s.image_version → decide_refresh k s at version ≡ Err VersionNotGreater
unfolding decide_refresh
refresh_not_greater k s at version moment some low =
    let test : nat_le version s.image_version ≡ true = grind (arith, nat_tests) in
    bind-ok _ _ tt (in_time at moment) ∙ bind-ok _ _ tt (founded s some) ∙ bind-err _ _ VersionNotGreater (ap (λ b. refuse_if b VersionNotGreater) test)

pub refresh_done : (k : Rules) (s : State) (at version : ℕ) → at ≤ last_command_moment → is_founded s ≡ true → s.image_version < version → decide_refresh k s at version ≡ Ok (done (stamped k s at version))
unfolding decide_refresh
refresh_done k s at version moment some above =
    let test : nat_le version s.image_version ≡ false = grind (arith, nat_tests) in
    bind-ok _ _ tt (in_time at moment) ∙ bind-ok _ _ tt (founded s some) ∙ bind-ok _ _ tt (ap (λ b. refuse_if b VersionNotGreater) test)
