-- What the decision on a file comes to, by what is there.
use Rattle.std.proofs.Common.{◌≡◌, ℕ, ◌≤◌, List, true, false, Some, None, Ok, Err, sym, ap, ◌∙◌, arith}
use Rattle.std.specs.Prelude.{nat_lt, is_some}
use Rattle.std.proofs.lemmas.Bool.Decides.{nat_tests}
use Rattle.up_canon.specs.Moments.{last_command_moment}
use Rattle.up_canon.specs.Names.{Name}
use Rattle.up_canon.specs.Steps.{refuse_if, or_error}
use Rattle.up_canon.specs.declared.refusal.Refusal.TheVariants.{MomentOutOfRange, NotFounded, UnknownFile}
use Rattle.up_roles.specs.declared.repository.Repository.{Repository}
use Rattle.up_machine.specs.declared.answer.Answer.TheVariants.{File}
use Rattle.up_machine.specs.State.{State}
use Rattle.up_machine.specs.Files.{file}
use Rattle.up_machine.specs.Rows.{founding_row}
use Rattle.up_machine.specs.Deciding.{check_moment}
use Rattle.up_machine.specs.Repositories.{decide_fetch}
use Rattle.up_canon.proofs.Steps.{bind-ok, bind-err}
use Rattle.up_machine.proofs.FoundedRow.{check_by, founded_by_mark}

pub in_time : (at : ℕ) → at ≤ last_command_moment → check_moment at ≡ Ok tt
in_time at h = let test : nat_lt last_command_moment at ≡ false = grind (arith, nat_tests) in ap (λ b. refuse_if b MomentOutOfRange) test

pub fetch_unfounded : (s : State) (at : ℕ) (repository : Repository) (name : Name) → at ≤ last_command_moment → false ≡ is_some (founding_row s)
    → decide_fetch s at repository name ≡ Err NotFounded
unfolding decide_fetch
fetch_unfounded s at repository name moment none =
    bind-ok _ _ tt (in_time at moment) ∙ bind-err _ _ NotFounded (founded_by_mark s ∙ ap check_by (sym none))

pub fetch_unknown : (s : State) (at : ℕ) (repository : Repository) (name : Name) → at ≤ last_command_moment → true ≡ is_some (founding_row s)
    → None ≡ file s repository name → decide_fetch s at repository name ≡ Err UnknownFile
unfolding decide_fetch
fetch_unknown s at repository name moment some none =
    bind-ok _ _ tt (in_time at moment) ∙ bind-ok _ _ tt (founded_by_mark s ∙ ap check_by (sym some)) ∙ bind-err _ _ UnknownFile (ap (or_error UnknownFile) (sym none))

pub fetch_found : (s : State) (at : ℕ) (repository : Repository) (name : Name) (text : List ℕ) → at ≤ last_command_moment → true ≡ is_some (founding_row s)
    → Some text ≡ file s repository name → decide_fetch s at repository name ≡ Ok (record { answer = File text; next = s })
unfolding decide_fetch
fetch_found s at repository name text moment some there =
    bind-ok _ _ tt (in_time at moment) ∙ bind-ok _ _ tt (founded_by_mark s ∙ ap check_by (sym some)) ∙ bind-ok _ _ text (ap (or_error UnknownFile) (sym there))
