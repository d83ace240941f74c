-- What the code of full verification needs: Roots that were followed but for memory, and what is installed over what is verified of
-- the Image repository.
use Rattle.std.proofs.Common.{◌≡◌, ℕ, List, [], ◌∷◌, Bool, true, false, Option, Some, None, Result, Ok, Err, refl, sym, ap, ◌∙◌, subst}
use Rattle.std.specs.Prelude.{⊤, MatchBool}
use Rattle.up_canon.specs.Steps.{and_then, ◌>>=◌, each}
use Rattle.up_canon.proofs.Steps.{first_ok, same_ok}
use Rattle.up_roles.specs.declared.repository.Repository.{Repository}
use Rattle.up_roles.specs.declared.targets.Target.{Target}
use Rattle.up_roles.specs.declared.targets.TargetsFile.{TargetsFile}
use Rattle.up_verify.specs.declared.refused.Fault.{Fault}
use Rattle.up_verify.specs.declared.refused.Refused.{Refused}
use Rattle.up_verify.specs.declared.refused.Refused.TheVariants.{File}
use Rattle.up_verify.specs.declared.refused.Role.TheVariants.{Root as RootRole}
use Rattle.up_verify.specs.declared.roots.Followed.{Followed}
use Rattle.up_verify.specs.declared.served.Accepted.{Accepted}
use Rattle.up_verify.specs.declared.served.Served.{Served}
use Rattle.up_verify.specs.declared.trust.Primary.{Primary}
use Rattle.up_verify.specs.declared.trust.Trust.{Trust}
use Rattle.up_verify.specs.Files.{of_file}
use Rattle.up_verify.specs.Results.{lacks_memory, lacked_memory, wants_memory, Follows, Verifies}
use Rattle.up_verify.specs.Roots.{unless_expired, latest}
use Rattle.up_verify.specs.Verifiers.{Verifier}
use Rattle.up_verify.specs.Verify.{check_target_for, check_target, check_some, check_images, check_installs}
use Rattle.up_verify.proofs.Steps.{go_ok}

-- ---- the latest Root

-- a result is what it is
same_result : {A : Type 0} (r : Result A Refused) → Verifies r r
same_result (Ok x) = refl
same_result {A} (Err refused) = by_memory (wants_memory refused)
  where
    by_memory : (m : Bool) → MatchBool m ⊤ (◌≡◌ {A = Result A Refused} (Err refused) (Err refused))
    by_memory true = tt
    by_memory false = refl

-- what is trusted behind Roots that were followed but for memory
pub latest_followed : (repository : Repository) (now : ℕ) (f computed : Followed) → Follows f computed
    → Verifies (of_file repository RootRole (latest now f)) (of_file repository RootRole (latest now computed))
latest_followed repository now f computed h = by_fault f.trust f.fault h
  where
    by_fault : (trust : Trust) (fault : Option Fault) → MatchBool (lacked_memory fault) ⊤ (computed ≡ record { trust = trust; fault = fault })
        → Verifies (of_file repository RootRole (unless_expired now trust fault)) (of_file repository RootRole (latest now computed))
    by_fault trust None h = subst (λ (c : Followed). Verifies (of_file repository RootRole (unless_expired now trust None)) (of_file repository RootRole (latest now c))) (sym h)
        (same_result (of_file repository RootRole (unless_expired now trust None)))
    by_fault trust (Some fault) h = by_memory (lacks_memory fault) h
      where
        by_memory : (m : Bool) → MatchBool m ⊤ (computed ≡ record { trust = trust; fault = Some fault })
            → MatchBool m ⊤ (of_file repository RootRole (latest now computed) ≡ Err (File repository RootRole fault))
        by_memory true h = tt
        by_memory false h = ap (λ (c : Followed). of_file repository RootRole (latest now c)) h

-- ---- what is installed

-- a target that passes is given back as it is
target_same : (p : Primary) (images : List Target) (t u : Target) → check_target p images t ≡ Ok u → t ≡ u
unfolding check_target check_target_for
target_same p images t u h = first_ok _ _ _ _ h (λ name named h. first_ok _ _ _ _ h (λ own there h. first_ok _ _ _ _ h (λ a among h. first_ok _ _ _ _ h (λ b hardware h. first_ok _ _ _ _ h (λ c release h.
    same_ok _ _ h)))))

each_same : (p : Primary) (images ts us : List Target) → each (check_target p images) ts ≡ Ok us → ts ≡ us
unfolding each
each_same p images [] us h = same_ok _ _ h
each_same p images (t ∷ ts) us h = first_ok _ _ _ _ h (λ u is h. first_ok _ _ _ _ h (λ rest more h.
    ap (λ (x : Target). x ∷ ts) (target_same p images t u is) ∙ ap (λ (xs : List Target). u ∷ xs) (each_same p images ts rest more) ∙ same_ok _ _ h))

-- what is accepted: this is trusted, and these are installed
abbrev accepted_of : Primary → Trust → Trust → TargetsFile → List Target → Accepted
accepted_of p director image targets ts = record { next = record p { director = director; image = image }; targets = targets; installs = ts }

installs_are : (v : Verifier) (now : ℕ) (p : Primary) (served : Served) (director image : Trust) (targets : TargetsFile) (ts : List Target)
    → check_images v now p served ts ≡ Ok image → check_installs v now p served director targets ts ≡ Ok (accepted_of p director image targets ts)
unfolding check_some check_images check_installs
installs_are v now p served director image targets [] h = let same : p.image ≡ image = same_ok _ _ h in ap (λ (i : Trust). Ok (accepted_of p director i targets [])) same
installs_are v now p served director image targets (t ∷ ts) h = first_ok _ _ _ _ h (λ latest is h. first_ok _ _ _ _ h (λ checked files h. first_ok _ _ _ _ h (λ installs all h.
    go_ok _ _ latest _ is
    (go_ok _ _ checked _ files
    (go_ok _ _ installs _ all
    (ap (λ (i : Trust). Ok (accepted_of p director i targets installs)) (same_ok _ _ h)
    ∙ ap (λ (us : List Target). Ok (accepted_of p director image targets us)) (sym (each_same p checked.targets.targets (t ∷ ts) installs all))))))))

pub installs_checked : (v : Verifier) (now : ℕ) (p : Primary) (served : Served) (director image : Trust) (targets : TargetsFile) (ts : List Target)
    → check_images v now p served ts ≡ Ok image
    → check_installs v now p served director targets ts ≡ Ok (record { next = record p { director = director; image = image }; targets = targets; installs = ts })
installs_checked v now p served director image targets ts h = installs_are v now p served director image targets ts h

-- the error of the first step that has one
first_err : {E A B C : Type 0} (r : Result A E) (f : A → Result B E) (g : A → Result C E) (e : E) → (r >>= f) ≡ Err e → ((x : A) → f x ≡ Err e → g x ≡ Err e) → (r >>= g) ≡ Err e
unfolding and_then
first_err (Ok x) f g e h go = go x h
first_err {E} {A} {B} {C} (Err d) f g e h go = let same : d ≡ e = cc in ap (λ (e : E). Err e) same

installs_fail : (v : Verifier) (now : ℕ) (p : Primary) (served : Served) (director : Trust) (targets : TargetsFile) (ts : List Target) (refused : Refused)
    → check_images v now p served ts ≡ Err refused → check_installs v now p served director targets ts ≡ Err refused
unfolding check_some check_images check_installs
installs_fail v now p served director targets [] refused h = cc
installs_fail v now p served director targets (t ∷ ts) refused h = first_err _ _ _ refused h (λ latest h. first_err _ _ _ refused h (λ checked h. first_err _ _ _ refused h (λ installs h. cc)))

pub installs_refused : (v : Verifier) (now : ℕ) (p : Primary) (served : Served) (director : Trust) (targets : TargetsFile) (ts : List Target) (refused : Refused)
    → Verifies {A = Trust} (Err refused) (check_images v now p served ts) → Verifies {A = Accepted} (Err refused) (check_installs v now p served director targets ts)
installs_refused v now p served director targets ts refused h = by_memory (wants_memory refused) h
  where
    by_memory : (m : Bool) → MatchBool m ⊤ (check_images v now p served ts ≡ Err refused) → MatchBool m ⊤ (check_installs v now p served director targets ts ≡ Err refused)
    by_memory true h = tt
    by_memory false h = installs_fail v now p served director targets ts refused h
