-- What the code of the checks needs: counts of keys, and checks that follow one another.
use Rattle.std.proofs.Common.{◌≡◌, ℕ, ◌+◌, ◌-◌, ◌<◌, List, [], ◌∷◌, Bool, true, false, cond, Some, Result, Ok, Err, refl, sym, ap, ◌∙◌, subst, arith}
use Rattle.std.specs.Prelude.{⊤, MatchBool, nat_le, count_by}
use Rattle.std.proofs.lemmas.Bool.Decides.{nat_tests}
use Rattle.std.proofs.lemmas.List.Sums.{sum_by-cons}
use Rattle.up_sign.specs.Envelopes.{is_satisfied, is_accepted}
use Rattle.up_sign.specs.Schemes.{Rules}
use Rattle.up_sign.specs.declared.envelope.Envelope.{Envelope}
use Rattle.up_roles.specs.declared.root.RootFile.{RootFile}
use Rattle.up_verify.specs.declared.refused.Fault.{Fault}
use Rattle.up_verify.specs.declared.roots.Followed.{Followed}
use Rattle.up_verify.specs.declared.trust.Trust.{Trust}
use Rattle.up_verify.specs.Results.{lacks_memory, ChecksFile, Follows}
use Rattle.up_verify.specs.Roots.{go_on}

-- ---- counts

counted : {A : Type 0} (p : A → Bool) (x : A) (xs : List A) → count_by p (x ∷ xs) ≡ cond (p x) 1 0 + count_by p xs
counted p x xs = sum_by-cons (λ y. cond (p y) 1 0) x xs

-- one key is accepted for a threshold of 1 where it is satisfied
pub one_accepts : (k : Rules) (e : Envelope) (public : List ℕ) → is_accepted k (public ∷ []) 1 e ≡ is_satisfied k e public
one_accepts k e public = ap (nat_le 1) (counted (is_satisfied k e) public []) ∙ by_test (is_satisfied k e public)
  where
    by_test : (b : Bool) → nat_le 1 (cond b 1 0 + 0) ≡ b
    by_test true = refl
    by_test false = refl

one_fewer : (n m c : ℕ) → 0 < n → m ≡ 1 + c → nat_le n m ≡ nat_le (n - 1) c
one_fewer n m c some is = by_tests (nat_le n m) (nat_le (n - 1) c) refl refl
  where
    by_tests : (a b : Bool) → nat_le n m ≡ a → nat_le (n - 1) c ≡ b → a ≡ b
    by_tests true true p q = refl
    by_tests false false p q = refl
    by_tests true false p q = absurd (grind (arith, nat_tests))
    by_tests false true p q = absurd (grind (arith, nat_tests))

-- of so many, the first counts or doesn't
pub first_counts : {A : Type 0} (p : A → Bool) (x : A) (xs : List A) (n : ℕ) → 0 < n → p x ≡ true → nat_le n (count_by p (x ∷ xs)) ≡ nat_le (n - 1) (count_by p xs)
first_counts p x xs n some is = one_fewer n (count_by p (x ∷ xs)) (count_by p xs) some (counted p x xs ∙ ap (λ (t : Bool). cond t 1 0 + count_by p xs) is)

pub first_misses : {A : Type 0} (p : A → Bool) (x : A) (xs : List A) (n : ℕ) → p x ≡ false → nat_le n (count_by p (x ∷ xs)) ≡ nat_le n (count_by p xs)
first_misses p x xs n is = ap (nat_le n) (counted p x xs ∙ ap (λ (t : Bool). cond t 1 0 + count_by p xs) is ∙ none (count_by p xs))
  where
    none : (c : ℕ) → 0 + c ≡ c
    none c = omega arith

-- ---- Roots

-- at a fault Roots aren't followed on
pub stops : (t : Trust) (fault : Fault) (r : Result RootFile Fault) (further : RootFile → Followed) → ChecksFile {A = RootFile} (Err fault) r
    → Follows (record { trust = t; fault = Some fault }) (go_on t r further)
stops t fault (Ok root) further h = by_memory (lacks_memory fault) h
  where
    by_memory : (m : Bool) → MatchBool m ⊤ (◌≡◌ {A = Result RootFile Fault} (Ok root) (Err fault)) → MatchBool m ⊤ (further root ≡ record { trust = t; fault = Some fault })
    by_memory true h = tt
    by_memory false h = cc
stops t fault (Err other) further h = by_memory (lacks_memory fault) h
  where
    by_memory : (m : Bool) → MatchBool m ⊤ (◌≡◌ {A = Result RootFile Fault} (Err other) (Err fault)) → MatchBool m ⊤ (◌≡◌ {A = Followed} (record { trust = t; fault = Some other }) (record { trust = t; fault = Some fault }))
    by_memory true h = tt
    by_memory false h = let same : other ≡ fault = cc in ap (λ (f : Fault). record { trust = t; fault = Some f }) same

-- behind a Root they are
pub goes_on : (t : Trust) (root : RootFile) (r : Result RootFile Fault) (further : RootFile → Followed) (f : Followed) → r ≡ Ok root → Follows f (further root) → Follows f (go_on t r further)
goes_on t root r further f is h = subst (λ (r : Result RootFile Fault). Follows f (go_on t r further)) (sym is) h
