-- A sealed envelope is accepted under the keys of its signers.
use Rattle.std.proofs.Common.{◌≡◌, ℕ, ◌+◌, List, [], ◌∷◌, Bool, true, false, cond, length, map, refl, ap, ap₂, ◌∙◌, subst, arith}
use Rattle.std.specs.Prelude.{◌&&◌, ◌||◌, IsTrue, bytes_eq, nat_le, count_by}
use Rattle.std.specs.List.{list_all, list_any}
use Rattle.std.specs.Cmp.Lexicographic.{bytes_decides}
use Rattle.std.proofs.lemmas.Bool.{and_parts, or_right}
use Rattle.std.proofs.lemmas.Bool.Decides.{nat_tests}
use Rattle.std.proofs.lemmas.List.Sums.{sum_by-cons}
use Rattle.up_sign.specs.Envelopes.{is_by, is_satisfied, signature_of, sealed_envelope}
use Rattle.up_sign.specs.Hmac.{key_id}
use Rattle.up_sign.specs.Laws.{SealedFits, SealedIsAccepted}
use Rattle.up_sign.specs.Schemes.{Rules, IsScheme}
use Rattle.up_sign.proofs.Sealed.{sealed_fits, sealed_bytes}

pub bytes_eq-refl : (xs : List ℕ) → bytes_eq xs xs ≡ true
bytes_eq-refl xs = (bytes_decides xs xs).1 refl

-- the signature of a secret is its key's
is_by-own : (k : Rules) → IsScheme k → (t s : List ℕ) → IsTrue (k.secret_fits s) → is_by k t (k.public_of s) (signature_of k t s) ≡ true
is_by-own k law t s fits = ap₂ (λ a b. a && b) (bytes_eq-refl (key_id (k.public_of s))) (ap₂ (λ a b. a && b) (bytes_eq-refl k.method) (law.tag_is_valid s t fits))

some_is_by : (k : Rules) → IsScheme k → (t s : List ℕ) → IsTrue (k.secret_fits s) → (signers : List (List ℕ)) → list_any (bytes_eq s) signers ≡ true
    → list_any (is_by k t (k.public_of s)) (map (signature_of k t) signers) ≡ true
some_is_by k law t s fits [] h = cc
some_is_by k law t s fits (x ∷ signers) h = by_test (bytes_eq s x) refl h (some_is_by k law t s fits signers)
  where
    by_test : (b : Bool) → bytes_eq s x ≡ b → (b || list_any (bytes_eq s) signers) ≡ true
        → (list_any (bytes_eq s) signers ≡ true → list_any (is_by k t (k.public_of s)) (map (signature_of k t) signers) ≡ true)
        → (is_by k t (k.public_of s) (signature_of k t x) || list_any (is_by k t (k.public_of s)) (map (signature_of k t) signers)) ≡ true
    by_test true e g go =
        let is : s ≡ x = (bytes_decides s x).0 e in
        let own : is_by k t (k.public_of s) (signature_of k t x) ≡ true = subst (λ (y : List ℕ). is_by k t (k.public_of s) (signature_of k t y) ≡ true) is (is_by-own k law t s fits) in
        ap (λ a. a || list_any (is_by k t (k.public_of s)) (map (signature_of k t) signers)) own
    by_test false e g go = or_right (is_by k t (k.public_of s) (signature_of k t x)) _ (go g)

all_satisfied : (k : Rules) → IsScheme k → (t : List ℕ) (signers secrets : List (List ℕ)) → list_all k.secret_fits secrets ≡ true → list_all (λ s. list_any (bytes_eq s) signers) secrets ≡ true
    → count_by (is_satisfied k (sealed_envelope k signers t)) (map k.public_of secrets) ≡ length secrets
all_satisfied k law t signers [] fits among = refl
all_satisfied k law t signers (s ∷ secrets) fits among =
    let p = and_parts (k.secret_fits s) _ fits in
    let q = and_parts (list_any (bytes_eq s) signers) _ among in
    let one : is_satisfied k (sealed_envelope k signers t) (k.public_of s) ≡ true = some_is_by k law t s p.0 signers q.0 in
    let rest = all_satisfied k law t signers secrets p.1 q.1 in
    sum_by-cons (λ p. cond (is_satisfied k (sealed_envelope k signers t) p) 1 0) (k.public_of s) (map k.public_of secrets) ∙ ap₂ (λ (b : Bool) (n : ℕ). cond b 1 0 + n) one rest ∙ omega arith

pub sealed_is_accepted : SealedIsAccepted
sealed_is_accepted k secrets signers text threshold law fits among few =
    let all = all_satisfied k law text signers secrets fits among in
    let test : nat_le threshold (length secrets) ≡ true = grind (arith, nat_tests) in
    ap (nat_le threshold) all ∙ test

pub sealed_is_within : SealedFits
sealed_is_within k secrets text law fits low high = (sealed_fits k law secrets text fits low high, sealed_bytes k law secrets text fits)
