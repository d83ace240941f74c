-- How many of a role's keys have signed: what signed under its public part has signed under the Root's key of it; and of enough that
-- signed one is not among fewer.
use Rattle.std.proofs.Common.{◌≡◌, ℕ, ◌+◌, ◌<◌, ◌≤◌, List, [], ◌∷◌, Bool, true, false, cond, map, refl, sym, ap, ◌∙◌, arith}
use Rattle.std.specs.Prelude.{◌||◌, ◌&&◌, ◌++◌, bytes_eq, count_by, filter, option_to_list}
use Rattle.std.specs.List.{AllByRecursion, list_all, list_any}
use Rattle.std.specs.Cmp.Lexicographic.{bytes_decides}
use Rattle.std.proofs.lemmas.Bool.{and_parts, or_right, leb-true}
use Rattle.std.proofs.lemmas.Bool.Decides.{nat_tests}
use Rattle.std.proofs.lemmas.List.Sums.{sum_by-cons}
use Rattle.up_canon.proofs.Printable.{both}
use Rattle.up_sign.specs.Envelopes.{is_satisfied, is_accepted}
use Rattle.up_sign.specs.Hmac.{key_id}
use Rattle.up_sign.specs.declared.envelope.Envelope.{Envelope}
use Rattle.up_sign.proofs.Accepted.{bytes_eq-refl}
use Rattle.up_metadata.specs.declared.keys.RoleSecrets.{RoleSecrets}
use Rattle.up_metadata.specs.Files.{root_key, role_keys}
use Rattle.up_verify.specs.Verifiers.{Verifier, has_signed, is_signed_for}
use Rattle.up_primary.specs.Following.{can_read}

-- ---- counts

pub counted : {A : Type 0} (p : A → Bool) (x : A) (xs : List A) → count_by p (x ∷ xs) ≡ cond (p x) 1 0 + count_by p xs
counted p x xs = sum_by-cons (λ y. cond (p y) 1 0) x xs

-- one that passes the first test alone
abbrev pub Alone : {A : Type 0} → (A → Type 0) → (A → Bool) → (A → Bool) → Type 0
Alone {A = A} P p q = (x : A) × P x × (p x ≡ true) × (q x ≡ false)

-- where more pass the first than the second, there is one
pub one_alone : {A : Type 0} (P : A → Type 0) (p q : A → Bool) (xs : List A) → AllByRecursion P xs → count_by q xs < count_by p xs → Alone P p q
one_alone P p q [] each h = absurd (omega (arith, h))
one_alone P p q (x ∷ xs) each h = by_tests (p x) (q x) refl refl (one_alone P p q xs each.1)
  where
    by_tests : (a b : Bool) → p x ≡ a → q x ≡ b → (count_by q xs < count_by p xs → Alone P p q) → Alone P p q
    by_tests a b is_a is_b more =
        by_values a b is_a is_b (counted p x xs ∙ ap (λ (t : Bool). cond t 1 0 + count_by p xs) is_a) (counted q x xs ∙ ap (λ (t : Bool). cond t 1 0 + count_by q xs) is_b)
      where
        by_values : (a b : Bool) → p x ≡ a → q x ≡ b → count_by p (x ∷ xs) ≡ cond a 1 0 + count_by p xs → count_by q (x ∷ xs) ≡ cond b 1 0 + count_by q xs → Alone P p q
        by_values true false is_a is_b one other = (x, each.0, is_a, is_b)
        by_values true true is_a is_b one other = more (omega (arith, h, one, other))
        by_values false true is_a is_b one other = more (omega (arith, h, one, other))
        by_values false false is_a is_b one other = more (omega (arith, h, one, other))

-- ---- one key

pub any_of_filter : (p q : List ℕ → Bool) (x : List ℕ) (xs : List (List ℕ)) → p x ≡ true → q x ≡ true → list_any (bytes_eq x) xs ≡ true → list_any q (filter p xs) ≡ true
any_of_filter p q x [] a b h = cc
any_of_filter p q x (y ∷ xs) a b h = by_test (bytes_eq x y) refl h (any_of_filter p q x xs a b)
  where
    by_pass : (t : Bool) → list_any q (filter p xs) ≡ true → list_any q (cond t (y ∷ filter p xs) (filter p xs)) ≡ true
    by_pass true rest = or_right (q y) _ rest
    by_pass false rest = rest

    by_test : (t : Bool) → bytes_eq x y ≡ t → (t || list_any (bytes_eq x) xs) ≡ true → (list_any (bytes_eq x) xs ≡ true → list_any q (filter p xs) ≡ true) → list_any q (cond (p y) (y ∷ filter p xs) (filter p xs)) ≡ true
    by_test true e g more =
        let same : x ≡ y = (bytes_decides x y).0 e in
        let kept : p y ≡ true = ap p (sym same) ∙ a in
        let holds : q y ≡ true = ap q (sym same) ∙ b in
        ap (λ (t : Bool). list_any q (cond t (y ∷ filter p xs) (filter p xs))) kept ∙ ap (λ (t : Bool). t || list_any q (filter p xs)) holds
    by_test false e g more = by_pass (p y) (more g)

pub any_of : (q : List ℕ → Bool) (x : List ℕ) (xs : List (List ℕ)) → q x ≡ true → list_any (bytes_eq x) xs ≡ true → list_any q xs ≡ true
any_of q x [] b h = cc
any_of q x (y ∷ xs) b h = by_test (bytes_eq x y) refl h (any_of q x xs b)
  where
    by_test : (t : Bool) → bytes_eq x y ≡ t → (t || list_any (bytes_eq x) xs) ≡ true → (list_any (bytes_eq x) xs ≡ true → list_any q xs ≡ true) → (q y || list_any q xs) ≡ true
    by_test true e g more =
        let same : x ≡ y = (bytes_decides x y).0 e in
        let holds : q y ≡ true = ap q (sym same) ∙ b in
        ap (λ (t : Bool). t || list_any q xs) holds
    by_test false e g more = or_right (q y) _ (more g)

-- its own public part is among those of the Root's key
pub key_signed : (v : Verifier) (e : Envelope) (secret : List ℕ) → can_read v (v.rules.public_of secret) ≡ true → is_satisfied v.rules e (v.rules.public_of secret) ≡ true
    → has_signed v e (root_key v.rules secret) ≡ true
key_signed v e secret known h =
    any_of (λ p. bytes_eq (key_id p) (key_id (v.rules.public_of secret)) && is_satisfied v.rules e p) (v.rules.public_of secret)
    (option_to_list (v.public_in (v.rules.shown (v.rules.public_of secret))) ++ v.held) (both _ _ (bytes_eq-refl (key_id (v.rules.public_of secret))) h) known

-- ---- a role

no_fewer : (v : Verifier) (e : Envelope) (secrets : List (List ℕ)) → list_all (λ s. can_read v (v.rules.public_of s)) secrets ≡ true
    → count_by (is_satisfied v.rules e) (map v.rules.public_of secrets) ≤ count_by (has_signed v e) (map (root_key v.rules) secrets)
no_fewer v e [] known = omega arith
no_fewer v e (s ∷ secrets) known =
    let k = and_parts (can_read v (v.rules.public_of s)) _ known in
    let rest = no_fewer v e secrets k.1 in
    by_test (is_satisfied v.rules e (v.rules.public_of s)) (has_signed v e (root_key v.rules s)) refl refl (key_signed v e s k.0) rest
  where
    by_test : (a b : Bool) → is_satisfied v.rules e (v.rules.public_of s) ≡ a → has_signed v e (root_key v.rules s) ≡ b
        → (is_satisfied v.rules e (v.rules.public_of s) ≡ true → has_signed v e (root_key v.rules s) ≡ true)
        → count_by (is_satisfied v.rules e) (map v.rules.public_of secrets) ≤ count_by (has_signed v e) (map (root_key v.rules) secrets)
        → count_by (is_satisfied v.rules e) (map v.rules.public_of (s ∷ secrets)) ≤ count_by (has_signed v e) (map (root_key v.rules) (s ∷ secrets))
    by_test a b is_a is_b both rest =
        let one = counted (is_satisfied v.rules e) (v.rules.public_of s) (map v.rules.public_of secrets) ∙ ap (λ (t : Bool). cond t 1 0 + count_by (is_satisfied v.rules e) (map v.rules.public_of secrets)) is_a in
        let other = counted (has_signed v e) (root_key v.rules s) (map (root_key v.rules) secrets) ∙ ap (λ (t : Bool). cond t 1 0 + count_by (has_signed v e) (map (root_key v.rules) secrets)) is_b in
        by_values a b (λ h. sym is_b ∙ both (is_a ∙ h)) one other rest
      where
        by_values : (a b : Bool) → (a ≡ true → b ≡ true) → count_by (is_satisfied v.rules e) (map v.rules.public_of (s ∷ secrets)) ≡ cond a 1 0 + count_by (is_satisfied v.rules e) (map v.rules.public_of secrets)
            → count_by (has_signed v e) (map (root_key v.rules) (s ∷ secrets)) ≡ cond b 1 0 + count_by (has_signed v e) (map (root_key v.rules) secrets)
            → count_by (is_satisfied v.rules e) (map v.rules.public_of secrets) ≤ count_by (has_signed v e) (map (root_key v.rules) secrets)
            → count_by (is_satisfied v.rules e) (map v.rules.public_of (s ∷ secrets)) ≤ count_by (has_signed v e) (map (root_key v.rules) (s ∷ secrets))
        by_values true true h one other rest = omega (arith, one, other, rest)
        by_values true false h one other rest = let no : false ≡ true = h refl in cc
        by_values false true h one other rest = omega (arith, one, other, rest)
        by_values false false h one other rest = omega (arith, one, other, rest)

-- what is accepted under the role's keys is signed for the role as the Root shows it
pub signed_for : (v : Verifier) (role : RoleSecrets) (e : Envelope) → list_all (λ s. can_read v (v.rules.public_of s)) role.keys ≡ true
    → is_accepted v.rules (map v.rules.public_of role.keys) role.threshold e ≡ true → is_signed_for v (role_keys v.rules role) e ≡ true
signed_for v role e known h =
    let enough : role.threshold ≤ count_by (is_satisfied v.rules e) (map v.rules.public_of role.keys) = leb-true _ _ h in
    let more = no_fewer v e role.keys known in
    let all : role.threshold ≤ count_by (has_signed v e) (map (root_key v.rules) role.keys) = omega (arith, enough, more) in
    grind (arith, nat_tests)
