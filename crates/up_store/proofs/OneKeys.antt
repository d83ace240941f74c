-- The rows of keys tell the keys.
use Rattle.std.proofs.Common.{◌≡◌, ◌+◌, ℕ, List, [], ◌∷◌, ◌++◌, Bool, true, false, map, filter, inl, inr, refl, sym, ap, ap₂, ◌∙◌, arith, append-nil, codes, append_assoc}
use Rattle.std.proofs.lemmas.List.Elements.{filter-append}
use Rattle.up_metadata.specs.declared.keys.RoleSecrets.{RoleSecrets}
use Rattle.up_store.proofs.Common.{enumerate_from, slice_cmp, is_eq, nat_cmp, Text, Row, column, value_cmp, Repository, Director, Image, KeySet, RepoKeys, has_text, repository_word, role_lines, repository_lines, HasKeys, HaveKeys, EachHasKeys, value_cmp-Text}
use Rattle.up_store.proofs.FoundingReads.{key_line}

-- ---- parts that a test tells apart

same_front : {A : Type 0} (xs ys zs : List A) → xs ++ ys ≡ xs ++ zs → ys ≡ zs
same_front [] ys zs h = h
same_front (x ∷ xs) ys zs h = same_front xs ys zs (cc)

record Apart (test : Row → Bool) (xs ys : List Row) : Type 0 where
  front : filter test xs ≡ xs
  behind : filter test ys ≡ []

front_of : (test : Row → Bool) (xs ys : List Row) → Apart test xs ys → filter test (xs ++ ys) ≡ xs
front_of test xs ys h = filter-append test xs ys ∙ ap₂ (λ (a b : List Row). a ++ b) h.front h.behind ∙ append-nil xs

fronts : (test : Row → Bool) (xs ys us vs : List Row) → Apart test xs ys → Apart test us vs → xs ++ ys ≡ us ++ vs → xs ≡ us
fronts test xs ys us vs a b h = sym (front_of test xs ys a) ∙ ap (filter test) h ∙ front_of test us vs b

behinds : (test : Row → Bool) (xs ys us vs : List Row) → Apart test xs ys → Apart test us vs → xs ++ ys ≡ us ++ vs → ys ≡ vs
behinds test xs ys us vs a b h = same_front us ys vs (ap (λ (zs : List Row). zs ++ ys) (sym (fronts test xs ys us vs a b h)) ∙ h)

none_both : (test : Row → Bool) (xs ys : List Row) → filter test xs ≡ [] → filter test ys ≡ [] → filter test (xs ++ ys) ≡ []
none_both test xs ys h k = filter-append test xs ys ∙ ap₂ (λ (a b : List Row). a ++ b) h k

-- ---- a role

-- two texts are told apart as SQL compares them
by_text : (a b : List ℕ) → is_eq (value_cmp (Text a) (Text b)) ≡ is_eq (slice_cmp nat_cmp a b)
by_text a b = ap is_eq (value_cmp-Text a b)

-- of the rows of a role each passes a test of its words, or none
lines_pass : (test : Row → Bool) (m threshold : ℕ) (word role : List ℕ) → ((key : ℕ × List ℕ) → test (key_line m word role threshold key) ≡ true) → (i : ℕ) (keys : List (List ℕ))
    → filter test (map (key_line m word role threshold) (enumerate_from i keys)) ≡ map (key_line m word role threshold) (enumerate_from i keys)
lines_pass test m threshold word role h i [] = refl
lines_pass test m threshold word role h i (key ∷ keys) = rw (h (i, key), lines_pass test m threshold word role h (i + 1) keys) refl

lines_fail : (test : Row → Bool) (m threshold : ℕ) (word role : List ℕ) → ((key : ℕ × List ℕ) → test (key_line m word role threshold key) ≡ false) → (i : ℕ) (keys : List (List ℕ))
    → filter test (map (key_line m word role threshold) (enumerate_from i keys)) ≡ []
lines_fail test m threshold word role h i [] = refl
lines_fail test m threshold word role h i (key ∷ keys) = rw (h (i, key), lines_fail test m threshold word role h (i + 1) keys) refl

keys_of_lines : (m t u i : ℕ) (word role : List ℕ) (ks ls : List (List ℕ)) → map (key_line m word role t) (enumerate_from i ks) ≡ map (key_line m word role u) (enumerate_from i ls) → ks ≡ ls
keys_of_lines m t u i word role [] [] h = refl
keys_of_lines m t u i word role [] (l ∷ ls) h = absurd (cc)
keys_of_lines m t u i word role (k ∷ ks) [] h = absurd (cc)
keys_of_lines m t u i word role (k ∷ ks) (l ∷ ls) h =
    let head : k ≡ l = cc in
    let tail : map (key_line m word role t) (enumerate_from (i + 1) ks) ≡ map (key_line m word role u) (enumerate_from (i + 1) ls) = cc in
    ap₂ (λ (x : List ℕ) (xs : List (List ℕ)). x ∷ xs) head (keys_of_lines m t u (i + 1) word role ks ls tail)

abbrev the_role : List (List ℕ) → ℕ → RoleSecrets
the_role ks t = record { keys = ks; threshold = t }

-- of no rows nothing is held
threshold_of_lines : (m t u : ℕ) (word role : List ℕ) (ks ls : List (List ℕ)) → HasKeys (the_role ks t) → HasKeys (the_role ls u)
    → map (key_line m word role t) (enumerate_from 0 ks) ≡ map (key_line m word role u) (enumerate_from 0 ls) → t ≡ u
threshold_of_lines m t u word role [] [] (inl some) held h = absurd (omega (arith, some))
threshold_of_lines m t u word role [] [] (inr none) (inl some) h = absurd (omega (arith, some))
threshold_of_lines m t u word role [] [] (inr none) (inr also) h = ap (λ (r : RoleSecrets). r.threshold) (none ∙ sym also)
threshold_of_lines m t u word role [] (l ∷ ls) some more h = absurd (let e = h in cc)
threshold_of_lines m t u word role (k ∷ ks) [] some more h = absurd (let e = h in cc)
threshold_of_lines m t u word role (k ∷ ks) (l ∷ ls) some more h = cc

one_role : (m : ℕ) (repository : Repository) (role : List ℕ) (a b : RoleSecrets) → HasKeys a → HasKeys b → role_lines m repository role a ≡ role_lines m repository role b → a ≡ b
one_role m repository role a b some more h =
    let keys : a.keys ≡ b.keys = keys_of_lines m a.threshold b.threshold 0 (repository_word repository) role a.keys b.keys h in
    let threshold : a.threshold ≡ b.threshold = threshold_of_lines m a.threshold b.threshold (repository_word repository) role a.keys b.keys some more h in
    ap₂ (λ (ks : List (List ℕ)) (t : ℕ). the_role ks t) keys threshold

-- ---- a repository

abbrev has_role : List ℕ → Row → Bool
has_role role row = is_eq (value_cmp (column row 2) (Text role))

-- the rows of a repository, its roles one behind another
abbrev behind_root : ℕ → Repository → RepoKeys → List Row
behind_root m r keys = role_lines m r (codes "targets") keys.targets ++ (role_lines m r (codes "snapshot") keys.snapshot ++ role_lines m r (codes "timestamp") keys.timestamp)

in_turn : (m : ℕ) (r : Repository) (keys : RepoKeys) → repository_lines m r keys ≡ role_lines m r (codes "root") keys.root ++ behind_root m r keys
in_turn m r keys =
    append_assoc (role_lines m r (codes "root") keys.root ++ role_lines m r (codes "targets") keys.targets) (role_lines m r (codes "snapshot") keys.snapshot) (role_lines m r (codes "timestamp") keys.timestamp)
    ∙ append_assoc (role_lines m r (codes "root") keys.root) (role_lines m r (codes "targets") keys.targets) (role_lines m r (codes "snapshot") keys.snapshot ++ role_lines m r (codes "timestamp") keys.timestamp)

root_apart : (m : ℕ) (r : Repository) (keys : RepoKeys) → Apart (has_role (codes "root")) (role_lines m r (codes "root") keys.root) (behind_root m r keys)
root_apart m r keys = record {
  front = lines_pass (has_role (codes "root")) m keys.root.threshold (repository_word r) (codes "root") (λ _. by_text (codes "root") (codes "root")) 0 keys.root.keys;
  behind = none_both (has_role (codes "root")) (role_lines m r (codes "targets") keys.targets) (role_lines m r (codes "snapshot") keys.snapshot ++ role_lines m r (codes "timestamp") keys.timestamp) (lines_fail (has_role (codes "root")) m keys.targets.threshold (repository_word r) (codes "targets") (λ _. by_text (codes "targets") (codes "root")) 0 keys.targets.keys)
      (none_both (has_role (codes "root")) (role_lines m r (codes "snapshot") keys.snapshot) (role_lines m r (codes "timestamp") keys.timestamp) (lines_fail (has_role (codes "root")) m keys.snapshot.threshold (repository_word r) (codes "snapshot") (λ _. by_text (codes "snapshot") (codes "root")) 0 keys.snapshot.keys)
      (lines_fail (has_role (codes "root")) m keys.timestamp.threshold (repository_word r) (codes "timestamp") (λ _. by_text (codes "timestamp") (codes "root")) 0 keys.timestamp.keys));
}

targets_apart : (m : ℕ) (r : Repository) (keys : RepoKeys)
    → Apart (has_role (codes "targets")) (role_lines m r (codes "targets") keys.targets) (role_lines m r (codes "snapshot") keys.snapshot ++ role_lines m r (codes "timestamp") keys.timestamp)
targets_apart m r keys = record {
  front = lines_pass (has_role (codes "targets")) m keys.targets.threshold (repository_word r) (codes "targets") (λ _. by_text (codes "targets") (codes "targets")) 0 keys.targets.keys;
  behind = none_both (has_role (codes "targets")) (role_lines m r (codes "snapshot") keys.snapshot) (role_lines m r (codes "timestamp") keys.timestamp) (lines_fail (has_role (codes "targets")) m keys.snapshot.threshold (repository_word r) (codes "snapshot") (λ _. by_text (codes "snapshot") (codes "targets")) 0 keys.snapshot.keys)
      (lines_fail (has_role (codes "targets")) m keys.timestamp.threshold (repository_word r) (codes "timestamp") (λ _. by_text (codes "timestamp") (codes "targets")) 0 keys.timestamp.keys);
}

snapshot_apart : (m : ℕ) (r : Repository) (keys : RepoKeys) → Apart (has_role (codes "snapshot")) (role_lines m r (codes "snapshot") keys.snapshot) (role_lines m r (codes "timestamp") keys.timestamp)
snapshot_apart m r keys = record {
  front = lines_pass (has_role (codes "snapshot")) m keys.snapshot.threshold (repository_word r) (codes "snapshot") (λ _. by_text (codes "snapshot") (codes "snapshot")) 0 keys.snapshot.keys;
  behind = lines_fail (has_role (codes "snapshot")) m keys.timestamp.threshold (repository_word r) (codes "timestamp") (λ _. by_text (codes "timestamp") (codes "snapshot")) 0 keys.timestamp.keys;
}

abbrev the_keys : RoleSecrets → RoleSecrets → RoleSecrets → RoleSecrets → RepoKeys
the_keys root targets snapshot timestamp = record { root = root; targets = targets; snapshot = snapshot; timestamp = timestamp }

one_repository : (m : ℕ) (r : Repository) (a b : RepoKeys) → HaveKeys a → HaveKeys b → repository_lines m r a ≡ repository_lines m r b → a ≡ b
one_repository m r a b some more h =
    let all = sym (in_turn m r a) ∙ h ∙ in_turn m r b in
    let first = fronts (has_role (codes "root")) _ _ _ _ (root_apart m r a) (root_apart m r b) all in
    let after = behinds (has_role (codes "root")) _ _ _ _ (root_apart m r a) (root_apart m r b) all in
    let second = fronts (has_role (codes "targets")) _ _ _ _ (targets_apart m r a) (targets_apart m r b) after in
    let rest = behinds (has_role (codes "targets")) _ _ _ _ (targets_apart m r a) (targets_apart m r b) after in
    let third = fronts (has_role (codes "snapshot")) _ _ _ _ (snapshot_apart m r a) (snapshot_apart m r b) rest in
    let last = behinds (has_role (codes "snapshot")) _ _ _ _ (snapshot_apart m r a) (snapshot_apart m r b) rest in
    let root : a.root ≡ b.root = one_role m r (codes "root") a.root b.root some.root more.root first in
    let targets : a.targets ≡ b.targets = one_role m r (codes "targets") a.targets b.targets some.targets more.targets second in
    let snapshot : a.snapshot ≡ b.snapshot = one_role m r (codes "snapshot") a.snapshot b.snapshot some.snapshot more.snapshot third in
    let timestamp : a.timestamp ≡ b.timestamp = one_role m r (codes "timestamp") a.timestamp b.timestamp some.timestamp more.timestamp last in
    ap₂ (λ (x y : RoleSecrets). the_keys x y a.snapshot a.timestamp) root targets ∙ ap₂ (λ (x y : RoleSecrets). the_keys b.root b.targets x y) snapshot timestamp

-- ---- a root version

abbrev is_of : Repository → Row → Bool
is_of r = has_text 1 (repository_word r)

director_passes : (m : ℕ) (keys : RepoKeys) → filter (is_of Director) (repository_lines m Director keys) ≡ repository_lines m Director keys
director_passes m keys =
    let t = is_of Director in
    let w = repository_word Director in
    filter-append t (role_lines m Director (codes "root") keys.root ++ role_lines m Director (codes "targets") keys.targets ++ role_lines m Director (codes "snapshot") keys.snapshot) (role_lines m Director (codes "timestamp") keys.timestamp) ∙ ap₂ (λ (a b : List Row). a ++ b)
    (filter-append t (role_lines m Director (codes "root") keys.root ++ role_lines m Director (codes "targets") keys.targets) (role_lines m Director (codes "snapshot") keys.snapshot) ∙ ap₂ (λ (a b : List Row). a ++ b)
    (filter-append t (role_lines m Director (codes "root") keys.root) (role_lines m Director (codes "targets") keys.targets) ∙ ap₂ (λ (a b : List Row). a ++ b) (lines_pass t m keys.root.threshold w (codes "root") (λ _. by_text (codes "director") (codes "director")) 0 keys.root.keys) (lines_pass t m keys.targets.threshold w (codes "targets") (λ _. by_text (codes "director") (codes "director")) 0 keys.targets.keys))
    (lines_pass t m keys.snapshot.threshold w (codes "snapshot") (λ _. by_text (codes "director") (codes "director")) 0 keys.snapshot.keys))
    (lines_pass t m keys.timestamp.threshold w (codes "timestamp") (λ _. by_text (codes "director") (codes "director")) 0 keys.timestamp.keys)

image_fails : (m : ℕ) (keys : RepoKeys) → filter (is_of Director) (repository_lines m Image keys) ≡ []
image_fails m keys =
    let t = is_of Director in
    let w = repository_word Image in
    none_both t (role_lines m Image (codes "root") keys.root ++ role_lines m Image (codes "targets") keys.targets ++ role_lines m Image (codes "snapshot") keys.snapshot) (role_lines m Image (codes "timestamp") keys.timestamp) (none_both t (role_lines m Image (codes "root") keys.root ++ role_lines m Image (codes "targets") keys.targets) (role_lines m Image (codes "snapshot") keys.snapshot) (none_both t (role_lines m Image (codes "root") keys.root) (role_lines m Image (codes "targets") keys.targets) (lines_fail t m keys.root.threshold w (codes "root") (λ _. by_text (codes "image") (codes "director")) 0 keys.root.keys) (lines_fail t m keys.targets.threshold w (codes "targets") (λ _. by_text (codes "image") (codes "director")) 0 keys.targets.keys))
    (lines_fail t m keys.snapshot.threshold w (codes "snapshot") (λ _. by_text (codes "image") (codes "director")) 0 keys.snapshot.keys))
    (lines_fail t m keys.timestamp.threshold w (codes "timestamp") (λ _. by_text (codes "image") (codes "director")) 0 keys.timestamp.keys)

director_apart : (m n : ℕ) (keys : KeySet) → Apart (is_of Director) (repository_lines m Director keys.director) (repository_lines n Image keys.image)
director_apart m n keys = record { front = director_passes m keys.director; behind = image_fails n keys.image }

abbrev the_set : RepoKeys → RepoKeys → KeySet
the_set x y = record { director = x; image = y }

-- the same rows are of the same keys
pub one_keys : (m n : ℕ) (a b : KeySet) → EachHasKeys a → EachHasKeys b
    → repository_lines m Director a.director ++ repository_lines n Image a.image ≡ repository_lines m Director b.director ++ repository_lines n Image b.image → a ≡ b
one_keys m n a b some more h =
    let director : a.director ≡ b.director =
    one_repository m Director a.director b.director some.director more.director (fronts (is_of Director) _ _ _ _ (director_apart m n a) (director_apart m n b) h) in
    let image : a.image ≡ b.image =
    one_repository n Image a.image b.image some.image more.image (behinds (is_of Director) _ _ _ _ (director_apart m n a) (director_apart m n b) h) in
    ap₂ (λ (x y : RepoKeys). the_set x y) director image
