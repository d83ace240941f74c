-- What is read of the founding: its numbers, and the keys of the last root version.
use Rattle.std.proofs.Common.{◌≡◌, ◌+◌, ℕ, pos, List, [], ◌∷◌, ◌++◌, Bool, true, false, ◌&&◌, Option, Some, None, map, filter, inl, inr, refl, sym, ap, ap₂, subst, ◌∙◌, arith, append-nil, bytes_eq, codes, IsTrue}
use Rattle.std.proofs.lemmas.Bool.Decides.{nat_tests}
use Rattle.std.proofs.lemmas.List.{map-append}
use Rattle.std.proofs.lemmas.List.Elements.{filter-append}
use Rattle.std.proofs.lemmas.List.Folds.{find-append}
use Rattle.up_metadata.specs.declared.keys.RoleSecrets.{RoleSecrets}
use Rattle.up_store.specs.declared.keys.RoleKey.{RoleKey}
use Rattle.up_store.proofs.Common.{option_map, find, IfSome, is_some, not, ◌==◌, AllByRecursion, enumerate_from, option_or, unwrap_or, Int, Text, Blob, Row, Connected, Repository, Director, Image, KeySet, RepoKeys, Founding, StateRows, EachSays, SaysOwn, ReadsFounding, ReadsKeyed, ImageRepositoryRow, keys_shown, own_told, MetaRow, IsWithin, HasTables, Reads, ListsAll, up_schema, role_key_table, ListsRows, IsOfLastRoot, role_key_places, columns_at, key_row, repository_word, role_lines, repository_lines, founding_lines, is_key_of, secrets_of, threshold_of, IsRoleOf, AreKeysOf, IsFoundingOf, meta_told, HasKeys, HaveKeys, EachHasKeys}

-- ---- all columns of a row of a key are read

abbrev pub AreWhole : List Row → Type 0
AreWhole rows = AllByRecursion (λ row. columns_at role_key_places row ≡ row) rows

both_whole : (xs ys : List Row) → AreWhole xs → AreWhole ys → AreWhole (xs ++ ys)
both_whole [] ys a b = b
both_whole (x ∷ xs) ys a b = (a.0, both_whole xs ys a.1 b)

abbrev pub key_line : ℕ → List ℕ → List ℕ → ℕ → ℕ × List ℕ → Row
key_line root word role threshold key = Int (pos root) ∷ Text word ∷ Text role ∷ Int (pos key.0) ∷ Blob key.1 ∷ Int (pos threshold) ∷ []

role_whole : (m : ℕ) (word role : List ℕ) (threshold i : ℕ) (keys : List (List ℕ)) → AreWhole (map (key_line m word role threshold) (enumerate_from i keys))
role_whole m word role threshold i [] = tt
role_whole m word role threshold i (key ∷ keys) = (refl, role_whole m word role threshold (i + 1) keys)

repository_whole : (m : ℕ) (repository : Repository) (keys : RepoKeys) → AreWhole (repository_lines m repository keys)
repository_whole m repository keys =
    let word = repository_word repository in
    both_whole _ _ (both_whole _ _ (both_whole _ _ (role_whole m word (codes "root") keys.root.threshold 0 keys.root.keys) (role_whole m word (codes "targets") keys.targets.threshold 0 keys.targets.keys))
    (role_whole m word (codes "snapshot") keys.snapshot.threshold 0 keys.snapshot.keys)) (role_whole m word (codes "timestamp") keys.timestamp.threshold 0 keys.timestamp.keys)

whole : (rows : List Row) → AreWhole rows → keys_shown rows ≡ rows
whole [] h = refl
whole (row ∷ rows) h = ap₂ (λ (x : Row) (xs : List Row). x ∷ xs) h.0 (whole rows h.1)

-- all rows are the founding's
read_lines : (f : Founding) → keys_shown (founding_lines (Some f)) ≡ founding_lines (Some f)
read_lines f = whole (founding_lines (Some f)) (both_whole _ _ (repository_whole f.root Director f.keys.director) (repository_whole f.image_root Image f.keys.image))

-- ---- the keys of a role among the rows that were found

split : {A B : Type 0} (f : A → B) (xs : List A) (ys zs : List B) → ys ++ zs ≡ map f xs → (a : List A) × (b : List A) × (xs ≡ a ++ b) × (ys ≡ map f a) × (zs ≡ map f b)
split f xs [] zs h = ([], xs, refl, refl, h)
split f [] (y ∷ ys) zs h = absurd (let e = h in cc)
split {A} {B} f (x ∷ xs) (y ∷ ys) zs h =
    let first : y ≡ f x = cc in
    let rest : ys ++ zs ≡ map f xs = cc in
    let more = split f xs ys zs rest in
    (x ∷ more.0, more.1, ap (λ (l : List A). x ∷ l) more.2, ap₂ (λ (b : B) (l : List B). b ∷ l) first more.3, more.4)

or_mapped : {A B : Type 0} (f : A → B) (o p : Option A) → option_map f (option_or o p) ≡ option_or (option_map f o) (option_map f p)
or_mapped f None p = refl
or_mapped f (Some x) p = refl

none_behind : (p : Option ℕ) → option_or p None ≡ p
none_behind None = refl
none_behind (Some t) = refl

-- what a role has among some rows
pub record Has (n : ℕ) (w o : List ℕ) (rows : List RoleKey) (secrets : List (List ℕ)) (threshold : Option ℕ) : Type 0 where
  pub secrets_are : secrets_of n w o rows ≡ secrets
  pub threshold_is : threshold_of n w o rows ≡ threshold

has_both : (n : ℕ) (w o : List ℕ) (xs ys : List RoleKey) (s t : List (List ℕ)) (p q : Option ℕ) → Has n w o xs s p → Has n w o ys t q → Has n w o (xs ++ ys) (s ++ t) (option_or p q)
has_both n w o xs ys s t p q a b = record {
  secrets_are = ap (map (λ (row : RoleKey). row.secret)) (filter-append (is_key_of n w o) xs ys)
      ∙ map-append (λ (row : RoleKey). row.secret) (filter (is_key_of n w o) xs) (filter (is_key_of n w o) ys)
      ∙ ap₂ (λ (c d : List (List ℕ)). c ++ d) a.secrets_are b.secrets_are;
  threshold_is = ap (option_map (λ (row : RoleKey). row.threshold)) (find-append (is_key_of n w o) xs ys)
      ∙ or_mapped (λ (row : RoleKey). row.threshold) (find (is_key_of n w o) xs) (find (is_key_of n w o) ys)
      ∙ ap₂ (λ (c d : Option ℕ). option_or c d) a.threshold_is b.threshold_is;
}

-- the threshold that the rows of these keys have
abbrev pub threshold_in : List (List ℕ) → ℕ → Option ℕ
threshold_in [] t = None
threshold_in (key ∷ keys) t = Some t

abbrev the_role : List (List ℕ) → ℕ → RoleSecrets
the_role keys t = record { keys = keys; threshold = t }

abbrev its_threshold : RoleSecrets → Option ℕ
its_threshold role = threshold_in role.keys role.threshold

-- the rows of one role
module _ (m : ℕ) (word role : List ℕ) (threshold : ℕ) (n : ℕ) (w o : List ℕ) where
  abbrev Lines : ℕ → List (List ℕ) → List Row
  Lines i keys = map (key_line m word role threshold) (enumerate_from i keys)

  key_test : (i : ℕ) (key : List ℕ) (row : RoleKey) → key_line m word role threshold (i, key) ≡ key_row row → is_key_of n w o row ≡ (bytes_eq word w && (bytes_eq role o && (m == n)))
  key_test i key row h =
      let first : row.repository ≡ word = cc in
      let second : row.role ≡ role = cc in
      let number : row.root ≡ m = cc in
      rw (first, second, number) refl

  -- what the row of a key says
  record IsLine (key : List ℕ) (row : RoleKey) : Type 0 where
    test : is_key_of n w o row ≡ (bytes_eq word w && (bytes_eq role o && (m == n)))
    secret : row.secret ≡ key

  -- row by row
  by_lines : (P : List (List ℕ) → List RoleKey → Type 0) → P [] [] → ((key : List ℕ) (keys : List (List ℕ)) (row : RoleKey) (rows : List RoleKey) → IsLine key row → P keys rows → P (key ∷ keys) (row ∷ rows))
      → (i : ℕ) (keys : List (List ℕ)) (rows : List RoleKey) → Lines i keys ≡ map key_row rows → P keys rows
  by_lines P none more i [] [] h = none
  by_lines P none more i [] (row ∷ rows) h = absurd (let e = h in cc)
  by_lines P none more i (key ∷ keys) [] h = absurd (let e = h in cc)
  by_lines P none more i (key ∷ keys) (row ∷ rows) h =
      let first : key_line m word role threshold (i, key) ≡ key_row row = cc in
      let rest : Lines (i + 1) keys ≡ map key_row rows = cc in
      let secret : row.secret ≡ key = cc in
      more key keys row rows (record { test = key_test i key row first; secret = secret }) (by_lines P none more (i + 1) keys rows rest)

  others : (bytes_eq word w && (bytes_eq role o && (m == n))) ≡ false → (i : ℕ) (keys : List (List ℕ)) (rows : List RoleKey) → Lines i keys ≡ map key_row rows → Has n w o rows [] None
  others apart i keys rows h = by_lines (λ keys rows. Has n w o rows [] None) (record { secrets_are = refl; threshold_is = refl }) (λ key keys row rows line more.
      let test : is_key_of n w o row ≡ false = line.test ∙ apart in record { secrets_are = rw test more.secrets_are; threshold_is = rw test more.threshold_is }) i keys rows h

  own_secrets : (bytes_eq word w && (bytes_eq role o && (m == n))) ≡ true → (i : ℕ) (keys : List (List ℕ)) (rows : List RoleKey) → Lines i keys ≡ map key_row rows → secrets_of n w o rows ≡ keys
  own_secrets same i keys rows h = by_lines (λ keys rows. secrets_of n w o rows ≡ keys) refl (λ key keys row rows line more.
      let test : is_key_of n w o row ≡ true = line.test ∙ same in
      rw test (ap₂ (λ (x : List ℕ) (xs : List (List ℕ)). x ∷ xs) line.secret more)) i keys rows h

  own_threshold : (bytes_eq word w && (bytes_eq role o && (m == n))) ≡ true → (i : ℕ) (keys : List (List ℕ)) (rows : List RoleKey) → Lines i keys ≡ map key_row rows → threshold_of n w o rows ≡ threshold_in keys threshold
  own_threshold same i [] [] h = refl
  own_threshold same i [] (row ∷ rows) h = absurd (let e = h in cc)
  own_threshold same i (key ∷ keys) [] h = absurd (let e = h in cc)
  own_threshold same i (key ∷ keys) (row ∷ rows) h =
      let first : key_line m word role threshold (i, key) ≡ key_row row = cc in
      let test : is_key_of n w o row ≡ true = key_test i key row first ∙ same in
      let its : row.threshold ≡ threshold = cc in
      rw test (ap Some its)

  own : (bytes_eq word w && (bytes_eq role o && (m == n))) ≡ true → (keys : List (List ℕ)) (rows : List RoleKey) → Lines 0 keys ≡ map key_row rows → Has n w o rows keys (threshold_in keys threshold)
  own same keys rows h = record { secrets_are = own_secrets same 0 keys rows h; threshold_is = own_threshold same 0 keys rows h }

-- the rows of a repository: its four roles
pub record Parts (m : ℕ) (repository : Repository) (keys : RepoKeys) (rows : List RoleKey) : Type 0 where
  pub a : List RoleKey
  pub b : List RoleKey
  pub c : List RoleKey
  pub d : List RoleKey
  pub is : rows ≡ ((a ++ b) ++ c) ++ d
  pub root : role_lines m repository (codes "root") keys.root ≡ map key_row a
  pub targets : role_lines m repository (codes "targets") keys.targets ≡ map key_row b
  pub snapshot : role_lines m repository (codes "snapshot") keys.snapshot ≡ map key_row c
  pub timestamp : role_lines m repository (codes "timestamp") keys.timestamp ≡ map key_row d

parts_of : (m : ℕ) (repository : Repository) (keys : RepoKeys) (rows : List RoleKey) → repository_lines m repository keys ≡ map key_row rows → Parts m repository keys rows
parts_of m repository keys rows h =
    let root = role_lines m repository (codes "root") keys.root in
    let targets = role_lines m repository (codes "targets") keys.targets in
    let snapshot = role_lines m repository (codes "snapshot") keys.snapshot in
    let timestamp = role_lines m repository (codes "timestamp") keys.timestamp in
    let one = split key_row rows ((root ++ targets) ++ snapshot) timestamp h in
    let two = split key_row one.0 (root ++ targets) snapshot one.3 in
    let three = split key_row two.0 root targets two.3 in
    record {
      a = three.0;
      b = three.1;
      c = two.1;
      d = one.1;
      is = one.2 ∙ ap (λ (l : List RoleKey). l ++ one.1) (two.2 ∙ ap (λ (l : List RoleKey). l ++ two.1) three.2);
      root = three.3;
      targets = three.4;
      snapshot = two.4;
      timestamp = one.4;
    }

-- what a role of the repository has, where its word and role are asked for
module _ (m : ℕ) (repository : Repository) (keys : RepoKeys) (rows : List RoleKey) (parts : Parts m repository keys rows) (n : ℕ) (w o : List ℕ) where
  abbrev Are : List ℕ → Bool
  Are role = bytes_eq (repository_word repository) w && (bytes_eq role o && (m == n))

  -- each part by itself, put together
  together : (s t u v : List (List ℕ)) (p q x y : Option ℕ) → Has n w o parts.a s p → Has n w o parts.b t q → Has n w o parts.c u x → Has n w o parts.d v y
      → Has n w o rows (((s ++ t) ++ u) ++ v) (option_or (option_or (option_or p q) x) y)
  together s t u v p q x y ha hb hc hd =
      subst (λ (l : List RoleKey). Has n w o l (((s ++ t) ++ u) ++ v) (option_or (option_or (option_or p q) x) y)) (sym parts.is)
      (has_both n w o ((parts.a ++ parts.b) ++ parts.c) parts.d ((s ++ t) ++ u) v (option_or (option_or p q) x) y
      (has_both n w o (parts.a ++ parts.b) parts.c (s ++ t) u (option_or p q) x (has_both n w o parts.a parts.b s t p q ha hb) hc) hd)

  not_root : Are (codes "root") ≡ false → Has n w o parts.a [] None
  not_root apart = others m (repository_word repository) (codes "root") keys.root.threshold n w o apart 0 keys.root.keys parts.a parts.root

  not_targets : Are (codes "targets") ≡ false → Has n w o parts.b [] None
  not_targets apart = others m (repository_word repository) (codes "targets") keys.targets.threshold n w o apart 0 keys.targets.keys parts.b parts.targets

  not_snapshot : Are (codes "snapshot") ≡ false → Has n w o parts.c [] None
  not_snapshot apart = others m (repository_word repository) (codes "snapshot") keys.snapshot.threshold n w o apart 0 keys.snapshot.keys parts.c parts.snapshot

  not_timestamp : Are (codes "timestamp") ≡ false → Has n w o parts.d [] None
  not_timestamp apart = others m (repository_word repository) (codes "timestamp") keys.timestamp.threshold n w o apart 0 keys.timestamp.keys parts.d parts.timestamp

  pub none_of : Are (codes "root") ≡ false → Are (codes "targets") ≡ false → Are (codes "snapshot") ≡ false → Are (codes "timestamp") ≡ false → Has n w o rows [] None
  none_of a b c d = together [] [] [] [] None None None None (not_root a) (not_targets b) (not_snapshot c) (not_timestamp d)

  pub root_of : Are (codes "root") ≡ true → Are (codes "targets") ≡ false → Are (codes "snapshot") ≡ false → Are (codes "timestamp") ≡ false → Has n w o rows (((keys.root.keys ++ []) ++ []) ++ []) (option_or (option_or (option_or (its_threshold keys.root) None) None) None)
  root_of a b c d = together keys.root.keys [] [] [] (its_threshold keys.root) None None None
      (own m (repository_word repository) (codes "root") keys.root.threshold n w o a keys.root.keys parts.a parts.root) (not_targets b) (not_snapshot c) (not_timestamp d)

  pub targets_of : Are (codes "root") ≡ false → Are (codes "targets") ≡ true → Are (codes "snapshot") ≡ false → Are (codes "timestamp") ≡ false → Has n w o rows ((keys.targets.keys ++ []) ++ []) (option_or (option_or (its_threshold keys.targets) None) None)
  targets_of a b c d = together [] keys.targets.keys [] [] None (its_threshold keys.targets) None None
      (not_root a) (own m (repository_word repository) (codes "targets") keys.targets.threshold n w o b keys.targets.keys parts.b parts.targets) (not_snapshot c) (not_timestamp d)

  pub snapshot_of : Are (codes "root") ≡ false → Are (codes "targets") ≡ false → Are (codes "snapshot") ≡ true → Are (codes "timestamp") ≡ false → Has n w o rows (keys.snapshot.keys ++ []) (option_or (its_threshold keys.snapshot) None)
  snapshot_of a b c d = together [] [] keys.snapshot.keys [] None None (its_threshold keys.snapshot) None
      (not_root a) (not_targets b) (own m (repository_word repository) (codes "snapshot") keys.snapshot.threshold n w o c keys.snapshot.keys parts.c parts.snapshot) (not_timestamp d)

  pub timestamp_of : Are (codes "root") ≡ false → Are (codes "targets") ≡ false → Are (codes "snapshot") ≡ false → Are (codes "timestamp") ≡ true → Has n w o rows keys.timestamp.keys (its_threshold keys.timestamp)
  timestamp_of a b c d = together [] [] [] keys.timestamp.keys None None None (its_threshold keys.timestamp)
      (not_root a) (not_targets b) (not_snapshot c) (own m (repository_word repository) (codes "timestamp") keys.timestamp.threshold n w o d keys.timestamp.keys parts.d parts.timestamp)

-- ---- the keys that were read are the root version's

-- it is the role's, of which nothing is held where it has no keys
its_own : (keys : List (List ℕ)) (t : ℕ) → HasKeys (the_role keys t) → unwrap_or (threshold_in keys t) 0 ≡ t
its_own [] t (inl some) = absurd (omega (arith, some))
its_own [] t (inr none) = ap (λ (r : RoleSecrets). r.threshold) (sym none)
its_own (key ∷ keys) t held = refl

role_has : (n : ℕ) (w o : List ℕ) (rows : List RoleKey) (kept : RoleSecrets) → HasKeys kept → Has n w o rows kept.keys (its_threshold kept) → IsRoleOf n w o rows kept
role_has n w o rows kept held has = record { secrets = sym has.secrets_are; threshold = ap (λ (o : Option ℕ). unwrap_or o 0) has.threshold_is ∙ its_own kept.keys kept.threshold held }

one_role : (n : ℕ) (w o : List ℕ) (rows : List RoleKey) (read kept : RoleSecrets) → IsRoleOf n w o rows read → IsRoleOf n w o rows kept → read ≡ kept
one_role n w o rows read kept is told =
    let keys : read.keys ≡ kept.keys = is.secrets ∙ sym told.secrets in
    let threshold : read.threshold ≡ kept.threshold = sym is.threshold ∙ told.threshold in
    λ i. record { keys = keys i; threshold = threshold i }

bare_end : (n : ℕ) (w o : List ℕ) (rows : List RoleKey) (keys : List (List ℕ)) (p : Option ℕ) → Has n w o rows (keys ++ []) (option_or p None) → Has n w o rows keys p
bare_end n w o rows keys p h = record { secrets_are = h.secrets_are ∙ append-nil keys; threshold_is = h.threshold_is ∙ none_behind p }

bare_two : (n : ℕ) (w o : List ℕ) (rows : List RoleKey) (keys : List (List ℕ)) (p : Option ℕ) → Has n w o rows ((keys ++ []) ++ []) (option_or (option_or p None) None) → Has n w o rows keys p
bare_two n w o rows keys p h = bare_end n w o rows keys p (bare_end n w o rows (keys ++ []) (option_or p None) h)

bare_three : (n : ℕ) (w o : List ℕ) (rows : List RoleKey) (keys : List (List ℕ)) (p : Option ℕ) → Has n w o rows (((keys ++ []) ++ []) ++ []) (option_or (option_or (option_or p None) None) None) → Has n w o rows keys p
bare_three n w o rows keys p h = bare_two n w o rows keys p (bare_end n w o rows ((keys ++ []) ++ []) (option_or (option_or p None) None) h)

after_none : (n : ℕ) (w o : List ℕ) (xs ys : List RoleKey) (keys : List (List ℕ)) (p : Option ℕ) → Has n w o xs [] None → Has n w o ys keys p → Has n w o (xs ++ ys) keys p
after_none n w o xs ys keys p a b = has_both n w o xs ys [] keys None p a b

before_none : (n : ℕ) (w o : List ℕ) (xs ys : List RoleKey) (keys : List (List ℕ)) (p : Option ℕ) → Has n w o xs keys p → Has n w o ys [] None → Has n w o (xs ++ ys) keys p
before_none n w o xs ys keys p a b = bare_end n w o (xs ++ ys) keys p (has_both n w o xs ys keys [] p None a b)

-- the keys of a repository are those of the rows of its four roles
one_repository : (n : ℕ) (w : List ℕ) (rows : List RoleKey) (read kept : RepoKeys) → AreKeysOf n w rows read → AreKeysOf n w rows kept → read ≡ kept
one_repository n w rows read kept is told =
    let root = one_role n w (codes "root") rows read.root kept.root is.root told.root in
    let targets = one_role n w (codes "targets") rows read.targets kept.targets is.targets told.targets in
    let snapshot = one_role n w (codes "snapshot") rows read.snapshot kept.snapshot is.snapshot told.snapshot in
    let timestamp = one_role n w (codes "timestamp") rows read.timestamp kept.timestamp is.timestamp told.timestamp in
    λ i. record { root = root i; targets = targets i; snapshot = snapshot i; timestamp = timestamp i }

-- a root version has its own number
own_number : (n : ℕ) → (n == n) ≡ true
own_number n = grind (arith, nat_tests)

module _ (m n : ℕ) (kept : KeySet) (xs ys : List RoleKey) (px : Parts m Director kept.director xs) (py : Parts n Image kept.image ys) where
  director_has : HaveKeys kept.director → AreKeysOf m (codes "director") (xs ++ ys) kept.director
  director_has have =
      let w = codes "director" in
      let keys = kept.director in
      let none : (o : List ℕ) → Has m w o ys [] None = λ o. none_of n Image kept.image ys py m w o refl refl refl refl in
      record {
        root = role_has m w (codes "root") (xs ++ ys) keys.root have.root
            (before_none m w (codes "root") xs ys keys.root.keys (its_threshold keys.root) (bare_three m w (codes "root") xs keys.root.keys (its_threshold keys.root) (root_of m Director keys xs px m w (codes "root") (own_number m) refl refl refl)) (none (codes "root")));
        targets = role_has m w (codes "targets") (xs ++ ys) keys.targets have.targets
            (before_none m w (codes "targets") xs ys keys.targets.keys (its_threshold keys.targets) (bare_two m w (codes "targets") xs keys.targets.keys (its_threshold keys.targets) (targets_of m Director keys xs px m w (codes "targets") refl (own_number m) refl refl)) (none (codes "targets")));
        snapshot = role_has m w (codes "snapshot") (xs ++ ys) keys.snapshot have.snapshot
            (before_none m w (codes "snapshot") xs ys keys.snapshot.keys (its_threshold keys.snapshot) (bare_end m w (codes "snapshot") xs keys.snapshot.keys (its_threshold keys.snapshot) (snapshot_of m Director keys xs px m w (codes "snapshot") refl refl (own_number m) refl)) (none (codes "snapshot")));
        timestamp = role_has m w (codes "timestamp") (xs ++ ys) keys.timestamp have.timestamp
            (before_none m w (codes "timestamp") xs ys keys.timestamp.keys (its_threshold keys.timestamp) (timestamp_of m Director keys xs px m w (codes "timestamp") refl refl refl (own_number m)) (none (codes "timestamp")));
      }

  image_has : HaveKeys kept.image → AreKeysOf n (codes "image") (xs ++ ys) kept.image
  image_has have =
      let w = codes "image" in
      let keys = kept.image in
      let none : (o : List ℕ) → Has n w o xs [] None = λ o. none_of m Director kept.director xs px n w o refl refl refl refl in
      record {
        root = role_has n w (codes "root") (xs ++ ys) keys.root have.root
            (after_none n w (codes "root") xs ys keys.root.keys (its_threshold keys.root) (none (codes "root")) (bare_three n w (codes "root") ys keys.root.keys (its_threshold keys.root) (root_of n Image keys ys py n w (codes "root") (own_number n) refl refl refl)));
        targets = role_has n w (codes "targets") (xs ++ ys) keys.targets have.targets
            (after_none n w (codes "targets") xs ys keys.targets.keys (its_threshold keys.targets) (none (codes "targets")) (bare_two n w (codes "targets") ys keys.targets.keys (its_threshold keys.targets) (targets_of n Image keys ys py n w (codes "targets") refl (own_number n) refl refl)));
        snapshot = role_has n w (codes "snapshot") (xs ++ ys) keys.snapshot have.snapshot
            (after_none n w (codes "snapshot") xs ys keys.snapshot.keys (its_threshold keys.snapshot) (none (codes "snapshot")) (bare_end n w (codes "snapshot") ys keys.snapshot.keys (its_threshold keys.snapshot) (snapshot_of n Image keys ys py n w (codes "snapshot") refl refl (own_number n) refl)));
        timestamp = role_has n w (codes "timestamp") (xs ++ ys) keys.timestamp have.timestamp
            (after_none n w (codes "timestamp") xs ys keys.timestamp.keys (its_threshold keys.timestamp) (none (codes "timestamp")) (timestamp_of n Image keys ys py n w (codes "timestamp") refl refl refl (own_number n)));
      }

-- the rows of the two root versions are of their keys
pub record AreKeys (m n : ℕ) (rows : List RoleKey) (keys : KeySet) : Type 0 where
  pub director : AreKeysOf m (codes "director") rows keys.director
  pub image : AreKeysOf n (codes "image") rows keys.image

keys_told : (f : Founding) (rows : List RoleKey) → founding_lines (Some f) ≡ map key_row rows → EachHasKeys f.keys → AreKeys f.root f.image_root rows f.keys
keys_told f rows h have =
    let two = split key_row rows (repository_lines f.root Director f.keys.director) (repository_lines f.image_root Image f.keys.image) h in
    let px = parts_of f.root Director f.keys.director two.0 two.3 in
    let py = parts_of f.image_root Image f.keys.image two.1 two.4 in
    subst (λ (l : List RoleKey). AreKeys f.root f.image_root l f.keys) (sym two.2)
    (record { director = director_has f.root f.image_root f.keys two.0 two.1 px py have.director; image = image_has f.root f.image_root f.keys two.0 two.1 px py have.image })

-- ---- the founding

-- the rows and the numbers are of one founding
one_founding : (row : MetaRow) (own : ImageRepositoryRow) (found : List RoleKey) (read kept : Option Founding) → IsFoundingOf row own found read → IsFoundingOf row own found kept → read ≡ kept
one_founding row own found read kept a b =
    let numbers = a.numbers ∙ sym b.numbers in
    let owns = a.own_numbers ∙ sym b.own_numbers in
    let d : a.founding.keys.director ≡ b.founding.keys.director = one_repository row.root (codes "director") found a.founding.keys.director b.founding.keys.director a.director b.director in
    let i : a.founding.keys.image ≡ b.founding.keys.image = one_repository own.root (codes "image") found a.founding.keys.image b.founding.keys.image a.image b.image in
    let r : a.founding.root ≡ b.founding.root = ap (λ (m : MetaRow). m.root) numbers in
    let e : a.founding.image_root ≡ b.founding.image_root = ap (λ (m : ImageRepositoryRow). m.root) owns in
    let v : a.founding.image_version ≡ b.founding.image_version = ap (λ (m : MetaRow). m.image_version) numbers in
    let t : a.founding.targets_version ≡ b.founding.targets_version = ap (λ (m : ImageRepositoryRow). m.targets) owns in
    let s : a.founding.stamp ≡ b.founding.stamp = ap (λ (m : MetaRow). m.stamp) numbers in
    let same : a.founding ≡ b.founding = λ j. record { root = r j; image_root = e j; keys = record { director = d j; image = i j }; image_version = v j; targets_version = t j; stamp = s j } in
    a.is ∙ ap Some same ∙ sym b.is

-- the rows that were found are the founding's
pub founding_told : (rows : StateRows) (row : MetaRow) (own : ImageRepositoryRow) (found : List RoleKey) (before after : Connected) → (row.root == 0) ≡ false → Reads before after
    → ((all : List Row) → HasTables before → ListsAll all (before.now.trees role_key_table.tree) → keys_shown all ≡ map key_row found)
    → IsWithin up_schema (ListsRows rows) before → row ≡ meta_told rows.founding → own ≡ own_told rows.founding → IsFoundingOf row own found rows.founding
founding_told rows row own found before after founded reads shows within numbers owns =
    let has : HasTables before = λ is_open. let here = within.here is_open in record { schema_is = here.schema_is; sound = here.sound; rows = tt } in
    let here = within.here reads.was_open in
    go rows.founding refl (shows (founding_lines rows.founding) has here.rows.tables.role_keys) here.rows.typed.keys
  where
    go : (o : Option Founding) → rows.founding ≡ o → keys_shown (founding_lines rows.founding) ≡ map key_row found → IfSome o (λ f. EachHasKeys f.keys) → IsFoundingOf row own found rows.founding
    go None same lines have =
        let zero : row.root ≡ 0 = ap (λ (m : MetaRow). m.root) (numbers ∙ ap meta_told same) in
        absurd (let e = sym (ap (λ n. n == 0) zero) ∙ founded in cc)
    go (Some f) same lines have =
        let told : row ≡ meta_told (Some f) = numbers ∙ ap meta_told same in
        let told_own : own ≡ own_told (Some f) = owns ∙ ap own_told same in
        let listed : founding_lines (Some f) ≡ map key_row found = sym (read_lines f) ∙ ap (λ (o : Option Founding). keys_shown (founding_lines o)) (sym same) ∙ lines in
        let are = keys_told f found listed have in
        record {
          founding = f;
          is = same;
          numbers = sym told;
          own_numbers = sym told_own;
          director = subst (λ n. AreKeysOf n (codes "director") found f.keys.director) (sym (ap (λ (m : MetaRow). m.root) told)) are.director;
          image = subst (λ n. AreKeysOf n (codes "image") found f.keys.image) (sym (ap (λ (m : ImageRepositoryRow). m.root) told_own)) are.image;
        }

pub founding_in : (rows : StateRows) (row : MetaRow) (own : ImageRepositoryRow) (found : List RoleKey) (read : Option Founding) (before after : Connected) → (row.root == 0) ≡ false → Reads before after
    → ((all : List Row) → HasTables before → ListsAll all (before.now.trees role_key_table.tree) → keys_shown all ≡ map key_row found)
    → IsFoundingOf row own found read → IsWithin up_schema (ListsRows rows) before → row ≡ meta_told rows.founding → own ≡ own_told rows.founding → read ≡ rows.founding
founding_in rows row own found read before after founded reads shows is within numbers owns =
    one_founding row own found read rows.founding is (founding_told rows row own found before after founded reads shows within numbers owns)

-- the founding that the keys tell is told by the row of the image repository's numbers, too
pub read_beside : (row : MetaRow) (own : ImageRepositoryRow) (rows all : List Row) (read : Option Founding) → (row.root ≡ 0 → ⊥) → EachSays SaysOwn rows (own ∷ []) → ReadsKeyed row own all read → ReadsFounding row rows all read
read_beside row own rows all None founded said keyed = absurd keyed
read_beside row own rows all (Some f) founded said keyed = (founded, own, said, keyed)

-- ---- the numbers

pub none_founded : (rows : StateRows) (row : MetaRow) (before : Connected) → (row.root == 0) ≡ true → IsTrue before.is_open → IsWithin up_schema (ListsRows rows) before → row ≡ meta_told rows.founding → None ≡ rows.founding
none_founded rows row before none was_open within numbers =
    let here = within.here was_open in
    go rows.founding refl here.rows.last
  where
    go : (o : Option Founding) → rows.founding ≡ o → IsOfLastRoot o rows.director rows.image → None ≡ rows.founding
    go None same last = sym same
    go (Some f) same last =
        let number : row.root ≡ f.root = ap (λ (m : MetaRow). m.root) (numbers ∙ ap meta_told same) in
        let some = last.0 in
        let zero : row.root ≡ 0 = grind (arith, none, nat_tests) in
        absurd (omega (arith, zero, number, some))

-- a root version that isn't 0 tells that there is a founding
pub founded_by : (rows : StateRows) (row : MetaRow) (before : Connected) → IsTrue before.is_open → IsWithin up_schema (ListsRows rows) before → row ≡ meta_told rows.founding → not (row.root == 0) ≡ is_some rows.founding
founded_by rows row before was_open within numbers = by_root (row.root == 0) refl
  where
    there : (o : Option Founding) → rows.founding ≡ o → (row.root == 0) ≡ false → true ≡ is_some o
    there None same some =
        let zero : row.root ≡ 0 = ap (λ (m : MetaRow). m.root) (numbers ∙ ap meta_told same) in
        absurd (let e = sym (ap (λ n. n == 0) zero) ∙ some in cc)
    there (Some f) same some = refl

    by_root : (b : Bool) → (row.root == 0) ≡ b → not b ≡ is_some rows.founding
    by_root true zero = ap is_some (none_founded rows row before zero was_open within numbers)
    by_root false some = there rows.founding refl some
