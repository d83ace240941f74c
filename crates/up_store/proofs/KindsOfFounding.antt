-- The row of `meta`, the rows of keys and those of files have the columns that the statements show.
use Rattle.std.proofs.Common.{◌≡◌, ℕ, ◌+◌, ◌-◌, zero, suc, Bool, cond, length, bytes_eq, false, List, [], ◌∷◌, ◌++◌, Option, Some, None, Ok, Err, map, codes, refl, ap, ◌∙◌, subst, arith, true, IsUtf8}
use Rattle.up_metadata.specs.declared.role_files.RoleTexts.{RoleTexts}
use Rattle.up_store.specs.declared.keys.RoleKey.{RoleKey}
use Rattle.up_machine.specs.State.{last_text}
use Rattle.up_store.proofs.Common.{IsTrue, IfOk, IfErr, IfSome, OnOk, Result, find, slice_get, if◌then◌else◌, option_map, option_or, option_to_list, AllByRecursion, enumerate_from, Text, Row, Connected, Name, is_file_name, RepoKeys, Founding, File, texts_in, Repository, Director, Image, text_named, root_named, other_text, text_held, StateRows, MetaRow, StoreFault, Memory, FitImageRepository, FitMeta, file_places, image_repository_values, keys_shown, meta_values, role_key_places, HoldsOfImageRepository, HoldsOfMeta, image_repository_shown, meta_shown, IsWords, columns_at, image_repository_row, meta_row, HasTables, IsWithin, ListsAll, ListsPairs, Reads, HoldsOfAll, HoldsOfFiles, AreLines, EachSays, IsLine, IsTold, Tells, image_repository_table, meta_table, repo_file_table, role_key_table, up_schema, ServedFile, key_row, repository_word, repository_lines, founding_lines, file_line, file_lines, file_row, ListsRows, files_lines, SaysFile, SaysKey, SaysNumbers, SaysOwn, IsFoundingOf, ImageRepositoryRow, meta_told, own_told, AreTyped, AreTypedTexts, IsTypedFile, IsTypedFounding, IsTypedKey, each_said, lines_said, numbered_root_name, numbered_roots, root_texts, ◌==◌}
use Rattle.up_store.proofs.ColumnFound.{has_tables, numbers_are}
use Rattle.up_store.proofs.FoundingReads.{key_line}
use Rattle.up_store.proofs.KindsOfTexts.{file_name, printed, utf8}

word : (repository : Repository) → IsWords (Text (repository_word repository))
word Director = printed (codes "director") refl
word Image = printed (codes "image") refl

-- ---- the numbers

numbers_row : (root image_version stamp : ℕ) → meta_shown (meta_row root image_version stamp ∷ []) ≡ meta_values (record { root = root; image_version = image_version; stamp = stamp }) ∷ []
numbers_row root image_version stamp = rw (numbers_are 1 1) refl

-- what the row of `meta` shows, and that it fits
numbers_shown : (rows : StateRows) (s : Connected) → ListsRows rows s.now.trees → meta_shown (s.now.trees meta_table.tree) ≡ meta_values (meta_told rows.founding) ∷ []
numbers_shown rows s lists = ap meta_shown lists.tables.meta ∙ numbers_row (meta_told rows.founding).root (meta_told rows.founding).image_version (meta_told rows.founding).stamp

numbers_fit : (o : Option Founding) → IfSome o IsTypedFounding → FitMeta (meta_told o)
numbers_fit None typed = record { root = omega arith; image_version = omega arith; stamp = omega arith }
numbers_fit (Some f) typed = record { root = typed.root; image_version = typed.image_version; stamp = omega (arith, typed.stamp) }

pub holds_numbers : (s : Connected) (rows : StateRows) → ListsRows rows s.now.trees → HoldsOfMeta (AreLines FitMeta meta_values) s
holds_numbers s rows lists = (Some (meta_told rows.founding), (numbers_fit rows.founding lists.typed.founding, tt), numbers_shown rows s lists)

-- the numbers that are found are the founding's, so that they are there
pub numbers_found : (found : Option MetaRow) (before after : Connected) → (HasTables before → IsTold SaysNumbers FitMeta meta_values (meta_shown (before.now.trees meta_table.tree)) found)
    → IsTrue before.is_open → (rows : StateRows) → IsWithin up_schema (ListsRows rows) before → found ≡ Some (meta_told rows.founding)
numbers_found found before after told is_open rows within =
    let here = within.here is_open in
    (told (has_tables rows before within)).same (Some (meta_told rows.founding)) (numbers_fit rows.founding here.rows.typed.founding, tt) (numbers_shown rows before here.rows)

-- the image repository's own numbers, likewise
own_row : (root targets : ℕ) → image_repository_shown (image_repository_row root targets ∷ []) ≡ image_repository_values (record { root = root; targets = targets }) ∷ []
own_row root targets = rw (numbers_are 1 1) refl

own_shown : (rows : StateRows) (s : Connected) → ListsRows rows s.now.trees → image_repository_shown (s.now.trees image_repository_table.tree) ≡ image_repository_values (own_told rows.founding) ∷ []
own_shown rows s lists = ap image_repository_shown lists.tables.image_repository ∙ own_row (own_told rows.founding).root (own_told rows.founding).targets

own_fit : (o : Option Founding) → IfSome o IsTypedFounding → FitImageRepository (own_told o)
own_fit None typed = record { root = omega arith; targets = omega arith }
own_fit (Some f) typed = record { root = typed.image_root; targets = typed.targets_version }

pub holds_own : (s : Connected) (rows : StateRows) → ListsRows rows s.now.trees → HoldsOfImageRepository (AreLines FitImageRepository image_repository_values) s
holds_own s rows lists = (Some (own_told rows.founding), (own_fit rows.founding lists.typed.founding, tt), own_shown rows s lists)

pub own_found : (found : Option ImageRepositoryRow) (before after : Connected)
    → (HasTables before → IsTold SaysOwn FitImageRepository image_repository_values (image_repository_shown (before.now.trees image_repository_table.tree)) found)
    → IsTrue before.is_open → (rows : StateRows) → IsWithin up_schema (ListsRows rows) before → found ≡ Some (own_told rows.founding)
own_found found before after told is_open rows within =
    let here = within.here is_open in
    (told (has_tables rows before within)).same (Some (own_told rows.founding)) (own_fit rows.founding here.rows.typed.founding, tt) (own_shown rows before here.rows)

-- a founding that is typed is read again
pub founded_fault : {A : Type 0} (row : MetaRow) (own : ImageRepositoryRow) (found : List RoleKey) (o : Option Founding) → IsFoundingOf row own found o → (r : Result A StoreFault)
    → ((told : Option Founding) (is : IsFoundingOf row own found told) → IsTypedFounding is.founding → IfErr r (λ fault. fault ≡ Memory)) → IfSome o IsTypedFounding → IfErr r (λ fault. fault ≡ Memory)
founded_fault row own found o told r fault typed = fault o told (subst (λ x. IfSome x IsTypedFounding) told.is typed)

-- ---- keys

abbrev line : Row → Type 0
line = IsLine IsTypedKey key_row

both_lines : (xs ys : List Row) → AllByRecursion line xs → AllByRecursion line ys → AllByRecursion line (xs ++ ys)
both_lines [] ys a b = b
both_lines (x ∷ xs) ys a b = (a.0, both_lines xs ys a.1 b)

role_is : (m : ℕ) (repository : Repository) (role : List ℕ) (threshold i : ℕ) (keys : List (List ℕ)) → IsUtf8 role
    → AllByRecursion line (map (key_line m (repository_word repository) role threshold) (enumerate_from i keys))
role_is m repository role threshold i [] is = tt
role_is m repository role threshold i (key ∷ keys) is = (
  (record { root = m; repository = repository_word repository; role = role; place = i; secret = key; threshold = threshold }, record { repository = utf8 _ (word repository); role = is }, refl),
  role_is m repository role threshold (i + 1) keys is,
)

repository_is : (m : ℕ) (repository : Repository) (keys : RepoKeys) → AllByRecursion line (repository_lines m repository keys)
repository_is m repository keys =
    both_lines _ _ (both_lines _ _ (both_lines _ _ (role_is m repository (codes "root") keys.root.threshold 0 keys.root.keys (utf8 _ (printed (codes "root") refl)))
    (role_is m repository (codes "targets") keys.targets.threshold 0 keys.targets.keys (utf8 _ (printed (codes "targets") refl))))
    (role_is m repository (codes "snapshot") keys.snapshot.threshold 0 keys.snapshot.keys (utf8 _ (printed (codes "snapshot") refl))))
    (role_is m repository (codes "timestamp") keys.timestamp.threshold 0 keys.timestamp.keys (utf8 _ (printed (codes "timestamp") refl)))

founding_is : (o : Option Founding) → AllByRecursion line (founding_lines o)
founding_is None = tt
founding_is (Some f) = both_lines _ _ (repository_is f.root Director f.keys.director) (repository_is f.image_root Image f.keys.image)

-- a line shows itself
shown_lines : (xs : List Row) → AllByRecursion line xs → AllByRecursion line (map (columns_at role_key_places) xs)
shown_lines [] all = tt
shown_lines (x ∷ xs) all = ((all.0.0, all.0.1, ap (columns_at role_key_places) all.0.2), shown_lines xs all.1)

pub holds_keys : (s : Connected) (rows : StateRows) → ListsRows rows s.now.trees → HoldsOfAll role_key_table (λ all. AllByRecursion line (keys_shown all)) s
holds_keys s rows lists = (founding_lines rows.founding, lists.tables.role_keys, shown_lines _ (founding_is rows.founding))

-- what a row says is its line
key_said : (r : Row) (k : RoleKey) → SaysKey (columns_at role_key_places r) k → columns_at role_key_places r ≡ key_row k
key_said r k said = rw (said.root, said.repository.0, said.role.0, said.place, said.secret, said.threshold) refl

pub keys_said : (found : List RoleKey) (s : Connected) → ((all : List Row) → HasTables s → ListsAll all (s.now.trees role_key_table.tree) → EachSays (Tells SaysKey IsTypedKey key_row) (keys_shown all) found)
    → (all : List Row) → HasTables s → ListsAll all (s.now.trees role_key_table.tree) → keys_shown all ≡ map key_row found
keys_said found s told all has lists =
    lines_said SaysKey key_row (columns_at role_key_places) key_said _ found (each_said (Tells SaysKey IsTypedKey key_row) SaysKey (λ r k told. told.said) _ found (told all has lists))

-- ---- files

first_typed : {X : Type 0} (P : X → Type 0) (test : X → Bool) (xs : List X) → AllByRecursion P xs → IfSome (find test xs) P
first_typed P test [] all = tt
first_typed {X} P test (x ∷ xs) all = by_test (test x) (first_typed P test xs all.1)
  where
    by_test : (b : Bool) → IfSome (find test xs) P → IfSome (cond b (Some x) (find test xs)) P
    by_test true rest = all.0
    by_test false rest = rest

one_typed : {X : Type 0} (P : X → Type 0) (xs : List X) (i : ℕ) → AllByRecursion P xs → IfSome (slice_get xs i) P
one_typed P [] i all = tt
one_typed P (x ∷ xs) zero all = all.0
one_typed P (x ∷ xs) (suc i) all = one_typed P xs i all.1

either_typed : {X : Type 0} (P : X → Type 0) (a b : Option X) → IfSome a P → IfSome b P → IfSome (option_or a b) P
either_typed P None b first second = second
either_typed P (Some x) b first second = first

-- the text of the first file of a name
file_typed : (name : Name) (files : List File) → AllByRecursion (λ (f : File). IsUtf8 f.1) files → IfSome (text_named name files) IsUtf8
file_typed name files typed = by_file (find (λ (f : File). bytes_eq f.0 name) files) (first_typed (λ (f : File). IsUtf8 f.1) (λ (f : File). bytes_eq f.0 name) files typed)
  where
    by_file : (o : Option File) → IfSome o (λ (f : File). IsUtf8 f.1) → IfSome (option_map (λ (f : File). f.1) o) IsUtf8
    by_file None typed = tt
    by_file (Some f) typed = typed

numbered_typed : (i : ℕ) (texts : List (List ℕ)) → AllByRecursion IsUtf8 texts → AllByRecursion (λ (f : File). IsUtf8 f.1) (map (λ (r : ℕ × List ℕ). (numbered_root_name r.0, r.1)) (enumerate_from i texts))
numbered_typed i [] typed = tt
numbered_typed i (text ∷ texts) typed = (typed.0, numbered_typed (i + 1) texts typed.1)

root_typed : (name : Name) (texts : List (List ℕ)) → AllByRecursion IsUtf8 texts → IfSome (root_named name texts) IsUtf8
root_typed name texts typed =
    either_typed IsUtf8 (if bytes_eq (codes "root.json") name then last_text texts else None) (text_named name (numbered_roots texts)) (by_test (bytes_eq (codes "root.json") name))
    (file_typed name (numbered_roots texts) (numbered_typed 1 texts typed))
  where
    by_place : (b : Bool) → IfSome (if b then None else slice_get texts (length texts - 1)) IsUtf8
    by_place true = tt
    by_place false = one_typed IsUtf8 texts (length texts - 1) typed

    by_test : (b : Bool) → IfSome (if b then last_text texts else None) IsUtf8
    by_test true = by_place (length texts == 0)
    by_test false = tt

roots_typed : (repository : Repository) (rows : StateRows) → AreTyped rows → AllByRecursion IsUtf8 (root_texts repository rows)
roots_typed Director rows typed = typed.director
roots_typed Image rows typed = typed.image

texts_typed : (texts : Option RoleTexts) → IfSome texts AreTypedTexts → AllByRecursion (λ (f : File). IsUtf8 f.1) (texts_in texts)
texts_typed None typed = tt
texts_typed (Some texts) typed = (typed.targets, (typed.snapshot, (typed.timestamp, tt)))

other_typed : (repository : Repository) (texts : Option RoleTexts) (name : Name) → IfSome texts AreTypedTexts → IfSome (other_text repository texts name) IsUtf8
other_typed Director texts name typed = tt
other_typed Image texts name typed = file_typed name (texts_in texts) (texts_typed texts typed)

-- a text that is held is in UTF-8
held_typed : (rows : StateRows) (repository : Repository) (name : Name) → AreTyped rows → IfSome (text_held rows repository name) IsUtf8
held_typed rows repository name typed =
    either_typed IsUtf8 (root_named name (root_texts repository rows)) (other_text repository rows.files name) (root_typed name (root_texts repository rows) (roots_typed repository rows typed)) (other_typed repository rows.files name typed.files)

-- the row of the file, or none
abbrev its_file : Repository → Name → StateRows → Option ServedFile
its_file repository name rows = option_map (file_line repository name) (text_held rows repository name)

its_lines : (rows : StateRows) (repository : Repository) (name : Name) → map (columns_at file_places) (files_lines rows (repository_word repository) name) ≡ map file_row (option_to_list (its_file repository name rows))
its_lines rows repository name = ap (map (columns_at file_places)) (own repository) ∙ by_text (text_held rows repository name)
  where
    own : (repository : Repository) → files_lines rows (repository_word repository) name ≡ file_lines repository name (text_held rows repository name)
    own Director = refl
    own Image = refl

    by_text : (o : Option (List ℕ)) → map (columns_at file_places) (file_lines repository name o) ≡ map file_row (option_to_list (option_map (file_line repository name) o))
    by_text None = refl
    by_text (Some text) = refl

its_typed : (repository : Repository) (name : Name) → is_file_name name ≡ true → (rows : StateRows) → AreTyped rows → AllByRecursion IsTypedFile (option_to_list (its_file repository name rows))
its_typed repository name fits rows typed = by_text (text_held rows repository name) (held_typed rows repository name typed)
  where
    by_text : (o : Option (List ℕ)) → IfSome o IsUtf8 → AllByRecursion IsTypedFile (option_to_list (option_map (file_line repository name) o))
    by_text None is = tt
    by_text (Some text) is = (record { repository = utf8 _ (word repository); name = utf8 name (file_name name fits); body = is }, tt)

pub holds_file : (repository : Repository) (name : Name) → is_file_name name ≡ true → (s : Connected) (rows : StateRows) → ListsRows rows s.now.trees
    → HoldsOfFiles (λ rows_of. AreLines IsTypedFile file_row (map (columns_at file_places) (rows_of (repository_word repository) name))) s
holds_file repository name fits s rows lists = (files_lines rows, lists.tables.files, (its_file repository name rows, its_typed repository name fits rows lists.typed, its_lines rows repository name))

-- the file that is found is that of the text
pub file_found : {E : Type 0} (r : Result (Option ServedFile) E) (repository : Repository) (name : Name) → is_file_name name ≡ true → (before after : Connected)
    → IfOk r (λ found. (rows_of : List ℕ → List ℕ → List Row) → HasTables before → ListsPairs rows_of (before.now.trees repo_file_table.tree)
    → IsTold SaysFile IsTypedFile file_row (map (columns_at file_places) (rows_of (repository_word repository) name)) found)
    → OnOk r (Reads before after) → IfOk r (λ found. (rows : StateRows) → IsWithin up_schema (ListsRows rows) before → option_map (λ (f : ServedFile). f.body) found ≡ text_held rows repository name)
file_found (Err e) repository name fits before after told reads = tt
file_found (Ok found) repository name fits before after told reads = λ rows within.
    let here = within.here reads.was_open in
    let same = (told (files_lines rows) (has_tables rows before within) here.rows.tables.files).same (its_file repository name rows) (its_typed repository name fits rows here.rows.typed) (its_lines rows repository name) in
    ap (option_map (λ (f : ServedFile). f.body)) same ∙ back (text_held rows repository name)
  where
    back : (o : Option (List ℕ)) → option_map (λ (f : ServedFile). f.body) (option_map (file_line repository name) o) ≡ o
    back None = refl
    back (Some text) = refl
