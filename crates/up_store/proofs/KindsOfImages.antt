-- Rows of images and of their second hashes have the columns that the statements show.
use Rattle.std.proofs.Common.{◌≡◌, ℕ, List, [], ◌∷◌, Option, Some, None, Result, Ok, Err, IfOk, OnOk, option_map, length, map, filter, bytes_eq, refl, sym, ap, subst, ◌∙◌, true}
use Rattle.std.specs.FinMap as table
use Rattle.sqlite_catalog.specs.Listing.{IsSound}
use Rattle.up_columns.specs.Columns.{names_data, names_column, needs_data, needs_column}
use Rattle.up_columns.proofs.NamesRead.{names-canon, file_names-canon}
use Rattle.up_columns.proofs.NeedsRead.{needs-canon}
use Rattle.up_tables.proofs.ByNameLemmas.{each_named, filter_true, named_parts}
use Rattle.up_tables.proofs.Sha512Lemmas.{sha512s_listed}
use Rattle.up_store.specs.declared.second_hashes.SecondHash.{SecondHash}
use Rattle.up_store.proofs.Common.{IfSome, option_to_list, is_eq, AllByRecursion, list_all, Row, value_cmp, Connected, Text, Name, is_ident, is_file_name, is_typed_need, ImageData, Need, StateRows, IsWords, HoldsBy, image_table, image_sha512_table, up_schema, image_places, sha512_places, bare, columns_at, HasTables, IsWith, IsWithin, Lists, ListsAll, Reads, AreLines, EachSays, IsLine, IsTold, Tells, text_is, each_said, lines_said, same_values, values_there, ImageShown, AreSha512s, hash_line, image_lines, image_shown_line, second_hash, sha512_lines, ListsRows, AreTyped, IsTypedHash, IsTypedImage, IsTypedImageRow, SaysHash, SaysImage}
use Rattle.up_store.proofs.ByName.{said_by_name}
use Rattle.up_store.proofs.ColumnFound.{has_tables}
use Rattle.up_store.proofs.KindsOfTexts.{file_name, canonical, utf8}

-- ---- images

names_words : (names : List Name) → list_all is_ident names ≡ true → IsWords (Text (names_column names))
unfolding names_column
names_words names h = canonical (names_data names) (names-canon names h)

file_names_words : (names : List Name) → list_all is_file_name names ≡ true → IsWords (Text (names_column names))
unfolding names_column
file_names_words names h = canonical (names_data names) (file_names-canon names h)

needs_words : (needs : List Need) → list_all is_typed_need needs ≡ true → IsWords (Text (needs_column needs))
unfolding needs_column
needs_words needs h = canonical (needs_data needs) (needs-canon needs h)

-- as it is read
abbrev shown_of : ImageData → ImageShown
shown_of i = record {
  file = i.file;
  length = i.length;
  sha256 = i.sha256;
  hardware = names_column i.hardware;
  release = i.release;
  needs = needs_column i.needs;
  conflicts = names_column i.conflicts;
}

image_typed : (i : ImageData) (name : Name) → IsTypedImage name i → IsTypedImageRow (shown_of i)
image_typed i name t = record {
  file = t.file_name;
  size = t.size;
  sha256 = t.sha256;
  hardware = utf8 _ (names_words i.hardware t.hardware);
  release = t.release;
  needs = utf8 _ (needs_words i.needs t.needs);
  conflicts = utf8 _ (file_names_words i.conflicts t.conflicts);
}

pub holds_image : (file : Name) (s : Connected) (rows : StateRows) → ListsRows rows s.now.trees → HoldsBy image_table 1 (λ rows_of. AreLines IsTypedImageRow image_shown_line (map (columns_at image_places) (rows_of file))) s
holds_image file s rows lists = ((λ name. image_lines (table.get rows.images name)), lists.tables.images, by_image (table.get rows.images file) (lists.typed.images file))
  where
    by_image : (o : Option ImageData) → ((image : ImageData) → o ≡ Some image → IsTypedImage file image) → AreLines IsTypedImageRow image_shown_line (map (columns_at image_places) (image_lines o))
    by_image None typed = (None, tt, refl)
    by_image (Some i) typed = (Some (shown_of i), (image_typed i file (typed i refl), tt), refl)

pub holds_images : (s : Connected) (rows : StateRows) → ListsRows rows s.now.trees
    → HoldsBy image_table 1 (λ rows_of. (name : List ℕ) → AllByRecursion (IsLine IsTypedImageRow image_shown_line) (map (columns_at image_places) (rows_of name))) s
holds_images s rows lists = ((λ name. image_lines (table.get rows.images name)), lists.tables.images, λ name. by_image name (table.get rows.images name) (lists.typed.images name))
  where
    by_image : (name : Name) (o : Option ImageData) → ((image : ImageData) → o ≡ Some image → IsTypedImage name image) → AllByRecursion (IsLine IsTypedImageRow image_shown_line) (map (columns_at image_places) (image_lines o))
    by_image name None typed = tt
    by_image name (Some i) typed = ((shown_of i, image_typed i name (typed i refl), refl), tt)

-- what a row says is its line
image_said : (r : Row) (i : ImageShown) → SaysImage (columns_at image_places r) i → columns_at image_places r ≡ image_shown_line i
image_said r i said = rw (said.file.0, said.length, said.sha256, said.hardware.0, said.release, said.needs.0, said.conflicts.0) refl

pub image_lines_said : (rows : List Row) (found : List ImageShown) → EachSays SaysImage (map (columns_at image_places) rows) found → map (columns_at image_places) rows ≡ map image_shown_line found
image_lines_said = lines_said SaysImage image_shown_line (columns_at image_places) image_said

-- the rows of a name say those that have it
pub images_by_name : (rows : List Row) (rows_of : List ℕ → List Row) (found : List ImageShown) → Lists 1 rows_of rows
    → EachSays (Tells SaysImage IsTypedImageRow image_shown_line) (map (columns_at image_places) (bare rows)) found
    → (name : List ℕ) → EachSays SaysImage (map (columns_at image_places) (rows_of name)) (filter (λ i. bytes_eq i.file name) found)
images_by_name rows rows_of found lists told name =
    subst (λ rs. EachSays SaysImage (map (columns_at image_places) rs) (filter (λ (i : ImageShown). bytes_eq i.file name) found)) (filter_true (rows_of name))
    (said_by_name SaysImage (columns_at image_places) (λ i. i.file) (λ r n. refl) (λ n r i said. ap (λ v. is_eq (value_cmp v (Text n))) said.file.0 ∙ text_is i.file n) (λ _. true) rows rows_of found lists
    (subst (λ rs. EachSays SaysImage (map (columns_at image_places) rs) found) (sym (filter_true (bare rows)))
    (each_said (Tells SaysImage IsTypedImageRow image_shown_line) SaysImage (λ r i t. t.said) (map (columns_at image_places) (bare rows)) found told)) name)

-- ---- second hashes

abbrev hash_lines_of : StateRows → Name → List Row
hash_lines_of rows name = sha512_lines name (second_hash (table.get rows.images name))

-- that of a name, with it
abbrev named_hash : Name → Option (List ℕ) → Option SecondHash
named_hash name hash = option_map (λ h. record { file = name; sha512 = h }) hash

hash_lines : (name : Name) (o : Option (List ℕ)) → map (columns_at sha512_places) (sha512_lines name o) ≡ map hash_line (option_to_list (named_hash name o))
hash_lines name None = refl
hash_lines name (Some hash) = refl

hash_typed : (name : Name) (o : Option ImageData) → ((image : ImageData) → o ≡ Some image → IsTypedImage name image) → AllByRecursion IsTypedHash (option_to_list (named_hash name (second_hash o)))
hash_typed name None typed = tt
hash_typed name (Some i) typed = by_hash i.sha512 (typed i refl).sha512
  where
    by_hash : (o : Option (List ℕ)) → IfSome o (λ hash. length hash ≡ 64) → AllByRecursion IsTypedHash (option_to_list (named_hash name o))
    by_hash None whole = tt
    by_hash (Some hash) whole = (record { file = utf8 name (file_name name (subst (λ n. is_file_name n ≡ true) (typed i refl).named (typed i refl).file_name)); whole = whole }, tt)

pub holds_hash : (file : Name) (s : Connected) (rows : StateRows) → ListsRows rows s.now.trees
    → HoldsBy image_sha512_table 1 (λ rows_of. AreLines IsTypedHash hash_line (map (columns_at sha512_places) (rows_of file))) s
holds_hash file s rows lists =
    (hash_lines_of rows, lists.tables.sha512s, (named_hash file (second_hash (table.get rows.images file)), hash_typed file (table.get rows.images file) (lists.typed.images file), hash_lines file _))

each_line : (ys : List SecondHash) → AllByRecursion IsTypedHash ys → AllByRecursion (IsLine IsTypedHash hash_line) (map hash_line ys)
each_line [] typed = tt
each_line (y ∷ ys) typed = ((y, typed.0, refl), each_line ys typed.1)

lines_typed : (rows : StateRows) (name : Name) → AreTyped rows → AllByRecursion (IsLine IsTypedHash hash_line) (map (columns_at sha512_places) (hash_lines_of rows name))
lines_typed rows name typed = subst (AllByRecursion (IsLine IsTypedHash hash_line)) (sym (hash_lines name _)) (each_line _ (hash_typed name (table.get rows.images name) (typed.images name)))

pub holds_hashes : (s : Connected) (rows : StateRows) → ListsRows rows s.now.trees
    → HoldsBy image_sha512_table 1 (λ rows_of. (name : List ℕ) → AllByRecursion (IsLine IsTypedHash hash_line) (map (columns_at sha512_places) (rows_of name))) s
holds_hashes s rows lists = (hash_lines_of rows, lists.tables.sha512s, λ name. lines_typed rows name lists.typed)

-- the hash that is found is that of the image
pub hash_found : {E : Type 0} (r : Result (Option SecondHash) E) (file : Name) (before after : Connected)
    → IfOk r (λ found. (rows_of : List ℕ → List Row) → HasTables before → Lists 1 rows_of (before.now.trees image_sha512_table.tree)
    → IsTold SaysHash IsTypedHash hash_line (map (columns_at sha512_places) (rows_of file)) found)
    → OnOk r (Reads before after) → IfOk r (λ found. (rows : StateRows) → IsWithin up_schema (ListsRows rows) before → option_map (λ (h : SecondHash). h.sha512) found ≡ second_hash (table.get rows.images file))
hash_found (Err e) file before after told reads = tt
hash_found (Ok found) file before after told reads = λ rows within.
    let here = within.here reads.was_open in
    let o = table.get rows.images file in
    let same = (told (hash_lines_of rows) (has_tables rows before within) here.rows.tables.sha512s).same (named_hash file (second_hash o)) (hash_typed file o (here.rows.typed.images file)) (hash_lines file _) in
    ap (option_map (λ (h : SecondHash). h.sha512)) same ∙ back (second_hash o)
  where
    back : (o : Option (List ℕ)) → option_map (λ (h : SecondHash). h.sha512) (named_hash file o) ≡ o
    back None = refl
    back (Some hash) = refl

-- all that are found are those of the images, by name
plain_columns : (name : Name) (o : Option (List ℕ)) → map (columns_at sha512_places) (sha512_lines name o) ≡ sha512_lines name o
plain_columns name None = refl
plain_columns name (Some hash) = refl

columns_lines : (ys : List SecondHash) → map (columns_at sha512_places) (map hash_line ys) ≡ map hash_line ys
columns_lines [] = refl
columns_lines (y ∷ ys) = ap (λ rows. hash_line y ∷ rows) (columns_lines ys)

abbrev tells : Row → SecondHash → Type 0
tells = Tells SaysHash IsTypedHash hash_line

-- the values that stand there, in the order of the table
hashes_there : (rows : StateRows) (s : Connected) → IsWith up_schema (ListsRows rows) s.now
    → (ys : List SecondHash) × AllByRecursion IsTypedHash ys × (bare (s.now.trees image_sha512_table.tree) ≡ map hash_line ys)
hashes_there rows s here =
    let all = s.now.trees image_sha512_table.tree in
    let sound : IsSound up_schema s.now.trees = subst (λ x. IsSound x s.now.trees) here.schema_is here.sound in
    let line = IsLine IsTypedHash hash_line in
    let each : AllByRecursion line (filter (λ _. true) (bare all)) =
    each_named line (λ _. true) (hash_lines_of rows) all here.rows.tables.sha512s (sha512s_listed.texts s.now.trees sound)
    (λ name. subst (AllByRecursion line) (plain_columns name _ ∙ sym (filter_true (hash_lines_of rows name))) (lines_typed rows name here.rows.typed)) in
    values_there IsTypedHash hash_line (bare all) (subst (AllByRecursion line) (filter_true (bare all)) each)

pub are_hashes : {R E : Type 0} (list : R → List SecondHash) (r : Result R E) (before after : Connected)
    → IfOk r (λ found. (all : List Row) → HasTables before → ListsAll all (before.now.trees image_sha512_table.tree) → EachSays tells (map (columns_at sha512_places) all) (list found))
    → OnOk r (Reads before after) → IfOk r (λ found. (rows : StateRows) → IsWithin up_schema (ListsRows rows) before → AreSha512s (list found) rows.images)
are_hashes list (Err e) before after told reads = tt
are_hashes list (Ok found) before after told reads = λ rows within name.
    let here = within.here reads.was_open in
    let all = before.now.trees image_sha512_table.tree in
    let lists = here.rows.tables.sha512s in
    let there = hashes_there rows before here in
    let shown : map (columns_at sha512_places) (bare all) ≡ map hash_line there.0 = ap (map (columns_at sha512_places)) there.2 ∙ columns_lines there.0 in
    let same : list found ≡ there.0 = same_values SaysHash IsTypedHash hash_line (map (columns_at sha512_places) (bare all)) (list found) there.0 (told (bare all) (has_tables rows before within) (record { shaped = lists.shaped; every = refl })) there.1 shown in
    sym (plain_columns name _) ∙ ap (map (columns_at sha512_places)) (sym (filter_true (hash_lines_of rows name)))
    ∙ named_parts (columns_at sha512_places) hash_line (λ h. h.file) (λ _. true) all (hash_lines_of rows) there.0 (λ r n. refl) (λ h n. text_is h.file n) lists (ap (map (columns_at sha512_places)) (filter_true (bare all)) ∙ shown) name
    ∙ ap (λ hs. map hash_line (filter (λ h. bytes_eq h.file name) hs)) (sym same)

-- the rows of a name say those that have it
pub hashes_by_name : (rows : List Row) (rows_of : List ℕ → List Row) (found : List SecondHash) → Lists 1 rows_of rows → EachSays tells (map (columns_at sha512_places) (bare rows)) found
    → (name : List ℕ) → EachSays SaysHash (map (columns_at sha512_places) (rows_of name)) (filter (λ h. bytes_eq h.file name) found)
hashes_by_name rows rows_of found lists told name =
    subst (λ rs. EachSays SaysHash (map (columns_at sha512_places) rs) (filter (λ (h : SecondHash). bytes_eq h.file name) found)) (filter_true (rows_of name))
    (said_by_name SaysHash (columns_at sha512_places) (λ h. h.file) (λ r n. refl) (λ n r h said. ap (λ v. is_eq (value_cmp v (Text n))) said.file.0 ∙ text_is h.file n) (λ _. true) rows rows_of found lists
    (subst (λ rs. EachSays SaysHash (map (columns_at sha512_places) rs) found) (sym (filter_true (bare rows)))
    (each_said tells SaysHash (λ r h t. t.said) (map (columns_at sha512_places) (bare rows)) found told)) name)
