-- Whose tables they are is told by the row of `meta`.
use Rattle.std.proofs.Common.{◌≡◌, inl, inr, ℕ, pos, List, [], ◌∷◌, map, length, arith, Ok, refl, sym, ap, subst, ◌∙◌}
use Rattle.std.specs.List.Sorted.{IsPermutation}
use Rattle.sqlite.specs.Order.{Row, column}
use Rattle.sqlite.specs.Tree.{Trees}
use Rattle.sqlite.specs.Clock.{timed}
use Rattle.sqlite.specs.Effect.{Database, Reads}
use Rattle.sqlite.specs.Listing.{understood, reads_listing, IsSourceOf}
use Rattle.sqlite.specs.State.{State, Shown, IsStatement}
use Rattle.sqlite.proofs.Callers.{IsPlain, one_permutation}
use Rattle.sqlite_resolve.specs.declared.compiled.Compiled.{Compiled}
use Rattle.up_tables.specs.declared.open.SchemaVersion.{SchemaVersion}
use Rattle.up_tables.specs.Lines.{meta_row_of}
use Rattle.up_tables.specs.Versions.{number_of, schema_of}
use Rattle.up_tables.specs.Ours.{find_meta_text, IsOurs, NamesVersion, NamesOthers, AnswersOthers, ListsUs}
use Rattle.up_tables.specs.Whose.{HasOurTables, RowNames, RowNamesNone}
use Rattle.up_tables.proofs.PlaceLemmas.{itself}
use Rattle.up_tables.proofs.ReadLemmas.{few_permutation}
use Rattle.up_tables.proofs.OursReads.{find_plain, is_statement, shows, answer_of, asked_rows, name_and_schema, is_answer, finds, not_refused}
use Rattle.up_tables.specs.Tables.{meta_table}

-- ---- rows that are answered, and the row that names

one_of : (rows : List Row) (r : Row) → map name_and_schema rows ≡ r ∷ [] → (row : Row) × (rows ≡ row ∷ []) × (name_and_schema row ≡ r)
one_of [] r h = absurd (let e = h in cc)
one_of (x ∷ []) r h = (x, refl, (let e = h in cc))
one_of (x ∷ y ∷ more) r h = absurd (let e = h in cc)

-- where the answer is of ours, so is the row
row_of : (version : SchemaVersion) (trees : Trees) → IsOurs version (answer_of trees) → RowNames version trees
row_of version trees ours =
    let one = one_of (asked_rows trees) ours.0 ours.1 in
    record { row = one.0; only = one.1; app = ap (λ r. column r 0) one.2 ∙ ours.2; schema = ap (λ r. column r 1) one.2 ∙ ours.3 }

-- and the other way round
ours_of : (version : SchemaVersion) (trees : Trees) → RowNames version trees → IsOurs version (answer_of trees)
ours_of version trees h = (name_and_schema h.row, ap (map name_and_schema) h.only, h.app, h.schema)

-- in whatever order
any_order : (version : SchemaVersion) (xs ys : List Row) → IsPermutation xs ys → IsOurs version xs → IsOurs version ys
any_order version xs ys same h = (h.0, one_permutation h.0 ys (subst (λ zs. IsPermutation zs ys) h.1 same), h.2, h.3)

back_in_order : (version : SchemaVersion) (xs ys : List Row) → IsPermutation xs ys → IsOurs version ys → IsOurs version xs
back_in_order version xs ys same h = subst (IsOurs version) (sym (few_permutation xs ys same (omega (arith, ap length h.1)))) h

-- ---- the law

-- the statement of the query is plain
plain_of : (s : State) (us : HasOurTables s) (c : Compiled) → IsStatement s find_meta_text [] c → IsPlain (Ok c)
plain_of s us c it = subst IsPlain (sym (ap (λ x. understood x find_meta_text) us.schema_is) ∙ it.is) (find_plain us.version)

-- what the query shows is shown by the connection as it is
shown_of : (s : State) (us : HasOurTables s) (c : Compiled) (it : IsStatement s find_meta_text [] c) (db : Database) (rows : List Row) → IsSourceOf (reads_listing s.now.schema find_meta_text) s.now db
    → Reads c.command db (timed [] c.formats it.now) rows → Shown find_meta_text [] s s rows
unfolding Shown
shown_of s us c it db rows source reads = (c, it, shows s c (timed [] c.formats it.now) db rows (plain_of s us c it).0 us.is_open source reads)

pub version_in_row : (s : State) → HasOurTables s → (version : SchemaVersion) → NamesVersion version s → RowNames version s.now.trees
unfolding NamesVersion
version_in_row s us version h =
    let found = h.2 (plain_of s us h.0 h.1).0 in
    let same = is_answer us.version s s found.1 us.schema_is (shown_of s us h.0 h.1 found.0 found.1 found.2 found.3) in
    row_of version s.now.trees (back_in_order version (answer_of s.now.trees) found.1 same found.4)

pub row_names : (s : State) → HasOurTables s → (version : SchemaVersion) → RowNames version s.now.trees → NamesVersion version s
unfolding NamesVersion
row_names s us version h =
    let found = finds us.version s us.schema_is in
    (found.compiled, found.it, λ none. (s.now, answer_of s.now.trees, found.source, found.reads, ours_of version s.now.trees h))

pub others_no_row : (s : State) → HasOurTables s → NamesOthers s → RowNamesNone s.now.trees
unfolding AnswersOthers
others_no_row s us others version h = go others.how
  where
    go : AnswersOthers s → ⊥
    go (inl h) = is_statement us.version s h.0 us.schema_is h.1
    go (inr other) = read (other.2 (plain_of s us other.0 other.1).0).2
      where
        found : (db : Database) × IsSourceOf (reads_listing s.now.schema find_meta_text) s.now db × Rattle.up_tables.specs.Ours.ReadsOthers other.0 db (timed [] other.0.formats other.1.now)
        found = other.2 (plain_of s us other.0 other.1).0

        read : Rattle.up_tables.specs.Ours.ReadsOthers other.0 found.0 (timed [] other.0.formats other.1.now) → ⊥
        read (inl k) =
            let same = is_answer us.version s s k.0 us.schema_is (shown_of s us other.0 other.1 found.0 k.0 found.1 k.1) in
            k.2 version (any_order version (answer_of s.now.trees) k.0 same (ours_of version s.now.trees h))
        read (inr k) = not_refused us.version s other.0 other.1 found.0 k.0 us.schema_is found.1 k.1

pub no_row_others : (s : State) → HasOurTables s → RowNamesNone s.now.trees → NamesOthers s
unfolding AnswersOthers
no_row_others s us none = record {
  is_open = us.is_open;
  how = inr (
    found.compiled,
    found.it,
    λ returning. (s.now, found.source, inl (answer_of s.now.trees, found.reads, λ version ours. none version (row_of version s.now.trees ours))),
  );
}
  where
    found : Rattle.up_tables.proofs.OursReads.Finds s
    found = finds us.version s us.schema_is

-- ---- tables whose `meta` has its row

names_row : (version : SchemaVersion) (root image_version stamp : ℕ) (trees : Trees) → trees meta_table.tree ≡ meta_row_of (number_of version) root image_version stamp ∷ [] → RowNames version trees
names_row version root image_version stamp trees is = record {
  row = meta_row_of (number_of version) root image_version stamp;
  only = (let hit = itself (pos 1) in rw (is, hit) refl);
  app = refl;
  schema = refl;
}

-- the answer is of ours
pub answered : (version : SchemaVersion) (old new : State) (root image_version stamp : ℕ) (rows : List Row) → old.now.schema ≡ schema_of version → old.now.trees meta_table.tree ≡ meta_row_of (number_of version) root image_version stamp ∷ []
    → Shown find_meta_text [] old new rows → IsOurs version rows
answered version old new root image_version stamp rows has is h =
    any_order version (answer_of old.now.trees) rows (is_answer version old new rows has h) (ours_of version old.now.trees (names_row version root image_version stamp old.now.trees is))

-- tables of this product don't name another
pub not_others : (version : SchemaVersion) (s : State) → ListsUs version s → NamesOthers s → ⊥
not_others version s us others =
    others_no_row s (record { is_open = others.is_open; version = version; schema_is = (us.tables others.is_open).schema_is }) others version
    (names_row version us.root us.image_version us.stamp s.now.trees (us.meta others.is_open))
