-- What the query on the Director's latest Root tells of tables of any version.
use Rattle.std.proofs.Common.{◌≡◌, ℕ, List, [], ◌∷◌, map, filter, Bool, true, ◌&&◌, Option, Some, None, Ok, Err, Result, IfOk, arith, refl, sym, ap, subst, ◌∙◌, codes, drop}
use Rattle.std.specs.Borrow.{MutBor}
use Rattle.std.specs.List.Sorted.{IsPermutation}
use Rattle.std.specs.Option.{option_to_list}
use Rattle.std.proofs.Math.Bool.{and-true}
use Rattle.sqlite.specs.declared.types.Value.TheVariants.{Text}
use Rattle.sqlite.specs.Held.{Held, state}
use Rattle.sqlite.specs.Order.{Row, column}
use Rattle.sqlite.specs.Listing.{understood}
use Rattle.sqlite.specs.State.{State, HasCleanDisk, Shown}
use Rattle.sqlite.specs.Tree.{Trees}
use Rattle.sqlite_tied.specs.Compute.{everything}
use Rattle.sqlite_trees.specs.declared.store.Store.{Ghosts}
use Rattle.up_roles.specs.declared.repository.Repository.TheVariants.{Director}
use Rattle.up_rows.specs.Lookups.{text_held}
use Rattle.up_rows.specs.StateRows.{StateRows}
use Rattle.up_tables.specs.declared.open.SchemaVersion.{SchemaVersion}
use Rattle.up_tables.specs.declared.open.SchemaVersion.TheVariants.{One, Two, Three, Four}
use Rattle.up_tables.specs.Forms.{file_places}
use Rattle.up_tables.specs.Listed.{TableRows}
use Rattle.up_tables.specs.Rows.{bare, columns_at, has_text, has_texts}
use Rattle.up_tables.specs.Stands.{IfClean, IsInside, IsWithin, ListsPairs}
use Rattle.up_tables.specs.Stored.{EachSays, IsQueried, IsTold}
use Rattle.up_tables.specs.Tables.{repo_file_table}
use Rattle.up_tables.specs.Texts.{find_file_text}
use Rattle.up_tables.specs.Tried.{AnswersQuery}
use Rattle.up_tables.specs.Versions.{ListsAs, schema_of}
use Rattle.up_tables.specs.declared.values.StoreFault.{StoreFault}
use Rattle.up_tables.proofs.AnswerLemmas.{over, all_columns, equals_text}
use Rattle.up_tables.proofs.EcuRows.{column_after}
use Rattle.up_tables.proofs.EcuUpdate.{equals}
use Rattle.up_tables.proofs.ReadLemmas.{Asks, answers_some, bare_filter, few_permutation}
use Rattle.up_tables.proofs.SaysLemmas.{says_few}
use Rattle.up_tables.proofs.StepLemmas.{shown_open}
use Rattle.up_store.specs.Connections.{KeepsAs}
use Rattle.up_store.specs.Lines.{file_lines}
use Rattle.up_store.specs.Listing.{ListsRowsAs, files_lines, table_rows}
use Rattle.up_file.specs.LatestRoot.{FitsNone, SaysBody, no_row}

-- ---- what the query on a file shows

abbrev names : List (List ℕ)
names = codes "repository" ∷ codes "name" ∷ codes "body" ∷ []

asks : (version : SchemaVersion) → Asks (schema_of version) find_file_text (over repo_file_table.tree (equals 1 0 ∷ equals 2 1 ∷ []) (all_columns 3) []) names
unfolding understood everything
asks One = (refl, refl, (refl, refl), refl)
asks Two = (refl, refl, (refl, refl), refl)
asks Three = (refl, refl, (refl, refl), refl)
asks Four = (refl, refl, (refl, refl), refl)

abbrev its : List ℕ → List ℕ → Row → Bool
its repository name x = has_text 0 repository x && has_text 1 name x

its_rows : (repository name : List ℕ) (rows_of : List ℕ → List ℕ → List Row) (rows : List Row) → ListsPairs rows_of rows → rows_of repository name ≡ filter (its repository name) (bare rows)
its_rows repository name rows_of rows lists =
    let test : (x : Row) → has_texts 1 repository 2 name x ≡ its repository name (drop 1 x) = λ x. rw (column_after x 0, column_after x 1) refl in
    sym (lists.parts repository name) ∙ bare_filter (has_texts 1 repository 2 name) (its repository name) test rows

-- of tables of any version they are the rows of that repository and name
shown_as : (version : SchemaVersion) (repository name : List ℕ) (old new : State) (rows_of : List ℕ → List ℕ → List Row) (rows : List Row) → old.now.schema ≡ schema_of version
    → ListsPairs rows_of (old.now.trees repo_file_table.tree) → Shown find_file_text (Text repository ∷ Text name ∷ []) old new rows → IsPermutation (map (columns_at file_places) (rows_of repository name)) rows
shown_as version repository name old new rows_of rows has lists h =
    subst (λ xs. IsPermutation (map (columns_at file_places) xs) rows) (sym (its_rows repository name rows_of (old.now.trees repo_file_table.tree) lists))
    (answers_some (schema_of version) find_file_text repo_file_table.tree (equals 1 0 ∷ equals 2 1 ∷ []) (all_columns 3) names (Text repository ∷ Text name ∷ []) (its repository name) (columns_at file_places)
    (λ x. rw (equals_text (column x 1) repository, equals_text (column x 2) name, column_after x 0, column_after x 1) (ap (λ b. has_text 0 repository (drop 1 x) && b) (and-true _)))
    (λ x. rw (column_after x 0, column_after x 1, column_after x 2) refl) (λ db. refl) (asks version) old new rows has h)

-- ---- what is found

listed : (version : SchemaVersion) (rows : TableRows) (trees : Trees) → ListsAs version rows trees → ListsPairs rows.files (trees repo_file_table.tree)
listed One rows trees lists = lists.0.files
listed Two rows trees lists = lists.0.files
listed Three rows trees lists = lists.0.files
listed Four rows trees lists = lists.files

-- the text that a row says is the one that stands there
said : (text found : Option (List ℕ)) → EachSays SaysBody (map (columns_at file_places) (file_lines Director (codes "root.json") text)) (option_to_list found) → found ≡ text
said None None says = refl
said None (Some found) says = absurd says
said (Some text) None says = absurd says
said (Some text) (Some found) says = let is = says.0 in cc

root_found : {E : Type 0} (r : Result (Option (List ℕ)) E) (before after : State)
    → AnswersQuery find_file_text (Text (codes "director") ∷ Text (codes "root.json") ∷ []) (IsTold SaysBody FitsNone no_row) before after r → HasCleanDisk after
    → IfOk r (λ found. (version : SchemaVersion) (rows : StateRows) → IsWithin (schema_of version) (ListsRowsAs version rows) before → found ≡ text_held rows Director (codes "root.json"))
root_found (Err e) before after asked clean = tt
root_found (Ok found) before after asked clean = λ version rows within.
    let a = asked clean in
    let here = within.here (shown_open find_file_text (Text (codes "director") ∷ Text (codes "root.json") ∷ []) before after a.0 a.1) in
    let order = shown_as version (codes "director") (codes "root.json") before after (files_lines rows) a.0 here.schema_is (listed version (table_rows rows) before.now.trees here.rows.tables) a.1 in
    let same = few_permutation (map (columns_at file_places) (files_lines rows (codes "director") (codes "root.json"))) a.0 order (says_few SaysBody a.0 found a.2.said) in
    said (text_held rows Director (codes "root.json")) found (subst (λ xs. EachSays SaysBody xs (option_to_list found)) (sym same) a.2.said)

-- ---- in the transaction that is begun for it

module _ {S : Type 0} (g : Ghosts S) (old : Held S) (first after : MutBor (Held S)) (begun : first.now ≡ record old { in_transaction = true }) where
  inside : IfClean IsInside (state g first.now)
  inside clean = subst (λ (h : Held S). IsInside (state g h)) (sym begun) refl

  within : (version : SchemaVersion) (rows : StateRows) → KeepsAs version rows (state g old) → IsWithin (schema_of version) (ListsRowsAs version rows) (state g first.now)
  within version rows keeps = subst (λ (h : Held S). IsWithin (schema_of version) (ListsRowsAs version rows) (state g h)) (sym begun) (record { mode = refl; here = keeps.here })

  pub root_told : {finds : State → State → Result (Option (List ℕ)) StoreFault → Type 0} {stands : State → Type 0} (r : Result (Option (List ℕ)) StoreFault)
      → IsQueried g find_file_text (Text (codes "director") ∷ Text (codes "root.json") ∷ []) (IsTold SaysBody FitsNone no_row) finds stands first after r → HasCleanDisk (state g after.now)
      → IfOk r (λ found. (version : SchemaVersion) (rows : StateRows) → IfClean (KeepsAs version rows) (state g old) → found ≡ text_held rows Director (codes "root.json"))
  root_told r asked clean =
      let q = asked inside in
      let then : HasCleanDisk (state g first.now) = omega (arith, clean, q.step.steps.survives.clean) in
      by_result r (subst (λ (h : Held S). HasCleanDisk (state g h)) begun then) (root_found r (state g first.now) (state g after.now) q.asks clean)
    where
      by_result : (r : Result (Option (List ℕ)) StoreFault) → HasCleanDisk (state g old)
          → IfOk r (λ found. (version : SchemaVersion) (rows : StateRows) → IsWithin (schema_of version) (ListsRowsAs version rows) (state g first.now) → found ≡ text_held rows Director (codes "root.json"))
          → IfOk r (λ found. (version : SchemaVersion) (rows : StateRows) → IfClean (KeepsAs version rows) (state g old) → found ≡ text_held rows Director (codes "root.json"))
      by_result (Ok found) before h = λ version rows keeps. h version rows (within version rows (keeps before))
      by_result (Err e) before h = tt
