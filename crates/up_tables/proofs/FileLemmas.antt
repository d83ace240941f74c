-- Files that are served: one after another is set, and one is read.
use Rattle.std.proofs.Common.{◌≡◌, ◌≤◌, ◌+◌, suc, take, slice_get, arith, ℕ, List, [], ◌∷◌, ◌++◌, map, filter, Bool, true, false, ◌&&◌, if◌then◌else◌, length, Some, refl, sym, ap, subst, ◌∙◌, codes, bytes_eq, drop}
use Rattle.std.proofs.Math.Bool.{and-true}
use Rattle.std.specs.List.Sorted.{IsPermutation}
use Rattle.sqlite.specs.declared.types.Value.TheVariants.{Text}
use Rattle.sqlite.specs.Order.{Row, column}
use Rattle.sqlite.specs.Listing.{understood}
use Rattle.sqlite.specs.State.{State}
use Rattle.sqlite_tied.specs.Compute.{everything}
use Rattle.up_tables.specs.Texts.{find_file_text}
use Rattle.up_tables.specs.Rows.{bare, columns_at, has_text, has_texts, with_only_at}
use Rattle.up_tables.specs.Stands.{IsInside, Alters, HasTables, ListsPairs, IsOpen}
use Rattle.up_tables.proofs.AnswerLemmas.{over, all_columns, equals_text}
use Rattle.up_tables.proofs.EcuRows.{column_after}
use Rattle.up_tables.proofs.EcuUpdate.{equals}
use Rattle.up_tables.specs.Tables.{up_schema, repo_file_table}
use Rattle.up_tables.specs.Forms.{file_row, file_places, set_files}
use Rattle.up_tables.specs.declared.repo_file.FileRow.{FileRow}
use Rattle.up_tables.proofs.EcuInserts.{take_next, take_whole}
use Rattle.up_tables.proofs.OthersLemmas.{alters_to, alters_none, has_after, alters_then}
use Rattle.up_tables.proofs.ReadLemmas.{Asks, answers_some, bare_filter}
use Rattle.up_tables.proofs.StoredLemmas.{IsQueryIn}

-- ---- one after another

-- what a loop over the files has set when it comes to one of them
abbrev pub SetSoFar : List FileRow → ℕ → State → State → Type 0
SetSoFar fs i old new = (rows_of : List ℕ → List ℕ → List Row) → HasTables old → ListsPairs rows_of (old.now.trees repo_file_table.tree) → ((repository name : List ℕ) → length (rows_of repository name) ≤ 1)
    → Alters repo_file_table (ListsPairs (set_files (take i fs) rows_of)) old new

one_few : (first second : List ℕ) (row : Row) (rows_of : List ℕ → List ℕ → List Row) → ((m n : List ℕ) → length (rows_of m n) ≤ 1) → (m n : List ℕ) → length (with_only_at first second row rows_of m n) ≤ 1
one_few first second row rows_of few m n = go (bytes_eq first m && bytes_eq second n)
  where
    go : (b : Bool) → length (if b then row ∷ [] else rows_of m n) ≤ 1
    go true = omega arith
    go false = few m n

all_few : (fs : List FileRow) (rows_of : List ℕ → List ℕ → List Row) → ((m n : List ℕ) → length (rows_of m n) ≤ 1) → (m n : List ℕ) → length (set_files fs rows_of m n) ≤ 1
all_few [] rows_of few = few
all_few (f ∷ fs) rows_of few = all_few fs (with_only_at f.repository.now f.name.now (file_row f) rows_of) (one_few f.repository.now f.name.now (file_row f) rows_of few)

set_last : (fs : List FileRow) (f : FileRow) (rows_of : List ℕ → List ℕ → List Row) → set_files (fs ++ f ∷ []) rows_of ≡ with_only_at f.repository.now f.name.now (file_row f) (set_files fs rows_of)
set_last [] f rows_of = refl
set_last (x ∷ fs) f rows_of = set_last fs f (with_only_at x.repository.now x.name.now (file_row x) rows_of)

pub none_set : (fs : List FileRow) (s : State) → IsInside s → IsOpen s → SetSoFar fs 0 s s
none_set fs s inside is_open rows_of has lists few = alters_none repo_file_table _ s inside is_open has lists

pub next_set : (fs : List FileRow) (i : ℕ) (f : FileRow) (old mid new : State) → slice_get fs i ≡ Some f → SetSoFar fs i old mid
    → ((rows_of : List ℕ → List ℕ → List Row) → HasTables mid → ListsPairs rows_of (mid.now.trees repo_file_table.tree) → length (rows_of f.repository.now f.name.now) ≤ 1
    → Alters repo_file_table (ListsPairs (with_only_at f.repository.now f.name.now (file_row f) rows_of)) mid new)
    → SetSoFar fs (i + 1) old new
next_set fs i f old mid new there so_far sets rows_of has lists few =
    let before = so_far rows_of has lists few in
    let after = sets (set_files (take i fs) rows_of) (has_after repo_file_table _ old mid before) before.rows (all_few (take i fs) rows_of few _ _) in
    let next : suc i ≡ i + 1 = omega arith in
    let same : take (suc i) fs ≡ take (i + 1) fs = ap (λ k. take k fs) next in
    let all : with_only_at f.repository.now f.name.now (file_row f) (set_files (take i fs) rows_of) ≡ set_files (take (i + 1) fs) rows_of =
    sym (set_last (take i fs) f rows_of) ∙ ap (λ xs. set_files xs rows_of) (take_next i fs f there ∙ same) in
    alters_to repo_file_table _ _ old new (subst (λ g. ListsPairs g (new.now.trees repo_file_table.tree)) all) (alters_then repo_file_table _ _ old mid new before after)

pub all_set : (fs : List FileRow) (i : ℕ) (old new : State) → i ≡ length fs → SetSoFar fs i old new
    → (rows_of : List ℕ → List ℕ → List Row) → HasTables old → ListsPairs rows_of (old.now.trees repo_file_table.tree) → ((repository name : List ℕ) → length (rows_of repository name) ≤ 1)
    → Alters repo_file_table (ListsPairs (set_files fs rows_of)) old new
all_set fs i old new end so_far rows_of has lists few =
    subst (λ xs. Alters repo_file_table (ListsPairs (set_files xs rows_of)) old new) (ap (λ k. take k fs) end ∙ take_whole fs) (so_far rows_of has lists few)

-- ---- read

abbrev part : Row → Row
part = columns_at file_places

abbrev names : List (List ℕ)
names = codes "repository" ∷ codes "name" ∷ codes "body" ∷ []

find_is : Asks up_schema find_file_text (over repo_file_table.tree (equals 1 0 ∷ equals 2 1 ∷ []) (all_columns 3) []) names
unfolding understood everything
find_is = (refl, refl, (refl, refl), refl)

abbrev its : List ℕ → List ℕ → Row → Bool
its repository name x = has_text 0 repository x && has_text 1 name x

its_rows : (repository name : List ℕ) (rows_of : List ℕ → List ℕ → List Row) (rows : List Row) → ListsPairs rows_of rows → rows_of repository name ≡ filter (its repository name) (bare rows)
its_rows repository name rows_of rows lists =
    let test : (x : Row) → has_texts 1 repository 2 name x ≡ its repository name (drop 1 x) = λ x. rw (column_after x 0, column_after x 1) refl in
    sym (lists.parts repository name) ∙ bare_filter (has_texts 1 repository 2 name) (its repository name) test rows

pub file_found : (repository name : List ℕ) → IsQueryIn ListsPairs find_file_text (Text repository ∷ Text name ∷ []) repo_file_table (λ rows_of. map part (rows_of repository name)) (equals 1 0 ∷ equals 2 1 ∷ []) (all_columns 3) names
unfolding understood everything
file_found repository name = record {
  asks = find_is;
  takes = (refl, refl, λ trees h. absurd (let e = h in cc));
  answers = λ old new rows_of rows has lists h. subst (λ xs. IsPermutation (map part xs) rows) (sym (its_rows repository name rows_of (old.now.trees repo_file_table.tree) lists))
      (answers_some up_schema find_file_text repo_file_table.tree (equals 1 0 ∷ equals 2 1 ∷ []) (all_columns 3) names (Text repository ∷ Text name ∷ []) (its repository name) part
      (λ x. rw (equals_text (column x 1) repository, equals_text (column x 2) name, column_after x 0, column_after x 1) (ap (λ b. has_text 0 repository (drop 1 x) && b) (and-true _)))
      (λ x. rw (column_after x 0, column_after x 1, column_after x 2) refl) (λ db. refl) find_is old new rows has h);
}
