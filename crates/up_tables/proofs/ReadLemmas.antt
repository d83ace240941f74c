-- What a query on one table answers, of any table whose rows are shown without their rowids.
use Rattle.std.proofs.Common.{◌≡◌, ◌≤◌, ℕ, List, [], ◌∷◌, map, filter, length, Bool, true, false, cond, ◌&&◌, refl, sym, ap, subst, ◌∙◌, drop, arith}
use Rattle.std.specs.List.{list_all, AllByRecursion}
use Rattle.std.specs.List.Sorted.{IsPermutation}
use Rattle.std.specs.declared.cmp.Ordering.TheVariants.{Less}
use Rattle.std.proofs.lemmas.List.Sorted.{length_permutation}
use Rattle.sqlite.specs.declared.types.Value.TheVariants.{Null}
use Rattle.sqlite.specs.Order.{Row, column, value_cmp}
use Rattle.sqlite.specs.Term.{Term, col, eval_all, holds}
use Rattle.sqlite.specs.Query.{Query, output_cmp}
use Rattle.sqlite.specs.Tree.{Trees, IsAscending, IsTable, rowid}
use Rattle.sqlite.specs.Program.{overlay}
use Rattle.sqlite.specs.Command.TheVariants.{Select}
use Rattle.sqlite.specs.Schema.{Schema}
use Rattle.sqlite.specs.State.{State, Shown}
use Rattle.sqlite.specs.Listing.{understood, reads_listing}
use Rattle.sqlite_value.specs.declared.keys.Key.{Key}
use Rattle.sqlite_value.specs.Keys.{ascending}
use Rattle.sqlite_value.specs.declared.keys.Collation.TheVariants.{Binary}
use Rattle.sqlite.proofs.Callers.{IsPlain, command_of, reads_as, one_permutation}
use Rattle.sqlite_sql.proofs.QueryLemmas.{output_cmp_total}
use Rattle.sqlite_keyed.proofs.SortLemmas.{sorted_unique}
use Rattle.sqlite_keyed.proofs.ListLemmas.{map-map, ascending-map, ascending-filter}
use Rattle.up_tables.specs.Rows.{bare}
use Rattle.up_tables.proofs.AnswerLemmas.{over, outputs, IsOrder, answer_is, shows_passing}
use Rattle.up_tables.proofs.CommandLemmas.{IsRowAsked}

-- tests and columns of the rows without their rowids
pub picked_bare : {A : Type 0} (p' p : Row → Bool) (f' f : Row → A) → ((r : Row) → p' r ≡ p (drop 1 r)) → ((r : Row) → f' r ≡ f (drop 1 r)) → (rows : List Row) → map f' (filter p' rows) ≡ map f (filter p (bare rows))
picked_bare p' p f' f same shows [] = refl
picked_bare p' p f' f same shows (r ∷ rows) = rw (same r) (go (p (drop 1 r)) (picked_bare p' p f' f same shows rows))
  where
    go : (b : Bool) → map f' (filter p' rows) ≡ map f (filter p (bare rows)) → map f' (cond b (r ∷ filter p' rows) (filter p' rows)) ≡ map f (cond b (drop 1 r ∷ filter p (bare rows)) (filter p (bare rows)))
    go true h = let s = shows r in cc
    go false h = h

pub bare_filter : (p' p : Row → Bool) → ((r : Row) → p' r ≡ p (drop 1 r)) → (rows : List Row) → bare (filter p' rows) ≡ filter p (bare rows)
bare_filter p' p same [] = refl
bare_filter p' p same (r ∷ rows) = rw (same r) (go (p (drop 1 r)) (bare_filter p' p same rows))
  where
    go : (b : Bool) → bare (filter p' rows) ≡ filter p (bare rows) → bare (cond b (r ∷ filter p' rows) (filter p' rows)) ≡ cond b (drop 1 r ∷ filter p (bare rows)) (filter p (bare rows))
    go true h = ap (λ xs. drop 1 r ∷ xs) h
    go false h = h

-- first the one test, then the other
pub filter_both : {A : Type 0} (p q : A → Bool) (xs : List A) → filter (λ x. p x && q x) xs ≡ filter q (filter p xs)
filter_both p q [] = refl
filter_both p q (x ∷ xs) = go (p x) (q x) refl (filter_both p q xs)
  where
    go : (a b : Bool) → q x ≡ b → filter (λ y. p y && q y) xs ≡ filter q (filter p xs) → cond (a && b) (x ∷ filter (λ y. p y && q y) xs) (filter (λ y. p y && q y) xs) ≡ filter q (cond a (x ∷ filter p xs) (filter p xs))
    go true true e h = rw e (ap (λ zs. x ∷ zs) h)
    go true false e h = rw e h
    go false b e h = h

none_permutation : {A : Type 0} (xs : List A) → IsPermutation [] xs → xs ≡ []
none_permutation [] h = refl
none_permutation (x ∷ xs) h = absurd (omega (arith, length_permutation [] (x ∷ xs) h))

-- at most one has one order
pub few_permutation : {A : Type 0} (xs ys : List A) → IsPermutation xs ys → length ys ≤ 1 → xs ≡ ys
few_permutation [] ys h few = sym (none_permutation ys h)
few_permutation (x ∷ []) ys h few = sym (one_permutation x ys h)
few_permutation (x ∷ y ∷ more) ys h few = absurd (omega (arith, length_permutation (x ∷ y ∷ more) ys h, few))

abbrev pub by_rowid : List (Term × Key)
by_rowid = (col 1 0, ascending Binary) ∷ []

-- the text is this query, on tables alone and not on their listing; and whatever tables there are, it is a query
abbrev pub Asks : Schema → List ℕ → Query → List (List ℕ) → Type 0
Asks schema text query names = (command_of (understood schema text) ≡ Select (record { lets = []; body = query }) names) × (reads_listing schema text ≡ false) × IsPlain (understood schema text) × IsRowAsked text

-- so what it shows is an answer of the query
pub asked : (schema : Schema) (text : List ℕ) (tree : ℕ) (tests shown : List Term) (order : List (Term × Key)) (names : List (List ℕ)) (params : Row) → Asks schema text (over tree tests shown order) names → (old new : State) (rows : List Row)
    → old.now.schema ≡ schema → Shown text params old new rows → IsOrder (outputs tests shown order params (overlay old.now.trees [] tree)) order rows
asked schema text tree tests shown order names params is old new rows has h =
    let read = reads_as text params old new schema has (Select (record { lets = []; body = over tree tests shown order }) names) is.0 is.2 is.1 rows h in
    answer_is (overlay old.now.trees []) tree tests shown order params rows (read.answer Null)

module _ (schema : Schema) (text : List ℕ) (tree : ℕ) (tests shown : List Term) (names : List (List ℕ)) (params : Row) (q : Row → Bool) (part : Row → Row)
    (meets : (r : Row) → list_all (holds (params ∷ r ∷ [])) tests ≡ q (drop 1 r)) (shows : (r : Row) → eval_all shown (params ∷ r ∷ []) ≡ part (drop 1 r))
    (base : (db : Trees) → overlay db [] tree ≡ db tree) where
  -- whichever order is asked for, the answer is the rows that pass, in some order
  pub answers_some : {order : List (Term × Key)} → Asks schema text (over tree tests shown order) names → (old new : State) (rows : List Row) → old.now.schema ≡ schema
      → Shown text params old new rows → IsPermutation (map part (filter q (bare (old.now.trees tree)))) rows
  answers_some {order} is old new rows has h =
      let all = shows_passing tests shown params _ rows (asked schema text tree tests shown order names params is old new rows has h) in
      subst (λ xs. IsPermutation xs rows) (picked_bare _ q _ part meets shows (overlay old.now.trees [] tree) ∙ ap (λ xs. map part (filter q (bare xs))) (base old.now.trees)) all

  -- by rowid, they come in the order of the table
  pub answers_all : Asks schema text (over tree tests shown by_rowid) names → (old new : State) (rows : List Row) → old.now.schema ≡ schema
      → IsTable (old.now.trees tree) → Shown text params old new rows → rows ≡ map part (filter q (bare (old.now.trees tree)))
  answers_all is old new rows has table h =
      let all = overlay old.now.trees [] tree in
      let answer = asked schema text tree tests shown by_rowid names params is old new rows has h in
      let passing = filter (λ r. list_all (holds (params ∷ r ∷ [])) tests) all in
      let order = over 0 [] [] by_rowid in
      let rise : IsAscending (λ a b. output_cmp order a b ≡ Less) (outputs tests shown by_rowid params all) =
      ascending-map (λ a b. output_cmp order a b ≡ Less) (λ r. (column r 0 ∷ [], eval_all shown (params ∷ r ∷ []))) passing
      (risen passing (ascending-filter (λ a b. value_cmp (rowid a) (rowid b) ≡ Less) _ all (subst IsTable (sym (base old.now.trees)) table))) in
      let ordered : answer.ordered ≡ outputs tests shown by_rowid params all = sorted_unique (output_cmp order) (output_cmp_total order) _ answer.ordered rise answer.same answer.sorted in
      answer.shown ∙ ap (map (λ o. o.1)) ordered ∙ map-map (λ o. o.1) _ passing ∙ picked_bare _ q _ part meets shows all ∙ ap (λ xs. map part (filter q (bare xs))) (base old.now.trees)
    where
      all_below : (r : Row) (xs : List Row) → AllByRecursion (λ x. value_cmp (rowid r) (rowid x) ≡ Less) xs
          → AllByRecursion (λ x. output_cmp (over 0 [] [] by_rowid) (column r 0 ∷ [], eval_all shown (params ∷ r ∷ [])) (column x 0 ∷ [], eval_all shown (params ∷ x ∷ [])) ≡ Less) xs
      all_below r [] h = tt
      all_below r (x ∷ xs) h = (rw h.0 refl, all_below r xs h.1)

      risen : (xs : List Row) → IsTable xs → IsAscending (λ a b. output_cmp (over 0 [] [] by_rowid) (column a 0 ∷ [], eval_all shown (params ∷ a ∷ [])) (column b 0 ∷ [], eval_all shown (params ∷ b ∷ [])) ≡ Less) xs
      risen [] h = tt
      risen (r ∷ xs) h = (all_below r xs h.0, risen xs h.1)
