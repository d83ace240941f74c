-- The vehicle of an ECU, and of one that was replaced: why a read of it tells `Store`.
use Rattle.std.proofs.Common.{◌≡◌, ◌≤◌, inl, inr, ℕ, List, [], ◌∷◌, filter, drop, length, true, Some, Result, slice_get, get_or, refl, sym, ap, subst, ◌∙◌, codes, arith, map, Bool, false, cond, Option, None, option_map}
use Rattle.std.proofs.lemmas.List.{length-map}
use Rattle.std.specs.List.{AllByRecursion, list_any}
use Rattle.std.specs.Ordering.{is_eq}
use Rattle.sqlite.specs.declared.types.Value.TheVariants.{Text}
use Rattle.sqlite.specs.Order.{Row, value_cmp, column}
use Rattle.sqlite.specs.Listing.{understood}
use Rattle.sqlite.specs.Table.{Table}
use Rattle.sqlite.specs.Term.{col}
use Rattle.sqlite.specs.Tree.{Trees}
use Rattle.sqlite_catalog.specs.Listing.{IsSound}
use Rattle.sqlite_rules.specs.Lists.{Has}
use Rattle.sqlite_rules.proofs.ListLemmas.{all_has, all_from, has_filtered, has_kept}
use Rattle.sqlite_rules.proofs.ProbeLemmas.{mapped_has, has_mapped}
use Rattle.sqlite_tied.specs.Compute.{everything}
use Rattle.sqlite_value.specs.Keys.{plain}
use Rattle.up_tables.specs.Texts.{find_owner_text, find_retired_text}
use Rattle.up_tables.specs.Tables.{up_schema, ecu_table, retired_table}
use Rattle.up_tables.specs.Kinds.{ShowsOne, ShowsWords, HasOwner}
use Rattle.up_tables.specs.Rows.{bare, has_text, columns_at}
use Rattle.up_tables.specs.Stands.{Lists}
use Rattle.up_tables.specs.Statements.{HoldsBy, Finds}
use Rattle.up_tables.specs.declared.values.StoreFault.{StoreFault}
use Rattle.up_tables.proofs.AnswerLemmas.{over, equals_text}
use Rattle.up_tables.proofs.BlameLemmas.{Takes, blames, shown_one}
use Rattle.up_tables.proofs.EcuRows.{column_after, text_is, own_text}
use Rattle.up_tables.proofs.EcuUpdate.{equals}
use Rattle.up_tables.proofs.PlaceLemmas.{any_has}
use Rattle.up_tables.proofs.ReadLemmas.{bare_filter, Asks, answers_some}
use Rattle.up_tables.proofs.TypedLemmas.{HasTextAt, first_texts, second_texts, one_at_most}
use Rattle.std.specs.Option.{option_to_list}
use Rattle.std.proofs.Math.Bool.{and-true, or-false}
use Rattle.sqlite.specs.declared.types.Value.{Value}
use Rattle.sqlite.specs.Held.{Held, state}
use Rattle.sqlite_trees.specs.declared.store.Store.{Ghosts}
use Rattle.std.specs.Borrow.{MutBor}
use Rattle.up_tables.specs.Ecus.{owns}
use Rattle.up_tables.proofs.StateLemmas.{one_in, ok_then}
use Rattle.up_tables.specs.Stored.{IsAsked, IsQueried}
use Rattle.up_tables.proofs.StoredLemmas.{queried}
use Rattle.sqlite.specs.Program.{overlay}

abbrev vehicle_part : Row → Row
vehicle_part = columns_at (1 ∷ [])

-- of a table that is keyed by its ECUs, with their vehicles
module _ (table : Table) (listed : Has up_schema.tables table) (unique : slice_get table.uniques 0 ≡ Some (1 ∷ [])) (ordered : get_or table.orders 0 plain ≡ plain)
    (named : (db : Trees) → IsSound up_schema db → AllByRecursion (HasTextAt 1) (db table.tree)) (owned : (db : Trees) → IsSound up_schema db → AllByRecursion (HasTextAt 2) (db table.tree)) where
  its_rows : (ecu : List ℕ) (rows : List Row) → bare (filter (has_text 1 ecu) rows) ≡ filter (has_text 0 ecu) (bare rows)
  its_rows ecu rows = bare_filter (has_text 1 ecu) (has_text 0 ecu) (λ x. ap (λ v. is_eq (value_cmp v (Text ecu))) (column_after x 0)) rows

  -- the ECU has one row at most, and its vehicle a name in UTF-8
  one_owner : (db : Trees) (ecu : List ℕ) (rows_of : List ℕ → List Row) → IsSound up_schema db → Lists 2 rows_of (db table.tree) → HasOwner ecu rows_of
      → ShowsOne (λ r. ShowsWords (vehicle_part r)) (filter (has_text 0 ecu) (bare (db table.tree)))
  one_owner db ecu rows_of sound lists has = subst (ShowsOne (λ r. ShowsWords (vehicle_part r))) (its_rows ecu rows) (few, all_from (λ r. ShowsWords (vehicle_part r)) (bare mine) each)
    where
      rows : List Row
      rows = db table.tree

      mine : List Row
      mine = filter (has_text 1 ecu) rows

      few : length (bare mine) ≤ 1
      few = omega (arith, length-map mine (drop 1), one_at_most table listed unique ordered db sound lists.shaped (named db sound) ecu)

      of_row : (r : Row) → Has rows r → has_text 1 ecu r ≡ true → ShowsWords (vehicle_part (drop 1 r))
      of_row r there hit =
          let text = all_has (HasTextAt 2) rows r (owned db sound) there in
          let vehicle = text.0 in
          let its : has_text 2 vehicle r ≡ true = ap (λ v. is_eq (value_cmp v (Text vehicle))) text.1 ∙ text_is vehicle vehicle ∙ own_text vehicle in
          let among : Has (rows_of vehicle) (drop 1 r) = subst (λ xs. Has xs (drop 1 r)) (lists.parts vehicle) (mapped_has (drop 1) (filter (has_text 2 vehicle) rows) r (has_kept (has_text 2 vehicle) rows r there its)) in
          let same : has_text 0 ecu (drop 1 r) ≡ true = ap (λ v. is_eq (value_cmp v (Text ecu))) (sym (column_after r 0)) ∙ hit in
          (vehicle, sym (column_after r 1) ∙ text.1, has vehicle (any_has (has_text 0 ecu) (rows_of vehicle) (drop 1 r) among same))

      each : (x : Row) → Has (bare mine) x → ShowsWords (vehicle_part x)
      each x there =
          let r = has_mapped (drop 1) mine x there in
          let it = has_filtered (has_text 1 ecu) rows r.0 r.1 in
          subst (λ y. ShowsWords (vehicle_part y)) (sym r.2) (of_row r.0 it.0 it.1)

-- ---- the vehicle

any_swap : {A : Type 0} (p q : A → Bool) (xs : List A) → list_any p (filter q xs) ≡ list_any q (filter p xs)
any_swap p q [] = refl
any_swap p q (x ∷ xs) = go (p x) (q x) refl refl (any_swap p q xs)
  where
    go : (a b : Bool) → p x ≡ a → q x ≡ b → list_any p (filter q xs) ≡ list_any q (filter p xs) → list_any p (cond b (x ∷ filter q xs) (filter q xs)) ≡ list_any q (cond a (x ∷ filter p xs) (filter p xs))
    go true true e f h = rw (e, f) refl
    go true false e f h = rw f h
    go false true e f h = rw e h
    go false false e f h = h

-- the rows of the ECU are none, or one, of the vehicle that is shown
whose : {T : Type 0} (bytes_of : T → List ℕ) (rows : List Row) (found : Option T) (name : List ℕ) → map vehicle_part rows ≡ map (λ s. Text (bytes_of s) ∷ []) (option_to_list found)
    → list_any (has_text 1 name) rows ≡ owns (option_map bytes_of found) name
whose bytes_of [] None name is = refl
whose bytes_of [] (Some s) name is = absurd (let e = is in cc)
whose bytes_of (r ∷ rows) None name is = absurd (let e = is in cc)
whose bytes_of (r ∷ []) (Some s) name is =
    let first : column r 1 ≡ Text (bytes_of s) = head_of is in
    rw first (or-false _ ∙ text_is (bytes_of s) name)
  where
    head_of : {a b : Value} → ◌≡◌ {A = List Row} ((a ∷ []) ∷ []) ((b ∷ []) ∷ []) → a ≡ b
    head_of p = cc
whose bytes_of (r ∷ x ∷ rows) (Some s) name is = absurd (let e = is in cc)

-- the text asks a table that is keyed by its ECUs for the vehicle of one
pub record IsOwnerOf (text ecu : List ℕ) (table : Table) : Type 0 where
  pub asks : Asks up_schema text (over table.tree (equals 1 0 ∷ []) (col 1 2 ∷ []) []) (codes "vehicle" ∷ [])
  pub takes : Takes text (Text ecu ∷ []) (over table.tree (equals 1 0 ∷ []) (col 1 2 ∷ []) [])
  pub base : (db : Trees) → overlay db [] table.tree ≡ db table.tree
  pub listed : Has up_schema.tables table
  pub unique : slice_get table.uniques 0 ≡ Some (1 ∷ [])
  pub ordered : get_or table.orders 0 plain ≡ plain
  pub named : (db : Trees) → IsSound up_schema db → AllByRecursion (HasTextAt 1) (db table.tree)
  pub owned : (db : Trees) → IsSound up_schema db → AllByRecursion (HasTextAt 2) (db table.tree)

pub owner_queried : {S T : Type 0} (g : Ghosts S) (bytes_of : T → List ℕ) (text ecu : List ℕ) (table : Table) (old new : MutBor (Held S)) (r : Result (Option T) StoreFault) → IsOwnerOf text ecu table
    → IsAsked g text (Text ecu ∷ []) (λ rows found. map (columns_at (0 ∷ [])) rows ≡ map (λ s. Text (bytes_of s) ∷ []) (option_to_list found)) (ShowsOne ShowsWords) old new r
    → IsQueried g text (Text ecu ∷ []) (λ rows found. map (columns_at (0 ∷ [])) rows ≡ map (λ s. Text (bytes_of s) ∷ []) (option_to_list found))
    (Finds table 2 (λ rows_of found. (vehicle : List ℕ) → list_any (has_text 0 ecu) (rows_of vehicle) ≡ owns (option_map bytes_of found) vehicle)) (HoldsBy table 2 (HasOwner ecu)) old new r
owner_queried g bytes_of text ecu table old new r is c =
    let before = state g old.now in
    let after = state g new.now in
    let db = before.now.trees in
    let all = bare (db table.tree) in
    let answers = answers_some up_schema text table.tree (equals 1 0 ∷ []) (col 1 2 ∷ []) (codes "vehicle" ∷ []) (Text ecu ∷ []) (has_text 0 ecu) vehicle_part
    (λ x. and-true _ ∙ equals_text (column x 1) ecu ∙ ap (λ v. is_eq (value_cmp v (Text ecu))) (column_after x 0)) (λ x. rw (column_after x 1) refl) is.base is.asks before after in
    queried g text (Text ecu ∷ []) _ (ShowsOne ShowsWords) _ _ old new r is.asks.3
    (λ asks clean. ok_then _ _ r (λ found shows rows_of has lists vehicle.
    ap (list_any (has_text 0 ecu)) (sym (lists.parts vehicle) ∙ bare_filter (has_text 2 vehicle) (has_text 1 vehicle) (λ x. ap (λ v. is_eq (value_cmp v (Text vehicle))) (column_after x 1)) (db table.tree))
    ∙ any_swap (has_text 0 ecu) (has_text 1 vehicle) all ∙ whose bytes_of (filter (has_text 0 ecu) all) found vehicle (shows has))
    (one_in (λ rows. rows) (columns_at (0 ∷ [])) vehicle_part (λ x. refl) (λ s. Text (bytes_of s) ∷ []) text (Text ecu ∷ []) before after (filter (has_text 0 ecu) all) c.answer r answers c.reads (c.ok clean)))
    (λ c. blames (λ rows. rows) text (Text ecu ∷ []) table.tree (equals 1 0 ∷ []) (col 1 2 ∷ []) [] (codes "vehicle" ∷ []) is.asks is.takes c.answer r before after (HoldsBy table 2 (HasOwner ecu)) (ShowsOne ShowsWords)
    (λ ready holds rows h.
    let sound : IsSound up_schema db = subst (λ s. IsSound s db) ready.here.schema_is ready.here.sound in
    shown_one vehicle_part (λ x. ShowsWords (vehicle_part x)) ShowsWords (λ x k. k) _ rows (answers rows ready.here.schema_is h) (one_owner table is.listed is.unique is.ordered is.named is.owned db ecu holds.0 sound holds.1 holds.2))
    c.fault c.damaged c.ok c.err) c

ecu_listed : Has up_schema.tables ecu_table
ecu_listed = inr (inr (inr (inr (inr (inr (inl refl))))))

retired_listed : Has up_schema.tables retired_table
retired_listed = inr (inr (inr (inr (inr (inr (inr (inr (inl refl))))))))

pub ecu_owned : (ecu : List ℕ) → IsOwnerOf find_owner_text ecu ecu_table
unfolding understood everything
ecu_owned ecu = record {
  asks = (refl, refl, (refl, refl), refl);
  takes = (refl, refl, λ trees h. absurd (let e = h in cc));
  base = λ db. refl;
  listed = ecu_listed;
  unique = refl;
  ordered = refl;
  named = λ trees is. first_texts ecu_table ecu_listed refl trees is (codes "ecu") _ refl;
  owned = λ trees is. second_texts ecu_table ecu_listed refl trees is _ (codes "vehicle") _ refl;
}

-- of one that was replaced
pub retired_owned : (ecu : List ℕ) → IsOwnerOf find_retired_text ecu retired_table
unfolding understood everything
retired_owned ecu = record {
  asks = (refl, refl, (refl, refl), refl);
  takes = (refl, refl, λ trees h. absurd (let e = h in cc));
  base = λ db. refl;
  listed = retired_listed;
  unique = refl;
  ordered = refl;
  named = λ trees is. first_texts retired_table retired_listed refl trees is (codes "ecu") _ refl;
  owned = λ trees is. second_texts retired_table retired_listed refl trees is _ (codes "vehicle") _ refl;
}
