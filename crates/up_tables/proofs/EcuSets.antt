-- The rows of a vehicle's ECUs are set, one after another.
use Rattle.std.proofs.Common.{◌≡◌, ◌≢◌, inl, inr, ℕ, zero, suc, List, [], ◌∷◌, ◌++◌, map, take, drop, length, slice_get, Some, Ok, Result, OnOk, IsTrue, Bool, true, false, if◌then◌else◌, refl, sym, ap, subst, ◌∙◌, bytes_eq, arith, ◌+◌}
use Rattle.std.specs.List.{AllByRecursion}
use Rattle.sqlite.specs.declared.types.Value.TheVariants.{Int, Text}
use Rattle.sqlite.specs.declared.error.Error.{Error}
use Rattle.sqlite.specs.Order.{Row}
use Rattle.sqlite.specs.Effect.{IsDatabase}
use Rattle.sqlite.specs.State.{State, HasCleanDisk, Survives, Executes, ExecutesInside}
use Rattle.sqlite.specs.Tree.{has_rowid}
use Rattle.sqlite_catalog.specs.Listing.{IsSound}
use Rattle.sqlite_rules.specs.Lists.{Has}
use Rattle.sqlite_trees.specs.View.{IsShaped}
use Rattle.sqlite_trees.specs.declared.store.Shape.TheVariants.{Table}
use Rattle.up_tables.specs.Tables.{up_schema, ecu_table}
use Rattle.up_tables.specs.Texts.{update_ecu_text}
use Rattle.up_tables.specs.Rows.{has_text, rows_with, changed_at}
use Rattle.up_tables.specs.Stands.{Lists, IfClean, IsInside, IsOpen, Alters, HasTables}
use Rattle.up_tables.specs.Lines.{EcuLine, ecu_row, IsSameEcu, swapped, set_ecu, AreSameEcus, AreDistinct, IsRecorded, AreRecorded, set_ecus}
use Rattle.up_tables.proofs.Parts.{set_first, IsKept}
use Rattle.up_tables.proofs.EcuRows.{text_is, own_text, same_text, swapped_parts, swapped_shaped}
use Rattle.up_tables.proofs.OthersLemmas.{alters_to, alters_none, has_after, alters_then}
use Rattle.up_tables.proofs.RunLemmas.{IsRun, run_in, then_ok, run_alters}
use Rattle.up_tables.proofs.EcuSteps.{row_in, keyed_id, updates_ecu}

-- ---- one row

sets_ecu : (old new : State) (e was : EcuLine) (rows_of : List ℕ → List Row) (count : ℕ) → old.now.schema ≡ up_schema → IsDatabase old.now → IsKept e → IsRecorded e was rows_of (old.now.trees ecu_table.tree)
    → Executes update_ecu_text (ecu_row e) old new (Ok count)
    → (new.now.schema ≡ up_schema) × IsDatabase new.now × Lists 2 (set_ecu e rows_of) (new.now.trees ecu_table.tree) × AllByRecursion (λ t. t.tree ≢ 11 → new.now.trees t.tree ≡ old.now.trees t.tree) up_schema.tables
sets_ecu old new e was rows_of count has sound kept recorded h =
    let rows = old.now.trees ecu_table.tree in
    let lists = recorded.lists in
    let alike = recorded.same in
    let it = row_in 2 e.vehicle rows (ecu_row was) lists.shaped (subst (λ xs. Has xs (ecu_row was)) (sym (lists.parts e.vehicle)) recorded.there) in
    let done = updates_ecu old new was e it.0 count has sound lists.shaped kept alike it.1 h in
    let is_sound : IsSound up_schema old.now.trees = subst (λ s. IsSound s old.now.trees) has sound in
    let group : has_text 2 e.vehicle (Int it.0 ∷ ecu_row was) ≡ true = ap (λ v. has_text 2 e.vehicle (Int it.0 ∷ Text was.ecu ∷ Text v ∷ [])) alike.vehicle ∙ text_is e.vehicle e.vehicle ∙ own_text e.vehicle in
    let same : (n : List ℕ) → has_text 2 n (Int it.0 ∷ ecu_row e) ≡ has_text 2 n (Int it.0 ∷ ecu_row was) = λ n. ap (λ v. has_text 2 n (Int it.0 ∷ Text e.ecu ∷ Text v ∷ [])) (sym alike.vehicle) in
    let out : (n : List ℕ) → bytes_eq e.vehicle n ≡ false → has_text 2 n (Int it.0 ∷ ecu_row was) ≡ false = λ n other. ap (λ v. has_text 2 n (Int it.0 ∷ Text was.ecu ∷ Text v ∷ [])) alike.vehicle ∙ text_is e.vehicle n ∙ other in
    let keyed : has_text 1 e.ecu (Int it.0 ∷ ecu_row was) ≡ true = ap (λ v. has_text 1 e.ecu (Int it.0 ∷ Text v ∷ [])) alike.ecu ∙ text_is e.ecu e.ecu ∙ own_text e.ecu in
    let one : (x : Row) → Has rows x → has_text 1 e.ecu x ≡ true → has_rowid it.0 x ≡ true = λ x here hit. keyed_id old.now.trees was it.0 x is_sound lists.shaped it.1 here (ap (λ v. has_text 1 v x) alike.ecu ∙ hit) in (
      done.schema_is,
      done.sound,
      record {
        shaped = subst (IsShaped Table) (sym done.rows) (swapped_shaped 2 it.0 e.ecu e.vehicle (ecu_row was) (ecu_row e) rows lists.shaped it.1 group same out keyed one);
        parts = λ n. ap (rows_with 2 n) done.rows ∙ swapped_parts 2 it.0 e.ecu e.vehicle (ecu_row was) (ecu_row e) rows lists.shaped it.1 group same out keyed one rows_of lists.parts n;
      },
      done.others,
    )

-- in a transaction
pub sets_in : (r : Result ℕ Error) (old new : State) (e : EcuLine) → IsKept e → Survives old new (λ _. ⊥) → IfClean IsInside old
    → (HasCleanDisk new → IsTrue old.in_transaction → ExecutesInside 0 update_ecu_text (ecu_row e) old new r)
    → HasCleanDisk new → OnOk r ((rows_of : List ℕ → List Row) (was : EcuLine) → HasTables old → IsRecorded e was rows_of (old.now.trees ecu_table.tree) → Alters ecu_table (Lists 2 (set_ecu e rows_of)) old new)
sets_in r old new e kept survives inside ran clean = then_ok r sets (run_in update_ecu_text (ecu_row e) old new r survives inside ran clean)
  where
    sets : IsRun update_ecu_text (ecu_row e) old new → (rows_of : List ℕ → List Row) (was : EcuLine) → HasTables old → IsRecorded e was rows_of (old.now.trees ecu_table.tree) → Alters ecu_table (Lists 2 (set_ecu e rows_of)) old new
    sets run rows_of was has recorded =
        let here = has run.was_open in
        let done = sets_ecu old new e was rows_of run.count here.schema_is here.sound kept recorded run.went in
        run_alters update_ecu_text (ecu_row e) ecu_table _ old new run done.0 done.1 done.2 done.3

-- ---- one after another

-- rows with other names stay
untouched : (key : List ℕ) (row : Row) (es : List EcuLine) → AllByRecursion (λ f. bytes_eq f.ecu key ≡ false) es → swapped 0 key row (map ecu_row es) ≡ map ecu_row es
untouched key row [] all = refl
untouched key row (e ∷ es) all =
    let first : has_text 0 key (ecu_row e) ≡ false = text_is e.ecu key ∙ all.0 in
    let rest = untouched key row es all.1 in
    rw (first, rest) refl

all_at : {X : Type 0} (P : X → Type 0) (xs : List X) (i : ℕ) (x : X) → AllByRecursion P xs → slice_get xs i ≡ Some x → P x
all_at P [] i x all there = absurd cc
all_at P (y ∷ ys) zero x all there = let same : y ≡ x = cc in subst P same all.0
all_at P (y ∷ ys) (suc i) x all there = all_at P ys i x all.1 there

flipped : (a b : List ℕ) → bytes_eq a b ≡ false → bytes_eq b a ≡ false
flipped a b h = go (bytes_eq b a) refl
  where
    go : (t : Bool) → bytes_eq b a ≡ t → t ≡ false
    go false is = refl
    go true is = absurd (let e = sym (ap (λ x. bytes_eq a x) (same_text b a is) ∙ own_text a) ∙ h in cc)

same_names : (name : List ℕ) (os es : List EcuLine) → AreSameEcus os es → AllByRecursion (λ f. bytes_eq name f.ecu ≡ false) es → AllByRecursion (λ f. bytes_eq f.ecu name ≡ false) os
same_names name [] [] same all = tt
same_names name [] (e ∷ es) same all = tt
same_names name (o ∷ os) [] same all = absurd same
same_names name (o ∷ os) (e ∷ es) same all = (flipped name o.ecu (ap (bytes_eq name) same.0.ecu ∙ all.0), same_names name os es same.1 all.1)

-- the row of the next ECU takes its place
pub next_swapped : (i : ℕ) (os es : List EcuLine) (e : EcuLine) → AreSameEcus os es → AreDistinct es → slice_get es i ≡ Some e
    → swapped 0 e.ecu (ecu_row e) (map ecu_row (take i es ++ drop i os)) ≡ map ecu_row (take (suc i) es ++ drop (suc i) os)
next_swapped i [] [] e same distinct there = absurd (let h = there in cc)
next_swapped i [] (x ∷ es) e same distinct there = absurd same
next_swapped i (o ∷ os) [] e same distinct there = absurd same
next_swapped zero (o ∷ os) (x ∷ es) e same distinct there =
    let is : x ≡ e = cc in
    let first : has_text 0 e.ecu (ecu_row o) ≡ true = ap (λ n. has_text 0 e.ecu (Text n ∷ [])) (same.0.ecu ∙ ap (λ (l : EcuLine). l.ecu) is) ∙ text_is e.ecu e.ecu ∙ own_text e.ecu in
    let rest = untouched e.ecu (ecu_row e) os (same_names e.ecu os es same.1 (subst (λ (l : EcuLine). AllByRecursion (λ f. bytes_eq l.ecu f.ecu ≡ false) es) is distinct.0)) in
    rw (first, rest) (ap (λ l. ecu_row l ∷ map ecu_row os) (sym is))
next_swapped (suc i) (o ∷ os) (x ∷ es) e same distinct there =
    let differs : has_text 0 e.ecu (ecu_row x) ≡ false = text_is x.ecu e.ecu ∙ all_at (λ f. bytes_eq x.ecu f.ecu ≡ false) es i e distinct.0 there in
    let rest = next_swapped i os es e same.1 distinct.1 there in
    rw differs (ap (λ xs. ecu_row x ∷ xs) rest)

old_at : (i : ℕ) (os es : List EcuLine) (e : EcuLine) → AreSameEcus os es → slice_get es i ≡ Some e → (o : EcuLine) × Has (map ecu_row (take i es ++ drop i os)) (ecu_row o) × IsSameEcu o e
old_at i [] [] e same there = absurd (let h = there in cc)
old_at i [] (x ∷ es) e same there = absurd same
old_at i (o ∷ os) [] e same there = absurd same
old_at zero (o ∷ os) (x ∷ es) e same there = let is : x ≡ e = cc in (o, inl refl, subst (IsSameEcu o) is same.0)
old_at (suc i) (o ∷ os) (x ∷ es) e same there = let rest = old_at i os es e same.1 there in (rest.0, inr rest.1, rest.2)

pub lists_same : (at : ℕ) (f g : List ℕ → List Row) (rows : List Row) → ((n : List ℕ) → f n ≡ g n) → Lists at f rows → Lists at g rows
lists_same at f g rows same h = record { shaped = h.shaped; parts = λ n. h.parts n ∙ same n }

first_same : (vehicle : List ℕ) (es olds : List EcuLine) (rows_of : List ℕ → List Row) → rows_of vehicle ≡ map ecu_row olds → (n : List ℕ) → rows_of n ≡ set_first vehicle es olds 0 rows_of n
first_same vehicle es olds rows_of there n = go (bytes_eq vehicle n) refl
  where
    go : (b : Bool) → bytes_eq vehicle n ≡ b → rows_of n ≡ (if b then map ecu_row (take 0 es ++ drop 0 olds) else rows_of n)
    go true h = ap rows_of (sym (same_text vehicle n h)) ∙ there
    go false h = refl

next_same : (vehicle : List ℕ) (es olds : List EcuLine) (e : EcuLine) (i : ℕ) (rows_of : List ℕ → List Row) → e.vehicle ≡ vehicle → AreSameEcus olds es → AreDistinct es → slice_get es i ≡ Some e
    → (n : List ℕ) → set_ecu e (set_first vehicle es olds i rows_of) n ≡ set_first vehicle es olds (suc i) rows_of n
next_same vehicle es olds e i rows_of own same distinct there n = ap (λ v. changed_at v (swapped 0 e.ecu (ecu_row e)) (set_first vehicle es olds i rows_of) n) own ∙ go (bytes_eq vehicle n)
  where
    go : (b : Bool) → (if b then swapped 0 e.ecu (ecu_row e) (if b then map ecu_row (take i es ++ drop i olds) else rows_of n) else (if b then map ecu_row (take i es ++ drop i olds) else rows_of n))
        ≡ (if b then map ecu_row (take (suc i) es ++ drop (suc i) olds) else rows_of n)
    go true = next_swapped i olds es e same distinct there
    go false = refl

own_rows : (vehicle : List ℕ) (f : List Row → List Row) (rows_of : List ℕ → List Row) → changed_at vehicle f rows_of vehicle ≡ f (rows_of vehicle)
own_rows vehicle f rows_of = rw (own_text vehicle) refl

-- what a loop over the ECUs has done when it comes to one of them
abbrev pub SetSoFar : List ℕ → List EcuLine → ℕ → State → State → Type 0
SetSoFar vehicle es i old new = (rows_of : List ℕ → List Row) (olds : List EcuLine) → HasTables old → AreRecorded vehicle es olds rows_of (old.now.trees ecu_table.tree)
    → Alters ecu_table (Lists 2 (set_first vehicle es olds i rows_of)) old new

pub none_set : (vehicle : List ℕ) (es : List EcuLine) (s : State) → IsInside s → IsOpen s → SetSoFar vehicle es 0 s s
none_set vehicle es s inside is_open rows_of olds has recorded =
    alters_none ecu_table _ s inside is_open has (lists_same 2 rows_of (set_first vehicle es olds 0 rows_of) (s.now.trees ecu_table.tree) (first_same vehicle es olds rows_of recorded.there) recorded.lists)

pub next_set : (vehicle : List ℕ) (es : List EcuLine) (i : ℕ) (e : EcuLine) (old mid new : State) → e.vehicle ≡ vehicle → slice_get es i ≡ Some e → SetSoFar vehicle es i old mid
    → ((rows_of : List ℕ → List Row) (was : EcuLine) → HasTables mid → IsRecorded e was rows_of (mid.now.trees ecu_table.tree) → Alters ecu_table (Lists 2 (set_ecu e rows_of)) mid new)
    → SetSoFar vehicle es (suc i) old new
next_set vehicle es i e old mid new own there so_far sets rows_of olds has recorded =
    let before = so_far rows_of olds has recorded in
    let was = old_at i olds es e recorded.same there in
    let here : Has (set_first vehicle es olds i rows_of e.vehicle) (ecu_row was.0) =
    subst (λ v. Has (set_first vehicle es olds i rows_of v) (ecu_row was.0)) (sym own) (subst (λ xs. Has xs (ecu_row was.0)) (sym (own_rows vehicle (λ _. map ecu_row (take i es ++ drop i olds)) rows_of)) was.1) in
    let after = sets (set_first vehicle es olds i rows_of) was.0 (has_after ecu_table _ old mid before) (record { lists = before.rows; there = here; same = was.2 }) in
    alters_to ecu_table _ _ old new (lists_same 2 (set_ecu e (set_first vehicle es olds i rows_of)) (set_first vehicle es olds (suc i) rows_of) (new.now.trees ecu_table.tree) (next_same vehicle es olds e i rows_of own recorded.same recorded.distinct there))
    (alters_then ecu_table _ _ old mid new before after)

all_set : (os es : List EcuLine) → AreSameEcus os es → take (length es) es ++ drop (length es) os ≡ es
all_set [] [] same = refl
all_set [] (e ∷ es) same = absurd same
all_set (o ∷ os) [] same = absurd same
all_set (o ∷ os) (e ∷ es) same = ap (λ xs. e ∷ xs) (all_set os es same.1)

pub set_all : (vehicle : List ℕ) (es : List EcuLine) (i : ℕ) (old new : State) → i ≡ length es → SetSoFar vehicle es i old new
    → (rows_of : List ℕ → List Row) (olds : List EcuLine) → HasTables old → AreRecorded vehicle es olds rows_of (old.now.trees ecu_table.tree) → Alters ecu_table (Lists 2 (set_ecus vehicle es rows_of)) old new
set_all vehicle es i old new end so_far rows_of olds has recorded =
    let whole : take i es ++ drop i olds ≡ es = ap (λ k. take k es ++ drop k olds) end ∙ all_set olds es recorded.same in
    alters_to ecu_table _ _ old new (lists_same 2 (set_first vehicle es olds i rows_of) (set_ecus vehicle es rows_of) (new.now.trees ecu_table.tree) (λ n. ap (λ xs. if bytes_eq vehicle n then map ecu_row xs else rows_of n) whole))
    (so_far rows_of olds has recorded)

pub counted : (vehicle : List ℕ) (es : List EcuLine) (i : ℕ) (old new : State) → SetSoFar vehicle es (suc i) old new → SetSoFar vehicle es (i + 1) old new
counted vehicle es i old new h = subst (λ n. SetSoFar vehicle es n old new) same h
  where
    same : suc i ≡ i + 1
    same = omega arith
