-- The rows of a vehicle's ECUs are put in, one after another.
use Rattle.std.proofs.Common.{◌≡◌, ℕ, zero, suc, ◌+◌, List, [], ◌∷◌, ◌++◌, map, take, length, slice_get, Some, Result, OnOk, IsTrue, Bool, true, false, if◌then◌else◌, refl, sym, ap, subst, ◌∙◌, append-nil, append_assoc, bytes_eq, arith}
use Rattle.std.proofs.lemmas.List.{map-append}
use Rattle.sqlite.specs.declared.types.Value.TheVariants.{Null}
use Rattle.sqlite.specs.declared.error.Error.{Error}
use Rattle.sqlite.specs.Order.{Row}
use Rattle.sqlite.specs.Source.TheVariants.{Values}
use Rattle.sqlite.specs.Command.TheVariants.{Insert}
use Rattle.sqlite.specs.Listing.{understood}
use Rattle.sqlite.specs.State.{State, HasCleanDisk, Survives, ExecutesInside}
use Rattle.sqlite.proofs.Callers.{IsPlain, command_of}
use Rattle.sqlite_tied.specs.Compute.{everything}
use Rattle.up_tables.specs.Tables.{up_schema, ecu_table}
use Rattle.up_tables.specs.Texts.{insert_ecu_text}
use Rattle.up_tables.specs.Rows.{changed_at, with_row}
use Rattle.up_tables.specs.Lines.{EcuLine, ecu_row}
use Rattle.up_tables.proofs.Parts.{IsKept}
use Rattle.up_tables.specs.Stands.{Lists, IfClean, IsInside, IsOpen, Alters, HasTables}
use Rattle.up_tables.proofs.ByNameLemmas.{listed_in}
use Rattle.up_tables.proofs.Casts.{cast_null}
use Rattle.up_tables.proofs.EcuRows.{text_is}
use Rattle.up_tables.proofs.EcuSets.{lists_same}
use Rattle.up_tables.proofs.EcuUpdate.{terms, casts}
use Rattle.up_tables.proofs.InsertLemmas.{inserts_in}
use Rattle.up_tables.proofs.RefusalLemmas.{Writes}
use Rattle.up_tables.proofs.OthersLemmas.{alters_to, alters_none, has_after, alters_then}

insert_is : (command_of (understood up_schema insert_ecu_text) ≡ Insert 6 (Values terms 11)) × IsPlain (understood up_schema insert_ecu_text)
unfolding understood everything
insert_is = (refl, (refl, refl))

pub insert_ecu_writes : (e : EcuLine) → Writes insert_ecu_text (ecu_row e) (Insert 6 (Values terms 11))
unfolding understood everything
insert_ecu_writes e = record { row = refl; is = insert_is.0; plain = insert_is.1; writes = refl; whole = refl; count = refl }

pub ecu_inserts : (r : Result ℕ Error) (old new : State) (e : EcuLine) → IsKept e → Survives old new (λ _. ⊥) → IfClean IsInside old
    → (HasCleanDisk new → IsTrue old.in_transaction → ExecutesInside 0 insert_ecu_text (ecu_row e) old new r)
    → HasCleanDisk new → OnOk r ((rows_of : List ℕ → List Row) → HasTables old → Lists 2 rows_of (old.now.trees ecu_table.tree) → Alters ecu_table (Lists 2 (with_row e.vehicle (ecu_row e) rows_of)) old new)
ecu_inserts r old new e kept survives inside ran clean =
    listed_in ecu_table 2 e.vehicle (ecu_row e) old new r (λ x n. text_is e.vehicle n)
    (inserts_in insert_ecu_text 6 ecu_table terms 11 (ecu_row e) (ecu_row e) insert_is.0 insert_is.1 refl refl (append-nil _) refl (casts Null e kept cast_null) r old new survives inside ran clean)

-- ---- one after another

-- what a loop over the ECUs has put in when it comes to one of them
abbrev pub PutSoFar : List ℕ → List EcuLine → ℕ → State → State → Type 0
PutSoFar vehicle es i old new = (rows_of : List ℕ → List Row) → HasTables old → Lists 2 rows_of (old.now.trees ecu_table.tree)
    → Alters ecu_table (Lists 2 (changed_at vehicle (λ were. were ++ map ecu_row (take i es)) rows_of)) old new

none_more : (vehicle : List ℕ) (es : List EcuLine) (rows_of : List ℕ → List Row) (n : List ℕ) → rows_of n ≡ changed_at vehicle (λ were. were ++ map ecu_row (take 0 es)) rows_of n
none_more vehicle es rows_of n = go (bytes_eq vehicle n)
  where
    go : (b : Bool) → rows_of n ≡ (if b then rows_of n ++ [] else rows_of n)
    go true = sym (append-nil _)
    go false = refl

pub take_next : {X : Type 0} (i : ℕ) (xs : List X) (x : X) → slice_get xs i ≡ Some x → take i xs ++ x ∷ [] ≡ take (suc i) xs
take_next i [] x there = absurd cc
take_next zero (y ∷ xs) x there = let same : y ≡ x = cc in ap (λ z. z ∷ []) (sym same)
take_next (suc i) (y ∷ xs) x there = ap (λ zs. y ∷ zs) (take_next i xs x there)

one_more : (vehicle : List ℕ) (es : List EcuLine) (i : ℕ) (e : EcuLine) (rows_of : List ℕ → List Row) → slice_get es i ≡ Some e → (n : List ℕ)
    → with_row vehicle (ecu_row e) (changed_at vehicle (λ were. were ++ map ecu_row (take i es)) rows_of) n ≡ changed_at vehicle (λ were. were ++ map ecu_row (take (suc i) es)) rows_of n
one_more vehicle es i e rows_of there n = go (bytes_eq vehicle n)
  where
    more : (map ecu_row (take i es)) ++ ecu_row e ∷ [] ≡ map ecu_row (take (suc i) es)
    more = sym (map-append ecu_row (take i es) (e ∷ [])) ∙ ap (map ecu_row) (take_next i es e there)

    go : (b : Bool) → (if b then (if b then rows_of n ++ map ecu_row (take i es) else rows_of n) ++ ecu_row e ∷ [] else (if b then rows_of n ++ map ecu_row (take i es) else rows_of n))
        ≡ (if b then rows_of n ++ map ecu_row (take (suc i) es) else rows_of n)
    go true = append_assoc (rows_of n) (map ecu_row (take i es)) (ecu_row e ∷ []) ∙ ap (λ xs. rows_of n ++ xs) more
    go false = refl

pub none_put : (vehicle : List ℕ) (es : List EcuLine) (s : State) → IsInside s → IsOpen s → PutSoFar vehicle es 0 s s
none_put vehicle es s inside is_open rows_of has lists = alters_none ecu_table _ s inside is_open has (lists_same 2 rows_of _ (s.now.trees ecu_table.tree) (none_more vehicle es rows_of) lists)

pub next_put : (vehicle : List ℕ) (es : List EcuLine) (i : ℕ) (e : EcuLine) (old mid new : State) → slice_get es i ≡ Some e → PutSoFar vehicle es i old mid
    → ((rows_of : List ℕ → List Row) → HasTables mid → Lists 2 rows_of (mid.now.trees ecu_table.tree) → Alters ecu_table (Lists 2 (with_row vehicle (ecu_row e) rows_of)) mid new)
    → PutSoFar vehicle es (i + 1) old new
next_put vehicle es i e old mid new there so_far puts rows_of has lists =
    let before = so_far rows_of has lists in
    let after = puts _ (has_after ecu_table _ old mid before) before.rows in
    let same : suc i ≡ i + 1 = omega arith in
    alters_to ecu_table _ _ old new
    (λ rows. subst (λ k. Lists 2 (changed_at vehicle (λ were. were ++ map ecu_row (take k es)) rows_of) (new.now.trees ecu_table.tree)) same (lists_same 2 _ _ (new.now.trees ecu_table.tree) (one_more vehicle es i e rows_of there) rows))
    (alters_then ecu_table _ _ old mid new before after)

pub take_whole : {X : Type 0} (xs : List X) → take (length xs) xs ≡ xs
take_whole [] = refl
take_whole (x ∷ xs) = ap (λ ys. x ∷ ys) (take_whole xs)

pub all_put : (vehicle : List ℕ) (es : List EcuLine) (i : ℕ) (old new : State) → i ≡ length es → PutSoFar vehicle es i old new
    → (rows_of : List ℕ → List Row) → HasTables old → Lists 2 rows_of (old.now.trees ecu_table.tree) → Alters ecu_table (Lists 2 (changed_at vehicle (λ were. were ++ map ecu_row es) rows_of)) old new
all_put vehicle es i old new end so_far rows_of has lists =
    let whole : take i es ≡ es = ap (λ k. take k es) end ∙ take_whole es in
    subst (λ xs. Alters ecu_table (Lists 2 (changed_at vehicle (λ were. were ++ map ecu_row xs) rows_of)) old new) whole (so_far rows_of has lists)
