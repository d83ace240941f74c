-- Why a read tells `Store`: each of its statements does so only where the disk counted a fault, and what is read into values tells `Memory`
-- alone.
use Rattle.std.proofs.Common.{◌≡◌, List, [], ◌∷◌, Bool, true, false, cond, filter, Ok, Err, Result, IfErr, sym, ◌∙◌, arith}
use Rattle.up_store.proofs.Common.{⊤, AllByRecursion, Connected, HasCleanDisk, StateRows, IsWithin, Reads, Steps, BlamesDisk, up_schema, StoreFault, Memory, Store, BlamesWithin, ListsRows}
use Rattle.up_store.proofs.ColumnFound.{within_read}

-- what holds of all rows holds of those that are shown
pub all_filtered : {X : Type 0} (P : X → Type 0) (test : X → Bool) (rows : List X) → AllByRecursion P rows → AllByRecursion P (filter test rows)
all_filtered P test [] all = tt
all_filtered {X} P test (x ∷ rows) all = by_test (test x) (all_filtered P test rows all.1)
  where
    by_test : (b : Bool) → AllByRecursion P (filter test rows) → AllByRecursion P (cond b (x ∷ filter test rows) (filter test rows))
    by_test true rest = (all.0, rest)
    by_test false rest = rest

module _ (fits : StateRows → Type 0) where
  -- a fault of a statement, whose table has the rows that it shows
  pub by_statement : (P : Type 0) (old new : Connected) (r : Result ⊤ StoreFault) → ((rows : StateRows) → ListsRows rows old.now.trees → fits rows → P) → BlamesDisk (λ s. P) old new r → BlamesWithin fits old new r
  by_statement P old new (Ok x) holds blame clean = tt
  by_statement P old new (Err f) holds blame clean = λ is is_open unlimited rows within fit.
      let here = within.here is_open in
      blame clean is (record { is_open = is_open; here = record { schema_is = here.schema_is; sound = here.sound; rows = tt }; unlimited = unlimited }) (holds rows here.rows fit)

  -- a fault of a step that holds of other rows
  pub fits_blames : (next : StateRows → Type 0) (old new : Connected) (r : Result ⊤ StoreFault) → ((rows : StateRows) → ListsRows rows old.now.trees → fits rows → next rows)
      → BlamesWithin next old new r → BlamesWithin fits old new r
  fits_blames next old new (Ok x) fit blame clean = tt
  fits_blames next old new (Err f) fit blame clean = λ is is_open unlimited rows within fits_before. blame clean is is_open unlimited rows within (fit rows (within.here is_open).rows fits_before)

module _ {A : Type 0} (fits : StateRows → Type 0) where
  -- a step after one that went through
  pub then_blames : (next : StateRows → Type 0) (old mid new : Connected) (r : Result A StoreFault) → Steps old mid → Steps mid new
      → (HasCleanDisk mid → Reads old mid) → (HasCleanDisk mid → (rows : StateRows) → IsWithin up_schema (ListsRows rows) old → fits rows → next rows)
      → BlamesWithin next mid new r → BlamesWithin fits old new r
  then_blames next old mid new (Ok x) first second reads fit blame clean = tt
  then_blames next old mid new (Err f) first second reads fit blame clean = λ is is_open unlimited rows within fits_before.
      let then : HasCleanDisk mid = omega (arith, second.survives.clean) in
      let read = reads then in
      let fault = blame clean is read.is_open (first.survives.limit ∙ unlimited) rows (within_read rows old mid read within) (fit then rows within fits_before) in
      omega (arith, first.survives.counts, fault)

  -- what is shown, read into values
  pub memory_blames : (old new : Connected) (r : Result A StoreFault)
      → (HasCleanDisk new → (rows : StateRows) → IsWithin up_schema (ListsRows rows) old → fits rows → IfErr r (λ fault. fault ≡ Memory)) → BlamesWithin fits old new r
  memory_blames old new (Ok x) memory clean = tt
  memory_blames old new (Err f) memory clean = λ is is_open unlimited rows within fit. absurd (let no : Memory ≡ Store = sym (memory clean rows within fit) ∙ is in cc)
