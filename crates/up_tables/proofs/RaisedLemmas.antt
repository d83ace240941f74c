-- Tables of an older version, from the start of the transaction that raises them to its end.
use Rattle.std.proofs.Common.{◌≡◌, ℕ, pos, List, [], Option, None, Some, Ok, Err, Result, IfOk, IfSome, IsTrue, true, false, refl, sym, ap, subst, ◌∙◌, arith}
use Rattle.sqlite.specs.declared.error.Error.{Error}
use Rattle.sqlite.specs.declared.types.Value.TheVariants.{Int}
use Rattle.sqlite.specs.Held.{Held, state}
use Rattle.sqlite.specs.Order.{Row, column}
use Rattle.sqlite.specs.State.{State, HasCleanDisk, Survives, Shows as Sees, Shown}
use Rattle.sqlite.specs.Tree.{Trees}
use Rattle.sqlite.proofs.StateLemmas.{survives_then}
use Rattle.sqlite.proofs.Callers.{survives_begin}
use Rattle.sqlite_trees.specs.declared.store.Store.{Ghosts}
use Rattle.up_tables.specs.declared.open.SchemaVersion.{SchemaVersion}
use Rattle.up_tables.specs.declared.open.SchemaVersion.TheVariants.{One, Two, Three, Four}
use Rattle.up_tables.specs.Listed.{TableRows, ListsTables}
use Rattle.up_tables.specs.Making.{MakesTrees, RaisesBy, RaisesTo, raising}
use Rattle.up_tables.specs.Ours.{find_meta_text, IsOurs, IsOlder, ListsUs, NamesVersion, Raised, RaisedFrom}
use Rattle.up_tables.specs.Stands.{IfClean, IsWith, IsWithin, GoesOn, Steps, Stands, IsAsCommitted}
use Rattle.up_tables.specs.Tables.{up_schema}
use Rattle.up_tables.specs.Tried.{Makes}
use Rattle.up_tables.specs.Versions.{number_of, schema_of, ListsAs, StandsAs}
use Rattle.up_tables.proofs.StepLemmas.{shown_open}
use Rattle.up_tables.proofs.OursLemmas.{before_begun}
use Rattle.up_tables.proofs.WhoseLemmas.{answered}
use Rattle.up_tables.proofs.TransactionLemmas.{as_held, stands_after, stands_kept}

-- ---- what `meta` tells

pub lists_us : (version : SchemaVersion) (rows : TableRows) (s : State) → (IsTrue s.is_open → IsWith (schema_of version) (ListsAs version rows) s.now) → ListsUs version s
lists_us One rows s h = record { tables = λ is_open. let it = h is_open in record { schema_is = it.schema_is; sound = it.sound; rows = tt }; root = rows.root; image_version = rows.image_version; stamp = rows.stamp; meta = λ is_open. (h is_open).rows.0.meta }
lists_us Two rows s h = record { tables = λ is_open. let it = h is_open in record { schema_is = it.schema_is; sound = it.sound; rows = tt }; root = rows.root; image_version = rows.image_version; stamp = rows.stamp; meta = λ is_open. (h is_open).rows.0.meta }
lists_us Three rows s h = record { tables = λ is_open. let it = h is_open in record { schema_is = it.schema_is; sound = it.sound; rows = tt }; root = rows.root; image_version = rows.image_version; stamp = rows.stamp; meta = λ is_open. (h is_open).rows.0.meta }
lists_us Four rows s h = record { tables = λ is_open. let it = h is_open in record { schema_is = it.schema_is; sound = it.sound; rows = tt }; root = rows.root; image_version = rows.image_version; stamp = rows.stamp; meta = λ is_open. (h is_open).rows.meta }

number_in : {a b : ℕ} → Int (pos a) ≡ Int (pos b) → a ≡ b
number_in p = cc

numbered : (v w : SchemaVersion) → number_of v ≡ number_of w → v ≡ w
numbered One One h = refl
numbered Two Two h = refl
numbered Three Three h = refl
numbered Four Four h = refl
numbered One Four h = absurd (omega (arith, h))
numbered Two Four h = absurd (omega (arith, h))
numbered Three Four h = absurd (omega (arith, h))
numbered Four One h = absurd (omega (arith, h))
numbered Four Two h = absurd (omega (arith, h))
numbered Four Three h = absurd (omega (arith, h))
numbered One Two h = absurd (omega (arith, h))
numbered One Three h = absurd (omega (arith, h))
numbered Two One h = absurd (omega (arith, h))
numbered Two Three h = absurd (omega (arith, h))
numbered Three One h = absurd (omega (arith, h))
numbered Three Two h = absurd (omega (arith, h))

-- an answer names one version
pub same_version : (v w : SchemaVersion) (rows : List Row) → IsOurs v rows → IsOurs w rows → v ≡ w
same_version v w rows h k =
    let row : h.0 ≡ k.0 = let e = sym h.1 ∙ k.1 in cc in
    numbered v w (number_in (sym h.3 ∙ ap (λ r. column r 1) row ∙ k.3))

pub tells_in : {X : Type 0} (items : X → List Row) (r : Result X Error) (old new : State) → IfOk r (λ rows. Shown find_meta_text [] old new (items rows)) → IfOk r (λ rows. (version : SchemaVersion) → ListsUs version old → IsOurs version (items rows))
tells_in items (Err e) old new h = tt
tells_in items (Ok rows) old new h = λ version us.
    let is_open = shown_open find_meta_text [] old new (items rows) h in
    answered version old new us.root us.image_version us.stamp (items rows) (us.tables is_open).schema_is (us.meta is_open) h

-- ---- from the start of the transaction to its commit

module _ {S : Type 0} (g : Ghosts S) (version : SchemaVersion) (old first mid last : Held S) (begun : first ≡ record old { in_transaction = true }) (steps : Steps (state g first) (state g mid))
    (goes : HasCleanDisk (state g mid) → (rows : TableRows) → IsWithin (schema_of version) (ListsAs version rows) (state g first) → GoesOn up_schema (ListsTables rows) (state g mid)) where
  going : (rows : TableRows) → StandsAs version rows (state g old) → HasCleanDisk (state g mid) → GoesOn up_schema (ListsTables rows) (state g mid)
  going rows was clean = goes clean rows (subst (λ h. IsWithin (schema_of version) (ListsAs version rows) (state g h)) (sym begun) (record { mode = refl; here = was.here }))

  was_open : HasCleanDisk (state g mid) → IsTrue (state g mid).is_open → IsTrue (state g old).is_open
  was_open clean is_open = subst (λ h. IsTrue (state g h).is_open) begun ((steps.kept clean).was_open is_open)

  pub raises : Sees (state g mid) (state g last) (state g mid).now (state g mid).now false → HasCleanDisk (state g mid) → (rows : TableRows) → StandsAs version rows (state g old) → Stands up_schema (ListsTables rows) (state g last)
  raises sees clean rows was = stands_after up_schema (ListsTables rows) (state g mid) (state g last) (going rows was clean) sees

  pub raises_crash : (HasCleanDisk (state g mid) → IsTrue (state g mid).is_open) → (HasCleanDisk (state g mid) → Makes (state g old).step_limit (raising version) (state g old).now (state g mid).now)
      → Survives (state g mid) (state g last) (λ db. db ≡ (state g mid).now.trees) → Survives (state g old) (state g last) (λ db. RaisedFrom version (state g old) db × RaisesBy version (state g old) db)
  raises_crash opened made ends =
      let inside : Survives (state g (record old { in_transaction = true })) (state g mid) (λ _. ⊥) = subst (λ h. Survives (state g h) (state g mid) (λ _. ⊥)) begun steps.survives in
      survives_then (state g old) (state g mid) (state g last) (λ _. ⊥) (λ db. db ≡ (state g mid).now.trees) (λ db. RaisedFrom version (state g old) db × RaisesBy version (state g old) db) (λ _ db none. absurd none)
      (λ clean db is.
      let now : HasCleanDisk (state g mid) = omega (arith, ends.clean) in
      (λ rows was. as_held up_schema (ListsTables rows) (state g mid).now db (going rows was now).here is, (was_open now (opened now), ((state g mid).now, made now, is))))
      (survives_begin g old (state g mid) (λ _. ⊥) inside) ends

-- ---- after `meta` was read

-- the version that was told is the one of the tables
pub stands_us : (version : SchemaVersion) (rows : TableRows) (s : State) → StandsAs version rows s → ListsUs version s
stands_us version rows s h = lists_us version rows s h.here

same_some : {A : Type 0} {a b : A} → Some a ≡ Some b → a ≡ b
same_some e = cc

told : (v w : SchemaVersion) (rows : TableRows) (old : State) → ((u : SchemaVersion) → ListsUs u old → Some w ≡ Some u) → StandsAs v rows old → v ≡ w
told v w rows old tells was = sym (same_some (tells v (stands_us v rows old was)))

as_told : (v w : SchemaVersion) (rows : TableRows) (old mid : State) → v ≡ w → (HasCleanDisk mid → HasCleanDisk old) → IfClean (IsAsCommitted old) mid → HasCleanDisk mid → StandsAs v rows old → StandsAs w rows mid
as_told v w rows old mid same before kept clean was = subst (λ u. StandsAs u rows mid) same (stands_kept (schema_of v) (ListsAs v rows) old mid (λ _. was) before kept clean)

-- tables of the latest version are taken as they are
pub taken_as : (rows : TableRows) (v : SchemaVersion) (old new : State) → ((u : SchemaVersion) → ListsUs u old → Some Four ≡ Some u) → (HasCleanDisk new → HasCleanDisk old) → IfClean (IsAsCommitted old) new → HasCleanDisk new
    → StandsAs v rows old → Stands up_schema (ListsTables rows) new
taken_as rows v old new tells before kept clean was = as_told v Four rows old new (told v Four rows old tells was) before kept clean was

module _ (w : SchemaVersion) (old mid new : State) (older : IsOlder w) (before : HasCleanDisk mid → HasCleanDisk old) (kept : IfClean (IsAsCommitted old) mid)
    (tells : HasCleanDisk mid → (u : SchemaVersion) → ListsUs u old → Some w ≡ Some u) where
  -- those of an older one are raised
  pub taken_raised : HasCleanDisk mid → ((rows : TableRows) → StandsAs w rows mid → Stands up_schema (ListsTables rows) new) → (v : SchemaVersion) (rows : TableRows) → StandsAs v rows old → Stands up_schema (ListsTables rows) new
  taken_raised clean raised v rows was = raised rows (as_told v w rows old mid (told v w rows old (tells clean) was) before kept clean was)

  pub crash_raised : (HasCleanDisk mid → IsTrue old.is_open) → (HasCleanDisk mid → NamesVersion w old) → Survives old mid (λ _. ⊥) → Survives mid new (λ db. RaisedFrom w mid db × RaisesBy w mid db)
      → Survives old new (λ db. Raised old db × RaisesTo old db)
  crash_raised opened names first ends =
      survives_then old mid new (λ _. ⊥) (λ db. RaisedFrom w mid db × RaisesBy w mid db) (λ db. Raised old db × RaisesTo old db) (λ _ db none. absurd none)
      (λ clean db made.
      let now : HasCleanDisk mid = omega (arith, ends.clean) in (
        (
          opened now,
          λ v rows was.
              let same = told v w rows old (tells now) was in
              (subst IsOlder (sym same) older, made.0 rows (as_told v w rows old mid same before kept now was)),
        ),
        (w, older, names now, subst (λ l. MakesTrees l (raising w) old.committed db) first.limit (subst (λ d. MakesTrees mid.step_limit (raising w) d db) ((kept now).undone made.1.0).0 made.1.1)),
      ))
      first ends

-- ---- `meta` is read in a transaction of its own

us_begun : {S : Type 0} (g : Ghosts S) (old first : Held S) → first ≡ record old { in_transaction = true } → (version : SchemaVersion) → ListsUs version (state g old) → ListsUs version (state g first)
us_begun g old first begun version us = subst (λ h. ListsUs version (state g h)) (sym begun) (record { tables = us.tables; root = us.root; image_version = us.image_version; stamp = us.stamp; meta = us.meta })

pub names_begun : {S : Type 0} (g : Ghosts S) (old first : Held S) → first ≡ record old { in_transaction = true } → (answer : List Row) (found : Option SchemaVersion) → IfSome found (λ version. IsOurs version answer)
    → ((version : SchemaVersion) → IsOurs version answer → NamesVersion version (state g first)) → IfSome found (λ version. NamesVersion version (state g old))
names_begun g old first begun answer None is found = tt
names_begun g old first begun answer (Some version) is found = before_begun g version old first begun (found version is)

pub told_begun : {S : Type 0} (g : Ghosts S) (old first : Held S) → first ≡ record old { in_transaction = true } → (answer : List Row) (found : Option SchemaVersion) (version : SchemaVersion) → IfSome found (λ w. IsOurs w answer)
    → (found ≡ None → (w : SchemaVersion) → ¬ IsOurs w answer) → ((w : SchemaVersion) → ListsUs w (state g first) → IsOurs w answer) → ListsUs version (state g old) → found ≡ Some version
told_begun g old first begun answer None version is none tells us = absurd (none refl version (tells version (us_begun g old first begun version us)))
told_begun g old first begun answer (Some w) version is none tells us = ap Some (same_version w version answer is (tells version (us_begun g old first begun version us)))

pub none_refused : {E R : Type 0} (N : Type 0) (r : Result (Option SchemaVersion) E) → IfOk r (λ found. (found ≡ None) × R) → (R → N) → IfOk r (λ found. found ≡ None → N)
none_refused N (Ok found) h f = λ _. f h.1
none_refused N (Err e) h f = tt

pub clean_mid : {commits : Trees → Type 0} (old new : State) → Survives old new commits → HasCleanDisk new → HasCleanDisk old
clean_mid old new h clean = omega (arith, clean, h.clean)
