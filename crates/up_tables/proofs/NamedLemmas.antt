-- What stands behind the query on `meta`, and behind the version that it named.
use Rattle.std.proofs.Common.{◌≡◌, List, Bool, Option, None, Some, Ok, Err, Result, IfOk, IfErr, IfSome, OnOk, IsTrue, true, refl, sym, ap, subst}
use Rattle.sqlite.specs.declared.error.Error.{Error}
use Rattle.sqlite.specs.Held.{Held, state}
use Rattle.sqlite.specs.Order.{Row}
use Rattle.sqlite.specs.State.{State, HasCleanDisk, Survives}
use Rattle.sqlite_trees.specs.declared.store.Store.{Ghosts}
use Rattle.up_tables.specs.declared.open.OpenFault.{OpenFault}
use Rattle.up_tables.specs.declared.open.SchemaVersion.{SchemaVersion}
use Rattle.up_tables.specs.declared.open.SchemaVersion.TheVariants.{One, Two, Three, Four}
use Rattle.up_tables.specs.Listed.{TableRows, ListsTables}
use Rattle.up_tables.specs.Making.{RaisesBy, RaisesTo}
use Rattle.up_tables.specs.Ours.{IsOurs, IsOlder, ListsUs, NamesVersion, NamesOthers, Raised, RaisedFrom, TellsMeta, is_refused, older_of, ours_told}
use Rattle.up_tables.specs.Stands.{IfClean, Stands, IsAsCommitted}
use Rattle.up_tables.specs.Tables.{up_schema}
use Rattle.up_tables.specs.Versions.{StandsAs}
use Rattle.up_tables.proofs.OursLemmas.{others_begun}
use Rattle.up_tables.proofs.RaisedLemmas.{clean_mid, crash_raised, names_begun, told_begun, taken_as}
use Rattle.up_tables.proofs.WhoseLemmas.{not_others}

-- ---- behind the query

module _ {S : Type 0} (g : Ghosts S) (old first : Held S) (begun : first ≡ record old { in_transaction = true }) {X : Type 0} (items : X → List Row) where
  pub named_there : (found : Result X Error) (told : Result (Option SchemaVersion) OpenFault) → TellsMeta found items told → IfOk found (λ x. (version : SchemaVersion) → IsOurs version (items x) → NamesVersion version (state g first))
      → IfOk told (λ f. IfSome f (λ version. NamesVersion version (state g old)))
  named_there (Ok x) (Ok f) t h = names_begun g old first begun (items x) f t.0 h
  named_there (Ok x) (Err e) t h = tt
  named_there (Err e) (Ok None) t h = tt
  named_there (Err e) (Ok (Some v)) t h = absurd (let no = t.0 in cc)
  named_there (Err e) (Err f) t h = tt

  pub others_there : (found : Result X Error) (told : Result (Option SchemaVersion) OpenFault) → TellsMeta found items told → IfOk found (λ x. ((version : SchemaVersion) → ¬ IsOurs version (items x)) → NamesOthers (state g first))
      → IfErr found (λ e. IsTrue (is_refused e) → NamesOthers (state g first)) → IfOk told (λ f. f ≡ None → NamesOthers (state g old))
  others_there (Ok x) (Ok f) t h k = λ none. others_begun g old first begun (h (t.1 none))
  others_there (Ok x) (Err e) t h k = tt
  others_there (Err e) (Ok f) t h k = λ none. others_begun g old first begun (k t.1)
  others_there (Err e) (Err f) t h k = tt

  pub tells_there : (found : Result X Error) (told : Result (Option SchemaVersion) OpenFault) → TellsMeta found items told → IfOk found (λ x. (version : SchemaVersion) → ListsUs version (state g first) → IsOurs version (items x))
      → IfErr found (λ e. IsTrue (is_refused e) → NamesOthers (state g first)) → IfOk told (λ f. (version : SchemaVersion) → ListsUs version (state g old) → f ≡ Some version)
  tells_there (Ok x) (Ok f) t h k = λ version us. told_begun g old first begun (items x) f version t.0 t.1 h us
  tells_there (Ok x) (Err e) t h k = tt
  tells_there (Err e) (Ok f) t h k = λ version us. absurd (not_others version (state g old) us (others_begun g old first begun (k t.1)))
  tells_there (Err e) (Err f) t h k = tt

pub told_rows : {X : Type 0} (items : X → List Row) (found : Result X Error) (x : X) (f : Option SchemaVersion) → found ≡ Ok x → IfSome f (λ version. IsOurs version (items x)) → (f ≡ None → (version : SchemaVersion) → ¬ IsOurs version (items x))
    → TellsMeta found items (Ok f)
told_rows items found x f is h k = subst (λ r. TellsMeta r items (Ok f)) (sym is) (h, k)

-- ---- behind the version

pub older_is : (found : Result (Option SchemaVersion) OpenFault) (w : SchemaVersion) → older_of found ≡ Some w → (found ≡ Ok (Some w)) × IsOlder w
older_is (Ok (Some One)) w is = let same : One ≡ w = cc in (ap (λ v. Ok (Some v)) same, subst IsOlder same tt)
older_is (Ok (Some Two)) w is = let same : Two ≡ w = cc in (ap (λ v. Ok (Some v)) same, subst IsOlder same tt)
older_is (Ok (Some Three)) w is = let same : Three ≡ w = cc in (ap (λ v. Ok (Some v)) same, subst IsOlder same tt)
older_is (Ok (Some Four)) w is = absurd (let no = is in cc)
older_is (Ok None) w is = absurd (let no = is in cc)
older_is (Err e) w is = absurd (let no = is in cc)

pub found_is : (P : Option SchemaVersion → Type 0) (found : Result (Option SchemaVersion) OpenFault) (f : Option SchemaVersion) → found ≡ Ok f → IfOk found P → P f
found_is P found f is h = subst (λ r. IfOk r P) is h

pub found_then : (P : Type 0) (found : Result (Option SchemaVersion) OpenFault) (f : Option SchemaVersion) → found ≡ Ok f → OnOk found P → P
found_then P found f is h = subst (λ r. OnOk r P) is h

-- a crash while the tables of an older version are raised
pub crash_older : (old mid new : State) (found : Result (Option SchemaVersion) OpenFault) (w : SchemaVersion) → older_of found ≡ Some w → Survives old mid (λ _. ⊥) → IfClean (IsAsCommitted old) mid
    → (HasCleanDisk mid → IfOk found (λ f. (u : SchemaVersion) → ListsUs u old → f ≡ Some u)) → (HasCleanDisk mid → OnOk found (IsTrue old.is_open)) → (HasCleanDisk mid → IfOk found (λ f. IfSome f (λ v. NamesVersion v old)))
    → Survives mid new (λ db. RaisedFrom w mid db × RaisesBy w mid db) → Survives old new (λ db. Raised old db × RaisesTo old db)
crash_older old mid new found w is crash kept tells opens names ends =
    let it = older_is found w is in
    crash_raised w old mid new it.1 (clean_mid old mid crash) kept (λ clean. found_is (λ f. (u : SchemaVersion) → ListsUs u old → f ≡ Some u) found (Some w) it.0 (tells clean))
    (λ clean. found_then (IsTrue old.is_open) found (Some w) it.0 (opens clean)) (λ clean. found_is (λ f. IfSome f (λ v. NamesVersion v old)) found (Some w) it.0 (names clean)) crash ends

listed_of : {C : Type 0} (old : State) (found : Result (Option SchemaVersion) OpenFault) → (C → IfOk found (λ f. (version : SchemaVersion) → ListsUs version old → f ≡ Some version))
    → IfOk (ours_told found) (λ b. C → (version : SchemaVersion) → ListsUs version old → IsTrue b)
listed_of old (Ok None) h = λ clean version us. absurd (let no = h clean version us in cc)
listed_of old (Ok (Some v)) h = λ clean version us. refl
listed_of old (Err e) h = tt

pub told_listed : {C : Type 0} (old : State) (found : Result (Option SchemaVersion) OpenFault) (told : Result Bool OpenFault) → told ≡ ours_told found
    → (C → IfOk found (λ f. (version : SchemaVersion) → ListsUs version old → f ≡ Some version)) → IfOk told (λ b. C → (version : SchemaVersion) → ListsUs version old → IsTrue b)
told_listed {C = C} old found told is h = subst (λ r. IfOk r (λ b. C → (version : SchemaVersion) → ListsUs version old → IsTrue b)) (sym is) (listed_of old found h)

taken_of : (old new : State) (found : Result (Option SchemaVersion) OpenFault) → older_of found ≡ None → (HasCleanDisk new → IfOk found (λ f. (version : SchemaVersion) → ListsUs version old → f ≡ Some version))
    → (HasCleanDisk new → HasCleanDisk old) → IfClean (IsAsCommitted old) new
    → IfOk (ours_told found) (λ b. IsTrue b → HasCleanDisk new → (version : SchemaVersion) (rows : TableRows) → StandsAs version rows old → Stands up_schema (ListsTables rows) new)
taken_of old new (Ok None) none tells before kept = λ is. absurd (let no = is in cc)
taken_of old new (Ok (Some One)) none tells before kept = absurd (let no = none in cc)
taken_of old new (Ok (Some Two)) none tells before kept = absurd (let no = none in cc)
taken_of old new (Ok (Some Three)) none tells before kept = absurd (let no = none in cc)
taken_of old new (Ok (Some Four)) none tells before kept = λ is clean version rows was. taken_as rows version old new (tells clean) before kept clean was
taken_of old new (Err e) none tells before kept = tt

pub told_taken : (old new : State) (found : Result (Option SchemaVersion) OpenFault) (told : Result Bool OpenFault) → told ≡ ours_told found → older_of found ≡ None
    → (HasCleanDisk new → IfOk found (λ f. (version : SchemaVersion) → ListsUs version old → f ≡ Some version)) → (HasCleanDisk new → HasCleanDisk old) → IfClean (IsAsCommitted old) new
    → IfOk told (λ b. IsTrue b → HasCleanDisk new → (version : SchemaVersion) (rows : TableRows) → StandsAs version rows old → Stands up_schema (ListsTables rows) new)
told_taken old new found told is none tells before kept =
    subst (λ r. IfOk r (λ b. IsTrue b → HasCleanDisk new → (version : SchemaVersion) (rows : TableRows) → StandsAs version rows old → Stands up_schema (ListsTables rows) new)) (sym is) (taken_of old new found none tells before kept)
