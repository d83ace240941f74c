-- Why a read tells `Store`: over the whole schema the database refuses none of our queries, so only a fault of the disk is left, or rows that
-- show no value.
use Rattle.std.proofs.Common.{◌≡◌, ◌⊎◌, inl, inr, ℕ, List, [], map, length, arith, Bool, true, false, Option, Some, None, Ok, Err, Result, IfOk, IfErr, IsTrue, sym, ap, subst, ◌∙◌, append-nil}
use Rattle.std.proofs.Math.Dec.{leb}
use Rattle.std.proofs.lemmas.Bool.{leb-true}
use Rattle.std.proofs.lemmas.List.{length-map}
use Rattle.std.proofs.lemmas.List.Elements.{recursion_from_All, All-from_recursion}
use Rattle.std.proofs.lemmas.List.Sorted.{length_permutation, All-permutation}
use Rattle.std.specs.List.{AllByRecursion}
use Rattle.std.specs.List.Sorted.{IsPermutation}
use Rattle.sqlite_disk.specs.Disk.{MoreFaults}
use Rattle.sqlite.specs.declared.error.Error.{Error}
use Rattle.sqlite.specs.Order.{Row}
use Rattle.sqlite.specs.Term.{Term}
use Rattle.sqlite.specs.Query.{Query}
use Rattle.sqlite.specs.Schema.{Schema}
use Rattle.sqlite.specs.Tree.{Trees}
use Rattle.sqlite_schema.specs.declared.command.Command.{Command}
use Rattle.sqlite.specs.Command.TheVariants.{Select}
use Rattle.sqlite.specs.Clock.{timed}
use Rattle.sqlite.specs.Effect.{Database, IsShown, RefusesToRead}
use Rattle.sqlite.specs.Listing.{understood, reads_listing, IsSourceOf}
use Rattle.sqlite.specs.State.{State, HasCleanDisk, HasCause, Shown, FailsToShow, FailsToQuery, IsNoStatement, IsNotRun, IsStatement, IsTooLate, store_error}
use Rattle.sqlite.proofs.Callers.{IsPlain, command_of}
use Rattle.sqlite_keyed.proofs.ListLemmas.{all_map, all_weaker}
use Rattle.sqlite_resolve.specs.declared.compiled.Compiled.{Compiled}
use Rattle.sqlite_resolve.specs.declared.error.CompileError.{CompileError}
use Rattle.sqlite_trees.specs.declared.error.StoreError.{StoreError}
use Rattle.sqlite_trees.specs.declared.error.StoreError.TheVariants.{OutOfMemory, Io, Corrupt, Full, Broken, Unstorable}
use Rattle.sqlite_value.specs.declared.keys.Key.{Key}
use Rattle.up_tables.specs.Tables.{up_schema}
use Rattle.up_tables.specs.Faults.{store_fault}
use Rattle.up_tables.specs.Kinds.{ShowsOne}
use Rattle.up_tables.specs.Stands.{IsReadable}
use Rattle.up_tables.specs.Statements.{BlamesDisk}
use Rattle.up_tables.specs.declared.values.StoreFault.{StoreFault}
use Rattle.up_tables.specs.declared.values.StoreFault.TheVariants.{Memory, Store}
use Rattle.up_tables.proofs.AnswerLemmas.{over}
use Rattle.up_tables.proofs.ReadLemmas.{Asks}

-- ---- statements

abbrev pub is_whole : List ℕ → Result Compiled CompileError → Bool
is_whole text (Ok c) = leb (length text) c.tail
is_whole text (Err e) = false

abbrev pub count_of : Result Compiled CompileError → Option ℕ
count_of (Ok c) = Some (length c.names)
count_of (Err e) = None

pub none_of : {A B C X Y Z : Type 0} → (A → ⊥) → (B → ⊥) → (C → ⊥) → (A × X) ⊎ ((B × Y) ⊎ (C × Z)) → ⊥
none_of f g h (inl k) = f k.0
none_of f g h (inr (inl k)) = g k.0
none_of f g h (inr (inr k)) = h k.0

pub same_count : {m n : ℕ} → Some m ≡ Some n → m ≡ n
same_count p = cc

-- it is a statement that doesn't read the time
abbrev pub IsUntimed : Result Compiled CompileError → Type 0
IsUntimed (Ok c) = c.formats ≡ []
IsUntimed (Err e) = ⊥

pub plain_untimed : (r : Result Compiled CompileError) → IsPlain r → IsUntimed r
plain_untimed (Ok c) plain = plain.1
plain_untimed (Err e) plain = plain

-- a text that is understood whole, with so many parameters, is a statement
pub is_statement : (schema : Schema) (text : List ℕ) (params : Row) → IsUntimed (understood schema text) → is_whole text (understood schema text) ≡ true → count_of (understood schema text) ≡ Some (length params)
    → (s : State) (e : Error) → s.now.schema ≡ schema → IsNoStatement s text params e → ⊥
is_statement schema text params untimed whole count s e has (inl h) = subst IsUntimed (sym (ap (λ x. understood x text) has) ∙ h.1) untimed
is_statement schema text params untimed whole count s e has (inr h) =
    let known : understood schema text ≡ Ok h.0 = sym (ap (λ x. understood x text) has) ∙ h.1 in
    none_of (λ cut. cut (leb-true (length text) h.0.tail (ap (is_whole text) (sym known) ∙ whole))) (λ more. more (same_count (sym count ∙ ap count_of known)))
    (λ timed. timed (subst IsUntimed known untimed)) h.2

-- ---- queries on one table

-- the database doesn't take the query, so it shows nothing
abbrev pub IsMistyped : Schema → Trees → Row → Query → Type 0
IsMistyped schema trees params query = IsShown (λ (r : Row). r) (record { schema = schema; trees = trees }) (record { lets = []; body = query }) params None

-- the text is one statement, with as many parameters as are given, and a query whose values are of the right types
abbrev pub Takes : List ℕ → Row → Query → Type 0
Takes text params query =
    (is_whole text (understood up_schema text) ≡ true) × (count_of (understood up_schema text) ≡ Some (length params)) × ((trees : Trees) → ¬ IsMistyped up_schema trees params query)

-- without a limit on steps, such a query is not refused
pub never_refused : (schema : Schema) (tree : ℕ) (tests shown : List Term) (order : List (Term × Key)) (names : List (List ℕ)) (params : Row) (db : Database) (e : Error) → db.schema ≡ schema
    → ((trees : Trees) → ¬ IsMistyped schema trees params (over tree tests shown order)) → RefusesToRead None (Select (record { lets = []; body = over tree tests shown order }) names) db params e → ⊥
never_refused schema tree tests shown order names params db e has typed (inl h) = typed db.trees (subst (λ s. IsMistyped s db.trees params (over tree tests shown order)) has h.1)
never_refused schema tree tests shown order names params db e has typed (inr (inl (_, inl never))) = never
never_refused schema tree tests shown order names params db e has typed (inr (inl (_, inr more))) = more.4
never_refused schema tree tests shown order names params db e has typed (inr (inr h)) = absurd (let some = h.1 in cc)

pub at_no_time : (c : Compiled) (now : ℕ) (command : Command) (db : Database) (params : Row) (e : Error) → c.formats ≡ [] → RefusesToRead None command db (timed params c.formats now) e → RefusesToRead None command db params e
at_no_time c now command db params e bare h = rw (bare, append-nil params) at h

-- an error of the store, told as `Store`
pub cause_of : (old new : State) → IsTrue old.is_open → (e : Error) → store_fault e ≡ Store → (too_big : Type 0) (cause : StoreError) → e ≡ store_error cause → HasCause old new too_big cause → MoreFaults old.faults new.faults ⊎ too_big
cause_of old new is_open e told too_big OutOfMemory is has = absurd (let no : Memory ≡ Store = sym (ap store_fault is) ∙ told in cc)
cause_of old new is_open e told too_big Io is has = inl has
cause_of old new is_open e told too_big Corrupt is has = inl has
cause_of old new is_open e told too_big Full is has = inl has
cause_of old new is_open e told too_big Broken is has = absurd (let no = sym is_open ∙ has in cc)
cause_of old new is_open e told too_big Unstorable is has = inr has

module _ (old new : State) (ready : IsReadable old) (e : Error) (told : store_fault e ≡ Store) where
  module _ (text : List ℕ) (params : Row) (tree : ℕ) (tests shown : List Term) (order : List (Term × Key)) (names : List (List ℕ))
      (asks : Asks up_schema text (over tree tests shown order) names) (takes : Takes text params (over tree tests shown order)) where
    not_shown : (c : Compiled) (it : IsStatement old text params c) → FailsToShow old new text c (timed params c.formats it.now) e c.returning → ⊥
    not_shown c it h =
        let known : understood up_schema text ≡ Ok c = sym (ap (λ x. understood x text) ready.here.schema_is) ∙ it.is in
        let bare = subst IsPlain known asks.2 in
        let command : c.command ≡ Select (record { lets = []; body = over tree tests shown order }) names = ap command_of (sym known) ∙ asks.0 in
        let fails : FailsToShow old new text c (timed params c.formats it.now) e None = subst (FailsToShow old new text c (timed params c.formats it.now) e) bare.0 h in
        let same : fails.0 ≡ old.now = subst (λ b. IsSourceOf b old.now fails.0) (ap (λ x. reads_listing x text) ready.here.schema_is ∙ asks.1) fails.1 in
        let unlimited : RefusesToRead None c.command fails.0 (timed params c.formats it.now) e = subst (λ l. RefusesToRead l c.command fails.0 (timed params c.formats it.now) e) ready.unlimited fails.2 in
        never_refused up_schema tree tests shown order names params fails.0 e (ap (λ (d : Database). d.schema) same ∙ ready.here.schema_is) takes.2
        (subst (λ m. RefusesToRead None m fails.0 params e) command (at_no_time c it.now c.command fails.0 params e bare.1 unlimited))

    fails : FailsToQuery text params old new e → MoreFaults old.faults new.faults
    unfolding FailsToQuery IsNotRun
    fails (inl (inl h)) = absurd (is_statement up_schema text params (plain_untimed _ asks.2) takes.0 takes.1 old e ready.here.schema_is h.0)
    fails (inl (inr h)) = elim (cause_of old new ready.is_open e told ⊥ h.0 h.1 h.2) [ inl more ↦ more | inr never ↦ absurd never ]
    fails (inr h) = absurd (not_shown h.0 h.1 h.2)

    late : IsTooLate text params old new e → ⊥
    late h =
        let known : understood up_schema text ≡ Ok h.0 = sym (ap (λ x. understood x text) ready.here.schema_is) ∙ h.1.is in
        absurd (let none = rw (subst IsPlain known asks.2).0 at h.2 in cc)

    pub faults : FailsToQuery text params old new e ⊎ IsTooLate text params old new e → MoreFaults old.faults new.faults
    faults (inl h) = fails h
    faults (inr h) = absurd (late h)

-- ---- calls

pub fault_alike : {T : Type 0} {a b : StoreFault} → ◌≡◌ {A = Result T StoreFault} (Err a) (Err b) → a ≡ b
fault_alike p = cc

module _ {X T : Type 0} (items : X → List Row) (text : List ℕ) (params : Row) (tree : ℕ) (tests shown : List Term) (order : List (Term × Key)) (names : List (List ℕ))
    (asks : Asks up_schema text (over tree tests shown order) names) (takes : Takes text params (over tree tests shown order)) where
  -- a call that hands the fault of the query on, and else tells `Store` only where the rows aren't such as stand there
  pub blames : (answer : Result X Error) (r : Result T StoreFault) (old new : State) (P : State → Type 0) (Q : List Row → Type 0) → (IsReadable old → P old → (rows : List Row) → Shown text params old new rows → Q rows)
      → IfErr answer (λ e. r ≡ Err (store_fault e)) → IfOk answer (λ v. IfErr r (λ fault. fault ≡ Store → ¬ Q (items v)))
      → (HasCleanDisk new → IfOk answer (λ v. Shown text params old new (items v))) → (HasCleanDisk new → IfErr answer (λ e. FailsToQuery text params old new e ⊎ IsTooLate text params old new e))
      → BlamesDisk P old new r
  blames (Ok v) (Ok x) old new P Q shows fault kinds ok err clean = tt
  blames (Ok v) (Err f) old new P Q shows fault kinds ok err clean = λ is ready holds. absurd (kinds is (shows ready holds (items v) (ok clean)))
  blames (Err e) (Ok x) old new P Q shows fault kinds ok err clean = tt
  blames (Err e) (Err f) old new P Q shows fault kinds ok err clean = λ is ready holds.
      faults old new ready e (sym (fault_alike fault) ∙ is) text params tree tests shown order names asks takes (err clean)

-- what follows of other rows follows of these
pub blames_where : {T : Type 0} (P Q : State → Type 0) (old new : State) (r : Result T StoreFault) → (P old → Q old) → BlamesDisk Q old new r → BlamesDisk P old new r
blames_where P Q old new (Ok x) so h clean = tt
blames_where P Q old new (Err f) so h clean = λ is ready holds. h clean is ready (so holds)

-- ---- what is shown of rows

-- what a query shows of rows, in some order, is of the kinds that they are of
pub shown_all : (part : Row → Row) (S S' : Row → Type 0) → ((r : Row) → S r → S' (part r)) → (rows shown : List Row) → IsPermutation (map part rows) shown → AllByRecursion S rows → AllByRecursion S' shown
shown_all part S S' keeps rows shown same all =
    recursion_from_All S' shown (All-permutation S' (map part rows) shown same (All-from_recursion S' (map part rows) (all_map S' part rows (all_weaker S (λ r. S' (part r)) keeps rows all))))

pub shown_one : (part : Row → Row) (S S' : Row → Type 0) → ((r : Row) → S r → S' (part r)) → (rows shown : List Row) → IsPermutation (map part rows) shown → ShowsOne S rows → ShowsOne S' shown
shown_one part S S' keeps rows shown same one = (omega (arith, length_permutation (map part rows) shown same, length-map rows part, one.0), shown_all part S S' keeps rows shown same one.1)
