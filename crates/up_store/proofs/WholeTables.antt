-- A table that is read whole: its rows are put under their names one after another.
use Rattle.std.proofs.Common.{◌≡◌, ℕ, ◌+◌, ◌<◌, List, [], ◌∷◌, ◌++◌, Bool, true, false, Option, Some, None, length, take, drop, get_or, map, filter, refl, sym, ap, ◌∙◌, bytes_eq}
use Rattle.std.specs.FinMap as table
use Rattle.std.specs.FinMap.{get-empty, same_map, slice_cmp-IsAntisymmetric, nat_cmp-IsAntisymmetric}
use Rattle.std.proofs.lemmas.Cmp.{nat_list_cmp_total}
use Rattle.std.proofs.lemmas.List.{take_more, drop_more, take-append-drop}
use Rattle.std.proofs.lemmas.List.Elements.{filter-append}
use Rattle.std.proofs.lemmas.List.Folds.{list_any-append}
use Rattle.up_store.proofs.Common.{◌||◌, if◌then◌else◌, list_any, slice_cmp, bytes_decides, nat_cmp, Row, Name, Table, if_passes}
use Rattle.up_store.proofs.Closed.{got}

-- tables of the same values are the same
pub same_table : {X : Type 0} (s t : Table X) → ((n : Name) → table.get s n ≡ table.get t n) → s ≡ t
same_table s t same = same_map nat_list_cmp_total (slice_cmp-IsAntisymmetric nat_cmp-IsAntisymmetric) s t same

module _ {X R : Type 0} (key : R → Name) (row_of : R → Row) (lines : Name → Option X → List Row) (line : Name → X → Row) (none : (n : Name) → lines n None ≡ []) (some : (n : Name) (x : X) → lines n (Some x) ≡ line n x ∷ []) (keep : X → Bool) where
  abbrev pub is_named : Name → R → Bool
  is_named n r = bytes_eq (key r) n

  -- of each name the rows are those of its value, or none
  abbrev pub Each : (Name → Option X) → List R → Type 0
  Each values rows = (n : Name) → lines n (values n) ≡ map row_of (filter (is_named n) rows)

  -- the row is that of the value of its name
  pub record RowIs (values : Name → Option X) (r : R) : Type 0 where
    pub value : X
    pub there : values (key r) ≡ Some value
    pub same : lines (key r) (Some value) ≡ row_of r ∷ []

  never : (a b : List R) (r : R) → [] ≡ map row_of (a ++ r ∷ b) → ⊥
  never [] b r h = cc
  never (x ∷ a) b r h = cc

  alone : (a b : List R) (r : R) (y : Row) → y ∷ [] ≡ map row_of (a ++ r ∷ b) → y ≡ row_of r
  alone [] b r y h = cc
  alone (x ∷ a) b r y h = let rest : [] ≡ map row_of (a ++ r ∷ b) = cc in absurd (never a b r rest)

  split : (rows : List R) (i : ℕ) (r : R) → i < length rows → r ≡ get_or rows i r → rows ≡ take i rows ++ r ∷ drop (i + 1) rows
  split rows i r h at = sym (take-append-drop i rows) ∙ ap (λ rest. take i rows ++ rest) (drop_more rows i r h ∙ ap (λ x. x ∷ drop (i + 1) rows) (sym at))

  own : (n : Name) → bytes_eq n n ≡ true
  own n = (bytes_decides n n).1 refl

  -- those of its name before it and behind it
  abbrev before : List R → ℕ → R → List R
  before rows i r = filter (is_named (key r)) (take i rows)

  abbrev behind : List R → ℕ → R → List R
  behind rows i r = filter (is_named (key r)) (drop (i + 1) rows)

  among : (rows : List R) (i : ℕ) (r : R) → i < length rows → r ≡ get_or rows i r → filter (is_named (key r)) rows ≡ before rows i r ++ r ∷ behind rows i r
  among rows i r h at =
      ap (filter (is_named (key r))) (split rows i r h at) ∙ filter-append (is_named (key r)) (take i rows) (r ∷ drop (i + 1) rows)
      ∙ ap (λ b. before rows i r ++ (if b then r ∷ behind rows i r else behind rows i r)) (own (key r))

  pub row_is : (values : Name → Option X) (rows : List R) (i : ℕ) (r : R) → i < length rows → r ≡ get_or rows i r → Each values rows → RowIs values r
  row_is values rows i r h at each = by_value (values (key r)) refl
    where
      by_value : (o : Option X) → values (key r) ≡ o → RowIs values r
      by_value None is = absurd (never (before rows i r) (behind rows i r) r (sym (none (key r)) ∙ ap (lines (key r)) (sym is) ∙ each (key r) ∙ ap (map row_of) (among rows i r h at)))
      by_value (Some x) is =
          let one = alone (before rows i r) (behind rows i r) r (line (key r) x) (sym (some (key r) x) ∙ ap (lines (key r)) (sym is) ∙ each (key r) ∙ ap (map row_of) (among rows i r h at)) in
          record { value = x; there = is; same = some (key r) x ∙ ap (λ y. y ∷ []) one }

  -- ---- one row after another

  abbrev pub sofar : (Name → Option X) → List R → Name → Option X
  sofar values rows n = if list_any (is_named n) rows then if_passes keep (values n) else None

  -- the table has the values of these rows that are kept
  abbrev pub IsSofar : (Name → Option X) → List R → Table X → Type 0
  IsSofar values rows t = (n : Name) → table.get t n ≡ sofar values rows n

  pub begun : (values : Name → Option X) → IsSofar values [] table.empty
  begun values n = get-empty (slice_cmp nat_cmp) n

  one_step : (a b k : Bool) (x : X) (o before : Option X) → (b ≡ true → o ≡ Some x) → keep x ≡ k → before ≡ (if a then if_passes keep o else None)
      → (if k then (if b then Some x else before) else before) ≡ (if (a || (b || false)) then if_passes keep o else None)
  one_step true true true x o before same is h = let e = same refl in rw (e, is) refl
  one_step true true false x o before same is h = h
  one_step true false true x o before same is h = h
  one_step true false false x o before same is h = h
  one_step false true true x o before same is h = let e = same refl in rw (e, is) refl
  one_step false true false x o before same is h = let e = same refl in h ∙ sym (rw (e, is) refl)
  one_step false false true x o before same is h = h
  one_step false false false x o before same is h = h

  got_kept : (k : Bool) (t : Table X) (name n : Name) (x : X) → table.get (if k then table.insert t name x else t) n ≡ (if k then (if bytes_eq name n then Some x else table.get t n) else table.get t n)
  got_kept true t name n x = got t name x n
  got_kept false t name n x = refl

  pub more : (values : Name → Option X) (rows : List R) (i : ℕ) (r : R) (x : X) (t next : Table X) → i < length rows → r ≡ get_or rows i r → values (key r) ≡ Some x
      → next ≡ (if keep x then table.insert t (key r) x else t) → IsSofar values (take i rows) t → IsSofar values (take (i + 1) rows) next
  more values rows i r x t next h at there is so n =
      ap (λ (u : Table X). table.get u n) is ∙ got_kept (keep x) t (key r) n x
      ∙ one_step (list_any (is_named n) (take i rows)) (bytes_eq (key r) n) (keep x) x (values n) (table.get t n) (λ same. ap values (sym ((bytes_decides (key r) n).0 same)) ∙ there) refl (so n)
      ∙ ap (λ b. if b then if_passes keep (values n) else None) (sym (list_any-append (is_named n) (take i rows) (r ∷ [])))
      ∙ ap (λ rs. sofar values rs n) (ap (λ y. take i rows ++ y ∷ []) at ∙ sym (take_more rows i r h))

  unnamed : (p : R → Bool) (rows : List R) → list_any p rows ≡ false → filter p rows ≡ []
  unnamed p [] h = refl
  unnamed p (r ∷ rows) h = by_test (p r) h (unnamed p rows)
    where
      by_test : (b : Bool) → (b || list_any p rows) ≡ false → (list_any p rows ≡ false → filter p rows ≡ []) → (if b then r ∷ filter p rows else filter p rows) ≡ []
      by_test true h rest = cc
      by_test false h rest = rest h

  no_lines : (n : Name) (o : Option X) → lines n o ≡ [] → o ≡ None
  no_lines n None h = refl
  no_lines n (Some x) h = let one = some n x in cc

  pub ended : (values : Name → Option X) (rows : List R) (t : Table X) → Each values rows → IsSofar values rows t → (n : Name) → table.get t n ≡ if_passes keep (values n)
  ended values rows t each so n = so n ∙ by_any (list_any (is_named n) rows) refl
    where
      by_any : (b : Bool) → list_any (is_named n) rows ≡ b → (if b then if_passes keep (values n) else None) ≡ if_passes keep (values n)
      by_any true is = refl
      by_any false is = sym (ap (if_passes keep) (no_lines n (values n) (each n ∙ ap (map row_of) (unnamed (is_named n) rows is))))
