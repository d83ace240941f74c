-- What is read of the table of ECUs.
use Rattle.std.proofs.Common.{◌≡◌, ℕ, suc, List, [], ◌∷◌, Bool, true, false, cond, ◌||◌, Option, Some, None, map, refl, sym, ap, ap₂, subst, ◌∙◌, bytes_eq}
use Rattle.std.specs.List.Sorted.{IsPermutation}
use Rattle.std.specs.Cmp.{both_ways}
use Rattle.std.specs.FinMap as table
use Rattle.std.specs.FinMap.Entries as entries
use Rattle.up_machine.specs.Vehicles.{is_among}
use Rattle.up_machine.proofs.Values.{each_found}
use Rattle.up_rows.proofs.Vehicles.{same_test}
use Rattle.up_tables.proofs.EcuReads.{are_in_order}
use Rattle.up_store.proofs.Common.{option_map, unwrap_or, find, AllByRecursion, list_any, nat_cmp, eq_by_cmp, slice_cmp, bytes_decides, Row, Connected, Name, Table, EcuRow, VehicleRows, each_weaker, stands_among, owner_among, last_owner, TellsItsHash, StateRows, owns, ReadsByPlace, ecu_places, ecu_row, AreInPlace, columns_at, has_text, IsWithin, HasTables, Reads, Lists, HoldsBy, EachSays, IsLine, Tells, up_schema, ecu_table, retired_table, text_is, same_values, ecus_found, ecu_lines, ecu_shown, ecus_lines, retired_lines, ListsRows, SaysEcu, AreTyped, IsToldEcu, IsTypedEcu, IsTypedVehicle}
use Rattle.up_store.proofs.ColumnFound.{has_tables}

-- ---- the ECUs of a vehicle

in_place : (vehicle : Name) (place : ℕ) (rows : List EcuRow) → AreInPlace vehicle place (ecu_lines vehicle place rows)
in_place vehicle place [] = tt
in_place vehicle place (row ∷ rows) = (refl, refl, in_place vehicle (suc place) rows)

shown_lines : (vehicle : Name) (place : ℕ) (rows : List EcuRow) → map (columns_at ecu_places) (map ecu_row (ecu_lines vehicle place rows)) ≡ map ecu_shown rows
shown_lines vehicle place [] = refl
shown_lines vehicle place (row ∷ rows) = ap (λ (more : List Row). ecu_shown row ∷ more) (shown_lines vehicle (suc place) rows)

each_line : (vehicle : Name) (place : ℕ) (rows : List EcuRow) → AllByRecursion IsToldEcu rows → AllByRecursion (λ row. IsLine IsToldEcu ecu_shown (columns_at ecu_places row)) (map ecu_row (ecu_lines vehicle place rows))
each_line vehicle place [] fit = tt
each_line vehicle place (row ∷ rows) fit = ((row, fit.0, refl), each_line vehicle (suc place) rows fit.1)

both : (rows : List EcuRow) → AllByRecursion IsTypedEcu rows → AllByRecursion TellsItsHash rows → AllByRecursion IsToldEcu rows
both [] typed tell = tt
both (row ∷ rows) typed tell = ((typed.0, tell.0), both rows typed.1 tell.1)

abbrev ecus_in_it : Option VehicleRows → List EcuRow
ecus_in_it o = unwrap_or (option_map (λ (v : VehicleRows). v.ecus) o) []

its_typed : (name : Name) (o : Option VehicleRows) → ((v : VehicleRows) → o ≡ Some v → IsTypedVehicle name v) → AllByRecursion IsToldEcu (ecus_in_it o)
its_typed name None typed = tt
its_typed name (Some v) typed = let t = typed v refl in both v.ecus t.ecus t.tell

its_lines : (name : Name) (o : Option VehicleRows) → ecus_lines name o ≡ map ecu_row (ecu_lines name 0 (ecus_in_it o))
its_lines name None = refl
its_lines name (Some v) = refl

pub holds_ecus : (name : Name) (s : Connected) (rows : StateRows) → ListsRows rows s.now.trees → HoldsBy ecu_table 2 (λ rows_of. AllByRecursion (λ row. IsLine IsToldEcu ecu_shown (columns_at ecu_places row)) (rows_of name)) s
holds_ecus name s rows lists =
    let there = table.get rows.vehicles name in (
      (λ n. ecus_lines n (table.get rows.vehicles n)),
      lists.tables.ecus,
      subst (AllByRecursion (λ row. IsLine IsToldEcu ecu_shown (columns_at ecu_places row))) (sym (its_lines name there)) (each_line name 0 (ecus_in_it there) (its_typed name there (lists.typed.vehicles name))),
    )

-- the ECUs that are found are those of the rows
pub ecus_in : (rows : StateRows) (name : Name) (before after : Connected) (found : List EcuRow) → Reads before after
    → ((rows_of : List ℕ → List Row) → HasTables before → Lists 2 rows_of (before.now.trees ecu_table.tree) → ReadsByPlace (rows_of name) (λ shown. EachSays (Tells SaysEcu IsToldEcu ecu_shown) shown found))
    → IsWithin up_schema (ListsRows rows) before → found ≡ ecus_found name rows
ecus_in rows name before after found reads shows within =
    let here = within.here reads.was_open in
    let there = table.get rows.vehicles name in
    let ecus = ecus_in_it there in
    let it = shows (λ n. ecus_lines n (table.get rows.vehicles n)) (has_tables rows before within) here.rows.tables.ecus in
    let ordered : it.0 ≡ map ecu_row (ecu_lines name 0 ecus) = are_in_order name (ecu_lines name 0 ecus) it.0 (in_place name 0 ecus) (subst (λ (xs : List Row). IsPermutation xs it.0) (its_lines name there) it.1) it.2 in
    same_values SaysEcu IsToldEcu ecu_shown (map (columns_at ecu_places) it.0) found ecus it.3 (its_typed name there (here.rows.typed.vehicles name)) (ap (map (columns_at ecu_places)) ordered ∙ shown_lines name 0 ecus)

-- ---- the vehicle of an ECU

abbrev pub owner_now : Name → StateRows → Option Name
owner_now ecu rows = option_map (λ (v : VehicleRows). v.vehicle.vehicle) (owner_among ecu (table.values rows.vehicles))

stands_is : (ecu name : Name) (place : ℕ) (rows : List EcuRow) → list_any (has_text 0 ecu) (map ecu_row (ecu_lines name place rows)) ≡ stands_among ecu rows
stands_is ecu name place [] = refl
stands_is ecu name place (row ∷ rows) = ap₂ (λ a b. a || b) (text_is row.ecu ecu) (stands_is ecu name (suc place) rows)

same_both : (a b : Name) → eq_by_cmp (slice_cmp nat_cmp) a b ≡ bytes_eq a b
same_both a b = same_test b a ∙ both_ways _ _ (λ h. (bytes_decides a b).1 (sym ((bytes_decides b a).0 h))) (λ h. (bytes_decides b a).1 (sym ((bytes_decides a b).0 h)))

-- where the test tells the name, the first value of which it holds is the one of that name
found_at : {X : Type 0} (test : X → Bool) (n : Name) (es : List (Name × X)) → AllByRecursion (λ (e : Name × X). test e.1 ≡ bytes_eq n e.0) es → find test (map (λ (e : Name × X). e.1) es) ≡ entries.find (slice_cmp nat_cmp) n es
found_at test n [] all = refl
found_at test n (e ∷ es) all = ap₂ (λ b o. cond b (Some e.1) o) (all.0 ∙ sym (same_both n e.0)) (found_at test n es all.1)

found_none : {X : Type 0} (test : X → Bool) (es : List (Name × X)) → AllByRecursion (λ (e : Name × X). test e.1 ≡ false) es → find test (map (λ (e : Name × X). e.1) es) ≡ None
found_none test [] all = refl
found_none test (e ∷ es) all = ap₂ (λ b o. cond b (Some e.1) o) all.0 (found_none test es all.1)

module _ (ecu : Name) (rows : StateRows) (typed : AreTyped rows) where
  abbrev vehicles : Table VehicleRows
  vehicles = rows.vehicles

  abbrev stands : VehicleRows → Bool
  stands v = stands_among ecu v.ecus

  abbrev Told : Option (List ℕ) → Type 0
  Told owner = (name : List ℕ) → list_any (has_text 0 ecu) (ecus_lines name (table.get vehicles name)) ≡ owns owner name

  each_told : (owner : Option (List ℕ)) → Told owner → AllByRecursion (λ (e : Name × VehicleRows). stands e.1 ≡ owns owner e.0) (table.entries vehicles)
  each_told owner told = each_weaker (λ (e : Name × VehicleRows). table.get vehicles e.0 ≡ Some e.1) (λ (e : Name × VehicleRows). stands e.1 ≡ owns owner e.0)
      (λ e h. sym (stands_is ecu e.0 0 e.1.ecus) ∙ sym (ap (λ o. list_any (has_text 0 ecu) (ecus_lines e.0 o)) h) ∙ told e.0) (table.entries vehicles) (each_found vehicles)

  -- an ECU stands in no vehicle that isn't there
  there : (n : Name) (o : Option VehicleRows) → list_any (has_text 0 ecu) (ecus_lines n o) ≡ true → (v : VehicleRows) × (o ≡ Some v)
  there n None h = absurd (let e = h in cc)
  there n (Some v) h = (v, refl)

  pub owner_told : (owner : Option (List ℕ)) → Told owner → owner ≡ owner_now ecu rows
  owner_told None told = sym (ap (option_map (λ (v : VehicleRows). v.vehicle.vehicle)) (found_none stands (table.entries vehicles) (each_told None told)))
  owner_told (Some n) told =
      let own : bytes_eq n n ≡ true = (bytes_decides n n).1 refl in
      let is = there n (table.get vehicles n) (told n ∙ own) in
      let found : find stands (table.values vehicles) ≡ Some is.0 = found_at stands n (table.entries vehicles) (each_told (Some n) told) ∙ sym (table.get-entries vehicles n) ∙ is.1 in
      ap Some (sym (typed.vehicles n is.0 is.1).named) ∙ sym (ap (option_map (λ (v : VehicleRows). v.vehicle.vehicle)) found)

pub owner_in : (rows : StateRows) (ecu : Name) (before after : Connected) (owner : Option (List ℕ)) → Reads before after
    → ((rows_of : List ℕ → List Row) → HasTables before → Lists 2 rows_of (before.now.trees ecu_table.tree) → (vehicle : List ℕ) → list_any (has_text 0 ecu) (rows_of vehicle) ≡ owns owner vehicle)
    → IsWithin up_schema (ListsRows rows) before → owner ≡ owner_now ecu rows
owner_in rows ecu before after owner reads shows within =
    let has : HasTables before = λ is_open. let here = within.here is_open in record { schema_is = here.schema_is; sound = here.sound; rows = tt } in
    let here = within.here reads.was_open in
    owner_told ecu rows here.rows.typed owner (shows (λ n. ecus_lines n (table.get rows.vehicles n)) has here.rows.tables.ecus)

-- ---- the vehicle in which an ECU was replaced

retired_is : (ecu name : Name) (ecus : List Name) → list_any (has_text 0 ecu) (retired_lines name ecus) ≡ is_among ecu ecus
retired_is ecu name [] = refl
retired_is ecu name (e ∷ ecus) = ap₂ (λ a b. a || b) (text_is e ecu) (retired_is ecu name ecus)

-- where the test tells the name, the first name of which it holds is that one, if it is there
key_at : {X : Type 0} (test : Name → Bool) (n : Name) (es : List (Name × X)) → ((m : Name) → test m ≡ bytes_eq n m)
    → find test (map (λ (e : Name × X). e.0) es) ≡ option_map (λ (x : X). n) (entries.find (slice_cmp nat_cmp) n es)
key_at {X} test n [] same = refl
key_at {X} test n (e ∷ es) same = ap (λ b. cond b (Some e.0) (find test (map (λ (e : Name × X). e.0) es))) (same e.0)
    ∙ by_test (bytes_eq n e.0) refl (key_at test n es same)
    ∙ sym (ap (λ b. option_map (λ (x : X). n) (cond b (Some e.1) (entries.find (slice_cmp nat_cmp) n es))) (same_both n e.0))
  where
    by_test : (b : Bool) → bytes_eq n e.0 ≡ b → find test (map (λ (e : Name × X). e.0) es) ≡ option_map (λ (x : X). n) (entries.find (slice_cmp nat_cmp) n es)
        → cond b (Some e.0) (find test (map (λ (e : Name × X). e.0) es)) ≡ option_map (λ (x : X). n) (cond b (Some e.1) (entries.find (slice_cmp nat_cmp) n es))
    by_test true is rest = ap Some (sym ((bytes_decides n e.0).0 is))
    by_test false is rest = rest

no_key : (test : Name → Bool) (names : List Name) → ((m : Name) → test m ≡ false) → find test names ≡ None
no_key test [] none = refl
no_key test (n ∷ names) none = ap₂ (λ b o. cond b (Some n) o) (none n) (no_key test names none)

module _ (ecu : Name) (rows : StateRows) (typed : AreTyped rows) where
  abbrev ToldLast : Option (List ℕ) → Type 0
  ToldLast owner = (name : List ℕ) → list_any (has_text 0 ecu) (retired_lines name (rows.retired name)) ≡ owns owner name

  abbrev was_there : Name → Bool
  was_there name = is_among ecu (rows.retired name)

  each_was : (owner : Option (List ℕ)) → ToldLast owner → (name : Name) → was_there name ≡ owns owner name
  each_was owner told name = sym (retired_is ecu name (rows.retired name)) ∙ told name

  -- no ECU was replaced in a vehicle that isn't there
  known : (n : Name) (o : Option VehicleRows) → table.get rows.vehicles n ≡ o → was_there n ≡ true → option_map (λ (v : VehicleRows). n) o ≡ Some n
  known n None is was = absurd (let e = sym (ap (is_among ecu) (typed.retired n is)) ∙ was in cc)
  known n (Some v) is was = refl

  pub last_told : (owner : Option (List ℕ)) → ToldLast owner → owner ≡ last_owner ecu rows
  last_told None told = sym (no_key was_there (table.keys rows.vehicles) (each_was None told))
  last_told (Some n) told =
      let own : bytes_eq n n ≡ true = (bytes_decides n n).1 refl in
      sym (key_at was_there n (table.entries rows.vehicles) (each_was (Some n) told) ∙ ap (option_map (λ (v : VehicleRows). n)) (sym (table.get-entries rows.vehicles n))
      ∙ known n (table.get rows.vehicles n) refl (each_was (Some n) told n ∙ own))

pub last_in : (rows : StateRows) (ecu : Name) (before after : Connected) (owner : Option (List ℕ)) → Reads before after
    → ((rows_of : List ℕ → List Row) → HasTables before → Lists 2 rows_of (before.now.trees retired_table.tree) → (vehicle : List ℕ) → list_any (has_text 0 ecu) (rows_of vehicle) ≡ owns owner vehicle)
    → IsWithin up_schema (ListsRows rows) before → owner ≡ last_owner ecu rows
last_in rows ecu before after owner reads shows within =
    let has : HasTables before = λ is_open. let here = within.here is_open in record { schema_is = here.schema_is; sound = here.sound; rows = tt } in
    let here = within.here reads.was_open in
    last_told ecu rows here.rows.typed owner (shows (λ n. retired_lines n (rows.retired n)) has here.rows.tables.retired)
