-- An ECU takes another one's place in the tables, and the other one's identifier is retired.
use Rattle.std.proofs.Common.{◌≡◌, inl, inr, ℕ, suc, List, [], ◌∷◌, ◌++◌, Bool, true, false, ◌||◌, Option, Some, Result, Ok, Err, OnOk, IsTrue, map, refl, sym, ap, ap₂, subst, ◌∙◌, bytes_eq}
use Rattle.std.specs.FinMap as table
use Rattle.std.proofs.lemmas.List.{map-append}
use Rattle.std.proofs.lemmas.Bool.{or_parts}
use Rattle.sqlite_rules.specs.Lists.{Has}
use Rattle.up_machine.specs.Rows.{new_row}
use Rattle.up_machine.specs.declared.vehicle.Replacement.{Replacement}
use Rattle.up_machine.proofs.DistinctNames.{Distinct, distinct}
use Rattle.up_machine.proofs.DistinctNames as names
use Rattle.up_tables.specs.Replaced.{replaced_line, with_replaced}
use Rattle.up_store.proofs.Common.{if◌then◌else◌, list_any, bytes_decides, Row, Connected, Name, Table, EcuRow, NewEcu, in_place_of_row, replaced_rows, with_replaced_rows, stands_among, StateRows, StoreFault, EcuLine, ecu_row, retired_line, swapped, has_text, with_row, IsWithin, GoesOn, HasTables, Alters, Lists, up_schema, vehicle_table, ecu_table, retired_table, text_is, goes_on, lists_ecus, lists_retired, IsReplacement, vehicle_lines, ecu_line, ecu_lines, ecus_lines, retired_lines, ListsRows, table_rows, IsTypedEcu}
use Rattle.up_store.proofs.Alike.{lists_as, alters_as}
use Rattle.up_store.proofs.Closed.{got}
use Rattle.up_store.proofs.Inserted.{changed_inserted}
use Rattle.up_store.proofs.TypedRows.{with_there, typed_replaced}

-- ---- the rows of the vehicle's ECUs

abbrev row_names : List EcuRow → List Name
row_names rows = map (λ (r : EcuRow). r.ecu) rows

-- rows of other names stay
others_stay : (vehicle old : Name) (line : Row) (new : EcuRow) (place : ℕ) (rows : List EcuRow) → list_any (bytes_eq old) (row_names rows) ≡ false
    → swapped 0 old line (map ecu_row (ecu_lines vehicle place rows)) ≡ map ecu_row (ecu_lines vehicle place (map (in_place_of_row old new) rows))
others_stay vehicle old line new place [] h = refl
others_stay vehicle old line new place (r ∷ rows) h =
    let both = or_parts (bytes_eq old r.ecu) _ h in
    let other : bytes_eq r.ecu old ≡ false = names.swapped r.ecu old ∙ both.0 in
    let row : Row = ecu_row (ecu_line vehicle place r) in
    let first : (if has_text 0 old row then line else row) ≡ ecu_row (ecu_line vehicle place (in_place_of_row old new r)) =
    ap (λ b. if b then line else row) (text_is r.ecu old ∙ other) ∙ sym (ap (λ b. ecu_row (ecu_line vehicle place (if b then new else r))) other) in
    ap₂ (λ (x : Row) (xs : List Row). x ∷ xs) first (others_stay vehicle old line new (suc place) rows both.1)

-- the old ECU's row at its place, and the rows with the new one's in its place
record IsSwapped (vehicle old : Name) (new : NewEcu) (place : ℕ) (rows : List EcuRow) : Type 0 where
  at : ℕ
  row : EcuRow
  named : row.ecu ≡ old
  there : Has (map ecu_row (ecu_lines vehicle place rows)) (ecu_row (ecu_line vehicle at row))
  is : swapped 0 old (ecu_row (replaced_line new.ecu new.hardware new.public (ecu_line vehicle at row))) (map ecu_row (ecu_lines vehicle place rows))
      ≡ map ecu_row (ecu_lines vehicle place (map (in_place_of_row old (new_row new)) rows))

swapped_there : (vehicle old : Name) (new : NewEcu) (place : ℕ) (rows : List EcuRow) → Distinct (row_names rows) → stands_among old rows ≡ true → IsSwapped vehicle old new place rows
swapped_there vehicle old new place [] once has = absurd (let e = has in cc)
swapped_there vehicle old new place (r ∷ rows) once has = by_test (bytes_eq r.ecu old) refl has (λ h. swapped_there vehicle old new (suc place) rows once.1 h)
  where
    row : Row
    row = ecu_row (ecu_line vehicle place r)

    by_test : (b : Bool) → bytes_eq r.ecu old ≡ b → (b || stands_among old rows) ≡ true → (stands_among old rows ≡ true → IsSwapped vehicle old new (suc place) rows) → IsSwapped vehicle old new place (r ∷ rows)
    by_test true same h more =
        let name : r.ecu ≡ old = (bytes_decides r.ecu old).0 same in
        let line : Row = ecu_row (replaced_line new.ecu new.hardware new.public (ecu_line vehicle place r)) in
        let first : (if has_text 0 old row then line else row) ≡ ecu_row (ecu_line vehicle place (in_place_of_row old (new_row new) r)) =
        ap (λ b. if b then line else row) (text_is r.ecu old ∙ same) ∙ sym (ap (λ b. ecu_row (ecu_line vehicle place (if b then new_row new else r))) same) in
        record {
          at = place;
          row = r;
          named = name;
          there = inl refl;
          is = ap₂ (λ (x : Row) (xs : List Row). x ∷ xs) first (others_stay vehicle old line (new_row new) (suc place) rows (subst (λ n. list_any (bytes_eq n) (row_names rows) ≡ false) name once.0));
        }
    by_test false other h more =
        let rest = more h in
        let line : Row = ecu_row (replaced_line new.ecu new.hardware new.public (ecu_line vehicle rest.at rest.row)) in
        let first : (if has_text 0 old row then line else row) ≡ ecu_row (ecu_line vehicle place (in_place_of_row old (new_row new) r)) =
        ap (λ b. if b then line else row) (text_is r.ecu old ∙ other) ∙ sym (ap (λ b. ecu_row (ecu_line vehicle place (if b then new_row new else r))) other) in
        record {
          at = rest.at;
          row = rest.row;
          named = rest.named;
          there = inr rest.there;
          is = ap₂ (λ (x : Row) (xs : List Row). x ∷ xs) first rest.is;
        }

-- ---- rows by name

-- where a value goes in that has the lines of the one that was there, the lines stay
same_inserted : {X : Type 0} (t : Table X) (name : Name) (was x : X) (lines : Option X → List Row) → table.get t name ≡ Some was → lines (Some was) ≡ lines (Some x) → (n : Name)
    → lines (table.get t n) ≡ lines (table.get (table.insert t name x) n)
same_inserted t name was x lines there is n = by_test (bytes_eq name n) refl ∙ sym (ap lines (got t name x n))
  where
    by_test : (b : Bool) → bytes_eq name n ≡ b → lines (table.get t n) ≡ lines (if b then Some x else table.get t n)
    by_test true same = ap (λ m. lines (table.get t m)) (sym ((bytes_decides name n).0 same)) ∙ ap lines there ∙ is
    by_test false same = refl

one_retired : (rows : StateRows) (new : Replacement) (n : Name)
    → with_row new.vehicle (retired_line new.old new.vehicle) (λ m. retired_lines m (rows.retired m)) n ≡ retired_lines n ((with_replaced_rows rows new).retired n)
one_retired rows new n = by_test (bytes_eq new.vehicle n) refl
  where
    by_test : (b : Bool) → bytes_eq new.vehicle n ≡ b
        → (if b then retired_lines n (rows.retired n) ++ retired_line new.old new.vehicle ∷ [] else retired_lines n (rows.retired n)) ≡ retired_lines n (if b then rows.retired n ++ new.old ∷ [] else rows.retired n)
    by_test true same = ap (λ m. retired_lines n (rows.retired n) ++ retired_line new.old m ∷ []) ((bytes_decides new.vehicle n).0 same) ∙ sym (map-append (λ ecu. retired_line ecu n) (rows.retired n) (new.old ∷ []))
    by_test false same = refl

-- ---- what is put in

pub puts_replaced : {A : Type 0} (r : Result A StoreFault) (new : Replacement) (before mid after : Connected)
    → ((rows_of : List ℕ → List Row) (was : EcuLine) → HasTables before → Lists 2 rows_of (before.now.trees ecu_table.tree) → Has (rows_of was.vehicle) (ecu_row was) → was.ecu ≡ new.old
    → Alters ecu_table (Lists 2 (with_replaced was (replaced_line new.ecu.ecu new.ecu.hardware new.ecu.public was) rows_of)) before mid)
    → OnOk r ((rows_of : List ℕ → List Row) → HasTables mid → Lists 2 rows_of (mid.now.trees retired_table.tree) → Alters retired_table (Lists 2 (with_row new.vehicle (retired_line new.old new.vehicle) rows_of)) mid after)
    → IsTypedEcu (new_row new.ecu) → OnOk r (IsTrue before.is_open) → OnOk r ((rows : StateRows) → IsWithin up_schema (ListsRows rows) before → IsReplacement new rows → GoesOn up_schema (ListsRows (with_replaced_rows rows new)) after)
puts_replaced (Err e) new before mid after first second typed was_open = tt
puts_replaced (Ok x) new before mid after first second typed was_open = λ rows within fits.
    let here = within.here was_open in
    let name = new.vehicle in
    let was = fits.was in
    let next = with_replaced_rows rows new in
    let swap = swapped_there name new.old new.ecu 0 was.ecus (distinct (row_names was.ecus) fits.once) fits.has in
    let line : EcuLine = ecu_line name swap.at swap.row in
    let added : EcuLine = replaced_line new.ecu.ecu new.ecu.hardware new.ecu.public line in
    let own : ecus_lines name (table.get rows.vehicles name) ≡ map ecu_row (ecu_lines name 0 was.ecus) = ap (ecus_lines name) fits.there in
    let put = first (λ n. ecus_lines n (table.get rows.vehicles n)) line (λ _. record { schema_is = here.schema_is; sound = here.sound; rows = tt }) here.rows.tables.ecus (subst (λ xs. Has xs (ecu_row line)) (sym own) swap.there) swap.named in
    let its : swapped 0 line.ecu (ecu_row added) (ecus_lines name (table.get rows.vehicles name)) ≡ ecus_lines name (Some (replaced_rows new was)) =
    ap₂ (λ (key : Name) (xs : List Row). swapped 0 key (ecu_row added) xs) swap.named own ∙ swap.is in
    let ecu_rows : List ℕ → List Row = λ n. ecus_lines n (table.get next.vehicles n) in
    let ecus_are : (n : List ℕ) → with_replaced line added (λ m. ecus_lines m (table.get rows.vehicles m)) n ≡ ecu_rows n =
    λ n. changed_inserted rows.vehicles name (replaced_rows new was) ecus_lines (swapped 0 line.ecu (ecu_row added)) its n ∙ sym (ap (λ t. ecus_lines n (table.get t n)) (with_there rows new was fits.there)) in
    let one : Alters ecu_table (Lists 2 ecu_rows) before mid = alters_as ecu_table _ _ (λ trees. lists_as 2 _ _ trees ecus_are) before mid put in
    let lists = lists_ecus (table_rows rows) ecu_rows before mid here.rows.tables one in
    let more = second (λ n. retired_lines n (rows.retired n)) (λ _. record { schema_is = one.schema_is; sound = one.sound; rows = tt }) lists.retired in
    let retired : List ℕ → List Row = λ n. retired_lines n (next.retired n) in
    let two : Alters retired_table (Lists 2 retired) mid after = alters_as retired_table _ _ (λ trees. lists_as 2 _ _ trees (one_retired rows new)) mid after more in
    let t = lists_retired (record (table_rows rows) { ecus = ecu_rows }) retired mid after lists two in
    let vehicles_are : (n : List ℕ) → vehicle_lines (table.get rows.vehicles n) ≡ vehicle_lines (table.get next.vehicles n) =
    λ n. same_inserted rows.vehicles name was (replaced_rows new was) vehicle_lines fits.there refl n ∙ sym (ap (λ t. vehicle_lines (table.get t n)) (with_there rows new was fits.there)) in
    goes_on retired_table _ (ListsRows next) mid after two (record {
      last = here.rows.last;
      typed = typed_replaced rows new here.rows.typed typed fits;
      tables = record {
        meta = t.meta;
        role_keys = t.role_keys;
        files = t.files;
        images = t.images;
        campaigns = t.campaigns;
        vehicles = lists_as 1 _ (λ n. vehicle_lines (table.get next.vehicles n)) (after.now.trees vehicle_table.tree) vehicles_are t.vehicles;
        ecus = t.ecus;
        kept = t.kept;
        retired = t.retired;
        sha512s = t.sha512s;
        image_repository = t.image_repository;
        shut_out = t.shut_out;
      };
    })
