-- An ECU stands, or was replaced, in vehicles that have a name, and what was read of it can be read into one.
use Rattle.std.proofs.Common.{◌≡◌, ℕ, List, true, false, Option, Some, None, Err, Ok, Result, IfErr, sym, ap, subst, ◌∙◌, string_bytes, bytes_eq, IsUtf8, refl}
use Rattle.std.specs.FinMap as table
use Rattle.up_store.proofs.Common.{String, option_map, list_any, bytes_decides, Row, Connected, Name, is_ident, VehicleRows, StateRows, StoreFault, Memory, Store, owns, HasOwner, has_text, IsWithin, HasTables, Reads, Lists, HoldsBy, up_schema, ecu_table, retired_table, ecus_lines, retired_lines, ListsRows, AreTyped}
use Rattle.up_store.proofs.ColumnFound.{has_tables}
use Rattle.up_store.proofs.KindsOfTexts.{ident}

-- ---- the vehicle of an ECU, and of one that was replaced

stands_in : (ecu name : Name) (o : Option VehicleRows) → list_any (has_text 0 ecu) (ecus_lines name o) ≡ true → (v : VehicleRows) × (o ≡ Some v)
stands_in ecu name None h = absurd (let e = h in cc)
stands_in ecu name (Some v) h = (v, refl)

-- a vehicle's name is an identifier
is_named : (rows : StateRows) (name : Name) (v : VehicleRows) → AreTyped rows → table.get rows.vehicles name ≡ Some v → is_ident name ≡ true
is_named rows name v typed there = let t = typed.vehicles name v there in subst (λ n. is_ident n ≡ true) t.named t.row.vehicle

-- an ECU stands in vehicles alone that have a name
owner_named : (rows : StateRows) (ecu name : Name) → AreTyped rows → list_any (has_text 0 ecu) (ecus_lines name (table.get rows.vehicles name)) ≡ true → is_ident name ≡ true
owner_named rows ecu name typed h = let is = stands_in ecu name (table.get rows.vehicles name) h in is_named rows name is.0 typed is.1

-- so it was replaced
last_named : (rows : StateRows) (ecu name : Name) → AreTyped rows → list_any (has_text 0 ecu) (retired_lines name (rows.retired name)) ≡ true → is_ident name ≡ true
last_named rows ecu name typed h = by_vehicle (table.get rows.vehicles name) refl
  where
    by_vehicle : (o : Option VehicleRows) → table.get rows.vehicles name ≡ o → is_ident name ≡ true
    by_vehicle None is = absurd (let e : false ≡ true = sym (ap (λ l. list_any (has_text 0 ecu) (retired_lines name l)) (typed.retired name is)) ∙ h in cc)
    by_vehicle (Some v) is = is_named rows name v typed is

words_utf8 : (name : Name) → is_ident name ≡ true → IsUtf8 name
words_utf8 name h =
    let w = ident name h in
    let same : w.0 ≡ name = let e = w.1 in cc in
    subst IsUtf8 same w.2

pub holds_owner : (ecu : Name) (s : Connected) (rows : StateRows) → ListsRows rows s.now.trees → HoldsBy ecu_table 2 (HasOwner ecu) s
holds_owner ecu s rows lists = ((λ n. ecus_lines n (table.get rows.vehicles n)), lists.tables.ecus, λ name h. words_utf8 name (owner_named rows ecu name lists.typed h))

pub holds_retired : (ecu : Name) (s : Connected) (rows : StateRows) → ListsRows rows s.now.trees → HoldsBy retired_table 2 (HasOwner ecu) s
holds_retired ecu s rows lists = ((λ n. retired_lines n (rows.retired n)), lists.tables.retired, λ name h. words_utf8 name (last_named rows ecu name lists.typed h))

-- the vehicle that was found has a name
own : (name : Name) → bytes_eq name name ≡ true
own name = (bytes_decides name name).1 refl

pub owner_is_named : {A : Type 0} (rows : StateRows) (ecu : Name) (before after : Connected) (found : Option (String A)) (shown : String A) → found ≡ Some shown → Reads before after
    → ((rows_of : List ℕ → List Row) → HasTables before → Lists 2 rows_of (before.now.trees ecu_table.tree) → (vehicle : List ℕ) → list_any (has_text 0 ecu) (rows_of vehicle) ≡ owns (option_map (λ s. string_bytes s) found) vehicle)
    → IsWithin up_schema (ListsRows rows) before → is_ident (string_bytes shown) ≡ true
owner_is_named rows ecu before after found shown is reads shows within =
    let has = has_tables rows before within in
    let here = within.here reads.was_open in
    let name = string_bytes shown in
    owner_named rows ecu name here.rows.typed (shows (λ n. ecus_lines n (table.get rows.vehicles n)) has here.rows.tables.ecus name ∙ ap (λ o. owns (option_map (λ s. string_bytes s) o) name) is ∙ own name)

pub last_is_named : {A : Type 0} (rows : StateRows) (ecu : Name) (before after : Connected) (found : Option (String A)) (shown : String A) → found ≡ Some shown → Reads before after
    → ((rows_of : List ℕ → List Row) → HasTables before → Lists 2 rows_of (before.now.trees retired_table.tree) → (vehicle : List ℕ) → list_any (has_text 0 ecu) (rows_of vehicle) ≡ owns (option_map (λ s. string_bytes s) found) vehicle)
    → IsWithin up_schema (ListsRows rows) before → is_ident (string_bytes shown) ≡ true
last_is_named rows ecu before after found shown is reads shows within =
    let has = has_tables rows before within in
    let here = within.here reads.was_open in
    let name = string_bytes shown in
    last_named rows ecu name here.rows.typed
    (shows (λ n. retired_lines n (rows.retired n)) has here.rows.tables.retired name ∙ ap (λ o. owns (option_map (λ s. string_bytes s) o) name) is ∙ own name)

pub reads_owner : {A B : Type 0} (r : Result A StoreFault) (shown : String B) → is_ident (string_bytes shown) ≡ true → IfErr r (λ fault. (fault ≡ Store) × (is_ident (string_bytes shown) ≡ false)) → IfErr r (λ fault. fault ≡ Memory)
reads_owner (Ok x) shown named fault = tt
reads_owner (Err f) shown named fault = absurd (let e : false ≡ true = sym fault.1 ∙ named in cc)
