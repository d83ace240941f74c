-- A vehicle, a campaign and an accepted manifest take the rows of a state to those of the next.
use Rattle.std.proofs.Common.{◌≡◌, ℕ, ◌+◌, List, [], ◌∷◌, ◌++◌, Bool, true, false, cond, Option, Some, None, refl, sym, ap, ap₂, ◌∙◌, subst, arith}
use Rattle.std.specs.Prelude.{option_map, unwrap_or, length, map, bytes_eq, if◌then◌else◌}
use Rattle.std.specs.List.{enumerate_from}
use Rattle.std.specs.Ordering.{nat_cmp, eq_by_cmp, is_eq}
use Rattle.std.specs.Cmp.{both_ways, tied_itself}
use Rattle.std.specs.Cmp.Lexicographic.{slice_cmp, bytes_decides}
use Rattle.std.specs.FinMap as table
use Rattle.std.specs.FinMap.{same_map, nat_cmp-IsAntisymmetric, slice_cmp-IsAntisymmetric}
use Rattle.std.proofs.lemmas.Cmp.{nat_list_cmp_total}
use Rattle.up_canon.specs.Names.{Name, Table}
use Rattle.up_machine.specs.declared.rows.VehicleRows.{VehicleRows}
use Rattle.up_machine.specs.declared.rows.Kept.{Kept}
use Rattle.up_machine.specs.State.{Entry, Vehicle, State, added, version}
use Rattle.up_machine.specs.Inventory.{with_vehicle}
use Rattle.up_machine.specs.Deliveries.{with_entry}
use Rattle.up_machine.specs.Rows.{founding_row, rows_of, kept_row}
use Rattle.up_machine.specs.Vehicles.{NewVehicleData}
use Rattle.up_machine.proofs.Tables.{one_name, get_new}
use Rattle.up_rows.specs.Tables.{each_value}
use Rattle.up_rows.specs.StateRows.{kept_rows, retired_names}
use Rattle.up_rows.specs.Laws.{VehiclesAreAdded, CampaignsAreWritten, ManifestsAreAdded}
use Rattle.up_rows.proofs.Tables.{get_changed}
use Rattle.up_rows.proofs.Numbered.{numbered_push}

abbrev pub by_name : Name → Name → Bool
by_name = eq_by_cmp (slice_cmp nat_cmp)

-- the two tests of names agree
pub same_test : (a b : Name) → by_name b a ≡ bytes_eq a b
same_test a b = both_ways _ _ (λ h. (bytes_decides a b).1 (sym (one_name b a h))) (λ h. subst (λ x. by_name x a ≡ true) ((bytes_decides a b).0 h) (ap is_eq (tied_itself nat_list_cmp_total a)))

-- the rows of the vehicles after an insertion
pub inserted : (t : Table Vehicle) (name : Name) (v : Vehicle) → table.insert (each_value rows_of t) name (rows_of name v) ≡ each_value rows_of (table.insert t name v)
inserted t name v = same_map nat_list_cmp_total (slice_cmp-IsAntisymmetric nat_cmp-IsAntisymmetric) _ _ (λ q.
    get_new (each_value rows_of t) name q (rows_of name v) ∙ by_test q (by_name q name) refl
    ∙ sym (get_changed rows_of (table.insert t name v) q ∙ ap (option_map (rows_of q)) (get_new t name q v)))
  where
    by_test : (q : Name) (b : Bool) → by_name q name ≡ b → cond b (Some (rows_of name v)) (table.get (each_value rows_of t) q) ≡ option_map (rows_of q) (cond b (Some v) (table.get t q))
    by_test q true is = ap (λ n. Some (rows_of n v)) (sym (one_name q name is))
    by_test q false is = get_changed rows_of t q

-- what is read of a vehicle stays where it is the same of the one that goes in
pub same_read : {X : Type 0} (f : Option Vehicle → X) (t : Table Vehicle) (name : Name) (v : Vehicle) → f (table.get t name) ≡ f (Some v) → (q : Name) → f (table.get t q) ≡ f (table.get (table.insert t name v) q)
same_read f t name v same q = by_test (by_name q name) refl ∙ sym (ap f (get_new t name q v))
  where
    by_test : (b : Bool) → by_name q name ≡ b → f (table.get t q) ≡ f (cond b (Some v) (table.get t q))
    by_test true is = ap (λ n. f (table.get t n)) (one_name q name is) ∙ same
    by_test false is = refl

abbrev pub names_of : Option Vehicle → List Name
names_of o = unwrap_or (option_map (λ (v : Vehicle). v.retired) o) []

-- the rows that are kept for a vehicle
abbrev pub rows_for : Name → Vehicle → List Kept
rows_for name v = map (λ (e : ℕ × Entry). kept_row name e.0 e.1) (enumerate_from 1 v.entries)

-- ---- a vehicle is added

added_kept : (s : State) (new : NewVehicleData) → table.get s.vehicles new.vehicle ≡ None → (name : Name) → kept_rows s name ≡ kept_rows (with_vehicle s new) name
added_kept s new none name =
    let rows : Option Vehicle → List Kept = λ o. unwrap_or (option_map (rows_for name) o) [] in
    same_read rows s.vehicles new.vehicle (added new) (ap rows none) name

pub vehicles_added : VehiclesAreAdded
vehicles_added s new none =
    let vehicles : table.insert (each_value rows_of s.vehicles) new.vehicle (rows_of new.vehicle (added new)) ≡ each_value rows_of (with_vehicle s new).vehicles = inserted s.vehicles new.vehicle (added new) in
    let kept : (name : Name) → kept_rows s name ≡ kept_rows (with_vehicle s new) name = added_kept s new none in
    let retired : (name : Name) → retired_names s name ≡ retired_names (with_vehicle s new) name = same_read names_of s.vehicles new.vehicle (added new) (ap names_of none) in
    λ i. record { founding = founding_row s; director = s.director.texts; image = s.image.texts; images = s.images; files = s.files; campaigns = s.campaigns; vehicles = vehicles i; kept = λ name. kept name i; retired = λ name. retired name i }

-- ---- a campaign is opened or closed

pub campaigns_written : CampaignsAreWritten
campaigns_written s campaign = refl

-- ---- a manifest is accepted

one_more : (n : ℕ) → n + 1 ≡ 1 + n
one_more n = omega arith

accepted_kept : (s : State) (name : Name) (v : Vehicle) (e : Entry) → table.get s.vehicles name ≡ Some v → (q : Name)
    → (if bytes_eq name q then kept_rows s q ++ kept_row name (version v.entries + 1) e ∷ [] else kept_rows s q) ≡ kept_rows (with_entry s name v e) q
accepted_kept s name v e found q =
    ap (λ t. cond t (kept_rows s q ++ kept_row name (version v.entries + 1) e ∷ []) (kept_rows s q)) (sym (same_test name q))
    ∙ by_test (by_name q name) refl
    ∙ sym (ap (λ (o : Option Vehicle). unwrap_or (option_map (rows_for q) o) []) (get_new s.vehicles name q (record v { entries = v.entries ++ e ∷ [] })))
  where
    by_test : (t : Bool) → by_name q name ≡ t
        → cond t (kept_rows s q ++ kept_row name (version v.entries + 1) e ∷ []) (kept_rows s q)
        ≡ unwrap_or (option_map (rows_for q) (cond t (Some (record v { entries = v.entries ++ e ∷ [] })) (table.get s.vehicles q))) []
    by_test true same =
        let named : q ≡ name = one_name q name same in
        ap (λ (o : Option Vehicle). unwrap_or (option_map (rows_for q) o) [] ++ kept_row name (version v.entries + 1) e ∷ []) (ap (table.get s.vehicles) named ∙ found)
        ∙ ap₂ (λ (n : Name) (i : ℕ). rows_for q v ++ kept_row n i e ∷ []) (sym named) (one_more (length v.entries))
        ∙ sym (numbered_push (λ (r : ℕ × Entry). kept_row q r.0 r.1) 1 v.entries e)
    by_test false same = refl

pub manifests_added : ManifestsAreAdded
manifests_added s name v e rows found has =
    let more : Vehicle = record v { entries = v.entries ++ e ∷ [] } in
    let vehicles : table.insert (each_value rows_of s.vehicles) rows.vehicle.vehicle.vehicle rows.vehicle ≡ each_value rows_of (with_entry s name v e).vehicles =
    ap (λ (r : VehicleRows). table.insert (each_value rows_of s.vehicles) r.vehicle.vehicle r) has.vehicle ∙ inserted s.vehicles name more in
    let kept : (q : Name) → (if bytes_eq rows.kept.vehicle q then kept_rows s q ++ rows.kept ∷ [] else kept_rows s q) ≡ kept_rows (with_entry s name v e) q =
    λ q. ap (λ (r : Kept). if bytes_eq r.vehicle q then kept_rows s q ++ r ∷ [] else kept_rows s q) has.kept ∙ accepted_kept s name v e found q in
    let retired : (q : Name) → retired_names s q ≡ retired_names (with_entry s name v e) q = same_read names_of s.vehicles name more (ap names_of found) in
    λ i. record { founding = founding_row s; director = s.director.texts; image = s.image.texts; images = s.images; files = s.files; campaigns = s.campaigns; vehicles = vehicles i; kept = λ q. kept q i; retired = λ q. retired q i }
