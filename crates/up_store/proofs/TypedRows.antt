-- Rows stay typed where typed ones are written.
use Rattle.std.proofs.Common.{◌≡◌, List, [], ◌∷◌, ◌++◌, Bool, true, false, cond, Some, None, map, subst, refl, sym, ap, ◌∙◌}
use Rattle.std.specs.FinMap as table
use Rattle.up_machine.specs.declared.decision.RootRows.{RootRows}
use Rattle.up_machine.specs.declared.vehicle.Replacement.{Replacement}
use Rattle.up_machine.specs.Rows.{new_row}
use Rattle.up_machine.proofs.Lists.{each_one_more}
use Rattle.up_store.proofs.Common.{option_map, unwrap_or, if◌then◌else◌, IsUtf8, bytes_eq, AllByRecursion, slice_cmp, bytes_decides, nat_cmp, eq_by_cmp, Name, Table, CampaignData, ImageData, AcceptedRows, RegisterRows, EcuRow, VehicleRows, NewEcu, get_new, get_same, get_after-insert, with_root_rows, with_register_rows, with_vehicle_rows, in_place_of_row, replaced_rows, with_replaced_rows, with_campaign_row, with_accepted_rows, TellsItsHash, StateRows, with_image, IsReplacement, AreTyped, AreTypedTexts, EachHasKeys, IsTypedCampaign, IsTypedEcu, IsTypedFounding, IsTypedImage, IsTypedKept, IsTypedVehicle}

-- ---- writes

pub typed_root : (rows : StateRows) (new : RootRows) → AreTyped rows → IsTypedFounding new.founding → EachHasKeys new.founding.keys → IsUtf8 new.director × IsUtf8 new.image → AreTypedTexts new.files → AreTyped (with_root_rows rows new)
typed_root rows new typed founding keys texts files = record {
  founding = founding;
  keys = keys;
  director = each_one_more IsUtf8 rows.director new.director typed.director texts.0;
  image = each_one_more IsUtf8 rows.image new.image typed.image texts.1;
  images = typed.images;
  files = files;
  campaigns = typed.campaigns;
  vehicles = typed.vehicles;
  kept = typed.kept;
  retired = typed.retired;
}

pub typed_register : (rows : StateRows) (new : RegisterRows) → AreTyped rows → IsTypedFounding new.founding → EachHasKeys new.founding.keys → AreTypedTexts new.files → AreTyped (with_register_rows rows new)
typed_register rows new typed founding keys files = record {
  founding = founding;
  keys = keys;
  director = typed.director;
  image = typed.image;
  images = typed.images;
  files = files;
  campaigns = typed.campaigns;
  vehicles = typed.vehicles;
  kept = typed.kept;
  retired = typed.retired;
}

pub typed_image : (rows : StateRows) (image : ImageData) → AreTyped rows → IsTypedImage image.file image → AreTyped (with_image rows image)
typed_image rows image typed is = record {
  founding = typed.founding;
  keys = typed.keys;
  director = typed.director;
  image = typed.image;
  images = λ file other found. get_after-insert IsTypedImage rows.images image.file file other image found is (typed.images file other);
  files = typed.files;
  campaigns = typed.campaigns;
  vehicles = typed.vehicles;
  kept = typed.kept;
  retired = typed.retired;
}

pub typed_campaign : (rows : StateRows) (new : CampaignData) → AreTyped rows → IsTypedCampaign new.name new → AreTyped (with_campaign_row rows new)
typed_campaign rows new typed is = record {
  founding = typed.founding;
  keys = typed.keys;
  director = typed.director;
  image = typed.image;
  images = typed.images;
  files = typed.files;
  campaigns = λ name other found. get_after-insert IsTypedCampaign rows.campaigns new.name name other new found is (typed.campaigns name other);
  vehicles = typed.vehicles;
  kept = typed.kept;
  retired = typed.retired;
}

-- what is not there after an insertion wasn't there before
none_before : {X : Type 0} (t : Table X) (n q : Name) (x : X) → table.get (table.insert t n x) q ≡ None → table.get t q ≡ None
none_before t n q x none = by_test (eq_by_cmp (slice_cmp nat_cmp) q n) (sym (get_new t n q x) ∙ none)
  where
    by_test : (b : Bool) → cond b (Some x) (table.get t q) ≡ None → table.get t q ≡ None
    by_test true h = cc
    by_test false h = h

pub typed_vehicle : (rows : StateRows) (new : VehicleRows) → AreTyped rows → IsTypedVehicle new.vehicle.vehicle new → AreTyped (with_vehicle_rows rows new)
typed_vehicle rows new typed is = record {
  founding = typed.founding;
  keys = typed.keys;
  director = typed.director;
  image = typed.image;
  images = typed.images;
  files = typed.files;
  campaigns = typed.campaigns;
  vehicles = λ name other found. get_after-insert IsTypedVehicle rows.vehicles new.vehicle.vehicle name other new found is (typed.vehicles name other);
  kept = typed.kept;
  retired = λ name none. typed.retired name (none_before rows.vehicles new.vehicle.vehicle name new none);
}

pub typed_accepted : (rows : StateRows) (new : AcceptedRows) → AreTyped rows → IsTypedKept new.kept.vehicle new.kept → IsTypedVehicle new.vehicle.vehicle.vehicle new.vehicle → AreTyped (with_accepted_rows rows new)
typed_accepted rows new typed is vehicle = record {
  founding = typed.founding;
  keys = typed.keys;
  director = typed.director;
  image = typed.image;
  images = typed.images;
  files = typed.files;
  campaigns = typed.campaigns;
  vehicles = λ name other found. get_after-insert IsTypedVehicle rows.vehicles new.vehicle.vehicle.vehicle name other new.vehicle found vehicle (typed.vehicles name other);
  kept = λ name. by_test name (bytes_eq new.kept.vehicle name) refl;
  retired = λ name none. typed.retired name (none_before rows.vehicles new.vehicle.vehicle.vehicle name new.vehicle none);
}
  where
    by_test : (name : Name) (b : Bool) → bytes_eq new.kept.vehicle name ≡ b → AllByRecursion (IsTypedKept name) (if b then rows.kept name ++ new.kept ∷ [] else rows.kept name)
    by_test name true same = each_one_more (IsTypedKept name) (rows.kept name) new.kept (typed.kept name) (subst (λ n. IsTypedKept n new.kept) ((bytes_decides new.kept.vehicle name).0 same) is)
    by_test name false same = typed.kept name

-- what holds of the new ECU and of the others holds after a replacement
replaced_each : (P : EcuRow → Type 0) (old : Name) (new : NewEcu) (rows : List EcuRow) → P (new_row new) → AllByRecursion P rows → AllByRecursion P (map (in_place_of_row old (new_row new)) rows)
replaced_each P old new [] its all = tt
replaced_each P old new (row ∷ rows) its all = (by_test (bytes_eq row.ecu old), replaced_each P old new rows its all.1)
  where
    by_test : (b : Bool) → P (if b then new_row new else row)
    by_test true = its
    by_test false = all.0

-- the vehicles after a replacement in one that is there
pub with_there : (rows : StateRows) (new : Replacement) (was : VehicleRows) → table.get rows.vehicles new.vehicle ≡ Some was
    → (with_replaced_rows rows new).vehicles ≡ table.insert rows.vehicles new.vehicle (replaced_rows new was)
with_there rows new was there = ap (λ o. unwrap_or (option_map (λ (v : VehicleRows). table.insert rows.vehicles new.vehicle (replaced_rows new v)) o) rows.vehicles) there

pub typed_replaced : (rows : StateRows) (new : Replacement) → AreTyped rows → IsTypedEcu (new_row new.ecu) → IsReplacement new rows → AreTyped (with_replaced_rows rows new)
typed_replaced rows new typed ecu fits = record {
  founding = typed.founding;
  keys = typed.keys;
  director = typed.director;
  image = typed.image;
  images = typed.images;
  files = typed.files;
  campaigns = typed.campaigns;
  vehicles = λ name other found. get_after-insert IsTypedVehicle rows.vehicles new.vehicle name other changed (sym (is name) ∙ found) own (typed.vehicles name other);
  kept = typed.kept;
  retired = λ name none. by_test name (sym (is name) ∙ none) (bytes_eq new.vehicle name) refl;
}
  where
    changed : VehicleRows
    changed = replaced_rows new fits.was

    own : IsTypedVehicle new.vehicle changed
    own =
        let was = typed.vehicles new.vehicle fits.was fits.there in
        record { named = was.named; row = was.row; ecus = replaced_each IsTypedEcu new.old new.ecu fits.was.ecus ecu was.ecus; tell = replaced_each TellsItsHash new.old new.ecu fits.was.ecus refl was.tell }

    is : (name : Name) → table.get (with_replaced_rows rows new).vehicles name ≡ table.get (table.insert rows.vehicles new.vehicle changed) name
    is name = ap (λ t. table.get t name) (with_there rows new fits.was fits.there)

    by_test : (name : Name) → table.get (table.insert rows.vehicles new.vehicle changed) name ≡ None → (b : Bool) → bytes_eq new.vehicle name ≡ b
        → (if b then rows.retired name ++ new.old ∷ [] else rows.retired name) ≡ []
    by_test name none true same = absurd (let e = sym (get_same rows.vehicles new.vehicle changed) ∙ ap (table.get (table.insert rows.vehicles new.vehicle changed)) ((bytes_decides new.vehicle name).0 same) ∙ none in cc)
    by_test name none false same = typed.retired name (none_before rows.vehicles new.vehicle name changed none)
