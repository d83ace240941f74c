-- States stay within the limits that the types of their parts keep.
use Rattle.std.proofs.Common.{◌≡◌, ℕ, List, [], ◌∷◌, ◌++◌, Bool, true, false, cond, Option, Some, None, Ok, inl, inr, refl, sym, ap, ◌∙◌, subst}
use Rattle.std.specs.Prelude.{◌&&◌, ◌||◌, map, bytes_eq, IsTrue}
use Rattle.std.specs.List.{list_all, list_any}
use Rattle.std.specs.FinMap as table
use Rattle.std.specs.FinMap.{get-empty}
use Rattle.std.specs.Ordering.{nat_cmp}
use Rattle.std.specs.Cmp.Lexicographic.{slice_cmp}
use Rattle.std.proofs.lemmas.List.Folds.{list_all-map}
use Rattle.up_canon.specs.Names.{Name, is_ident}
use Rattle.up_sign.specs.Schemes.{Rules}
use Rattle.up_plan.specs.Images.{ImageData}
use Rattle.up_machine.specs.declared.command.Command.{Command}
use Rattle.up_machine.specs.declared.command.Command.TheVariants.{Found, Rotate, AddImage, Refresh, AddVehicle, ReplaceEcu, OpenCampaign, CloseCampaign, Deliver, Fetch}
use Rattle.up_machine.specs.declared.vehicle.NewEcu.{NewEcu}
use Rattle.up_machine.specs.Vehicles.{has_ecu, is_among, in_place_of, ecu_names}
use Rattle.up_machine.specs.State.{Entry, Vehicle, State, is_taken_in}
use Rattle.up_machine.specs.Deciding.{Outcome}
use Rattle.up_machine.specs.Inventory.{with_replaced}
use Rattle.up_machine.specs.Machine.{decide, step}
use Rattle.up_metadata.proofs.Lists.{and_left, and_right}
use Rattle.up_machine.proofs.Tables.{get_after-insert}
use Rattle.up_machine.proofs.Decided.{found_ok, rotate_ok, image_ok, refresh_ok, vehicle_ok, replace_ok, open_ok, close_ok, delivery_ok, fetch_ok}
use Rattle.up_machine.proofs.Growing.{by_decision}
use Rattle.up_machine.proofs.Receiving.{received}
use Rattle.up_laws.proofs.Plans.{one_passes}
use Rattle.up_laws.specs.Typed.{image_is_typed, IsTypedVehicle, IsTyped, command_is_typed, EmptyIsTyped, StepsStayTyped, RunsStayTyped}

pub empty_typed : EmptyIsTyped
empty_typed = record {
  images = λ file image h. let none = get-empty {X = ImageData} (slice_cmp nat_cmp) file in cc;
  vehicles = λ name v h. let none = get-empty {X = Vehicle} (slice_cmp nat_cmp) name in cc;
}

-- ---- names that are taken are identifiers

of_ecu : (p : Name → Bool) (ecus : List NewEcu) (n : Name) → list_all p (ecu_names ecus) ≡ true → has_ecu n ecus ≡ true → p n ≡ true
of_ecu p ecus n all h = one_passes (λ (e : NewEcu). e.ecu) p ecus n (sym (list_all-map p (λ (e : NewEcu). e.ecu) ecus) ∙ all) h

of_retired : (p : Name → Bool) (names : List Name) (n : Name) → list_all p names ≡ true → is_among n names ≡ true → p n ≡ true
of_retired p names n all h = one_passes (λ (x : Name). x) p names n all h

pub taken_is_ident : (name : Name) (v : Vehicle) → IsTypedVehicle name v → (n : Name) → is_taken_in n v ≡ true → is_ident n ≡ true
taken_is_ident name v typed n h = by_ecu (has_ecu n v.ecus) refl h
  where
    by_ecu : (b : Bool) → has_ecu n v.ecus ≡ b → (b || is_among n v.retired) ≡ true → is_ident n ≡ true
    by_ecu true is h = of_ecu is_ident v.ecus n typed.ecus is
    by_ecu false is h = of_retired is_ident v.retired n typed.retired h

-- ---- replaced ECUs

replaced_names : (p : Name → Bool) (old : Name) (new : NewEcu) (ecus : List NewEcu) → p new.ecu ≡ true → list_all p (ecu_names ecus) ≡ true → list_all p (ecu_names (map (in_place_of old new) ecus)) ≡ true
replaced_names p old new [] is h = refl
replaced_names p old new (e ∷ ecus) is h = by_name (bytes_eq e.ecu old) (and_left _ _ h) (replaced_names p old new ecus is (and_right (p e.ecu) _ h))
  where
    by_name : (b : Bool) → p e.ecu ≡ true → list_all p (ecu_names (map (in_place_of old new) ecus)) ≡ true → list_all p (ecu_names ((cond b new e) ∷ map (in_place_of old new) ecus)) ≡ true
    by_name true here rest = rw (is, rest)
    by_name false here rest = rw (here, rest)

one_more_name : (p : Name → Bool) (names : List Name) (n : Name) → list_all p names ≡ true → p n ≡ true → list_all p (names ++ n ∷ []) ≡ true
one_more_name p [] n h is = rw is refl
one_more_name p (x ∷ names) n h is =
    let here : p x ≡ true = and_left _ _ h in
    rw (here, one_more_name p names n (and_right (p x) _ h) is)

replaced_typed : (name : Name) (v : Vehicle) (old : Name) (new : NewEcu) → IsTypedVehicle name v → has_ecu old v.ecus ≡ true → is_ident new.ecu ≡ true → IsTypedVehicle name (with_replaced v old new)
replaced_typed name v old new typed has is = record {
  named = typed.named;
  ecus = replaced_names is_ident old new v.ecus is typed.ecus;
  retired = one_more_name is_ident v.retired old typed.retired (of_ecu is_ident v.ecus old typed.ecus has);
}

-- ---- each outcome

-- with one vehicle changed, and with one image
one_changed : (s : State) (name : Name) (w : Vehicle) → IsTyped s → IsTypedVehicle name w → IsTyped (record s { vehicles = table.insert s.vehicles name w })
one_changed s name w typed new = record {
  images = typed.images;
  vehicles = λ q v found. get_after-insert IsTypedVehicle s.vehicles name q v w found new (typed.vehicles q v);
}

abbrev Typed : ImageData → Type 0
Typed image = IsTrue (image_is_typed image)

acted : (k : Rules) (s : State) (at : ℕ) (c : Command) (o : Outcome) → command_is_typed c ≡ true → IsTyped s → decide k s at c ≡ Ok o → IsTyped o.next
acted k s at (Found keys) o fits typed h =
    subst (λ (o : Outcome). IsTyped o.next) (found_ok k s at keys o h).is (record { images = typed.images; vehicles = typed.vehicles })
acted k s at (Rotate keys) o fits typed h =
    subst (λ (o : Outcome). IsTyped o.next) (rotate_ok k s at keys o h).is (record { images = typed.images; vehicles = typed.vehicles })
acted k s at (AddImage image) o fits typed h = elim (image_ok k s at image o h) [
  | inl same ↦ subst (λ (o : Outcome). IsTyped o.next) same typed
  | inr is ↦ subst (λ (o : Outcome). IsTyped o.next) is.is (record {
    images = λ file x found. get_after-insert (λ n. Typed) s.images image.file file x image found fits (typed.images file x);
    vehicles = typed.vehicles;
  })
]
acted k s at (Refresh version) o fits typed h =
    subst (λ (o : Outcome). IsTyped o.next) (refresh_ok k s at version o h).is (record { images = typed.images; vehicles = typed.vehicles })
acted k s at (AddVehicle new) o fits typed h = elim (vehicle_ok k s at new o h) [
  | inl same ↦ subst (λ (o : Outcome). IsTyped o.next) same typed
  | inr is ↦ subst (λ (o : Outcome). IsTyped o.next) is.is (one_changed s new.vehicle _ typed (record { named = and_left _ _ fits; ecus = and_right (is_ident new.vehicle) _ fits; retired = refl }))
]
acted k s at (ReplaceEcu r) o fits typed h =
    let is = replace_ok k s at r o h in
    subst (λ (o : Outcome). IsTyped o.next) is.is (one_changed s r.vehicle _ typed (replaced_typed r.vehicle is.vehicle r.old r.ecu (typed.vehicles r.vehicle is.vehicle is.there) is.has fits))
acted k s at (OpenCampaign campaign) o fits typed h = elim (open_ok s at campaign o h) [
  | inl same ↦ subst (λ (o : Outcome). IsTyped o.next) same typed
  | inr is ↦ subst (λ (o : Outcome). IsTyped o.next) is.is (record { images = typed.images; vehicles = typed.vehicles })
]
acted k s at (CloseCampaign name) o fits typed h = elim (close_ok s at name o h) [
  | inl same ↦ subst (λ (o : Outcome). IsTyped o.next) same typed
  | inr is ↦ subst (λ (o : Outcome). IsTyped o.next) is.is (record { images = typed.images; vehicles = typed.vehicles })
]
acted k s at (Deliver body) o fits typed h =
    let is = delivery_ok k s at body o h in
    let r = is.received in
    let of = typed.vehicles r.incoming.manifest.vehicle r.vehicle (received k s at body r is.receives).vehicle in
    subst (λ (o : Outcome). IsTyped o.next) is.is (one_changed s r.incoming.manifest.vehicle _ typed (record { named = of.named; ecus = of.ecus; retired = of.retired }))
acted k s at (Fetch repository name) o fits typed h = subst (λ (o : Outcome). IsTyped o.next) (fetch_ok s at repository name o h).2 typed

pub steps_typed : StepsStayTyped
unfolding step
steps_typed k s at c fits typed = by_decision s (decide k s at c) IsTyped typed (λ o h. acted k s at c o fits typed h)

pub runs_typed : RunsStayTyped
runs_typed k s [] fits typed = typed
runs_typed k s (t ∷ ts) fits typed = runs_typed k (step k s t.at t.command).next ts fits.1 (steps_typed k s t.at t.command fits.0 typed)
