-- What is assigned in a sound state may be installed on the hardware of its ECU.
use Rattle.std.proofs.Common.{◌≡◌, List, Bool, true, false, Some, sym, ap, ◌∙◌}
use Rattle.std.specs.Prelude.{option_map, unwrap_or}
use Rattle.std.specs.List.{Contains, list_all}
use Rattle.std.specs.FinMap as table
use Rattle.std.proofs.lemmas.List.Elements.{All-contains, All-from_recursion, All-weaker}
use Rattle.up_canon.specs.Names.{Name, Table}
use Rattle.up_plan.specs.declared.campaign.Item.{Item}
use Rattle.up_plan.specs.Images.{ImageData}
use Rattle.up_plan.specs.Planning.{is_for, plan_of}
use Rattle.up_plan.specs.Laws.{AssignedIsDue, IsUpdate}
use Rattle.up_metadata.proofs.Lists.{each_passes}
use Rattle.up_machine.specs.Inventory.{has_its_hardware}
use Rattle.up_machine.specs.Laws.{FitsItsEcu, AssignedFitTheirEcus}
use Rattle.up_machine.specs.State.{State}
use Rattle.up_machine.proofs.Values.{each_value}

-- a value stands at a name
named : {X : Type 0} (t : Table X) (x : X) → Contains (table.values t) x → (q : Name) × (table.get t q ≡ Some x)
named {X} t x among =
    All-contains (λ (y : X). (q : Name) × (table.get t q ≡ Some y)) (table.values t) x
    (All-from_recursion (λ (y : X). (q : Name) × (table.get t q ≡ Some y)) (table.values t) (each_value (λ (y : X). (q : Name) × (table.get t q ≡ Some y)) t (λ q y h. (q, h)))) among

passes : {X : Type 0} (p : X → Bool) (xs : List X) (x : X) → list_all p xs ≡ true → Contains xs x → p x ≡ true
passes {X} p xs x all among = All-contains (λ (y : X). p y ≡ true) xs x (All-from_recursion (λ (y : X). p y ≡ true) xs (each_passes p xs all)) among

-- an item of a sound campaign is for the hardware that it names
item_fits : (s : State) (item : Item) (hardware : Name) (image : ImageData) → has_its_hardware s item ≡ true → item.hardware ≡ hardware → table.get s.images item.file ≡ Some image
    → is_for hardware image ≡ true
item_fits s item hardware image has named there =
    sym (ap (λ o. unwrap_or (option_map (is_for hardware) o) false) there) ∙ (sym (ap (λ h. unwrap_or (option_map (is_for h) (table.get s.images item.file)) false) named) ∙ has)

pub assigned_fit : AssignedIsDue → AssignedFitTheirEcus
assigned_fit law k s vehicle fitted sound =
    let images = table.values s.images in
    let campaigns = table.values s.campaigns in
    All-weaker (IsUpdate images campaigns vehicle fitted) (FitsItsEcu s fitted)
    (λ a u.
    let offer = u.due.offer in
    let at = named s.images u.image u.due.known in
    let there : table.get s.images u.image.file ≡ Some u.image = ap (table.get s.images) ((sound.repositories.each_image at.0 u.image at.1).named) ∙ at.1 in
    let of = named s.campaigns offer.campaign offer.opened in
    record {
      e = u.e;
      image = u.image;
      present = u.present;
      ecu_is = u.ecu_is;
      known = ap (table.get s.images) u.file_is ∙ there;
      hardware = item_fits s offer.item u.e.hardware u.image (passes (has_its_hardware s) offer.campaign.items offer.item (sound.campaigns of.0 offer.campaign of.1).hardware offer.listed)
          offer.hardware_is (ap (table.get s.images) offer.file_is ∙ there);
    })
    (plan_of images campaigns vehicle fitted).assigned (law images campaigns vehicle fitted)
