-- The laws of plans.
use Rattle.std.proofs.Common.{◌≡◌, List, [], true, sym, ◌∙◌, ap, inl, inr}
use Rattle.std.specs.Cmp.{both_ways}
use Rattle.std.specs.List.Sorted.{IsPermutation}
use Rattle.std.proofs.lemmas.List.Sorted.{Contains-permutation, IsPermutation-sym}
use Rattle.up_canon.specs.Names.{Name}
use Rattle.up_canon.specs.Steps.{first_or_none}
use Rattle.up_plan.specs.Campaigns.{CampaignData}
use Rattle.up_plan.specs.Images.{ImageData}
use Rattle.up_plan.specs.Planning.{is_offered, items_for, plan_from, plan_of, plan_with, resulting, unmet, updates}
use Rattle.up_plan.specs.Laws.{AllOrNone, AssignedIsConsistent, AssignedIsDue, CampaignsInAnyOrder, ImagesInAnyOrder, IsOffered, IsUpdate, NothingWanted, OthersChangeNothing, WantedIsDue, WithheldHasCause, WithheldIsFirstUnmet, demands}
use Rattle.up_plan.specs.Offers.{OffersAloneCount}
use Rattle.up_plan.proofs.Due.{due_of, of_offer, offer_of, wanted_due}
use Rattle.up_plan.proofs.FirstUnmet.{first_splits, none_unmet, unmet_is}
use Rattle.up_plan.proofs.Members.{all_from, contains_from, in_from}
use Rattle.up_plan.proofs.Orders.{items_without, same_images, same_offers}
use Rattle.up_plan.proofs.Updates.{all_or_none_of, assigned_of, is_update, named_of, nil_of, update_is, withheld_of}

pub wanted_is_due : WantedIsDue
wanted_is_due = wanted_due

pub assigned_is_due : AssignedIsDue
unfolding plan_of
assigned_is_due images campaigns vehicle fitted =
    let items = items_for campaigns vehicle in
    let set = resulting images items fitted in
    all_from (IsUpdate images campaigns vehicle fitted) (plan_from set).assigned
    (λ a h.
    let wish = update_is images items fitted a (assigned_of (updates set) (first_or_none (unmet set)) a h).0 in
    record {
      e = wish.e;
      image = wish.image;
      present = contains_from fitted wish.e wish.present;
      ecu_is = wish.ecu_is;
      file_is = wish.file_is;
      due = due_of images campaigns vehicle wish.e wish.image wish.wish;
    })

pub all_or_none : AllOrNone
unfolding plan_of
all_or_none images campaigns vehicle fitted =
    let items = items_for campaigns vehicle in
    let set = resulting images items fitted in
    elim (all_or_none_of (updates set) (first_or_none (unmet set))) [
      | inl none ↦ inl none
      | inr all ↦ inr (λ e image here wish.
          rw all (contains_from (updates set) (record { ecu = e.ecu; file = image.file }) (is_update images items fitted e image (in_from fitted e here) wish)))
    ]

pub nothing_wanted : NothingWanted
unfolding plan_of
nothing_wanted images campaigns vehicle fitted none =
    let items = items_for campaigns vehicle in
    let set = resulting images items fitted in
    let empty : updates set ≡ [] =
    nil_of (updates set) (λ a h.
    let wish = update_is images items fitted a h in
    let no = sym (none wish.e (contains_from fitted wish.e wish.present)) ∙ wish.wish in
    cc) in
    ap (λ us. plan_with us (first_or_none (unmet set))) empty

pub withheld_is_first : WithheldIsFirstUnmet
unfolding plan_of
withheld_is_first images campaigns vehicle fitted cause held =
    let set = resulting images (items_for campaigns vehicle) fitted in
    let parts = withheld_of (updates set) (first_or_none (unmet set)) cause held in
    let ds = demands images campaigns vehicle fitted in
    let split = first_splits cause ds (ap first_or_none (sym (unmet_is set)) ∙ parts.1) in (
      parts.0,
      record { before = split.before; after = split.after; order = split.order; met = all_from (λ d. d.1 ≡ true) split.before split.met },
    )

pub withheld_has_cause : WithheldHasCause
unfolding plan_of
withheld_has_cause images campaigns vehicle fitted e image here wish none =
    let items = items_for campaigns vehicle in
    let set = resulting images items fitted in
    named_of (updates set) (first_or_none (unmet set)) (record { ecu = e.ecu; file = image.file }) (is_update images items fitted e image (in_from fitted e here) wish) none

pub assigned_is_consistent : AssignedIsConsistent
unfolding plan_of
assigned_is_consistent images campaigns vehicle fitted a here =
    let set = resulting images (items_for campaigns vehicle) fitted in
    let ds = demands images campaigns vehicle fitted in
    let free = (assigned_of (updates set) (first_or_none (unmet set)) a (in_from (plan_from set).assigned a here)).1 in
    all_from (λ d. d.1 ≡ true) ds (none_unmet ds (ap first_or_none (sym (unmet_is set)) ∙ free))

pub others_change_nothing : OthersChangeNothing
unfolding plan_of
others_change_nothing images before after c vehicle fitted off =
    ap (λ items. plan_from (resulting images items fitted)) (items_without before after c vehicle off)

moved : (campaigns others : List CampaignData) (vehicle hardware : Name) (image : ImageData) → IsPermutation campaigns others → IsOffered campaigns vehicle hardware image → IsOffered others vehicle hardware image
moved campaigns others vehicle hardware image order o =
    record {
      campaign = o.campaign;
      item = o.item;
      opened = Contains-permutation campaigns others o.campaign order o.opened;
      running = o.running;
      reached = o.reached;
      listed = o.listed;
      hardware_is = o.hardware_is;
      file_is = o.file_is;
    }

pub campaigns_in_any_order : CampaignsInAnyOrder
unfolding plan_of
campaigns_in_any_order images campaigns others vehicle fitted order =
    ap plan_from
    (same_offers images (items_for campaigns vehicle) (items_for others vehicle) fitted
    (λ hardware image. both_ways (is_offered (items_for campaigns vehicle) hardware image) (is_offered (items_for others vehicle) hardware image)
    (λ on. of_offer others vehicle hardware image (moved campaigns others vehicle hardware image order (offer_of campaigns vehicle hardware image on)))
    (λ on. of_offer campaigns vehicle hardware image (moved others campaigns vehicle hardware image (IsPermutation-sym campaigns others order) (offer_of others vehicle hardware image on)))))

pub images_in_any_order : ImagesInAnyOrder
unfolding plan_of
images_in_any_order images others campaigns vehicle fitted distinct order =
    ap plan_from
    (same_images images others
    (λ x h. in_from others x (Contains-permutation images others x order (contains_from images x h)))
    (λ x h. in_from images x (Contains-permutation others images x (IsPermutation-sym images others order) (contains_from others x h)))
    (λ a b h k same. distinct a b (contains_from images a h) (contains_from images b k) same)
    (items_for campaigns vehicle) fitted)

pub offers_alone_count : OffersAloneCount
offers_alone_count images items others fitted same = ap plan_from (same_offers images items others fitted same)
