-- What an ECU wants is due to it.
use Rattle.std.proofs.Common.{◌≡◌, ◌&&◌, List, Bool, true, false, refl, subst, arith, bytes_eq, nat_lt}
use Rattle.std.specs.Prelude.{Option, Some, None, MatchOption, filter, if◌then◌else◌}
use Rattle.std.specs.Cmp.Lexicographic.{bytes_decides}
use Rattle.std.proofs.lemmas.Bool.{ltb-true, ltb-false}
use Rattle.up_canon.specs.Names.{Name}
use Rattle.up_canon.specs.Steps.{if_passes}
use Rattle.up_plan.specs.Campaigns.{CampaignData}
use Rattle.up_plan.specs.Images.{ImageData}
use Rattle.up_plan.specs.Planning.{greatest, is_offered, items_for, level, offered, reaches, wanted}
use Rattle.up_plan.specs.Laws.{HasNothingDue, IsDue, IsOffered}
use Rattle.up_plan.specs.declared.assigned.Fitted.{Fitted}
use Rattle.up_plan.proofs.Above.{greatest_in, greatest_none_above, greatest_of_none, release_le}
use Rattle.up_plan.proofs.Members.{In, in_from, contains_from, in_filter, filter_in, in_any, any_in, in_flat_map, flat_map_in, both_of, both}

module _ (campaigns : List CampaignData) (vehicle hardware : Name) (image : ImageData) where
  pub offer_of : is_offered (items_for campaigns vehicle) hardware image ≡ true → IsOffered campaigns vehicle hardware image
  offer_of h =
      let found = in_any (λ i. bytes_eq i.hardware hardware && bytes_eq i.file image.file) (items_for campaigns vehicle) h in
      let i = found.0 in
      let fits = both_of (bytes_eq i.hardware hardware) (bytes_eq i.file image.file) found.2 in
      let from = in_flat_map (λ c. c.items) (filter (λ c. c.running && reaches vehicle c.reach) campaigns) i found.1 in
      let c = from.0 in
      let kept = in_filter (λ c. c.running && reaches vehicle c.reach) campaigns c from.1 in
      let on = both_of c.running (reaches vehicle c.reach) kept.1 in
      record {
        campaign = c;
        item = i;
        opened = contains_from campaigns c kept.0;
        running = on.0;
        reached = on.1;
        listed = contains_from c.items i from.2;
        hardware_is = (bytes_decides i.hardware hardware).0 fits.0;
        file_is = (bytes_decides i.file image.file).0 fits.1;
      }

  pub of_offer : IsOffered campaigns vehicle hardware image → is_offered (items_for campaigns vehicle) hardware image ≡ true
  of_offer o =
      let c = o.campaign in
      let i = o.item in
      let kept = filter_in (λ c. c.running && reaches vehicle c.reach) campaigns c (in_from campaigns c o.opened) (both c.running (reaches vehicle c.reach) o.running o.reached) in
      let listed = flat_map_in (λ c. c.items) (filter (λ c. c.running && reaches vehicle c.reach) campaigns) c i kept (in_from c.items i o.listed) in
      any_in (λ i. bytes_eq i.hardware hardware && bytes_eq i.file image.file) (items_for campaigns vehicle) i listed
      (both (bytes_eq i.hardware hardware) (bytes_eq i.file image.file) ((bytes_decides i.hardware hardware).1 o.hardware_is) ((bytes_decides i.file image.file).1 o.file_is))

module _ (images : List ImageData) (campaigns : List CampaignData) (vehicle : Name) (e : Fitted) where
  in_offered : (image : ImageData) → In images image → IsOffered campaigns vehicle e.hardware image → In (offered images (items_for campaigns vehicle) e.hardware) image
  in_offered image known offer = filter_in (is_offered (items_for campaigns vehicle) e.hardware) images image known (of_offer campaigns vehicle e.hardware image offer)

  by_level : (g : ImageData) → greatest (offered images (items_for campaigns vehicle) e.hardware) ≡ Some g → (b : Bool) → nat_lt (level images e) g.release ≡ b
      → MatchOption (if b then Some g else None) (HasNothingDue images campaigns vehicle e) (IsDue images campaigns vehicle e)
  by_level g is true newer =
      let kept = in_filter (is_offered (items_for campaigns vehicle) e.hardware) images g (greatest_in (offered images (items_for campaigns vehicle) e.hardware) g is) in
      record {
        known = contains_from images g kept.0;
        offer = offer_of campaigns vehicle e.hardware g kept.1;
        newer = ltb-true (level images e) g.release newer;
        none_above = λ other known offer. greatest_none_above (offered images (items_for campaigns vehicle) e.hardware) g is other (in_offered other (in_from images other known) offer);
      }
  by_level g is false older =
      λ image known offer.
      let most = release_le image g (greatest_none_above (offered images (items_for campaigns vehicle) e.hardware) g is image (in_offered image (in_from images image known) offer)) in
      let least = ltb-false (level images e) g.release older in
      omega arith

  by_greatest : (o : Option ImageData) → greatest (offered images (items_for campaigns vehicle) e.hardware) ≡ o
      → MatchOption (if_passes (λ image. nat_lt (level images e) image.release) o) (HasNothingDue images campaigns vehicle e) (IsDue images campaigns vehicle e)
  by_greatest None none = λ image known offer. absurd (greatest_of_none (offered images (items_for campaigns vehicle) e.hardware) none image (in_offered image (in_from images image known) offer))
  by_greatest (Some g) is = by_level g is (nat_lt (level images e) g.release) refl

  pub wanted_due : MatchOption (wanted images (items_for campaigns vehicle) e) (HasNothingDue images campaigns vehicle e) (IsDue images campaigns vehicle e)
  wanted_due = by_greatest (greatest (offered images (items_for campaigns vehicle) e.hardware)) refl

  pub due_of : (image : ImageData) → wanted images (items_for campaigns vehicle) e ≡ Some image → IsDue images campaigns vehicle e image
  due_of image is = let P : Option ImageData → Type 0 = λ o. MatchOption o (HasNothingDue images campaigns vehicle e) (IsDue images campaigns vehicle e) in subst P is wanted_due
