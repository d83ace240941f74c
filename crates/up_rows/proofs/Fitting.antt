-- What a decision says of the rows that it answers.
use Rattle.std.proofs.Common.{◌≡◌, ℕ, true, Some, None, ◌⊎◌, inl, inr, ap, subst}
use Rattle.std.specs.FinMap as table
use Rattle.up_sign.specs.Schemes.{Rules}
use Rattle.up_plan.specs.Campaigns.{CampaignData}
use Rattle.up_plan.specs.Images.{ImageData}
use Rattle.up_machine.specs.declared.answer.Answer.TheVariants.{Done, Already}
use Rattle.up_machine.specs.declared.vehicle.Replacement.{Replacement}
use Rattle.up_machine.specs.Deciding.{Outcome, done, already}
use Rattle.up_machine.specs.Inventory.{with_replacement}
use Rattle.up_machine.specs.Sound.{IsSound}
use Rattle.up_machine.specs.State.{Vehicle, State}
use Rattle.up_machine.specs.Vehicles.{NewVehicleData, has_ecu}
use Rattle.up_canon.proofs.Steps.{one_value}
use Rattle.up_machine.proofs.Decided.{IsAddedImage, image_ok, IsAddedVehicle, vehicle_ok, IsReplaced, replace_ok, IsOpened, open_ok}
use Rattle.up_rows.specs.Fitting.{NewImagesAreNew, IsNewVehicle, NewVehiclesAreNew, IsFittingReplacement, ReplacementsFit, NewCampaignsAreNew}

-- what is done isn't there already
not_already : {A : Type 0} (s next : State) → already s ≡ done next → A
not_already s next same = let answers : Already ≡ Done = ap (λ (o : Outcome). o.answer) same in cc

new_image : (k : Rules) (s next : State) (at : ℕ) (image : ImageData) → (already s ≡ done next) ⊎ IsAddedImage k s at image (done next) → table.get s.images image.file ≡ None
new_image k s next at image (inl same) = not_already s next same
new_image k s next at image (inr is) = is.none

pub images_new : NewImagesAreNew
images_new k s at version image h = new_image k s _ at image (image_ok k s at image _ h)

new_vehicle : (k : Rules) (s next : State) (new : NewVehicleData) → (already s ≡ done next) ⊎ IsAddedVehicle k s new (done next) → IsNewVehicle s new
new_vehicle k s next new (inl same) = not_already s next same
new_vehicle k s next new (inr is) = record { none = is.none; once = is.once; free = is.free }

pub vehicles_new : NewVehiclesAreNew
vehicles_new k s at new h = new_vehicle k s _ new (vehicle_ok k s at new _ h)

fitting_replacement : (k : Rules) (s : State) (r : Replacement) (v : Vehicle) → IsSound k s → table.get s.vehicles r.vehicle ≡ Some v → IsReplaced k s r (done (with_replacement s r v)) → IsFittingReplacement s r v
fitting_replacement k s r v sound there is =
    let same : is.vehicle ≡ v = one_value (table.get s.vehicles r.vehicle) is.vehicle v is.there there in
    record { there = there; has = subst (λ (w : Vehicle). has_ecu r.old w.ecus ≡ true) same is.has; once = (sound.vehicles r.vehicle v there).once; free = is.free }

pub replacements_fit : ReplacementsFit
replacements_fit k s at r v sound there h = fitting_replacement k s r v sound there (replace_ok k s at r _ h)

new_campaign : (s next : State) (campaign : CampaignData) → (already s ≡ done next) ⊎ IsOpened s campaign (done next) → table.get s.campaigns campaign.name ≡ None
new_campaign s next campaign (inl same) = not_already s next same
new_campaign s next campaign (inr is) = is.none

pub campaigns_new : NewCampaignsAreNew
campaigns_new s at campaign h = new_campaign s _ campaign (open_ok s at campaign _ h)
