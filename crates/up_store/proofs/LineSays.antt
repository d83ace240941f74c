-- The row that is written for a value says it, and where another row is that one, it says it too.
use Rattle.std.proofs.Common.{◌≡◌, refl, subst, sym}
use Rattle.up_canon.proofs.CanonLaws.{read-canon}
use Rattle.up_columns.proofs.PlansRead.{plan-there}
use Rattle.up_columns.specs.PlanColumns.{plan_column}
use Rattle.up_store.proofs.Common.{Row, Kept, VehicleRow, CampaignShown, ImageShown, ServedFile, campaign_shown_line, file_row, hash_line, image_shown_line, kept_line, key_row, row_of_vehicle, SaysCampaign, SaysFile, SaysHash, SaysImage, SaysKept, SaysKey, SaysVehicle, IsTypedCampaignRow, IsTypedFile, IsTypedHash, IsTypedImageRow, IsTypedKept, IsTypedKey, IsTypedVehicleRow}
use Rattle.up_store.proofs.KindsOfKept.{plan_words}
use Rattle.up_store.proofs.KindsOfTexts.{file_name, ident, utf8}
use Rattle.up_store.specs.declared.keys.RoleKey.{RoleKey}
use Rattle.up_store.specs.declared.second_hashes.SecondHash.{SecondHash}

pub campaign_says : (row : Row) (y : CampaignShown) → IsTypedCampaignRow y → row ≡ campaign_shown_line y → SaysCampaign row y
campaign_says row y fit same = subst (λ r. SaysCampaign r y) (sym same) (record {
  name = (refl, utf8 y.name (ident y.name fit.name));
  reach = (refl, fit.reach);
  items = (refl, fit.items);
  running = refl;
})

pub image_says : (row : Row) (y : ImageShown) → IsTypedImageRow y → row ≡ image_shown_line y → SaysImage row y
image_says row y fit same = subst (λ r. SaysImage r y) (sym same) (record {
  file = (refl, utf8 y.file (file_name y.file fit.file));
  length = refl;
  sha256 = refl;
  hardware = (refl, fit.hardware);
  release = refl;
  needs = (refl, fit.needs);
  conflicts = (refl, fit.conflicts);
})

pub hash_says : (row : Row) (y : SecondHash) → IsTypedHash y → row ≡ hash_line y → SaysHash row y
hash_says row y fit same = subst (λ r. SaysHash r y) (sym same) (record { file = (refl, fit.file); sha512 = refl; whole = fit.whole })

pub key_says : (row : Row) (y : RoleKey) → IsTypedKey y → row ≡ key_row y → SaysKey row y
key_says row y fit same = subst (λ r. SaysKey r y) (sym same) (record {
  root = refl;
  repository = (refl, fit.repository);
  role = (refl, fit.role);
  place = refl;
  secret = refl;
  threshold = refl;
})

pub file_says : (row : Row) (y : ServedFile) → IsTypedFile y → row ≡ file_row y → SaysFile row y
file_says row y fit same = subst (λ r. SaysFile r y) (sym same) (record { repository = (refl, fit.repository); name = (refl, fit.name); body = (refl, fit.body) })

pub vehicle_says : (row : Row) (y : VehicleRow) → IsTypedVehicleRow y → row ≡ row_of_vehicle y → SaysVehicle row y
vehicle_says row y fit same = subst (λ r. SaysVehicle r y) (sym same) (record {
  vehicle = (refl, utf8 y.vehicle (ident y.vehicle fit.vehicle));
  primary = (refl, utf8 y.primary (ident y.primary fit.primary));
  version = refl;
  last = refl;
})

pub kept_says : (row : Row) (y : Kept) → IsTypedKept y.vehicle y → row ≡ kept_line y → SaysKept row y
kept_says row y fit same = subst (λ r. SaysKept r y) (sym same) (record {
  vehicle = (refl, utf8 y.vehicle (ident y.vehicle fit.ident));
  counter = refl;
  version = refl;
  moment = refl;
  root = refl;
  signed = (refl, fit.signed);
  plan = (plan_column y.plan, (refl, utf8 (plan_column y.plan) (plan_words y.plan fit.plan)), plan-there read-canon y.plan fit.plan);
  reply = (refl, fit.reply);
})
