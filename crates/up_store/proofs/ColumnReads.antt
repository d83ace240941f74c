-- Values of rows with columns, part by part.
use Rattle.std.proofs.Common.{◌≡◌, ℕ, List, Bool, Option}
use Rattle.up_store.proofs.Common.{Name, CampaignData, ImageData, Item, Reach, Need, image_made, campaign_made}

pub same_image : (image : ImageData) (file : Name) (size : ℕ) (sha256 : List ℕ) (sha512 : Option (List ℕ)) (hardware : List Name) (release : ℕ) (needs : List Need) (conflicts : List Name)
    → file ≡ image.file → size ≡ image.length → sha256 ≡ image.sha256 → sha512 ≡ image.sha512 → hardware ≡ image.hardware → release ≡ image.release → needs ≡ image.needs → conflicts ≡ image.conflicts
    → image_made file size sha256 sha512 hardware release needs conflicts ≡ image
same_image image file size sha256 sha512 hardware release needs conflicts a b c d e f g h = λ i. image_made (a i) (b i) (c i) (d i) (e i) (f i) (g i) (h i)

pub same_campaign : (campaign : CampaignData) (name : Name) (reach : Reach) (items : List Item) (running : Bool)
    → name ≡ campaign.name → reach ≡ campaign.reach → items ≡ campaign.items → running ≡ campaign.running → campaign_made name reach items running ≡ campaign
same_campaign campaign name reach items running a b c d = λ i. campaign_made (a i) (b i) (c i) (d i)
