-- The tables of images and of campaigns, read whole.
use Rattle.std.proofs.Common.{◌≡◌, ℕ, ◌+◌, ◌<◌, List, [], ◌∷◌, Bool, true, Option, Some, None, length, take, get_or, refl, sym, ap, ◌∙◌}
use Rattle.std.specs.FinMap as table
use Rattle.up_store.specs.declared.second_hashes.SecondHash.{SecondHash}
use Rattle.up_store.proofs.Common.{Name, Table, if_passes, CampaignData, ImageData, CampaignShown, ImageShown, sha512_line, IsImage, IsCampaign, AreImages, AreSha512s, AreHashesOf, AreRunning, values_where, campaign_shown_line, hash_line, image_line, image_lines, image_shown_line, line_of_campaign, second_hash, sha512_lines, campaign_lines, IsTypedImage, IsTypedCampaign}
use Rattle.up_store.proofs.ColumnFound.{image_shown, campaign_shown}
use Rattle.up_store.proofs.ValuesWhere.{get_where}
use Rattle.up_store.proofs.WholeTables as whole
use Rattle.up_machine.proofs.Planned.{if_passes_some}

-- ---- images

abbrev image_key : ImageShown → Name
image_key shown = shown.file

abbrev any_image : ImageData → Bool
any_image image = true

-- the images of these rows
abbrev pub AreSofar : List ImageShown → Table ImageData → Table ImageData → Type 0
AreSofar rows images t = whole.IsSofar image_key image_shown_line (λ n. image_lines) (λ n. image_line) (λ n. refl) (λ n x. refl) any_image (λ n. table.get images n) rows t

pub images_begun : (images : Table ImageData) → AreSofar [] images table.empty
images_begun images = whole.begun image_key image_shown_line (λ n. image_lines) (λ n. image_line) (λ n. refl) (λ n x. refl) any_image (λ n. table.get images n)

pub images_more : (images : Table ImageData) (hashes : Table (List ℕ)) (rows : List ImageShown) (i : ℕ) (r : ImageShown) (t next : Table ImageData) → i < length rows → r ≡ get_or rows i r → AreImages rows images → AreHashesOf hashes images
    → ((file : Name) (image : ImageData) → IsTypedImage file image → IsImage r image → table.get hashes image.file ≡ image.sha512 → next ≡ table.insert t image.file image)
    → AreSofar (take i rows) images t → AreSofar (take (i + 1) rows) images next
images_more images hashes rows i r t next h at are told put so =
    let is = whole.row_is image_key image_shown_line (λ n. image_lines) (λ n. image_line) (λ n. refl) (λ n x. refl) any_image (λ n. table.get images n) rows i r h at are.each in
    let same = image_shown is.value r is.same in
    whole.more image_key image_shown_line (λ n. image_lines) (λ n. image_line) (λ n. refl) (λ n x. refl) any_image (λ n. table.get images n) rows i r is.value t next h at is.there
    (put (image_key r) is.value (are.typed (image_key r) is.value is.there) same (told is.value.file ∙ ap (λ name. second_hash (table.get images name)) (sym same.file) ∙ ap second_hash is.there) ∙ ap (λ name. table.insert t name is.value) (sym same.file)) so

-- each row is of an image
pub image_of : (images : Table ImageData) (rows : List ImageShown) (i : ℕ) (r : ImageShown) → i < length rows → r ≡ get_or rows i r → AreImages rows images
    → (image : ImageData) × (table.get images (image_key r) ≡ Some image) × IsImage r image
image_of images rows i r h at are =
    let is = whole.row_is image_key image_shown_line (λ n. image_lines) (λ n. image_line) (λ n. refl) (λ n x. refl) any_image (λ n. table.get images n) rows i r h at are.each in
    (is.value, is.there, image_shown is.value r is.same)

any_passes : (o : Option ImageData) → if_passes any_image o ≡ o
any_passes None = refl
any_passes (Some image) = refl

pub images_ended : (images : Table ImageData) (rows : List ImageShown) (t : Table ImageData) → AreImages rows images → AreSofar rows images t → t ≡ images
images_ended images rows t are so =
    whole.same_table t images (λ n. whole.ended image_key image_shown_line (λ n. image_lines) (λ n. image_line) (λ n. refl) (λ n x. refl) any_image (λ m. table.get images m) rows t are.each so n ∙ any_passes (table.get images n))

-- ---- the second hashes of images

abbrev hash_key : SecondHash → Name
hash_key shown = shown.file

abbrev any_hash : List ℕ → Bool
any_hash hash = true

abbrev hash_at : Table ImageData → Name → Option (List ℕ)
hash_at images n = second_hash (table.get images n)

-- the second hashes of these rows
abbrev pub AreHashesSofar : List SecondHash → Table ImageData → Table (List ℕ) → Type 0
AreHashesSofar rows images t = whole.IsSofar hash_key hash_line sha512_lines sha512_line (λ n. refl) (λ n x. refl) any_hash (hash_at images) rows t

pub hashes_begun : (images : Table ImageData) → AreHashesSofar [] images table.empty
hashes_begun images = whole.begun hash_key hash_line sha512_lines sha512_line (λ n. refl) (λ n x. refl) any_hash (hash_at images)

the_hash : (n : Name) (hash : List ℕ) (r : SecondHash) → sha512_lines n (Some hash) ≡ hash_line r ∷ [] → r.sha512 ≡ hash
the_hash n hash r h = cc

pub hashes_more : (images : Table ImageData) (rows : List SecondHash) (i : ℕ) (r : SecondHash) (t next : Table (List ℕ)) → i < length rows → r ≡ get_or rows i r → AreSha512s rows images
    → next ≡ table.insert t r.file r.sha512 → AreHashesSofar (take i rows) images t → AreHashesSofar (take (i + 1) rows) images next
hashes_more images rows i r t next h at are put so =
    let is = whole.row_is hash_key hash_line sha512_lines sha512_line (λ n. refl) (λ n x. refl) any_hash (hash_at images) rows i r h at are in
    whole.more hash_key hash_line sha512_lines sha512_line (λ n. refl) (λ n x. refl) any_hash (hash_at images) rows i r is.value t next h at is.there
    (put ∙ ap (table.insert t (hash_key r)) (the_hash (hash_key r) is.value r is.same)) so

any_hash_passes : (o : Option (List ℕ)) → if_passes any_hash o ≡ o
any_hash_passes None = refl
any_hash_passes (Some hash) = refl

pub hashes_ended : (images : Table ImageData) (rows : List SecondHash) (t : Table (List ℕ)) → AreSha512s rows images → AreHashesSofar rows images t → AreHashesOf t images
hashes_ended images rows t are so n =
    whole.ended hash_key hash_line sha512_lines sha512_line (λ n. refl) (λ n x. refl) any_hash (hash_at images) rows t are so n ∙ any_hash_passes (hash_at images n)

-- ---- running campaigns

abbrev campaign_key : CampaignShown → Name
campaign_key shown = shown.name

abbrev is_running : CampaignData → Bool
is_running c = c.running

abbrev running : Table CampaignData → Name → Option CampaignData
running campaigns n = if_passes is_running (table.get campaigns n)

-- each row is of a campaign
pub campaign_of : (campaigns : Table CampaignData) (rows : List CampaignShown) (i : ℕ) (r : CampaignShown) → i < length rows → r ≡ get_or rows i r → AreRunning rows campaigns
    → (campaign : CampaignData) × (table.get campaigns (campaign_key r) ≡ Some campaign) × IsCampaign r campaign
campaign_of campaigns rows i r h at are =
    let is = whole.row_is campaign_key campaign_shown_line (λ n. campaign_lines) (λ n. line_of_campaign) (λ n. refl) (λ n x. refl) is_running (running campaigns) rows i r h at are.each in
    (is.value, if_passes_some is_running (table.get campaigns (campaign_key r)) is.value is.there, campaign_shown is.value r is.same)

-- ---- all running campaigns

abbrev any_campaign : CampaignData → Bool
any_campaign campaign = true

-- those of these rows
abbrev pub AreRead : List CampaignShown → Table CampaignData → Table CampaignData → Type 0
AreRead rows campaigns t = whole.IsSofar campaign_key campaign_shown_line (λ n. campaign_lines) (λ n. line_of_campaign) (λ n. refl) (λ n x. refl) any_campaign (running campaigns) rows t

pub running_begun : (campaigns : Table CampaignData) → AreRead [] campaigns table.empty
running_begun campaigns = whole.begun campaign_key campaign_shown_line (λ n. campaign_lines) (λ n. line_of_campaign) (λ n. refl) (λ n x. refl) any_campaign (running campaigns)

pub running_more : (campaigns : Table CampaignData) (rows : List CampaignShown) (i : ℕ) (r : CampaignShown) (t next : Table CampaignData) → i < length rows → r ≡ get_or rows i r → AreRunning rows campaigns
    → ((name : Name) (campaign : CampaignData) → IsTypedCampaign name campaign → IsCampaign r campaign → next ≡ table.insert t campaign.name campaign)
    → AreRead (take i rows) campaigns t → AreRead (take (i + 1) rows) campaigns next
running_more campaigns rows i r t next h at are put so =
    let is = whole.row_is campaign_key campaign_shown_line (λ n. campaign_lines) (λ n. line_of_campaign) (λ n. refl) (λ n x. refl) any_campaign (running campaigns) rows i r h at are.each in
    let same = campaign_shown is.value r is.same in
    whole.more campaign_key campaign_shown_line (λ n. campaign_lines) (λ n. line_of_campaign) (λ n. refl) (λ n x. refl) any_campaign (running campaigns) rows i r is.value t next h at is.there
    (put (campaign_key r) is.value (are.typed (campaign_key r) is.value (if_passes_some is_running (table.get campaigns (campaign_key r)) is.value is.there)) same
    ∙ ap (λ name. table.insert t name is.value) (sym same.name)) so

any_campaign_passes : (o : Option CampaignData) → if_passes any_campaign o ≡ o
any_campaign_passes None = refl
any_campaign_passes (Some campaign) = refl

pub running_ended : (campaigns : Table CampaignData) (rows : List CampaignShown) (t : Table CampaignData) → AreRunning rows campaigns → AreRead rows campaigns t → t ≡ values_where (λ c. c.running) campaigns
running_ended campaigns rows t are so =
    whole.same_table t _ (λ n. whole.ended campaign_key campaign_shown_line (λ n. campaign_lines) (λ n. line_of_campaign) (λ n. refl) (λ n x. refl) any_campaign (running campaigns) rows t are.each so n
    ∙ any_campaign_passes (running campaigns n) ∙ sym (get_where (λ c. c.running) campaigns n))
