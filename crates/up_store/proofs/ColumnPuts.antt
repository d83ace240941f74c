-- Images, campaigns and kept manifests are put into the tables.
use Rattle.std.proofs.Common.{◌≡◌, ℕ, List, [], ◌∷◌, ◌++◌, Bool, true, false, Option, Some, None, Result, Ok, Err, OnOk, IsTrue, refl, sym, ap, ◌∙◌, bytes_eq, append-nil}
use Rattle.std.specs.FinMap as table
use Rattle.sqlite.specs.Table.{Table as Written}
use Rattle.up_tables.specs.declared.campaign.CampaignRow.{CampaignRow}
use Rattle.up_tables.specs.declared.image.ImageRow.{ImageRow}
use Rattle.up_tables.specs.declared.kept.KeptRow.{KeptRow}
use Rattle.up_store.proofs.Common.{if◌then◌else◌, IfSome, length, Row, Connected, Name, Table, CampaignData, ImageData, RegisterRows, Kept, with_campaign_row, with_image_rows, with_register_rows, StateRows, StoreFault, image_row, campaign_row, kept_row, sha512_line, TableRows, ListsTables, changed_at, with_row, IsWithin, GoesOn, HasTables, Alters, Lists, up_schema, image_table, image_sha512_table, campaign_table, kept_table, goes_on, lists_images, lists_sha512s, lists_campaigns, lists_kept, with_image, with_kept, IsNewCampaign, IsNewImage, IsSameRoot, image_line, image_lines, line_of_campaign, second_hash, sha512_lines, campaign_lines, kept_line, ListsRows, table_rows, with_image_line, with_sha512_line, IsTypedImage, IsTypedCampaign}
use Rattle.up_store.proofs.Alike.{lists_as, alters_as}
use Rattle.up_store.proofs.Inserted.{changed_inserted, row_inserted}
use Rattle.up_store.proofs.RootPuts.{within_goes, goes_as, tables_within}
use Rattle.up_store.proofs.TypedRows.{typed_campaign, typed_image}

-- ---- a row of a new name, in a table of one row a name

abbrev Named : {X : Type 0} → (Option X → List Row) → Table X → List ℕ → List Row
Named lines values n = lines (table.get values n)

puts_named : {A X : Type 0} (r : Result A StoreFault) (listed : Written) (lines : Option X → List Row) (values : StateRows → Table X) (name : Name) (x : X) (made_name : List ℕ) (row : Row) (Fits : StateRows → Type 0)
    (next : StateRows → StateRows) (before after : Connected) → ((rows : StateRows) → Fits rows → table.get (values rows) name ≡ None) → lines None ≡ [] → lines (Some x) ≡ row ∷ [] → made_name ≡ name
    → ((rows : StateRows) → ListsRows rows before.now.trees → Lists 1 (Named lines (values rows)) (before.now.trees listed.tree))
    → ((rows : StateRows) → ListsRows rows before.now.trees → Alters listed (Lists 1 (Named lines (table.insert (values rows) name x))) before after → ListsRows (next rows) after.now.trees)
    → OnOk r ((rows_of : List ℕ → List Row) → HasTables before → Lists 1 rows_of (before.now.trees listed.tree) → Alters listed (Lists 1 (with_row made_name row rows_of)) before after)
    → OnOk r (IsTrue before.is_open) → OnOk r ((rows : StateRows) → IsWithin up_schema (ListsRows rows) before → Fits rows → GoesOn up_schema (ListsRows (next rows)) after)
puts_named (Err e) listed lines values name x made_name row Fits next before after new none one same there whole puts was_open = tt
puts_named (Ok done) listed lines values name x made_name row Fits next before after new none one same there whole puts was_open = λ rows within fits.
    let here = within.here was_open in
    let were = Named lines (values rows) in
    let put = puts were (λ _. record { schema_is = here.schema_is; sound = here.sound; rows = tt }) (there rows here.rows) in
    let named : (n : List ℕ) → with_row made_name row were n ≡ Named lines (table.insert (values rows) name x) n =
    λ n. ap (λ m. with_row m row were n) same ∙ row_inserted (values rows) name x lines row (new rows fits) none one n in
    let now = alters_as listed _ _ (λ trees. lists_as 1 _ _ trees named) before after put in
    goes_on listed _ (ListsRows (next rows)) before after now (whole rows here.rows now)

-- ---- images

pub puts_image : {A : Type 0} (r : Result A StoreFault) (image : ImageData) (made : ImageRow) (before after : Connected) → image_row made ≡ image_line image
    → OnOk r ((rows_of : List ℕ → List Row) → HasTables before → Lists 1 rows_of (before.now.trees image_table.tree) → Alters image_table (Lists 1 (with_row made.file.now (image_row made) rows_of)) before after)
    → OnOk r (IsTrue before.is_open) → OnOk r ((rows : TableRows) → IsWithin up_schema (ListsTables rows) before → Unit {0} → GoesOn up_schema (ListsTables (with_image_line image rows)) after)
puts_image (Err e) image made before after is puts was_open = tt
puts_image (Ok done) image made before after is puts was_open = λ rows within fits.
    let here = within.here was_open in
    let images : List ℕ → List Row = changed_at image.file (λ were. were ++ image_lines (Some image)) rows.images in
    let put = puts rows.images (λ _. record { schema_is = here.schema_is; sound = here.sound; rows = tt }) here.rows.images in
    let named : (n : List ℕ) → with_row made.file.now (image_row made) rows.images n ≡ images n =
    λ n. ap (λ m. with_row m (image_row made) rows.images n) (let e = is in cc) ∙ ap (λ (row : Row). changed_at image.file (λ were. were ++ row ∷ []) rows.images n) is in
    let now : Alters image_table (Lists 1 images) before after = alters_as image_table _ _ (λ trees. lists_as 1 _ _ trees named) before after put in
    goes_on image_table _ (ListsTables (with_image_line image rows)) before after now (lists_images rows images before after here.rows now)

-- its second hash
pub puts_sha512 : {A : Type 0} (r : Result A StoreFault) (image : ImageData) (file hash : List ℕ) (before after : Connected) → file ≡ image.file → image.sha512 ≡ Some hash
    → OnOk r ((rows_of : List ℕ → List Row) → HasTables before → Lists 1 rows_of (before.now.trees image_sha512_table.tree) → Alters image_sha512_table (Lists 1 (with_row file (sha512_line file hash) rows_of)) before after)
    → OnOk r (IsTrue before.is_open) → OnOk r ((rows : TableRows) → IsWithin up_schema (ListsTables rows) before → Unit {0} → GoesOn up_schema (ListsTables (with_sha512_line image rows)) after)
puts_sha512 (Err e) image file hash before after same is puts was_open = tt
puts_sha512 (Ok done) image file hash before after same is puts was_open = λ rows within fits.
    let here = within.here was_open in
    let hashes : List ℕ → List Row = changed_at image.file (λ were. were ++ sha512_lines image.file image.sha512) rows.sha512s in
    let put = puts rows.sha512s (λ _. record { schema_is = here.schema_is; sound = here.sound; rows = tt }) here.rows.sha512s in
    let named : (n : List ℕ) → with_row file (sha512_line file hash) rows.sha512s n ≡ hashes n =
    λ n. ap (λ (name : List ℕ). with_row name (sha512_line name hash) rows.sha512s n) same ∙ ap (λ (o : Option (List ℕ)). changed_at image.file (λ were. were ++ sha512_lines image.file o) rows.sha512s n) (sym is) in
    let now : Alters image_sha512_table (Lists 1 hashes) before after = alters_as image_sha512_table _ _ (λ trees. lists_as 1 _ _ trees named) before after put in
    goes_on image_sha512_table _ (ListsTables (with_sha512_line image rows)) before after now (lists_sha512s rows hashes before after here.rows now)

-- an image without one has no row of it
pub puts_no_sha512 : (image : ImageData) (s : Connected) → image.sha512 ≡ None → IsTrue s.is_open → (rows : TableRows) → IsWithin up_schema (ListsTables rows) s → Unit {0} → GoesOn up_schema (ListsTables (with_sha512_line image rows)) s
puts_no_sha512 image s is is_open rows within fits =
    let here = within.here is_open in
    let t = here.rows in
    record {
      mode = within.mode;
      is_open = is_open;
      here = record {
        schema_is = here.schema_is;
        sound = here.sound;
        rows = record {
          meta = t.meta;
          role_keys = t.role_keys;
          files = t.files;
          images = t.images;
          campaigns = t.campaigns;
          vehicles = t.vehicles;
          ecus = t.ecus;
          kept = t.kept;
          retired = t.retired;
          sha512s = lists_as 1 rows.sha512s (changed_at image.file (λ were. were ++ sha512_lines image.file image.sha512) rows.sha512s) (s.now.trees image_sha512_table.tree) same t.sha512s;
          image_repository = t.image_repository;
          shut_out = t.shut_out;
        };
      };
    }
  where
    by_test : (b : Bool) (lines : List Row) → lines ≡ (if b then lines ++ [] else lines)
    by_test true lines = sym (append-nil lines)
    by_test false lines = refl

    same : (n : List ℕ) → rows.sha512s n ≡ changed_at image.file (λ were. were ++ sha512_lines image.file image.sha512) rows.sha512s n
    same n = by_test (bytes_eq image.file n) (rows.sha512s n) ∙ ap (λ (o : Option (List ℕ)). changed_at image.file (λ were. were ++ sha512_lines image.file o) rows.sha512s n) (sym is)

-- both rows of an image
pub puts_image_rows : {A : Type 0} (r : Result A StoreFault) (image : ImageData) (before mid after : Connected)
    → ((rows : TableRows) → IsWithin up_schema (ListsTables rows) before → Unit {0} → GoesOn up_schema (ListsTables (with_image_line image rows)) mid)
    → OnOk r ((rows : TableRows) → IsWithin up_schema (ListsTables rows) mid → Unit {0} → GoesOn up_schema (ListsTables (with_sha512_line image rows)) after)
    → (IfSome image.sha512 (λ hash. length hash ≡ 64) → IsTypedImage image.file image) → OnOk r (IfSome image.sha512 (λ hash. length hash ≡ 64)) → IsTrue before.is_open
    → OnOk r ((rows : StateRows) → IsWithin up_schema (ListsRows rows) before → table.get rows.images image.file ≡ None → GoesOn up_schema (ListsRows (with_image rows image)) after)
puts_image_rows (Err e) image before mid after first second typed hash was_open = tt
puts_image_rows (Ok done) image before mid after first second typed hash was_open = λ rows within new.
    let here = within.here was_open in
    let one = first (table_rows rows) (tables_within rows before within) tt in
    let two = second (with_image_line image (table_rows rows)) (within_goes (ListsTables (with_image_line image (table_rows rows))) mid one) tt in
    let t = two.here.rows in
    let next = with_image rows image in
    goes_as two (record {
      last = here.rows.last;
      typed = typed_image rows image here.rows.typed (typed hash);
      tables = record {
        meta = t.meta;
        role_keys = t.role_keys;
        files = t.files;
        images = lists_as 1 _ (λ n. image_lines (table.get next.images n)) (after.now.trees image_table.tree)
            (changed_inserted rows.images image.file image (λ m o. image_lines o) (λ were. were ++ image_lines (Some image)) (ap (λ o. image_lines o ++ image_lines (Some image)) new)) t.images;
        campaigns = t.campaigns;
        vehicles = t.vehicles;
        ecus = t.ecus;
        kept = t.kept;
        retired = t.retired;
        sha512s = lists_as 1 _ (λ n. sha512_lines n (second_hash (table.get next.images n))) (after.now.trees image_sha512_table.tree)
            (changed_inserted rows.images image.file image (λ m o. sha512_lines m (second_hash o)) (λ were. were ++ sha512_lines image.file image.sha512)
            (ap (λ o. sha512_lines image.file (second_hash o) ++ sha512_lines image.file image.sha512) new)) t.sha512s;
        image_repository = t.image_repository;
        shut_out = t.shut_out;
      };
    })

-- an image's row, and then the files
pub puts_both : {A : Type 0} (r : Result A StoreFault) (image : ImageData) (new : RegisterRows) (before mid after : Connected)
    → ((rows : StateRows) → IsWithin up_schema (ListsRows rows) before → table.get rows.images image.file ≡ None → GoesOn up_schema (ListsRows (with_image rows image)) mid)
    → OnOk r ((rows : StateRows) → IsWithin up_schema (ListsRows rows) mid → IsSameRoot new rows → GoesOn up_schema (ListsRows (with_register_rows rows new)) after)
    → OnOk r ((rows : StateRows) → IsWithin up_schema (ListsRows rows) before → IsNewImage image new rows → GoesOn up_schema (ListsRows (with_image_rows rows image new)) after)
puts_both (Err e) image new before mid after first second = tt
puts_both (Ok done) image new before mid after first second = λ rows within fits.
    second (with_image rows image) (within_goes (ListsRows (with_image rows image)) mid (first rows within fits.none)) fits.root

-- ---- campaigns

pub puts_campaign : {A : Type 0} (r : Result A StoreFault) (new : CampaignData) (made : CampaignRow) (before after : Connected) → campaign_row made ≡ line_of_campaign new → IsTypedCampaign new.name new
    → OnOk r ((rows_of : List ℕ → List Row) → HasTables before → Lists 1 rows_of (before.now.trees campaign_table.tree) → Alters campaign_table (Lists 1 (with_row made.name.now (campaign_row made) rows_of)) before after)
    → OnOk r (IsTrue before.is_open) → OnOk r ((rows : StateRows) → IsWithin up_schema (ListsRows rows) before → IsNewCampaign new rows → GoesOn up_schema (ListsRows (with_campaign_row rows new)) after)
puts_campaign r new made before after is typed puts was_open =
    puts_named r campaign_table campaign_lines (λ rows. rows.campaigns) new.name new made.name.now (campaign_row made) (IsNewCampaign new) (λ rows. with_campaign_row rows new) before after (λ rows fits. fits)
    refl (ap (λ (row : Row). row ∷ []) (sym is)) (let e = is in cc) (λ rows lists. lists.tables.campaigns)
    (λ rows lists now. record { last = lists.last; typed = typed_campaign rows new lists.typed typed; tables = lists_campaigns (table_rows rows) _ before after lists.tables now }) puts was_open

-- ---- kept manifests

pub puts_kept : {A : Type 0} (r : Result A StoreFault) (row : Kept) (made : KeptRow) (before after : Connected) → kept_row made ≡ kept_line row
    → OnOk r ((rows_of : List ℕ → List Row) → HasTables before → Lists 1 rows_of (before.now.trees kept_table.tree) → Alters kept_table (Lists 1 (with_row made.vehicle.now (kept_row made) rows_of)) before after)
    → OnOk r (IsTrue before.is_open) → OnOk r ((rows : TableRows) → IsWithin up_schema (ListsTables rows) before → Unit {0} → GoesOn up_schema (ListsTables (with_kept row rows)) after)
puts_kept (Err e) row made before after is puts was_open = tt
puts_kept (Ok done) row made before after is puts was_open = λ rows within fits.
    let here = within.here was_open in
    let kept : List ℕ → List Row = with_row row.vehicle (kept_line row) rows.kept in
    let put = puts rows.kept (λ _. record { schema_is = here.schema_is; sound = here.sound; rows = tt }) here.rows.kept in
    let vehicle : made.vehicle.now ≡ row.vehicle = cc in
    let named : (n : List ℕ) → with_row made.vehicle.now (kept_row made) rows.kept n ≡ kept n =
    λ n. ap (λ m. with_row m (kept_row made) rows.kept n) vehicle ∙ ap (λ (line : Row). with_row row.vehicle line rows.kept n) is in
    let now : Alters kept_table (Lists 1 kept) before after = alters_as kept_table _ _ (λ trees. lists_as 1 _ _ trees named) before after put in
    goes_on kept_table _ (ListsTables (with_kept row rows)) before after now (lists_kept rows kept before after here.rows now)
