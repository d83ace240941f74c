-- What is read of the tables of images, campaigns and kept manifests.
use Rattle.std.proofs.Common.{◌≡◌, ℕ, pos, List, [], ◌∷◌, Bool, true, false, Option, Some, None, Result, Ok, Err, IsTrue, map, filter, refl, sym, ap, subst, ◌∙◌, bytes_eq, arith}
use Rattle.std.specs.FinMap as table
use Rattle.std.proofs.lemmas.Bool.Decides.{nat_tests}
use Rattle.up_store.proofs.Common.{◌==◌, if◌then◌else◌, option_map, option_and_then, IfOk, option_to_list, is_eq, Int, Text, Row, value_cmp, Connected, SqlTable, Trees, value_cmp-Int, Name, Table, if_passes, reach_column, items_column, CampaignData, ImageData, Kept, VehicleRow, VehicleRows, StateRows, kept_with, latest_kept, CampaignShown, ImageShown, image_places, campaign_places, yes_or_no, columns_at, has_number, IsWith, IsWithin, HasTables, Reads, Lists, up_schema, image_table, campaign_table, IsImage, IsCampaign, AreImages, AreRunning, last_found, vehicle_found, campaign_shown_line, image_shown_line, image_lines, campaign_lines, ListsRows, AreTyped, IsTypedImage, IsTypedCampaign}

-- ---- within a transaction

pub has_tables : (rows : StateRows) (before : Connected) → IsWithin up_schema (ListsRows rows) before → HasTables before
has_tables rows before within = λ is_open. let here = within.here is_open in record { schema_is = here.schema_is; sound = here.sound; rows = tt }

-- a read that went through leaves the tables as they were
pub within_read : (rows : StateRows) (before after : Connected) → Reads before after → IsWithin up_schema (ListsRows rows) before → IsWithin up_schema (ListsRows rows) after
within_read rows before after reads within =
    record {
      mode = subst IsTrue (sym reads.mode) within.mode;
      here = λ is_open. subst (IsWith up_schema (ListsRows rows)) (sym reads.now_is) (within.here reads.was_open);
    }

-- the rows are typed
pub typed_in : (rows : StateRows) (before after : Connected) → Reads before after → IsWithin up_schema (ListsRows rows) before → AreTyped rows
typed_in rows before after reads within = (within.here reads.was_open).rows.typed

-- ---- the row of a name

-- a table with one row a name at most: X is what the row is of, R the row as it stands in the table
pub record NamedRows (X R : Type 0) : Type 1 where
  pub listed : SqlTable
  pub places : List ℕ
  pub row_of : R → Row
  pub lines : Option X → List Row
  pub values : StateRows → Table X
  pub IsRow : R → X → Type 0
  pub IsTyped : Name → X → Type 0
  pub lists : (rows : StateRows) (trees : Trees) → ListsRows rows trees → Lists 1 (λ n. lines (table.get (values rows) n)) (trees listed.tree)
  pub typed : (rows : StateRows) (trees : Trees) → ListsRows rows trees → (n : Name) (x : X) → table.get (values rows) n ≡ Some x → IsTyped n x
  pub blank : (shown : R) → map (columns_at places) (lines None) ≡ row_of shown ∷ [] → ⊥
  pub filled : (x : X) → map (columns_at places) (lines (Some x)) ≡ [] → ⊥
  pub row_is : (x : X) (shown : R) → map (columns_at places) (lines (Some x)) ≡ row_of shown ∷ [] → IsRow shown x

module _ {X R : Type 0} (t : NamedRows X R) where
  pub record FoundRow (o : Option X) (shown : R) : Type 0 where
    pub value : X
    pub there : o ≡ Some value
    pub same : t.IsRow shown value

  some : (o : Option X) (shown : R) → map (columns_at t.places) (t.lines o) ≡ t.row_of shown ∷ [] → FoundRow o shown
  some None shown h = absurd (t.blank shown h)
  some (Some x) shown h = record { value = x; there = refl; same = t.row_is x shown h }

  none : (o : Option X) → map (columns_at t.places) (t.lines o) ≡ [] → o ≡ None
  none None h = refl
  none (Some x) h = absurd (t.filled x h)

  abbrev Shows : Name → Option R → Connected → Type 0
  Shows name found before =
      (rows_of : List ℕ → List Row) → HasTables before → Lists 1 rows_of (before.now.trees t.listed.tree) → map (columns_at t.places) (rows_of name) ≡ map t.row_of (option_to_list found)

  rows_are : (rows : StateRows) (name : Name) (before after : Connected) (found : Option R) → Reads before after → Shows name found before
      → IsWithin up_schema (ListsRows rows) before → map (columns_at t.places) (t.lines (table.get (t.values rows) name)) ≡ map t.row_of (option_to_list found)
  rows_are rows name before after found reads shows within =
      let has = has_tables rows before within in
      shows (λ n. t.lines (table.get (t.values rows) n)) has (t.lists rows before.now.trees (within.here reads.was_open).rows)

  -- the row that is found is that of the name's value
  pub record FoundIn (rows : StateRows) (name : Name) (shown : R) : Type 0 where
    pub value : X
    pub there : table.get (t.values rows) name ≡ Some value
    pub typed : t.IsTyped name value
    pub same : t.IsRow shown value

  pub found_in : (rows : StateRows) (name : Name) (before after : Connected) (found : Option R) (shown : R) → found ≡ Some shown → Reads before after → Shows name found before
      → IsWithin up_schema (ListsRows rows) before → FoundIn rows name shown
  found_in rows name before after found shown is reads shows within =
      let here = within.here reads.was_open in
      let f = some (table.get (t.values rows) name) shown (rows_are rows name before after found reads shows within ∙ ap (λ o. map t.row_of (option_to_list o)) is) in
      record { value = f.value; there = f.there; typed = t.typed rows before.now.trees here.rows name f.value f.there; same = f.same }

  -- what is read of a row that is found is what the table has under the name
  pub some_found : {E : Type 0} (r : Result (Option X) E) (name : Name) (before after : Connected) (found : Option R) (shown : R) → found ≡ Some shown
      → IfOk r (λ read. (n : Name) (x : X) → t.IsTyped n x → t.IsRow shown x → read ≡ Some x) → Reads before after → Shows name found before
      → IfOk r (λ read. (rows : StateRows) → IsWithin up_schema (ListsRows rows) before → read ≡ table.get (t.values rows) name)
  some_found (Err e) name before after found shown is read reads shows = tt
  some_found (Ok x) name before after found shown is read reads shows = λ rows within.
      let f = found_in rows name before after found shown is reads shows within in
      read name f.value f.typed f.same ∙ sym f.there

  -- the same of a row that is read together with another table's
  pub joined_found : {E : Type 0} (r : Result (Option X) E) (name : Name) (before mid : Connected) (found : Option R) (shown : R) → found ≡ Some shown
      → IfOk r (λ read. (rows : StateRows) → IsWithin up_schema (ListsRows rows) mid → (x : X) → table.get (t.values rows) name ≡ Some x → t.IsRow shown x → read ≡ Some x)
      → Reads before mid → Shows name found before → IfOk r (λ read. (rows : StateRows) → IsWithin up_schema (ListsRows rows) before → read ≡ table.get (t.values rows) name)
  joined_found (Err e) name before mid found shown is read reads shows = tt
  joined_found (Ok x) name before mid found shown is read reads shows = λ rows within.
      let f = found_in rows name before mid found shown is reads shows within in
      read rows (within_read rows before mid reads within) f.value f.there f.same ∙ sym f.there

  pub none_found : (rows : StateRows) (name : Name) (before after : Connected) (found : Option R) → found ≡ None → Reads before after → Shows name found before
      → IsWithin up_schema (ListsRows rows) before → None ≡ table.get (t.values rows) name
  none_found rows name before after found is reads shows within =
      sym (none (table.get (t.values rows) name) (rows_are rows name before after found reads shows within ∙ ap (λ o. map t.row_of (option_to_list o)) is))

pub image_shown : (image : ImageData) (shown : ImageShown) → image_lines (Some image) ≡ image_shown_line shown ∷ [] → IsImage shown image
image_shown image shown h = record { file = cc; length = cc; sha256 = cc; hardware = cc; release = cc; needs = cc; conflicts = cc }

pub no_image : (shown : ImageShown) → [] ≡ image_shown_line shown ∷ [] → ⊥
no_image shown h = cc

pub one_image : (image : ImageData) → map (columns_at image_places) (image_lines (Some image)) ≡ [] → ⊥
one_image image h = cc

abbrev pub images : NamedRows ImageData ImageShown
images = record {
  listed = image_table;
  places = image_places;
  row_of = image_shown_line;
  lines = image_lines;
  values = λ rows. rows.images;
  IsRow = IsImage;
  IsTyped = IsTypedImage;
  lists = λ rows trees lists. lists.tables.images;
  typed = λ rows trees lists. lists.typed.images;
  blank = no_image;
  filled = one_image;
  row_is = image_shown;
}

same_yes : (a b : Bool) → yes_or_no a ≡ yes_or_no b → a ≡ b
same_yes true true h = refl
same_yes true false h = cc
same_yes false true h = cc
same_yes false false h = refl

pub campaign_shown : (campaign : CampaignData) (shown : CampaignShown) → campaign_lines (Some campaign) ≡ campaign_shown_line shown ∷ [] → IsCampaign shown campaign
campaign_shown campaign shown h = record { name = cc; reach = cc; items = cc; running = let same : yes_or_no shown.running ≡ yes_or_no campaign.running = cc in same_yes shown.running campaign.running same }

pub no_campaign : (shown : CampaignShown) → [] ≡ campaign_shown_line shown ∷ [] → ⊥
no_campaign shown h = cc

pub one_campaign : (campaign : CampaignData) → map (columns_at campaign_places) (campaign_lines (Some campaign)) ≡ [] → ⊥
one_campaign campaign h = cc

abbrev pub campaigns : NamedRows CampaignData CampaignShown
campaigns = record {
  listed = campaign_table;
  places = campaign_places;
  row_of = campaign_shown_line;
  lines = campaign_lines;
  values = λ rows. rows.campaigns;
  IsRow = IsCampaign;
  IsTyped = IsTypedCampaign;
  lists = λ rows trees lists. lists.tables.campaigns;
  typed = λ rows trees lists. lists.typed.campaigns;
  blank = no_campaign;
  filled = one_campaign;
  row_is = campaign_shown;
}

-- ---- tables read whole

pub numbers_are : (a b : ℕ) → is_eq (value_cmp (Int (pos a)) (Int (pos b))) ≡ (a == b)
numbers_are a b = ap is_eq (value_cmp-Int (pos a) (pos b)) ∙ grind (arith, nat_tests)

columns_are : (o : Option ImageData) → map (columns_at image_places) (image_lines o) ≡ image_lines o
columns_are None = refl
columns_are (Some image) = refl

abbrev ShowsImages : List ImageShown → Connected → Type 0
ShowsImages found before =
    (rows_of : List ℕ → List Row) → HasTables before → Lists 1 rows_of (before.now.trees image_table.tree)
    → (name : List ℕ) → map (columns_at image_places) (rows_of name) ≡ map image_shown_line (filter (λ (i : ImageShown). bytes_eq i.file name) found)

-- the rows that are found are those of the images
pub are_images : (rows : StateRows) (before after : Connected) (found : List ImageShown) → Reads before after → ShowsImages found before
    → IsWithin up_schema (ListsRows rows) before → AreImages found rows.images
are_images rows before after found reads shows within =
    let has = has_tables rows before within in
    let here = within.here reads.was_open in
    record {
      typed = here.rows.typed.images;
      each = λ name. sym (columns_are (table.get rows.images name)) ∙ shows (λ n. image_lines (table.get rows.images n)) has here.rows.tables.images name;
    }

abbrev row_with : CampaignData → Bool → Row
row_with c b = Text c.name ∷ Text (reach_column c.reach) ∷ Text (items_column c.items) ∷ Int (yes_or_no b) ∷ []

-- a campaign's row says whether it runs
runs : (o : Option CampaignData) → map (columns_at campaign_places) (filter (has_number 3 (pos 1)) (campaign_lines o)) ≡ campaign_lines (if_passes (λ (c : CampaignData). c.running) o)
runs None = refl
runs (Some c) = passed c.running ∙ lines_of c.running refl
  where
    passed : (b : Bool) → map (columns_at campaign_places) (filter (has_number 3 (pos 1)) (row_with c b ∷ [])) ≡ (if b then row_with c b ∷ [] else [])
    passed true = rw (numbers_are 1 1) refl
    passed false = rw (numbers_are 0 1) refl

    lines_of : (b : Bool) → c.running ≡ b → (if b then row_with c b ∷ [] else []) ≡ campaign_lines (if b then Some c else None)
    lines_of true is = ap (λ r. row_with c r ∷ []) (sym is)
    lines_of false is = refl

abbrev ShowsRunning : List CampaignShown → Connected → Type 0
ShowsRunning found before =
    (rows_of : List ℕ → List Row) → HasTables before → Lists 1 rows_of (before.now.trees campaign_table.tree)
    → (name : List ℕ) → map (columns_at campaign_places) (filter (has_number 3 (pos 1)) (rows_of name)) ≡ map campaign_shown_line (filter (λ (c : CampaignShown). bytes_eq c.name name) found)

-- the rows that are found are those of the running campaigns
pub are_running : (rows : StateRows) (before after : Connected) (found : List CampaignShown) → Reads before after → ShowsRunning found before
    → IsWithin up_schema (ListsRows rows) before → AreRunning found rows.campaigns
are_running rows before after found reads shows within =
    let has = has_tables rows before within in
    let here = within.here reads.was_open in
    record {
      typed = here.rows.typed.campaigns;
      each = λ name. sym (runs (table.get rows.campaigns name)) ∙ shows (λ n. campaign_lines (table.get rows.campaigns n)) has here.rows.tables.campaigns name;
    }

-- ---- the latest manifest

pub last_told : (rows : StateRows) (vehicle : Name) → option_map (λ (r : VehicleRow). r.last) (vehicle_found vehicle rows) ≡ last_found vehicle rows
last_told rows vehicle = by_vehicle (table.get rows.vehicles vehicle)
  where
    by_vehicle : (o : Option VehicleRows) → option_map (λ (r : VehicleRow). r.last) (option_map (λ (v : VehicleRows). v.vehicle) o) ≡ option_map (λ (v : VehicleRows). v.vehicle.last) o
    by_vehicle None = refl
    by_vehicle (Some v) = refl

-- the vehicle's greatest counter is the latest one's
pub latest_is : (rows : StateRows) (vehicle : Name) (last : ℕ) → Some last ≡ last_found vehicle rows → kept_with vehicle last rows ≡ latest_kept vehicle rows
latest_is rows vehicle last h = by_vehicle (table.get rows.vehicles vehicle) h
  where
    by_vehicle : (o : Option VehicleRows) → Some last ≡ option_map (λ (v : VehicleRows). v.vehicle.last) o → kept_with vehicle last rows ≡ option_and_then (λ (v : VehicleRows). kept_with vehicle v.vehicle.last rows) o
    by_vehicle None h = cc
    by_vehicle (Some v) h = let same : last ≡ v.vehicle.last = cc in ap (λ n. kept_with vehicle n rows) same

pub latest_unknown : (rows : StateRows) (vehicle : Name) → None ≡ last_found vehicle rows → None ≡ latest_kept vehicle rows
latest_unknown rows vehicle h = by_vehicle (table.get rows.vehicles vehicle) h
  where
    by_vehicle : (o : Option VehicleRows) → ◌≡◌ {A = Option ℕ} None (option_map (λ (v : VehicleRows). v.vehicle.last) o) → ◌≡◌ {A = Option Kept} None (option_and_then (λ (v : VehicleRows). kept_with vehicle v.vehicle.last rows) o)
    by_vehicle None h = refl
    by_vehicle (Some v) h = cc

-- ---- what a read of any rows answers
