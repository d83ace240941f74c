-- Tables that show two sound states show one.
use Rattle.std.proofs.Common.{◌≡◌, ℕ, suc, List, [], ◌∷◌, ◌++◌, Bool, true, false, Option, Some, None, map, length, refl, sym, ap, ap₂, ◌∙◌, codes}
use Rattle.std.specs.FinMap as table
use Rattle.up_columns.specs.Columns.{names_column, names_in, file_names_in, needs_column, needs_in}
use Rattle.up_columns.specs.PlanColumns.{plan_column, plan_in}
use Rattle.up_columns.proofs.NamesRead.{names-there, file_names-there}
use Rattle.up_columns.proofs.NeedsRead.{needs-there}
use Rattle.up_columns.proofs.CampaignsRead.{reach-there, campaign_items-there}
use Rattle.up_columns.proofs.PlansRead.{plan-there}
use Rattle.up_machine.specs.Sound.{IsSound}
use Rattle.up_machine.specs.Rows.{founding_row}
use Rattle.up_machine.specs.State.{Entry, Vehicle, State}
use Rattle.up_rows.specs.Laws.{RowsTellTheState}
use Rattle.up_rows.proofs.Tables.{get_changed}
use Rattle.up_store.proofs.Common.{option_map, AllByRecursion, list_all, IfSome, is_some, Row, Trees, Int, CanonIsRead, Name, Rules, Director, Image, CampaignData, ImageData, Item, Reach, Need, reach_column, reach_in, items_column, campaign_items_in, EcuRow, Founding, Kept, VehicleRows, NewEcu, StateRows, rows_of_state, chain_of_rows, ecu_of, entry_of, vehicle_of_rows, ecu_row, image_repository_row, meta_row, yes_or_no, founding_lines, founding_number, repository_lines, image_lines, campaign_lines, vehicle_lines, ecu_lines, ecus_lines, kept_line, retired_lines, second_hash, sha512_lines, ListsRows, IsOfLastRoot, EachHasKeys, IsTypedImage, IsTypedCampaign, IsTypedKept, image_made, campaign_made}
use Rattle.up_store.proofs.OneKeys.{one_keys}
use Rattle.up_store.proofs.RootTexts.{AreListedAlike, one_texts, one_files as same_texts}
use Rattle.up_store.proofs.WholeTables.{same_table}

-- ---- columns

one_names : CanonIsRead → (xs ys : List Name) → list_all Rattle.up_canon.specs.Names.is_ident xs ≡ true → list_all Rattle.up_canon.specs.Names.is_ident ys ≡ true → names_column xs ≡ names_column ys → xs ≡ ys
one_names law xs ys h k same = let e = sym (names-there law xs h) ∙ ap names_in same ∙ names-there law ys k in cc

one_files : CanonIsRead → (xs ys : List Name) → list_all Rattle.up_canon.specs.Names.is_file_name xs ≡ true → list_all Rattle.up_canon.specs.Names.is_file_name ys ≡ true → names_column xs ≡ names_column ys → xs ≡ ys
one_files law xs ys h k same = let e = sym (file_names-there law xs h) ∙ ap file_names_in same ∙ file_names-there law ys k in cc

one_needs : CanonIsRead → (xs ys : List Need) → list_all Rattle.up_columns.specs.Typed.is_typed_need xs ≡ true → list_all Rattle.up_columns.specs.Typed.is_typed_need ys ≡ true → needs_column xs ≡ needs_column ys → xs ≡ ys
one_needs law xs ys h k same = let e = sym (needs-there law xs h) ∙ ap needs_in same ∙ needs-there law ys k in cc

one_items : CanonIsRead → (xs ys : List Item) → list_all Rattle.up_columns.specs.Typed.is_typed_item xs ≡ true → list_all Rattle.up_columns.specs.Typed.is_typed_item ys ≡ true → items_column xs ≡ items_column ys → xs ≡ ys
one_items law xs ys h k same = let e = sym (campaign_items-there law xs h) ∙ ap campaign_items_in same ∙ campaign_items-there law ys k in cc

one_reach : CanonIsRead → (x y : Reach) → Rattle.up_columns.specs.Typed.is_typed_reach x ≡ true → Rattle.up_columns.specs.Typed.is_typed_reach y ≡ true → reach_column x ≡ reach_column y → x ≡ y
one_reach law x y h k same = let e = sym (reach-there law x h) ∙ ap reach_in same ∙ reach-there law y k in cc

-- what has a value's lines is that value, and what has none is none
one_or_none : {X : Type 0} (lines : Option X → List Row) (IsTyped : X → Type 0) → ((x : X) → lines None ≡ lines (Some x) → ⊥) → ((x y : X) → IsTyped x → IsTyped y → lines (Some x) ≡ lines (Some y) → x ≡ y)
    → (a b : Option X) → ((x : X) → a ≡ Some x → IsTyped x) → ((x : X) → b ≡ Some x → IsTyped x) → lines a ≡ lines b → a ≡ b
one_or_none lines IsTyped apart one None None ta tb h = refl
one_or_none lines IsTyped apart one None (Some y) ta tb h = absurd (apart y h)
one_or_none lines IsTyped apart one (Some x) None ta tb h = absurd (apart x (sym h))
one_or_none lines IsTyped apart one (Some x) (Some y) ta tb h = ap Some (one x y (ta x refl) (tb y refl) h)

-- ---- an image

-- the rows of an image: its own, and that of its second hash
abbrev both_lines : Name → Option ImageData → List Row
both_lines n image = image_lines image ++ sha512_lines n (second_hash image)

one_hash : (n : Name) (a b : Option (List ℕ)) → sha512_lines n a ≡ sha512_lines n b → a ≡ b
one_hash n None None h = refl
one_hash n None (Some y) h = absurd (cc)
one_hash n (Some x) None h = absurd (cc)
one_hash n (Some x) (Some y) h = let same : x ≡ y = cc in ap Some same

one_image : CanonIsRead → (n : Name) (i j : ImageData) → IsTypedImage n i → IsTypedImage n j → both_lines n (Some i) ≡ both_lines n (Some j) → i ≡ j
one_image law n i j ti tj h =
    let file : i.file ≡ j.file = cc in
    let size : i.length ≡ j.length = cc in
    let hash : i.sha256 ≡ j.sha256 = cc in
    let more : sha512_lines n i.sha512 ≡ sha512_lines n j.sha512 = cc in
    let second : i.sha512 ≡ j.sha512 = one_hash n i.sha512 j.sha512 more in
    let hardware_text : names_column i.hardware ≡ names_column j.hardware = cc in
    let release : i.release ≡ j.release = cc in
    let needs_text : needs_column i.needs ≡ needs_column j.needs = cc in
    let conflicts_text : names_column i.conflicts ≡ names_column j.conflicts = cc in
    let hardware : i.hardware ≡ j.hardware = one_names law i.hardware j.hardware ti.hardware tj.hardware hardware_text in
    let needs : i.needs ≡ j.needs = one_needs law i.needs j.needs ti.needs tj.needs needs_text in
    let conflicts : i.conflicts ≡ j.conflicts = one_files law i.conflicts j.conflicts ti.conflicts tj.conflicts conflicts_text in
    let same : image_made i.file i.length i.sha256 i.sha512 i.hardware i.release i.needs i.conflicts ≡ image_made j.file j.length j.sha256 j.sha512 j.hardware j.release j.needs j.conflicts =
    rw (file, size, hash, second, hardware, release, needs, conflicts) refl in
    same

no_image_lines : (n : Name) (image : ImageData) → both_lines n None ≡ both_lines n (Some image) → ⊥
no_image_lines n image h = cc

-- ---- a campaign

one_flag : (a b : Bool) → Int (yes_or_no a) ≡ Int (yes_or_no b) → a ≡ b
one_flag true true h = refl
one_flag true false h = absurd (cc)
one_flag false true h = absurd (cc)
one_flag false false h = refl

one_campaign : CanonIsRead → (n : Name) (c d : CampaignData) → IsTypedCampaign n c → IsTypedCampaign n d → campaign_lines (Some c) ≡ campaign_lines (Some d) → c ≡ d
one_campaign law n c d tc td h =
    let name : c.name ≡ d.name = cc in
    let reach_text : reach_column c.reach ≡ reach_column d.reach = cc in
    let items_text : items_column c.items ≡ items_column d.items = cc in
    let flag : Int (yes_or_no c.running) ≡ Int (yes_or_no d.running) = cc in
    let reach : c.reach ≡ d.reach = one_reach law c.reach d.reach tc.reach td.reach reach_text in
    let items : c.items ≡ d.items = one_items law c.items d.items tc.items td.items items_text in
    let running : c.running ≡ d.running = one_flag c.running d.running flag in
    let same : campaign_made c.name c.reach c.items c.running ≡ campaign_made d.name d.reach d.items d.running = rw (name, reach, items, running) refl in
    same

no_campaign_lines : (campaign : CampaignData) → campaign_lines None ≡ campaign_lines (Some campaign) → ⊥
no_campaign_lines campaign h = cc

-- ---- a vehicle

abbrev the_ecu : Name → Name → List ℕ → NewEcu
the_ecu ecu hardware public = record { ecu = ecu; hardware = hardware; public = public }

one_ecus : (n : Name) (i : ℕ) (xs ys : List EcuRow) → map ecu_row (ecu_lines n i xs) ≡ map ecu_row (ecu_lines n i ys) → map ecu_of xs ≡ map ecu_of ys
one_ecus n i [] [] h = refl
one_ecus n i [] (y ∷ ys) h = absurd (cc)
one_ecus n i (x ∷ xs) [] h = absurd (cc)
one_ecus n i (x ∷ xs) (y ∷ ys) h =
    let ecu : x.ecu ≡ y.ecu = cc in
    let hardware : x.hardware ≡ y.hardware = cc in
    let public : x.public ≡ y.public = cc in
    let tail : map ecu_row (ecu_lines n (suc i) xs) ≡ map ecu_row (ecu_lines n (suc i) ys) = cc in
    let head : the_ecu x.ecu x.hardware x.public ≡ the_ecu y.ecu y.hardware y.public = rw (ecu, hardware, public) refl in
    ap₂ (λ (e : NewEcu) (es : List NewEcu). e ∷ es) head (one_ecus n (suc i) xs ys tail)

abbrev the_entry : ℕ → List ℕ → ℕ → ℕ → Rattle.up_plan.specs.declared.assigned.Plan.Plan → List ℕ → Entry
the_entry counter signed at root plan reply = record { counter = counter; signed = signed; at = at; root = root; plan = plan; reply = reply }

one_kept : CanonIsRead → (n : Name) (xs ys : List Kept) → AllByRecursion (IsTypedKept n) xs → AllByRecursion (IsTypedKept n) ys → map kept_line xs ≡ map kept_line ys → map entry_of xs ≡ map entry_of ys
one_kept law n [] [] tx ty h = refl
one_kept law n [] (y ∷ ys) tx ty h = absurd (cc)
one_kept law n (x ∷ xs) [] tx ty h = absurd (cc)
one_kept law n (x ∷ xs) (y ∷ ys) tx ty h =
    let counter : x.counter ≡ y.counter = cc in
    let signed : x.signed ≡ y.signed = cc in
    let at : x.at ≡ y.at = cc in
    let root : x.root ≡ y.root = cc in
    let plan_text : plan_column x.plan ≡ plan_column y.plan = cc in
    let reply : x.reply ≡ y.reply = cc in
    let tail : map kept_line xs ≡ map kept_line ys = cc in
    let plan : x.plan ≡ y.plan = let e = sym (plan-there law x.plan tx.0.plan) ∙ ap plan_in plan_text ∙ plan-there law y.plan ty.0.plan in cc in
    let head : the_entry x.counter x.signed x.at x.root x.plan x.reply ≡ the_entry y.counter y.signed y.at y.root y.plan y.reply = rw (counter, signed, at, root, plan, reply) refl in
    ap₂ (λ (e : Entry) (es : List Entry). e ∷ es) head (one_kept law n xs ys tx.1 ty.1 tail)

one_retired : (n : Name) (xs ys : List Name) → retired_lines n xs ≡ retired_lines n ys → xs ≡ ys
one_retired n [] [] h = refl
one_retired n [] (y ∷ ys) h = absurd (cc)
one_retired n (x ∷ xs) [] h = absurd (cc)
one_retired n (x ∷ xs) (y ∷ ys) h =
    let head : x ≡ y = cc in
    let tail : retired_lines n xs ≡ retired_lines n ys = cc in
    ap₂ (λ (e : Name) (es : List Name). e ∷ es) head (one_retired n xs ys tail)

abbrev the_vehicle : Name → List NewEcu → List Name → List Entry → Vehicle
the_vehicle primary ecus retired entries = record { primary = primary; ecus = ecus; retired = retired; entries = entries }

one_vehicle : (n : Name) (kept last : Name → List Kept) (gone left : Name → List Name) (a b : Option VehicleRows) → map entry_of (kept n) ≡ map entry_of (last n) → gone n ≡ left n → vehicle_lines a ≡ vehicle_lines b → ecus_lines n a ≡ ecus_lines n b
    → option_map (vehicle_of_rows kept gone n) a ≡ option_map (vehicle_of_rows last left n) b
one_vehicle n kept last gone left None None entries retired h k = refl
one_vehicle n kept last gone left None (Some w) entries retired h k = absurd (cc)
one_vehicle n kept last gone left (Some v) None entries retired h k = absurd (cc)
one_vehicle n kept last gone left (Some v) (Some w) entries retired h k =
    let primary : v.vehicle.primary ≡ w.vehicle.primary = cc in
    let ecus = one_ecus n 0 v.ecus w.ecus k in
    let same : the_vehicle v.vehicle.primary (map ecu_of v.ecus) (gone n) (map entry_of (kept n)) ≡ the_vehicle w.vehicle.primary (map ecu_of w.ecus) (left n) (map entry_of (last n)) = rw (primary, ecus, retired, entries) refl in
    ap Some same

-- ---- the numbers of `meta` and `image_repository`

abbrev number_of : (Founding → ℕ) → StateRows → ℕ
number_of part rows = founding_number part rows.founding

counted : (founding : Option Founding) (director image : List (List ℕ)) → IsOfLastRoot founding director image → (founding_number (λ f. f.root) founding ≡ length director) × (founding_number (λ f. f.image_root) founding ≡ length image)
counted None director image h = (sym (ap length h.0), sym (ap length h.1))
counted (Some f) director image h = (h.1, h.3)

numbers_alike : (a b c x y z : ℕ) → meta_row a b c ∷ [] ≡ meta_row x y z ∷ [] → (a ≡ x) × (b ≡ y) × (c ≡ z)
numbers_alike a b c x y z h = (cc, cc, cc)

own_alike : (a b x y : ℕ) → image_repository_row a b ∷ [] ≡ image_repository_row x y ∷ [] → (a ≡ x) × (b ≡ y)
own_alike a b x y h = (cc, cc)

-- ---- a founding

some_mapped : {A B : Type 0} (f : A → B) (o : Option A) → is_some (option_map f o) ≡ is_some o
some_mapped f None = refl
some_mapped f (Some x) = refl

founded : (s : State) → is_some (founding_row s) ≡ is_some s.files
founded s = some_mapped _ s.files

-- of the same numbers and rows of keys there is one founding, or none
one_founding : (a b : Option Founding) → is_some a ≡ is_some b → founding_number (λ f. f.root) a ≡ founding_number (λ f. f.root) b → founding_number (λ f. f.image_version) a ≡ founding_number (λ f. f.image_version) b
    → founding_number (λ f. f.stamp) a ≡ founding_number (λ f. f.stamp) b → founding_number (λ f. f.image_root) a ≡ founding_number (λ f. f.image_root) b
    → founding_number (λ f. f.targets_version) a ≡ founding_number (λ f. f.targets_version) b → founding_lines a ≡ founding_lines b → IfSome a (λ f. EachHasKeys f.keys) → IfSome b (λ f. EachHasKeys f.keys) → a ≡ b
one_founding None None there root version stamp image_root targets lines ta tb = refl
one_founding None (Some g) there root version stamp image_root targets lines ta tb = absurd (cc)
one_founding (Some f) None there root version stamp image_root targets lines ta tb = absurd (cc)
one_founding (Some f) (Some g) there root version stamp image_root targets lines ta tb =
    let keys : f.keys ≡ g.keys = one_keys f.root f.image_root f.keys g.keys ta tb
    (lines ∙ ap₂ (λ (m n : ℕ). repository_lines m Director g.keys.director ++ repository_lines n Image g.keys.image) (sym root) (sym image_root)) in
    let same : f ≡ g = λ i. record { root = root i; image_root = image_root i; keys = keys i; image_version = version i; targets_version = targets i; stamp = stamp i } in
    ap Some same

-- ---- a state

module _ (law : CanonIsRead) (tell : RowsTellTheState) (k : Rules) (s t : State) (sound : IsSound k s) (also : IsSound k t) (trees : Trees) (one : ListsRows (rows_of_state s) trees) (two : ListsRows (rows_of_state t) trees) where
  abbrev first : StateRows
  first = rows_of_state s

  abbrev second : StateRows
  second = rows_of_state t

  numbers : (number_of (λ f. f.root) first ≡ number_of (λ f. f.root) second) × (number_of (λ f. f.image_version) first ≡ number_of (λ f. f.image_version) second) × (number_of (λ f. f.stamp) first ≡ number_of (λ f. f.stamp) second)
  numbers = numbers_alike _ _ _ _ _ _ (sym one.tables.meta ∙ two.tables.meta)

  own : (number_of (λ f. f.image_root) first ≡ number_of (λ f. f.image_root) second) × (number_of (λ f. f.targets_version) first ≡ number_of (λ f. f.targets_version) second)
  own = own_alike _ _ _ _ (sym one.tables.image_repository ∙ two.tables.image_repository)

  director_alike : AreListedAlike Director first second
  director_alike = λ name. sym (one.tables.files.parts (codes "director") name) ∙ two.tables.files.parts (codes "director") name

  image_alike : AreListedAlike Image first second
  image_alike = λ name. sym (one.tables.files.parts (codes "image") name) ∙ two.tables.files.parts (codes "image") name

  director_texts : s.director.texts ≡ t.director.texts
  director_texts = one_texts Director first second (sym (counted first.founding first.director first.image one.last).0 ∙ numbers.0 ∙ (counted second.founding second.director second.image two.last).0) sound.repositories.director_limit director_alike

  image_texts : s.image.texts ≡ t.image.texts
  image_texts =
      one_texts Image first second (sym (counted first.founding first.director first.image one.last).1 ∙ own.0 ∙ (counted second.founding second.director second.image two.last).1) sound.repositories.image_limit_of_roots image_alike

  files : s.files ≡ t.files
  files = same_texts first second image_alike

  founding : first.founding ≡ second.founding
  founding = one_founding first.founding second.founding (founded s ∙ ap is_some files ∙ sym (founded t)) numbers.0 numbers.1 numbers.2 own.0 own.1 (sym one.tables.role_keys.every ∙ two.tables.role_keys.every) one.typed.keys two.typed.keys

  director : s.director ≡ t.director
  director = sym (ap (λ (x : State). x.director) (tell k s sound)) ∙ ap₂ (λ (f : Option Founding) (texts : List (List ℕ)). chain_of_rows (λ f. f.keys.director) f texts) founding director_texts ∙ ap (λ (x : State). x.director) (tell k t also)

  image : s.image ≡ t.image
  image = sym (ap (λ (x : State). x.image) (tell k s sound)) ∙ ap₂ (λ (f : Option Founding) (texts : List (List ℕ)). chain_of_rows (λ f. f.keys.image) f texts) founding image_texts ∙ ap (λ (x : State). x.image) (tell k t also)

  images : s.images ≡ t.images
  images = same_table s.images t.images (λ n. one_or_none (both_lines n) (IsTypedImage n) (no_image_lines n) (one_image law n) (table.get s.images n) (table.get t.images n) (one.typed.images n) (two.typed.images n)
      (ap₂ (λ (a b : List Row). a ++ b) (sym (one.tables.images.parts n) ∙ two.tables.images.parts n) (sym (one.tables.sha512s.parts n) ∙ two.tables.sha512s.parts n)))

  campaigns : s.campaigns ≡ t.campaigns
  campaigns = same_table s.campaigns t.campaigns (λ n. one_or_none campaign_lines (IsTypedCampaign n) no_campaign_lines (one_campaign law n) (table.get s.campaigns n) (table.get t.campaigns n) (one.typed.campaigns n) (two.typed.campaigns n) (sym (one.tables.campaigns.parts n) ∙ two.tables.campaigns.parts n))

  vehicle_at : (n : Name) → option_map (vehicle_of_rows first.kept first.retired n) (table.get first.vehicles n) ≡ option_map (vehicle_of_rows second.kept second.retired n) (table.get second.vehicles n)
  vehicle_at n = one_vehicle n first.kept second.kept first.retired second.retired (table.get first.vehicles n) (table.get second.vehicles n)
      (one_kept law n (first.kept n) (second.kept n) (one.typed.kept n) (two.typed.kept n) (sym (one.tables.kept.parts n) ∙ two.tables.kept.parts n))
      (one_retired n (first.retired n) (second.retired n) (sym (one.tables.retired.parts n) ∙ two.tables.retired.parts n))
      (sym (one.tables.vehicles.parts n) ∙ two.tables.vehicles.parts n) (sym (one.tables.ecus.parts n) ∙ two.tables.ecus.parts n)

  told : (u : State) → IsSound k u → (n : Name) → table.get u.vehicles n ≡ option_map (vehicle_of_rows (rows_of_state u).kept (rows_of_state u).retired n) (table.get (rows_of_state u).vehicles n)
  told u is n = sym (ap (λ (x : State). table.get x.vehicles n) (tell k u is)) ∙ get_changed (vehicle_of_rows (rows_of_state u).kept (rows_of_state u).retired) (rows_of_state u).vehicles n

  vehicles : s.vehicles ≡ t.vehicles
  vehicles = same_table s.vehicles t.vehicles (λ n. told s sound n ∙ vehicle_at n ∙ sym (told t also n))

  image_version : s.image_version ≡ t.image_version
  image_version = sym (ap (λ (x : State). x.image_version) (tell k s sound)) ∙ numbers.1 ∙ ap (λ (x : State). x.image_version) (tell k t also)

  targets_version : s.targets_version ≡ t.targets_version
  targets_version = sym (ap (λ (x : State). x.targets_version) (tell k s sound)) ∙ own.1 ∙ ap (λ (x : State). x.targets_version) (tell k t also)

  stamp : s.stamp ≡ t.stamp
  stamp = sym (ap (λ (x : State). x.stamp) (tell k s sound)) ∙ numbers.2 ∙ ap (λ (x : State). x.stamp) (tell k t also)

  pub one_state : s ≡ t
  one_state = λ i. record { director = director i; image = image i; files = files i; images = images i; image_version = image_version i; targets_version = targets_version i; stamp = stamp i; campaigns = campaigns i; vehicles = vehicles i }
