-- What is kept in memory, and what keeps it.
use Rattle.std.proofs.Common.{◌≡◌, ◌+◌, ◌≤◌, List, [], ◌∷◌, Bool, true, false, cond, Option, Some, None, Result, Ok, Err, filter, inl, inr, refl, sym, ap, ◌∙◌, subst, arith, ◌++◌}
use Rattle.std.specs.Prelude.{⊤, ◌⊎◌, ◌&&◌, OnErr, OnOk, flat_map, is_some, option_and_then}
use Rattle.std.specs.FinMap.{get-empty, len-empty, len-insert}
use Rattle.std.specs.Ordering.{nat_cmp, eq_by_cmp}
use Rattle.std.specs.Cmp.Lexicographic.{slice_cmp}
use Rattle.std.proofs.lemmas.Cmp.{nat_list_cmp_total}
use Rattle.std.specs.List.{AllByRecursion}
use Rattle.std.specs.FinMap as table
use Rattle.up_canon.specs.Names.{Name, Table}
use Rattle.up_sign.specs.Schemes.{Rules}
use Rattle.up_manifest.specs.declared.manifest.Manifest.{Manifest}
use Rattle.up_plan.specs.declared.campaign.Item.{Item}
use Rattle.up_plan.specs.Campaigns.{CampaignData}
use Rattle.up_plan.specs.Images.{ImageData}
use Rattle.up_plan.specs.Offers.{OffersSame}
use Rattle.up_plan.specs.Planning.{items_for, reaches}
use Rattle.up_machine.specs.declared.primary.Primary.{Primary}
use Rattle.up_machine.specs.Decisions.{AreImagesOf, files_named}
use Rattle.up_machine.specs.Primaries.{primary_of, primary_in}
use Rattle.up_machine.specs.Rows.{founding_row}
use Rattle.up_machine.specs.Senders.{ArePlanned}
use Rattle.up_machine.specs.Sound.{IsSound}
use Rattle.up_machine.specs.State.{State, Vehicle, Entry}
use Rattle.up_machine.proofs.Tables.{get_after-insert, kept_by_insert, get_new, one_name}
use Rattle.up_store.specs.Found.{values_where}
use Rattle.up_records.specs.Catalogs.{AreFew, ArePrimaries, CanDecide, Come, Fits, IsLoaded, IsOf, KeepsMore, StayKept, StaysLoaded}
use Rattle.up_records.specs.declared.catalog.Catalog.{Catalog}
use Rattle.up_records.proofs.Told.{running_sorted}
use Rattle.up_machine.specs.Deliveries.{with_entry}

-- ---- a manifest that is accepted changes its vehicle's entries alone

keeps_primary : (s : State) (name : Name) (v : Vehicle) (e : Entry) (other : Name) → table.get s.vehicles name ≡ Some v → primary_of (with_entry s name v e) other ≡ primary_of s other
keeps_primary s name v e other there =
    ap (option_and_then primary_in) (get_new s.vehicles name other (record v { entries = v.entries ++ e ∷ [] })) ∙ by_name (eq_by_cmp (slice_cmp nat_cmp) other name) refl
  where
    by_name : (b : Bool) → eq_by_cmp (slice_cmp nat_cmp) other name ≡ b
        → option_and_then primary_in (cond b (Some (record v { entries = v.entries ++ e ∷ [] })) (table.get s.vehicles other)) ≡ primary_of s other
    by_name true same = ap (option_and_then primary_in) (sym there ∙ ap (table.get s.vehicles) (sym (one_name other name same)))
    by_name false same = refl

pub entry_fits : (s : State) (name : Name) (v : Vehicle) (e : Entry) (catalog : Option Catalog) → table.get s.vehicles name ≡ Some v → Fits s catalog → Fits (with_entry s name v e) catalog
entry_fits s name v e None there h = tt
entry_fits s name v e (Some c) there h = record {
  founding = h.founding;
  campaigns = h.campaigns;
  images = h.images;
  primaries = λ vehicle primary found. keeps_primary s name v e vehicle there ∙ h.primaries vehicle primary found;
}

-- ---- what a plan reads of it

-- a campaign that doesn't run has no items for anybody
ran_again : (p : CampaignData → Bool) (cs : List CampaignData) → filter (λ c. c.running && p c) (filter (λ c. c.running) cs) ≡ filter (λ c. c.running && p c) cs
ran_again p [] = refl
ran_again p (c ∷ cs) = by_test c.running refl (ran_again p cs)
  where
    by_test : (b : Bool) → c.running ≡ b → filter (λ c. c.running && p c) (filter (λ c. c.running) cs) ≡ filter (λ c. c.running && p c) cs
        → filter (λ c. c.running && p c) (cond b (c ∷ filter (λ c. c.running) cs) (filter (λ c. c.running) cs)) ≡ cond (b && p c) (c ∷ filter (λ c. c.running && p c) cs) (filter (λ c. c.running && p c) cs)
    by_test true is more =
        ap (λ b. cond (b && p c) (c ∷ filter (λ c. c.running && p c) (filter (λ c. c.running) cs)) (filter (λ c. c.running && p c) (filter (λ c. c.running) cs))) is
        ∙ ap (λ rest. cond (p c) (c ∷ rest) rest) more
    by_test false is more = more

values_are : (campaigns : Table CampaignData) → table.values (values_where (λ (c : CampaignData). c.running) campaigns) ≡ filter (λ (c : CampaignData). c.running) (table.values campaigns)
values_are campaigns = running_sorted campaigns

pub items_run : (campaigns : Table CampaignData) (vehicle : Name) → items_for (table.values (values_where (λ (c : CampaignData). c.running) campaigns)) vehicle ≡ items_for (table.values campaigns) vehicle
items_run campaigns vehicle =
    ap (λ cs. items_for cs vehicle) (values_are campaigns)
    ∙ ap (flat_map (λ (c : CampaignData). c.items)) (ran_again (λ c. reaches vehicle c.reach) (table.values campaigns))

-- at each file a table has what it has
alike : {X : Type 0} (t : Table X) (files : List Name) → AllByRecursion (λ file. table.get t file ≡ table.get t file) files
alike t [] = tt
alike t (file ∷ files) = (refl, alike t files)

-- all images, and items that offer what those for the vehicle offer, are what a plan needs
pub are_planned : (k : Rules) (s : State) (manifest : Manifest) (c : Catalog) (items : List Item) → IsSound k s → IsOf s c → OffersSame items (items_for (table.values c.campaigns) manifest.vehicle)
    → ArePlanned s manifest c.images items
are_planned k s manifest c items sound is same =
    let files = files_named (table.values s.campaigns) manifest.vehicle manifest.reports in
    let whole : AreImagesOf files s.images s.images = record { named = λ file image found. (sound.repositories.each_image file image found).named; same = alike s.images files } in
    record {
      images_are = subst (λ (t : Table ImageData). AreImagesOf files t s.images) (sym is.images) whole;
      items_are = subst (OffersSame items) (ap (λ (t : Table CampaignData). items_for (table.values t) manifest.vehicle) is.campaigns ∙ items_run s.campaigns manifest.vehicle) same;
    }

-- ---- what is loaded

pub loaded_fits : (s : State) (catalog : Option Catalog) → IsLoaded s catalog → Fits s catalog
loaded_fits s None h = tt
loaded_fits s (Some c) h = h

pub there_loaded : (s : State) (catalog : Option Catalog) → is_some catalog ≡ true → Fits s catalog → IsLoaded s catalog
there_loaded s None there h = cc
there_loaded s (Some c) there h = h

-- ---- what comes to it

pub none_more : (c : Catalog) → KeepsMore c c
none_more c = record { rest = refl; primaries = λ vehicle primary kept. kept; few = λ few. few }

more_then : (a b c : Catalog) → KeepsMore a b → KeepsMore b c → KeepsMore a c
more_then a b c ab bc = record {
  rest = bc.rest ∙ ap (λ (x : Catalog). record x { primaries = c.primaries }) ab.rest;
  primaries = λ vehicle primary kept. bc.primaries vehicle primary (ab.primaries vehicle primary kept);
  few = λ few. bc.few (ab.few few);
}

-- whether one can decide by it depends on the rest
pub can_more : (k : Rules) (c d : Catalog) → KeepsMore c d → CanDecide k c → CanDecide k d
can_more k c d more can = subst (CanDecide k) (sym more.rest) (record { keys = can.keys; hashed = can.hashed; few = more.few can.few })

pub of_more : (s : State) (c d : Catalog) → KeepsMore c d → ArePrimaries s d.primaries → IsOf s c → IsOf s d
of_more s c d more are is = subst (IsOf s) (sym more.rest) (record { founding = is.founding; campaigns = is.campaigns; images = is.images; primaries = are })

pub founding_more : (s : State) (c d : Catalog) → KeepsMore c d → founding_row s ≡ Some c.founding → founding_row s ≡ Some d.founding
founding_more s c d more there = there ∙ ap (λ (x : Catalog). Some x.founding) (sym more.rest)

pub are_none : (s : State) → ArePrimaries s table.empty
are_none s vehicle primary kept = absurd (let e = sym (get-empty (slice_cmp nat_cmp) vehicle) ∙ kept in cc)

pub are_more : (s : State) (kept : Table Primary) (vehicle : Name) (primary : Primary) → primary_of s vehicle ≡ Some primary → ArePrimaries s kept → ArePrimaries s (table.insert kept vehicle primary)
are_more s kept vehicle primary is are = λ other found there.
    get_after-insert (λ name p. primary_of s name ≡ Some p) kept vehicle other found primary there is (are other found)

pub stay_more : (kept : Table Primary) (vehicle : Name) (primary : Primary) → table.get kept vehicle ≡ None → StayKept kept (table.insert kept vehicle primary)
stay_more kept vehicle primary none = λ other found there. kept_by_insert kept vehicle other primary found none there

-- there is one more at most
pub one_kept : (kept : Table Primary) (vehicle : Name) (primary : Primary) → table.len (table.insert kept vehicle primary) ≤ table.len kept + 1
one_kept kept vehicle primary = by_test (table.contains_key kept vehicle) (len-insert nat_list_cmp_total kept vehicle primary)
  where
    by_test : (b : Bool) → table.len (table.insert kept vehicle primary) ≡ cond b (table.len kept) (table.len kept + 1) → table.len (table.insert kept vehicle primary) ≤ table.len kept + 1
    by_test true is = omega (arith, is)
    by_test false is = omega (arith, is)

pub few_none : AreFew table.empty
few_none = omega (arith, len-empty (slice_cmp nat_cmp) Primary)

-- what holds of the table before and after an insertion holds of what the call leaves
pub put_or_not : {E : Type 0} (P : Table Primary → Type 0) (result : Result ⊤ E) (old new put : Table Primary) → OnOk result (new ≡ put) → OnErr result (new ≡ old) → P old → P put → P new
put_or_not P (Ok done) old new put ok err before after = subst P (sym ok) after
put_or_not P (Err e) old new put ok err before after = subst P (sym err) before

-- none comes
pub come_none : (P : Name → Primary → Type 0) (kept : Table Primary) → Come P kept kept
come_none P kept vehicle primary there = inl there

pub come_empty : (P : Name → Primary → Type 0) (old new : Table Primary) → new ≡ table.empty → Come P old new
come_empty P old new is vehicle primary there = absurd (let e = sym (get-empty (slice_cmp nat_cmp) vehicle) ∙ ap (λ (t : Table Primary). table.get t vehicle) (sym is) ∙ there in cc)

-- the one that is inserted comes
pub come_one : (kept : Table Primary) (vehicle : Name) (primary : Primary) → Come (λ name found. name ≡ vehicle) kept (table.insert kept vehicle primary)
come_one kept vehicle primary name found there = get_after-insert (λ n p. (table.get kept n ≡ Some p) ⊎ (n ≡ vehicle)) kept vehicle name found primary there (inr refl) (λ was. inl was)

pub come_as : (P Q : Name → Primary → Type 0) (old new : Table Primary) → ((vehicle : Name) (primary : Primary) → P vehicle primary → Q vehicle primary) → Come P old new → Come Q old new
come_as P Q old new each come vehicle primary there = by_case (come vehicle primary there)
  where
    by_case : (table.get old vehicle ≡ Some primary) ⊎ P vehicle primary → (table.get old vehicle ≡ Some primary) ⊎ Q vehicle primary
    by_case (inl was) = inl was
    by_case (inr is) = inr (each vehicle primary is)

pub come_then : (P : Name → Primary → Type 0) (a b c : Table Primary) → Come P a b → Come P b c → Come P a c
come_then P a b c ab bc vehicle primary there = by_case (bc vehicle primary there)
  where
    by_case : (table.get b vehicle ≡ Some primary) ⊎ P vehicle primary → (table.get a vehicle ≡ Some primary) ⊎ P vehicle primary
    by_case (inl was) = ab vehicle primary was
    by_case (inr is) = inr is

-- where none was loaded with them
pub come_loaded : (P : Name → Primary → Type 0) (a b c : Table Primary) → Come (λ vehicle primary. ⊥) a b → Come P b c → Come P a c
come_loaded P a b c ab bc = come_then P a b c (come_as (λ vehicle primary. ⊥) P a b (λ vehicle primary none. absurd none) ab) bc

-- what is kept stays where nothing is done
pub stays : (o : Option Catalog) → StaysLoaded o o
stays None = tt
stays (Some c) = none_more c

pub stays_then : (a b c : Option Catalog) → StaysLoaded a b → StaysLoaded b c → StaysLoaded a c
stays_then None b c ab bc = tt
stays_then (Some x) None c ab bc = absurd ab
stays_then (Some x) (Some y) None ab bc = absurd bc
stays_then (Some x) (Some y) (Some z) ab bc = more_then x y z ab bc

-- and where there was nothing
pub loaded_anew : (o new : Option Catalog) → is_some o ≡ false → StaysLoaded o new
loaded_anew None new none = tt
loaded_anew (Some c) new none = absurd (let no : true ≡ false = none in cc)
