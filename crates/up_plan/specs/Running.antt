-- Running campaigns by the vehicles that they reach: the places of those for all, and each name of a vehicle that another one has. Of this a
-- public contract has `reaches_all` alone.
use Rattle.std.specs.Prelude.{◌≡◌, ℕ, ◌&&◌, List, [], Bool, true, false, not, bytes_eq, slice_get, option_map, unwrap_or}
use Rattle.std.specs.List.{list_any}
use Rattle.std.specs.List.Sorted.{IsSortedByKey}
use Rattle.std.specs.Ordering.{nat_cmp}
use Rattle.std.specs.Cmp.Lexicographic.{slice_cmp}
use Rattle.up_canon.specs.Names.{Name}
use Rattle.up_plan.specs.declared.campaign.Item.{Item}
use Rattle.up_plan.specs.declared.campaign.Reach.{Reach}
use Rattle.up_plan.specs.declared.campaign.Reach.TheVariants.{All, Named}
use Rattle.up_plan.specs.declared.running.NameAt.{NameAt}
use Rattle.up_plan.specs.Campaigns.{CampaignData}
use Rattle.up_plan.specs.Planning.{reaches}

-- ---- how a campaign reaches vehicles

abbrev pub is_all : Reach → Bool
is_all All = true
is_all (Named vehicles) = false

-- it runs and is for all vehicles
abbrev pub reaches_all : CampaignData → Bool
reaches_all c = c.running && is_all c.reach

-- it runs, and the vehicle is one of those that it names
abbrev pub reaches_by_name : Name → CampaignData → Bool
reaches_by_name vehicle c = c.running && not (is_all c.reach) && reaches vehicle c.reach

-- ---- what stands at a place

-- there is a campaign, and it passes the test
abbrev pub passes_at : List CampaignData → (CampaignData → Bool) → ℕ → Bool
passes_at campaigns test place = unwrap_or (option_map test (slice_get campaigns place)) false

-- the campaign's items, none where there is no campaign
abbrev pub items_at : List CampaignData → ℕ → List Item
items_at campaigns place = unwrap_or (option_map (λ c. c.items) (slice_get campaigns place)) []

abbrev pub name_in : Reach → ℕ → Name
name_in All place = []
name_in (Named vehicles) place = unwrap_or (slice_get vehicles place) []

-- the name of a vehicle, empty where there is none
abbrev pub name_at : List CampaignData → NameAt → Name
name_at campaigns at = unwrap_or (option_map (λ c. name_in c.reach at.name) (slice_get campaigns at.campaign)) []

-- the name there is the vehicle's, and its campaign passes the test
abbrev pub passes_named : List CampaignData → Name → (CampaignData → Bool) → NameAt → Bool
passes_named campaigns vehicle test at = bytes_eq vehicle (name_at campaigns at) && passes_at campaigns test at.campaign

-- ---- what is kept

-- at one of these places a test is passed, whichever it is, where one of the campaigns for all passes it
abbrev pub AreForAll : List CampaignData → List ℕ → Type 0
AreForAll campaigns places = (test : CampaignData → Bool) → list_any (passes_at campaigns test) places ≡ list_any (λ c. reaches_all c && test c) campaigns

-- the same at those of a vehicle's name, and of the campaigns that name it
abbrev pub AreNamed : List CampaignData → List NameAt → Type 0
AreNamed campaigns names =
    (vehicle : Name) (test : CampaignData → Bool) → list_any (passes_named campaigns vehicle test) names ≡ list_any (λ c. reaches_by_name vehicle c && test c) campaigns

-- in byte order of the names
abbrev pub AreInOrder : List CampaignData → List NameAt → Type 0
AreInOrder campaigns names = IsSortedByKey (name_at campaigns) (slice_cmp nat_cmp) names

pub record AreFound (campaigns : List CampaignData) (places : List ℕ) (names : List NameAt) : Type 0 where
  pub for_all : AreForAll campaigns places
  pub named : AreNamed campaigns names
  pub order : AreInOrder campaigns names
