-- What the rows that a campaign names say of the state where it is opened.
use Rattle.std.proofs.Common.{◌≡◌, List, [], ◌∷◌, Bool, true, false, Result, Ok, Err, refl, sym, ap, ◌∙◌}
use Rattle.std.specs.Prelude.{◌&&◌, IsErrAnd, Option, Some, None, map, option_map, unwrap_or}
use Rattle.std.specs.List.{AllByRecursion, list_all}
use Rattle.std.specs.FinMap as table
use Rattle.up_canon.specs.Names.{Table}
use Rattle.up_canon.specs.Steps.{and_then, ◌>>=◌, unless}
use Rattle.up_canon.specs.declared.refusal.Refusal.{Refusal}
use Rattle.up_canon.specs.declared.refusal.Refusal.TheVariants.{Memory, UnknownVehicle, UnknownImage, WrongHardware}
use Rattle.up_plan.specs.declared.campaign.Item.{Item}
use Rattle.up_plan.specs.declared.campaign.Reach.{Reach}
use Rattle.up_plan.specs.declared.campaign.Reach.TheVariants.{All, Named}
use Rattle.up_plan.specs.Campaigns.{CampaignData}
use Rattle.up_plan.specs.Images.{ImageData}
use Rattle.up_plan.specs.Planning.{is_for}
use Rattle.up_machine.specs.State.{State}
use Rattle.up_machine.specs.Deciding.{Outcome, done}
use Rattle.up_machine.specs.Inventory.{reach_is_known, has_its_image, has_its_hardware, with_campaign, decide_new_campaign}
use Rattle.up_machine.specs.Decisions.{Knows, named_in, finds_image, finds_hardware, check_campaign}
use Rattle.up_metadata.proofs.Lists.{each_weaker}
use Rattle.up_machine.proofs.Passing.{memory_first}

all_marked : {A : Type 0} (p : A → Bool) (xs : List A) → list_all (λ b. b) (map p xs) ≡ list_all p xs
all_marked p [] = refl
all_marked p (x ∷ xs) = ap (λ b. p x && b) (all_marked p xs)

all_same : {A : Type 0} (p q : A → Bool) (xs : List A) → AllByRecursion (λ x. p x ≡ q x) xs → list_all p xs ≡ list_all q xs
all_same p q [] h = refl
all_same p q (x ∷ xs) h = rw (h.0, all_same p q xs h.1)

by_reach : (s : State) (reach : Reach) → list_all (table.contains_key s.vehicles) (named_in reach) ≡ reach_is_known s reach
by_reach s All = refl
by_reach s (Named vehicles) = refl

knows_vehicles : (s : State) (campaign : CampaignData) (known : List Bool) (images : Table ImageData) → Knows s campaign known images
    → reach_is_known s campaign.reach ≡ list_all (λ b. b) known
knows_vehicles s campaign known images knows =
    sym (by_reach s campaign.reach) ∙ sym (all_marked (table.contains_key s.vehicles) (named_in campaign.reach)) ∙ ap (list_all (λ b. b)) (sym knows.of_vehicles)

abbrev is_there : Option ImageData → Bool
is_there None = false
is_there (Some image) = true

knows_images : (s : State) (campaign : CampaignData) (known : List Bool) (images : Table ImageData) → Knows s campaign known images
    → list_all (has_its_image s) campaign.items ≡ list_all (finds_image images) campaign.items
knows_images s campaign known images knows = all_same (has_its_image s) (finds_image images) campaign.items (each_weaker _ _ (λ (item : Item) same. sym (ap is_there same)) campaign.items knows.of_images)

knows_hardware : (s : State) (campaign : CampaignData) (known : List Bool) (images : Table ImageData) → Knows s campaign known images
    → list_all (has_its_hardware s) campaign.items ≡ list_all (finds_hardware images) campaign.items
knows_hardware s campaign known images knows = all_same (has_its_hardware s) (finds_hardware images) campaign.items (each_weaker _ _ (λ (item : Item) same. sym (ap (λ o. unwrap_or (option_map (is_for item.hardware) o) false) same)) campaign.items knows.of_images)

-- ---- the checks

steps_same : (a b c d e f : Bool) (o : Outcome) → a ≡ b → c ≡ d → e ≡ f
    → (unless a UnknownVehicle >>= (λ _. unless c UnknownImage >>= (λ _. unless e WrongHardware >>= (λ _. Ok o))))
    ≡ ((unless b UnknownVehicle >>= (λ _. unless d UnknownImage >>= (λ _. unless f WrongHardware))) >>= (λ _. Ok o))
unfolding and_then
steps_same true true true true true true o p q r = refl
steps_same true true true true false false o p q r = refl
steps_same true true false false e f o p q r = refl
steps_same false false c d e f o p q r = refl
steps_same true false c d e f o p q r = cc
steps_same false true c d e f o p q r = cc
steps_same true true true false e f o p q r = cc
steps_same true true false true e f o p q r = cc
steps_same true true true true true false o p q r = cc
steps_same true true true true false true o p q r = cc

-- the rows tell the first fault
pub checked_rows : (s : State) (campaign : CampaignData) (known : List Bool) (images : Table ImageData) → Knows s campaign known images
    → decide_new_campaign s campaign ≡ (check_campaign known images campaign >>= (λ _. Ok (done (with_campaign s campaign))))
unfolding decide_new_campaign check_campaign
checked_rows s campaign known images knows =
    steps_same _ _ _ _ _ _ (done (with_campaign s campaign)) (knows_vehicles s campaign known images knows) (knows_images s campaign known images knows) (knows_hardware s campaign known images knows)

-- ---- want of memory

no_memory : (a b c : Bool) → (unless a UnknownVehicle >>= (λ _. unless b UnknownImage >>= (λ _. unless c WrongHardware))) ≡ Err Memory
    → (unless a UnknownVehicle >>= (λ _. unless b UnknownImage >>= (λ _. unless c WrongHardware))) ≡ Ok tt
unfolding and_then
no_memory true true true h = refl
no_memory true true false h = cc
no_memory true false c h = cc
no_memory false b c h = cc

-- the checks take no memory, so that none is refused where one of them fails
pub checks_outright : {A : Type 0} (result : Result A Refusal) (e : Refusal) (campaign : CampaignData) (known : List Bool) (images : Table ImageData) → IsErrAnd result (λ x. x ≡ e)
    → result ≡ Err Memory → check_campaign known images campaign ≡ Err e → check_campaign known images campaign ≡ Ok tt
unfolding check_campaign
checks_outright result e campaign known images is memory h =
    no_memory (list_all (λ is_known. is_known) known) (list_all (finds_image images) campaign.items) (list_all (finds_hardware images) campaign.items)
    (memory_first result e (check_campaign known images campaign) is memory h)
