-- Items that are found by places offer what those of the running campaigns that reach a vehicle offer.
use Rattle.std.proofs.Common.{◌≡◌, ℕ, ◌+◌, ◌<◌, ◌&&◌, ◌||◌, List, [], ◌∷◌, ◌++◌, Bool, true, false, cond, length, get_or, take, refl, ap, ap₂, sym, ◌∙◌, bytes_eq, arith}
use Rattle.std.specs.Prelude.{Option, Some, None, filter, flat_map, not, option_map, slice_get, unwrap_or, if◌then◌else◌}
use Rattle.std.specs.List.{list_any}
use Rattle.std.proofs.lemmas.List.Folds.{list_any-append, list_any_more}
use Rattle.std.proofs.lemmas.Option.{slice_get_read, unwrap_or-slice_get}
use Rattle.up_canon.specs.Names.{Name}
use Rattle.up_plan.specs.declared.campaign.Item.{Item}
use Rattle.up_plan.specs.declared.campaign.Reach.{Reach}
use Rattle.up_plan.specs.declared.campaign.Reach.TheVariants.{All, Named}
use Rattle.up_plan.specs.declared.running.NameAt.{NameAt}
use Rattle.up_plan.specs.Campaigns.{CampaignData}
use Rattle.up_plan.specs.Offers.{OffersSame}
use Rattle.up_plan.specs.Planning.{items_for, reaches}
use Rattle.up_plan.specs.Named.{names_in, vehicles_named}
use Rattle.up_plan.specs.Running.{AreFound, AreForAll, AreNamed, is_all, items_at, name_at, name_in, passes_at, passes_named, reaches_all, reaches_by_name}

-- ---- whether something passes

or_false : (a : Bool) → (a || false) ≡ a
or_false true = refl
or_false false = refl

exchanged : (a b c d : Bool) → ((a || b) || (c || d)) ≡ ((a || c) || (b || d))
exchanged true b c d = refl
exchanged false true true d = refl
exchanged false true false d = refl
exchanged false false c d = refl

module _ {A : Type 0} where
  any_same : (p q : A → Bool) → ((x : A) → p x ≡ q x) → (xs : List A) → list_any p xs ≡ list_any q xs
  any_same p q same [] = refl
  any_same p q same (x ∷ xs) = ap₂ (λ a b. a || b) (same x) (any_same p q same xs)

  any_filter : (p q : A → Bool) (xs : List A) → list_any q (filter p xs) ≡ list_any (λ x. p x && q x) xs
  any_filter p q [] = refl
  any_filter p q (x ∷ xs) = by_test (p x) (any_filter p q xs)
    where
      by_test : (b : Bool) → list_any q (filter p xs) ≡ list_any (λ y. p y && q y) xs → list_any q (cond b (x ∷ filter p xs) (filter p xs)) ≡ ((b && q x) || list_any (λ y. p y && q y) xs)
      by_test true rest = ap (λ b. q x || b) rest
      by_test false rest = rest

  any_either : (p q : A → Bool) (xs : List A) → (list_any p xs || list_any q xs) ≡ list_any (λ x. p x || q x) xs
  any_either p q [] = refl
  any_either p q (x ∷ xs) = exchanged (p x) (list_any p xs) (q x) (list_any q xs) ∙ ap (λ b. (p x || q x) || b) (any_either p q xs)

  any_flat : {B : Type 0} (q : B → Bool) (f : A → List B) (xs : List A) → list_any q (flat_map f xs) ≡ list_any (λ x. list_any q (f x)) xs
  any_flat q f [] = refl
  any_flat q f (x ∷ xs) = list_any-append q (f x) (flat_map f xs) ∙ ap (λ b. list_any q (f x) || b) (any_flat q f xs)

-- ---- what is offered

reached : (vehicle : Name) (pass running : Bool) (reach : Reach)
    → (((running && is_all reach) && pass) || ((running && not (is_all reach) && reaches vehicle reach) && pass)) ≡ ((running && reaches vehicle reach) && pass)
reached vehicle pass false reach = refl
reached vehicle true true All = refl
reached vehicle false true All = refl
reached vehicle pass true (Named vehicles) = refl

module _ (campaigns : List CampaignData) where
  items_pass : (q : Item → Bool) (place : ℕ) → list_any q (items_at campaigns place) ≡ passes_at campaigns (λ c. list_any q c.items) place
  items_pass q place = by_found (slice_get campaigns place)
    where
      by_found : (o : Option CampaignData) → list_any q (unwrap_or (option_map (λ c. c.items) o) []) ≡ unwrap_or (option_map (λ c. list_any q c.items) o) false
      by_found None = refl
      by_found (Some c) = refl

  for_all_pass : (places : List ℕ) → AreForAll campaigns places → (q : Item → Bool)
      → list_any q (flat_map (items_at campaigns) places) ≡ list_any (λ c. reaches_all c && list_any q c.items) campaigns
  for_all_pass places known q =
      any_flat q (items_at campaigns) places
      ∙ any_same (λ place. list_any q (items_at campaigns place)) (passes_at campaigns (λ c. list_any q c.items)) (items_pass q) places
      ∙ known (λ c. list_any q c.items)

  named_pass : (names : List NameAt) → AreNamed campaigns names → (vehicle : Name) (q : Item → Bool)
      → list_any q (flat_map (λ at. items_at campaigns at.campaign) (filter (λ at. bytes_eq vehicle (name_at campaigns at)) names)) ≡ list_any (λ c. reaches_by_name vehicle c && list_any q c.items) campaigns
  named_pass names known vehicle q =
      any_flat q (λ at. items_at campaigns at.campaign) (filter (λ at. bytes_eq vehicle (name_at campaigns at)) names)
      ∙ any_filter (λ at. bytes_eq vehicle (name_at campaigns at)) (λ at. list_any q (items_at campaigns at.campaign)) names
      ∙ any_same (λ at. bytes_eq vehicle (name_at campaigns at) && list_any q (items_at campaigns at.campaign)) (passes_named campaigns vehicle (λ c. list_any q c.items))
      (λ at. ap (λ b. bytes_eq vehicle (name_at campaigns at) && b) (items_pass q at.campaign)) names
      ∙ known vehicle (λ c. list_any q c.items)

  pub offers_found : (places : List ℕ) (names : List NameAt) → AreFound campaigns places names → (vehicle : Name)
      → OffersSame (flat_map (items_at campaigns) places ++ flat_map (λ at. items_at campaigns at.campaign) (filter (λ at. bytes_eq vehicle (name_at campaigns at)) names)) (items_for campaigns vehicle)
  offers_found places names found vehicle = λ hardware image.
      let q : Item → Bool = λ i. bytes_eq i.hardware hardware && bytes_eq i.file image.file in
      let test : CampaignData → Bool = λ c. list_any q c.items in
      list_any-append q (flat_map (items_at campaigns) places) (flat_map (λ at. items_at campaigns at.campaign) (filter (λ at. bytes_eq vehicle (name_at campaigns at)) names))
      ∙ ap₂ (λ a b. a || b) (for_all_pass places found.for_all q) (named_pass names found.named vehicle q)
      ∙ any_either (λ c. reaches_all c && test c) (λ c. reaches_by_name vehicle c && test c) campaigns
      ∙ any_same (λ c. (reaches_all c && test c) || (reaches_by_name vehicle c && test c)) (λ c. (c.running && reaches vehicle c.reach) && test c) (λ c. reached vehicle (test c) c.running c.reach) campaigns
      ∙ sym (any_filter (λ c. c.running && reaches vehicle c.reach) test campaigns)
      ∙ sym (any_flat q (λ c. c.items) (filter (λ c. c.running && reaches vehicle c.reach) campaigns))

-- ---- one more campaign

module _ (campaigns : List CampaignData) (i : ℕ) (c : CampaignData) (within : i < length campaigns) (at : c ≡ get_or campaigns i c) where
  pub stands : slice_get campaigns i ≡ Some c
  stands = slice_get_read campaigns (length campaigns) i c refl within at

  pub one_more : (p : CampaignData → Bool) → list_any p (take (i + 1) campaigns) ≡ (list_any p (take i campaigns) || p c)
  one_more p = list_any_more p campaigns i c within ∙ ap (λ d. list_any p (take i campaigns) || p d) (sym at)

  pub place_more : (places : List ℕ) → reaches_all c ≡ true → ((test : CampaignData → Bool) → list_any (passes_at campaigns test) places ≡ list_any (λ d. reaches_all d && test d) (take i campaigns))
      → (test : CampaignData → Bool) → list_any (passes_at campaigns test) (places ++ i ∷ []) ≡ list_any (λ d. reaches_all d && test d) (take (i + 1) campaigns)
  place_more places all known test =
      list_any-append (passes_at campaigns test) places (i ∷ [])
      ∙ ap₂ (λ a b. a || b) (known test) (or_false (passes_at campaigns test i) ∙ ap (λ o. unwrap_or (option_map test o) false) stands ∙ ap (λ b. b && test c) (sym all))
      ∙ sym (one_more (λ d. reaches_all d && test d))

  pub place_less : (places : List ℕ) → reaches_all c ≡ false → ((test : CampaignData → Bool) → list_any (passes_at campaigns test) places ≡ list_any (λ d. reaches_all d && test d) (take i campaigns))
      → (test : CampaignData → Bool) → list_any (passes_at campaigns test) places ≡ list_any (λ d. reaches_all d && test d) (take (i + 1) campaigns)
  place_less places none known test =
      known test
      ∙ sym (or_false (list_any (λ d. reaches_all d && test d) (take i campaigns)))
      ∙ ap (λ b. list_any (λ d. reaches_all d && test d) (take i campaigns) || (b && test c)) (sym none)
      ∙ sym (one_more (λ d. reaches_all d && test d))

-- ---- one more name of a campaign

joined : (a b c pass : Bool) → ((a || (b && pass)) || ((c && pass) || false)) ≡ (a || ((b || c) && pass))
joined true b c pass = refl
joined false true true true = refl
joined false true true false = refl
joined false true false true = refl
joined false true false false = refl
joined false false c true = by_last c
  where
    by_last : (d : Bool) → ((d && true) || false) ≡ (d && true)
    by_last true = refl
    by_last false = refl
joined false false c false = by_last c
  where
    by_last : (d : Bool) → ((d && false) || false) ≡ (d && false)
    by_last true = refl
    by_last false = refl

module _ (campaigns : List CampaignData) (c : CampaignData) (place : ℕ) (there : slice_get campaigns place ≡ Some c) (i : ℕ) (within : i < length (vehicles_named c)) where
  pub name_is : name_at campaigns (record { campaign = place; name = i }) ≡ unwrap_or (slice_get (vehicles_named c) i) []
  name_is = ap (λ o. unwrap_or (option_map (λ d. name_in d.reach i) o) []) there ∙ by_reach c.running c.reach within
    where
      by_reach : (running : Bool) (reach : Reach) → i < length (if running then names_in reach else []) → name_in reach i ≡ unwrap_or (slice_get (if running then names_in reach else []) i) []
      by_reach false reach none = absurd (omega (arith, none))
      by_reach true All none = refl
      by_reach true (Named vehicles) some = refl

  pub name_more : (names old : List NameAt) (vehicle : Name) (test : CampaignData → Bool)
      → list_any (passes_named campaigns vehicle test) names ≡ (list_any (passes_named campaigns vehicle test) old || (list_any (bytes_eq vehicle) (take i (vehicles_named c)) && test c))
      → list_any (passes_named campaigns vehicle test) (names ++ record { campaign = place; name = i } ∷ [])
      ≡ (list_any (passes_named campaigns vehicle test) old || (list_any (bytes_eq vehicle) (take (i + 1) (vehicles_named c)) && test c))
  name_more names old vehicle test known =
      let at : NameAt = record { campaign = place; name = i } in
      let here : passes_named campaigns vehicle test at ≡ (bytes_eq vehicle (get_or (vehicles_named c) i []) && test c) =
      ap₂ (λ n b. bytes_eq vehicle n && b) (name_is ∙ unwrap_or-slice_get (vehicles_named c) i []) (ap (λ o. unwrap_or (option_map test o) false) there) in
      list_any-append (passes_named campaigns vehicle test) names (at ∷ [])
      ∙ ap₂ (λ a b. a || (b || false)) known here
      ∙ joined (list_any (passes_named campaigns vehicle test) old) (list_any (bytes_eq vehicle) (take i (vehicles_named c))) (bytes_eq vehicle (get_or (vehicles_named c) i [])) (test c)
      ∙ ap (λ b. list_any (passes_named campaigns vehicle test) old || (b && test c)) (sym (list_any_more (bytes_eq vehicle) (vehicles_named c) i [] within))
