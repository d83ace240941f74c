-- Each image that a plan assigns is one of the registered images.
use Rattle.std.proofs.Common.{◌≡◌, List, [], ◌∷◌, Bool, true, false, cond, Option, Some, None, refl, sym, ap, ◌∙◌}
use Rattle.std.specs.Prelude.{map, filter, nat_lt}
use Rattle.std.specs.List.{AllByRecursion, list_all, best_of}
use Rattle.up_canon.specs.Names.{Name}
use Rattle.up_canon.specs.Steps.{if_passes, first_or_none}
use Rattle.up_plan.specs.declared.assigned.Fitted.{Fitted}
use Rattle.up_plan.specs.declared.assigned.Assigned.{Assigned}
use Rattle.up_plan.specs.declared.assigned.Cause.{Cause}
use Rattle.up_plan.specs.declared.campaign.Item.{Item}
use Rattle.up_plan.specs.Campaigns.{CampaignData}
use Rattle.up_plan.specs.Images.{ImageData}
use Rattle.up_plan.specs.Planning.{is_above, is_offered, offered, greatest, level, wanted, Resulting, with_wanted, resulting, unmet, updates, plan_with, plan_of, items_for}
use Rattle.up_metadata.proofs.Lists.{and_left, and_right, all_of_filter}

-- the best of a list passes what all of the list pass
best_passes : {A : Type 0} (beats : A → A → Bool) (p : A → Bool) (a : A) (xs : List A) → p a ≡ true → list_all p xs ≡ true → p (best_of beats a xs) ≡ true
best_passes beats p a [] here all = here
best_passes beats p a (x ∷ xs) here all = best_passes beats p (cond (beats x a) x a) xs (chosen (beats x a)) (and_right _ _ all)
  where
    chosen : (b : Bool) → p (cond b x a) ≡ true
    chosen true = and_left _ _ all
    chosen false = here

greatest_passes : (p : ImageData → Bool) (images : List ImageData) (image : ImageData) → list_all p images ≡ true → greatest images ≡ Some image → p image ≡ true
greatest_passes p [] image all h = cc
greatest_passes p (x ∷ xs) image all h =
    let same : best_of is_above x xs ≡ image = cc in
    ap p (sym same) ∙ best_passes is_above p x xs (and_left _ _ all) (and_right _ _ all)

pub if_passes_some : {A : Type 0} (p : A → Bool) (o : Option A) (x : A) → if_passes p o ≡ Some x → o ≡ Some x
if_passes_some p None x h = cc
if_passes_some p (Some y) x h = by_test (p y) h
  where
    by_test : (b : Bool) → cond b (Some y) None ≡ Some x → Some y ≡ Some x
    by_test true h = h
    by_test false h = cc

wanted_passes : (p : ImageData → Bool) (images : List ImageData) (items : List Item) (e : Fitted) (image : ImageData)
    → list_all p images ≡ true → wanted images items e ≡ Some image → p image ≡ true
wanted_passes p images items e image all h =
    greatest_passes p (offered images items e.hardware) image (all_of_filter p (is_offered items e.hardware) images all)
    (if_passes_some (λ image. nat_lt (level images e) image.release) (greatest (offered images items e.hardware)) image h)

-- what holds of the file of each registered image holds of the file of each ECU that is updated
abbrev IsUpdateTo : (Name → Bool) → Resulting → Type 0
IsUpdateTo q r = r.updated ≡ true → q r.file ≡ true

update_passes : (q : Name → Bool) (images : List ImageData) (e : Fitted) (o : Option ImageData) → ((image : ImageData) → o ≡ Some image → q image.file ≡ true) → IsUpdateTo q (with_wanted images e o)
update_passes q images e None each = λ h. cc
update_passes q images e (Some image) each = λ h. each image refl

each_update : (q : Name → Bool) (images : List ImageData) (items : List Item) (fitted : List Fitted) → list_all (λ image. q image.file) images ≡ true
    → AllByRecursion (IsUpdateTo q) (resulting images items fitted)
each_update q images items [] all = tt
each_update q images items (e ∷ fitted) all = (
  update_passes q images e (wanted images items e) (λ image h. wanted_passes (λ image. q image.file) images items e image all h),
  each_update q images items fitted all,
)

updates_pass : (q : Name → Bool) (set : List Resulting) → AllByRecursion (IsUpdateTo q) set → AllByRecursion (λ (a : Assigned). q a.file ≡ true) (updates set)
updates_pass q [] h = tt
updates_pass q (r ∷ set) h = by_test r.updated refl (updates_pass q set h.1)
  where
    by_test : (b : Bool) → r.updated ≡ b → AllByRecursion (λ (a : Assigned). q a.file ≡ true) (updates set)
        → AllByRecursion (λ (a : Assigned). q a.file ≡ true) (map (λ (r : Resulting). record { ecu = r.ecu; file = r.file }) (cond b (r ∷ filter (λ r. r.updated) set) (filter (λ r. r.updated) set)))
    by_test true e rest = (h.0 e, rest)
    by_test false e rest = rest

plan_with_passes : (P : Assigned → Type 0) (all : List Assigned) (cause : Option Cause) → AllByRecursion P all → AllByRecursion P (plan_with all cause).assigned
plan_with_passes P [] cause h = tt
plan_with_passes P (a ∷ rest) None h = h
plan_with_passes P (a ∷ rest) (Some cause) h = tt

pub plan_passes : (q : Name → Bool) (images : List ImageData) (campaigns : List CampaignData) (vehicle : Name) (fitted : List Fitted)
    → list_all (λ image. q image.file) images ≡ true → AllByRecursion (λ (a : Assigned). q a.file ≡ true) (plan_of images campaigns vehicle fitted).assigned
unfolding plan_of
plan_passes q images campaigns vehicle fitted all =
    let set = resulting images (items_for campaigns vehicle) fitted in
    plan_with_passes (λ (a : Assigned). q a.file ≡ true) (updates set) (first_or_none (unmet set)) (updates_pass q set (each_update q images (items_for campaigns vehicle) fitted all))
