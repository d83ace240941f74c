-- What is assigned, and why nothing is.
use Rattle.std.proofs.Common.{◌≡◌, ◌⊎◌, List, [], ◌∷◌, true, false, refl, sym, ◌∙◌, ap, subst, inl, inr}
use Rattle.std.specs.Prelude.{Option, Some, None, IsSome, filter}
use Rattle.up_plan.specs.Images.{ImageData}
use Rattle.up_plan.specs.Planning.{Resulting, plan_with, resulting, updates, wanted, with_wanted}
use Rattle.up_plan.specs.declared.assigned.Fitted.{Fitted}
use Rattle.up_plan.specs.declared.assigned.Assigned.{Assigned}
use Rattle.up_plan.specs.declared.assigned.Cause.{Cause}
use Rattle.up_plan.specs.declared.campaign.Item.{Item}
use Rattle.up_plan.proofs.Members.{In, in_map, map_in, in_filter, filter_in}

-- an ECU that wants the image, with its file
pub record IsWish (images : List ImageData) (items : List Item) (fitted : List Fitted) (a : Assigned) : Type 0 where
  pub e : Fitted
  pub image : ImageData
  pub present : In fitted e
  pub wish : wanted images items e ≡ Some image
  pub ecu_is : a.ecu ≡ e.ecu
  pub file_is : a.file ≡ image.file

module _ (images : List ImageData) (items : List Item) (fitted : List Fitted) where
  wish_of : (a : Assigned) (r : Resulting) (e : Fitted) → In fitted e → record { ecu = r.ecu; file = r.file } ≡ a → r.updated ≡ true
      → (w : Option ImageData) → wanted images items e ≡ w → with_wanted images e w ≡ r → IsWish images items fitted a
  wish_of a r e here is up None none same = let no : false ≡ true = ap (λ s. s.updated) same ∙ up in cc
  wish_of a r e here is up (Some image) wish same =
      record {
        e = e;
        image = image;
        present = here;
        wish = wish;
        ecu_is = sym (ap (λ s. s.ecu) same ∙ ap (λ b. b.ecu) is);
        file_is = sym (ap (λ s. s.file) same ∙ ap (λ b. b.file) is);
      }

  -- each update is a wish
  pub update_is : (a : Assigned) → In (updates (resulting images items fitted)) a → IsWish images items fitted a
  update_is a h =
      let set = resulting images items fitted in
      let made = in_map (λ r. record { ecu = r.ecu; file = r.file }) (filter (λ r. r.updated) set) a h in
      let kept = in_filter (λ r. r.updated) set made.0 made.1 in
      let from = in_map (λ e. with_wanted images e (wanted images items e)) fitted made.0 kept.0 in
      wish_of a made.0 from.0 from.1 made.2 kept.1 (wanted images items from.0) refl from.2

  -- and each wish an update
  pub is_update : (e : Fitted) (image : ImageData) → In fitted e → wanted images items e ≡ Some image → In (updates (resulting images items fitted)) (record { ecu = e.ecu; file = image.file })
  is_update e image here wish =
      let set = resulting images items fitted in
      let r = with_wanted images e (Some image) in
      let placed : In set r = subst (λ w. In set (with_wanted images e w)) wish (map_in (λ e. with_wanted images e (wanted images items e)) fitted e here) in
      map_in (λ r. record { ecu = r.ecu; file = r.file }) (filter (λ r. r.updated) set) r (filter_in (λ r. r.updated) set r placed refl)

-- ---- all of them, or none

pub assigned_of : (us : List Assigned) (c : Option Cause) (a : Assigned) → In (plan_with us c).assigned a → In us a × (c ≡ None)
assigned_of [] c a h = absurd h
assigned_of (u ∷ us) None a h = (h, refl)
assigned_of (u ∷ us) (Some cause) a h = absurd h

pub all_or_none_of : (us : List Assigned) (c : Option Cause) → ((plan_with us c).assigned ≡ []) ⊎ ((plan_with us c).assigned ≡ us)
all_or_none_of [] c = inl refl
all_or_none_of (u ∷ us) None = inr refl
all_or_none_of (u ∷ us) (Some cause) = inl refl

pub withheld_of : (us : List Assigned) (c : Option Cause) (cause : Cause) → (plan_with us c).withheld ≡ Some cause → ((plan_with us c).assigned ≡ []) × (c ≡ Some cause)
withheld_of [] c cause h = cc
withheld_of (u ∷ us) None cause h = cc
withheld_of (u ∷ us) (Some other) cause h = (refl, h)

pub named_of : (us : List Assigned) (c : Option Cause) (a : Assigned) → In us a → (plan_with us c).assigned ≡ [] → IsSome (plan_with us c).withheld
named_of [] c a h none = absurd h
named_of (u ∷ us) None a h none = cc
named_of (u ∷ us) (Some cause) a h none = refl

pub nil_of : {A : Type 0} (xs : List A) → ((x : A) → In xs x → ⊥) → xs ≡ []
nil_of [] h = refl
nil_of (x ∷ xs) h = absurd (h x (inl refl))
