-- The greatest of a part of the images.
use Rattle.std.proofs.Common.{◌≡◌, List, [], ◌∷◌, ◌++◌, Bool, true, false, cond, refl, sym, ◌∙◌, ap, subst}
use Rattle.std.specs.Prelude.{Option, Some, None, filter}
use Rattle.std.proofs.lemmas.List.{append-nil, append_assoc}
use Rattle.std.proofs.lemmas.List.Elements.{filter-append}
use Rattle.up_plan.specs.Images.{ImageData}
use Rattle.up_plan.specs.Planning.{greater, greatest, is_above}
use Rattle.up_plan.proofs.Above.{above_chain, greatest_in, greatest_none_above, greatest_of_none}
use Rattle.up_plan.proofs.Greatest.{greatest_more}
use Rattle.up_plan.proofs.Members.{In, in_filter}

-- what is above an image is above those that aren't above it
above_over : (x g m : ImageData) (b : Bool) → is_above x m ≡ b → is_above x g ≡ true → is_above m g ≡ false → b ≡ true
above_over x g m true e h k = refl
above_over x g m false e h k = let no : true ≡ false = sym h ∙ above_chain x m g e k in cc

above_all : (o : Option ImageData) (y : ImageData) → ((m : ImageData) → o ≡ Some m → is_above y m ≡ true) → greater o y ≡ y
above_all None y h = refl
above_all (Some m) y h = ap (λ b. cond b y m) (h m refl)

module _ (p : ImageData → Bool) where
  -- the greatest of these images, where it is of the part, is the part's greatest
  abbrev Keeps : List ImageData → Type 0
  Keeps zs = (g : ImageData) → greatest zs ≡ Some g → p g ≡ true → greatest (filter p zs) ≡ Some g

  more : (zs : List ImageData) (y : ImageData) (b : Bool) → p y ≡ b → filter p (zs ++ y ∷ []) ≡ filter p zs ++ cond b (y ∷ []) []
  more zs y b e = rw (filter-append, e) refl

  as_new : (zs : List ImageData) (y : ImageData) → p y ≡ true → ((m : ImageData) → In zs m → is_above y m ≡ true) → greatest (filter p (zs ++ y ∷ [])) ≡ Some y
  as_new zs y passes above =
      ap greatest (more zs y true passes)
      ∙ greatest_more (filter p zs) y
      ∙ ap Some (above_all (greatest (filter p zs)) y (λ m is. above m (in_filter p zs m (greatest_in (filter p zs) m is)).0))

  as_before : (zs : List ImageData) (y g : ImageData) (b : Bool) → p y ≡ b → is_above y g ≡ false → greatest (filter p zs) ≡ Some g → greatest (filter p (zs ++ y ∷ [])) ≡ Some g
  as_before zs y g true e under is = ap greatest (more zs y true e) ∙ greatest_more (filter p zs) y ∙ ap (λ o. Some (greater o y)) is ∙ ap (λ b. Some (cond b y g)) under
  as_before zs y g false e under is = ap greatest (more zs y false e ∙ append-nil (filter p zs)) ∙ is

  by_above : (zs : List ImageData) (y g best : ImageData) → Keeps zs → p g ≡ true → greatest zs ≡ Some best → (b : Bool) → is_above y best ≡ b → cond b y best ≡ g → greatest (filter p (zs ++ y ∷ [])) ≡ Some g
  by_above zs y g best keeps passes is true above same =
      as_new zs y (ap p same ∙ passes) (λ m h. above_over y best m (is_above y m) refl above (greatest_none_above zs best is m h)) ∙ ap Some same
  by_above zs y g best keeps passes is false above same =
      as_before zs y best (p y) refl above (keeps best is (ap p same ∙ passes)) ∙ ap Some same

  by_best : (zs : List ImageData) (y g : ImageData) → Keeps zs → p g ≡ true → (o : Option ImageData) → greatest zs ≡ o → greater o y ≡ g → greatest (filter p (zs ++ y ∷ [])) ≡ Some g
  by_best zs y g keeps passes None is same = as_new zs y (ap p same ∙ passes) (λ m h. absurd (greatest_of_none zs is m h)) ∙ ap Some same
  by_best zs y g keeps passes (Some best) is same = by_above zs y g best keeps passes is (is_above y best) refl same

  keeps_more : (zs : List ImageData) (y : ImageData) → Keeps zs → Keeps (zs ++ y ∷ [])
  keeps_more zs y keeps g is passes = let same : greater (greatest zs) y ≡ g = let e = sym (greatest_more zs y) ∙ is in cc in by_best zs y g keeps passes (greatest zs) refl same

  keeps_all : (zs ys : List ImageData) → Keeps zs → Keeps (zs ++ ys)
  keeps_all zs [] keeps = subst Keeps (sym (append-nil zs)) keeps
  keeps_all zs (y ∷ ys) keeps = subst Keeps (append_assoc zs (y ∷ []) ys) (keeps_all (zs ++ y ∷ []) ys (keeps_more zs y keeps))

  keeps_none : Keeps []
  keeps_none g is passes = cc

  pub greatest_kept : (zs : List ImageData) (g : ImageData) → greatest zs ≡ Some g → p g ≡ true → greatest (filter p zs) ≡ Some g
  greatest_kept zs = keeps_all [] zs keeps_none

  -- a part of a part
  dropped : (q : ImageData → Bool) (x : ImageData) (xs : List ImageData) (b : Bool) → p x ≡ false → filter p (filter q xs) ≡ filter p xs → filter p (cond b (x ∷ filter q xs) (filter q xs)) ≡ filter p xs
  dropped q x xs true e ih = rw e ih
  dropped q x xs false e ih = ih

  filter_step : (q : ImageData → Bool) (x : ImageData) (xs : List ImageData) (b : Bool) → p x ≡ b → (p x ≡ true → q x ≡ true) → filter p (filter q xs) ≡ filter p xs → filter p (filter q (x ∷ xs)) ≡ filter p (x ∷ xs)
  filter_step q x xs true e wider ih = rw (wider e, e, ih) refl
  filter_step q x xs false e wider ih = dropped q x xs (q x) e ih ∙ sym (ap (λ b. cond b (x ∷ filter p xs) (filter p xs)) e)

  pub filter_wider : (q : ImageData → Bool) → ((x : ImageData) → p x ≡ true → q x ≡ true) → (xs : List ImageData) → filter p (filter q xs) ≡ filter p xs
  filter_wider q wider [] = refl
  filter_wider q wider (x ∷ xs) = filter_step q x xs (p x) refl (wider x) (filter_wider q wider xs)
