-- The greatest of a list of images.
use Rattle.std.proofs.Common.{◌≡◌, ℕ, ◌+◌, ◌<◌, List, [], ◌∷◌, ◌++◌, Bool, true, false, refl, ap, cond, length, get_or, take}
use Rattle.std.specs.Prelude.{Some, filter}
use Rattle.std.proofs.lemmas.List.{take_more, append-nil}
use Rattle.std.proofs.lemmas.List.Elements.{filter-append}
use Rattle.std.proofs.lemmas.List.Sums.{fold-append}
use Rattle.up_plan.specs.Images.{ImageData}
use Rattle.up_plan.specs.Planning.{greater, greatest, is_above}

-- one more image at the end
pub greatest_more : (images : List ImageData) (image : ImageData) → greatest (images ++ image ∷ []) ≡ Some (greater (greatest images) image)
greatest_more [] image = refl
greatest_more (first ∷ images) image = ap Some (fold-append (λ best other. cond (is_above other best) other best) first images (image ∷ []))

module _ {A : Type 0} (p : A → Bool) (xs : List A) (i : ℕ) (x : A) (h : i < length xs) (at : x ≡ get_or xs i x) where
  pub filter_more : p x ≡ true → filter p (take (i + 1) xs) ≡ filter p (take i xs) ++ x ∷ []
  filter_more passes = rw (take_more xs i x h, ← at, filter-append, passes) refl

  pub filter_less : p x ≡ false → filter p (take (i + 1) xs) ≡ filter p (take i xs)
  filter_less fails = rw (take_more xs i x h, ← at, filter-append, fails, append-nil) refl
