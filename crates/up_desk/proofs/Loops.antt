-- One more item of a loop.
use Rattle.std.proofs.Common.{◌≡◌, ℕ, ◌+◌, ◌<◌, List, [], ◌∷◌, ◌++◌, length, get_or, take, map, sym, ap, ap₂, subst, ◌∙◌}
use Rattle.std.proofs.lemmas.List.{map_more}
use Rattle.up_canon.specs.Names.{Name, Table}
use Rattle.up_plan.specs.Images.{ImageData}
use Rattle.up_desk.specs.Gathered.{IsPart, gathered}
use Rattle.up_desk.proofs.LookedUp.{gathered_more, part_gathered}

pub mapped_more : {A B : Type 0} (f : A → B) (xs : List A) (i : ℕ) (x : A) → i < length xs → x ≡ get_or xs i x → map f (take (i + 1) xs) ≡ map f (take i xs) ++ f x ∷ []
mapped_more f xs i x within is = map_more f xs i x within ∙ ap (λ y. map f (take i xs) ++ f y ∷ []) (sym is)

-- one more value is pushed
pub pushed_more : {A B : Type 0} (f : A → B) (xs : List A) (i : ℕ) (x : A) (held more : List B) (b : B) → i < length xs → x ≡ get_or xs i x → more ≡ held ++ b ∷ [] → b ≡ f x → held ≡ map f (take i xs)
    → more ≡ map f (take (i + 1) xs)
pushed_more f xs i x held more b within is pushed value so_far = pushed ∙ ap₂ (λ ys y. ys ++ y ∷ []) so_far value ∙ sym (mapped_more f xs i x within is)

-- these files are looked up behind those before
pub files_more : (registered start : Table ImageData) (before these : List Name) {images more : Table ImageData} {all : List Name} → all ≡ before ++ these → images ≡ gathered registered before start → IsPart registered start
    → (IsPart registered images → more ≡ gathered registered these images) → more ≡ gathered registered all start
files_more registered start before these is so_far part found =
    found (subst (IsPart registered) (sym so_far) (part_gathered registered before start part))
    ∙ ap (gathered registered these) so_far ∙ sym (gathered_more registered before these start) ∙ ap (λ files. gathered registered files start) (sym is)
