-- The order of images: by release counter, and then by lesser filename.
use Rattle.std.proofs.Common.{◌≡◌, ◌≤◌, ◌||◌, ◌&&◌, ◌⊎◌, List, [], ◌∷◌, Bool, true, false, cond, refl, sym, ◌∙◌, ap, subst, inl, inr, arith, nat_cmp, nat_eq, nat_lt}
use Rattle.std.specs.Prelude.{Some, None}
use Rattle.std.specs.List.{best_of}
use Rattle.std.specs.Ordering.{is_lt, is_eq, ordering_reverse}
use Rattle.std.specs.declared.cmp.Ordering.{Ordering}
use Rattle.std.specs.declared.cmp.Ordering.TheVariants.{Less, Equal, Greater}
use Rattle.std.specs.Cmp.{tied_itself}
use Rattle.std.specs.Cmp.Lexicographic.{slice_cmp, bytes_decides}
use Rattle.std.proofs.lemmas.Cmp.{nat_list_cmp_total}
use Rattle.std.proofs.lemmas.Bool.{ltb-false, ltb-true, eqb-true}
use Rattle.std.proofs.lemmas.List.MinMax.{ranks_by}
use Rattle.std.proofs.lemmas.Map.Text.{is_eq-slice_cmp}
use Rattle.up_canon.specs.Names.{Name}
use Rattle.up_plan.specs.Images.{ImageData}
use Rattle.up_plan.specs.Planning.{greatest, is_above}
use Rattle.up_plan.proofs.Members.{In}

-- what it is not to be above
record Below (a b : ImageData) : Type 0 where
  least : a.release ≤ b.release
  tied : a.release ≡ b.release → is_lt (slice_cmp nat_cmp a.file b.file) ≡ false

neither : (p q t : Bool) → (p || (q && t)) ≡ false → (p ≡ false) × (q ≡ true → t ≡ false)
neither true q t h = cc
neither false true t h = (refl, λ _. h)
neither false false t h = (refl, λ e. cc)

neither_of : (p q t : Bool) → p ≡ false → (q ≡ true → t ≡ false) → (p || (q && t)) ≡ false
neither_of true q t h k = h
neither_of false true t h k = k refl
neither_of false false t h k = refl

below : (a b : ImageData) → is_above a b ≡ false → Below a b
below a b h =
    let parts = neither (nat_lt b.release a.release) (nat_eq a.release b.release) (is_lt (slice_cmp nat_cmp a.file b.file)) h in
    record { least = ltb-false b.release a.release parts.0; tied = λ e. parts.1 (grind arith) }

not_above : (a b : ImageData) → Below a b → is_above a b ≡ false
not_above a b h =
    neither_of (nat_lt b.release a.release) (nat_eq a.release b.release) (is_lt (slice_cmp nat_cmp a.file b.file)) (let le = h.least in grind arith) (λ e. h.tied (eqb-true a.release b.release e))

-- what isn't above is passed on
pub above_chain : (x y z : ImageData) → is_above x y ≡ false → is_above y z ≡ false → is_above x z ≡ false
above_chain x y z h k =
    let p = below x y h in
    let q = below y z k in
    not_above x z (record {
      least = let le = p.least in let ge = q.least in omega arith;
      tied = λ e.
          let le = p.least in
          let ge = q.least in
          let xy : x.release ≡ y.release = omega arith in
          let yz : y.release ≡ z.release = omega arith in
          (ranks_by nat_list_cmp_total (λ (n : Name). n)).chain x.file y.file z.file (p.tied xy) (q.tied yz);
    })

tie : (r : Ordering) → is_lt r ≡ false → is_lt (ordering_reverse r) ≡ false → is_eq r ≡ true
tie Less h k = cc
tie Equal h k = refl
tie Greater h k = cc

-- images of which neither is above the other have one filename
pub same_file : (a b : ImageData) → is_above a b ≡ false → is_above b a ≡ false → a.file ≡ b.file
same_file a b h k =
    let p = below a b h in
    let q = below b a k in
    let le = p.least in
    let ge = q.least in
    let ab : a.release ≡ b.release = omega arith in
    let turned = ap is_lt (sym (nat_list_cmp_total.antisymm b.file a.file)) ∙ q.tied (sym ab) in
    (bytes_decides a.file b.file).0 (sym (is_eq-slice_cmp a.file b.file) ∙ tie (slice_cmp nat_cmp a.file b.file) (p.tied ab) turned)

either : (p q t : Bool) → (p || (q && t)) ≡ true → (p ≡ true) ⊎ ((q ≡ true) × (t ≡ true))
either true q t h = inl refl
either false true t h = inr (refl, h)
either false false t h = cc

-- one of two is above the other
pub one_above : (a b : ImageData) → is_above a b ≡ true → is_above b a ≡ false
one_above a b h =
    elim (either (nat_lt b.release a.release) (nat_eq a.release b.release) (is_lt (slice_cmp nat_cmp a.file b.file)) h) [
      | inl more ↦ let lt = ltb-true b.release a.release more in not_above b a (record { least = omega arith; tied = λ e. let no : ⊥ = omega arith in absurd no })
      | inr both ↦
          let same = eqb-true a.release b.release both.0 in
          not_above b a (record { least = omega arith; tied = λ e. (ranks_by nat_list_cmp_total (λ (n : Name). n)).one_way a.file b.file both.1 })
    ]

-- ---- the greatest

in_step : (a x : ImageData) (xs : List ImageData) (g : ImageData) (b : Bool) → In (cond b x a ∷ xs) g → In (a ∷ x ∷ xs) g
in_step a x xs g true h = inr h
in_step a x xs g false (inl e) = inl e
in_step a x xs g false (inr h) = inr (inr h)

best_in : (a : ImageData) (xs : List ImageData) → In (a ∷ xs) (best_of is_above a xs)
best_in a [] = inl refl
best_in a (x ∷ xs) = in_step a x xs (best_of is_above (cond (is_above x a) x a) xs) (is_above x a) (best_in (cond (is_above x a) x a) xs)

none_step : (a x : ImageData) (xs : List ImageData) (g : ImageData) (b : Bool) → is_above x a ≡ b
    → ((y : ImageData) → In (cond b x a ∷ xs) y → is_above y g ≡ false) → (y : ImageData) → In (a ∷ x ∷ xs) y → is_above y g ≡ false
none_step a x xs g true e ih y (inl same) = ap (λ z. is_above z g) (sym same) ∙ above_chain a x g (one_above x a e) (ih x (inl refl))
none_step a x xs g true e ih y (inr h) = ih y h
none_step a x xs g false e ih y (inl same) = ih y (inl same)
none_step a x xs g false e ih y (inr (inl same)) = ap (λ z. is_above z g) (sym same) ∙ above_chain x a g e (ih a (inl refl))
none_step a x xs g false e ih y (inr (inr h)) = ih y (inr h)

itself : (a : ImageData) → is_above a a ≡ false
itself a = not_above a a (record { least = omega arith; tied = λ _. ap is_lt (tied_itself nat_list_cmp_total a.file) })

best_none : (a : ImageData) (xs : List ImageData) (y : ImageData) → In (a ∷ xs) y → is_above y (best_of is_above a xs) ≡ false
best_none a [] y (inl same) = ap (λ z. is_above z a) (sym same) ∙ itself a
best_none a [] y (inr h) = absurd h
best_none a (x ∷ xs) y h =
    none_step a x xs (best_of is_above (cond (is_above x a) x a) xs) (is_above x a) refl (best_none (cond (is_above x a) x a) xs) y h

-- the greatest is one of the images
pub greatest_in : (xs : List ImageData) (g : ImageData) → greatest xs ≡ Some g → In xs g
greatest_in [] g h = cc
greatest_in (a ∷ xs) g h = let same : best_of is_above a xs ≡ g = cc in subst (In (a ∷ xs)) same (best_in a xs)

-- none of them is above it
pub greatest_none_above : (xs : List ImageData) (g : ImageData) → greatest xs ≡ Some g → (y : ImageData) → In xs y → is_above y g ≡ false
greatest_none_above [] g h y k = absurd k
greatest_none_above (a ∷ xs) g h y k = let same : best_of is_above a xs ≡ g = cc in ap (is_above y) (sym same) ∙ best_none a xs y k

-- where there is none, there are no images
pub greatest_of_none : (xs : List ImageData) → greatest xs ≡ None → (y : ImageData) → In xs y → ⊥
greatest_of_none [] h y k = k
greatest_of_none (a ∷ xs) h y k = cc

-- images of which neither is above the other have an order of releases
pub release_le : (a b : ImageData) → is_above a b ≡ false → a.release ≤ b.release
release_le a b h = (below a b h).least
