-- What a chain of steps that ended in a value says of each step.
use Rattle.std.proofs.Common.{◌≡◌, ℕ, suc, List, [], ◌∷◌, Bool, true, false, cond, Option, Some, None, Result, Ok, Err, length, refl, sym, ap, subst, ◌∙◌}
use Rattle.std.specs.Prelude.{⊤, MatchBool, IsErrAnd, option_map, option_and_then}
use Rattle.std.proofs.lemmas.Result.{err_from_is_err_and}
use Rattle.serde_json.specs.Data.{Data, Items, no_items, item}
use Rattle.up_canon.specs.Meaning.{EachMeans}
use Rattle.up_canon.specs.Members.{items_list}
use Rattle.up_canon.specs.Refusals.{Gives, is_memory}
use Rattle.up_canon.specs.Steps.{and_then, ◌>>=◌, unless, refuse_if, refuse_first, or_error, value_of, each}
use Rattle.up_canon.specs.declared.refusal.Refusal.{Refusal}

-- to go on with the value of the first step
pub first_ok : {E A B : Type 0} (r : Result A E) (f : A → Result B E) (y : B) (P : Type 0) → (r >>= f) ≡ Ok y → ((x : A) → r ≡ Ok x → f x ≡ Ok y → P) → P
unfolding and_then
first_ok (Ok x) f y P h go = go x refl h
first_ok (Err e) f y P h go = cc

pub bind-ok : {E A B : Type 0} (r : Result A E) (f : A → Result B E) (x : A) → r ≡ Ok x → (r >>= f) ≡ f x
unfolding and_then
bind-ok (Ok y) f x h = let same : y ≡ x = cc in cc
bind-ok (Err e) f x h = cc

pub bind-err : {E A B : Type 0} (r : Result A E) (f : A → Result B E) (e : E) → r ≡ Err e → (r >>= f) ≡ Err e
unfolding and_then
bind-err (Ok y) f e h = cc
bind-err (Err d) f e h = cc

pub same_ok : {E A : Type 0} (x y : A) → ◌≡◌ {A = Result A E} (Ok x) (Ok y) → x ≡ y
same_ok x y h = cc

pub or_error_ok : {E A : Type 0} (e : E) (o : Option A) (x : A) → or_error e o ≡ Ok x → o ≡ Some x
or_error_ok e None x h = cc
or_error_ok e (Some y) x h = cc

pub refuse_if_ok : {E : Type 0} (b : Bool) (e : E) (x : ⊤) → refuse_if b e ≡ Ok x → b ≡ false
refuse_if_ok true e x h = cc
refuse_if_ok false e x h = refl

pub unless_ok : {E : Type 0} (b : Bool) (e : E) (x : ⊤) → unless b e ≡ Ok x → b ≡ true
unless_ok true e x h = refl
unless_ok false e x h = cc

pub unless_there : {E : Type 0} (b : Bool) (e : E) → b ≡ true → unless b e ≡ Ok tt
unless_there b e h = rw h refl

pub refuse_first_ok : {E A : Type 0} (f : A → E) (o : Option A) (x : ⊤) → refuse_first f o ≡ Ok x → o ≡ None
refuse_first_ok f None x h = refl
refuse_first_ok f (Some y) x h = cc

pub value_of_some : {E A : Type 0} (r : Result A E) (x : A) → value_of r ≡ Some x → r ≡ Ok x
value_of_some (Ok y) x h = cc
value_of_some (Err e) x h = cc

pub and_then_some : {A B : Type 0} (f : A → Option B) (o : Option A) (y : B) → option_and_then f o ≡ Some y → (x : A) × (o ≡ Some x) × (f x ≡ Some y)
and_then_some f None y h = cc
and_then_some f (Some x) y h = (x, refl, h)

pub map_some : {A B : Type 0} (f : A → B) (o : Option A) (y : B) → option_map f o ≡ Some y → (x : A) × (o ≡ Some x) × (f x ≡ y)
map_some f None y h = cc
map_some f (Some x) y h = (x, refl, cc)

pub one_value : {A : Type 0} (o : Option A) (x y : A) → o ≡ Some x → o ≡ Some y → x ≡ y
one_value None x y h k = cc
one_value (Some z) x y h k = cc

-- of a test, the value that passed it
pub passed : {E A : Type 0} (b : Bool) (x y : A) (e : E) → cond b (Ok x) (Err e) ≡ Ok y → (b ≡ true) × (x ≡ y)
passed true x y e h = (refl, cc)
passed false x y e h = cc

-- what a step refused, the steps refuse
err_first : {A B : Type 0} (e : Refusal) (r : Result A Refusal) (f : A → Result B Refusal) → Gives {A = A} (Err e) r → Gives {A = B} (Err e) (r >>= f)
unfolding and_then
err_first {A = A} {B = B} e (Ok x) f h = by_memory (is_memory e) h
  where
    by_memory : (m : Bool) → MatchBool m ⊤ (◌≡◌ {A = Result A Refusal} (Ok x) (Err e)) → MatchBool m ⊤ (f x ≡ Err e)
    by_memory true h = tt
    by_memory false h = cc
err_first {A = A} {B = B} e (Err d) f h = by_memory (is_memory e) h
  where
    by_memory : (m : Bool) → MatchBool m ⊤ (◌≡◌ {A = Result A Refusal} (Err d) (Err e)) → MatchBool m ⊤ (◌≡◌ {A = Result B Refusal} (Err d) (Err e))
    by_memory true h = tt
    by_memory false h = let same : d ≡ e = cc in ap (λ x. Err x) same

pub gives_err : {A B : Type 0} (result : Result B Refusal) (e : Refusal) (r : Result A Refusal) (f : A → Result B Refusal)
    → IsErrAnd result (λ x. x ≡ e) → Gives {A = A} (Err e) r → Gives result (r >>= f)
gives_err {A = A} {B = B} result e r f is h =
    let (x, was, same) = err_from_is_err_and result is in
    subst (λ s. Gives s (r >>= f)) (sym (was ∙ ap (λ x. Err x) same)) (err_first e r f h)

-- ---- each item of a list

pub each_read : {E A : Type 0} (step : Data → Result A E) (M : Data → A → Type 0) → ((d : Data) (x : A) → step d ≡ Ok x → M d x)
    → (ds : Items) (xs : List A) → each step (items_list ds) ≡ Ok xs → EachMeans M ds xs
unfolding each
each_read step M one no_items [] h = tt
each_read step M one no_items (x ∷ xs) h = cc
each_read step M one (item d ds) xs h =
    first_ok _ _ _ _ h (λ y first h. first_ok _ _ _ _ h (λ ys rest h. subst (EachMeans M (item d ds)) (same_ok _ _ h) (one d y first, each_read step M one ds ys rest)))

pub each_there : {E A : Type 0} (step : Data → Result A E) (M : Data → A → Type 0) → ((d : Data) (x : A) → M d x → step d ≡ Ok x)
    → (ds : Items) (xs : List A) → EachMeans M ds xs → each step (items_list ds) ≡ Ok xs
unfolding each
each_there step M one no_items [] h = refl
each_there step M one no_items (x ∷ xs) h = absurd h
each_there step M one (item d ds) [] h = absurd h
each_there step M one (item d ds) (x ∷ xs) h = bind-ok _ _ _ (one d x h.0) ∙ bind-ok _ _ _ (each_there step M one ds xs h.1)

pub each_size : {A : Type 0} (M : Data → A → Type 0) (ds : Items) (xs : List A) → EachMeans M ds xs → length (items_list ds) ≡ length xs
each_size M no_items [] h = refl
each_size M no_items (x ∷ xs) h = absurd h
each_size M (item d ds) [] h = absurd h
each_size M (item d ds) (x ∷ xs) h = ap (λ (n : ℕ). suc n) (each_size M ds xs h.1)
