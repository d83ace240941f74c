-- The first need or conflict that isn't met, among all of them.
use Rattle.std.proofs.Common.{◌≡◌, List, [], ◌∷◌, ◌++◌, Bool, true, false, cond, refl, sym, ap, inl, inr}
use Rattle.std.specs.Prelude.{Option, Some, None, map, filter, flat_map, not}
use Rattle.std.proofs.lemmas.List.{map-append}
use Rattle.std.proofs.lemmas.List.Elements.{filter-append}
use Rattle.up_canon.specs.Names.{Name}
use Rattle.up_canon.specs.Steps.{first_or_none}
use Rattle.up_plan.specs.Images.{ImageData}
use Rattle.up_plan.specs.Laws.{demands_by}
use Rattle.up_plan.specs.Planning.{Resulting, is_apart, is_met, unmet, unmet_by}
use Rattle.up_plan.specs.declared.assigned.Cause.{Cause}
use Rattle.up_plan.specs.declared.assigned.Cause.TheVariants.{Need as UnmetNeed, Conflict as UnmetConflict}
use Rattle.up_plan.proofs.Members.{In}

-- those that aren't met
abbrev pub causes : List (Cause × Bool) → List Cause
causes ds = map (λ (d : Cause × Bool). d.0) (filter (λ d. not d.1) ds)

causes_append : (ds es : List (Cause × Bool)) → causes (ds ++ es) ≡ causes ds ++ causes es
causes_append ds es = rw (filter-append, map-append) refl

causes_of : {A : Type 0} (f : A → Cause) (m : A → Bool) (xs : List A) → map f (filter (λ x. not (m x)) xs) ≡ causes (map (λ x. (f x, m x)) xs)
causes_of f m [] = refl
causes_of f m (x ∷ xs) =
    elim (m x) as (λ b. map f (cond (not b) (x ∷ filter (λ x. not (m x)) xs) (filter (λ x. not (m x)) xs))
    ≡ map (λ (d : Cause × Bool). d.0) (cond (not b) ((f x, b) ∷ filter (λ d. not d.1) (map (λ x. (f x, m x)) xs)) (filter (λ d. not d.1) (map (λ x. (f x, m x)) xs)))) [
      | true ↦ causes_of f m xs
      | false ↦ ap (λ rest. f x ∷ rest) (causes_of f m xs)
    ]

causes_by : (set : List Resulting) (ecu : Name) (o : Option ImageData) → unmet_by set ecu o ≡ causes (demands_by set ecu o)
causes_by set ecu None = refl
causes_by set ecu (Some image) =
    rw (
      causes_append (map (λ need. (UnmetNeed ecu need.hardware, is_met set need)) image.needs) (map (λ file. (UnmetConflict ecu file, is_apart set file)) image.conflicts),
      causes_of (λ need. UnmetNeed ecu need.hardware) (is_met set) image.needs,
      causes_of (λ file. UnmetConflict ecu file) (is_apart set) image.conflicts,
    )
    refl

causes_all : (set rs : List Resulting) → flat_map (λ r. unmet_by set r.ecu r.image) rs ≡ causes (flat_map (λ r. demands_by set r.ecu r.image) rs)
causes_all set [] = refl
causes_all set (r ∷ rs) =
    rw (causes_append (demands_by set r.ecu r.image) (flat_map (λ r. demands_by set r.ecu r.image) rs), causes_by set r.ecu r.image, causes_all set rs) refl

pub unmet_is : (set : List Resulting) → unmet set ≡ causes (flat_map (λ r. demands_by set r.ecu r.image) set)
unmet_is set = causes_all set set

pub record Splits (cause : Cause) (ds : List (Cause × Bool)) : Type 0 where
  pub before : List (Cause × Bool)
  pub after : List (Cause × Bool)
  pub order : ds ≡ before ++ (cause, false) ∷ after
  pub met : (d : Cause × Bool) → In before d → d.1 ≡ true

first_step : (cause c : Cause) (ds : List (Cause × Bool)) (b : Bool) → (first_or_none (causes ds) ≡ Some cause → Splits cause ds)
    → first_or_none (map (λ (d : Cause × Bool). d.0) (cond (not b) ((c, b) ∷ filter (λ d. not d.1) ds) (filter (λ d. not d.1) ds))) ≡ Some cause → Splits cause ((c, b) ∷ ds)
first_step cause c ds true ih h =
    let rest = ih h in
    record {
      before = (c, true) ∷ rest.before;
      after = rest.after;
      order = ap (λ es. (c, true) ∷ es) rest.order;
      met = λ d k. elim k [ inl same ↦ ap (λ e. e.1) (sym same) | inr later ↦ rest.met d later ];
    }
first_step cause c ds false ih h =
    let same : c ≡ cause = cc in
    record { before = []; after = ds; order = ap (λ e. (e, false) ∷ ds) same; met = λ d k. absurd k }

-- the first that isn't met stands behind some that are
pub first_splits : (cause : Cause) (ds : List (Cause × Bool)) → first_or_none (causes ds) ≡ Some cause → Splits cause ds
first_splits cause [] h = cc
first_splits cause (d ∷ ds) h = first_step cause d.0 ds d.1 (first_splits cause ds) h

none_step : (c : Cause) (ds : List (Cause × Bool)) (b : Bool) → (first_or_none (causes ds) ≡ None → (d : Cause × Bool) → In ds d → d.1 ≡ true)
    → first_or_none (map (λ (d : Cause × Bool). d.0) (cond (not b) ((c, b) ∷ filter (λ d. not d.1) ds) (filter (λ d. not d.1) ds))) ≡ None → (d : Cause × Bool) → In ((c, b) ∷ ds) d → d.1 ≡ true
none_step c ds true ih h d (inl same) = ap (λ e. e.1) (sym same)
none_step c ds true ih h d (inr later) = ih h d later
none_step c ds false ih h d k = cc

-- where there is no first, all are met
pub none_unmet : (ds : List (Cause × Bool)) → first_or_none (causes ds) ≡ None → (d : Cause × Bool) → In ds d → d.1 ≡ true
none_unmet [] h d k = absurd k
none_unmet (e ∷ ds) h d k = none_step e.0 ds e.1 (none_unmet ds) h d k
