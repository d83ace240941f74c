-- A plan for distinct ECUs assigns images to some of them, at most one to each.
use Rattle.std.proofs.Common.{◌≡◌, ℕ, ◌≤◌, List, [], ◌∷◌, suc, Bool, true, false, cond, Option, Some, None, refl, sym, ap, ap₂, ◌∙◌, subst, arith}
use Rattle.std.specs.Prelude.{◌&&◌, ◌||◌, length, map, filter, filter_map, bytes_eq}
use Rattle.std.specs.List.{list_all, list_any, cons_option}
use Rattle.std.specs.Cmp.Lexicographic.{bytes_decides}
use Rattle.std.proofs.lemmas.List.{length-map}
use Rattle.std.proofs.lemmas.List.Folds.{list_all-map}
use Rattle.up_canon.specs.Names.{Name, first_repeated}
use Rattle.up_canon.specs.Steps.{first_or_none}
use Rattle.up_plan.specs.declared.assigned.Assigned.{Assigned}
use Rattle.up_plan.specs.declared.assigned.Cause.{Cause}
use Rattle.up_plan.specs.declared.assigned.Fitted.{Fitted}
use Rattle.up_plan.specs.declared.campaign.Item.{Item}
use Rattle.up_plan.specs.Campaigns.{CampaignData}
use Rattle.up_plan.specs.Images.{ImageData}
use Rattle.up_plan.specs.Planning.{Resulting, with_wanted, wanted, items_for, resulting, unmet, updates, plan_with, plan_from, plan_of}
use Rattle.up_metadata.proofs.Lists.{and_left, and_right, all_weaker}
use Rattle.up_machine.proofs.DistinctNames.{Distinct, distinct, once_of}
use Rattle.up_machine.proofs.DirectorTargets.{named, updates_apart, plan_apart}
use Rattle.up_laws.specs.Plans.{assigned_ecus, fitted_ecus, IsPlanOf, PlansAreOfTheirEcus}

-- ---- each is one of its list

or_right : (a b : Bool) → b ≡ true → (a || b) ≡ true
or_right true b h = refl
or_right false b h = h

-- where each is like itself, each of a list is like one of it
pub each_among : {A : Type 0} (like : A → A → Bool) → ((x : A) → like x x ≡ true) → (xs : List A) → list_all (λ x. list_any (λ y. like y x) xs) xs ≡ true
each_among like itself [] = refl
each_among like itself (x ∷ xs) =
    let rest = all_weaker (λ z. list_any (λ y. like y z) xs) (λ z. like x z || list_any (λ y. like y z) xs) (λ z h. or_right (like x z) _ h) xs (each_among like itself xs) in
    rw (itself x, rest)

-- what the names of all pass, the name of one of them passes
pub one_passes : {A : Type 0} (name : A → Name) (p : Name → Bool) (xs : List A) (n : Name) → list_all (λ x. p (name x)) xs ≡ true → list_any (λ x. bytes_eq (name x) n) xs ≡ true → p n ≡ true
one_passes name p [] n all h = cc
one_passes name p (x ∷ xs) n all h = by_name (bytes_eq (name x) n) refl h (and_left _ _ all) (one_passes name p xs n (and_right (p (name x)) _ all))
  where
    by_name : (b : Bool) → bytes_eq (name x) n ≡ b → (b || list_any (λ x. bytes_eq (name x) n) xs) ≡ true → p (name x) ≡ true
        → (list_any (λ x. bytes_eq (name x) n) xs ≡ true → p n ≡ true) → p n ≡ true
    by_name true is h here rest = ap p (sym ((bytes_decides (name x) n).0 is)) ∙ here
    by_name false is h here rest = rest h

-- ---- what passes

result_ecu : (images : List ImageData) (e : Fitted) (o : Option ImageData) → (with_wanted images e o).ecu ≡ e.ecu
result_ecu images e None = refl
result_ecu images e (Some image) = refl

resulting_ecus : (images : List ImageData) (items : List Item) (fitted : List Fitted) → map (λ r. r.ecu) (resulting images items fitted) ≡ fitted_ecus fitted
resulting_ecus images items [] = refl
resulting_ecus images items (e ∷ fitted) =
    ap₂ (λ (name : Name) names. name ∷ names) (result_ecu images e (wanted images items e)) (resulting_ecus images items fitted)

updates_pass : (p : Name → Bool) (set : List Resulting) → list_all p (map (λ r. r.ecu) set) ≡ true → list_all p (named (updates set)) ≡ true
updates_pass p [] h = refl
updates_pass p (r ∷ set) h = by_update r.updated (and_left _ _ h) (updates_pass p set (and_right (p r.ecu) _ h))
  where
    by_update : (b : Bool) → p r.ecu ≡ true → list_all p (named (updates set)) ≡ true
        → list_all p (named (map (λ (r : Resulting). record { ecu = r.ecu; file = r.file }) (cond b (r ∷ filter (λ r. r.updated) set) (filter (λ r. r.updated) set)))) ≡ true
    by_update true here rest = rw (here, rest)
    by_update false here rest = rest

plan_passes : (p : Name → Bool) (all : List Assigned) (cause : Option Cause) → list_all p (named all) ≡ true → list_all p (named (plan_with all cause).assigned) ≡ true
plan_passes p [] cause h = refl
plan_passes p (a ∷ rest) None h = h
plan_passes p (a ∷ rest) (Some cause) h = refl

-- ---- how many

as_assigned : Resulting → Assigned
as_assigned r = record { ecu = r.ecu; file = r.file }

updates_few : (set : List Resulting) → length (updates set) ≤ length set
unfolding as_assigned
updates_few [] = omega arith
updates_few (r ∷ set) = by_update r.updated (updates_few set)
  where
    by_update : (b : Bool) → length (updates set) ≤ length set
        → length (map as_assigned (cond b (r ∷ filter (λ r. r.updated) set) (filter (λ r. r.updated) set))) ≤ suc (length set)
    by_update true h = omega (arith, h)
    by_update false h = omega (arith, h)

plan_few : (all : List Assigned) (cause : Option Cause) → length (plan_with all cause).assigned ≤ length all
plan_few [] cause = omega arith
plan_few (a ∷ rest) None = omega arith
plan_few (a ∷ rest) (Some cause) = omega arith

-- ---- the plan

like : Fitted → Fitted → Bool
like e f = bytes_eq e.ecu f.ecu

pub plan_is_of : (images : List ImageData) (items : List Item) (fitted : List Fitted) → first_repeated (fitted_ecus fitted) ≡ None → IsPlanOf fitted (plan_from (resulting images items fitted))
plan_is_of images items fitted once =
    let set = resulting images items fitted in
    let ecus = resulting_ecus images items fitted in
    let cause = first_or_none (unmet set) in
    let apart : Distinct (map (λ (r : Resulting). r.ecu) set) = subst Distinct (sym ecus) (distinct (fitted_ecus fitted) once) in
    let among : Name → Bool = λ n. list_any (λ (e : Fitted). bytes_eq e.ecu n) fitted in
    let each : list_all (λ (e : Fitted). among e.ecu) fitted ≡ true = each_among (λ (e f : Fitted). bytes_eq e.ecu f.ecu) (λ e. (bytes_decides e.ecu e.ecu).1 refl) fitted in
    let all : list_all among (map (λ (r : Resulting). r.ecu) set) ≡ true = ap (list_all among) ecus ∙ list_all-map among (λ (e : Fitted). e.ecu) fitted ∙ each in
    let size : length set ≡ length fitted = length-map fitted (λ e. with_wanted images e (wanted images items e)) in
    let some = plan_few (updates set) cause in
    let most = updates_few set in
    record {
      once = once_of _ (plan_apart (updates set) cause (updates_apart set apart));
      few = omega (arith, size, some, most);
      known = sym (list_all-map among (λ (a : Assigned). a.ecu) (plan_from set).assigned) ∙ plan_passes among (updates set) cause (updates_pass among set all);
    }

pub plans_are_of : PlansAreOfTheirEcus
unfolding plan_of
plans_are_of images campaigns vehicle fitted once = plan_is_of images (items_for campaigns vehicle) fitted once
