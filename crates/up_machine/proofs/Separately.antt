-- A vehicle and the answers to its own deliveries are those of the list without other vehicles' deliveries.
use Rattle.std.proofs.Common.{◌≡◌, List, [], ◌∷◌, Bool, true, false, cond, not, Option, Some, None, refl, sym, ap, ◌∙◌, subst}
use Rattle.std.specs.Prelude.{option_map, unwrap_or, map, filter, bytes_eq}
use Rattle.std.specs.FinMap as table
use Rattle.up_canon.specs.Names.{Name, Table}
use Rattle.up_sign.specs.Schemes.{Rules}
use Rattle.up_machine.specs.State.{Vehicle, State}
use Rattle.up_machine.specs.Machine.{Timed}
use Rattle.up_machine.specs.Repeats.{serve, Sent, Met, meet, trace, after, vehicle_of, delivers_own, delivers_other, without_others, own_answers}
use Rattle.up_machine.specs.ApartLaws.{VehiclesStandApart}
use Rattle.up_machine.proofs.Effects.{with_vehicles}
use Rattle.up_machine.proofs.Apart.{AlikeTables, IsAlike, itself, is_others, served_alike, other_alike}

-- from two states that are alike, the whole list and the list without others' deliveries
abbrev Same : Rules → Name → List Sent → State → State → Type 0
Same k name ms s t =
    (table.get (after k s ms).vehicles name ≡ table.get (after k t (without_others name ms)).vehicles name)
    × (own_answers k s name ms ≡ own_answers k t name (without_others name ms))

abbrev Later : Rules → Name → List Sent → Type 0
Later k name ms = (s : State) (vehicles : Table Vehicle) → AlikeTables name s.vehicles vehicles → Same k name ms s (with_vehicles s vehicles)

on_alike : (k : Rules) (name : Name) (ms : List Sent) → Later k name ms → (s t : State) → IsAlike name s t → Same k name ms s t
on_alike k name ms later s t is = subst (Same k name ms s) (sym is.rest) (later s is.vehicles is.alike)

-- what is delivered by another vehicle isn't delivered by this one
not_both : (name : Name) (o : Option Name) → unwrap_or (option_map (λ vehicle. not (bytes_eq vehicle name)) o) false ≡ true
    → unwrap_or (option_map (λ vehicle. bytes_eq vehicle name) o) false ≡ false
not_both name None h = refl
not_both name (Some vehicle) h = by_test (bytes_eq vehicle name) h
  where
    by_test : (b : Bool) → not b ≡ true → b ≡ false
    by_test true h = cc
    by_test false h = refl

-- one more answer on both sides, if the item is the vehicle's own
one_more : (b : Bool) (x y : Met) (xs ys : List Met) → x.answer ≡ y.answer → map (λ (m : Met). m.answer) xs ≡ map (λ (m : Met). m.answer) ys
    → map (λ (m : Met). m.answer) (cond b (x ∷ xs) xs) ≡ map (λ (m : Met). m.answer) (cond b (y ∷ ys) ys)
one_more true x y xs ys h more = rw (h, more)
one_more false x y xs ys h more = more

-- none more on the side that has the item
none_more : (b : Bool) → b ≡ false → (x : Met) (xs : List Met) → map (λ (m : Met). m.answer) (cond b (x ∷ xs) xs) ≡ map (λ (m : Met). m.answer) xs
none_more true h x xs = cc
none_more false h x xs = refl

-- an item of another vehicle, lost or not
by_other : (k : Rules) (name : Name) (item : Timed) (ms : List Sent) → Later k name ms → (s : State) (vehicles : Table Vehicle) → AlikeTables name s.vehicles vehicles
    → is_others name item.command ≡ true → (lost : Bool)
    → (table.get (after k s (record { item = item; lost = lost } ∷ ms)).vehicles name ≡ table.get (after k (with_vehicles s vehicles) (without_others name ms)).vehicles name)
    × (own_answers k s name (record { item = item; lost = lost } ∷ ms) ≡ own_answers k (with_vehicles s vehicles) name (without_others name ms))
by_other k name item ms later s vehicles h other true =
    let rest = later s vehicles h in
    (rest.0, none_more (delivers_own name (record { item = item; lost = true })) (not_both name (vehicle_of item.command) other) (meet k s (record { item = item; lost = true })) (filter (λ met. delivers_own name met.sent) (trace k s ms)) ∙ rest.1)
by_other k name item ms later s vehicles h other false =
    let next = (serve k s item.at item.command).next in
    let rest = on_alike k name ms later next (with_vehicles s vehicles) (other_alike k s vehicles item.at item.command name h other) in
    (rest.0, none_more (delivers_own name (record { item = item; lost = false })) (not_both name (vehicle_of item.command) other) (meet k s (record { item = item; lost = false })) (filter (λ met. delivers_own name met.sent) (trace k next ms)) ∙ rest.1)

-- another item, lost or not
by_own : (k : Rules) (name : Name) (item : Timed) (ms : List Sent) → Later k name ms → (s : State) (vehicles : Table Vehicle) → AlikeTables name s.vehicles vehicles
    → is_others name item.command ≡ false → (lost : Bool)
    → (table.get (after k s (record { item = item; lost = lost } ∷ ms)).vehicles name ≡ table.get (after k (with_vehicles s vehicles) (record { item = item; lost = lost } ∷ without_others name ms)).vehicles name)
    × (own_answers k s name (record { item = item; lost = lost } ∷ ms) ≡ own_answers k (with_vehicles s vehicles) name (record { item = item; lost = lost } ∷ without_others name ms))
by_own k name item ms later s vehicles h other true =
    let rest = later s vehicles h in
    (rest.0, one_more (delivers_own name (record { item = item; lost = true })) (meet k s (record { item = item; lost = true })) (meet k (with_vehicles s vehicles) (record { item = item; lost = true })) _ _ refl rest.1)
by_own k name item ms later s vehicles h other false =
    let served = served_alike k s vehicles item.at item.command name h other in
    let rest = on_alike k name ms later (serve k s item.at item.command).next (serve k (with_vehicles s vehicles) item.at item.command).next served.next in
    (rest.0, one_more (delivers_own name (record { item = item; lost = false })) (meet k s (record { item = item; lost = false })) (meet k (with_vehicles s vehicles) (record { item = item; lost = false })) _ _ (ap Some (sym served.answer)) rest.1)

by_item : (k : Rules) (name : Name) (m : Sent) (ms : List Sent) → Later k name ms → (s : State) (vehicles : Table Vehicle) → AlikeTables name s.vehicles vehicles
    → (b : Bool) → delivers_other name m ≡ b
    → (table.get (after k s (m ∷ ms)).vehicles name ≡ table.get (after k (with_vehicles s vehicles) (cond (not b) (m ∷ without_others name ms) (without_others name ms))).vehicles name)
    × (own_answers k s name (m ∷ ms) ≡ own_answers k (with_vehicles s vehicles) name (cond (not b) (m ∷ without_others name ms) (without_others name ms)))
by_item k name m ms later s vehicles h true is = by_other k name m.item ms later s vehicles h is m.lost
by_item k name m ms later s vehicles h false is = by_own k name m.item ms later s vehicles h is m.lost

from_alike : (k : Rules) (name : Name) (ms : List Sent) → Later k name ms
from_alike k name [] s vehicles h = (sym h.own, refl)
from_alike k name (m ∷ ms) s vehicles h = by_item k name m ms (from_alike k name ms) s vehicles h (delivers_other name m) refl

pub separately : VehiclesStandApart
separately k s name ms = from_alike k name ms s s.vehicles (itself name s.vehicles)
