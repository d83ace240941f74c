-- What the parts of a write carried out, and why they tell `Store`.
use Rattle.std.proofs.Common.{◌≡◌, ◌≤◌, ◌^◌, ℕ, List, [], ◌∷◌, Some, None, Ok, Err, Result, length, map, refl, sym, ap, subst, ◌∙◌, arith}
use Rattle.std.specs.Result.{IsErrAnd}
use Rattle.up_store.proofs.Common.{⊤, Row, Connected, ImageData, VehicleRows, VehicleShown, vehicle_row, sha512_line, IfClean, IsOpen, BlamesOne, Ran, StoreFault, sha512_lines, vehicle_lines, vehicle_read, FitsVehicle, each_with}
use Rattle.up_store.proofs.VehiclePuts.{vehicle_is}

-- ---- rows as they are made

-- none
pub ran_none : {A E : Type 0} (text : List ℕ) (lines : List Row) (s : Connected) (r : Result A E) → [] ≡ lines → IfClean IsOpen s → Ran (each_with text lines) s s r
ran_none text all s (Err e) same is_open = λ clean. tt
ran_none {A} {E} text all s (Ok x) same is_open = subst (λ rows. Ran {A = A} {E = E} (each_with text rows) s s (Ok x)) same (λ clean. (is_open clean, refl, λ has. has))

-- the rows that were made, one after another
pub each_is : {X : Type 0} (text : List ℕ) (row_of : X → Row) (made : List X) → map (λ x. (text, row_of x)) made ≡ each_with text (map row_of made)
each_is text row_of [] = refl
each_is text row_of (x ∷ made) = ap (λ more. (text, row_of x) ∷ more) (each_is text row_of made)

-- a fault that is handed on
pub told_on : {A : Type 0} (r : Result A StoreFault) (f : StoreFault) (these : List (List ℕ × Row)) (P : Connected → Type 0) (old new : Connected) → IsErrAnd r (λ e. e ≡ f) → BlamesOne {A = ⊤} these P old new (Err f) → BlamesOne these P old new r
told_on (Ok x) f these P old new told h clean = tt
told_on (Err e) f these P old new told h clean = λ is. h clean (sym told ∙ is)

-- a fault that what is written doesn't give
pub never_blames : {A : Type 0} (these : List (List ℕ × Row)) (P : Connected → Type 0) (old new : Connected) (r : Result A StoreFault) → (P old → ⊥) → BlamesOne these P old new r
never_blames these P old new (Ok x) never clean = tt
never_blames these P old new (Err f) never clean = λ is is_open has holds. absurd (never holds)

-- ---- images

pub hash_row_is : (image : ImageData) (file hash : List ℕ) → file ≡ image.file → image.sha512 ≡ Some hash → sha512_line file hash ∷ [] ≡ sha512_lines image.file image.sha512
hash_row_is image file hash same is = ap (λ (name : List ℕ). sha512_line name hash ∷ []) same ∙ ap (sha512_lines image.file) (sym is)

pub no_hash_is : (image : ImageData) → image.sha512 ≡ None → [] ≡ sha512_lines image.file image.sha512
no_hash_is image is = ap (sha512_lines image.file) (sym is)

-- ---- vehicles

pub vehicle_row_is : (new : VehicleRows) (made : VehicleShown) → vehicle_read made ≡ new.vehicle → vehicle_row made ∷ [] ≡ vehicle_lines (Some new)
vehicle_row_is new made same = ap (λ row. row ∷ []) (vehicle_is made new.vehicle same)

pub places_fit : (new : VehicleRows) → FitsVehicle new → 2 ^ 63 ≤ length new.ecus → ⊥
places_fit new fits many = let few = fits.ecus in omega (arith, few, many)

pub version_fits : (new : VehicleRows) → FitsVehicle new → 2 ^ 63 ≤ new.vehicle.version → ⊥
version_fits new fits large = let small = fits.version in omega (arith, small, large)
