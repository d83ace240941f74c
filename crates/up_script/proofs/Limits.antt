-- What a member that was read within limits says of them.
use Rattle.std.proofs.Common.{◌≡◌, ℕ, ◌≤◌, List, Bool, true, false, nat_le, length, Result, Ok, Err, arith, refl, subst}
use Rattle.std.proofs.lemmas.Bool.Decides.{nat_tests}
use Rattle.std.proofs.lemmas.List.{length-map}
use Rattle.serde_json.specs.Data.{Data}
use Rattle.serde_json.specs.declared.value.Value.{Value}
use Rattle.up_canon.specs.Members.{count_in, list_in, values_of}
use Rattle.up_canon.specs.Names.{is_from_to}
use Rattle.up_canon.specs.Readers.{fitting, positive_in, list_within}
use Rattle.up_canon.specs.Steps.{and_then}
use Rattle.up_canon.specs.declared.refusal.Refusal.{Refusal}
use Rattle.up_canon.specs.declared.refusal.Refusal.TheVariants.{BadShape}
use Rattle.std.specs.Prelude.{if◌then◌else◌}

chosen : {A : Type 0} (b : Bool) (x y : A) (r : Refusal) → (if b then Ok x else Err r) ≡ Ok y → (b ≡ true) × (x ≡ y)
chosen true x y r h = (refl, cc)
chosen false x y r h = cc

fits_read : {A : Type 0} (fits : A → Bool) (name : List ℕ) (r : Result A Refusal) (y : A) → and_then r (fitting fits name) ≡ Ok y → fits y ≡ true
unfolding and_then
fits_read fits name (Ok x) y h = let p = chosen (fits x) x y (BadShape name) h in subst (λ z. fits z ≡ true) p.1 p.0
fits_read fits name (Err e) y h = cc

pub positive_read : (name : List ℕ) (d : Data) (n : ℕ) → positive_in name d ≡ Ok n → 1 ≤ n
unfolding positive_in
positive_read name d n h = let test : nat_le 1 n ≡ true = fits_read (nat_le 1) name (count_in name d) n h in grind (arith, nat_tests)

up_to : (most n : ℕ) → is_from_to 0 most n ≡ true → n ≤ most
up_to most n h = grind (arith, nat_tests)

pub list_read : (most : ℕ) (name : List ℕ) (d : Data) (ds : List Data) → list_within 0 most name d ≡ Ok ds → length ds ≤ most
unfolding list_within
list_read most name d ds h = up_to most (length ds) (fits_read (λ es. is_from_to 0 most (length es)) name (list_in name d) ds h)

pub values_read : (most : ℕ) (name : List ℕ) (d : Data) (vs : List Value) → list_within 0 most name d ≡ Ok (values_of vs) → length vs ≤ most
values_read most name d vs h = let p = list_read most name d (values_of vs) h in simp length-map at p
