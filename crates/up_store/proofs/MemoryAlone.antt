-- Where a row can be read, want of memory is the one fault.
use Rattle.std.proofs.Common.{◌≡◌, Bool, true, false, Result, Ok, Err, IfOk, IfErr, if◌then◌else◌, ap, sym, subst, ◌∙◌, refl}
use Rattle.up_canon.specs.Refusals.{Gives, is_memory}
use Rattle.up_canon.specs.declared.refusal.Refusal.{Refusal}
use Rattle.up_store.proofs.Common.{⊤, IsErrAnd, MatchBool, StoreFault, Memory, Store, column_fault}

-- want of memory is handed on
pub memory_on : {A : Type 0} (result : Result A StoreFault) (fault : StoreFault) → IsErrAnd result (λ f. f ≡ fault) → fault ≡ Memory → IfErr result (λ f. f ≡ Memory)
memory_on (Ok x) fault is memory = tt
memory_on (Err f) fault is memory = is ∙ memory

-- a column that is read again
pub of_column : {A : Type 0} (read : Result A Refusal) (result : Result A StoreFault) (x : A) → Gives read (Ok x) → IfOk read (λ y. result ≡ Ok y) → IfErr read (λ r. result ≡ Err (column_fault r)) → IfErr result (λ f. f ≡ Memory)
of_column (Ok y) result x gives went told = subst (λ r. IfErr r (λ f. f ≡ Memory)) (sym went) tt
of_column (Err r) result x gives went told = go (is_memory r) refl gives
  where
    go : (b : Bool) → is_memory r ≡ b → MatchBool b ⊤ (Ok x ≡ Err r) → IfErr result (λ f. f ≡ Memory)
    go true is h = subst (λ r. IfErr r (λ f. f ≡ Memory)) (sym told) (ap (λ b. if b then Memory else Store) is)
    go false is h = absurd (let e = h in cc)

-- it is what is read
pub read_again : {A : Type 0} (read : Result A Refusal) (x y : A) → Gives read (Ok x) → read ≡ Ok y → y ≡ x
read_again read x y gives is = let e : Gives (Ok y) (Ok x) = subst (λ r. Gives r (Ok x)) is gives in cc

-- what fits is never refused
pub fits_alone : {A : Type 0} (P : Type 0) (result : Result A StoreFault) → IfErr result (λ f. (f ≡ Store) × P) → ¬ P → IfErr result (λ f. f ≡ Memory)
fits_alone P (Ok x) told fits = tt
fits_alone P (Err f) told fits = absurd (fits told.1)
