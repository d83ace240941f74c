-- Why `Store` is told: a read does so only where the disk failed, of what stands in the tables of a sound state.
use Rattle.std.proofs.Common.{◌≡◌, Bool, true, false, Option, None, Some, IfErr, IsSomeAnd, IsTrue, Result, Ok, Err, sym, ◌∙◌}
use Rattle.up_tables.specs.declared.values.StoreFault.{StoreFault}
use Rattle.up_tables.specs.declared.values.StoreFault.TheVariants as fault

-- for want of memory alone
pub memory_blamed : {A : Type 0} (X : Type 0) (r : Result A StoreFault) → IfErr r (λ f. f ≡ fault.Memory) → IfErr r (λ f. f ≡ fault.Store → X)
memory_blamed X (Ok x) memory = tt
memory_blamed X (Err f) memory = λ is. absurd (let no : fault.Memory ≡ fault.Store = sym memory ∙ is in cc)

-- what doesn't fit isn't there
pub misfit_blamed : {A B : Type 0} (X : Type 0) (fits : A → Bool) (found row : Option A) (r : Result B StoreFault) → found ≡ row → ((x : A) → row ≡ Some x → IsTrue (fits x))
    → IfErr r (λ e. (e ≡ fault.Store) × IsSomeAnd found (λ x. fits x ≡ false)) → IfErr r (λ e. e ≡ fault.Store → X)
misfit_blamed X fits found row (Ok x) told each misfit = tt
misfit_blamed {A} X fits found row (Err f) told each misfit = λ is. absurd (none_there found told misfit.1)
  where
    none_there : (o : Option A) → o ≡ row → IsSomeAnd o (λ x. fits x ≡ false) → ⊥
    none_there None same there = there
    none_there (Some x) same unfit = let both : false ≡ true = sym unfit ∙ each x (sym same) in cc
