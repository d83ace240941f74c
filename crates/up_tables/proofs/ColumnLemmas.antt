-- What is told of a call of another one.
use Rattle.std.proofs.Common.{◌≡◌, Result, Ok, Err, IfOk, IfErr, sym, subst}
use Rattle.std.specs.Prelude.{IsErrAnd}
use Rattle.up_tables.specs.declared.values.StoreFault.{StoreFault}

-- a fault is handed on
pub handed_on : {A : Type 0} (result : Result A StoreFault) (fault : StoreFault) (P : StoreFault → Type 0) → IsErrAnd result (λ f. f ≡ fault) → P fault → IfErr result P
handed_on (Ok x) fault P is holds = tt
handed_on (Err f) fault P is holds = subst P (sym is) holds

-- what follows of the rows of an answer
pub on_ok : {A E : Type 0} (answer : Result A E) (P Q : A → Type 0) → ((x : A) → P x → Q x) → IfOk answer P → IfOk answer Q
on_ok (Ok x) P Q so holds = so x holds
on_ok (Err e) P Q so holds = tt
