-- The rows of an answer.
use Rattle.std.proofs.Common.{List, Ok, Err, Result, IfOk}
use Rattle.sqlite.specs.Order.{Row}
use Rattle.sqlite.specs.declared.error.Error.{Error}
use Rattle.up_file.specs.Causes.{rows_in}

pub if_rows : {X : Type 0} (items : X → List Row) (answer : Result X Error) (P : List Row → Type 0) → IfOk answer (λ x. P (items x)) → IfOk (rows_in items answer) P
if_rows items (Ok x) P h = h
if_rows items (Err e) P h = tt
