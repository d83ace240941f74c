-- What a part of a write says of the connection before it.
use Rattle.std.proofs.Common.{Result, Ok, Err, OnOk, IsTrue, arith}
use Rattle.up_store.proofs.Common.{State, HasCleanDisk, IfClean, IsOpen, Steps}

-- what holds whatever is answered
pub surely : {A E P : Type 0} (r : Result A E) → P → OnOk r P
surely (Ok x) h = h
surely (Err e) h = tt

pub on_ok : {A E : Type 0} {P Q : Type 0} (r : Result A E) → OnOk r P → (P → Q) → OnOk r Q
on_ok (Ok x) h f = f h
on_ok (Err e) h f = tt

pub clean_step : {before after : State} → Steps before after → HasCleanDisk after → HasCleanDisk before
clean_step {before} {after} steps now = let then : HasCleanDisk before = omega (arith, steps.survives.clean) in then

pub open_before : {A E : Type 0} {before after : State} (r : Result A E) → Steps before after → HasCleanDisk after → OnOk r (IfClean IsOpen after) → OnOk r (IsTrue before.is_open)
open_before (Err e) steps clean opened = tt
open_before (Ok x) steps clean opened = (steps.kept clean).was_open (opened clean)

pub was_open_before : {A E : Type 0} (r : Result A E) (s : State) → IsTrue s.is_open → OnOk r (IsTrue s.is_open)
was_open_before (Err e) s is = tt
was_open_before (Ok x) s is = is
