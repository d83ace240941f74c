-- What is promised where a publication is refused.
use Rattle.std.specs.Prelude.{◌≡◌, Bool, false, MatchBool, Result, Ok, Err, ⊤}
use Rattle.up_canon.specs.Refusals as refusals
use Rattle.up_canon.specs.declared.refusal.Refusal.{Refusal}
use Rattle.up_brought.specs.declared.fault.Fault.{Fault}
use Rattle.up_brought.specs.declared.fault.Fault.TheVariants.{Known}

-- what other commands are refused for too
abbrev pub known : {A : Type 0} → Result A Refusal → Result A Fault
known (Ok x) = Ok x
known (Err r) = Err (Known r)

abbrev pub is_memory : Fault → Bool
is_memory (Known r) = refusals.is_memory r
is_memory _ = false

-- what a call answers is what is computed, unless memory was refused
abbrev pub Gives : {A : Type 0} → Result A Fault → Result A Fault → Type 0
Gives (Ok x) computed = computed ≡ Ok x
Gives (Err fault) computed = MatchBool (is_memory fault) ⊤ (computed ≡ Err fault)
