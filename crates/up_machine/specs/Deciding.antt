-- What decisions have in common: outcomes, and checks that several commands make.
use Rattle.std.specs.Prelude.{ℕ, Bool, nat_le, nat_lt, if◌then◌else◌, Option, Some, None, ⊤, Result, Ok, Err}
use Rattle.up_canon.specs.Canon.{max_count}
use Rattle.up_canon.specs.Moments.{last_command_moment}
use Rattle.up_canon.specs.Steps.{unless, refuse_if}
use Rattle.up_canon.specs.declared.refusal.Refusal.{Refusal}
use Rattle.up_canon.specs.declared.refusal.Refusal.TheVariants.{MomentOutOfRange, NotFounded, VersionLimit}
use Rattle.up_machine.specs.declared.answer.Answer.{Answer}
use Rattle.up_machine.specs.declared.answer.Answer.TheVariants.{Done, Already}
use Rattle.up_machine.specs.State.{State, is_founded}

-- an answer, and the state after it
pub record Outcome : Type 0 where
  pub answer : Answer
  pub next : State

abbrev pub done : State → Outcome
done next = record { answer = Done; next = next }

-- nothing changes
abbrev pub already : State → Outcome
already s = record { answer = Already; next = s }

-- an equal one that is there already, another one of its name, or a new one
abbrev pub where_new : {A : Type 0} → State → (A → Bool) → Refusal → Option A → Result Outcome Refusal → Result Outcome Refusal
where_new s is_same taken None decided = decided
where_new s is_same taken (Some old) decided = if is_same old then Ok (already s) else Err taken

-- ---- checks

-- a command's moment is at most 2100-01-01T00:00:00Z
abbrev pub check_moment : ℕ → Result ⊤ Refusal
check_moment at = refuse_if (nat_lt last_command_moment at) MomentOutOfRange

abbrev pub check_founded : State → Result ⊤ Refusal
check_founded s = unless (is_founded s) NotFounded

-- the image repository's version can be raised
abbrev pub check_version : State → Result ⊤ Refusal
check_version s = refuse_if (nat_le max_count s.image_version) VersionLimit
