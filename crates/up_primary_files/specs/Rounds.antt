-- What comes of both files: the verdict of full verification on some reading of what was served, and the file of the state behind it.
use Rattle.std.specs.Prelude.{◌≡◌, ◌++◌, ◌⊎◌, ℕ, List, false, Ok, codes, string_bytes}
use Rattle.up_canon.specs.Refusals.{refusal_text}
use Rattle.up_canon.specs.declared.refusal.Refusal.{Refusal}
use Rattle.up_verify.specs.declared.served.Served.{Served}
use Rattle.up_verify.specs.Verify.{verify, after}
use Rattle.up_primary_files.specs.Served.{IsServed}
use Rattle.up_primary_files.specs.States.{state_in}
use Rattle.up_primary_files.specs.Written.{state_then}
use Rattle.up_primary_files.specs.Verdicts.{verdict_text, is_accepted, verifier_by}
use Rattle.up_primary_files.specs.declared.round.Outcome.{Outcome}
use Rattle.up_primary_files.specs.declared.state.State.{State}

-- the verdict on what was served, from this state; and the file of the state behind it says what is known and trusted then
pub record IsVerified (now : ℕ) (before : State) (served : Served) (o : Outcome) : Type 0 where
  pub verdict : o.is_accepted ≡ is_accepted (verify (verifier_by before.method before.held) now before.primary served)
  pub told : string_bytes o.told ≡ verdict_text (verify (verifier_by before.method before.held) now before.primary served)
  pub state : state_in (string_bytes o.state) ≡ Ok (state_then before (after (verifier_by before.method before.held) before.primary served (verify (verifier_by before.method before.held) now before.primary served)) served)

-- what was served can't be read: that is told, and the file of the state stays byte for byte
pub record IsUnread (text : List ℕ) (refusal : Refusal) (o : Outcome) : Type 0 where
  pub verdict : o.is_accepted ≡ false
  pub told : string_bytes o.told ≡ codes "refused reply " ++ refusal_text refusal ++ codes "\n"
  pub state : string_bytes o.state ≡ text

-- one of the two, from the state that its file's text means, and what the other file's text says was served
abbrev pub IsFrom : ℕ → State → List ℕ → List ℕ → Outcome → Type 0
IsFrom now before text file o = ((served : Served) × IsServed file served × IsVerified now before served o) ⊎ ((refusal : Refusal) × IsUnread text refusal o)

abbrev pub IsOutcome : ℕ → List ℕ → List ℕ → Outcome → Type 0
IsOutcome now text file o = (before : State) × (state_in text ≡ Ok before) × IsFrom now before text file o
