-- What a check promises: it is what the definition says, unless memory was refused.
use Rattle.std.specs.Prelude.{◌≡◌, Bool, true, false, Option, Some, None, Result, Ok, Err, MatchBool, ⊤}
use Rattle.up_canon.specs.Refusals.{is_memory}
use Rattle.up_verify.specs.declared.refused.Fault.{Fault}
use Rattle.up_verify.specs.declared.refused.Fault.TheVariants.{Unread}
use Rattle.up_verify.specs.declared.refused.Refused.{Refused}
use Rattle.up_verify.specs.declared.refused.Refused.TheVariants.{Memory, File}
use Rattle.up_verify.specs.declared.roots.Followed.{Followed}

-- ---- a file

-- a file that wasn't read for want of memory, which no definition computes
abbrev pub lacks_memory : Fault → Bool
lacks_memory (Unread refusal) = is_memory refusal
lacks_memory _ = false

-- the check of a file is what the definition says, unless memory was refused
abbrev pub ChecksFile : {A : Type 0} → Result A Fault → Result A Fault → Type 0
ChecksFile (Ok x) computed = computed ≡ Ok x
ChecksFile (Err fault) computed = MatchBool (lacks_memory fault) ⊤ (computed ≡ Err fault)

-- a test of a file passes where the definition gives the file itself
abbrev pub PassesFile : {A : Type 0} → A → Result ⊤ Fault → Result A Fault → Type 0
PassesFile x (Ok done) computed = computed ≡ Ok x
PassesFile x (Err fault) computed = MatchBool (lacks_memory fault) ⊤ (computed ≡ Err fault)

-- how far Roots could be followed, likewise
abbrev pub lacked_memory : Option Fault → Bool
lacked_memory None = false
lacked_memory (Some fault) = lacks_memory fault

abbrev pub Follows : Followed → Followed → Type 0
Follows followed computed = MatchBool (lacked_memory followed.fault) ⊤ (computed ≡ followed)

-- ---- all that was served

-- refused for want of memory, in general or while a file was read
abbrev pub wants_memory : Refused → Bool
wants_memory Memory = true
wants_memory (File repository role fault) = lacks_memory fault
wants_memory _ = false

-- what is accepted or refused is what the definition says, unless memory was refused
abbrev pub Verifies : {A : Type 0} → Result A Refused → Result A Refused → Type 0
Verifies (Ok x) computed = computed ≡ Ok x
Verifies (Err refused) computed = MatchBool (wants_memory refused) ⊤ (computed ≡ Err refused)

-- a test of a value passes where the definition gives the value itself
abbrev pub Passes : {A : Type 0} → A → Result ⊤ Refused → Result A Refused → Type 0
Passes x (Ok done) computed = computed ≡ Ok x
Passes x (Err refused) computed = MatchBool (wants_memory refused) ⊤ (computed ≡ Err refused)
