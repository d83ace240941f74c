-- Lines that are printed.
use Rattle.std.specs.Prelude.{ℕ, List, ◌++◌, ◌⊎◌, codes, decimal, Option, Result, Ok, Err}
use Rattle.std.specs.Io.KnownBytes.{Appends}
use Rattle.hex.specs.Hex.{encode_lower}
use Rattle.up_lines.specs.declared.fault.ScriptCause.{ScriptCause}
use Rattle.up_pieces.specs.Prefixes.{IsProperPrefix}
use Rattle.up_program.specs.declared.digests.Digests.{Digests}
use Rattle.up_program.specs.declared.failure.Failure.{Failure}
use Rattle.up_program.specs.declared.status.Status.{Status}
use Rattle.up_program.specs.declared.failure.Failure.TheVariants.{Unread}
use Rattle.up_program.specs.Failures.{cause_word}

-- the port at which the program listens
abbrev pub listening_line : ℕ → List ℕ
listening_line port = codes "listening " ++ decimal port ++ codes "\n"

-- why the connection of this number failed
abbrev pub connection_line : ℕ → ScriptCause → List ℕ
connection_line number cause = codes "uptane_desk: connection " ++ decimal number ++ codes ": " ++ cause_word cause ++ codes "\n"

-- how a service stands
abbrev pub status_line : Status → List ℕ
status_line s = codes "{\"commands\":" ++ decimal s.commands ++ codes ",\"groups\":" ++ decimal s.groups ++ codes ",\"open\":" ++ decimal s.open
    ++ codes ",\"seconds\":" ++ decimal s.seconds ++ codes ",\"served\":" ++ decimal s.served ++ codes "}\n"

-- a file's length in decimal, its SHA-256 and its SHA-512, both in lower case hex
abbrev pub digests_line : ℕ → List ℕ → List ℕ → List ℕ
digests_line length sha256 sha512 = decimal length ++ codes " " ++ encode_lower sha256 ++ codes " " ++ encode_lower sha512 ++ codes "\n"

-- what is told of a file: its digests, or that it can't be read
abbrev pub digests_of : {E : Type 0} → Result (ℕ × List ℕ × List ℕ) E → Result Digests Failure
digests_of (Ok told) = Ok (record { length = told.0; sha256 = told.1; sha512 = told.2 })
digests_of (Err fault) = Err Unread

-- a line was written whole, or a write failed or took no byte behind a part of it
abbrev pub IsWritten : {W : Type 0} → (W → Option (List ℕ)) → (W → Type 0) → W → List ℕ → W → Type 0
IsWritten contents has_failed old line new = Appends (contents old) (contents new) line
    ⊎ ((prefix : List ℕ) × IsProperPrefix prefix line × Appends (contents old) (contents new) prefix × has_failed new)
