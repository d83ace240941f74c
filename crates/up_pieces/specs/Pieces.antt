-- What is read at once of a reader, and what is written of a text.
use Rattle.std.specs.Prelude.{◌≡◌, ℕ, ◌<◌, ◌≤◌, List, length, take, Option, Result, IfOk, OnOk, OnErr}
use Rattle.std.specs.Io.KnownBytes.{Appends, Consumes, IsAtEnd, Keeps}
use Rattle.up_pieces.specs.Prefixes.{IsProperPrefix}

-- A piece of at most so many bytes is read to the front of a buffer with this room, or the read fails. Of the reader it is given what it has
-- before and after, where that is known, and what says that it may be read, that a read failed, and that it has ended.
pub record ReadsPiece {E : Type 0} (most room : ℕ) (buffer : List ℕ) (had has : Option (List ℕ)) (can_read has_failed has_ended : Type 0) (result : Result ℕ E) : Type 0 where
  -- no more came than was asked for
  pub count : IfOk result (λ n. (n ≤ length buffer) × (n ≤ most))
  -- what came stands at the buffer's front, and the reader has it no more
  pub bytes : IfOk result (λ n. Consumes had has (take n buffer))
  -- none comes only at the reader's end, or where there is room for none
  pub end : IfOk result (λ n. n ≡ 0 → 0 < most → 0 < room → IsAtEnd has)
  pub ended : IfOk result (λ n. n ≡ 0 → 0 < most → 0 < room → has_ended)
  -- where some came the reader may be read again
  pub goes_on : IfOk result (λ n. 0 < n → can_read)
  -- a fault takes nothing from the reader, which failed
  pub err : OnErr result (Keeps had has)
  pub failed : OnErr result has_failed

-- A text is written whole, or the writer failed. Of the writer it is given what it holds before and after, where that is known, and what says
-- that it may be written, and that a write failed.
pub record WritesWhole {E : Type 0} (text : List ℕ) (had has : Option (List ℕ)) (can_write has_failed : Type 0) (result : Result (Unit {0}) E) : Type 0 where
  -- all of it is written
  pub ok : OnOk result (Appends had has text)
  -- a part of it is written, but not all
  pub err : OnErr result ((prefix : List ℕ) × IsProperPrefix prefix text × Appends had has prefix)
  -- only a writer that took all may be written again, and one that didn't failed
  pub goes_on : OnOk result can_write
  pub failed : OnErr result has_failed
