-- How many lines of one kind are written in a minute.
use Rattle.std.specs.Prelude.{ℕ, suc, nat_eq, if◌then◌else◌}
use Rattle.up_service.specs.declared.tally.Tally.{Tally}

-- how many there were in this minute
abbrev pub lines_in : Tally → ℕ → ℕ
lines_in tally minute = if nat_eq tally.minute minute then tally.lines else 0

-- with one more in it
abbrev pub tally_behind : Tally → ℕ → Tally
tally_behind tally minute = record { minute = minute; lines = suc (lines_in tally minute) }
