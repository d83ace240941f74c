-- The moment of a connection.
use Rattle.std.specs.Prelude.{ℕ, ◌/◌, Result, Ok, Err}
use Rattle.std.specs.Time.{system_time_nanos}
use Rattle.std.specs.declared.time.SystemTime.{SystemTime}

-- the whole seconds since 1970 of what a clock tells, 0 where it tells none
abbrev pub seconds_at : {E : Type 0} → Result SystemTime E → ℕ
seconds_at (Ok now) = system_time_nanos now / 1000000000
seconds_at (Err fault) = 0
