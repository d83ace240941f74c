-- How long files are valid after the moment of the command that made them.
use Rattle.std.specs.Prelude.{ℕ, ◌*◌}
use Rattle.up_roles.specs.declared.repository.Repository.{Repository}
use Rattle.up_roles.specs.declared.repository.Repository.TheVariants.{Director, Image}
use Rattle.up_roles.specs.declared.lifetimes.Lifetimes.{Lifetimes}

-- in seconds
abbrev pub day : ℕ
day = 86400

abbrev pub lifetimes : Repository → Lifetimes
lifetimes Director = record { root = 365 * day; targets = 7 * day; snapshot = 7 * day; timestamp = 7 * day }
lifetimes Image = record { root = 365 * day; targets = 90 * day; snapshot = 30 * day; timestamp = 1 * day }
