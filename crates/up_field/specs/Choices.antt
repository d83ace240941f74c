-- One of two by a bit.
use Rattle.std.specs.Prelude.{◌≡◌, ℕ}

pub record IsChoice {A : Type 0} (bit : ℕ) (a b c : A) : Type 0 where
  pub one : bit ≡ 1 → c ≡ a
  pub zero : bit ≡ 0 → c ≡ b
