-- Numbers as bytes, the least significant first (RFC 8032, section 5.1.2).
use Rattle.std.specs.Prelude.{ℕ, zero, suc, ◌+◌, ◌*◌, ◌/◌, ◌%◌, Bool, List, [], ◌∷◌, nat_lt}

-- the number that bytes write
unfoldable pub number : List ℕ → ℕ
number [] = 0
number (b ∷ bs) = b + 256 * number bs

-- the k lowest bytes of a number
unfoldable pub bytes : ℕ → ℕ → List ℕ
bytes zero n = []
bytes (suc k) n = n % 256 ∷ bytes k (n / 256)

-- a number that is a byte
abbrev pub is_byte : ℕ → Bool
is_byte b = nat_lt b 256
