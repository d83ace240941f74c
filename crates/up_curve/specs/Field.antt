-- Numbers modulo 2^255 - 19.
use Rattle.std.specs.Prelude.{ℕ, zero, suc, ◌*◌, ◌/◌, ◌-◌, ◌^◌, ◌%◌}

-- the prime p of edwards25519 (RFC 8032, section 5.1)
abbrev pub p : ℕ
p = 2 ^ 255 - 19

-- b ^ e modulo m by squaring, for an e of at most `fuel` bits
unfoldable pub pow_mod : ℕ → ℕ → ℕ → ℕ → ℕ
pow_mod zero m b e = 1
pow_mod (suc fuel) m b e = (b ^ (e % 2) * pow_mod fuel m (b * b % m) (e / 2)) % m

-- the inverse modulo p, which is the power by p - 2 (RFC 8032, section 5.1.1)
unfoldable pub inverse : ℕ → ℕ
inverse z = pow_mod 256 p z (p - 2)

-- the square root of -1, which is 2 ^ ((p - 1) / 4) modulo p (RFC 8032, section 5.1.3)
abbrev pub sqrt_minus_one : ℕ
sqrt_minus_one = 19681161376707505956807079304988542015446066515923890162744021073123829784752
