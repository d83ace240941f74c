use Rattle.std.proofs.Common.{◌≡◌, length, ℕ, ◌≤◌, take, map, bit_xor, get_or}
use Rattle.up_sign.proofs.hmac_sha256.masked.Given as goal

-- the bytes so far are masked, and the others are as they were
abbrev pub invariant-loop-byte : goal.invariant-loop-byte
invariant-loop-byte l = record {
  size : length l.byte-items ≡ 64;
  done : take l.byte-index l.byte-items ≡ map (bit_xor l.mask) (take l.byte-index l.block);
  left : (k : ℕ) → l.byte-index ≤ k → get_or l.byte-items k 0 ≡ get_or l.block k 0;
}
