use Rattle.std.proofs.Common.{◌≡◌, ◌<◌, drop}
use Rattle.up_sign.specs.KeyCaches.{slot_behind, slot_of, slot_count}
use Rattle.up_sign.proofs.key_cache.slot_of.Given as goal

-- the bytes that are left, behind the number of those before them, write the whole number
abbrev pub invariant-loop-byte : goal.invariant-loop-byte
invariant-loop-byte l = record {
  behind : slot_behind l.slot (drop l.byte-index l.public) ≡ slot_of l.public;
  within : l.slot < slot_count;
}
