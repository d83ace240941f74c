-- Hashed keys in slots.
use Rattle.std.specs.Prelude.{ℕ, ◌+◌, ◌*◌, ◌%◌, List, [], ◌∷◌, Option, None, Some, replicate, bytes_eq, if◌then◌else◌}
use Rattle.std.specs.List.{slice_index_or, slice_set}
use Rattle.up_sign.specs.Hmac.{block_key}

-- the slots, each with the HMAC block (RFC 2104, section 2) of the key in it, if there is one; none before the first key is kept
abbrev pub Slots : Type 0
Slots = List (Option (List ℕ))

-- the number of slots
abbrev pub slot_count : ℕ
slot_count = 4093

-- the number that bytes write behind a number, the most significant first, modulo the number of slots
abbrev pub slot_behind : ℕ → List ℕ → ℕ
slot_behind n [] = n
slot_behind n (b ∷ bs) = slot_behind ((n * 256 + b) % slot_count) bs

-- the slot of a public part
abbrev pub slot_of : List ℕ → ℕ
slot_of public = slot_behind 0 public

-- the kept block, if it is this one
abbrev pub if_block : List ℕ → Option (List ℕ) → Option (List ℕ)
if_block block None = None
if_block block (Some kept) = if bytes_eq kept block then Some kept else None

-- the key of the public part, where its slot has it
unfoldable pub key_in : Slots → List ℕ → Option (List ℕ)
key_in kept public = if_block (block_key public) (slice_index_or kept (slot_of public) None)

-- all slots, without keys
unfoldable pub empty_slots : Slots
empty_slots = replicate slot_count None

-- the slots, made where there are none yet
abbrev pub slots_of : Slots → Slots
slots_of [] = empty_slots
slots_of (slot ∷ more) = slot ∷ more

-- the slots with the key of the public part in its own, whichever was there
unfoldable pub with_key : Slots → List ℕ → Slots
with_key kept public = slice_set (slots_of kept) (slot_of public) (Some (block_key public))
