use Rattle.std.proofs.Common.{◌≡◌, length, ap, ◌∙◌, arith}
use Rattle.up_sign.specs.KeyCaches.{empty_slots, slot_count}
use Rattle.up_sign.proofs.KeyCaches.{all_empty, length-empty_slots}
use Rattle.up_sign.proofs.key_cache.empty_slots.Goals as goal

pub returns : goal.returns
returns c =
    let all : c.loop.counter ≡ slot_count = omega (arith, c.loop-test.false, c.loop.auto.counter-end) in
    let empty : c.loop.empty.items ≡ empty_slots = all_empty c.loop.counter all c.loop.empty.items c.loop.invariant in
    record { value = empty; number = ap length empty ∙ length-empty_slots }
