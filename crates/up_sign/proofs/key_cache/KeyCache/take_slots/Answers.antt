use Rattle.std.proofs.Common.{◌≡◌, length, sym, subst, ◌∙◌}
use Rattle.std.specs.Prelude.{IfSome}
use Rattle.up_sign.specs.KeyCaches.{slot_count}
use Rattle.up_sign.proofs.key_cache.KeyCache.take_slots.Goals.{in-Some, in-None}
use Rattle.up_sign.proofs.key_cache.KeyCache.take_slots.Goals as goal

pub returns-clause-number : goal.returns-clause-number
returns-clause-number c = elim c.match-take.branch [
  | in-Some w ↦ rw w.result-is (subst (λ o. IfSome o (λ v. length v.items ≡ slot_count)) (sym c.take.ensures.value ∙ w.in-Some.is) c.self.invariant)
  | in-None w ↦ rw w.result-is w.empty_slots.ensures.number
]
