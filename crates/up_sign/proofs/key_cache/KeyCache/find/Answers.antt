use Rattle.std.proofs.Common.{ℕ, None, get_or, sym, ap, ◌∙◌}
use Rattle.up_sign.proofs.KeyCaches.{found_none, found_other, found_own}
use Rattle.up_sign.proofs.key_cache.KeyCache.find.Goals as goal

pub returns-in_err-key-clause-found : goal.returns-in_err-key-clause-found
returns-in_err-key-clause-found c =
    rw c.from_residual.ensures
    (found_none c.args.self.now c.args.public.now (c.in_err-key.ensures ∙ ap (λ (i : ℕ). get_or c.args.self.now i None) c.slot_of.ensures.slot))

pub returns-then-not-is_of-clause-found : goal.returns-then-not-is_of-clause-found
returns-then-not-is_of-clause-found c =
    found_other c.args.self.now c.args.public.now c.in_ok-key.key.now (c.in_ok-key.ensures ∙ ap (λ (i : ℕ). get_or c.args.self.now i None) c.slot_of.ensures.slot)
    (sym c.is_of.ensures ∙ c.if-not-is_of.true)

pub returns-clause-found : goal.returns-clause-found
returns-clause-found c =
    found_own c.args.self.now c.args.public.now c.in_ok-key.key.now (c.in_ok-key.ensures ∙ ap (λ (i : ℕ). get_or c.args.self.now i None) c.slot_of.ensures.slot)
    (sym c.is_of.ensures ∙ c.if-not-is_of.false)
