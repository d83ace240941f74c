use Rattle.std.proofs.Common.{sym}
use Rattle.up_sign.proofs.KeyCaches.{kept_already, kept_anew}
use Rattle.up_sign.proofs.key_cache.KeyCache.keep.Goals as goal

pub returns-in-Some-clause-ok : goal.returns-in-Some-clause-ok
returns-in-Some-clause-ok c = sym (kept_already c.args.self.now c.args.public.now c.in-Some.field-0.now c.in-Some.ensures.found)

pub returns-clause-ok : goal.returns-clause-ok
returns-clause-ok c =
    kept_anew c.args.self.now c.in_ok-slots.slots.items c.args.public.now c.new.result c.slot_of.result c.in_ok-slots.ensures.value c.slot_of.ensures.slot c.new.ensures
