use Rattle.std.proofs.Common.{◌≡◌, Err, true, false, ap, refl, sym, subst, ◌∙◌}
use Rattle.std.specs.Prelude.{IfSome}
use Rattle.up_records.specs.Catalogs.{CanDecide, IsLoaded, primaries_in}
use Rattle.up_records.proofs.Cataloged.{come_empty, come_none, loaded_anew, stays, there_loaded}
use Rattle.up_records.proofs.Sessions.{all_on, lost_on, none_on, then_on}
use Rattle.up_records.proofs.catalog.load.Goals as goal

pub returns-then-is_some-clause-loaded : goal.returns-then-is_some-clause-loaded
returns-then-is_some-clause-loaded g c inside =
    all_on g.D.Store (none_on g.D.Store inside) _ _ (λ k of s _ fits. there_loaded s c.args.catalog.now (sym c.is_some.ensures ∙ c.if-is_some.true) fits)

pub returns-then-is_some-clause-kept : goal.returns-then-is_some-clause-kept
returns-then-is_some-clause-kept g c = record { stays = stays c.args.catalog.now; can = λ can. can; came = come_none _ (primaries_in c.args.catalog.now); lost = tt; there = λ there. (refl, refl, refl) }

pub returns-in-Ok-clause-loaded : goal.returns-in-Ok-clause-loaded
returns-in-Ok-clause-loaded g c inside =
    all_on g.D.Store (then_on g.D.Store (none_on g.D.Store inside) c.in-Ok.ensures.found) _ _ (λ j of s found fits. subst (IsLoaded s) (sym c.replace.ensures.after) found.1)

pub returns-in-Ok-clause-kept : goal.returns-in-Ok-clause-kept
returns-in-Ok-clause-kept g c = record {
  stays = loaded_anew c.args.catalog.now c.replace.new.dest (sym c.is_some.ensures ∙ c.if-is_some.false);
  can = λ can. subst (λ o. IfSome o (CanDecide (g.K.Scheme.rules c.args.scheme.now))) (sym c.replace.ensures.after) c.in-Ok.ensures.fresh.can;
  came = come_empty _ (primaries_in c.args.catalog.now) (primaries_in c.replace.new.dest) (ap primaries_in c.replace.ensures.after ∙ c.in-Ok.ensures.fresh.none);
  lost = tt;
  there = λ there. absurd (let no : true ≡ false = sym there ∙ sym c.is_some.ensures ∙ c.if-is_some.false in cc);
}

pub returns-in-Err-clause-loaded : goal.returns-in-Err-clause-loaded
returns-in-Err-clause-loaded g c inside = lost_on g.D.Store (none_on g.D.Store inside) _ (Err c.in-Err.fault) refl c.in-Err.ensures.found

pub returns-in-Err-clause-kept : goal.returns-in-Err-clause-kept
returns-in-Err-clause-kept g c = record {
  stays = stays c.args.catalog.now;
  can = λ can. can;
  came = come_none _ (primaries_in c.args.catalog.now);
  lost = refl;
  there = λ there. absurd (let no : true ≡ false = sym there ∙ sym c.is_some.ensures ∙ c.if-is_some.false in cc);
}
