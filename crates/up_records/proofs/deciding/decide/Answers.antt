use Rattle.std.proofs.Common.{Option, sym, subst}
use Rattle.up_records.specs.declared.catalog.Catalog.{Catalog}
use Rattle.up_records.specs.Catalogs.{Fits, primaries_in}
use Rattle.up_records.specs.Senders.{IsSentBy}
use Rattle.up_records.proofs.Cataloged.{come_as, come_loaded, loaded_fits, stays_then}
use Rattle.up_records.proofs.Leaving.{left_in}
use Rattle.up_records.proofs.Reading.{failed_told}
use Rattle.up_records.proofs.SentBy.{loaded_behind, none_loaded, still_refused}
use Rattle.up_records.proofs.Sessions.{clean_on, fails_on, none_on, seen_then, then_decides, then_on}
use Rattle.up_records.proofs.deciding.decide.Goals as goal

pub returns-in-Ok-clause-decided : goal.returns-in-Ok-clause-decided
returns-in-Ok-clause-decided g c inside =
    then_decides g.D.Store (then_on g.D.Store (none_on g.D.Store inside) c.in-Ok.ensures.loaded) (g.K.Scheme.rules c.args.scheme.now) Rattle.std.proofs.Common.refl c.decide_loaded.ensures.decided (λ s sound fits found. found.1 fits)

pub returns-in-Ok-clause-kept : goal.returns-in-Ok-clause-kept
returns-in-Ok-clause-kept g c =
    let G = g.D.Store in
    let k = g.K.Scheme.rules c.args.scheme.now in
    let incoming = c.args.incoming.now in
    let behind = left_in G k incoming c.load.new.catalog c.decide_loaded.new.catalog c.load.new.tx.conn c.decide_loaded.new.tx.conn c.decide_loaded.result c.decide_loaded.ensures.leaves in
    record {
      stays = stays_then c.args.catalog.now c.load.new.catalog c.decide_loaded.new.catalog c.load.ensures.kept.stays behind.stays;
      fits = λ inside clean s sees fits.
          let far = then_on G (none_on G inside) c.in-Ok.ensures.loaded in
          let then = clean_on G (c.decide_loaded.ensures.decided far.inside).step clean in
          behind.fits far.inside clean s (seen_then G far then k s sees) (loaded_fits s c.load.new.catalog ((far.told then k Rattle.std.proofs.Common.refl s sees).1 fits));
      can = λ can. behind.can (c.load.ensures.kept.can can);
      came = λ inside clean s sees fits.
          let far = then_on G (none_on G inside) c.in-Ok.ensures.loaded in
          let then = clean_on G (c.decide_loaded.ensures.decided far.inside).step clean in
          come_loaded (IsSentBy k incoming) (primaries_in c.args.catalog.now) (primaries_in c.load.new.catalog) (primaries_in c.decide_loaded.new.catalog) c.load.ensures.kept.came
          (behind.came far.inside clean s (seen_then G far then k s sees) (loaded_fits s c.load.new.catalog ((far.told then k Rattle.std.proofs.Common.refl s sees).1 fits)));
      there = loaded_behind c.decide_loaded.result c.decide_loaded.new.catalog behind.there;
      left = still_refused k incoming c.args.catalog.now c.load.new.catalog c.decide_loaded.new.catalog c.args.tx.now.conn c.load.new.tx.conn c.decide_loaded.new.tx.conn c.decide_loaded.result _ c.load.ensures.kept.there behind.left;
    }

pub returns-in-Err-clause-decided : goal.returns-in-Err-clause-decided
returns-in-Err-clause-decided g c inside = fails_on g.D.Store (none_on g.D.Store inside) (g.K.Scheme.rules c.args.scheme.now) Rattle.std.proofs.Common.refl c.refusal_of.ensures c.in-Err.ensures.loaded

pub returns-in-Err-clause-kept : goal.returns-in-Err-clause-kept
returns-in-Err-clause-kept g c =
    let k = g.K.Scheme.rules c.args.scheme.now in
    record {
      stays = c.load.ensures.kept.stays;
      fits = λ inside clean s sees fits. subst (λ (o : Option Catalog). Fits s o) (sym c.in-Err.ensures.kept.lost) fits;
      can = c.load.ensures.kept.can;
      came = λ inside clean s sees fits.
          come_as (λ vehicle primary. ⊥) (IsSentBy k c.args.incoming.now) (primaries_in c.args.catalog.now) (primaries_in c.load.new.catalog) (λ vehicle primary none. absurd none) c.load.ensures.kept.came;
      there = failed_told c.refusal_of.result c.in-Err.fault _ c.refusal_of.ensures;
      left = none_loaded k c.args.incoming.now c.args.catalog.now c.in-Err.fault _ _ (λ there. let it = c.in-Err.ensures.kept.there there in (it.0, it.1));
    }
