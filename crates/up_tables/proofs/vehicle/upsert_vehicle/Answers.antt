use Rattle.sqlite.specs.Held.{state}
use Rattle.up_tables.proofs.VehicleLemmas.{sets_vehicle, upsert_blames, upsert_ran}
use Rattle.up_tables.proofs.StateLemmas.{on_answered, shown_inside, shown_is_open}
use Rattle.up_tables.proofs.StepLemmas.{queries}
use Rattle.up_tables.proofs.UndoneLemmas.{undoes_showing}
use Rattle.up_tables.specs.Texts.{upsert_vehicle_text}
use Rattle.up_tables.proofs.vehicle.upsert_vehicle.Goals as goal

pub returns : goal.returns
returns g c mode =
    let old = state g.S.Store c.args.tx.now.conn.now in
    let new = state g.S.Store c.query_all.new.self.conn.now in
    let v = c.args.vehicle.now in
    let ok = rw (c.words.ensures, c.words-2.ensures, c.number.ensures, c.number-2.ensures) at c.query_all.ensures.ok in
    let err = rw (c.words.ensures, c.words-2.ensures, c.number.ensures, c.number-2.ensures) at c.query_all.ensures.err in
    record {
      altered = sets_vehicle (λ v. v.items) c.query_all.result c.shows.result old new v.vehicle.now v.primary_ecu.now v.version v.last_counter c.query_all.ensures.survives mode c.shows.ensures.ok ok;
      blame = upsert_blames (λ v. v.items) c.query_all.result c.shows.result old new v c.query_all.ensures.survives mode c.shows.ensures.fault c.shows.ensures.another ok err;
      ran = upsert_ran (λ v. v.items) c.query_all.result c.shows.result old new v c.shows.ensures.ok ok;
      memory = undoes_showing upsert_vehicle_text _ _ c.query_all.result c.shows.result _ _ c.shows.ensures.fault c.shows.ensures.another c.query_all.ensures.err;
      step = record {
        same_reference = c.query_all.ensures.same_reference;
        steps = queries (λ v. v.items) _ _ old new c.query_all.result mode c.query_all.ensures.survives c.query_all.ensures.ok c.query_all.ensures.err;
        inside = on_answered _ _ c.query_all.result c.shows.result c.shows.ensures.ok (shown_inside (λ v. v.items) _ _ old new c.query_all.result c.query_all.ensures.survives mode c.query_all.ensures.ok);
        is_open = on_answered _ _ c.query_all.result c.shows.result c.shows.ensures.ok (shown_is_open (λ v. v.items) _ _ old new c.query_all.result c.query_all.ensures.ok);
      };
    }
