use Rattle.std.proofs.Common.{[], subst, sym}
use Rattle.sqlite.specs.Held.{state}
use Rattle.sqlite.specs.State.{Shown}
use Rattle.up_tables.specs.Ours.{find_meta_text}
use Rattle.up_file.specs.Causes.{TellsCause, rows_in}
use Rattle.up_file.proofs.Asked.{if_rows}
use Rattle.up_file.proofs.causes.cause_of.Goals as goal

pub returns-in-Store-clause-told : goal.returns-in-Store-clause-told
returns-in-Store-clause-told g c =
    let old = state g.D.Store c.args.conn.now in
    let new = state g.D.Store c.query_all.new.self in
    subst (λ fault. TellsCause old new fault c.told_by.result) (sym c.in-Store.is) (
      rows_in (λ rows. rows.items) c.query_all.result,
      c.told_by.ensures,
      (λ clean. if_rows (λ rows. rows.items) c.query_all.result (Shown find_meta_text [] old new) (c.query_all.ensures.ok clean)),
      c.query_all.ensures.survives,
    )
