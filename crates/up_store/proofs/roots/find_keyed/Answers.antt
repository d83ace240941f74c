use Rattle.std.proofs.Common.{◌≡◌, subst, sym}
use Rattle.std.proofs.lemmas.Bool.{ne_eqb}
use Rattle.up_store.proofs.Common.{state, HasCleanDisk, StateRows, IsWithin, Tells, up_schema, each_said, ok_then, key_row, ListsRows, ReadsKeyed, SaysKey, meta_told, own_told, IsFoundingOf, IsTypedKey}
use Rattle.up_store.proofs.ColumnFound.{typed_in}
use Rattle.up_store.proofs.FoundingReads.{founding_in, founding_told}
use Rattle.up_store.proofs.Blamed.{memory_blames}
use Rattle.up_store.proofs.KindsOfFounding.{founded_fault, holds_keys, keys_said}
use Rattle.up_store.proofs.WithinLemmas.{finds_fault}
use Rattle.up_store.proofs.Written.{was_open_before, surely}
use Rattle.up_store.proofs.roots.find_keyed.Goals as goal

pub returns-in-Ok : goal.returns-in-Ok
returns-in-Ok g c opened inside =
    let before = state g.D.Store c.args.tx.now.conn.now in
    let after = state g.D.Store c.role_keys.new.tx.conn.now in
    let row = c.args.row in
    let own = c.args.own in
    let keys = c.in-Ok.keys.items in
    let it = c.in-Ok.ensures inside in
    let some = ne_eqb row.root 0 c.requires.founded in
    let said = λ (clean : HasCleanDisk after). keys_said keys before (it.found clean) in
    record {
      found = λ clean. ok_then (IsFoundingOf row own c.as_slice.result.now)
          (λ found. (rows : StateRows) → IsWithin up_schema (ListsRows rows) before → row ≡ meta_told rows.founding → own ≡ own_told rows.founding → found ≡ rows.founding) c.read_founding.result
          (λ read is rows within numbers owns. founding_in rows row own keys read before after some (it.reads clean) (said clean) (subst (λ l. IsFoundingOf row own l read) c.as_slice.ensures.value is) within numbers owns)
          c.read_founding.ensures.found;
      shown = λ clean. ok_then (IsFoundingOf row own c.as_slice.result.now) _ c.read_founding.result
          (λ read is all has lists.
          let again = subst (IsFoundingOf row own keys) is.is (subst (λ l. IsFoundingOf row own l read) c.as_slice.ensures.value is) in
          subst (ReadsKeyed row own all) (sym is.is) (keys, each_said (Tells SaysKey IsTypedKey key_row) SaysKey (λ r k told. told.said) _ keys (it.found clean all has lists), again))
          c.read_founding.ensures.found;
      reads = λ clean. surely c.read_founding.result (it.reads clean);
      «open» = λ clean. was_open_before c.read_founding.result before (it.reads clean).was_open;
      blame = memory_blames (λ rows. (row ≡ meta_told rows.founding) × (own ≡ own_told rows.founding)) before after c.read_founding.result
          (λ clean rows within fits.
          let told = subst (λ l. IsFoundingOf row own l rows.founding) (sym c.as_slice.ensures.value) (founding_told rows row own keys before after some (it.reads clean) (said clean) within fits.0 fits.1) in
          founded_fault row own c.as_slice.result.now rows.founding told c.read_founding.result c.read_founding.ensures.fault (typed_in rows before after (it.reads clean) within).founding);
      step = record { same_reference = it.step.same_reference; steps = it.step.steps };
    }

pub returns-in-Err : goal.returns-in-Err
returns-in-Err g c opened inside =
    let it = c.in-Err.ensures inside in
    finds_fault g.D.Store _ _ (λ rows. (c.args.row ≡ meta_told rows.founding) × (c.args.own ≡ own_told rows.founding)) _ _ c.role_keys.result c.in-Err.fault _ (λ clean. tt) (λ rows lists fits. holds_keys (state g.D.Store c.args.tx.now.conn.now) rows lists) it.blame
    (c.role_keys.ensures inside).step
