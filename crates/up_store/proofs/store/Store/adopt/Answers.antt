use Rattle.std.proofs.Common.{◌≡◌, inl, inr, IsTrue, false, sym, ◌∙◌, refl, arith}
use Rattle.up_tables.specs.declared.open.OpenFault.TheVariants.{NotOurs, Store}
use Rattle.up_tables.specs.Opened.{IsUntaken, Takes}
use Rattle.up_store.proofs.Common.{state, HasCleanDisk, table_rows}
use Rattle.up_store.proofs.Raised.{tables_of, rows_again, raised_rows, ours, took_true, took_false, took_fault}
use Rattle.up_store.proofs.store.Store.adopt.Goals as goal

pub returns-in-Ok-clause-taken : goal.returns-in-Ok-clause-taken
returns-in-Ok-clause-taken g c =
    let old = state g.D.Store c.args.conn in
    let new = state g.D.Store c.take_tables.new.conn in
    let it = took_true (Takes old new) c.take_tables.result c.in-Ok.ensures.ours c.take_tables.ensures.taken in
    let crash = c.take_tables.ensures.ends.survives in
    record {
      ours = it.ours refl;
      taken = λ version rows keeps clean.
          let before : HasCleanDisk old = omega (arith, clean, crash.clean) in
          let was = keeps before in
          rows_again version rows old new (it.«open» clean) was (it.taken refl clean version (table_rows rows) (tables_of version rows old was));
      ran = it.ran refl;
      «open» = it.«open»;
      crash = raised_rows old new crash;
    }

pub returns-in-Err-clause-fault : goal.returns-in-Err-clause-fault
returns-in-Err-clause-fault g c =
    let old = state g.D.Store c.args.conn in
    let new = state g.D.Store c.take_tables.new.conn in
    let crash = c.take_tables.ensures.ends.survives in
    elim c.in-Err.ensures.fault [
      | inl found ↦
          let it = took_false (Takes old new) c.take_tables.result found.0 c.take_tables.ensures.taken in
          record {
            others = λ _ clean. it.others refl clean;
            never = λ clean version rows keeps same.
                let before : HasCleanDisk old = omega (arith, clean, crash.clean) in
                let listed : IsTrue false = it.listed clean version (ours version rows old (keeps before)) in
                cc;
            cause = λ store clean. absurd (let no : NotOurs ≡ Store = sym found.1 ∙ store in cc);
            kept = it.kept refl;
            mode = c.take_tables.ensures.ends.mode;
            crash = raised_rows old new crash;
          }
      | inr told ↦
          let it = took_fault (IsUntaken old new) c.take_tables.result c.in-Err.fault told c.take_tables.ensures.fault in
          record {
            others = λ not_ours clean. absurd (it.known not_ours);
            never = λ clean version rows keeps same. it.known same;
            cause = λ store clean. it.cause clean store;
            kept = it.kept;
            mode = c.take_tables.ensures.ends.mode;
            crash = raised_rows old new crash;
          }
    ]
