use Rattle.std.proofs.Common.{sym, ◌∙◌}
use Rattle.sqlite.specs.Held.{state}
use Rattle.up_file.proofs.TakenFor.{made_err, made_ok, made_ours, refused_at, taken_err, taken_ok, taken_ours}
use Rattle.up_file.proofs.adopting.take_for.Goals as goal

pub returns-in-Ok-true-clause-taken : goal.returns-in-Ok-true-clause-taken
returns-in-Ok-true-clause-taken g c =
    taken_ok (state g.D.Store) (state g.D.Store) c.args.method.now (state g.D.Store c.args.conn) c.has_keys_of.new.conn c.has_keys_of.ensures.read c.adopt_or_create.result
    (λ clean version rows listed. sym (c.in-Ok-true.ensures.told clean version rows listed) ∙ c.in-Ok-true.field-0-test) c.adopt_or_create.ensures.taken

pub returns-in-Ok-true-clause-refused : goal.returns-in-Ok-true-clause-refused
returns-in-Ok-true-clause-refused g c =
    taken_err (state g.D.Store) (state g.D.Store) c.args.method.now (state g.D.Store c.args.conn) c.has_keys_of.new.conn c.has_keys_of.ensures.read c.adopt_or_create.result
    c.adopt_or_create.ensures.refused

pub returns-in-Ok-true-clause-other : goal.returns-in-Ok-true-clause-other
returns-in-Ok-true-clause-other g c =
    taken_ours (state g.D.Store) (state g.D.Store c.has_keys_of.new.conn) _ c.adopt_or_create.result c.adopt_or_create.ensures.refused

pub returns-in-Ok-false-clause-refused : goal.returns-in-Ok-false-clause-refused
returns-in-Ok-false-clause-refused g c = refused_at (state g.D.Store) (state g.D.Store c.args.conn) c.has_keys_of.new.conn _ (λ is. cc) c.has_keys_of.ensures.read

pub returns-in-Ok-false-clause-other : goal.returns-in-Ok-false-clause-other
returns-in-Ok-false-clause-other g c = λ told. record {
  read = c.has_keys_of.ensures.read;
  keys = λ clean version rows listed. sym (c.in-Ok-false.ensures.told clean version rows listed) ∙ c.in-Ok-false.field-0-test;
}

pub returns-in-Err-Store-clause-taken : goal.returns-in-Err-Store-clause-taken
returns-in-Err-Store-clause-taken g c =
    made_ok (state g.D.Store) (state g.D.Store) c.args.method.now (state g.D.Store c.args.conn) c.has_keys_of.new.conn c.has_keys_of.ensures.read c.create.result
    c.create.ensures.made

pub returns-in-Err-Store-clause-refused : goal.returns-in-Err-Store-clause-refused
returns-in-Err-Store-clause-refused g c =
    made_err (state g.D.Store) (state g.D.Store) c.args.method.now (state g.D.Store c.args.conn) c.has_keys_of.new.conn c.has_keys_of.ensures.read c.create.result
    c.create.ensures.fault

pub returns-in-Err-Store-clause-other : goal.returns-in-Err-Store-clause-other
returns-in-Err-Store-clause-other g c = made_ours (state g.D.Store) (state g.D.Store c.has_keys_of.new.conn) _ c.create.result c.create.ensures.fault

pub returns-in-Err-Memory-clause-refused : goal.returns-in-Err-Memory-clause-refused
returns-in-Err-Memory-clause-refused g c = refused_at (state g.D.Store) (state g.D.Store c.args.conn) c.has_keys_of.new.conn _ (λ is. cc) c.has_keys_of.ensures.read
