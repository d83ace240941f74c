use Rattle.std.proofs.Common.{inl, inr, rules}
use Rattle.sqlite.specs.Held.{state}
use Rattle.up_file.proofs.Adopted.{first_refused, first_taken, then_refused, then_taken}
use Rattle.up_file.proofs.adopting.adopt_or_create.Goals as goal

pub returns-clause-taken : goal.returns-clause-taken
returns-clause-taken g c = elim c.or_made.ensures.told [
  | inl told ↦ first_taken (state g.D.Store) (state g.D.Store) (state g.D.Store c.args.conn) c.or_made.result (search rules)
  | inr told ↦ then_taken (state g.D.Store) (state g.D.Store) (state g.D.Store c.args.conn) (state g.D.Store told.0) (search rules) c.or_made.result (search rules)
]

pub returns-clause-refused : goal.returns-clause-refused
returns-clause-refused g c = elim c.or_made.ensures.told [
  | inl told ↦ first_refused (state g.D.Store) (state g.D.Store) (state g.D.Store c.args.conn) c.or_made.result told.1 (search rules)
  | inr told ↦ then_refused (state g.D.Store) (state g.D.Store) (state g.D.Store c.args.conn) (state g.D.Store told.0) (search rules) c.or_made.result (search rules)
]
