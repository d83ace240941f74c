use Rattle.std.proofs.Common.{◌≡◌, ◌+◌, ◌-◌, ◌≤◌, length, take, vec_len}
use Rattle.std.specs.Prelude.{vec_capacity}
use Rattle.up_records.specs.Standing.{state}
use Rattle.up_desk.proofs.Runs.{SoFar}
use Rattle.up_desk.proofs.desk.Desk.run_apart.Given as goal

-- the commands so far have run, with the answers so far, and there is room for the others
abbrev pub invariant-loop-item : goal.invariant-loop-item
invariant-loop-item g l = record {
  far : SoFar (g.K.Scheme.rules l.fn.self.scheme) (state g.D.Store l.fn.self.store) (state g.D.Store l.self.store) (take l.item-index l.commands) l.fn.answers.items l.answers.items;
  scheme : l.self.scheme ≡ l.fn.self.scheme;
  room : vec_len l.answers + (length l.commands - l.item-index) ≤ vec_capacity l.answers;
}
