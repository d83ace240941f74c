use Rattle.std.proofs.Common.{◌+◌, ◌-◌, ◌≤◌, Some, length, take, vec_len}
use Rattle.std.specs.Prelude.{vec_capacity}
use Rattle.up_desk.specs.Groups.{CarriesAll}
use Rattle.up_desk.proofs.grouped.carry_each.Given as goal

-- the commands so far are carried out, and there is room for the answers of the others
abbrev pub invariant-loop-item : goal.invariant-loop-item
invariant-loop-item g l = record {
  far : CarriesAll g.D.Store (g.K.Scheme.rules l.scheme) (take l.item-index l.commands) l.fn.answers l.answers l.fn.tx.conn l.tx.conn l.fn.catalog l.catalog (Some l.put);
  room : vec_len l.answers + (length l.commands - l.item-index) ≤ vec_capacity l.answers;
}
