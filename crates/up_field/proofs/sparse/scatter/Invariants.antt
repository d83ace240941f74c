use Rattle.std.proofs.Common.{◌≡◌, ℕ, ◌+◌, ◌*◌, ◌-◌, ◌^◌, ◌<◌, ◌≤◌, length, take, get_or}
use Rattle.up_field.specs.Points.{number}
use Rattle.up_field.specs.Sparse.{IsDigit, scattered}
use Rattle.up_field.proofs.sparse.scatter.Given as goal

abbrev pub invariant-loop-i : goal.invariant-loop-i
invariant-loop-i l = record {
  long : length l.plus ≡ 258;
  long_minus : length l.minus ≡ 258;
  carry : l.carry < 2;
  value : scattered (take l.i l.plus) + 2 ^ l.i * (number l.rest + l.carry) ≡ number l.fn.n + scattered (take l.i l.minus);
  bound : l.i < 257 → number l.rest + l.carry ≤ 2 ^ (256 - l.i);
  done : 256 < l.i → number l.rest + l.carry ≡ 0;
  plus : (k : ℕ) → IsDigit l.wide (get_or l.plus k 0);
  minus : (k : ℕ) → IsDigit l.wide (get_or l.minus k 0);
}
