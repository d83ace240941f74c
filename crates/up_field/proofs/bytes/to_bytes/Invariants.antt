use Rattle.std.proofs.Common.{◌≡◌, ◌/◌, ◌^◌, take, length}
use Rattle.up_field.specs.Limbs.{number_of, IsLoose}
use Rattle.up_curve.specs.LittleEndian.{bytes}
use Rattle.up_field.proofs.bytes.to_bytes.Given as goal

abbrev pub invariant-loop-i : goal.invariant-loop-i
invariant-loop-i l = record {
  long : length l.out ≡ 32;
  front : take l.i l.out ≡ bytes l.i (number_of l.fn.a);
  rest : number_of l.r ≡ number_of l.fn.a / 256 ^ l.i;
  limit : IsLoose l.r;
}
