use Rattle.std.proofs.Common.{◌≡◌, ◌-◌, ◌<◌, ◌^◌, drop}
use Rattle.up_field.specs.Limbs.{number_of, IsLoose}
use Rattle.up_curve.specs.LittleEndian.{number}
use Rattle.up_field.proofs.bytes.from_bytes.Given as goal

abbrev pub invariant-loop-i : goal.invariant-loop-i
invariant-loop-i l = record {
  is : number_of l.r ≡ number (drop (32 - l.i) l.bytes);
  below : number_of l.r < 256 ^ l.i;
  limit : IsLoose l.r;
}
