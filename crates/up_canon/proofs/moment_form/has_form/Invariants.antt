use Rattle.std.proofs.Common.{◌≡◌, length, drop}
use Rattle.std.specs.Prelude.{codes}
use Rattle.std.specs.Cmp.Lexicographic.{pointwise}
use Rattle.up_canon.specs.Moments.{has_form, fits_sign}
use Rattle.up_canon.proofs.moment_form.has_form.Given as goal

abbrev pub invariant-loop-i : goal.invariant-loop-i
invariant-loop-i l = record {
  signs : l.form ≡ codes "0000-00-00T00:00:00Z";
  long : length l.bytes ≡ 20;
  left : has_form l.bytes ≡ pointwise fits_sign (drop l.i (codes "0000-00-00T00:00:00Z")) (drop l.i l.bytes);
}
