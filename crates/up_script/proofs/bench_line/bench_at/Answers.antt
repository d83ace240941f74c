use Rattle.std.proofs.Common.{◌≤◌, arith, ap, length, ◌∙◌}
use Rattle.std.specs.Prelude.{codes}
use Rattle.std.specs.List.{list_all}
use Rattle.up_sign.specs.Formats.{envelope_fits}
use Rattle.up_script.proofs.Limits.{positive_read, values_read}
use Rattle.up_script.proofs.bench_line.bench_at.Goals as goal

pub build_manifest_by-requires-clause-manifest : goal.build_manifest_by-requires-clause-manifest
build_manifest_by-requires-clause-manifest g c =
    let least : 1 ≤ c.in_ok-positive_at.field-0 = positive_read (codes "counter") _ _ c.in_ok-positive_at.ensures in
    let most = values_read 64 (codes "reports") _ _ c.in_ok-values.ensures in
    let given = ap length c.as_slice.ensures.value in
    let passed = ap length c.as_slice-2.ensures.value in
    record {
      counter_fits = (omega arith, omega arith);
      number = omega (arith, most, given, passed, c.in_ok-reports.ensures.number);
      limits = ap (list_all envelope_fits) c.as_slice-2.ensures.value ∙ c.in_ok-reports.ensures.fits;
    }
