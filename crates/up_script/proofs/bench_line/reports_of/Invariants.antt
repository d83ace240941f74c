use Rattle.std.proofs.Common.{◌≡◌, ◌++◌, IsTrue, drop, length, Ok}
use Rattle.std.specs.List.{list_all}
use Rattle.std.specs.Prelude.{codes}
use Rattle.up_canon.specs.Members.{values_of}
use Rattle.up_canon.specs.Steps.{each, and_then}
use Rattle.up_sign.specs.Formats.{envelope_fits}
use Rattle.up_script.specs.BenchLines.{report_of}
use Rattle.up_script.proofs.bench_line.reports_of.Given as goal

abbrev pub invariant-loop-value : goal.invariant-loop-value
invariant-loop-value g l = record {
  read : each (report_of (g.K.Scheme.rules l.scheme) (codes "reports")) (values_of l.values) ≡ and_then (each (report_of (g.K.Scheme.rules l.scheme) (codes "reports")) (values_of (drop l.value-index l.values))) (λ rest. Ok (l.reports.items ++ rest));
  fits : IsTrue (list_all envelope_fits l.reports.items);
  number : length l.reports.items ≡ l.value-index;
}
