use Rattle.std.proofs.Common.{◌≡◌, ◌++◌, length, drop, Ok}
use Rattle.std.specs.Prelude.{IsTrue}
use Rattle.std.specs.List.{list_all}
use Rattle.up_canon.specs.Members.{values_of}
use Rattle.up_canon.specs.Steps.{each, and_then}
use Rattle.up_sign.specs.Formats.{envelope_fits}
use Rattle.up_primary_files.specs.Manifests.{envelope_of}
use Rattle.up_primary_files.proofs.report.envelopes_of.Given as goal

-- an envelope for each value so far, each within its limits
abbrev pub invariant-loop-value : goal.invariant-loop-value
invariant-loop-value g l =
    (each (envelope_of (g.K.Scheme.rules l.scheme)) (values_of l.values) ≡ and_then (each (envelope_of (g.K.Scheme.rules l.scheme)) (values_of (drop l.value-index l.values))) (λ rest. Ok (l.envelopes.items ++ rest)))
    × (length l.envelopes.items ≡ l.value-index) × IsTrue (list_all envelope_fits l.envelopes.items)
