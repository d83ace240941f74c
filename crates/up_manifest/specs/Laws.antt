-- A body means one manifest, or it has one first fault.
use Rattle.std.specs.Prelude.{◌≡◌, ℕ, List, Some, Ok, MatchResult}
use Rattle.std.specs.List.{AllByRecursion}
use Rattle.up_sign.specs.Laws.{IsTextFault}
use Rattle.up_manifest.specs.Manifests.{incoming_in, manifest_of, report_of}
use Rattle.up_manifest.specs.Meaning.{MeansBody}
use Rattle.up_manifest.specs.declared.manifest.Incoming.{Incoming}
use Rattle.up_manifest.specs.declared.manifest.Manifest.{Manifest}

-- what is read is what the body means, both ways
abbrev pub BodiesAreRead : Type 0
BodiesAreRead = (body : List ℕ) (i : Incoming) → (incoming_in body ≡ Ok i → MeansBody body i) × (MeansBody body i → incoming_in body ≡ Ok i)

-- a body means just one thing, or it means nothing and has a first fault
abbrev pub BodiesMeanOneOrFail : Type 0
BodiesMeanOneOrFail = (body : List ℕ) → MatchResult (incoming_in body)
    (λ i. MeansBody body i × ((j : Incoming) → MeansBody body j → j ≡ i))
    (λ fault. IsTextFault fault × ((j : Incoming) → MeansBody body j → ⊥))

-- the text that the Primary signed has the whole manifest in it
abbrev pub SignedTextsMean : Type 0
SignedTextsMean = (body : List ℕ) (i : Incoming) → incoming_in body ≡ Ok i → manifest_of i.envelope.signed ≡ Some i.manifest

-- and the text that each ECU signed has its whole report in it
abbrev pub ReportTextsMean : Type 0
ReportTextsMean = (signed : List ℕ) (m : Manifest) → manifest_of signed ≡ Some m → AllByRecursion (λ r. report_of r.envelope.signed ≡ Some r.report) m.reports
