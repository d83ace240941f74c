-- The rows of a vehicle's ECUs tell the second hashes that the texts of their last reports have.
use Rattle.std.proofs.Common.{◌≡◌, ℕ, List, [], ◌∷◌, Option, Some, None, map, refl, sym, ap}
use Rattle.std.specs.Prelude.{option_map, option_and_then, bytes_eq}
use Rattle.std.specs.List.{AllByRecursion}
use Rattle.up_canon.specs.Names.{Name}
use Rattle.up_manifest.specs.declared.manifest.Manifest.{Manifest}
use Rattle.up_manifest.specs.declared.report.SignedReport.{SignedReport}
use Rattle.up_manifest.specs.Laws.{ReportTextsMean}
use Rattle.up_manifest.specs.Manifests.{manifest_of, report_of as read_report, report_sha512_of}
use Rattle.up_machine.specs.declared.vehicle.NewEcu.{NewEcu}
use Rattle.up_machine.specs.Rows.{ecu_row}
use Rattle.up_machine.specs.State.{Entry, Vehicle, newest, report_of, last_report}
use Rattle.up_machine.proofs.Installing.{found_is}
use Rattle.up_rows.specs.SecondHashes.{TellsItsHash}
use Rattle.up_rows.specs.Laws.{EcusTellTheirHash}

-- the text that the ECU signed is that of its report
abbrev IsReadAgain : SignedReport → Type 0
IsReadAgain r = read_report r.envelope.signed ≡ Some r.report

-- the last report is one of a manifest that was accepted, each of whose reports is read again from its text
last_read : ReportTextsMean → (v : Vehicle) (ecu : Name) (r : SignedReport) → last_report v ecu ≡ Some r → IsReadAgain r
unfolding last_report
last_read mean v ecu r last = by_newest (newest v.entries) last
  where
    by_manifest : (signed : List ℕ) (o : Option Manifest) → manifest_of signed ≡ o → option_and_then (λ (m : Manifest). report_of ecu m.reports) o ≡ Some r → IsReadAgain r
    by_manifest signed None is h = cc
    by_manifest signed (Some m) is h = found_is IsReadAgain (λ (r : SignedReport). bytes_eq r.report.ecu ecu) m.reports r (mean signed m is) h

    by_newest : (o : Option Entry) → option_and_then (λ (m : Manifest). report_of ecu m.reports) (option_and_then (λ (e : Entry). manifest_of e.signed) o) ≡ Some r → IsReadAgain r
    by_newest None h = cc
    by_newest (Some e) h = by_manifest e.signed (manifest_of e.signed) refl h

told_by : (o : Option SignedReport) → ((r : SignedReport) → o ≡ Some r → IsReadAgain r)
    → option_and_then (λ i. i.sha512) (option_map (λ (r : SignedReport). r.report.image) o) ≡ option_and_then report_sha512_of (option_map (λ (r : SignedReport). r.envelope.signed) o)
told_by None again = refl
told_by (Some r) again = sym (ap (option_and_then (λ r. r.image.sha512)) (again r refl))

each_tells : ReportTextsMean → (v : Vehicle) (ecus : List NewEcu) → AllByRecursion TellsItsHash (map (ecu_row v) ecus)
each_tells mean v [] = tt
each_tells mean v (e ∷ ecus) = (told_by (last_report v e.ecu) (last_read mean v e.ecu), each_tells mean v ecus)

pub ecus_tell : ReportTextsMean → EcusTellTheirHash
ecus_tell mean name v = each_tells mean v v.ecus
