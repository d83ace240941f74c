-- The form in which Primaries write manifests, as it is read without a tree of their values.
use Rattle.std.specs.Prelude.{◌≡◌, ℕ, ◌≤◌, ◌++◌, ◌&&◌, ◌||◌, ◌==◌, List, not, Bool, IsTrue, length, map, codes}
use Rattle.std.specs.List.{list_all}
use Rattle.up_canon.specs.Build.{list_with}
use Rattle.up_canon.specs.Canon.{max_count, is_printable, text}
use Rattle.up_canon.specs.Names.{is_ident}
use Rattle.up_sign.specs.Formats.{signature_fits, signature_value}
use Rattle.up_sign.specs.Schemes.{is_byte}
use Rattle.up_sign.specs.declared.envelope.Signature.{Signature}
use Rattle.up_manifest.specs.Building.{AreReportEnvelopes}
use Rattle.up_manifest.specs.Manifests.{most_reports}
use Rattle.up_manifest.specs.declared.report.SignedReport.{SignedReport}
use Rattle.up_manifest.specs.declared.manifest.Manifest.{Manifest}

-- ---- texts

-- a byte that stands for itself in a text in quotes: printable ASCII but the quote and the backslash
abbrev pub is_direct : ℕ → Bool
is_direct x = is_printable x && not ((x == 34) || (x == 92))

-- ---- envelopes and reports

-- an envelope's text up to what is signed
abbrev pub signatures_text : List Signature → List ℕ
signatures_text ss = codes "{\"signatures\":" ++ text (list_with (map signature_value ss)) ++ codes ",\"signed\":"

-- one signature within the limits, of bytes
pub record IsOneSignature (ss : List Signature) : Type 0 where
  pub one : length ss ≡ 1
  pub fits : IsTrue (list_all signature_fits ss)
  pub bytes : IsTrue (list_all (λ s. list_all is_byte s.sig) ss)

-- each with the envelope that is signed over its text
abbrev pub AreReports : List SignedReport → Type 0
AreReports rs = AreReportEnvelopes (map (λ r. r.envelope) rs) (map (λ r. r.report) rs)

-- ---- manifests

-- the limits of a manifest and of its reports
pub record ManifestFits (m : Manifest) : Type 0 where
  pub vehicle : IsTrue (is_ident m.vehicle)
  pub primary : IsTrue (is_ident m.primary)
  pub least : 1 ≤ m.counter
  pub most : m.counter ≤ max_count
  pub few : length m.reports ≤ most_reports
  pub reports : AreReports m.reports
