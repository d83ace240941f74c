-- What the row of an ECU says.
use Rattle.std.proofs.Common.{◌≡◌, ℕ, List, Option, None, Some, IsUtf8, refl, subst, sym}
use Rattle.up_manifest.specs.declared.report.Installed.{Installed}
use Rattle.up_store.proofs.Common.{IfSome, option_and_then, Row, column, EcuRow, ecu_shown, IsTextOrNull, SaysEcu, SaysInstalled, reported_sha512, IsToldEcu, IsTypedInstalled}
use Rattle.up_store.proofs.KindsOfTexts.{file_name, ident, utf8}

-- the row that is written for an ECU says it, and where another row is that one, it says so too
shown_says : (y : EcuRow) → IsToldEcu y → SaysEcu (ecu_shown y) y
shown_says y fit = record {
  ecu = (refl, utf8 y.ecu (ident y.ecu fit.0.ecu));
  hardware = (refl, utf8 y.hardware (ident y.hardware fit.0.hardware));
  public = refl;
  installed = by_installed y.installed fit.0.installed;
  counter = refl;
  report = by_report y.report fit.0.report;
  sha512 = by_hash y.installed fit.1;
}
  where
    by_installed : (o : Option Installed) → IfSome o IsTypedInstalled → SaysInstalled (ecu_shown (record y { installed = o })) o
    by_installed None typed = (refl, refl, refl)
    by_installed (Some i) typed = ((refl, utf8 i.file (file_name i.file typed.file)), refl, refl)

    by_report : (o : Option (List ℕ)) → IfSome o IsUtf8 → IsTextOrNull (column (ecu_shown (record y { report = o })) 7) o
    by_report None is = refl
    by_report (Some t) is = (refl, is)

    by_hash : (o : Option Installed) → option_and_then (λ (i : Installed). i.sha512) o ≡ reported_sha512 y.report → IfSome o (λ i. i.sha512 ≡ reported_sha512 y.report)
    by_hash None is = tt
    by_hash (Some i) is = is

pub line_says : (row : Row) (y : EcuRow) → IsToldEcu y → row ≡ ecu_shown y → SaysEcu row y
line_says row y fit same = subst (λ r. SaysEcu r y) (sym same) (shown_says y fit)
