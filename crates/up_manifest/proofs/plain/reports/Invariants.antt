use Rattle.std.proofs.Common.{◌≡◌, ◌∷◌, ◌++◌, ◌-◌, length, map, vec_len}
use Rattle.std.specs.List.{join_with_byte}
use denote.Shadow.{shadow}
use denote.Text.{Utf8}
use Rattle.up_canon.proofs.Joined.{separator_after}
use Rattle.up_sign.specs.Formats.{envelope_text}
use Rattle.up_manifest.specs.Plain.{AreReports}
use Rattle.up_manifest.proofs.plain.reports.Given as goal

-- a bracket and the reports so far stand in front of the rest
abbrev pub invariant-reports : goal.invariant-reports
invariant-reports l = record {
  utf8 : shadow (Utf8 l.separator);
  text : l.fn.cursor.rest.now ≡ 91 ∷ (join_with_byte 44 (map (λ r. envelope_text r.envelope) l.reports.items) ++ l.cursor.rest.now);
  separator : l.separator ≡ separator_after l.reports.items;
  fits : AreReports l.reports.items;
  counted : vec_len l.reports ≡ length l.reports.items;
}

abbrev pub decreases-reports : goal.decreases-reports
decreases-reports l = 65 - vec_len l.reports
