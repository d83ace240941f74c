-- The second hash of the image that an ECU reported last. No column of its own keeps it: the text of the report has it.
use Rattle.std.specs.Prelude.{◌≡◌, option_and_then}
use Rattle.up_manifest.specs.Manifests.{report_sha512_of}
use Rattle.up_machine.specs.declared.rows.EcuRow.{EcuRow}

-- the image has the second hash that the report's text has; before a first report there is neither
abbrev pub TellsItsHash : EcuRow → Type 0
TellsItsHash row = option_and_then (λ i. i.sha512) row.installed ≡ option_and_then report_sha512_of row.report
