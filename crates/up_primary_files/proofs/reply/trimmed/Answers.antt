use Rattle.up_primary_files.proofs.Standing.{trimmed_stands}
use Rattle.up_primary_files.proofs.reply.trimmed.Goals as goal

-- src/reply.rt:217:1
pub returns-in-Ok : goal.returns-in-Ok
returns-in-Ok c = trimmed_stands c.args.bytes.now c.in-Ok.text.now c.trim_ascii.result.now c.trim_ascii.ensures.value.0 c.in-Ok.ensures.cases.0 c.trim_ascii.ensures.value.1
