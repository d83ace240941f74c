use Rattle.up_primary_files.proofs.Standing.{in_range}
use Rattle.up_primary_files.proofs.reply.piece.Goals as goal

-- src/reply.rt:208:1
pub returns : goal.returns
returns c = in_range (λ s. s.now) c.args.bytes.now c.in_ok-span.span.now c.in_ok-behind.behind.now c.args.from c.args.to c.in_ok-behind.field-0-0.now c.trimmed.result
    c.in_ok-span.ensures.lookup.0.2 c.in_ok-behind.ensures.cases.0 c.trimmed.ensures
