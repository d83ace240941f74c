use Rattle.std.proofs.Common.{arith}
use Rattle.std.proofs.lemmas.Grind.{common_steps}
use Rattle.up_sign.specs.Formats.{envelope_text}
use Rattle.up_canon.proofs.Joined.{separator_more, joined_more}
use Rattle.up_manifest.proofs.writing.push_envelopes.Goals as goal

pub loop-envelope-preserved : goal.loop-envelope-preserved
loop-envelope-preserved c =
    let more = joined_more envelope_text c.args.envelopes.now c.loop-envelope.envelope-index c.envelope-item.result (omega arith) in
    record {
      written = grind (arith, common_steps, more);
      separator = separator_more c.args.envelopes.now c.loop-envelope.envelope-index c.envelope-item.result (omega arith);
    }
