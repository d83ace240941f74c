use Rattle.std.proofs.Common.{ap, sym, ◌∙◌, arith}
use Rattle.std.specs.List.{list_all}
use Rattle.std.proofs.lemmas.Grind.{common_steps}
use Rattle.std.proofs.lemmas.List.Folds.{list_all_more}
use Rattle.up_canon.specs.Canon.{text}
use Rattle.up_sign.specs.Formats.{signature_value}
use Rattle.up_canon.proofs.Joined.{separator_more, joined_more, listed_text}
use Rattle.up_canon.proofs.Printable.{both}
use Rattle.up_sign.specs.Schemes.{is_byte}
use Rattle.up_sign.proofs.writing.push_signatures.Goals as goal

pub loop-signature-preserved : goal.loop-signature-preserved
loop-signature-preserved c =
    let more = joined_more (λ s. text (signature_value s)) c.args.signatures.now c.loop-signature.signature-index c.signature-item.result (omega arith) in
    record {
      written = grind (arith, common_steps, more);
      bytes = list_all_more (λ s. list_all is_byte s.sig) c.args.signatures.now c.loop-signature.signature-index c.signature-item.result (omega arith)
          ∙ both _ _ c.loop-signature.invariant.bytes (ap (λ s. list_all is_byte s.sig) (sym c.signature-item.is) ∙ c.in_ok-push_signature.ensures.bytes);
      separator = separator_more c.args.signatures.now c.loop-signature.signature-index c.signature-item.result (omega arith);
    }

pub returns : goal.returns
returns c = let all = listed_text signature_value c.args.signatures.now in grind (arith, common_steps, all)
