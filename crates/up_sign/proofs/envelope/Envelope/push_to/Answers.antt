use Rattle.std.proofs.Common.{List, ◌++◌, map, ap, arith, string_bytes}
use Rattle.std.specs.Prelude.{codes}
use Rattle.up_canon.specs.Build.{list_with}
use Rattle.up_canon.specs.Canon.{text}
use Rattle.up_sign.specs.declared.envelope.Signature.{Signature}
use Rattle.up_sign.specs.Formats.{signature_value}
use Rattle.up_canon.proofs.Joined.{pushed, pushed_as}
use Rattle.up_sign.proofs.envelope.Envelope.push_to.Goals as goal

pub returns-clause-value : goal.returns-clause-value
unfolding Rattle.up_sign.specs.Formats.envelope_text
returns-clause-value c =
    let e = c.args.self.now in
    let o = string_bytes c.args.out.now in
    let a = codes "{\"signatures\":" in
    let s = text (list_with (map signature_value e.signatures)) in
    let b = codes ",\"signed\":" in
    let signatures = pushed_as _ _ _ s (ap (λ (xs : List Signature). text (list_with (map signature_value xs))) c.as_slice.ensures) c.in_ok-push_signatures.ensures.value in
    let signed = pushed_as _ _ _ e.signed c.as_str.ensures c.in_ok-push_str-3.ensures.bytes in
    let end = pushed_as _ _ _ (codes "}") (c.in_ok-push.ensures.ascii (omega arith)) c.in_ok-push.ensures.bytes in
    pushed o _ _ (a ++ s ++ b ++ e.signed) (codes "}") (pushed o _ _ (a ++ s ++ b) e.signed (pushed o _ _ (a ++ s) b (pushed o _ _ a s c.in_ok-push_str.ensures.bytes signatures)
    c.in_ok-push_str-2.ensures.bytes) signed) end
