use Rattle.std.proofs.Common.{ap, ◌∙◌}
use Rattle.std.proofs.lemmas.Result.{IfOk-weaker}
use Rattle.up_canon.specs.Canon.{has_canon, text}
use Rattle.up_roles.proofs.Oks.{on_ok}
use Rattle.up_roles.proofs.PlainFiles.{root-canon}
use Rattle.up_roles.proofs.root_text.root_signed.Goals as goal

pub canonical_text-requires : goal.canonical_text-requires
canonical_text-requires c = ap has_canon c.in_ok-payload.ensures.value ∙ root-canon c.args.file.now c.requires c.in_ok-payload.ensures.typed

pub returns-clause-value : goal.returns-clause-value
returns-clause-value c = IfOk-weaker c.canonical_text.result _ _ (λ t h. h ∙ ap text c.in_ok-payload.ensures.value) c.canonical_text.ensures

pub returns-clause-typed : goal.returns-clause-typed
returns-clause-typed c = on_ok c.canonical_text.result _ c.in_ok-payload.ensures.typed
