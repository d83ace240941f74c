use Rattle.std.proofs.Common.{ap, inl, inr}
use Rattle.up_canon.specs.Steps.{or_error}
use Rattle.up_canon.specs.declared.refusal.Refusal.TheVariants.{NotJson}
use Rattle.up_canon.proofs.JsonTexts.{value_in-some, value_in-none}
use Rattle.up_canon.proofs.json_text.value_of.Goals as goal

pub returns-in-Ok : goal.returns-in-Ok
returns-in-Ok c = ap (or_error NotJson) (value_in-some _ _ c.in-Ok.ensures.ok.0 c.in-Ok.ensures.ok.1)

pub returns-in-Err : goal.returns-in-Err
returns-in-Err c = elim c.fault_of.ensures [
  | inl p ↦ rw p.1 tt
  | inr p ↦ rw p.1 (ap (or_error NotJson) (value_in-none _ (c.in-Err.ensures.err p.0)))
]
