use Rattle.std.proofs.Common.{ap, subst, sym, ◌∙◌, IsUtf8}
use Rattle.std.proofs.lemmas.Str.{IsUtf8-string_bytes}
use Rattle.up_store.proofs.Common.{Text, on_ok}
use Rattle.up_store.proofs.KindsOfTexts.{ident}
use Rattle.up_store.proofs.column_values.ident_at.Goals as goal

pub returns-in-Ok-clause-ok : goal.returns-in-Ok-clause-ok
returns-in-Ok-clause-ok c =
    on_ok c.ident_in.result _ _ (λ name is. (c.in-Ok.ensures.ok ∙ ap (λ t. Text t) (sym is), subst IsUtf8 (sym is) (IsUtf8-string_bytes c.in-Ok.text))) c.ident_in.ensures.ok

pub returns-in-Err-clause-fault : goal.returns-in-Err-clause-fault
returns-in-Err-clause-fault c = λ is name typed same. let w = ident name typed in c.in-Err.ensures.fault is w.0 w.2 (same ∙ w.1)
