use Rattle.std.proofs.Common.{ap, subst, sym, ◌∙◌, IsUtf8}
use Rattle.std.proofs.lemmas.Str.{IsUtf8-string_bytes}
use Rattle.up_store.proofs.Common.{Text}
use Rattle.up_store.proofs.column_values.words_at.Goals as goal

pub returns-in-Ok-clause-ok : goal.returns-in-Ok-clause-ok
returns-in-Ok-clause-ok c = (c.in-Ok.ensures.ok ∙ ap (λ t. Text t) (sym c.new.ensures), subst IsUtf8 (sym c.new.ensures) (IsUtf8-string_bytes c.in-Ok.text))
