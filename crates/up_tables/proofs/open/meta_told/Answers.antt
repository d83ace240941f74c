use Rattle.up_tables.proofs.NamedLemmas.{told_rows}
use Rattle.up_tables.proofs.open.meta_told.Goals as goal

pub returns-in-Ok-clause-told : goal.returns-in-Ok-clause-told
returns-in-Ok-clause-told c =
    told_rows (λ rows. rows.items) c.args.found c.in-Ok.rows c.version_named.result c.in-Ok.is (rw c.deref.ensures.value at c.version_named.ensures.some) (rw c.deref.ensures.value at c.version_named.ensures.none)
