use Rattle.up_tables.proofs.StoredLemmas.{asked_as}
use Rattle.up_tables.proofs.statement.find_value.Goals as goal

pub returns : goal.returns
returns g c =
    asked_as g.S.Store (λ v. v.items) _ _ _ _ _ _ c.query_all.result c.one_value.result c.query_all.ensures.same_reference c.query_all.ensures.survives c.query_all.ensures.ok c.query_all.ensures.err
    c.one_value.ensures.ok c.one_value.ensures.fault c.one_value.ensures.kinds
