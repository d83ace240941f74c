use Rattle.std.proofs.Common.{string_bytes}
use Rattle.up_tables.specs.Tables.{ecu_table}
use Rattle.up_tables.specs.Texts.{find_owner_text}
use Rattle.up_tables.proofs.OwnerLemmas.{ecu_owned, owner_queried}
use Rattle.up_tables.proofs.StoredLemmas.{asked_as}
use Rattle.up_tables.proofs.ecu.ecu_owner.Goals as goal

pub returns : goal.returns
returns g c =
    owner_queried g.S.Store (λ s. string_bytes s) find_owner_text c.args.ecu.now ecu_table _ _ c.one_text.result (ecu_owned c.args.ecu.now)
    (asked_as g.S.Store (λ v. v.items) _ _ _ _ _ _ c.query_all.result c.one_text.result c.query_all.ensures.same_reference c.query_all.ensures.survives (rw c.words.ensures at c.query_all.ensures.ok) (rw c.words.ensures at c.query_all.ensures.err)
    c.one_text.ensures.ok c.one_text.ensures.fault c.one_text.ensures.kinds)
