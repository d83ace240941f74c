use Rattle.up_machine.specs.declared.decision.Delivered.{Delivered}
use Rattle.up_machine.specs.declared.rows.VehicleRows.{VehicleRows}
use Rattle.up_machine.proofs.Senders.{refused_first}
use Rattle.up_records.specs.Senders.{refused_by}
use Rattle.up_records.proofs.Cataloged.{can_more}
use Rattle.up_records.proofs.SentBy.{passed_on, refused_on}
use Rattle.up_records.proofs.Sessions.{clean_on, decided_then, inside_then, refused_then}
use Rattle.up_records.proofs.deciding.decide_founded.Goals as goal

pub returns-in-Ok-clause-decided : goal.returns-in-Ok-clause-decided
returns-in-Ok-clause-decided g c inside =
    decided_then g.D.Store (g.K.Scheme.rules c.args.scheme.now) (c.in-Ok.ensures.sent inside)
    (λ clean s sound is sees gives. record { kept = c.in-Ok.ensures.leaves.of inside clean s sees is; from = gives }) inside c.decide_sent.ensures

pub returns-in-Ok-clause-leaves : goal.returns-in-Ok-clause-leaves
returns-in-Ok-clause-leaves g c =
    let left = c.in-Ok.ensures.leaves in
    record {
      more = left.more;
      of = λ inside clean s sees is. left.of inside (clean_on g.D.Store (c.decide_sent.ensures (inside_then g.D.Store (c.in-Ok.ensures.sent inside) inside)).step clean) s sees is;
      came = λ inside clean s sees is. left.came inside (clean_on g.D.Store (c.decide_sent.ensures (inside_then g.D.Store (c.in-Ok.ensures.sent inside) inside)).step clean) s sees is;
      unread = passed_on (refused_by (g.K.Scheme.rules c.args.scheme.now) c.args.catalog.now.primaries c.args.incoming.now)
          (c.args.tx.now.conn, c.args.catalog.now) (c.read_sender.new.tx.conn, c.read_sender.new.catalog) c.in-Ok.rows _ left.unread;
    }

pub returns-in-Err-clause-decided : goal.returns-in-Err-clause-decided
returns-in-Err-clause-decided g c inside =
    let k = g.K.Scheme.rules c.args.scheme.now in
    refused_then g.D.Store k (c.in-Err.ensures.sent inside) (λ s is. refused_first k s c.args.at c.args.incoming.now c.in-Err.refusal is)

pub returns-in-Err-clause-leaves : goal.returns-in-Err-clause-leaves
returns-in-Err-clause-leaves g c =
    let left = c.in-Err.ensures.leaves in
    record {
      more = left.more;
      of = left.of;
      came = left.came;
      unread = refused_on VehicleRows Delivered (refused_by (g.K.Scheme.rules c.args.scheme.now) c.args.catalog.now.primaries c.args.incoming.now)
          (c.args.tx.now.conn, c.args.catalog.now) (c.read_sender.new.tx.conn, c.read_sender.new.catalog) c.in-Err.refusal left.unread;
    }

pub read_sender-requires : goal.read_sender-requires
read_sender-requires g c = c.requires.can.keys

pub decide_sent-requires-clause-hashed : goal.decide_sent-requires-clause-hashed
decide_sent-requires-clause-hashed g c = (can_more (g.K.Scheme.rules c.args.scheme.now) c.args.catalog.now c.read_sender.new.catalog c.read_sender.ensures.leaves.more c.requires.can).hashed
