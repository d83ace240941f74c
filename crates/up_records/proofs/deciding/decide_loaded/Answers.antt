use Rattle.std.proofs.Common.{Err, Option, Some, refl, sym, subst}
use Rattle.std.specs.Prelude.{IfSome, ⊤}
use Rattle.up_canon.specs.declared.refusal.Refusal.TheVariants.{NotFounded}
use Rattle.up_machine.specs.declared.decision.Delivered.{Delivered}
use Rattle.up_machine.proofs.Senders.{no_founding, refused_first}
use Rattle.up_records.specs.declared.catalog.Catalog.{Catalog}
use Rattle.up_records.specs.Catalogs.{CanDecide, IsLoaded}
use Rattle.up_records.specs.Senders.{LeavesIn}
use Rattle.up_records.proofs.NeverStore.{never_delivered}
use Rattle.up_records.proofs.Sessions.{due_on, known_on, none_on}
use Rattle.up_records.proofs.deciding.decide_loaded.Goals as goal

pub returns-in-Some-clause-decided : goal.returns-in-Some-clause-decided
returns-in-Some-clause-decided g c inside = known_on g.D.Store (g.K.Scheme.rules c.args.scheme.now) (c.decide_founded.ensures.decided inside) (λ s loaded. subst (IsLoaded s) c.in-Some.is loaded)

pub returns-in-Some-clause-leaves : goal.returns-in-Some-clause-leaves
returns-in-Some-clause-leaves g c =
    subst (λ (o : Option Catalog). LeavesIn g.D.Store (g.K.Scheme.rules c.args.scheme.now) c.args.incoming.now o (Some c.decide_founded.new.catalog) c.args.tx.now.conn c.decide_founded.new.tx.conn c.decide_founded.result) (sym c.in-Some.is)
    c.decide_founded.ensures.leaves

pub decide_founded-requires-clause-can : goal.decide_founded-requires-clause-can
decide_founded-requires-clause-can g c = subst (λ o. IfSome o (CanDecide (g.K.Scheme.rules c.args.scheme.now))) c.in-Some.is c.requires.can

pub returns-in-None-clause-decided : goal.returns-in-None-clause-decided
returns-in-None-clause-decided g c inside =
    let k = g.K.Scheme.rules c.args.scheme.now in
    due_on g.D.Store (none_on g.D.Store {rules = λ _. ⊤} inside) k tt (λ s. never_delivered k s c.args.at c.args.incoming.now)
    (λ s sound loaded _. refused_first k s c.args.at c.args.incoming.now NotFounded (no_founding k s c.args.incoming.now (subst (IsLoaded s) c.in-None.is loaded)))

pub returns-in-None-clause-leaves : goal.returns-in-None-clause-leaves
returns-in-None-clause-leaves g c =
    subst (λ (o : Option Catalog). LeavesIn {A = Delivered} g.D.Store (g.K.Scheme.rules c.args.scheme.now) c.args.incoming.now o o c.args.tx.now.conn c.args.tx.now.conn (Err NotFounded)) (sym c.in-None.is)
    (record { refused = refl; unread = refl; none = refl })
