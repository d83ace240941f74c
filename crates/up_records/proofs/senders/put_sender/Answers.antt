use Rattle.std.proofs.Common.{◌≡◌, ◌+◌, ◌≤◌, sym, ◌∙◌, subst, arith}
use Rattle.std.specs.FinMap as table
use Rattle.up_canon.specs.Names.{Table}
use Rattle.up_machine.specs.declared.primary.Primary.{Primary}
use Rattle.up_records.specs.Catalogs.{ArePrimaries, Come, StayKept}
use Rattle.up_records.proofs.Cataloged.{are_more, come_none, come_one, one_kept, put_or_not, stay_more}
use Rattle.up_records.proofs.senders.put_sender.Goals as goal

pub returns-clause-of : goal.returns-clause-of
returns-clause-of c = λ s is are.
    let kept = c.args.kept.now in
    put_or_not (ArePrimaries s) c.insert.result kept c.insert.new.self _ c.insert.ensures.ok c.insert.ensures.err are
    (subst (λ name. ArePrimaries s (table.insert kept name c.in-Some.primary)) (sym (c.in_ok-text_of.ensures ∙ c.text.ensures.value))
    (are_more s kept c.args.vehicle.now c.in-Some.primary (sym (c.in_ok-primary.ensures s c.args.vehicle.now is) ∙ c.in-Some.is) are))

pub returns-clause-stay : goal.returns-clause-stay
returns-clause-stay c =
    let kept = c.args.kept.now in
    put_or_not (StayKept kept) c.insert.result kept c.insert.new.self _ c.insert.ensures.ok c.insert.ensures.err (λ vehicle primary there. there)
    (subst (λ name. StayKept kept (table.insert kept name c.in-Some.primary)) (sym (c.in_ok-text_of.ensures ∙ c.text.ensures.value))
    (stay_more kept c.args.vehicle.now c.in-Some.primary c.requires))

pub returns-clause-one : goal.returns-clause-one
returns-clause-one c =
    let kept = c.args.kept.now in
    put_or_not (λ now. table.len now ≤ table.len kept + 1) c.insert.result kept c.insert.new.self _ c.insert.ensures.ok c.insert.ensures.err (omega arith)
    (one_kept kept _ c.in-Some.primary)

pub returns-clause-came : goal.returns-clause-came
returns-clause-came c =
    let kept = c.args.kept.now in
    let Comes : Table Primary → Type 0 = Come (λ name primary. name ≡ c.args.vehicle.now) kept in
    put_or_not Comes c.insert.result kept c.insert.new.self _ c.insert.ensures.ok c.insert.ensures.err (come_none (λ name primary. name ≡ c.args.vehicle.now) kept)
    (subst (λ name. Comes (table.insert kept name c.in-Some.primary)) (sym (c.in_ok-text_of.ensures ∙ c.text.ensures.value))
    (come_one kept c.args.vehicle.now c.in-Some.primary))
