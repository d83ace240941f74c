use Rattle.std.proofs.Common.{ap, sym, subst, ◌∙◌, take}
use Rattle.std.specs.Prelude.{is_none}
use Rattle.up_roles.specs.Targets.{ecus_of, repeats_ecu, IsSeen}
use Rattle.up_roles.proofs.Repeats.{ecu-passes, ecu-found, ecus-more, is_new, is_old}
use Rattle.up_roles.proofs.targets.has_distinct_ecus.Goals as goal

pub loop-target-preserved : goal.loop-target-preserved
loop-target-preserved c =
    let targets = c.args.targets.now in
    let i = c.loop-target.target-index in
    let added = c.in_ok-adds_ecu.ensures (ecus_of (take i targets)) c.loop-target.invariant.seen in
    let new = is_new c.in_ok-adds_ecu.field-0 (repeats_ecu (ecus_of (take i targets)) c.target-item.result.ecu) added.0 c.if-not-branch.false in
    record {
      seen = subst (IsSeen c.adds_ecu.new.seen) (ecus-more targets i c.target-item.result c.loop-target-test.true c.target-item.is) added.1;
      rest = ecu-passes targets i c.target-item.result c.loop-target-test.true c.target-item.is new ∙ c.loop-target.invariant.rest;
    }

pub returns-then-not-branch : goal.returns-then-not-branch
returns-then-not-branch c =
    let targets = c.args.targets.now in
    let i = c.loop-target.target-index in
    let added = c.in_ok-adds_ecu.ensures (ecus_of (take i targets)) c.loop-target.invariant.seen in
    let old = is_old c.in_ok-adds_ecu.field-0 (repeats_ecu (ecus_of (take i targets)) c.target-item.result.ecu) added.0 c.if-not-branch.true in
    sym (ap is_none (sym c.loop-target.invariant.rest) ∙ ecu-found targets i c.target-item.result c.loop-target-test.true c.target-item.is old)
