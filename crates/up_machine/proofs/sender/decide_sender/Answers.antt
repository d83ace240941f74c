use Rattle.std.proofs.Common.{sym, ap, ◌∙◌, rules}
use Rattle.std.specs.Prelude.{option_copied}
use Rattle.up_machine.proofs.Senders.{no_founding, no_vehicle, not_sent, is_sent, sender_outright, sender_refused}
use Rattle.up_machine.proofs.sender.decide_sender.Goals as goal

pub returns-in_default : goal.returns-in_default
returns-in_default g c = record {
  from = λ s founding vehicle. no_founding (g.K.Scheme.rules c.args.scheme.now) s c.args.incoming.now (sym founding ∙ ap option_copied c.in_default.is);
  can = tt;
  memory = search rules;
  passed = tt;
  given = tt;
}

pub returns-in_default-vehicle : goal.returns-in_default-vehicle
returns-in_default-vehicle g c = record {
  from = λ s founding vehicle. no_vehicle (g.K.Scheme.rules c.args.scheme.now) s c.args.incoming.now c.in-Some.founding.now
      (sym founding ∙ ap option_copied c.in-Some.is) (sym vehicle ∙ ap option_copied c.in_default-vehicle.is);
  can = tt;
  memory = search rules;
  passed = tt;
  given = tt;
}

pub returns-in_err-check_primary : goal.returns-in_err-check_primary
returns-in_err-check_primary g c =
    let k = g.K.Scheme.rules c.args.scheme.now in record {
      from = λ s founding vehicle.
          sender_refused k s c.args.incoming.now c.from_residual.result c.in_err-check_primary.field-0.0 c.from_residual.ensures.1
          (not_sent k s c.args.incoming.now c.in-Some.founding.now c.in-Some-vehicle.vehicle.now c.in_err-check_primary.field-0.0
          (sym founding ∙ ap option_copied c.in-Some.is) (sym vehicle ∙ ap option_copied c.in-Some-vehicle.is) (sym c.in_err-check_primary.ensures));
      can = search rules;
      memory = λ memory. sender_outright k c.args.incoming.now c.in-Some-vehicle.vehicle.now c.from_residual.result c.in_err-check_primary.field-0.0 c.from_residual.ensures.1 memory (sym c.in_err-check_primary.ensures);
      passed = search rules;
      given = search rules;
    }

pub returns : goal.returns
returns g c =
    let k = g.K.Scheme.rules c.args.scheme.now in record {
      from = λ s founding vehicle.
          is_sent k s c.args.incoming.now _ c.in_ok-check_primary.field-0
          (sym founding ∙ ap option_copied c.in-Some.is) (sym vehicle ∙ ap option_copied c.in-Some-vehicle.is) (sym c.in_ok-check_primary.ensures);
      can = search rules;
      memory = search rules;
      passed = search rules;
      given = search rules;
    }
