use Rattle.up_curve.proofs.Curve.{add_point, add_associative, add_comm, add_neutral, neutral_point, order_of_base}
use Rattle.up_curve.proofs.Negated.{negated_point, add_negated}
use Rattle.up_curve.proofs.Order.{order_number}
use Rattle.up_curve.proofs.laws.curve_laws.Goals as goal

pub returns-clause-group : goal.returns-clause-group
returns-clause-group c = record {
  closed = add_point;
  associative = add_associative;
  commutative = add_comm;
  neutral_is_point = neutral_point;
  adds_nothing = add_neutral;
  negated_is_point = negated_point;
  cancels = add_negated;
}

pub returns-clause-order : goal.returns-clause-order
returns-clause-order c = order_of_base

pub returns-clause-prime : goal.returns-clause-prime
returns-clause-prime c = order_number
