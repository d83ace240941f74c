use Rattle.std.proofs.Common.{◌≡◌, ◌*◌, ◌%◌, sym, ◌∙◌, ap, arith, Some}
use Rattle.up_curve.specs.Field.{p}
use Rattle.up_field.specs.Points.{number}
use Rattle.up_field.proofs.Steps.{candidate, root_of, picked_first, picked_second, picked_none}
use Rattle.up_field.proofs.decode.root.Goals as goal

pub returns-then-are_same : goal.returns-then-are_same
returns-then-are_same c = λ a b hu hv.
    let e : number c.candidate_of-c.result ≡ candidate a b = c.candidate_of-c.ensures.value a b hu hv in
    record {
      is =
          ap (root_of a b) (sym e)
          ∙ picked_first (number c.mul-w.result) (number c.args.u) (number c.args.v) (number c.square-s.result) (number c.candidate_of-c.result) a b
          c.mul-w.ensures c.square-s.ensures hu hv (sym c.are_same.ensures ∙ c.if-are_same.true);
      reduced = c.candidate_of-c.ensures.limit;
    }

pub returns-then-is_zero : goal.returns-then-is_zero
returns-then-is_zero c = λ a b hu hv.
    let e : number c.candidate_of-c.result ≡ candidate a b = c.candidate_of-c.ensures.value a b hu hv in
    record {
      is =
          ap (root_of a b) (sym e)
          ∙ picked_second (number c.mul-w.result) (number c.args.u) (number c.args.v) (number c.square-s.result) (number c.candidate_of-c.result) a b (number c.add.result)
          c.mul-w.ensures c.square-s.ensures hu hv c.add.ensures (sym c.are_same.ensures ∙ c.if-are_same.false) (sym c.is_zero.ensures ∙ c.if-is_zero.true)
          ∙ ap Some (sym (c.canonical-r.ensures ∙ c.mul-n.ensures ∙ ap (λ z. (number c.candidate_of-c.result * z) % p) c.root_of_minus_one.ensures));
      reduced = record { below = omega (arith, c.canonical-r.ensures) };
    }

pub returns : goal.returns
returns c = λ a b hu hv.
    let e : number c.candidate_of-c.result ≡ candidate a b = c.candidate_of-c.ensures.value a b hu hv in
    ap (root_of a b) (sym e)
    ∙ picked_none (number c.mul-w.result) (number c.args.u) (number c.args.v) (number c.square-s.result) (number c.candidate_of-c.result) a b (number c.add.result)
    c.mul-w.ensures c.square-s.ensures hu hv c.add.ensures (sym c.are_same.ensures ∙ c.if-are_same.false) (sym c.is_zero.ensures ∙ c.if-is_zero.false)
