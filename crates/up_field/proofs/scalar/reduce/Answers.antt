use Rattle.std.proofs.Common.{◌≡◌, ℕ, ◌+◌, ◌-◌, ◌%◌, List, drop, get_or, sym, ◌∙◌, ap, arith}
use Rattle.std.proofs.lemmas.List.{drop_all}
use Rattle.up_field.specs.Limbs.{number_of}
use Rattle.up_field.proofs.Digits.{written, written-drop, written-nil, horner}
use Rattle.up_curve.specs.Curve.{order}
use Rattle.up_field.proofs.scalar.reduce.Goals as goal

pub loop-i-init : goal.loop-i-init
loop-i-init c =
    let e : written (drop 10 c.args.digits.now) ≡ 0 = ap written (drop_all 10 c.args.digits.now (omega arith)) ∙ written-nil in
    let z = c.zero-r.ensures.limit in
    record { value = c.zero-r.ensures.value ∙ sym (ap (λ z. z % order) e); limit = record { l0 = z.l0; l1 = z.l1; l2 = z.l2; l3 = z.l3; l4 = z.l4; below = omega (arith, c.zero-r.ensures.value) } }

pub folded-requires : goal.folded-requires
folded-requires c = record {
  acc = c.loop-i.invariant.limit;
  digit = c.requires.each (9 - c.loop-i.i);
}

pub loop-i-preserved : goal.loop-i-preserved
loop-i-preserved c =
    let ds : List ℕ = c.args.digits.now in
    let k = written-drop ds (9 - c.loop-i.i) (omega arith) in
    let x : written (drop (9 - c.loop-i.i + 1) ds) ≡ written (drop (10 - c.loop-i.i) ds) = ap (λ z. written (drop z ds)) (omega arith) in
    let y : written (drop (10 - (c.loop-i.i + 1)) ds) ≡ written (drop (9 - c.loop-i.i) ds) = ap (λ z. written (drop z ds)) (omega arith) in
    record {
      value =
          horner (number_of c.reduced-r.result) (number_of c.loop-i.r) (get_or ds (9 - c.loop-i.i) 0) (written (drop (10 - c.loop-i.i) ds)) (written (drop (10 - (c.loop-i.i + 1)) ds))
          c.reduced-r.ensures.limit.below (c.reduced-r.ensures.value ∙ c.folded.ensures.value) c.loop-i.invariant.value (omega (arith, k, x, y));
      limit = c.reduced-r.ensures.limit;
    }

pub returns : goal.returns
returns c =
    let ds : List ℕ = c.args.digits.now in
    let e : 10 - c.loop-i.i ≡ 0 = omega arith in
    record { value = c.loop-i.invariant.value ∙ ap (λ z. written (drop z ds) % order) e; limit = c.loop-i.invariant.limit }
