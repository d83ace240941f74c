use Rattle.std.proofs.Common.{◌≡◌, ℕ, ◌+◌, ◌*◌, ◌-◌, sym, ◌∙◌, ap, subst, arith, List, drop}
use Rattle.up_curve.specs.Curve.{base, neutral}
use Rattle.up_curve.specs.LittleEndian.{number}
use Rattle.up_curve.proofs.Curve.{base_point}
use Rattle.up_field.specs.Points.{Writes}
use Rattle.up_field.proofs.Pairs.{moved, differs-none, differs-twice, differs-first, differs-second, differs-all}
use Rattle.up_field.proofs.Scattered.{scattered, last-more}
use Rattle.up_field.proofs.joint.joint.Goals as goal

start : (ds : List ℕ) (n : ℕ) → scattered (drop n ds) ≡ 0 → 0 ≡ scattered (drop (n - 0) ds)
start ds n h = sym (ap (λ z. scattered (drop z ds)) (let z : n - 0 ≡ n = omega arith in z) ∙ h)

pub loop-i-init : goal.loop-i-init
loop-i-init c = record {
  lies = λ m h. record {
    at = neutral;
    lies = c.without_t-r.ensures _ c.neutral.ensures;
    differs = moved m base h.point base_point
        (start c.scatter-x.result.plus c.top-n.result c.top-n.ensures.ends.0.first) (start c.scatter-y.result.plus c.top-n.result c.top-n.ensures.ends.0.second)
        (start c.scatter-x.result.minus c.top-n.result c.top-n.ensures.ends.1.first) (start c.scatter-y.result.minus c.top-n.result c.top-n.ensures.ends.1.second)
        (differs-none m base h.point base_point);
  };
}

pub by_point-requires : goal.by_point-requires
by_point-requires c = record {
  plus = c.scatter-x.ensures.plus.each (c.top-n.result - 1 - c.loop-i.i);
  minus = c.scatter-x.ensures.minus.each (c.top-n.result - 1 - c.loop-i.i);
}

pub by_base-requires : goal.by_base-requires
by_base-requires c = record {
  plus = c.scatter-y.ensures.plus.each (c.top-n.result - 1 - c.loop-i.i);
  minus = c.scatter-y.ensures.minus.each (c.top-n.result - 1 - c.loop-i.i);
}

once : (s a t : ℕ) → 2 * s + a ≡ t → 2 * s + 1 * a ≡ t
once s a t h = omega (arith, h)

pub loop-i-preserved : goal.loop-i-preserved
loop-i-preserved c = record {
  lies = λ m h.
      let g = c.loop-i.invariant.lies m h in
      let a = c.by_point.ensures m _ h.point (c.odd_multiples-multiples.ensures m h) (c.doubled-s.ensures _ g.lies) in
      let b = c.by_base.ensures 1 _ c.odd_table.ensures a in
      let d = differs-twice m base h.point base_point g.at _ _ _ _ g.differs in
      let e = differs-first m base h.point base_point _ _ _ _ _ _ _ d in
      let f = differs-second m base h.point base_point _ _ _ _ _ _ _ e in
      record {
        at = _;
        lies = c.flat-r.ensures _ b;
        differs = moved m base h.point base_point
            (last-more c.scatter-x.result.plus c.top-n.result c.loop-i.i (omega arith) (omega arith))
            (once _ _ _ (last-more c.scatter-y.result.plus c.top-n.result c.loop-i.i (omega arith) (omega arith)))
            (last-more c.scatter-x.result.minus c.top-n.result c.loop-i.i (omega arith) (omega arith))
            (once _ _ _ (last-more c.scatter-y.result.minus c.top-n.result c.loop-i.i (omega arith) (omega arith)))
            f;
      };
}

-- all digits
all_of : (ds : List ℕ) (n i : ℕ) → i ≡ n → scattered (drop (n - i) ds) ≡ scattered ds
all_of ds n i e = ap (λ z. scattered (drop z ds)) (let z : n - i ≡ 0 = omega (arith, e) in z)

pub returns : goal.returns
returns c = λ m h.
    let e : c.loop-i.i ≡ c.top-n.result = omega arith in
    let g = c.loop-i.invariant.lies m h in
    let x = c.scatter-x.ensures.value ∙ ap (λ z. z + scattered c.scatter-x.result.minus) (c.in_words.ensures ∙ c.from_bytes.ensures.value) in
    let y = c.scatter-y.ensures.value ∙ ap (λ z. z + scattered c.scatter-y.result.minus) (c.in_words-2.ensures ∙ c.from_bytes-2.ensures.value) in
    subst (Writes c.extended.result)
    (differs-all m base h.point base_point g.at (number c.args.k.now) (number c.args.s.now) (scattered c.scatter-x.result.minus) (scattered c.scatter-y.result.minus)
    (moved m base h.point base_point
    (all_of c.scatter-x.result.plus c.top-n.result c.loop-i.i e ∙ x) (all_of c.scatter-y.result.plus c.top-n.result c.loop-i.i e ∙ y)
    (all_of c.scatter-x.result.minus c.top-n.result c.loop-i.i e) (all_of c.scatter-y.result.minus c.top-n.result c.loop-i.i e) g.differs))
    (c.extended.ensures _ g.lies)
