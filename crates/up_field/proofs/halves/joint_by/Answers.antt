use Rattle.std.proofs.Common.{◌≡◌, ℕ, ◌+◌, ◌*◌, ◌-◌, ◌^◌, sym, ◌∙◌, ap, subst, arith, List, length}
use Rattle.up_curve.specs.Curve.{base, multiple, neutral}
use Rattle.up_curve.specs.LittleEndian.{number}
use Rattle.up_curve.proofs.Curve.{base_point, multiple_point}
use Rattle.up_field.specs.Points.{Writes}
use Rattle.up_field.proofs.Pairs.{moved, differs-none, differs-twice, differs-far, differs-first, differs-second, differs-all}
use Rattle.up_field.proofs.Scattered.{scattered, halves, halves-none, halves-more, halves-all}
use Rattle.up_field.proofs.halves.joint_by.Goals as goal

pub loop-i-init : goal.loop-i-init
loop-i-init c = record {
  lies = λ m h k. record {
    at = neutral;
    lies = c.without_t-r.ensures _ c.neutral.ensures;
    differs = moved m base h base_point
        (sym (halves-none c.scatter-x.result.plus (omega arith))) (sym (halves-none c.scatter-y.result.plus (omega arith)))
        (sym (halves-none c.scatter-x.result.minus (omega arith))) (sym (halves-none c.scatter-y.result.minus (omega arith)))
        (differs-none m base h base_point);
  };
}

pub by_point-requires : goal.by_point-requires
by_point-requires c = record {
  plus = c.scatter-x.ensures.plus.each (128 - c.loop-i.i);
  minus = c.scatter-x.ensures.minus.each (128 - c.loop-i.i);
}

pub by_point-requires-in-loop-i : goal.by_point-requires-in-loop-i
by_point-requires-in-loop-i c = record {
  plus = c.scatter-x.ensures.plus.each (257 - c.loop-i.i);
  minus = c.scatter-x.ensures.minus.each (257 - c.loop-i.i);
}

pub by_base-requires : goal.by_base-requires
by_base-requires c = record {
  plus = c.scatter-y.ensures.plus.each (128 - c.loop-i.i);
  minus = c.scatter-y.ensures.minus.each (128 - c.loop-i.i);
}

pub by_base-requires-in-loop-i : goal.by_base-requires-in-loop-i
by_base-requires-in-loop-i c = record {
  plus = c.scatter-y.ensures.plus.each (257 - c.loop-i.i);
  minus = c.scatter-y.ensures.minus.each (257 - c.loop-i.i);
}

once : (s a b t : ℕ) → 2 * s + a + b ≡ t → 2 * s + 1 * a + b ≡ t
once s a b t h = omega (arith, h)

pub loop-i-preserved : goal.loop-i-preserved
loop-i-preserved c = record {
  lies = λ m h k.
      let g = c.loop-i.invariant.lies m h k in
      let s = c.by_point.ensures m _ h k.low (c.doubled-s.ensures _ g.lies) in
      let t = c.by_point-in-loop-i.ensures (multiple (2 ^ 129) m) _ (multiple_point (2 ^ 129) m h) k.high s in
      let u = c.by_base.ensures 1 _ c.odd_table.ensures t in
      let v = c.by_base-in-loop-i.ensures (2 ^ 129) _ c.far_table.ensures u in
      let d = differs-twice m base h base_point g.at _ _ _ _ g.differs in
      let e = differs-first m base h base_point _ _ _ _ _ _ _ d in
      let f = differs-far m base h base_point (2 ^ 129) _ _ _ _ _ _ _ e in
      let x = differs-second m base h base_point _ _ _ _ _ _ _ f in
      let y = differs-second m base h base_point _ _ _ _ _ _ _ x in
      record {
        at = _;
        lies = c.flat-r.ensures _ v;
        differs = moved m base h base_point
            (halves-more c.scatter-x.result.plus (omega arith) c.loop-i.i (omega arith))
            (once _ _ _ _ (halves-more c.scatter-y.result.plus (omega arith) c.loop-i.i (omega arith)))
            (halves-more c.scatter-x.result.minus (omega arith) c.loop-i.i (omega arith))
            (once _ _ _ _ (halves-more c.scatter-y.result.minus (omega arith) c.loop-i.i (omega arith)))
            y;
      };
}

-- all digits
all_of : (ds : List ℕ) (i : ℕ) → length ds ≡ 258 → i ≡ 129 → halves ds i ≡ scattered ds
all_of ds i l e = ap (halves ds) e ∙ halves-all ds l

pub returns : goal.returns
returns c = λ m h k.
    let e : c.loop-i.i ≡ 129 = omega arith in
    let g = c.loop-i.invariant.lies m h k in
    let x = c.scatter-x.ensures.value ∙ ap (λ z. z + scattered c.scatter-x.result.minus) (c.in_words.ensures ∙ c.from_bytes.ensures.value) in
    let y = c.scatter-y.ensures.value ∙ ap (λ z. z + scattered c.scatter-y.result.minus) (c.in_words-2.ensures ∙ c.from_bytes-2.ensures.value) in
    subst (Writes c.extended.result)
    (differs-all m base h base_point g.at (number c.args.k.now) (number c.args.s.now) (scattered c.scatter-x.result.minus) (scattered c.scatter-y.result.minus)
    (moved m base h base_point
    (all_of c.scatter-x.result.plus c.loop-i.i (omega arith) e ∙ x) (all_of c.scatter-y.result.plus c.loop-i.i (omega arith) e ∙ y)
    (all_of c.scatter-x.result.minus c.loop-i.i (omega arith) e) (all_of c.scatter-y.result.minus c.loop-i.i (omega arith) e) g.differs))
    (c.extended.ensures _ g.lies)
