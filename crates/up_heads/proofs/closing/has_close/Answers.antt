use Rattle.std.proofs.Common.{◌≡◌, ◌||◌, ◌∙◌, ◌-◌, ◌+◌, true, List, ℕ, take, drop, sym, ap, arith}
use Rattle.std.proofs.lemmas.Bool.{ne_eqb}
use Rattle.std.proofs.lemmas.List.{take_rest}
use Rattle.up_heads.specs.Closing.{has_close, is_close}
use Rattle.up_heads.proofs.FieldLaws.{no_comma, inside_next, close_cut, close_one, or_false}
use Rattle.up_heads.proofs.closing.has_close.Goals as goal

pub loop-i-preserved-then-value-i-ne44 : goal.loop-i-preserved-then-value-i-ne44
loop-i-preserved-then-value-i-ne44 c = record {
  begun = omega (arith, c.loop-i.invariant.begun);
  same = c.loop-i.invariant.same;
  inside = inside_next c.args.value.now c.loop-i.start c.loop-i.i c.loop-i.invariant.begun c.loop-i-test.true c.loop-i.invariant.inside (ne_eqb _ 44 c.if-value-i-ne44.true);
}

pub returns-then-is_close : goal.returns-then-is_close
returns-then-is_close c =
    sym (sym c.loop-i.invariant.same ∙ close_cut c.args.value.now c.loop-i.start c.loop-i.i c.loop-i.invariant.begun c.loop-i-test.true c.if-value-i-ne44.false c.loop-i.invariant.inside
    ∙ ap (λ b. b || has_close (drop (c.loop-i.i + 1) c.args.value.now)) (sym c.is_close.ensures ∙ c.if-is_close.true))

-- nothing of the next member
none_yet : (value : List ℕ) (i : ℕ) → no_comma (take (i - i) (drop i value)) ≡ true
none_yet value i = let none : i - i ≡ 0 = omega arith in ap (λ n. no_comma (take n (drop i value))) none

pub loop-i-preserved : goal.loop-i-preserved
loop-i-preserved c = record {
  begun = omega arith;
  same = sym (sym c.loop-i.invariant.same ∙ close_cut c.args.value.now c.loop-i.start c.loop-i.i c.loop-i.invariant.begun c.loop-i-test.true c.if-value-i-ne44.false c.loop-i.invariant.inside
      ∙ ap (λ b. b || has_close (drop (c.loop-i.i + 1) c.args.value.now)) (sym c.is_close.ensures ∙ c.if-is_close.false));
  inside = none_yet c.args.value.now (c.loop-i.i + 1);
}

pub returns : goal.returns
returns c =
    let all : take (c.loop-i.i - c.loop-i.start) (drop c.loop-i.start c.args.value.now) ≡ drop c.loop-i.start c.args.value.now =
    ap (λ n. take n (drop c.loop-i.start c.args.value.now)) (omega (arith, c.loop-i-test.false)) ∙ take_rest c.args.value.now c.loop-i.start in
    c.is_close-2.ensures ∙ ap is_close (take_rest c.args.value.now c.loop-i.start)
    ∙ sym (sym c.loop-i.invariant.same ∙ close_one (drop c.loop-i.start c.args.value.now) (ap no_comma (sym all) ∙ c.loop-i.invariant.inside) ∙ or_false (is_close (drop c.loop-i.start c.args.value.now)))
