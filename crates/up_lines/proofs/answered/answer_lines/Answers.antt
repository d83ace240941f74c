use Rattle.std.proofs.Common.{◌∙◌, ◌++◌, [], ap, sym, subst, refl, arith, take, append_assoc, length-append}
use Rattle.std.proofs.lemmas.Grind.{common_steps}
use Rattle.std.specs.Io.KnownBytes.{Appends}
use Rattle.std.proofs.KnownBytes.{Appends-nil, Appends-trans}
use Rattle.std.proofs.lemmas.List.{length-take-le}
use Rattle.up_lines.specs.Together.{bytes_of}
use Rattle.up_lines.proofs.RunLaws.{printed-append}
use Rattle.up_lines.proofs.Together.{all_written, each_ends, halts_behind, length-bytes_of, rest_length, split_bytes}
use Rattle.up_lines.proofs.answered.answer_lines.Goals as goal

pub loop-rest-init : goal.loop-rest-init
loop-rest-init g c = ([], refl, [], g.met.I.Interpret.composes.none _, Appends-nil _, c.requires.none, omega (arith, c.requires.none), c.requires.can_write)

pub loop-rest-preserved : goal.loop-rest-preserved
loop-rest-preserved g c =
    let (done, is, texts, run, wrote, count, total, can) = c.loop-rest.invariant in
    let (some, within, (more, gave, then)) = c.in_ok-n.ensures.ok in
    let n = c.in_ok-n.n in
    let rest = c.loop-rest.rest.now in (
      done ++ take n (bytes_of rest),
      is ∙ ap (λ l. done ++ l) (split_bytes n rest) ∙ sym (append_assoc done (take n (bytes_of rest)) _),
      texts ++ more,
      g.met.I.Interpret.composes.both _ _ _ _ _ _ _ run gave,
      subst (Appends (g.W.Sink.contents c.args.writer.now) (g.W.Sink.contents c.answer_some.new.writer)) (sym (printed-append texts more)) (Appends-trans _ _ _ _ _ wrote then),
      omega (arith, count, length-append texts more, g.met.I.Interpret.composes.each _ _ _ _ gave, length-take-le n (bytes_of rest) within),
      omega (arith, total, rest_length n rest within),
      c.in_ok-n.ensures.goes_on,
    )

pub returns-in_err-n : goal.returns-in_err-n
returns-in_err-n g c =
    let (done, is, texts, run, wrote, count, total, can) = c.loop-rest.invariant in
    let cause = c.in_err-n.field-0.0 in
    each_ends g.I.Interpret.gives g.met.I.Interpret.composes (bytes_of c.args.lines.now) c.loop-rest.answered _ _ _ _ c.from_residual.result cause c.from_residual.ensures.1
    (halts_behind g.I.Interpret.gives g.met.I.Interpret.composes cause (bytes_of c.args.lines.now) done (bytes_of c.loop-rest.rest.now) texts c.loop-rest.answered _
    (record { state = c.loop-rest.state; held = g.W.Sink.contents c.loop-rest.writer }) _ is run wrote count c.in_err-n.ensures.err)
    (omega (arith, total, length-bytes_of c.args.lines.now)) c.in_err-n.ensures.blames

pub returns : goal.returns
returns g c =
    let (done, is, texts, run, wrote, count, total, can) = c.loop-rest.invariant in
    record {
      ok = all_written g.I.Interpret.gives g.met.I.Interpret.composes (bytes_of c.args.lines.now) done (bytes_of c.loop-rest.rest.now) texts c.loop-rest.answered _ _ is
          (grind (arith, common_steps, length-bytes_of c.loop-rest.rest.now, c.is_empty.ensures, c.loop-rest-test.false)) run wrote count;
      err = tt;
      few = omega (arith, total, length-bytes_of c.args.lines.now);
      goes_on = can;
      blames = tt;
    }
