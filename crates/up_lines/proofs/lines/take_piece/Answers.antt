use Rattle.std.proofs.Common.{false, [], ◌∷◌, ◌++◌, refl, append_assoc, sym, ap, ◌∙◌, arith}
use Rattle.std.proofs.lemmas.Result.{IfErr-weaker}
use Rattle.up_lines.specs.Lines.{newline}
use Rattle.up_lines.specs.Progress.{Stops, Takes}
use Rattle.up_lines.proofs.Steps.{on_ok, step_ends, takes_after, takes_empty, takes_none, takes_piece}
use Rattle.up_lines.proofs.Stopping.{stops_piece, stops_rest}
use Rattle.up_lines.proofs.Blaming.{blames_part}
use Rattle.up_lines.proofs.lines.take_piece.Goals as goal

pub loop-behind-init : goal.loop-behind-init
loop-behind-init g c = ([], refl, takes_none g.I.Interpret.gives g.met.I.Interpret.composes c.args.progress.now _, refl)

pub loop-behind-preserved : goal.loop-behind-preserved
loop-behind-preserved g c =
    let (front, is, taken, same) = c.loop-behind.invariant in
    let (empty, room, begins) = c.in-Some.ensures in (
      front ++ newline ∷ [],
      is ∙ ap (λ l. front ++ l) begins ∙ sym (append_assoc front (newline ∷ []) c.in-Some.behind.now),
      takes_after g.I.Interpret.gives g.met.I.Interpret.composes front (newline ∷ []) c.args.progress.now c.loop-behind.progress _ _ _ _ taken
          (takes_empty g.I.Interpret.gives g.met.I.Interpret.composes c.loop-behind.progress _ _ empty room refl refl refl),
      same,
    )

pub returns-in_err-take_bytes : goal.returns-in_err-take_bytes
returns-in_err-take_bytes g c =
    let (front, is, taken, same) = c.loop-behind.invariant in
    let cause = c.in_err-take_bytes.field-0.0 in
    step_ends (Takes g.I.Interpret.gives c.args.piece.now) (λ cause. Stops g.I.Interpret.gives cause false c.args.piece.now) _ _ _ _ _ _ c.from_residual.result cause c.from_residual.ensures.1
    (stops_rest g.I.Interpret.gives g.met.I.Interpret.composes front c.loop-behind.rest.now c.args.piece.now cause c.args.progress.now c.loop-behind.progress c.take_bytes.new.progress _ _ is taken c.in_err-take_bytes.ensures.err)
    (omega (arith, same, c.in_err-take_bytes.ensures.err.0))
    (blames_part cause c.loop-behind.rest.now c.loop-behind.progress _ _ c.in_err-take_bytes.ensures.err.1 c.requires.can_write)

pub returns : goal.returns
returns g c =
    let (front, is, taken, same) = c.loop-behind.invariant in
    let grows = c.in_ok-take_bytes.ensures.ok in
    record {
      ok = on_ok c.answer_whole.result
          (takes_piece g.I.Interpret.gives g.met.I.Interpret.composes front c.loop-behind.rest.now c.args.piece.now c.args.progress.now c.loop-behind.progress c.take_bytes.new.progress c.answer_whole.new.progress _ _ is c.requires.few taken grows)
          c.answer_whole.ensures.ok;
      err = IfErr-weaker c.answer_whole.result _ _
          (λ cause. stops_piece g.I.Interpret.gives g.met.I.Interpret.composes cause front c.loop-behind.rest.now c.args.piece.now c.args.progress.now c.loop-behind.progress c.take_bytes.new.progress c.answer_whole.new.progress _ _ is taken grows)
          c.answer_whole.ensures.err;
      grows = omega (arith, same, grows.answered_is, c.answer_whole.ensures.grows);
      goes_on = c.answer_whole.ensures.goes_on;
      blames = c.answer_whole.ensures.blames;
    }
