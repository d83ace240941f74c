use Rattle.std.proofs.Common.{◌⊎◌, inl, inr, ◌≡◌, ◌≤◌, ◌∙◌, ap, sym, ℕ, List, false, arith, refl, subst, [], ◌++◌, take, length, length-append, append-nil}
use Rattle.std.proofs.lemmas.Grind.{common_steps}
use Rattle.std.proofs.lemmas.List.{length-take-le}
use Rattle.std.specs.Prelude.{Option}
use Rattle.std.specs.Io.KnownBytes.{Consumes}
use Rattle.std.proofs.KnownBytes.{Consumes-nil, Consumes-trans, Consumes-kept}
use Rattle.up_lines.specs.declared.fault.ScriptCause.TheVariants.{Read}
use Rattle.up_lines.proofs.Ends.{fresh, last_read, ran_stop, ran_err, ran_on, stops_read}
use Rattle.up_lines.proofs.Steps.{on_ok}
use Rattle.up_lines.proofs.Blaming.{blames_all, blames_both, ends_early}
use Rattle.up_lines.proofs.lines.read_lines.Goals as goal

pub loop-most-init : goal.loop-most-init
loop-most-init g c = ([], Consumes-nil _, fresh g.I.Interpret.gives g.met.I.Interpret.composes _ c.args.progress.now c.requires.fresh, refl, omega arith, c.requires.can_read, c.requires.can_write)

pub loop-most-preserved : goal.loop-most-preserved
loop-most-preserved g c = let (came, read, so, budget, room, can_read, can_write) = c.loop-most.invariant in
    let within : c.in-Ok.n ≤ length c.read_piece.new.buffer = c.in-Ok.ensures.count.0 in
    let most : c.in-Ok.n ≤ c.loop-most.most = c.in-Ok.ensures.count.1 in
    let long : length (take c.in-Ok.n c.read_piece.new.buffer) ≡ c.in-Ok.n = length-take-le c.in-Ok.n c.read_piece.new.buffer within in (
      came ++ take c.in-Ok.n c.read_piece.new.buffer,
      Consumes-trans _ _ _ _ _ read c.in-Ok.ensures.bytes,
      c.in_ok-take_piece-in-Ok.ensures.ok _ came so,
      omega (arith, long, most, budget, length-append came (take c.in-Ok.n c.read_piece.new.buffer)),
      c.read_piece.auto.buffer ∙ room,
      c.in-Ok.ensures.goes_on (grind (arith, common_steps)),
      c.in_ok-take_piece-in-Ok.ensures.goes_on,
    )

pub returns-in_err-take_piece-in-Ok-clause-ran :
    goal.returns-in_err-take_piece-in-Ok-clause-ran
returns-in_err-take_piece-in-Ok-clause-ran g c = let (came, read, so, budget, room, can_read, can_write) = c.loop-most.invariant in
    let within : c.in-Ok.n ≤ length c.read_piece.new.buffer = c.in-Ok.ensures.count.0 in
    let most : c.in-Ok.n ≤ c.loop-most.most = c.in-Ok.ensures.count.1 in
    let long : length (take c.in-Ok.n c.read_piece.new.buffer) ≡ c.in-Ok.n = length-take-le c.in-Ok.n c.read_piece.new.buffer within in
    let cause = c.in_err-take_piece-in-Ok.field-0.0 in
    ran_stop g.I.Interpret.gives g.met.I.Interpret.composes c.from_residual.result cause _ _ _ _ (came ++ take c.in-Ok.n c.read_piece.new.buffer) c.take_piece.new.progress.answered
    c.from_residual.ensures.1 (Consumes-trans _ _ _ _ _ read c.in-Ok.ensures.bytes) (omega (arith, long, most, budget, length-append came (take c.in-Ok.n c.read_piece.new.buffer)))
    (c.in_err-take_piece-in-Ok.ensures.err _ came so (omega (arith, room, c.read_piece.auto.buffer, long, within)))
    (last_read g.I.Interpret.gives g.met.I.Interpret.composes _ came (take c.in-Ok.n c.read_piece.new.buffer) _ false c.loop-most.progress _ _ so c.take_piece.ensures.grows refl
    (omega (arith, room, c.read_piece.auto.buffer, long, within)) (λ h. absurd (cc)))

pub returns-in-Err-clause-ran : goal.returns-in-Err-clause-ran
returns-in-Err-clause-ran g c = let (came, read, so, budget, room, can_read, can_write) = c.loop-most.invariant in
    ran_err g.I.Interpret.gives g.met.I.Interpret.composes Read _ _ _ _ came c.loop-most.progress.answered (Consumes-kept _ _ _ _ read c.in-Err.ensures.err) (omega (arith, budget))
    (stops_read g.I.Interpret.gives g.met.I.Interpret.composes _ came c.loop-most.progress _ so)
    (last_read g.I.Interpret.gives g.met.I.Interpret.composes _ came [] came false c.loop-most.progress _ _ so (omega arith) (sym (append-nil came)) (omega arith) (λ h. absurd (cc)))

-- nothing was read at the end
consumed_none : (had mid has : Option (List ℕ)) (came : List ℕ) (n : ℕ) (buffer : List ℕ) → n ≡ 0 → Consumes had mid came → Consumes mid has (take n buffer) → Consumes had has came
consumed_none had mid has came n buffer none p q =
    subst (Consumes had has) (ap (λ k. came ++ take k buffer) none ∙ append-nil came) (Consumes-trans had mid has came (take n buffer) p q)

pub returns-in-Ok-eq0-clause-ran : goal.returns-in-Ok-eq0-clause-ran
returns-in-Ok-eq0-clause-ran g c = let (came, read, so, budget, room, can_read, can_write) = c.loop-most.invariant in
    ran_on g.I.Interpret.gives g.met.I.Interpret.composes c.finish.result _ _ (g.R.Source.remaining c.args.reader.now) (g.R.Source.remaining c.read_piece.new.reader) came c.loop-most.progress _ c.finish.new.progress
    (consumed_none _ (g.R.Source.remaining c.loop-most.reader) _ came c.in-Ok-eq0.field-0 c.read_piece.new.buffer c.in-Ok-eq0.field-0-test read c.in-Ok-eq0.ensures.bytes)
    (omega (arith, budget)) (c.in-Ok-eq0.ensures.end c.in-Ok-eq0.field-0-test c.loop-most-test.true (omega (arith, room))) so c.finish.ensures.ok c.finish.ensures.err c.finish.ensures.grows

pub returns-in-Ok-eq0-clause-ends : goal.returns-in-Ok-eq0-clause-ends
returns-in-Ok-eq0-clause-ends g c = let (came, read, so, budget, room, can_read, can_write) = c.loop-most.invariant in
    let ended : g.R.Source.has_ended c.read_piece.new.reader = c.in-Ok-eq0.ensures.ended c.in-Ok-eq0.field-0-test c.loop-most-test.true (omega (arith, room)) in
    record {
      goes_on = c.finish.ensures.goes_on;
      ended = on_ok c.finish.result (λ _. ended) c.finish.ensures.goes_on;
      blames = blames_all c.finish.result (g.R.Source.has_failed c.read_piece.new.reader) (g.R.Source.can_read c.read_piece.new.reader ⊎ g.R.Source.has_ended c.read_piece.new.reader)
          (g.W.Sink.has_failed c.finish.new.writer) (g.W.Sink.can_write c.finish.new.writer) (inr ended) c.finish.ensures.blames;
    }

pub returns-in_err-take_piece-in-Ok-clause-ends :
    goal.returns-in_err-take_piece-in-Ok-clause-ends
returns-in_err-take_piece-in-Ok-clause-ends g c =
    let cause = c.in_err-take_piece-in-Ok.field-0.0 in
    ends_early _ _ _ _ _ c.from_residual.result cause c.from_residual.ensures.1
    (blames_both cause (g.R.Source.has_failed c.read_piece.new.reader) (g.R.Source.can_read c.read_piece.new.reader ⊎ g.R.Source.has_ended c.read_piece.new.reader)
    (g.W.Sink.has_failed c.take_piece.new.writer) (g.W.Sink.can_write c.take_piece.new.writer)
    (inl (c.in-Ok.ensures.goes_on (grind (arith, common_steps)))) c.in_err-take_piece-in-Ok.ensures.blames)
