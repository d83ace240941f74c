use Rattle.std.proofs.Common.{◌⊎◌, inr, ◌≡◌, ◌≤◌, ◌+◌, ◌-◌, ◌++◌, ◌∙◌, ℕ, List, [], true, false, length, take, drop, refl, sym, ap, subst, arith, length-append, length-drop, append_assoc, append-nil}
use Rattle.std.proofs.lemmas.List.{length-take-le}
use Rattle.std.specs.Prelude.{Option}
use Rattle.std.specs.Io.KnownBytes.{Consumes}
use Rattle.std.proofs.KnownBytes.{Consumes-nil, Consumes-trans, Consumes-kept}
use Rattle.up_lines.specs.Runs.{At, LastRead}
use Rattle.up_http.specs.Serving.{WantsMore, piece_bytes}
use Rattle.up_http.specs.Steps.{Sofar}
use Rattle.up_http.proofs.ServeLaws.{fresh, nearer, piece_left, last_read, read_later, room_left, ran_end, ran_failed, ran_over, ran_passed}
use Rattle.up_http.proofs.Blaming.{blames_all, stands_all}
use Rattle.up_http.proofs.serving.serve_reads.Goals as goal

pub loop-progress-init : goal.loop-progress-init
loop-progress-init g c =
    let first : At g.row.S.Denot = record { state = c.args.state.now; held = g.W.Sink.contents c.args.writer.now } in
    let so : Sofar (g.A.Respond.gives c.args.responder.now) first [] c.args.progress.now first =
    fresh (g.A.Respond.gives c.args.responder.now) first c.args.progress.now c.requires.fresh.talk c.requires.fresh.none_called c.requires.fresh.none_answered in (
      [],
      Consumes-nil _,
      so,
      omega arith,
      omega arith,
      omega arith,
      omega arith,
      c.requires.can_read,
      c.requires.can_write,
      last_read (g.A.Respond.gives c.args.responder.now) first [] [] [] false c.args.progress.now first c.args.progress.now.answered so (ap (λ t. t.fed.ended) c.requires.fresh.talk) (omega arith) refl (omega arith) (λ h. absurd (cc)),
    )

-- the length of what is left of a piece
left : (xs : List ℕ) (at filled : ℕ) → at ≤ filled → filled ≤ length xs → length (take (filled - at) (drop at xs)) ≡ filled - at
left xs at filled h k = length-take-le (filled - at) (drop at xs) (omega (arith, length-drop at xs))

pub loop-progress-smaller-then-at-filled : goal.loop-progress-smaller-then-at-filled
loop-progress-smaller-then-at-filled g c = let (came, read, so, budget, inside, within, room, can_read, can_write, last) = c.loop-progress.invariant in
    nearer c.loop-progress.most c.loop-progress.at c.loop-progress.filled c.in_ok-taken.taken c.loop-progress.progress.talk.fed.given c.serve_piece.new.progress.talk.fed.given _ c.if-at-filled.true
    (left c.loop-progress.buffer c.loop-progress.at c.loop-progress.filled inside within) c.in_ok-taken.ensures.ok.0.0 c.in_ok-taken.ensures.ok.0.1

pub loop-progress-preserved-then-at-filled : goal.loop-progress-preserved-then-at-filled
loop-progress-preserved-then-at-filled g c = let (came, read, so, budget, inside, within, room, can_read, can_write, last) = c.loop-progress.invariant in
    let n = c.in_ok-taken.taken in
    let piece = take (c.loop-progress.filled - c.loop-progress.at) (drop c.loop-progress.at c.loop-progress.buffer) in
    let long : length piece ≡ c.loop-progress.filled - c.loop-progress.at = left c.loop-progress.buffer c.loop-progress.at c.loop-progress.filled inside within in
    let few : n ≤ length piece = c.in_ok-taken.ensures.ok.0.0 in
    let some : length (take n piece) ≡ n = length-take-le n piece few in
    let behind = take (c.loop-progress.filled - (c.loop-progress.at + n)) (drop (c.loop-progress.at + n) c.loop-progress.buffer) in
    let same : came ++ piece ≡ (came ++ take n piece) ++ behind =
    ap (λ l. came ++ l) (sym (piece_left c.loop-progress.buffer c.loop-progress.at c.loop-progress.filled n (omega arith))) ∙ sym (append_assoc came (take n piece) behind) in (
      came ++ take n piece,
      subst (Consumes (g.R.Source.remaining c.args.reader.now) (g.R.Source.remaining c.loop-progress.reader)) same read,
      c.in_ok-taken.ensures.ok.1 _ came so,
      omega (arith, budget, some, few, long, length-append came (take n piece)),
      omega (arith, few, long),
      within,
      room,
      can_read,
      c.in_ok-taken.ensures.goes_on,
      read_later _ _ _ c.in_ok-taken.ensures.grows (subst (λ l. LastRead piece_bytes (WantsMore c.loop-progress.progress.answered) l false) same last),
    )

-- nothing is left of the piece, and more was read
consumed_more : (had mid has : Option (List ℕ)) (came piece more : List ℕ) (k : ℕ) → k ≡ 0 → Consumes had mid (came ++ take k piece) → Consumes mid has more → Consumes had has (came ++ more)
consumed_more had mid has came piece more k none p q =
    Consumes-trans had mid has came more (subst (Consumes had mid) (append-nil came) (subst (λ k. Consumes had mid (came ++ take k piece)) none p)) q

pub loop-progress-preserved : goal.loop-progress-preserved
loop-progress-preserved g c = let (came, read, so, budget, inside, within, room, can_read, can_write, last) = c.loop-progress.invariant in
    let n = c.in-Ok.n in
    let none : c.loop-progress.filled - c.loop-progress.at ≡ 0 = omega (arith, c.if-at-filled.false) in
    let goes_on : c.loop-progress.progress.talk.fed.ended ≡ false = sym c.loop-progress.progress.ends ∙ c.loop-progress-test.true in
    let fits : n ≤ length c.read_piece.new.buffer = c.in-Ok.ensures.count.0 in
    let few : n ≤ c.loop-progress.most = c.in-Ok.ensures.count.1 in
    let long : length (take n c.read_piece.new.buffer) ≡ n = length-take-le n c.read_piece.new.buffer fits in
    let size : length c.read_piece.new.buffer ≡ piece_bytes = c.read_piece.auto.buffer ∙ room in
    let whole : came ++ take n c.read_piece.new.buffer ≡ came ++ take (n - 0) c.read_piece.new.buffer = ap (λ k. came ++ take k c.read_piece.new.buffer) (omega arith) in (
      came,
      subst (Consumes (g.R.Source.remaining c.args.reader.now) (g.R.Source.remaining c.read_piece.new.reader)) whole
          (consumed_more _ (g.R.Source.remaining c.loop-progress.reader) _ came (drop c.loop-progress.at c.loop-progress.buffer) (take n c.read_piece.new.buffer) (c.loop-progress.filled - c.loop-progress.at) none read c.in-Ok.ensures.bytes),
      so,
      omega (arith, budget, none, few),
      omega arith,
      fits,
      size,
      c.in-Ok.ensures.goes_on (omega arith),
      can_write,
      last_read (g.A.Respond.gives c.args.responder.now) _ came (take n c.read_piece.new.buffer) _ false c.loop-progress.progress _ _ so goes_on (omega arith) (sym whole) (omega (arith, long, fits, size)) (λ h. absurd (cc)),
    )

-- nothing is left of the piece, and nothing was read
consumed_none : (had mid has : Option (List ℕ)) (came piece buffer : List ℕ) (k n : ℕ) → k ≡ 0 → n ≡ 0 → Consumes had mid (came ++ take k piece) → Consumes mid has (take n buffer) → Consumes had has came
consumed_none had mid has came piece buffer k n none none' p q =
    subst (Consumes had has) (append-nil (came ++ []) ∙ append-nil came)
    (Consumes-trans had mid has (came ++ []) [] (subst (λ k. Consumes had mid (came ++ take k piece)) none p) (subst (λ n. Consumes mid has (take n buffer)) none' q))

pub returns-in-Ok-eq0-clause-ran : goal.returns-in-Ok-eq0-clause-ran
returns-in-Ok-eq0-clause-ran g c = let (came, read, so, budget, inside, within, room, can_read, can_write, last) = c.loop-progress.invariant in
    let none : c.loop-progress.filled - c.loop-progress.at ≡ 0 = omega (arith, c.if-at-filled.false) in
    let goes_on : c.loop-progress.progress.talk.fed.ended ≡ false = sym c.loop-progress.progress.ends ∙ c.loop-progress-test.true in
    let below = room_left (g.A.Respond.gives c.args.responder.now) _ came c.loop-progress.progress _ so goes_on in
    ran_end (g.A.Respond.gives c.args.responder.now) c.finish.result _ _ (g.R.Source.remaining c.args.reader.now) (g.R.Source.remaining c.read_piece.new.reader) came c.loop-progress.progress _ c.finish.new.progress
    (consumed_none _ (g.R.Source.remaining c.loop-progress.reader) _ came (drop c.loop-progress.at c.loop-progress.buffer) c.read_piece.new.buffer (c.loop-progress.filled - c.loop-progress.at) c.in-Ok-eq0.field-0 none c.in-Ok-eq0.field-0-test read c.in-Ok-eq0.ensures.bytes)
    (omega (arith, below)) (c.in-Ok-eq0.ensures.end c.in-Ok-eq0.field-0-test (omega (arith, below, budget, none)) (omega (arith, room))) so c.finish.ensures.ok c.finish.ensures.err goes_on c.finish.ensures.grows

pub returns-in_err-taken-clause-ran : goal.returns-in_err-taken-clause-ran
returns-in_err-taken-clause-ran g c = let (came, read, so, budget, inside, within, room, can_read, can_write, last) = c.loop-progress.invariant in
    let piece = take (c.loop-progress.filled - c.loop-progress.at) (drop c.loop-progress.at c.loop-progress.buffer) in
    ran_passed (g.A.Respond.gives c.args.responder.now) c.from_residual.result c.in_err-taken.field-0.0 _ _ _ _ (came ++ piece) c.serve_piece.new.progress c.from_residual.ensures.1 read
    (omega (arith, budget, left c.loop-progress.buffer c.loop-progress.at c.loop-progress.filled inside within, length-append came piece)) (c.in_err-taken.ensures.err _ came so)
    (read_later _ _ _ c.in_err-taken.ensures.grows last)

pub returns-in-Err-clause-ran : goal.returns-in-Err-clause-ran
returns-in-Err-clause-ran g c = let (came, read, so, budget, inside, within, room, can_read, can_write, last) = c.loop-progress.invariant in
    let none : c.loop-progress.filled - c.loop-progress.at ≡ 0 = omega (arith, c.if-at-filled.false) in
    let goes_on : c.loop-progress.progress.talk.fed.ended ≡ false = sym c.loop-progress.progress.ends ∙ c.loop-progress-test.true in
    ran_failed (g.A.Respond.gives c.args.responder.now) _ _ _ _ came c.loop-progress.progress
    (Consumes-kept _ (g.R.Source.remaining c.loop-progress.reader) _ came
    (consumed_none _ _ _ came (drop c.loop-progress.at c.loop-progress.buffer) [] (c.loop-progress.filled - c.loop-progress.at) 0 none refl read (Consumes-nil _)) c.in-Err.ensures.err)
    (omega (arith, budget)) goes_on so

pub returns-clause-ran : goal.returns-clause-ran
returns-clause-ran g c = let (came, read, so, budget, inside, within, room, can_read, can_write, last) = c.loop-progress.invariant in
    let piece = take (c.loop-progress.filled - c.loop-progress.at) (drop c.loop-progress.at c.loop-progress.buffer) in
    let ended : c.loop-progress.progress.talk.fed.ended ≡ true = sym c.loop-progress.progress.ends ∙ c.loop-progress-test.false in
    ran_over (g.A.Respond.gives c.args.responder.now) _ _ _ _ came piece c.loop-progress.progress read
    (omega (arith, budget, left c.loop-progress.buffer c.loop-progress.at c.loop-progress.filled inside within, length-append came piece)) ended so last

pub returns-in-Ok-eq0-clause-ends : goal.returns-in-Ok-eq0-clause-ends
returns-in-Ok-eq0-clause-ends g c = let (came, read, so, budget, inside, within, room, can_read, can_write, last) = c.loop-progress.invariant in
    let none : c.loop-progress.filled - c.loop-progress.at ≡ 0 = omega (arith, c.if-at-filled.false) in
    let goes_on : c.loop-progress.progress.talk.fed.ended ≡ false = sym c.loop-progress.progress.ends ∙ c.loop-progress-test.true in
    let below = room_left (g.A.Respond.gives c.args.responder.now) _ came c.loop-progress.progress _ so goes_on in
    let ended : g.R.Source.has_ended c.read_piece.new.reader = c.in-Ok-eq0.ensures.ended c.in-Ok-eq0.field-0-test (omega (arith, below, budget, none)) (omega (arith, room)) in
    record {
      goes_on = c.finish.ensures.goes_on;
      ended = stands_all c.finish.result (inr ended);
      blames = blames_all c.finish.result (g.R.Source.has_failed c.read_piece.new.reader) (g.R.Source.can_read c.read_piece.new.reader ⊎ g.R.Source.has_ended c.read_piece.new.reader)
          (g.W.Sink.has_failed c.finish.new.writer) (g.W.Sink.can_write c.finish.new.writer) (inr ended) c.finish.ensures.blames;
    }
