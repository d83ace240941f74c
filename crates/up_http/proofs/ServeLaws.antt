-- How far a run has come, step by step.
use Rattle.std.proofs.Common.{OnOk, IfErr, ◌-◌, ◌≡◌, ◌⊎◌, inl, inr, ℕ, suc, ◌+◌, ◌*◌, ◌<◌, ◌≤◌, Bool, true, false, List, [], ◌∷◌, ◌++◌, length, take, drop, filter, Result, Ok, Err, refl, sym, ap, ◌∙◌, subst, arith, append_assoc, append-nil, length-append}
use Rattle.std.specs.Prelude.{Option, Some, None, IfSome, IsErrAnd}
use Rattle.std.specs.Io.KnownBytes.{Appends, Consumes, IsAtEnd}
use Rattle.std.proofs.KnownBytes.{Appends-nil, Appends-trans}
use Rattle.std.proofs.lemmas.List.Elements.{filter-append}
use Rattle.std.proofs.lemmas.Result.{err_from_is_err_and}
use Rattle.std.proofs.Math.Seq.{take-take, drop-drop, take-add}
use Rattle.up_http.specs.Requests.{First, Firsts, most_requests, most_request}
use Rattle.up_http.specs.Feeding.{Waits}
use Rattle.up_lines.specs.Runs.{At, BreaksOff, HasRead, LastRead, Run, listed, written}
use Rattle.up_lines.specs.declared.fault.ScriptCause.TheVariants as why
use Rattle.up_http.specs.Serving.{Gives, plain, is_call, calls, cause_of, IsBegun, AreFirst, WantsMore, Tells, Stopped, FinishedRequests, RanRequests, RunsRequests, AnswersFirst, most_bytes, piece_bytes}
use Rattle.up_http.specs.Talks.{silent}
use Rattle.up_http.specs.Steps.{AnswersNext, IsQuiet, Sofar, Takes, TakesStep, Stops, Unanswered, Completes, told, fault_at}
use Rattle.up_http.specs.declared.asked.Next.{Next}
use Rattle.up_http.specs.declared.fault.Fault.{Fault}
use Rattle.up_http.specs.declared.fault.ServeFault.{ServeFault}
use Rattle.up_http.specs.declared.fault.Fault.TheVariants.{Memory, Read, Write}
use Rattle.up_http.specs.declared.progress.Progress.{Progress}
use Rattle.up_http.specs.declared.served.Served.{Served}
use Rattle.up_http.proofs.StreamLaws.{waits_none, waits_short, first_below, firsts_push, firsts_more, some_left}

pub written-push : (xs : List (List ℕ)) (text : List ℕ) → written plain (xs ++ text ∷ []) ≡ written plain xs ++ text
written-push [] text = append-nil text
written-push (x ∷ xs) text = ap (λ l. x ++ l) (written-push xs text) ∙ sym (append_assoc x (written plain xs) text)

calls-append : (xs ys : List Next) → calls (xs ++ ys) ≡ calls xs + calls ys
calls-append xs ys = ap length (filter-append (λ n. is_call n.what) xs ys) ∙ length-append (filter (λ n. is_call n.what) xs) (filter (λ n. is_call n.what) ys)

pub calls-push : (xs : List Next) (next : Next) → calls (xs ++ next ∷ []) ≡ calls xs + calls (next ∷ [])
calls-push xs next = calls-append xs (next ∷ [])

module _ {S : Type 0} (gives : Gives S) where
  pub run-push : (old mid new : S) (xs : List Next) (ts : List (List ℕ)) (next : Next) (text : List ℕ) → Run gives old xs ts mid → gives mid next text new → Run gives old (xs ++ next ∷ []) (ts ++ text ∷ []) new
  run-push old mid new [] [] next text p q = (new, subst (λ s. gives s next text new) p q, refl)
  run-push old mid new [] (t ∷ ts) next text p q = absurd p
  run-push old mid new (x ∷ xs) [] next text p q = absurd p
  run-push old mid new (x ∷ xs) (t ∷ ts) next text p q = (p.0, p.1, run-push p.0 mid new xs ts next text p.2 q)

  -- as many answers as requests
  as_many : (old new : S) (xs : List Next) (ts : List (List ℕ)) → Run gives old xs ts new → length xs ≡ length ts
  as_many old new [] [] p = refl
  as_many old new [] (t ∷ ts) p = absurd p
  as_many old new (x ∷ xs) [] p = absurd p
  as_many old new (x ∷ xs) (t ∷ ts) p = ap suc (as_many p.0 new xs ts p.2)

  -- before any byte
  pub fresh : (first : At S) (at : Progress) → at.talk ≡ silent → at.called ≡ 0 → at.answered ≡ 0 → Sofar gives first [] at first
  fresh first at talk called answered = let feeder = ap (λ t. t.fed) talk in record {
    done = [];
    texts = [];
    firsts = λ more. (ap (λ f. f.ended) feeder, ap (λ f. f.rest ++ more) feeder);
    given_is = ap (λ f. f.given) feeder;
    few = omega arith;
    below = λ _. omega (arith, ap (λ f. f.given) feeder);
    waits = λ _. subst Waits (sym (ap (λ f. f.rest) feeder)) waits_none;
    bytes = omega arith;
    run = refl;
    answered_is = answered;
    called_is = called;
    wrote = Appends-nil first.held;
    quiet = (ap (λ t. t.asking) talk, ap (λ t. t.unsent) talk);
  }

  -- a piece that gives nothing
  pub takes_none : (old new : Progress) (piece : List ℕ) (now : At S) → old.talk.fed.ended ≡ false
      → new.talk.fed ≡ record { rest = old.talk.fed.rest ++ piece; given = old.talk.fed.given; ended = false } → Waits new.talk.fed.rest → new.talk.asking ≡ false → new.talk.unsent ≡ old.talk.unsent → new.called ≡ old.called → new.answered ≡ old.answered
      → Takes gives piece old now new now
  takes_none old new piece now goes_on fed waits asks same called answered = λ first came so.
      let rest : new.talk.fed.rest ≡ old.talk.fed.rest ++ piece = ap (λ f. f.rest) fed in
      let given : new.talk.fed.given ≡ old.talk.fed.given = ap (λ f. f.given) fed in
      let ended : new.talk.fed.ended ≡ old.talk.fed.ended = ap (λ f. f.ended) fed ∙ sym goes_on in
      record {
        done = so.done;
        texts = so.texts;
        firsts = λ more.
            let behind : old.talk.fed.rest ++ (piece ++ more) ≡ new.talk.fed.rest ++ more = sym (append_assoc old.talk.fed.rest piece more) ∙ ap (λ l. l ++ more) (sym rest) in
            subst (λ e. Firsts 0 ((came ++ piece) ++ more) so.done e (new.talk.fed.rest ++ more)) (sym ended)
            (subst (λ l. Firsts 0 l so.done old.talk.fed.ended (new.talk.fed.rest ++ more)) (sym (append_assoc came piece more))
            (subst (λ l. Firsts 0 (came ++ (piece ++ more)) so.done old.talk.fed.ended l) behind (so.firsts (piece ++ more))));
        given_is = given ∙ so.given_is;
        few = so.few;
        below = λ _. omega (arith, given, so.below goes_on);
        waits = λ _. waits;
        bytes = omega (arith, so.bytes, ap length rest, length-append old.talk.fed.rest piece, length-append came piece, ap (λ g. g * most_request) given);
        run = so.run;
        answered_is = answered ∙ so.answered_is;
        called_is = called ∙ so.called_is;
        wrote = so.wrote;
        quiet = (asks, same ∙ so.quiet.1);
      }

  -- a request that is whole, and its answer
  pub takes_next : (old new : Progress) (bytes : List ℕ) (next : Next) (text : List ℕ) (before after : At S) → old.talk.fed.ended ≡ false
      → new.talk.fed ≡ record { rest = []; given = old.talk.fed.given + 1; ended = next.last } → old.talk.fed.given < most_requests
      → length (old.talk.fed.rest ++ bytes) ≤ most_request → 0 < length (old.talk.fed.rest ++ bytes)
      → ((more : List ℕ) → First old.talk.fed.given ((old.talk.fed.rest ++ bytes) ++ more) next more)
      → gives before.state next text after.state → Appends before.held after.held text
      → IsQuiet new.talk → new.called ≡ old.called + calls (next ∷ []) → new.answered ≡ old.answered + 1
      → Takes gives bytes old before new after
  takes_next old new bytes next text before after goes_on fed below small some firsts gave wrote quiet called answered = λ first came so.
      let rest : new.talk.fed.rest ≡ [] = ap (λ f. f.rest) fed in
      let given : new.talk.fed.given ≡ old.talk.fed.given + 1 = ap (λ f. f.given) fed in
      let ended : new.talk.fed.ended ≡ next.last = ap (λ f. f.ended) fed in
      record {
        done = so.done ++ next ∷ [];
        texts = so.texts ++ text ∷ [];
        firsts = λ more.
            let bytes' = old.talk.fed.rest ++ bytes in
            let behind : old.talk.fed.rest ++ (bytes ++ more) ≡ bytes' ++ more = sym (append_assoc old.talk.fed.rest bytes more) in
            let here : Firsts 0 ((came ++ bytes) ++ more) so.done false (bytes' ++ more) =
            subst (λ e. Firsts 0 ((came ++ bytes) ++ more) so.done e (bytes' ++ more)) goes_on
            (subst (λ l. Firsts 0 l so.done old.talk.fed.ended (bytes' ++ more)) (sym (append_assoc came bytes more))
            (subst (λ l. Firsts 0 (came ++ (bytes ++ more)) so.done old.talk.fed.ended l) behind (so.firsts (bytes ++ more)))) in
            let pushed : Firsts 0 ((came ++ bytes) ++ more) (so.done ++ next ∷ []) next.last more =
            firsts_push 0 ((came ++ bytes) ++ more) so.done (bytes' ++ more) next more here (omega (arith, length-append bytes' more)) (subst (λ n. First n (bytes' ++ more) next more) (omega (arith, so.given_is)) (firsts more)) in
            subst (λ e. Firsts 0 ((came ++ bytes) ++ more) (so.done ++ next ∷ []) e (new.talk.fed.rest ++ more)) (sym ended)
            (subst (λ l. Firsts 0 ((came ++ bytes) ++ more) (so.done ++ next ∷ []) next.last (l ++ more)) (sym rest) pushed);
        given_is = omega (arith, given, so.given_is, length-append so.done (next ∷ []));
        few = omega (arith, below, so.given_is, length-append so.done (next ∷ []));
        below = λ on. omega (arith, given, first_below old.talk.fed.given ((old.talk.fed.rest ++ bytes) ++ []) next [] (firsts []) (sym ended ∙ on));
        waits = λ _. subst Waits (sym rest) waits_none;
        bytes = omega (arith, so.bytes, ap length rest, small, length-append old.talk.fed.rest bytes, length-append came bytes, given);
        run = run-push first.state before.state after.state so.done so.texts next text so.run gave;
        answered_is = omega (arith, answered, so.answered_is, length-append so.texts (text ∷ []));
        called_is = omega (arith, called, so.called_is, calls-push so.done next);
        wrote = subst (Appends first.held after.held) (sym (written-push so.texts text)) (Appends-trans _ _ _ _ _ so.wrote wrote);
        quiet = quiet;
      }

  -- a run stops behind the requests that were answered, at one that was handed on, or at none
  stopped : (came : List ℕ) (old : Progress) (bytes : List ℕ) (ended : Bool) (next : Option Next) (now : ServeFault) (first before after : At S) (so : Sofar gives first came old before)
      → AreFirst bytes ended so.done next → Tells now.cause bytes ended so.done next → now.called ≡ old.called + calls (listed next) → now.answered ≡ old.answered
      → BreaksOff gives plain (cause_of now.cause) next before after → Stopped gives bytes ended now first after
  stopped came old bytes ended next now first before after so are tells called answered (prefix, breaks, wrote) = record {
    done = so.done;
    next = next;
    answers = so.texts;
    last = before.state;
    prefix = prefix;
    first_ones = (are, tells, omega (arith, called, so.called_is, calls-append so.done (listed next)));
    run = so.run;
    breaks = breaks;
    answered_is = answered ∙ so.answered_is;
    wrote = Appends-trans _ _ _ _ _ so.wrote wrote;
  }

  -- a request that isn't answered whole has bytes behind those that were answered
  tells_unanswered : (cause : Fault) (next : Next) (before after : At S) (bytes : List ℕ) (ended : Bool) (done : List Next) (rest : List ℕ) → Firsts 0 bytes done false rest → 0 < length rest
      → Unanswered gives cause next before after → Tells cause bytes ended done (Some next)
  tells_unanswered Memory next before after bytes ended done rest firsts some broke = (some_left bytes done rest firsts some, tt)
  tells_unanswered Write next before after bytes ended done rest firsts some broke = tt
  tells_unanswered Read next before after bytes ended done rest firsts some broke = absurd broke

  broke_off : (cause : Fault) (next : Next) (before after : At S) → Unanswered gives cause next before after → BreaksOff gives plain (cause_of cause) (Some next) before after
  broke_off Memory next before after broke = broke
  broke_off Write next before after broke = broke
  broke_off Read next before after broke = absurd broke

  -- a request that isn't answered whole
  pub stops_next : (cause : Fault) (old new : Progress) (bytes others : List ℕ) (next : Next) (before after : At S) → old.talk.fed.ended ≡ false
      → 0 < length (old.talk.fed.rest ++ bytes)
      → ((more : List ℕ) → First old.talk.fed.given ((old.talk.fed.rest ++ bytes) ++ more) next more)
      → Unanswered gives cause next before after
      → new.called ≡ old.called + calls (next ∷ []) → new.answered ≡ old.answered
      → (first : At S) (came : List ℕ) → Sofar gives first came old before
      → Stopped gives (came ++ (bytes ++ others)) false (fault_at cause new) first after
  stops_next cause old new bytes others next before after goes_on some firsts broke called answered = λ first came so.
      let bytes' = old.talk.fed.rest ++ bytes in
      let behind : old.talk.fed.rest ++ (bytes ++ others) ≡ bytes' ++ others = sym (append_assoc old.talk.fed.rest bytes others) in
      let begun : IsBegun (length so.done) (bytes' ++ others) false next = record {
        some = omega (arith, some, length-append bytes' others);
        after = others;
        first = λ more _. subst (λ n. First n ((bytes' ++ others) ++ more) next (others ++ more)) so.given_is
            (subst (λ l. First old.talk.fed.given l next (others ++ more)) (sym (append_assoc bytes' others more)) (firsts (others ++ more)));
      } in
      let before_it : Firsts 0 (came ++ (bytes ++ others)) so.done false (bytes' ++ others) =
      subst (λ e. Firsts 0 (came ++ (bytes ++ others)) so.done e (bytes' ++ others)) goes_on
      (subst (λ l. Firsts 0 (came ++ (bytes ++ others)) so.done old.talk.fed.ended l) behind (so.firsts (bytes ++ others))) in
      stopped came old (came ++ (bytes ++ others)) false (Some next) (fault_at cause new) first before after so (bytes' ++ others, before_it, begun)
      (tells_unanswered cause next before after (came ++ (bytes ++ others)) false so.done (bytes' ++ others) before_it begun.some broke) called answered (broke_off cause next before after broke)

  -- nothing is handed on
  breaks_none : (fault : Fault) (now : At S) → (cause_of fault ≡ why.Write → ⊥) → BreaksOff gives plain (cause_of fault) None now now
  breaks_none fault now other = ([], (other, refl, refl), Appends-nil now.held)

  -- memory was refused before a request was whole
  pub stops_memory : (old new : Progress) (piece : List ℕ) (now : At S) → old.talk.fed.ended ≡ false → 0 < length piece
      → new.called ≡ old.called → new.answered ≡ old.answered → Stops gives Memory false piece old now new now
  stops_memory old new piece now goes_on some called answered = λ first came so.
      let firsts : Firsts 0 (came ++ piece) so.done false (old.talk.fed.rest ++ piece) =
      subst (λ e. Firsts 0 (came ++ piece) so.done e (old.talk.fed.rest ++ piece)) goes_on (so.firsts piece) in
      stopped came old (came ++ piece) false None (fault_at Memory new) first now now so (old.talk.fed.rest ++ piece, firsts)
      (some_left (came ++ piece) so.done (old.talk.fed.rest ++ piece) firsts (omega (arith, some, length-append old.talk.fed.rest piece)), refl) (omega (arith, called)) answered (breaks_none Memory now (λ e. absurd (cc)))

  -- the requests before the input's end
  at_end : (first : At S) (came : List ℕ) (at : Progress) (now : At S) (so : Sofar gives first came at now) → at.talk.fed.ended ≡ false
      → Firsts 0 came so.done false at.talk.fed.rest
  at_end first came at now so goes_on =
      subst (λ e. Firsts 0 came so.done e at.talk.fed.rest) goes_on
      (subst (λ l. Firsts 0 came so.done at.talk.fed.ended l) (append-nil at.talk.fed.rest)
      (subst (λ l. Firsts 0 l so.done at.talk.fed.ended (at.talk.fed.rest ++ [])) (append-nil came) (so.firsts [])))

  -- the input's end, with nothing left
  pub completes_none : (old : Progress) (answered' : ℕ) (now : At S) → old.talk.fed.ended ≡ false → old.talk.fed.rest ≡ [] → answered' ≡ old.answered
      → (first : At S) (came : List ℕ) → Sofar gives first came old now → FinishedRequests gives came answered' first now
  completes_none old answered' now goes_on none answered first came so = record {
    items = so.done;
    answers = so.texts;
    all = record { ended = false; rest = old.talk.fed.rest; firsts = at_end first came old now so goes_on; all = λ _. none };
    run = so.run;
    answered_is = answered ∙ so.answered_is;
    wrote = so.wrote;
  }

  -- the input's end, with a request that is cut short
  pub completes_next : (old : Progress) (answered' : ℕ) (next : Next) (text : List ℕ) (before after : At S) → old.talk.fed.ended ≡ false
      → 0 < length old.talk.fed.rest → First old.talk.fed.given old.talk.fed.rest next [] → next.last ≡ true
      → gives before.state next text after.state → Appends before.held after.held text → answered' ≡ old.answered + 1
      → (first : At S) (came : List ℕ) → Sofar gives first came old before → FinishedRequests gives came answered' first after
  completes_next old answered' next text before after goes_on some asks last gave wrote answered first came so = record {
    items = so.done ++ next ∷ [];
    answers = so.texts ++ text ∷ [];
    all = record {
      ended = next.last;
      rest = [];
      firsts = firsts_push 0 came so.done old.talk.fed.rest next [] (at_end first came old before so goes_on) some (subst (λ n. First n old.talk.fed.rest next []) (omega (arith, so.given_is)) asks);
      all = λ _. refl;
    };
    run = run-push first.state before.state after.state so.done so.texts next text so.run gave;
    answered_is = omega (arith, answered, so.answered_is, length-append so.texts (text ∷ []));
    wrote = subst (Appends first.held after.held) (sym (written-push so.texts text)) (Appends-trans _ _ _ _ _ so.wrote wrote);
  }

  -- the input's end, with a request that is cut short and isn't answered whole
  pub stops_end : (cause : Fault) (old new : Progress) (next : Next) (before after : At S) → old.talk.fed.ended ≡ false
      → 0 < length old.talk.fed.rest → First old.talk.fed.given old.talk.fed.rest next []
      → Unanswered gives cause next before after
      → new.called ≡ old.called + calls (next ∷ []) → new.answered ≡ old.answered
      → Stops gives cause true [] old before new after
  stops_end cause old new next before after goes_on some asks broke called answered = λ first came so.
      let begun : IsBegun (length so.done) old.talk.fed.rest true next = record {
        some = some;
        after = [];
        first = λ more end. subst (λ l. First (length so.done) (old.talk.fed.rest ++ l) next l) (sym (end refl))
            (subst (λ l. First (length so.done) l next []) (sym (append-nil old.talk.fed.rest)) (subst (λ n. First n old.talk.fed.rest next []) so.given_is asks));
      } in
      let before_it : Firsts 0 (came ++ []) so.done false old.talk.fed.rest =
      subst (λ l. Firsts 0 l so.done false old.talk.fed.rest) (sym (append-nil came)) (at_end first came old before so goes_on) in
      stopped came old (came ++ []) true (Some next) (fault_at cause new) first before after so (old.talk.fed.rest, before_it, begun)
      (tells_unanswered cause next before after (came ++ []) true so.done old.talk.fed.rest before_it some broke) called answered (broke_off cause next before after broke)

  -- so it is told, however the request that is cut short was answered
  pub ends_answered : (old mid new : Progress) (next : Next) (before after : At S) (failed can_write : Type 0) (r : Result (Unit {0}) Fault) → old.talk.fed.ended ≡ false
      → 0 < length old.talk.fed.rest → First old.talk.fed.given old.talk.fed.rest next [] → next.last ≡ true
      → mid.called ≡ old.called → mid.answered ≡ old.answered → AnswersNext gives next mid before new after failed can_write r
      → TakesStep (λ _. Completes gives) (λ cause. Stops gives cause true []) old before new after failed can_write r
  ends_answered old mid new next before after failed can_write (Ok _) goes_on some asks last called answered is = let (text, gave, wrote) = is.ok in record {
    ok = completes_next old new.answered next text before after goes_on some asks last gave wrote (omega (arith, is.answered, answered));
    err = tt;
    grows = omega (arith, is.answered, answered);
    goes_on = is.goes_on;
    blames = tt;
  }
  ends_answered old mid new next before after failed can_write (Err cause) goes_on some asks last called answered is = record {
    ok = tt;
    err = stops_end cause old new next before after goes_on some asks is.err (omega (arith, is.called, called)) (omega (arith, is.answered, answered));
    grows = omega (arith, is.answered, answered);
    goes_on = tt;
    blames = is.blames;
  }

  -- ---- a run over a reader

  -- the reader failed
  ran_read : (at : Progress) (now : At S) → at.talk.fed.ended ≡ false
      → (first : At S) (came : List ℕ) → Sofar gives first came at now → Stopped gives came false (fault_at Read at) first now
  ran_read at now goes_on first came so =
      let firsts = at_end first came at now so goes_on in
      stopped came at came false None (fault_at Read at) first now now so (at.talk.fed.rest, firsts) (refl, (at.talk.fed.rest, firsts, so.waits goes_on))
      (omega arith) refl (breaks_none Read now (λ e. absurd (cc)))

  -- the stream ended with a request, and so many bytes more had come
  finished_over : (at : Progress) (now : At S) (others : List ℕ) → at.talk.fed.ended ≡ true
      → (first : At S) (came : List ℕ) → Sofar gives first came at now → (more : List ℕ) → FinishedRequests gives ((came ++ others) ++ more) at.answered first now
  finished_over at now others ended first came so more = record {
    items = so.done;
    answers = so.texts;
    all = record {
      ended = true;
      rest = at.talk.fed.rest ++ (others ++ more);
      firsts = subst (λ l. Firsts 0 l so.done true (at.talk.fed.rest ++ (others ++ more))) (sym (append_assoc came others more))
          (subst (λ e. Firsts 0 (came ++ (others ++ more)) so.done e (at.talk.fed.rest ++ (others ++ more))) ended (so.firsts (others ++ more)));
      all = λ h. absurd (cc);
    };
    run = so.run;
    answered_is = so.answered_is;
    wrote = so.wrote;
  }

  -- a read while the stream goes on and each whole request has its answer
  pub last_read : (first : At S) (came piece all : List ℕ) (ended : Bool) (at : Progress) (now : At S) (answered : ℕ) → Sofar gives first came at now → at.talk.fed.ended ≡ false → at.answered ≤ answered
      → all ≡ came ++ piece → length piece ≤ piece_bytes → (ended ≡ true → piece ≡ []) → LastRead piece_bytes (WantsMore answered) all ended
  last_read first came piece all ended at now answered so goes_on few is small none = record {
    before = came;
    piece = piece;
    came_is = is;
    small = small;
    none_at_end = none;
    wanted = (
      so.done,
      (at.talk.fed.rest, at_end first came at now so goes_on, so.waits goes_on),
      omega (arith, few, so.answered_is, as_many first.state now.state so.done so.texts so.run),
    );
  }

  -- while the stream goes on there is room for more bytes
  pub room_left : (first : At S) (came : List ℕ) (at : Progress) (now : At S) → Sofar gives first came at now → at.talk.fed.ended ≡ false → length came < most_bytes
  room_left first came at now so goes_on = omega (arith, so.bytes, so.below goes_on, waits_short at.talk.fed.rest (so.waits goes_on))

  -- a run that stopped among the bytes
  ran_stop : (cause : Fault) (first now : At S) (had has : Option (List ℕ)) (came : List ℕ) (at : Progress) → Consumes had has came → length came ≤ most_bytes
      → Stopped gives came false (fault_at cause at) first now → LastRead piece_bytes (WantsMore at.answered) came false → RanRequests gives had has first now (told (Err cause) at)
  ran_stop cause first now had has came at read bounded stopped last =
      record { came = came; ended = false; read = read; bounded = bounded; at_end = λ h. absurd (cc); leaves = (stopped, last) }

  -- so it is where `?` passes its cause on
  pub ran_passed : (r : Result (Unit {0}) Fault) (cause : Fault) (first now : At S) (had has : Option (List ℕ)) (came : List ℕ) (at : Progress) → IsErrAnd r (λ x. x ≡ cause)
      → Consumes had has came → length came ≤ most_bytes → Stopped gives came false (fault_at cause at) first now → LastRead piece_bytes (WantsMore at.answered) came false
      → RanRequests gives had has first now (told r at)
  ran_passed r cause first now had has came at failed read bounded stopped last =
      let (x, is, same) = err_from_is_err_and r failed in
      subst (λ s. RanRequests gives had has first now (told s at)) (sym (is ∙ ap Err same)) (ran_stop cause first now had has came at read bounded stopped last)

  -- a run that a request ended
  pub ran_over : (first now : At S) (had has : Option (List ℕ)) (came others : List ℕ) (at : Progress) → Consumes had has (came ++ others) → length (came ++ others) ≤ most_bytes
      → at.talk.fed.ended ≡ true → Sofar gives first came at now → LastRead piece_bytes (WantsMore at.answered) (came ++ others) false → RanRequests gives had has first now (Ok (record { requests = at.answered }))
  ran_over first now had has came others at read bounded ended so last = record {
    came = came ++ others;
    ended = false;
    read = read;
    bounded = bounded;
    at_end = λ h. absurd (cc);
    leaves = (λ more _. finished_over at now others ended first came so more, last);
  }

  -- all bytes were read
  read_to_end : (P : List ℕ → Bool → Type 0) (had has : Option (List ℕ)) (came : List ℕ) → Consumes had has came → length came ≤ most_bytes → IsAtEnd has → P came true → HasRead most_bytes had has P
  read_to_end P had has came read bounded end leaves = record { came = came; ended = true; read = read; bounded = bounded; at_end = λ _. end; leaves = leaves }

  -- a run to the input's end
  pub ran_end : (r : Result (Unit {0}) Fault) (first now : At S) (had has : Option (List ℕ)) (came : List ℕ) (old : Progress) (before : At S) (new : Progress)
      → Consumes had has came → length came ≤ most_bytes → IsAtEnd has → Sofar gives first came old before
      → OnOk r (Completes gives old before new now) → IfErr r (λ cause. Stops gives cause true [] old before new now)
      → old.talk.fed.ended ≡ false → old.answered ≤ new.answered → RanRequests gives had has first now (told r new)
  ran_end (Ok _) first now had has came old before new read bounded end so ok err goes_on grows =
      read_to_end _ had has came read bounded end (
        λ more none. subst (λ l. FinishedRequests gives l new.answered first now) (sym (ap (λ l. came ++ l) (none refl) ∙ append-nil came)) (ok first came so),
        last_read first came [] came true old before new.answered so goes_on grows (sym (append-nil came)) (omega arith) (λ _. refl),
      )
  ran_end (Err cause) first now had has came old before new read bounded end so ok err goes_on grows =
      read_to_end _ had has came read bounded end (
        subst (λ l. Stopped gives l true (fault_at cause new) first now) (append-nil came) (err first came so),
        last_read first came [] came true old before new.answered so goes_on grows (sym (append-nil came)) (omega arith) (λ _. refl),
      )

  -- the reader failed
  pub ran_failed : (first now : At S) (had has : Option (List ℕ)) (came : List ℕ) (at : Progress) → Consumes had has came → length came ≤ most_bytes → at.talk.fed.ended ≡ false
      → Sofar gives first came at now → RanRequests gives had has first now (told (Err Read) at)
  ran_failed first now had has came at read bounded goes_on so =
      ran_stop Read first now had has came at read bounded (ran_read at now goes_on first came so)
      (last_read first came [] came false at now at.answered so goes_on (omega arith) (sym (append-nil came)) (omega arith) (λ h. absurd (cc)))

-- more answers leave it as it is
pub read_later : (came : List ℕ) (few more : ℕ) → few ≤ more → LastRead piece_bytes (WantsMore few) came false → LastRead piece_bytes (WantsMore more) came false
read_later came few more grows last = record {
  before = last.before;
  piece = last.piece;
  came_is = last.came_is;
  small = last.small;
  none_at_end = last.none_at_end;
  wanted = (last.wanted.0, last.wanted.1, omega (arith, grows, last.wanted.2));
}

-- a turn that takes bytes or gives a request is nearer to the end
pub nearer : (most at filled n given now len : ℕ) → at < filled → len ≡ filled - at → n ≤ len → ((n ≡ len) × (now ≡ given)) ⊎ ((now ≡ given + 1) × (given < 100))
    → 2 * most + (filled - (at + n)) + (100 - now) < 2 * most + (filled - at) + (100 - given)
nearer most at filled n given now len h e k (inl both) = omega arith
nearer most at filled n given now len h e k (inr both) = omega arith

-- a piece, and what is left of it
pub piece_left : (xs : List ℕ) (at filled n : ℕ) → n ≤ filled - at → take n (take (filled - at) (drop at xs)) ++ take (filled - (at + n)) (drop (at + n) xs) ≡ take (filled - at) (drop at xs)
piece_left xs at filled n h =
    ap (λ l. l ++ take (filled - (at + n)) (drop (at + n) xs)) (take-take n (filled - at) (drop at xs) h)
    ∙ ap (λ l. take n (drop at xs) ++ take (filled - (at + n)) l) (sym (drop-drop n at xs))
    ∙ sym (take-add n (filled - (at + n)) (drop at xs)) ∙ ap (λ k. take k (drop at xs)) (omega arith)

-- what is first of the bytes that came is first of all that follow
begun_more : (given : ℕ) (bytes left : List ℕ) (ended : Bool) (next : Next) → (ended ≡ true → left ≡ []) → IsBegun given bytes ended next → IsBegun given (bytes ++ left) true next
begun_more given bytes left ended next end begun = record {
  some = omega (arith, begun.some, length-append bytes left);
  after = begun.after ++ left;
  first = λ more over. subst (λ l. First given l next ((begun.after ++ left) ++ more)) (sym (append_assoc bytes left more))
      (subst (λ l. First given (bytes ++ (left ++ more)) next l) (sym (append_assoc begun.after left more))
      (begun.first (left ++ more) (λ is. ap (λ l. l ++ more) (end is) ∙ over refl)));
}

first_more : (bytes left : List ℕ) (ended : Bool) (done : List Next) (next : Option Next) → (ended ≡ true → left ≡ []) → AreFirst bytes ended done next → AreFirst (bytes ++ left) true done next
first_more bytes left ended done None end (rest, firsts) = (rest ++ left, firsts_more 0 bytes left done rest firsts)
first_more bytes left ended done (Some next) end (rest, firsts, begun) = (rest ++ left, firsts_more 0 bytes left done rest firsts, begun_more (length done) rest left ended next end begun)

-- a run that ended early, where it is known what the reader had
known_prefix : {S : Type 0} (gives : Gives S) (first now : At S) (had has : Option (List ℕ)) (fault : ServeFault) → RanRequests gives had has first now (Err fault)
    → IfSome had (λ input. AnswersFirst gives input fault first now)
known_prefix gives first now None has fault ran = tt
known_prefix gives first now (Some input) None fault ran = absurd ran.read
known_prefix gives first now (Some input) (Some left) fault ran =
    let st = ran.leaves.0 in
    subst (λ l. AnswersFirst gives l fault first now) (sym ran.read) (record {
      done = st.done;
      next = st.next;
      answers = st.answers;
      last = st.last;
      prefix = st.prefix;
      first_ones = (first_more ran.came left ran.ended st.done st.next ran.at_end st.first_ones.0, st.first_ones.2);
      run = st.run;
      breaks = st.breaks;
      answered_is = st.answered_is;
      wrote = st.wrote;
    })

-- a run that ended well, where it is known what the reader had
known_whole : {S : Type 0} (gives : Gives S) (first now : At S) (had has : Option (List ℕ)) (served : Served) → RanRequests gives had has first now (Ok served)
    → IfSome had (λ input. FinishedRequests gives input served.requests first now)
known_whole gives first now None has served ran = tt
known_whole gives first now (Some input) None served ran = absurd ran.read
known_whole gives first now (Some input) (Some left) served ran =
    subst (λ l. FinishedRequests gives l served.requests first now) (sym ran.read) (ran.leaves.0 left ran.at_end)

pub runs_requests : {S : Type 0} (gives : Gives S) (first now : At S) (had has : Option (List ℕ)) (result : Result Served ServeFault) → RanRequests gives had has first now result
    → RunsRequests gives had has first now result
runs_requests gives first now had has (Ok served) ran = record { ran = ran; whole = known_whole gives first now had has served ran; prefix = tt }
runs_requests gives first now had has (Err fault) ran = record { ran = ran; whole = tt; prefix = known_prefix gives first now had has fault ran }
