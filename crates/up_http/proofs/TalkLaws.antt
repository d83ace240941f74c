-- A whole conversation keeps the order of its requests and answers.
use Rattle.std.proofs.Common.{◌≡◌, ◌+◌, ◌<◌, ◌||◌, ◌∙◌, ℕ, Bool, true, false, List, [], ◌∷◌, ◌++◌, length, take, Option, Some, None, refl, sym, ap, subst, arith, append_assoc, append-nil, length-append}
use Rattle.std.specs.Prelude.{flat_map, if◌then◌else◌, IfSome, IsTrue}
use Rattle.std.proofs.lemmas.List.Concat.{flat_map-append}
use Rattle.std.proofs.lemmas.List.{take_all}
use Rattle.up_http.specs.Requests.{First, Firsts, Requests, asks_running}
use Rattle.up_http.specs.Feeding.{Gives}
use Rattle.up_http.specs.Talks.{Talk, silent, wants_of, unsent_wants, Hears, EndsTalk, Event, Came, Ended, Told, Wrote, Happens, Happen, taken_at, asked_at, answered_at, written_at, is_end, has_end, waiting, KeepsOrder}
use Rattle.up_http.specs.declared.conversation.Wants.TheVariants.{Read, Answer, Write, Close}
use Rattle.up_http.specs.declared.asked.Next.{Next}
use Rattle.up_http.proofs.StreamLaws.{first_runs, firsts_push}

-- ---- what a conversation wants

pub wants_read : (t : Talk) → t.asking ≡ false → t.unsent ≡ [] → t.fed.ended ≡ false → wants_of t ≡ Read
wants_read t asks sent going = ap (λ b. if b then Answer else unsent_wants t.unsent t.fed.ended) asks ∙ ap (λ l. unsent_wants l t.fed.ended) sent ∙ ap (λ b. if b then Close else Read) going

pub record Reads (t : Talk) : Type 0 where
  pub asks : t.asking ≡ false
  pub sent : t.unsent ≡ []
  pub going : t.fed.ended ≡ false

pub reads : (t : Talk) → wants_of t ≡ Read → Reads t
reads t wants = by_asking t.asking refl wants
  where
    by_ended : (e : Bool) → t.asking ≡ false → t.unsent ≡ [] → t.fed.ended ≡ e → (if e then Close else Read) ≡ Read → Reads t
    by_ended true asks sent is wants = absurd (cc)
    by_ended false asks sent is wants = record { asks = asks; sent = sent; going = is }

    by_unsent : (l : List ℕ) → t.asking ≡ false → t.unsent ≡ l → unsent_wants l t.fed.ended ≡ Read → Reads t
    by_unsent [] asks is wants = by_ended t.fed.ended asks is refl wants
    by_unsent (byte ∷ bytes) asks is wants = absurd (cc)

    by_asking : (b : Bool) → t.asking ≡ b → (if b then Answer else unsent_wants t.unsent t.fed.ended) ≡ Read → Reads t
    by_asking true is wants = absurd (cc)
    by_asking false is wants = by_unsent t.unsent is refl wants

answers_waits : (t : Talk) → wants_of t ≡ Answer → t.asking ≡ true
answers_waits t wants = by_asking t.asking refl wants
  where
    by_ended : (e : Bool) → (if e then Close else Read) ≡ Answer → t.asking ≡ true
    by_ended true wants = absurd (cc)
    by_ended false wants = absurd (cc)

    by_unsent : (l : List ℕ) → unsent_wants l t.fed.ended ≡ Answer → t.asking ≡ true
    by_unsent [] wants = by_ended t.fed.ended wants
    by_unsent (byte ∷ bytes) wants = absurd (cc)

    by_asking : (b : Bool) → t.asking ≡ b → (if b then Answer else unsent_wants t.unsent t.fed.ended) ≡ Answer → t.asking ≡ true
    by_asking true is wants = is
    by_asking false is wants = by_unsent t.unsent wants

pub wants_write : (t : Talk) → t.asking ≡ false → 0 < length t.unsent → Write ≡ wants_of t
wants_write t asks some = by_unsent t.unsent refl ∙ sym (ap (λ b. if b then Answer else unsent_wants t.unsent t.fed.ended) asks)
  where
    by_unsent : (l : List ℕ) → t.unsent ≡ l → Write ≡ unsent_wants t.unsent t.fed.ended
    by_unsent [] is = absurd (omega (arith, some, ap length is))
    by_unsent (byte ∷ bytes) is = sym (ap (λ l. unsent_wants l t.fed.ended) is)

-- ---- what is asked opens no campaign

pub hears_running : (old new : Talk) (piece : List ℕ) (taken : ℕ) (next : Option Next) → wants_of old ≡ Read → Hears old piece taken next new → IfSome next (λ n. IsTrue (asks_running n.what))
hears_running old new piece taken None wants hears = tt
hears_running old new piece taken (Some next) wants hears = first_runs old.fed.given ((old.fed.rest ++ take taken piece) ++ []) next [] ((hears.feeds.going_on (reads old wants).going).5 [])

pub ends_running : (old new : Talk) (next : Option Next) → EndsTalk old next new → IfSome next (λ n. IsTrue (asks_running n.what))
ends_running old new None ends = tt
ends_running old new (Some next) ends = first_runs old.fed.given old.fed.rest next [] ends.ends.3

-- ---- how far it has come

record Far (es : List Event) (t : Talk) : Type 0 where
  order : KeepsOrder es t
  given_is : t.fed.given ≡ length (flat_map asked_at es)
  closed : has_end es ≡ true → t.fed.ended ≡ true
  -- the answers before the last are written where a request waits
  quiet : t.asking ≡ true → t.unsent ≡ []

joined : {A : Type 0} (f : Event → List A) (es : List Event) (e : Event) → flat_map f (es ++ e ∷ []) ≡ flat_map f es ++ f e
joined f es e = flat_map-append f es (e ∷ []) ∙ ap (λ l. flat_map f es ++ l) (append-nil (f e))

ends_joined : (es : List Event) (e : Event) → has_end (es ++ e ∷ []) ≡ (has_end es || is_end e)
ends_joined [] (Came piece taken next) = refl
ends_joined [] (Ended next) = refl
ends_joined [] (Told text) = refl
ends_joined [] (Wrote bytes) = refl
ends_joined (Came piece taken next ∷ es) e = ends_joined es e
ends_joined (Ended next ∷ es) e = refl
ends_joined (Told text ∷ es) e = ends_joined es e
ends_joined (Wrote bytes ∷ es) e = ends_joined es e

or_nothing : (b : Bool) → (b || false) ≡ b
or_nothing true = refl
or_nothing false = refl

none_left : (xs ys : List ℕ) → xs ++ ys ≡ [] → ys ≡ []
none_left [] ys is = is
none_left (x ∷ xs) ys is = absurd (cc)

-- the same of bytes and requests that are equal
carried : (bytes bytes' : List ℕ) (nexts nexts' : List Next) (e e' : Bool) (rest rest' : List ℕ) → bytes ≡ bytes' → nexts ≡ nexts' → e ≡ e' → rest ≡ rest'
    → Firsts 0 bytes nexts e rest → Firsts 0 bytes' nexts' e' rest'
carried bytes bytes' nexts nexts' e e' rest rest' b n f r firsts =
    subst (λ l. Firsts 0 l nexts' e' rest') b (subst (λ l. Firsts 0 bytes l e' rest') n (subst (λ x. Firsts 0 bytes nexts x rest') f (subst (λ l. Firsts 0 bytes nexts e l) r firsts)))

-- a stream that a request ended has all its requests
ended_by : (bytes : List ℕ) (nexts : List Next) (e : Bool) (rest : List ℕ) → e ≡ true → Firsts 0 bytes nexts e rest → Requests bytes nexts
ended_by bytes nexts e rest is firsts = record { ended = e; rest = rest; firsts = firsts; all = λ no. absurd (cc) }

-- the bytes go on while the stream does
goes_on : (es : List Event) (t : Talk) → Far es t → t.fed.ended ≡ false → has_end es ≡ false
goes_on es t far going = by_end (has_end es) refl
  where
    by_end : (b : Bool) → has_end es ≡ b → has_end es ≡ false
    by_end true is = absurd (cc (far.closed is))
    by_end false is = is

module _ (es : List Event) (old new : Talk) (far : Far es old) where
  -- bytes that give no request
  came_none : (piece : List ℕ) (taken : ℕ) → Reads old → Hears old piece taken None new → Far (es ++ Came piece taken None ∷ []) new
  came_none piece taken is hears =
      let e = Came piece taken None in
      let gives : Gives old.fed piece taken None new.fed = hears.feeds.going_on is.going in
      let rest : new.fed.rest ≡ old.fed.rest ++ piece = ap (λ f. f.rest) gives.1 in
      let over_is : new.fed.ended ≡ false = ap (λ f. f.ended) gives.1 in
      let bytes : flat_map taken_at (es ++ e ∷ []) ≡ (flat_map taken_at es) ++ piece = joined taken_at es e ∙ ap (λ l. (flat_map taken_at es) ++ l) (take_all taken piece (omega (arith, gives.0))) in
      let same : flat_map asked_at (es ++ e ∷ []) ≡ (flat_map asked_at es) = joined asked_at es e ∙ append-nil (flat_map asked_at es) in
      let none = goes_on es old far is.going in
      record {
        order = record {
          first = λ no more. carried ((flat_map taken_at es) ++ (piece ++ more)) _ (flat_map asked_at es) _ old.fed.ended _ (old.fed.rest ++ (piece ++ more)) _
              (sym (append_assoc (flat_map taken_at es) piece more) ∙ ap (λ l. l ++ more) (sym bytes)) (sym same) (is.going ∙ sym over_is)
              (sym (append_assoc old.fed.rest piece more) ∙ ap (λ l. l ++ more) (sym rest)) (far.order.first none (piece ++ more));
          all = λ over more m. absurd (cc (over_is, over));
          answers = ap length same ∙ far.order.answers ∙ ap (λ b. length (flat_map answered_at es) + waiting b) (is.asks ∙ sym hears.asks) ∙ ap (λ l. length l + waiting new.asking) (sym (joined answered_at es e ∙ append-nil _));
          bytes = ap (flat_map (λ text. text)) (joined answered_at es e ∙ append-nil _) ∙ far.order.bytes ∙ ap (λ l. flat_map written_at es ++ l) (sym hears.same) ∙ ap (λ l. l ++ new.unsent) (sym (joined written_at es e ∙ append-nil _));
        };
        given_is = ap (λ f. f.given) gives.1 ∙ far.given_is ∙ ap length (sym same);
        closed = λ end. absurd (cc (sym end ∙ ends_joined es e ∙ ap (λ b. b || false) none));
        quiet = λ asks. hears.same ∙ is.sent;
      }

  -- bytes that give a request
  came_next : (piece : List ℕ) (taken : ℕ) (next : Next) → Reads old → Hears old piece taken (Some next) new → Far (es ++ Came piece taken (Some next) ∷ []) new
  came_next piece taken next is hears =
      let e = Came piece taken (Some next) in
      let got = take taken piece in
      let gives : Gives old.fed piece taken (Some next) new.fed = hears.feeds.going_on is.going in
      let rest : new.fed.rest ≡ [] = ap (λ f. f.rest) gives.1 in
      let over_is : new.fed.ended ≡ next.last = ap (λ f. f.ended) gives.1 in
      let bytes : flat_map taken_at (es ++ e ∷ []) ≡ (flat_map taken_at es) ++ got = joined taken_at es e in
      let more_nexts : flat_map asked_at (es ++ e ∷ []) ≡ (flat_map asked_at es) ++ next ∷ [] = joined asked_at es e in
      let none = goes_on es old far is.going in
      let firsts : (more : List ℕ) → Firsts 0 (flat_map taken_at (es ++ e ∷ []) ++ more) (flat_map asked_at (es ++ e ∷ [])) new.fed.ended (new.fed.rest ++ more) = (λ more.
      let here : Firsts 0 (((flat_map taken_at es) ++ got) ++ more) (flat_map asked_at es) false ((old.fed.rest ++ got) ++ more) =
      carried ((flat_map taken_at es) ++ (got ++ more)) _ (flat_map asked_at es) (flat_map asked_at es) old.fed.ended false (old.fed.rest ++ (got ++ more)) _
      (sym (append_assoc (flat_map taken_at es) got more)) refl is.going (sym (append_assoc old.fed.rest got more)) (far.order.first none (got ++ more)) in
      let pushed = firsts_push 0 (((flat_map taken_at es) ++ got) ++ more) (flat_map asked_at es) ((old.fed.rest ++ got) ++ more) next more here
      (omega (arith, gives.3, length-append (old.fed.rest ++ got) more))
      (subst (λ n. First n ((old.fed.rest ++ got) ++ more) next more) (omega (arith, far.given_is)) (gives.5 more)) in
      carried _ _ _ _ _ _ more _ (ap (λ l. l ++ more) (sym bytes)) (sym more_nexts) (sym over_is) (ap (λ l. l ++ more) (sym rest)) pushed) in
      record {
        order = record {
          first = λ no more. firsts more;
          all = λ over more m. ended_by _ _ new.fed.ended _ over (firsts more);
          answers =
              let one_waits : waiting new.asking ≡ 1 = ap waiting hears.asks in
              let none_waits : waiting old.asking ≡ 0 = ap waiting is.asks in
              let more : length (flat_map asked_at (es ++ e ∷ [])) ≡ length (flat_map asked_at es) + 1 = ap length more_nexts ∙ length-append (flat_map asked_at es) (next ∷ []) in
              let same : length (flat_map answered_at (es ++ e ∷ [])) ≡ length (flat_map answered_at es) = ap length (joined answered_at es e ∙ append-nil _) in
              omega (arith, one_waits, none_waits, more, same, far.order.answers);
          bytes = ap (flat_map (λ text. text)) (joined answered_at es e ∙ append-nil _) ∙ far.order.bytes ∙ ap (λ l. flat_map written_at es ++ l) (sym hears.same) ∙ ap (λ l. l ++ new.unsent) (sym (joined written_at es e ∙ append-nil _));
        };
        given_is = ap (λ f. f.given) gives.1 ∙ ap (λ n. n + 1) far.given_is ∙ sym (length-append (flat_map asked_at es) (next ∷ [])) ∙ ap length (sym more_nexts);
        closed = λ end. absurd (cc (sym end ∙ ends_joined es e ∙ ap (λ b. b || false) none));
        quiet = λ asks. hears.same ∙ is.sent;
      }

  -- the bytes end, with nothing left
  ends_none : Reads old → EndsTalk old None new → Far (es ++ Ended None ∷ []) new
  ends_none is ends =
      let e = Ended None in
      let bytes : flat_map taken_at (es ++ e ∷ []) ≡ (flat_map taken_at es) = joined taken_at es e ∙ append-nil (flat_map taken_at es) in
      let same : flat_map asked_at (es ++ e ∷ []) ≡ (flat_map asked_at es) = joined asked_at es e ∙ append-nil (flat_map asked_at es) in
      let none = goes_on es old far is.going in
      record {
        order = record {
          first = λ no. absurd (cc (sym no ∙ ends_joined es e ∙ ap (λ b. b || true) none));
          all = λ over more m.
              let no_more : more ≡ [] = m (ends_joined es e ∙ ap (λ b. b || true) none) in
              record {
                ended = false;
                rest = old.fed.rest;
                firsts = carried ((flat_map taken_at es) ++ []) _ (flat_map asked_at es) _ old.fed.ended false (old.fed.rest ++ []) old.fed.rest
                    (ap (λ l. (flat_map taken_at es) ++ l) (sym no_more) ∙ ap (λ l. l ++ more) (sym bytes)) (sym same) is.going (append-nil old.fed.rest) (far.order.first none []);
                all = λ _. ends.ends.0 is.going;
              };
          answers = ap length same ∙ far.order.answers ∙ ap (λ b. length (flat_map answered_at es) + waiting b) (is.asks ∙ sym ends.asks) ∙ ap (λ l. length l + waiting new.asking) (sym (joined answered_at es e ∙ append-nil _));
          bytes = ap (flat_map (λ text. text)) (joined answered_at es e ∙ append-nil _) ∙ far.order.bytes ∙ ap (λ l. flat_map written_at es ++ l) (sym ends.same) ∙ ap (λ l. l ++ new.unsent) (sym (joined written_at es e ∙ append-nil _));
        };
        given_is = ap (λ f. f.given) ends.ends.1 ∙ far.given_is ∙ ap length (sym same);
        closed = λ _. ap (λ f. f.ended) ends.ends.1;
        quiet = λ asks. ends.same ∙ is.sent;
      }

  -- the bytes end in a request
  ends_next : (next : Next) → Reads old → EndsTalk old (Some next) new → Far (es ++ Ended (Some next) ∷ []) new
  ends_next next is ends =
      let e = Ended (Some next) in
      let bytes : flat_map taken_at (es ++ e ∷ []) ≡ (flat_map taken_at es) = joined taken_at es e ∙ append-nil (flat_map taken_at es) in
      let more_nexts : flat_map asked_at (es ++ e ∷ []) ≡ (flat_map asked_at es) ++ next ∷ [] = joined asked_at es e in
      let none = goes_on es old far is.going in
      let (going, below, some, first, what, last, fed) = ends.ends in
      record {
        order = record {
          first = λ no. absurd (cc (sym no ∙ ends_joined es e ∙ ap (λ b. b || true) none));
          all = λ over more m.
              let no_more : more ≡ [] = m (ends_joined es e ∙ ap (λ b. b || true) none) in
              let here : Firsts 0 (flat_map taken_at es) (flat_map asked_at es) false old.fed.rest = carried ((flat_map taken_at es) ++ []) (flat_map taken_at es) (flat_map asked_at es) (flat_map asked_at es) old.fed.ended false (old.fed.rest ++ []) old.fed.rest (append-nil (flat_map taken_at es)) refl going (append-nil old.fed.rest) (far.order.first none []) in
              record {
                ended = next.last;
                rest = [];
                firsts = carried (flat_map taken_at es) _ ((flat_map asked_at es) ++ next ∷ []) _ next.last next.last [] []
                    (sym (append-nil (flat_map taken_at es)) ∙ ap (λ l. (flat_map taken_at es) ++ l) (sym no_more) ∙ ap (λ l. l ++ more) (sym bytes)) (sym more_nexts) refl refl
                    (firsts_push 0 (flat_map taken_at es) (flat_map asked_at es) old.fed.rest next [] here some (subst (λ n. First n old.fed.rest next []) (omega (arith, far.given_is)) first));
                all = λ _. refl;
              };
          answers =
              let one_waits : waiting new.asking ≡ 1 = ap waiting ends.asks in
              let none_waits : waiting old.asking ≡ 0 = ap waiting is.asks in
              let more : length (flat_map asked_at (es ++ e ∷ [])) ≡ length (flat_map asked_at es) + 1 = ap length more_nexts ∙ length-append (flat_map asked_at es) (next ∷ []) in
              let same : length (flat_map answered_at (es ++ e ∷ [])) ≡ length (flat_map answered_at es) = ap length (joined answered_at es e ∙ append-nil _) in
              omega (arith, one_waits, none_waits, more, same, far.order.answers);
          bytes = ap (flat_map (λ text. text)) (joined answered_at es e ∙ append-nil _) ∙ far.order.bytes ∙ ap (λ l. flat_map written_at es ++ l) (sym ends.same) ∙ ap (λ l. l ++ new.unsent) (sym (joined written_at es e ∙ append-nil _));
        };
        given_is = ap (λ f. f.given) fed ∙ ap (λ n. n + 1) far.given_is ∙ sym (length-append (flat_map asked_at es) (next ∷ [])) ∙ ap length (sym more_nexts);
        closed = λ _. ap (λ f. f.ended) fed;
        quiet = λ asks. ends.same ∙ is.sent;
      }

  -- an answer is given
  is_answered : (text : List ℕ) → old.asking ≡ true → new ≡ record old { asking = false; unsent = text } → Far (es ++ Told text ∷ []) new
  is_answered text asks is =
      let e = Told text in
      let fed : new.fed ≡ old.fed = ap (λ t. t.fed) is in
      let bytes : flat_map taken_at (es ++ e ∷ []) ≡ (flat_map taken_at es) = joined taken_at es e ∙ append-nil (flat_map taken_at es) in
      let same : flat_map asked_at (es ++ e ∷ []) ≡ (flat_map asked_at es) = joined asked_at es e ∙ append-nil (flat_map asked_at es) in
      let end : has_end (es ++ e ∷ []) ≡ has_end es = ends_joined es e ∙ or_nothing (has_end es) in
      record {
        order = record {
          first = λ no more. carried ((flat_map taken_at es) ++ more) _ (flat_map asked_at es) _ old.fed.ended _ (old.fed.rest ++ more) _ (ap (λ l. l ++ more) (sym bytes)) (sym same) (ap (λ f. f.ended) (sym fed)) (ap (λ f. f.rest ++ more) (sym fed)) (far.order.first (sym end ∙ no) more);
          all = λ over more m. subst (λ l. Requests (l ++ more) (flat_map asked_at (es ++ e ∷ []))) (sym bytes) (subst (λ l. Requests ((flat_map taken_at es) ++ more) l) (sym same) (far.order.all (ap (λ f. f.ended) (sym fed) ∙ over) more (λ was. m (end ∙ was))));
          answers =
              let one_waits : waiting old.asking ≡ 1 = ap waiting asks in
              let none_waits : waiting new.asking ≡ 0 = ap (λ t. waiting t.asking) is in
              let as_many : length (flat_map asked_at (es ++ e ∷ [])) ≡ length (flat_map asked_at es) = ap length same in
              let more : length (flat_map answered_at (es ++ e ∷ [])) ≡ length (flat_map answered_at es) + 1 = ap length (joined answered_at es e) ∙ length-append (flat_map answered_at es) (text ∷ []) in
              omega (arith, one_waits, none_waits, as_many, more, far.order.answers);
          bytes = ap (flat_map (λ text. text)) (joined answered_at es e) ∙ flat_map-append (λ text. text) (flat_map answered_at es) (text ∷ []) ∙ ap (λ l. flat_map (λ text. text) (flat_map answered_at es) ++ l) (append-nil text)
              ∙ ap (λ l. l ++ text) (far.order.bytes ∙ ap (λ l. flat_map written_at es ++ l) (far.quiet asks) ∙ append-nil _)
              ∙ ap (λ l. flat_map written_at es ++ l) (sym (ap (λ t. t.unsent) is)) ∙ ap (λ l. l ++ new.unsent) (sym (joined written_at es e ∙ append-nil _));
        };
        given_is = ap (λ f. f.given) fed ∙ far.given_is ∙ ap length (sym same);
        closed = λ was. ap (λ f. f.ended) fed ∙ far.closed (sym end ∙ was);
        quiet = λ still. absurd (cc (ap (λ t. t.asking) is, still));
      }

  -- bytes of an answer are written
  is_written : (bytes rest : List ℕ) → old.unsent ≡ bytes ++ rest → new ≡ record old { unsent = rest } → Far (es ++ Wrote bytes ∷ []) new
  is_written gone rest parts is =
      let e = Wrote gone in
      let fed : new.fed ≡ old.fed = ap (λ t. t.fed) is in
      let bytes : flat_map taken_at (es ++ e ∷ []) ≡ (flat_map taken_at es) = joined taken_at es e ∙ append-nil (flat_map taken_at es) in
      let same : flat_map asked_at (es ++ e ∷ []) ≡ (flat_map asked_at es) = joined asked_at es e ∙ append-nil (flat_map asked_at es) in
      let end : has_end (es ++ e ∷ []) ≡ has_end es = ends_joined es e ∙ or_nothing (has_end es) in
      record {
        order = record {
          first = λ no more. carried ((flat_map taken_at es) ++ more) _ (flat_map asked_at es) _ old.fed.ended _ (old.fed.rest ++ more) _ (ap (λ l. l ++ more) (sym bytes)) (sym same) (ap (λ f. f.ended) (sym fed)) (ap (λ f. f.rest ++ more) (sym fed)) (far.order.first (sym end ∙ no) more);
          all = λ over more m. subst (λ l. Requests (l ++ more) (flat_map asked_at (es ++ e ∷ []))) (sym bytes) (subst (λ l. Requests ((flat_map taken_at es) ++ more) l) (sym same) (far.order.all (ap (λ f. f.ended) (sym fed) ∙ over) more (λ was. m (end ∙ was))));
          answers = ap length same ∙ far.order.answers ∙ ap (λ b. length (flat_map answered_at es) + waiting b) (sym (ap (λ t. t.asking) is)) ∙ ap (λ l. length l + waiting new.asking) (sym (joined answered_at es e ∙ append-nil _));
          bytes = ap (flat_map (λ text. text)) (joined answered_at es e ∙ append-nil _) ∙ far.order.bytes ∙ ap (λ l. flat_map written_at es ++ l) parts ∙ sym (append_assoc (flat_map written_at es) gone rest)
              ∙ ap (λ l. l ++ rest) (sym (joined written_at es e)) ∙ ap (λ l. flat_map written_at (es ++ e ∷ []) ++ l) (sym (ap (λ t. t.unsent) is));
        };
        given_is = ap (λ f. f.given) fed ∙ far.given_is ∙ ap length (sym same);
        closed = λ was. ap (λ f. f.ended) fed ∙ far.closed (sym end ∙ was);
        quiet = λ asks. ap (λ t. t.unsent) is ∙ none_left gone rest (sym parts ∙ far.quiet (sym (ap (λ t. t.asking) is) ∙ asks));
      }

far_next : (es : List Event) (old new : Talk) (e : Event) → Far es old → Happens old e new → Far (es ++ e ∷ []) new
far_next es old new (Came piece taken None) far (wants, hears) = came_none es old new far piece taken (reads old wants) hears
far_next es old new (Came piece taken (Some next)) far (wants, hears) = came_next es old new far piece taken next (reads old wants) hears
far_next es old new (Ended None) far (wants, ends) = ends_none es old new far (reads old wants) ends
far_next es old new (Ended (Some next)) far (wants, ends) = ends_next es old new far next (reads old wants) ends
far_next es old new (Told text) far (wants, is) = is_answered es old new far text (answers_waits old wants) is
far_next es old new (Wrote bytes) far (rest, parts, is) = is_written es old new far bytes rest parts is

far_all : (before es : List Event) (old new : Talk) → Far before old → Happen old es new → Far (before ++ es) new
far_all before [] old new far is = subst (λ l. Far l new) (sym (append-nil before)) (subst (Far before) (sym is) far)
far_all before (e ∷ es) old new far (mid, first, rest) =
    subst (λ l. Far l new) (append_assoc before (e ∷ []) es) (far_all (before ++ e ∷ []) es mid new (far_next before old mid e far first) rest)

far_none : Far [] silent
far_none = record {
  order = record {
    first = λ no more. (refl, refl);
    all = λ over. absurd (cc);
    answers = refl;
    bytes = refl;
  };
  given_is = refl;
  closed = λ end. absurd (cc);
  quiet = λ asks. refl;
}

pub keeps_order : (es : List Event) (now : Talk) → Happen silent es now → KeepsOrder es now
keeps_order es now happened = (far_all [] es silent now far_none happened).order
