-- What a stream gives, piece by piece.
use Rattle.std.proofs.Common.{rules, ◌≡◌, inl, inr, ◌⊎◌, ℕ, zero, suc, ◌+◌, ◌-◌, ◌<◌, ◌≤◌, min, true, false, List, [], ◌∷◌, ◌++◌, length, take, drop, MatchBool, Option, Some, None, Ok, Err, take_all, take-add, take-append-drop, length-drop, refl, sym, ap, ◌∙◌, subst, arith, append_assoc, append-nil, length-append}
use Rattle.std.proofs.lemmas.Bool.{le-leb, lt-leb}
use Rattle.std.proofs.lemmas.List.{length-take-le, take_min}
use Rattle.std.proofs.Math.Seq.{take-append_seam, take-append-add}
use Rattle.httparse.specs.Grammar.{RequestHead}
use Rattle.up_heads.specs.Heads.{Heads, NeverHasHead}
use Rattle.std.specs.Prelude.{MatchOption, IsSome}
use Rattle.up_manifest.specs.Manifests.{largest_body}
use Rattle.up_heads.specs.Routed.{request_route}
use Rattle.up_heads.specs.Framing.{framing}
use Rattle.up_http.specs.Requests.{is_head, size_of, most_requests, First, Framed, asked, refused, bad_request}
use Rattle.up_manifest.specs.Bodies.{Coming}
use Rattle.up_http.specs.Feeding.{Fed, Feeds, Gives, Waits, IsCut}
use Rattle.up_heads.specs.Fronts.{IsFactsOf}
use Rattle.up_http.specs.Parts.{Begins, IsIntentOf, IsWaiting, IsWhole, ReadsPiece, TakesHead, Settles, body_of, fed_of}
use Rattle.up_heads.specs.declared.check.Check.{Check}
use Rattle.up_heads.specs.declared.check.Check.TheVariants.{BadRequest}
use Rattle.up_heads.specs.Methods.{verb_of, is_head_verb}
use Rattle.up_heads.specs.declared.methods.Verb.{Verb}
use Rattle.up_http.specs.declared.asked.Next.{Next}
use Rattle.up_heads.specs.declared.heads.Facts.{Facts}
use Rattle.up_http.specs.declared.asked.What.TheVariants.{Fixed}
use Rattle.up_heads.specs.declared.heads.Front.TheVariants.{Whole, Bad}
use Rattle.up_http.specs.declared.head_bytes.Taken.{Taken}
use Rattle.up_http.specs.declared.feeder.Parts.{Parts}
use Rattle.up_http.specs.declared.feeder.Waiting.{Waiting}
use Rattle.up_http.proofs.StreamLaws.{never_empty}
use Rattle.up_http.proofs.HeadLaws.{heads_more, head_has_bytes, head_short, framing_small, no_head_blank}

-- nothing of a head has come
pub begins_none : (bytes : List ℕ) → bytes ≡ [] → Begins bytes false
begins_none bytes is = subst (λ l. Begins l false) (sym is) (record { none = no_head_blank [] refl; short = omega arith; blank = λ _. refl })

drop-append_seam : (xs ys : List ℕ) → drop (length xs) (xs ++ ys) ≡ ys
drop-append_seam [] ys = refl
drop-append_seam (x ∷ xs) ys = drop-append_seam xs ys

-- a head and what follows it, and more
head_then : (bytes body more : List ℕ) (head : RequestHead) → Heads bytes head [] → Heads ((bytes ++ body) ++ more) head (body ++ more)
head_then bytes body more head heads = subst (λ l. Heads l head (body ++ more)) (sym (append_assoc bytes body more)) (heads_more bytes head [] (body ++ more) heads)

-- a whole request is the first of what begins with it
pub first_whole : (given : ℕ) (bytes body more : List ℕ) (head : RequestHead) (stated : Option ℕ) → Heads bytes head [] → framing head ≡ Ok stated → length body ≡ size_of stated
    → First given ((bytes ++ body) ++ more) (asked given head stated body) more
first_whole given bytes body more head stated heads is whole =
    let size = size_of stated in
    let long : size ≤ length (body ++ more) = omega (arith, length-append body more) in
    let front : take size (body ++ more) ≡ body = subst (λ n. take n (body ++ more) ≡ body) whole (take-append_seam body more) in
    let behind : drop size (body ++ more) ≡ more = subst (λ n. drop n (body ++ more) ≡ more) whole (drop-append_seam body more) in
    inr (
      head,
      body ++ more,
      head_then bytes body more head heads,
      subst (λ r. Framed given head (body ++ more) r (asked given head stated body) more) (sym is)
          (subst (λ b. MatchBool b ((asked given head stated body ≡ asked given head stated (take size (body ++ more))) × (more ≡ drop size (body ++ more))) (asked given head stated body ≡ refused head BadRequest))
          (sym (le-leb size (length (body ++ more)) long)) (ap (asked given head stated) (sym front), sym behind)),
    )

-- a head that fails a check is refused, whatever follows
pub first_refused : (given : ℕ) (bytes more : List ℕ) (head : RequestHead) (check : Check) → Heads bytes head [] → framing head ≡ Err check
    → First given (bytes ++ more) (refused head check) more
first_refused given bytes more head check heads is =
    inr (head, more, heads_more bytes head [] more heads, subst (λ r. Framed given head more r (refused head check) more) (sym is) refl)

-- what never has a head is refused
pub first_bad : (given : ℕ) (bytes more : List ℕ) → NeverHasHead bytes → First given (bytes ++ more) bad_request more
first_bad given bytes more never = inl (never more, refl)

-- what was taken of a piece is what fits behind the bytes that were there
taken_fits : (size taken : ℕ) (bytes piece : List ℕ) → length bytes ≤ size → taken ≡ min (length piece) (size - length bytes) → take size (bytes ++ piece) ≡ bytes ++ take taken piece
taken_fits size taken bytes piece small is =
    let k = size - length bytes in
    let all : size ≡ length bytes + k = omega (arith, small) in
    let same : min k (length piece) ≡ taken = omega (arith, is) in
    ap (λ n. take n (bytes ++ piece)) all ∙ take-append-add bytes piece k ∙ ap (λ l. bytes ++ l) (sym (take_min k piece)) ∙ ap (λ n. bytes ++ take n piece) same

-- without the last byte of what was taken of it a body isn't whole
before_last : (bytes body piece : List ℕ) (taken : ℕ) (head : RequestHead) (stated : Option ℕ) → Heads bytes head [] → framing head ≡ Ok stated → taken ≤ length piece
    → length body + taken ≡ size_of stated → (taken ≡ 0) ⊎ Waits ((bytes ++ body) ++ take (taken - 1) piece)
before_last bytes body piece zero head stated heads is within whole = inl refl
before_last bytes body piece (suc n) head stated heads is within whole =
    let some : length (take n piece) ≡ n = length-take-le n piece (omega arith) in
    let short : length (body ++ take n piece) < size_of stated = omega (arith, some, whole, length-append body (take n piece)) in
    let cut : Waits ((bytes ++ body) ++ take n piece) = inr (head, body ++ take n piece, head_then bytes body (take n piece) head heads, subst (λ r. IsCut r (body ++ take n piece)) (sym is) short) in
    inr (subst (λ k. Waits ((bytes ++ body) ++ take k piece)) (omega arith) cut)

-- a piece of a body
pub gives_body : (bytes piece : List ℕ) (old new : Waiting) (given taken : ℕ) (result : Option Next) (fed : Fed)
    → IsWaiting bytes old → new.intent ≡ old.intent → new.body ≡ record { size = old.body.size; bytes = take old.body.size (old.body.bytes ++ piece) }
    → taken ≡ min (length piece) (old.body.size - length old.body.bytes) → length old.body.bytes ≤ old.body.size → given < most_requests
    → Settles bytes new given result fed → Gives (record { rest = bytes ++ old.body.bytes; given = given; ended = false }) piece taken result fed
gives_body bytes piece old new given taken None fed waits intent body many fits below settles =
    let size : new.body.size ≡ old.body.size = ap (λ b. b.size) body in
    let items : new.body.bytes ≡ old.body.bytes ++ take taken piece = ap (λ b. b.bytes) body ∙ taken_fits old.body.size taken old.body.bytes piece fits many in
    let within : taken ≤ length piece = omega arith in
    let some : length (take taken piece) ≡ taken = length-take-le taken piece within in
    let all : taken ≡ length piece = omega (arith, settles.0, ap length items, length-append old.body.bytes (take taken piece)) in
    let whole : take taken piece ≡ piece = ap (λ n. take n piece) all ∙ take_all (length piece) piece (omega arith) in
    let rest : bytes ++ new.body.bytes ≡ (bytes ++ old.body.bytes) ++ piece = ap (λ l. bytes ++ l) (items ∙ ap (λ l. old.body.bytes ++ l) whole) ∙ sym (append_assoc bytes old.body.bytes piece) in
    let now : fed ≡ record { rest = (bytes ++ old.body.bytes) ++ piece; given = given; ended = false } = settles.1 ∙ ap (λ l. record { rest = l; given = given; ended = false }) rest in
    let short : length new.body.bytes < size_of waits.stated = omega (arith, settles.0, size, waits.size_is) in (
      all,
      now,
      subst Waits (rest ∙ sym (ap (λ f. f.rest) now))
          (inr (waits.head, new.body.bytes, heads_more bytes waits.head [] new.body.bytes waits.heads, subst (λ r. IsCut r new.body.bytes) (sym waits.framing_is) short)),
    )
gives_body bytes piece old new given taken (Some next) fed waits intent body many fits below settles =
    let size : new.body.size ≡ old.body.size = ap (λ b. b.size) body in
    let items : new.body.bytes ≡ old.body.bytes ++ take taken piece = ap (λ b. b.bytes) body ∙ taken_fits old.body.size taken old.body.bytes piece fits many in
    let within : taken ≤ length piece = omega arith in
    let said : IsIntentOf waits.head waits.stated new.intent = subst (IsIntentOf waits.head waits.stated) (sym intent) waits.intent_is in
    let is : next ≡ asked given waits.head waits.stated new.body.bytes = settles.2 waits.head waits.stated said in
    let joined : bytes ++ new.body.bytes ≡ (bytes ++ old.body.bytes) ++ take taken piece = ap (λ l. bytes ++ l) items ∙ sym (append_assoc bytes old.body.bytes (take taken piece)) in
    let whole : length new.body.bytes ≡ size_of waits.stated = settles.0 ∙ size ∙ waits.size_is in (
      within,
      settles.1,
      below,
      omega (arith, ap length (sym joined), length-append bytes new.body.bytes, head_has_bytes bytes waits.head waits.heads),
      omega (arith, ap length (sym joined), length-append bytes new.body.bytes, head_short bytes waits.head waits.heads, framing_small waits.head waits.stated waits.framing_is, whole),
      λ more. subst (λ n. First given (((bytes ++ old.body.bytes) ++ take taken piece) ++ more) n more) (sym is)
          (subst (λ l. First given (l ++ more) (asked given waits.head waits.stated new.body.bytes) more) joined
          (first_whole given bytes new.body.bytes more waits.head waits.stated waits.heads waits.framing_is whole)),
      before_last bytes old.body.bytes piece taken waits.head waits.stated waits.heads waits.framing_is within
          (omega (arith, whole, ap length items, length-append old.body.bytes (take taken piece), length-take-le taken piece within)),
    )

-- what is shown where no head is whole
fed_open : (parts : Parts) → parts.waiting ≡ None → parts.ended ≡ false → fed_of parts ≡ record { rest = parts.head.items; given = parts.given; ended = false }
fed_open parts none goes_on i = record { rest = (ap (λ w. parts.head.items ++ body_of w) none ∙ append-nil parts.head.items) i; given = parts.given; ended = goes_on i }

pub feeds_open : (parts : Parts) (piece : List ℕ) (taken : ℕ) (next : Option Next) (fed : Fed) → parts.waiting ≡ None → parts.ended ≡ false
    → Gives (record { rest = parts.head.items; given = parts.given; ended = false }) piece taken next fed → Feeds (fed_of parts) piece taken next fed
feeds_open parts piece taken next fed none goes_on gives =
    subst (λ f. Feeds f piece taken next fed) (sym (fed_open parts none goes_on)) (record { going_on = λ _. gives; over = λ e. absurd (cc) })

-- whether the method is HEAD
pub head_verb : (head : RequestHead) (verb : Verb) → verb ≡ verb_of head.method → is_head_verb verb ≡ is_head head
unfolding is_head
head_verb head verb is = ap is_head_verb is

-- a head that fails a check
pub gives_refused : (old piece new : List ℕ) (taken : Taken) (facts : Facts) (check : Check) (given : ℕ) (next : Next) (fed : Fed)
    → given < most_requests → TakesHead old piece taken new → taken.front ≡ Whole facts → facts.framing ≡ Err check → next ≡ record { what = Fixed check; head = is_head_verb facts.verb; last = true }
    → fed ≡ record { rest = []; given = given + 1; ended = next.last } → Waits (old ++ take (taken.bytes - 1) piece)
    → Gives (record { rest = old; given = given; ended = false }) piece taken.bytes (Some next) fed
gives_refused old piece new taken facts check given next fed below takes front framed is now waited =
    let (head, heads, said) : IsWhole new facts = subst (ReadsPiece new piece taken) front takes.stands in
    let same : next ≡ refused head check = is ∙ ap (λ h. record { what = Fixed check; head = h; last = true }) (head_verb head facts.verb said.verb_is) in (
      takes.within,
      now,
      below,
      omega (arith, head_has_bytes new head heads, ap length takes.added),
      omega (arith, takes.bounded, ap length takes.added),
      λ more. subst (λ n. First given ((old ++ take taken.bytes piece) ++ more) n more) (sym same)
          (subst (λ l. First given (l ++ more) (refused head check) more) takes.added (first_refused given new more head check heads (sym said.framing_is ∙ framed))),
      inr waited,
    )

-- bytes that never have a head
has_bytes : (bytes : List ℕ) → NeverHasHead bytes → 0 < length bytes
has_bytes [] never = absurd (never_empty never)
has_bytes (b ∷ bytes) never = omega arith

pub gives_bad : (old piece new : List ℕ) (taken : Taken) (given : ℕ) (next : Next) (fed : Fed)
    → given < most_requests → TakesHead old piece taken new → taken.front ≡ Bad → next ≡ bad_request
    → fed ≡ record { rest = []; given = given + 1; ended = next.last } → Waits (old ++ take (taken.bytes - 1) piece)
    → Gives (record { rest = old; given = given; ended = false }) piece taken.bytes (Some next) fed
gives_bad old piece new taken given next fed below takes front is now waited =
    let never : NeverHasHead new = subst (ReadsPiece new piece taken) front takes.stands in (
      takes.within,
      now,
      below,
      omega (arith, has_bytes new never, ap length takes.added),
      omega (arith, takes.bounded, ap length takes.added),
      λ more. subst (λ n. First given ((old ++ take taken.bytes piece) ++ more) n more) (sym is)
          (subst (λ l. First given (l ++ more) bad_request more) takes.added (first_bad given new more never)),
      inr waited,
    )

-- without the last byte of what was taken behind a head nothing could be answered, nor without the head's last one
before_more : (old piece new : List ℕ) (taken more : ℕ) → new ≡ old ++ take taken piece → Waits (old ++ take (taken - 1) piece)
    → (more ≡ 0) ⊎ Waits (new ++ take (more - 1) (drop taken piece)) → Waits (old ++ take (taken + more - 1) piece)
before_more old piece new taken zero added waited last = subst (λ n. Waits (old ++ take (n - 1) piece)) (omega arith) waited
before_more old piece new taken (suc n) added waited (inl none) = absurd (omega (arith, none))
before_more old piece new taken (suc n) added waited (inr waits) =
    let joined : new ++ take n (drop taken piece) ≡ old ++ take (taken + n) piece =
    ap (λ l. l ++ take n (drop taken piece)) added ∙ append_assoc old (take taken piece) (take n (drop taken piece)) ∙ ap (λ l. old ++ l) (sym (take-add taken n piece)) in
    let one : Waits (new ++ take n (drop taken piece)) = subst (λ k. Waits (new ++ take k (drop taken piece))) (omega arith) waits in
    subst (λ k. Waits (old ++ take k piece)) (omega arith) (subst Waits joined one)

-- a head, and the first bytes of its body behind it in the same piece
pub gives_more : (old piece new : List ℕ) (given taken more : ℕ) (next : Option Next) (fed : Fed) → taken ≤ length piece → new ≡ old ++ take taken piece
    → Waits (old ++ take (taken - 1) piece) → Gives (record { rest = new; given = given; ended = false }) (drop taken piece) more next fed
    → Gives (record { rest = old; given = given; ended = false }) piece (taken + more) next fed
gives_more old piece new given taken more None fed within added waited gives =
    let joined : new ++ drop taken piece ≡ old ++ piece = ap (λ l. l ++ drop taken piece) added ∙ append_assoc old (take taken piece) (drop taken piece) ∙ ap (λ l. old ++ l) (take-append-drop taken piece) in (
      omega (arith, gives.0, length-drop taken piece),
      gives.1 ∙ ap (λ l. record { rest = l; given = given; ended = false }) joined,
      gives.2,
    )
gives_more old piece new given taken more (Some next) fed within added waited gives =
    let joined : new ++ take more (drop taken piece) ≡ old ++ take (taken + more) piece =
    ap (λ l. l ++ take more (drop taken piece)) added ∙ append_assoc old (take taken piece) (take more (drop taken piece)) ∙ ap (λ l. old ++ l) (sym (take-add taken more piece)) in (
      omega (arith, gives.0, length-drop taken piece),
      gives.1,
      gives.2,
      omega (arith, ap length joined, gives.3),
      omega (arith, ap length joined, gives.4),
      λ m. subst (λ l. First given (l ++ m) next m) joined (gives.5 m),
      inr (before_more old piece new taken more added waited gives.6),
    )

-- a request whose body is cut short at the end of the input
pub ends_cut : (bytes : List ℕ) (waiting : Waiting) (given : ℕ) (next : Next) → IsWaiting bytes waiting → length waiting.body.bytes < waiting.body.size
    → next ≡ record { what = Fixed BadRequest; head = waiting.intent.head; last = true }
    → (0 < length (bytes ++ waiting.body.bytes)) × First given (bytes ++ waiting.body.bytes) next []
ends_cut bytes waiting given next waits cut is =
    let some = head_has_bytes bytes waits.head waits.heads in
    let same : next ≡ refused waits.head BadRequest = is ∙ (λ i. record { what = Fixed BadRequest; head = waits.intent_is.head_is i; last = true }) in
    let size = size_of waits.stated in
    let short : length waiting.body.bytes < size = omega (arith, waits.size_is) in (
      omega (arith, some, length-append bytes waiting.body.bytes),
      inr (
        waits.head,
        waiting.body.bytes,
        heads_more bytes waits.head [] waiting.body.bytes waits.heads,
        subst (λ r. Framed given waits.head waiting.body.bytes r next []) (sym waits.framing_is)
            (subst (λ b. MatchBool b ((next ≡ asked given waits.head waits.stated (take size waiting.body.bytes)) × ([] ≡ drop size waiting.body.bytes)) (next ≡ refused waits.head BadRequest))
            (sym (lt-leb size (length waiting.body.bytes) short)) same),
      ),
    )

-- ---- a head that has just become whole

-- a body within its limit is made, and nothing of it has come
pub made : (body : Option Coming) (size : ℕ) → size ≤ largest_body → MatchOption body (largest_body < size) (λ b. (size ≤ largest_body) × (b ≡ record { size = size; bytes = [] })) → IsSome body
made None size small over = absurd (omega arith)
made (Some b) size small is = search rules

pub made_is : (body : Option Coming) (b : Coming) (size : ℕ) → body ≡ Some b → MatchOption body (largest_body < size) (λ b. (size ≤ largest_body) × (b ≡ record { size = size; bytes = [] }))
    → b ≡ record { size = size; bytes = [] }
made_is None b size is x = absurd (cc)
made_is (Some other) b size is x = let same : b ≡ other = cc in same ∙ x.1

pub size_small : (bytes : List ℕ) (facts : Facts) (stated : Option ℕ) → IsWhole bytes facts → facts.framing ≡ Ok stated → size_of stated ≤ largest_body
size_small bytes facts stated (head, heads, said) framed = framing_small head stated (sym said.framing_is ∙ framed)

-- what is kept of it
pub begins_body : (bytes : List ℕ) (facts : Facts) (stated : Option ℕ) (waiting : Waiting) → IsWhole bytes facts → facts.framing ≡ Ok stated
    → waiting.body.size ≡ size_of stated → ((head : RequestHead) → IsFactsOf bytes head facts → waiting.intent.asks ≡ request_route head stated)
    → waiting.intent.head ≡ is_head_verb facts.verb → waiting.intent.closes ≡ facts.closes → IsWaiting bytes waiting
begins_body bytes facts stated waiting (head, heads, said) framed size asks verb closes = record {
  head = head;
  heads = heads;
  stated = stated;
  framing_is = sym said.framing_is ∙ framed;
  size_is = size;
  intent_is = record { asks_is = asks head said; head_is = verb ∙ head_verb head facts.verb said.verb_is; closes_is = closes ∙ said.closes_is };
}
