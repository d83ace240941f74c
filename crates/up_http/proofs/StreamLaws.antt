-- The requests of a stream: one after another, each once, and what more bytes change.
use Rattle.std.proofs.Common.{◌||◌, ◌≡◌, inl, inr, ℕ, ◌+◌, ◌<◌, ◌≤◌, Bool, true, false, List, [], ◌∷◌, ◌++◌, length, take, drop, MatchBool, Option, Result, Ok, Err, refl, sym, ap, ◌∙◌, subst, arith, length-append}
use Rattle.std.specs.Prelude.{nat_le, IsTrue}
use Rattle.std.proofs.lemmas.Bool.{leb-false, leb-true, le-leb}
use Rattle.std.proofs.Math.Seq.{take-append-le, drop-append-le}
use Rattle.std.proofs.lemmas.List.Elements.{All-cons, All-nil}
use Rattle.httparse.specs.Grammar.{RequestHead, print_request, ReadsRequest, lf, IsField, is_token_byte, is_uri_byte}
use Rattle.up_heads.specs.Heads.{NeverHasHead}
use Rattle.up_heads.specs.Framing.{framing}
use Rattle.up_heads.specs.Closing.{closes}
use Rattle.up_heads.specs.Routed.{request_route}
use Rattle.up_heads.specs.declared.routed.Routed.{Routed}
use Rattle.up_heads.specs.declared.routed.Routed.TheVariants as routed_as
use Rattle.up_http.specs.Requests.{First, Firsts, Requests, Framed, asked, asks_running, with_body, refused, ends_with, most_requests, most_request, size_of}
use Rattle.up_http.specs.Feeding.{Waits, IsCut}
use Rattle.up_heads.specs.declared.check.Check.{Check}
use Rattle.up_heads.specs.declared.check.Check.TheVariants.{BadRequest}
use Rattle.up_http.specs.declared.asked.Next.{Next}
use Rattle.up_http.specs.declared.asked.What.TheVariants.{Fixed}
use Rattle.up_http.proofs.HeadLaws.{heads_once, heads_more, no_head_blank, framing_small}

-- nothing has come
pub waits_none : Waits []
waits_none = inl (no_head_blank [] refl, omega arith)

-- bytes of which nothing can be answered are less than a request
pub waits_short : (bytes : List ℕ) → Waits bytes → length bytes < most_request
waits_short bytes (inl (none, short)) = omega arith
waits_short bytes (inr (head, after, heads, cut)) = by_framing (framing head) refl cut
  where
    by_framing : (r : Result (Option ℕ) Check) → framing head ≡ r → IsCut r after → length bytes < most_request
    by_framing (Err check) is cut = absurd cut
    by_framing (Ok stated) is cut = omega (arith, heads.short, ap length heads.reads.1, length-append (print_request head) after, framing_small head stated is)

-- one more request
pub firsts_push : (before : ℕ) (bytes : List ℕ) (done : List Next) (mid : List ℕ) (next : Next) (rest : List ℕ)
    → Firsts before bytes done false mid → 0 < length mid → First (before + length done) mid next rest → Firsts before bytes (done ++ next ∷ []) next.last rest
firsts_push before bytes [] mid next rest (_, is) some first =
    let here : First before bytes next rest = subst (λ n. First n bytes next rest) (omega arith) (subst (λ l. First (before + 0) l next rest) is first) in
    (subst (λ l. 0 < length l) is some, rest, here, by_last next.last)
  where
    by_last : (last : Bool) → MatchBool last ((◌≡◌ {A = List Next} [] []) × (last ≡ true)) (Firsts (before + 1) rest [] last rest)
    by_last true = (refl, refl)
    by_last false = (refl, refl)
firsts_push before bytes (one ∷ done) mid next rest (has, after, first', others) some first = (has, after, first', by_last one.last (λ h. firsts_push (before + 1) after done mid next rest h some (subst (λ n. First n mid next rest) (omega arith) first)) others)
  where
    by_last : (last : Bool) → (Firsts (before + 1) after done false mid → Firsts (before + 1) after (done ++ next ∷ []) next.last rest) → MatchBool last ((done ≡ []) × (false ≡ true)) (Firsts (before + 1) after done false mid)
        → MatchBool last ((done ++ next ∷ [] ≡ []) × (next.last ≡ true)) (Firsts (before + 1) after (done ++ next ∷ []) next.last rest)
    by_last true push (_, h) = absurd (cc)
    by_last false push h = push h

-- where the stream has ended nothing is said of what is left
pub firsts_left : (before : ℕ) (bytes : List ℕ) (done : List Next) (rest other : List ℕ) → Firsts before bytes done true rest → Firsts before bytes done true other
firsts_left before bytes [] rest other (h, _) = absurd (cc)
firsts_left before bytes (next ∷ done) rest other (has, mid, first, others) = (has, mid, first, by_last next.last (λ h. firsts_left (before + 1) mid done rest other h) others)
  where
    by_last : (last : Bool) → (Firsts (before + 1) mid done true rest → Firsts (before + 1) mid done true other) → MatchBool last ((done ≡ []) × (true ≡ true)) (Firsts (before + 1) mid done true rest) → MatchBool last ((done ≡ []) × (true ≡ true)) (Firsts (before + 1) mid done true other)
    by_last true left h = h
    by_last false left h = left h

-- a request behind which the stream goes on isn't the last by its number
or_false : (a b : Bool) → (a || b) ≡ false → b ≡ false
or_false true b h = absurd (cc)
or_false false b h = h

below_framed : (given : ℕ) (head : RequestHead) (after : List ℕ) (r : Result (Option ℕ) Check) (next : Next) (rest : List ℕ) → Framed given head after r next rest → next.last ≡ false → given + 1 < most_requests
below_framed given head after (Err check) next rest p goes_on = absurd (cc (ap (λ n. n.last) p))
below_framed given head after (Ok stated) next rest p goes_on = by_size (nat_le (size_of stated) (length after)) p
  where
    by_size : (b : Bool) → MatchBool b ((next ≡ asked given head stated (take (size_of stated) after)) × (rest ≡ drop (size_of stated) after)) (next ≡ refused head BadRequest) → given + 1 < most_requests
    by_size true x = leb-false most_requests (given + 1) (or_false (ends_with (request_route head stated)) (nat_le most_requests (given + 1)) (or_false (closes head) (ends_with (request_route head stated) || nat_le most_requests (given + 1)) (sym (ap (λ n. n.last) x.0) ∙ goes_on)))
    by_size false x = absurd (cc (ap (λ n. n.last) x))

pub first_below : (given : ℕ) (bytes : List ℕ) (next : Next) (rest : List ℕ) → First given bytes next rest → next.last ≡ false → given + 1 < most_requests
first_below given bytes next rest (inl (none, is)) goes_on = absurd (cc (ap (λ n. n.last) is))
first_below given bytes next rest (inr (head, after, heads, framed)) goes_on = below_framed given head after (framing head) next rest framed goes_on

-- ---- what is asked opens no campaign

with_body_runs : (p : Routed) (body : List ℕ) → asks_running (with_body p body) ≡ true
unfolding asks_running
with_body_runs (routed_as.Fixed check) body = refl
with_body_runs routed_as.Deliver body = refl
with_body_runs (routed_as.FetchDirector file) body = refl
with_body_runs (routed_as.FetchImage file) body = refl

fixed_runs : (check : Check) → asks_running (Fixed check) ≡ true
unfolding asks_running
fixed_runs check = refl

runs_as : (next other : Next) → next ≡ other → asks_running other.what ≡ true → asks_running next.what ≡ true
runs_as next other is runs = ap (λ n. asks_running n.what) is ∙ runs

framed_runs : (given : ℕ) (head : RequestHead) (after : List ℕ) (r : Result (Option ℕ) Check) (next : Next) (rest : List ℕ) → Framed given head after r next rest → asks_running next.what ≡ true
framed_runs given head after (Err check) next rest p = runs_as next _ p (fixed_runs check)
framed_runs given head after (Ok stated) next rest p = by_size (nat_le (size_of stated) (length after)) p
  where
    by_size : (b : Bool) → MatchBool b ((next ≡ asked given head stated (take (size_of stated) after)) × (rest ≡ drop (size_of stated) after)) (next ≡ refused head BadRequest) → asks_running next.what ≡ true
    by_size true x = runs_as next _ x.0 (with_body_runs (request_route head stated) (take (size_of stated) after))
    by_size false x = runs_as next _ x (fixed_runs BadRequest)

pub first_runs : (given : ℕ) (bytes : List ℕ) (next : Next) (rest : List ℕ) → First given bytes next rest → asks_running next.what ≡ true
first_runs given bytes next rest (inl (none, is)) = runs_as next _ is (fixed_runs BadRequest)
first_runs given bytes next rest (inr (head, after, heads, framed)) = framed_runs given head after (framing head) next rest framed

-- ---- each stream has its requests once

framed_once : (given : ℕ) (head : RequestHead) (after : List ℕ) (r : Result (Option ℕ) Check) (next other : Next) (rest left : List ℕ)
    → Framed given head after r next rest → Framed given head after r other left → (next ≡ other) × (next.last ≡ false → rest ≡ left)
framed_once given head after (Err check) next other rest left p q = (p ∙ sym q, λ goes_on. absurd (cc (ap (λ n. n.last) p)))
framed_once given head after (Ok stated) next other rest left p q = by_size (nat_le (size_of stated) (length after)) p q
  where
    by_size : (b : Bool) → MatchBool b ((next ≡ asked given head stated (take (size_of stated) after)) × (rest ≡ drop (size_of stated) after)) (next ≡ refused head BadRequest)
        → MatchBool b ((other ≡ asked given head stated (take (size_of stated) after)) × (left ≡ drop (size_of stated) after)) (other ≡ refused head BadRequest) → (next ≡ other) × (next.last ≡ false → rest ≡ left)
    by_size true x y = (x.0 ∙ sym y.0, λ _. x.1 ∙ sym y.1)
    by_size false x y = (x ∙ sym y, λ goes_on. absurd (cc (ap (λ n. n.last) x)))

pub first_once : (given : ℕ) (bytes : List ℕ) (next other : Next) (rest left : List ℕ)
    → First given bytes next rest → First given bytes other left → (next ≡ other) × (next.last ≡ false → rest ≡ left)
first_once given bytes next other rest left (inl (none, is)) (inl (_, same)) = (is ∙ sym same, λ goes_on. absurd (cc (ap (λ n. n.last) is)))
first_once given bytes next other rest left (inl (none, is)) (inr (head, after, heads, framed)) = absurd (none head after heads)
first_once given bytes next other rest left (inr (head, after, heads, framed)) (inl (none, is)) = absurd (none head after heads)
first_once given bytes next other rest left (inr (head, after, heads, framed)) (inr (head', after', heads', framed')) =
    let (same, behind) = heads_once bytes head head' after after' heads heads' in
    framed_once given head after (framing head) next other rest left framed
    (subst (λ h. Framed given h after (framing h) other left) (sym same) (subst (λ a. Framed given head' a (framing head') other left) (sym behind) framed'))

firsts_once : (before : ℕ) (bytes : List ℕ) (xs ys : List Next) (d e : Bool) (rest left : List ℕ)
    → Firsts before bytes xs d rest → Firsts before bytes ys e left → (d ≡ false → rest ≡ []) → (e ≡ false → left ≡ []) → xs ≡ ys
firsts_once before bytes [] [] d e rest left p q a b = refl
firsts_once before bytes [] (y ∷ ys) d e rest left p q a b = absurd (let none : length bytes ≡ 0 = ap length (sym p.1 ∙ a p.0) in omega (arith, q.0))
firsts_once before bytes (x ∷ xs) [] d e rest left p q a b = absurd (let none : length bytes ≡ 0 = ap length (sym q.1 ∙ b q.0) in omega (arith, p.0))
firsts_once before bytes (x ∷ xs) (y ∷ ys) d e rest left (_, mid, first, p) (_, mid', first', q) a b =
    let (same, behind) = first_once before bytes x y mid mid' first first' in
    by_last x.last y.last refl (ap (λ n. n.last) same) same (λ goes_on h k. firsts_once (before + 1) mid xs ys d e rest left h (subst (λ m. Firsts (before + 1) m ys e left) (sym (behind goes_on)) k) a b) p q
  where
    by_last : (s t : Bool) → x.last ≡ s → s ≡ t → x ≡ y → (x.last ≡ false → Firsts (before + 1) mid xs d rest → Firsts (before + 1) mid' ys e left → xs ≡ ys)
        → MatchBool s ((xs ≡ []) × (d ≡ true)) (Firsts (before + 1) mid xs d rest) → MatchBool t ((ys ≡ []) × (e ≡ true)) (Firsts (before + 1) mid' ys e left) → x ∷ xs ≡ y ∷ ys
    by_last true true is _ same step p q = λ i. same i ∷ (p.0 ∙ sym q.0) i
    by_last true false is h same step p q = absurd (cc)
    by_last false true is h same step p q = absurd (cc)
    by_last false false is _ same step p q = λ i. same i ∷ step is p q i

-- what is left behind requests is one, where the stream goes on
rest_once : (before : ℕ) (bytes : List ℕ) (done : List Next) (rest left : List ℕ) → Firsts before bytes done false rest → Firsts before bytes done false left → rest ≡ left
rest_once before bytes [] rest left p q = p.1 ∙ sym q.1
rest_once before bytes (next ∷ done) rest left (_, mid, first, p) (_, mid', first', q) =
    let (_, behind) = first_once before bytes next next mid mid' first first' in
    by_last next.last refl (λ goes_on h k. rest_once (before + 1) mid done rest left h (subst (λ m. Firsts (before + 1) m done false left) (sym (behind goes_on)) k)) p q
  where
    by_last : (last : Bool) → next.last ≡ last → (next.last ≡ false → Firsts (before + 1) mid done false rest → Firsts (before + 1) mid' done false left → rest ≡ left)
        → MatchBool last ((done ≡ []) × (false ≡ true)) (Firsts (before + 1) mid done false rest)
        → MatchBool last ((done ≡ []) × (false ≡ true)) (Firsts (before + 1) mid' done false left) → rest ≡ left
    by_last true is step (_, h) k = absurd (cc)
    by_last false is step h k = step is h k

-- so where bytes are left behind them, none is no rest
pub some_left : (bytes : List ℕ) (done : List Next) (rest : List ℕ) → Firsts 0 bytes done false rest → 0 < length rest → Firsts 0 bytes done false [] → ⊥
some_left bytes done rest firsts some none = let same : length rest ≡ 0 = ap length (rest_once 0 bytes done rest [] firsts none) in omega arith

-- bytes have their requests once
pub requests_once : (bytes : List ℕ) (xs ys : List Next) → Requests bytes xs → Requests bytes ys → xs ≡ ys
requests_once bytes xs ys p q = firsts_once 0 bytes xs ys p.ended q.ended p.rest q.rest p.firsts q.firsts p.all q.all

-- ---- there are heads, so empty bytes may still become one

abbrev example : RequestHead
example = record { blank = []; method = 71 ∷ []; target = 47 ∷ []; minor = 1; line_end = lf; fields = []; last = lf }

example_reads : ReadsRequest (print_request example) example []
unfolding print_request is_token_byte lib.Utf8.encode
example_reads = (
  record {
    method = (omega arith, All-cons (λ b. IsTrue (is_token_byte b)) 71 [] refl (All-nil (λ b. IsTrue (is_token_byte b))));
    target = (omega arith, All-cons (λ b. IsTrue (is_uri_byte b)) 47 [] refl (All-nil (λ b. IsTrue (is_uri_byte b))));
    target_text = (47 ∷ [], (refl, refl));
    minor = omega arith;
    fields = All-nil IsField;
  },
  refl,
)

pub never_empty : NeverHasHead [] → ⊥
unfolding print_request
never_empty never = never (print_request example) example [] (record { reads = example_reads; few = omega arith; short = omega arith })

-- ---- more bytes leave a request as it is, unless the stream ends with it

more_framed : (given : ℕ) (head : RequestHead) (after more : List ℕ) (r : Result (Option ℕ) Check) (next : Next) (rest : List ℕ)
    → Framed given head after r next rest → next.last ≡ false → Framed given head (after ++ more) r next (rest ++ more)
more_framed given head after more (Err check) next rest p goes_on = absurd (cc (ap (λ n. n.last) p))
more_framed given head after more (Ok stated) next rest p goes_on = by_size (nat_le (size_of stated) (length after)) refl p
  where
    by_size : (b : Bool) → nat_le (size_of stated) (length after) ≡ b → MatchBool b ((next ≡ asked given head stated (take (size_of stated) after)) × (rest ≡ drop (size_of stated) after)) (next ≡ refused head BadRequest)
        → MatchBool (nat_le (size_of stated) (length (after ++ more))) ((next ≡ asked given head stated (take (size_of stated) (after ++ more))) × (rest ++ more ≡ drop (size_of stated) (after ++ more))) (next ≡ refused head BadRequest)
    by_size true is x =
        let fits : size_of stated ≤ length after = leb-true (size_of stated) (length after) is in
        subst (λ b. MatchBool b ((next ≡ asked given head stated (take (size_of stated) (after ++ more))) × (rest ++ more ≡ drop (size_of stated) (after ++ more))) (next ≡ refused head BadRequest))
        (sym (le-leb (size_of stated) (length (after ++ more)) (omega (arith, length-append after more))))
        (x.0 ∙ ap (asked given head stated) (sym (take-append-le (size_of stated) after more fits)), ap (λ l. l ++ more) x.1 ∙ sym (drop-append-le (size_of stated) after more fits))
    by_size false is x = absurd (cc (ap (λ n. n.last) x))

first_more : (given : ℕ) (bytes more : List ℕ) (next : Next) (rest : List ℕ) → First given bytes next rest → next.last ≡ false → First given (bytes ++ more) next (rest ++ more)
first_more given bytes more next rest (inl (none, is)) goes_on = absurd (cc (ap (λ n. n.last) is))
first_more given bytes more next rest (inr (head, after, heads, framed)) goes_on =
    inr (head, after ++ more, heads_more bytes head after more heads, more_framed given head after more (framing head) next rest framed goes_on)

pub firsts_more : (before : ℕ) (bytes more : List ℕ) (done : List Next) (rest : List ℕ) → Firsts before bytes done false rest → Firsts before (bytes ++ more) done false (rest ++ more)
firsts_more before bytes more [] rest (ended, is) = (ended, ap (λ l. l ++ more) is)
firsts_more before bytes more (next ∷ done) rest (has, mid, first, others) =
    let (mid', both) = by_last next.last refl (λ h. firsts_more (before + 1) mid more done rest h) others in
    (omega (arith, length-append bytes more), mid', both.0, both.1)
  where
    by_last : (last : Bool) → next.last ≡ last → (Firsts (before + 1) mid done false rest → Firsts (before + 1) (mid ++ more) done false (rest ++ more))
        → MatchBool last ((done ≡ []) × (false ≡ true)) (Firsts (before + 1) mid done false rest)
        → (after : List ℕ) × (First before (bytes ++ more) next after × MatchBool last ((done ≡ []) × (false ≡ true)) (Firsts (before + 1) after done false (rest ++ more)))
    by_last true is on (_, h) = absurd (cc)
    by_last false is on h = (mid ++ more, (first_more before bytes more next mid first is, on h))
