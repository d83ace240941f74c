-- What happens on many connections is, for each, what happens to it alone.
use Rattle.std.proofs.Common.{◌≡◌, inl, inr, ℕ, Bool, true, false, eqb-true, List, [], ◌∷◌, ◌++◌, append-nil, append_assoc, filter, map, Option, Some, None, refl, sym, ap, ◌∙◌, subst}
use Rattle.std.proofs.lemmas.Bool.{eqb-false}
use Rattle.std.proofs.lemmas.List.{map-append}
use Rattle.std.proofs.lemmas.List.Concat.{flat_map-append}
use Rattle.std.proofs.lemmas.List.Elements.{filter-append}
use Rattle.std.specs.Prelude.{◌⊎◌, ⊤, flat_map, if◌then◌else◌, is_some, ◌==◌}
use Rattle.up_lines.specs.Runs.{listed}
use Rattle.up_http.specs.Talks.{Event, Talk, Came, Ended, Told, Wrote, Happen, ConversationsKeepOrder, asked_at, answered_at}
use Rattle.up_http.specs.declared.asked.Next.{Next}
use Rattle.up_http.proofs.TalkLaws.{reads}
use Rattle.up_connections.specs.Lines.{Line, HappensTo, fresh}
use Rattle.up_sockets.specs.Served.{Done, Steps}
use Rattle.up_sockets.specs.Apart.{AllHappen, AllLines, Answered, AreAnswered, AreApart, AreToldButLast, Does, Happening, HappensOnce, IsAnswered, On, Tells, answered_in, answered_of, answered_on, done_in, events_at, events_on, nothing, own, texts_told}

-- a request waits only where the conversation says so
abbrev IsTrueTo : Line → Type 0
IsTrueTo l = is_some l.asks ≡ true → l.talk.asking ≡ true

none_asked : (l : Line) → IsTrueTo l → l.talk.asking ≡ false → l.asks ≡ None
none_asked l was is = by_asks l.asks refl
  where
    by_asks : (o : Option Next) → l.asks ≡ o → l.asks ≡ None
    by_asks None h = h
    by_asks (Some next) h = absurd (let no : true ≡ false = sym (was (ap is_some h)) ∙ is in cc)

none_waits : (l : Line) → l.asks ≡ None → IsTrueTo l
none_waits l none some = absurd (let no : false ≡ true = sym (ap is_some none) ∙ some in cc)

abbrev requests_of : List Answered → List Next
requests_of rs = map (λ a. a.request) rs

told_both : (rs bs : List Answered) → texts_told (rs ++ bs) ≡ texts_told rs ++ texts_told bs
told_both rs bs = ap (map (λ a. a.text)) (filter-append (λ a. a.told) rs bs) ∙ map-append (λ a. a.text) (filter (λ a. a.told) rs) (filter (λ a. a.told) bs)

-- nothing more is answered on it
abbrev IsDead : Line → Type 0
IsDead l = (l.asks ≡ None) × (l.talk.asking ≡ true)

abbrev AllTold : List Answered → Type 0
AllTold [] = ⊤
AllTold (a ∷ more) = (a.told ≡ true) × AllTold more

all_told_both : (rs bs : List Answered) → AllTold rs → AllTold bs → AllTold (rs ++ bs)
all_told_both [] bs h i = i
all_told_both (a ∷ rs) bs h i = (h.0, all_told_both rs bs h.1 i)

last_both : (rs bs : List Answered) → AllTold rs → AreToldButLast bs → AreToldButLast (rs ++ bs)
last_both [] bs h i = i
last_both (a ∷ rs) bs h i = inl (h.0, last_both rs bs h.1 i)

-- ---- one connection

-- only the last answer may not be told, and behind that nothing is answered
record Ends (old : Line) (rs : List Answered) (new : Line) : Type 0 where
  dead : IsDead old → (rs ≡ []) × IsDead new
  last : AreToldButLast rs
  ends : AllTold rs ⊎ IsDead new

ends_none : (old new : Line) → new ≡ old → Ends old [] new
ends_none old new is = subst (λ l. Ends old [] l) (sym is) (record { dead = λ d. (refl, d); last = tt; ends = inl tt })

ends_both : (rs bs : List Answered) (old mid new : Line) → Ends old rs mid → Ends mid bs new → Ends old (rs ++ bs) new
ends_both rs bs old mid new first later = by_ends first.ends
  where
    by_later : AllTold rs → AllTold bs ⊎ IsDead new → AllTold (rs ++ bs) ⊎ IsDead new
    by_later all (inl more) = inl (all_told_both rs bs all more)
    by_later all (inr dead) = inr dead

    dies : IsDead old → (rs ++ bs ≡ []) × IsDead new
    dies d =
        let one = first.dead d in
        let two = later.dead one.1 in
        (ap (λ l. l ++ bs) one.0 ∙ two.0, two.1)

    by_ends : AllTold rs ⊎ IsDead mid → Ends old (rs ++ bs) new
    by_ends (inl all) = record { dead = dies; last = last_both rs bs all later.last; ends = by_later all later.ends }
    by_ends (inr dead) =
        let two = later.dead dead in
        record { dead = dies; last = subst AreToldButLast (sym (ap (λ l. rs ++ l) two.0 ∙ append-nil rs)) first.last; ends = inr two.1 }

ends_on : {S : Type 0} (s now : S) (old new : Line) (e : Event) → HappensTo nothing s old e now new → Ends old [] new
ends_on s now old new (Came piece taken next) h = record { dead = λ d. absurd (let no : true ≡ false = sym d.1 ∙ (reads old.talk h.0.0).asks in cc); last = tt; ends = inl tt }
ends_on s now old new (Ended next) h = record { dead = λ d. absurd (let no : true ≡ false = sym d.1 ∙ (reads old.talk h.0.0).asks in cc); last = tt; ends = inl tt }
ends_on s now old new (Told text) h = absurd h.4
ends_on s now old new (Wrote bytes) h = record { dead = λ d. (refl, (h.1 ∙ d.0, ap (λ t. t.asking) h.0.2 ∙ d.1)); last = tt; ends = inl tt }

ends_answered : (a : Answered) (old new : Line) → IsTrueTo old → old.asks ≡ Some a.request → IsAnswered a.told a old new → Ends old (a ∷ []) new
ends_answered a old new was asks h =
    record { dead = λ d. absurd (let no : ◌≡◌ {A = Option Next} None (Some a.request) = sym d.0 ∙ asks in cc); last = inr refl; ends = by_told a.told refl h }
  where
    by_told : (b : Bool) → a.told ≡ b → IsAnswered b a old new → AllTold (a ∷ []) ⊎ IsDead new
    by_told true is h = inl (is, tt)
    by_told false is h = inr (ap (λ l. l.asks) h, ap (λ l. l.talk.asking) h ∙ was (ap is_some asks))

-- these events, in which it gives its requests; those that are answered; and what it is told
record Goes (old : Line) (es : List Event) (rs : List Answered) (new : Line) : Type 0 where
  true_to : IsTrueTo new
  talks : Happen old.talk es new.talk
  requests : listed old.asks ++ flat_map asked_at es ≡ requests_of rs ++ listed new.asks
  answers : flat_map answered_at es ≡ texts_told rs
  ends : Ends old rs new

goes_none : (old new : Line) → IsTrueTo old → new ≡ old → Goes old [] [] new
goes_none old new was is = subst (λ l. Goes old [] [] l) (sym is) (record { true_to = was; talks = refl; requests = append-nil (listed old.asks); answers = refl; ends = ends_none old old refl })

happen_both : (es fs : List Event) (old mid new : Talk) → Happen old es mid → Happen mid fs new → Happen old (es ++ fs) new
happen_both [] fs old mid new first later = subst (λ t. Happen t fs new) first later
happen_both (e ∷ es) fs old mid new first later = (first.0, first.1, happen_both es fs first.0 mid new first.2 later)

goes_both : (es fs : List Event) (rs bs : List Answered) (old mid new : Line) → Goes old es rs mid → Goes mid fs bs new → Goes old (es ++ fs) (rs ++ bs) new
goes_both es fs rs bs old mid new first later = record {
  true_to = later.true_to;
  talks = happen_both es fs old.talk mid.talk new.talk first.talks later.talks;
  requests = ap (λ l. listed old.asks ++ l) (flat_map-append asked_at es fs) ∙ sym (append_assoc (listed old.asks) (flat_map asked_at es) (flat_map asked_at fs))
      ∙ ap (λ l. l ++ flat_map asked_at fs) first.requests ∙ append_assoc (requests_of rs) (listed mid.asks) (flat_map asked_at fs)
      ∙ ap (λ l. requests_of rs ++ l) later.requests ∙ sym (append_assoc (requests_of rs) (requests_of bs) (listed new.asks))
      ∙ ap (λ l. l ++ listed new.asks) (sym (map-append (λ a. a.request) rs bs));
  answers = flat_map-append answered_at es fs ∙ ap (λ l. l ++ flat_map answered_at fs) first.answers ∙ ap (λ l. texts_told rs ++ l) later.answers ∙ sym (told_both rs bs);
  ends = ends_both rs bs old mid new first.ends later.ends;
}

goes_on : {S : Type 0} (s now : S) (old new : Line) (e : Event) → HappensTo nothing s old e now new → IsTrueTo old → Goes old (e ∷ []) [] new
goes_on s now old new (Came piece taken next) h was = record {
  true_to = λ some. h.0.1.asks ∙ ap is_some (sym h.1) ∙ some;
  talks = (new.talk, h.0, refl);
  requests = ap (λ o. listed o ++ (listed next ++ [])) (none_asked old was (reads old.talk h.0.0).asks) ∙ append-nil (listed next) ∙ ap listed (sym h.1);
  answers = refl;
  ends = ends_on s now old new (Came piece taken next) h;
}
goes_on s now old new (Ended next) h was = record {
  true_to = λ some. h.0.1.asks ∙ ap is_some (sym h.1) ∙ some;
  talks = (new.talk, h.0, refl);
  requests = ap (λ o. listed o ++ (listed next ++ [])) (none_asked old was (reads old.talk h.0.0).asks) ∙ append-nil (listed next) ∙ ap listed (sym h.1);
  answers = refl;
  ends = ends_on s now old new (Ended next) h;
}
goes_on s now old new (Told text) h was = absurd h.4
goes_on s now old new (Wrote bytes) h was = record {
  true_to = λ some. ap (λ t. t.asking) h.0.2 ∙ was (ap is_some (sym h.1) ∙ some);
  talks = (new.talk, h.0, refl);
  requests = append-nil (listed old.asks) ∙ ap listed (sym h.1);
  answers = refl;
  ends = ends_on s now old new (Wrote bytes) h;
}

-- a request that waited is answered
goes_answered : (a : Answered) (old new : Line) → IsTrueTo old → old.asks ≡ Some a.request → IsAnswered a.told a old new → Goes old (map Told (texts_told (a ∷ []))) (a ∷ []) new
goes_answered a old new was asks h = by_told a.told refl h
  where
    by_told : (b : Bool) → a.told ≡ b → IsAnswered b a old new → Goes old (map Told (texts_told (a ∷ []))) (a ∷ []) new
    by_told true is h = subst (λ l. Goes old (map Told l) (a ∷ []) new) (sym (ap (λ b. map (λ x. x.text) (if b then a ∷ [] else [])) is)) (record {
      true_to = none_waits new h.1;
      talks = (new.talk, h.0, refl);
      requests = ap (λ o. listed o ++ []) asks ∙ ap (λ o. a.request ∷ listed o) (sym h.1);
      answers = sym (ap (λ b. map (λ x. x.text) (if b then a ∷ [] else [])) is);
      ends = ends_answered a old new was asks (subst (λ b. IsAnswered b a old new) (sym is) h);
    })
    by_told false is h = subst (λ l. Goes old (map Told l) (a ∷ []) new) (sym (ap (λ b. map (λ x. x.text) (if b then a ∷ [] else [])) is)) (record {
      true_to = none_waits new (ap (λ l. l.asks) h);
      talks = ap (λ l. l.talk) h;
      requests = ap (λ o. listed o ++ []) asks ∙ ap (λ o. a.request ∷ listed o) (sym (ap (λ l. l.asks) h));
      answers = sym (ap (λ b. map (λ x. x.text) (if b then a ∷ [] else [])) is);
      ends = ends_answered a old new was asks (subst (λ b. IsAnswered b a old new) (sym is) h);
    })

-- those of them that were its own
goes_answered_all : (rs : List Answered) (old new : AllLines) (n : ℕ) → AreAnswered rs old new → IsTrueTo (old n) → Goes (old n) (map Told (texts_told (own n rs))) (own n rs) (new n)
goes_answered_all [] old new n h was = goes_none (old n) (new n) was (h n)
goes_answered_all (a ∷ rs) old new n h was = by_number (goes_answered_all rs h.0 new n h.2) (a.number == n) refl
  where
    by_number : (IsTrueTo (h.0 n) → Goes (h.0 n) (map Told (texts_told (own n rs))) (own n rs) (new n)) → (b : Bool) → (a.number == n) ≡ b
        → Goes (old n) (map Told (texts_told (if b then a ∷ own n rs else own n rs))) (if b then a ∷ own n rs else own n rs) (new n)
    by_number more true is =
        let same : a.number ≡ n = eqb-true a.number n is in
        let one : Goes (old n) (map Told (texts_told (a ∷ []))) (a ∷ []) (h.0 n) =
        subst (λ m. Goes (old m) (map Told (texts_told (a ∷ []))) (a ∷ []) (h.0 m)) same
        (goes_answered a (old a.number) (h.0 a.number) (subst (λ m. IsTrueTo (old m)) (sym same) was) h.1.changed.0 h.1.changed.1) in
        subst (λ es. Goes (old n) es (a ∷ own n rs) (new n))
        (sym (ap (map Told) (told_both (a ∷ []) (own n rs)) ∙ map-append Told (texts_told (a ∷ [])) (texts_told (own n rs))))
        (goes_both (map Told (texts_told (a ∷ []))) (map Told (texts_told (own n rs))) (a ∷ []) (own n rs) (old n) (h.0 n) (new n) one (more one.true_to))
    by_number more false is =
        let same : h.0 n ≡ old n = h.1.others n (λ e. eqb-false a.number n is (sym e)) in
        subst (λ l. Goes l (map Told (texts_told (own n rs))) (own n rs) (new n)) same (more (subst IsTrueTo (sym same) was))

module _ {S : Type 0} (does : S → Done → S → Type 0) (tells : Tells) (at : ℕ → ℕ) where
  goes_once : (s now : S) (old new : AllLines) (x : Happening) (n : ℕ) → HappensOnce does tells at s old x now new → IsTrueTo (old n)
      → Goes (old n) (events_at tells n x) (own n (answered_in tells x)) (new n)
  goes_once s now old new (On m e) n h was = by_number (m == n) refl
    where
      by_number : (b : Bool) → (m == n) ≡ b → Goes (old n) (if b then e ∷ [] else []) [] (new n)
      by_number true is =
          let same : m ≡ n = eqb-true m n is in
          subst (λ k. Goes (old k) (e ∷ []) [] (new k)) same (goes_on s now (old m) (new m) e h.changed (subst (λ k. IsTrueTo (old k)) (sym same) was))
      by_number false is = goes_none (old n) (new n) was (h.others n (λ e. eqb-false m n is (sym e)))
  goes_once s now old new (Does d) n h was = goes_answered_all (answered_of tells d) old new n h.1 was

  goes_all : (xs : List Happening) (s now : S) (old new : AllLines) (n : ℕ) → AllHappen does tells at s old xs now new → IsTrueTo (old n)
      → Goes (old n) (events_on tells n xs) (answered_on tells n xs) (new n)
  goes_all [] s now old new n h was = goes_none (old n) (new n) was (h.1 n)
  goes_all (x ∷ xs) s now old new n (mid, lines, here, rest) was =
      let one = goes_once s mid old lines x n here was in
      subst (λ rs. Goes (old n) (events_at tells n x ++ events_on tells n xs) rs (new n)) (sym (filter-append (λ a. a.number == n) (answered_in tells x) (flat_map (answered_in tells) xs)))
      (goes_both (events_at tells n x) (events_on tells n xs) (own n (answered_in tells x)) (answered_on tells n xs) (old n) (lines n) (new n) one
      (goes_all xs mid now lines new n rest one.true_to))

  -- what is done of the state is one list
  steps_of : (xs : List Happening) (s now : S) (old new : AllLines) → AllHappen does tells at s old xs now new → Steps does s (done_in at xs) now
  steps_of [] s now old new h = h.0
  steps_of (x ∷ xs) s now old new (mid, lines, here, rest) = by_kind x here (steps_of xs mid now lines new rest)
    where
      stays : (m : ℕ) (e : Event) → HappensTo nothing s (old m) e mid (lines m) → mid ≡ s
      stays m (Came piece taken next) h = h.2
      stays m (Ended next) h = h.2
      stays m (Told text) h = absurd h.4
      stays m (Wrote bytes) h = h.2

      by_kind : (x : Happening) → HappensOnce does tells at s old x mid lines → Steps does mid (done_in at xs) now → Steps does s (done_in at (x ∷ xs)) now
      by_kind (On m e) here more = subst (λ z. Steps does z (done_in at xs) now) (stays m e here.changed) more
      by_kind (Does d) here more = (mid, here.0, more)

  pub apart : ConversationsKeepOrder → (s now : S) (xs : List Happening) (new : AllLines) → AllHappen does tells at s (λ n. fresh) xs now new → AreApart does tells at s xs now new
  apart keeps s now xs new h = record {
    steps = steps_of xs s now (λ n. fresh) new h;
    requests = λ n. (goes n).requests;
    answers = λ n. (goes n).answers;
    last = λ n. (goes n).ends.last;
    order = λ n. keeps (events_on tells n xs) (new n).talk (goes n).talks;
  }
    where
      goes : (n : ℕ) → Goes fresh (events_on tells n xs) (answered_on tells n xs) (new n)
      goes n = goes_all xs s now (λ n. fresh) new n h (λ some. absurd (let no : false ≡ true = some in cc))
