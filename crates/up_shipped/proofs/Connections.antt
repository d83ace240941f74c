-- What many connections and operators' scripts ask of one desk is one run of the plain machine.
use Rattle.std.proofs.Common.{◌≡◌, ◌⊎◌, inl, inr, ℕ, List, [], ◌∷◌, ◌++◌, map, Bool, true, false, Option, Some, None, length, refl, sym, ap, ◌∙◌, subst, arith}
use Rattle.std.specs.Prelude.{flat_map, ◌==◌, if◌then◌else◌, MatchBool}
use Rattle.std.specs.List.{AllByRecursion}
use Rattle.std.proofs.lemmas.Bool.{eqb-false}
use Rattle.std.proofs.Math.Logic.{∥∥₁_map}
use Rattle.sqlite_disk.specs.declared.Disk.{Ghosts as DiskGhosts}
use Rattle.sqlite.specs.Files.{over_files, file_state}
use Rattle.sqlite.specs.Tree.{Trees}
use Rattle.sqlite_trees.specs.declared.store.Store.{Ghosts}
use Rattle.up_sign.specs.Schemes.{Rules}
use Rattle.up_machine.specs.Commands.{is_command}
use Rattle.up_machine.specs.Laws.{RefusalsChangeNothing}
use Rattle.up_machine.specs.RepeatLaws.{ServedIsThinned}
use Rattle.up_machine.specs.Repeats.{Met, Sent, expected, meet, serve}
use Rattle.up_machine.specs.Repeats as machine
use Rattle.up_machine.specs.Sound.{IsSound}
use Rattle.up_machine.specs.State.{State}
use Rattle.up_machine.specs.declared.answer.Answer.{Answer}
use Rattle.up_machine.specs.declared.command.Command.{Command}
use Rattle.up_http.specs.Feeding.{Fed, Feeds, Ends}
use Rattle.up_http.specs.Serving.{Gives}
use Rattle.up_http.specs.Talks.{Event, Came, Ended, Told, Wrote, ConversationsKeepOrder, asked_at}
use Rattle.up_http.specs.declared.asked.Next.{Next}
use Rattle.up_lines.specs.Runs.{listed}
use Rattle.up_rows.specs.StateRows.{rows_of_state}
use Rattle.up_records.specs.Standing.{HoldsState, Standing, HasCleanDisk, IfClean, ShowsState, state}
use Rattle.up_desk.specs.Desks.{DeskView}
use Rattle.up_desk.specs.Runs.{ServesEach, sent, timed, unless_failed}
use Rattle.up_desk.specs.Serving.{IsAnswered, is_failed}
use Rattle.up_desk.proofs.Runs.{ListLaws, ran_all}
use Rattle.up_service.specs.Responses.{answer_response}
use Rattle.up_service.specs.Runs.{HoldsSome, IsMadeBySome, Lasts, Service, after, behind, told}
use Rattle.up_service.specs.Runs as runs
use Rattle.up_service.specs.Scripts.{LinesLast, line_service}
use Rattle.up_service.specs.Streams.{request_service}
use Rattle.up_connections.specs.Lines.{Line, HappensTo, fresh}
use Rattle.up_sockets.specs.Served.{Done, Single, Group, Lines, Steps}
use Rattle.up_sockets.specs.Apart.{AllHappen, AllLines, Alone, Answered, Does as Deeds, Happening, HappensOnce, Member, On, Script, Tells, Together, answered_in, answered_of, answered_on, done_in, events_at, events_on, nothing, own, texts_told, told_of}
use Rattle.up_sockets.proofs.Apart.{apart}
use Rattle.up_main.specs.Clients.{AllStay, ClientsLast, Does, HoldsOne, Part, PartStays, behind_all, part_of}
use Rattle.up_main.proofs.Clients.{clean_between, done_last, done_scheme}
use Rattle.up_shipped.specs.Shipped.{lines_ask, requests_ask}
use Rattle.up_shipped.specs.Connections.{ConnectionsAreRuns, IsMadeByOne, ReopenedAll, TellsAll, TellsAt, commands_at, commands_of}
use Rattle.up_shipped.proofs.Fitting.{first_fits, lines_fit}
use Rattle.up_shipped.proofs.Items.{Fits, all_called}
use Rattle.up_shipped.proofs.Shipped.{lines_agree, lines_count, requests_agree}

-- ---- what they ask is within the limits of commands

-- the request that is given next
fed_fits : (t : ℕ) (old : Fed) (piece : List ℕ) (taken : ℕ) (next : Option Next) (new : Fed) → Feeds old piece taken next new → AllByRecursion (Fits (requests_ask t)) (listed next)
fed_fits t old piece taken None new h = tt
fed_fits t old piece taken (Some next) new h = by_end old.ended refl
  where
    by_end : (b : Bool) → old.ended ≡ b → AllByRecursion (Fits (requests_ask t)) (next ∷ [])
    by_end true is = let none = (h.over is).1 in absurd (cc)
    by_end false is = (first_fits t old.given _ [] next ((h.going_on is).5 []), tt)

end_fits : (t : ℕ) (old : Fed) (next : Option Next) (new : Fed) → Ends old next new → AllByRecursion (Fits (requests_ask t)) (listed next)
end_fits t old None new h = tt
end_fits t old (Some next) new h = (first_fits t old.given old.rest [] next h.3, tt)

given_fits : {S : Type 0} (t : ℕ) (gives : Gives S) (s : S) (old : Line) (e : Event) (now : S) (new : Line) → HappensTo gives s old e now new → AllByRecursion (Fits (requests_ask t)) (asked_at e)
given_fits t gives s old (Came piece taken next) now new h = fed_fits t old.talk.fed piece taken next new.talk.fed h.0.1.feeds
given_fits t gives s old (Ended next) now new h = end_fits t old.talk.fed next new.talk.fed h.0.1.ends
given_fits t gives s old (Told text) now new h = tt
given_fits t gives s old (Wrote bytes) now new h = tt

both : {A : Type 0} (P : A → Type 0) (xs ys : List A) → AllByRecursion P xs → AllByRecursion P ys → AllByRecursion P (xs ++ ys)
both P [] ys first rest = rest
both P (x ∷ xs) ys first rest = (first.0, both P xs ys first.1 rest)

first_ones : {A : Type 0} (P : A → Type 0) (xs ys : List A) → AllByRecursion P (xs ++ ys) → AllByRecursion P xs
first_ones P [] ys all = tt
first_ones P (x ∷ xs) ys all = (all.0, first_ones P xs ys all.1)

-- all that one connection gave
module _ {S : Type 0} (does : S → Done → S → Type 0) (tells : Tells) (at : ℕ → ℕ) where
  given_at : (n : ℕ) (x : Happening) (s : S) (old : AllLines) (now : S) (new : AllLines) (more : List Event) → HappensOnce does tells at s old x now new
      → AllByRecursion (Fits (requests_ask (at n))) (flat_map asked_at more) → AllByRecursion (Fits (requests_ask (at n))) (flat_map asked_at (events_at tells n x ++ more))
  given_at n (On m e) s old now new more h rest = by_number (m == n)
    where
      by_number : (b : Bool) → AllByRecursion (Fits (requests_ask (at n))) (flat_map asked_at ((if b then e ∷ [] else []) ++ more))
      by_number true = both (Fits (requests_ask (at n))) (asked_at e) (flat_map asked_at more) (given_fits (at n) nothing s (old m) e now (new m) h.changed) rest
      by_number false = rest
  given_at n (Deeds d) s old now new more h rest = by_texts (texts_told (own n (answered_of tells d)))
    where
      by_texts : (texts : List (List ℕ)) → AllByRecursion (Fits (requests_ask (at n))) (flat_map asked_at (map Told texts ++ more))
      by_texts [] = rest
      by_texts (text ∷ texts) = by_texts texts

  all_given : (n : ℕ) (xs : List Happening) (s : S) (old : AllLines) (now : S) (new : AllLines) → AllHappen does tells at s old xs now new
      → AllByRecursion (Fits (requests_ask (at n))) (flat_map asked_at (events_on tells n xs))
  all_given n [] s old now new h = tt
  all_given n (x ∷ xs) s old now new (mid, lines, here, rest) = given_at n x s old mid lines (events_on tells n xs) here (all_given n xs mid lines now new rest)

-- so those that were answered, of each connection
abbrev FitsAt : (ℕ → ℕ) → Answered → Type 0
FitsAt at a = Fits (requests_ask (at a.number)) a.request

each_fits : (at : ℕ → ℕ) (rs : List Answered) → ((n : ℕ) → AllByRecursion (Fits (requests_ask (at n))) (map (λ a. a.request) (own n rs))) → AllByRecursion (FitsAt at) rs
each_fits at [] h = tt
each_fits at (a ∷ more) h = (here (a.number == a.number) refl (h a.number), each_fits at more (λ n. later n (a.number == n) (h n)))
  where
    here : (b : Bool) → (a.number == a.number) ≡ b → AllByRecursion (Fits (requests_ask (at a.number))) (map (λ a. a.request) (if b then a ∷ own a.number more else own a.number more)) → FitsAt at a
    here true is h = h.0
    here false is h = absurd (eqb-false a.number a.number is refl)

    later : (n : ℕ) (b : Bool) → AllByRecursion (Fits (requests_ask (at n))) (map (λ a. a.request) (if b then a ∷ own n more else own n more))
        → AllByRecursion (Fits (requests_ask (at n))) (map (λ a. a.request) (own n more))
    later n true h = h.1
    later n false h = h

-- so what is done
abbrev DoneFits : Done → Type 0
DoneFits (Single at next text) = Fits (requests_ask at) next
DoneFits (Group commands answers) = AllByRecursion (λ (c : ℕ × Command). is_command c.1 ≡ true) commands
DoneFits (Lines lines texts) = Unit {0}

group_fits : (at : ℕ → ℕ) (tells : Tells) (ms : List Member) (more : List Answered) → AllByRecursion (FitsAt at) (map (told_of tells) ms ++ more)
    → AllByRecursion (λ (c : ℕ × Command). is_command c.1 ≡ true) (map (λ m. (at m.number, m.command)) ms) × AllByRecursion (FitsAt at) more
group_fits at tells [] more all = (tt, all)
group_fits at tells (m ∷ ms) more all = let rest = group_fits at tells ms more all.1 in ((all.0 (at m.number, m.command) refl, rest.0), rest.1)

done_fits : (at : ℕ → ℕ) (tells : Tells) (xs : List Happening) → AllByRecursion (FitsAt at) (flat_map (answered_in tells) xs) → AllByRecursion DoneFits (done_in at xs)
done_fits at tells [] all = tt
done_fits at tells (On n e ∷ xs) all = done_fits at tells xs all
done_fits at tells (Deeds (Alone a) ∷ xs) all = (all.0, done_fits at tells xs all.1)
done_fits at tells (Deeds (Together ms) ∷ xs) all = let it = group_fits at tells ms (flat_map (answered_in tells) xs) all in (it.0, done_fits at tells xs it.1)
done_fits at tells (Deeds (Script lines texts) ∷ xs) all = (tt, done_fits at tells xs all)

-- ---- what is done at once is a run

serves_both : (k : Rules) (old mid new : State) (cs ds : List (ℕ × Command)) (rs qs : List Answer) → ServesEach k old cs rs mid → ServesEach k mid ds qs new → ServesEach k old (cs ++ ds) (rs ++ qs) new
serves_both k old mid new [] ds [] qs first later = subst (λ s. ServesEach k s ds qs new) first later
serves_both k old mid new [] ds (a ∷ rs) qs first later = absurd first
serves_both k old mid new (c ∷ cs) ds [] qs first later = absurd first
serves_both k old mid new (c ∷ cs) ds (a ∷ rs) qs first later = (first.0, first.1, first.2, serves_both k first.0 mid new cs ds rs qs first.3 later)

some_is : {A : Type 0} (x y : A) → Some x ≡ Some y → x ≡ y
some_is x y h = cc

heads_of : {A : Type 0} (x y : A) (xs ys : List A) → x ∷ xs ≡ y ∷ ys → (x ≡ y) × (xs ≡ ys)
heads_of x y xs ys h = (cc, cc)

answered_is : (k : Rules) (s : State) (c : ℕ × Command) (a : Answer) → unless_failed a ≡ (meet k s (record { item = timed c; lost = is_failed a })).answer
    → IsAnswered a s (meet k s (record { item = timed c; lost = is_failed a })).next (serve k s c.0 c.1)
answered_is k s c a same = by_loss (is_failed a) refl
  where
    met : Bool → Met
    met b = meet k s (record { item = timed c; lost = b })

    by_loss : (b : Bool) → is_failed a ≡ b → IsAnswered a s (met (is_failed a)).next (serve k s c.0 c.1)
    by_loss true is = subst (λ b. MatchBool b ((met b).next ≡ s) ((a ≡ (serve k s c.0 c.1).answer) × ((met b).next ≡ (serve k s c.0 c.1).next))) (sym is) refl
    by_loss false is =
        let given : Some a ≡ Some (serve k s c.0 c.1).answer = sym (ap (λ (b : Bool). if◌then◌else◌ {A = Option Answer} b None (Some a)) is) ∙ same ∙ ap (λ b. (met b).answer) is in
        subst (λ b. MatchBool b ((met b).next ≡ s) ((a ≡ (serve k s c.0 c.1).answer) × ((met b).next ≡ (serve k s c.0 c.1).next))) (sym is) (some_is a (serve k s c.0 c.1).answer given, refl)

serves_of : (k : Rules) (s : State) (cs : List (ℕ × Command)) (answers : List Answer) → length answers ≡ length cs → map unless_failed answers ≡ expected k s (sent cs answers)
    → AllByRecursion (λ (c : ℕ × Command). is_command c.1 ≡ true) cs → ServesEach k s cs answers (machine.after k s (sent cs answers))
serves_of k s [] [] count told fits = refl
serves_of k s [] (a ∷ answers) count told fits = absurd (omega (arith, count))
serves_of k s (c ∷ cs) [] count told fits = absurd (omega (arith, count))
serves_of k s (c ∷ cs) (a ∷ answers) count told fits =
    let x : Sent = record { item = timed c; lost = is_failed a } in
    let same = heads_of (unless_failed a) (meet k s x).answer (map unless_failed answers) (expected k (meet k s x).next (sent cs answers)) told in
    ((meet k s x).next, answered_is k s c a same.0, fits.0, serves_of k (meet k s x).next cs answers (omega (arith, count)) same.1 fits.1)

record Ran (k : Rules) (s : State) (d : Done) (new : Standing) : Type 0 where
  answers : List Answer
  told_so : TellsAt k d answers
  next : State
  ran : ServesEach k s (commands_at k d) answers next
  sound : IsSound k next
  shown : ShowsState next new

record AllRan (k : Rules) (s : State) (done : List Done) (new : Standing) : Type 0 where
  answers : List Answer
  told_so : TellsAll k done answers
  next : State
  ran : ServesEach k s (commands_of k done) answers next
  sound : IsSound k next
  shown : ShowsState next new

module _ {K D : Type 0} (rules : K → Rules) (g : Ghosts D) (law : RefusalsChangeNothing) (thin : ServedIsThinned) (lines_last : LinesLast rules g) where
  done_ran : (d : Done) (old new : DeskView K D) → Does rules g old d new → DoneFits d → HasCleanDisk (state g new.store)
      → (s : State) → IsSound (rules old.scheme) s → IfClean (ShowsState s) (state g old.store) → Ran (rules old.scheme) s d (state g new.store)
  done_ran (Single at next text) old new h fits clean s sound was =
      let k = rules old.scheme in
      let it : Lasts (request_service k at) s (told (next ∷ []) (text ∷ [])) [] (state g old.store) (state g new.store) =
      done_last rules g law thin lines_last false false (Single at next text) old new h s sound was in
      let all = all_called (request_service k at) (requests_ask at) (requests_agree k at) s (next ∷ []) (text ∷ []) (fits, tt) refl (it.due clean) in
      let shown = it.shown clean in
      record {
        answers = all.answers;
        told_so = all.tell;
        next = after (request_service k at) s (told (next ∷ []) (text ∷ []));
        ran = all.ran;
        sound = subst (IsSound k) shown.1 shown.2;
        shown = subst (λ q. ShowsState q (state g new.store)) shown.1 shown.3;
      }
  done_ran (Group commands answers) old new h fits clean s sound was =
      let k = rules old.scheme in
      let it = h.1.ran clean s sound was in
      record {
        answers = answers;
        told_so = refl;
        next = machine.after k s (sent commands answers);
        ran = subst (λ (l : List Answer). ServesEach k s commands l (machine.after k s (sent commands l))) (sym h.1.appended) (serves_of k s commands h.1.told it.1.count it.1.told fits);
        sound = subst (λ (l : List Answer). IsSound k (machine.after k s (sent commands l))) (sym h.1.appended) (subst (IsSound k) (it.1.state ∙ sym (thin k s (sent commands h.1.told))) it.2);
        shown = subst (λ (l : List Answer). ShowsState (machine.after k s (sent commands l)) (state g new.store)) (sym h.1.appended)
            (subst (λ q. ShowsState q (state g new.store)) (it.1.state ∙ sym (thin k s (sent commands h.1.told))) it.3);
      }
  done_ran (Lines lines texts) old new h fits clean s sound was =
      let k = rules old.scheme in
      let it : Lasts (line_service k) s (told lines texts) [] (state g old.store) (state g new.store) = done_last rules g law thin lines_last false false (Lines lines texts) old new h s sound was in
      let all = all_called (line_service k) (lines_ask k) (lines_agree k) s lines texts (lines_fit k lines) (lines_count rules g old new lines texts h) (it.due clean) in
      let shown = it.shown clean in
      record {
        answers = all.answers;
        told_so = all.tell;
        next = after (line_service k) s (told lines texts);
        ran = all.ran;
        sound = subst (IsSound k) shown.1 shown.2;
        shown = subst (λ q. ShowsState q (state g new.store)) shown.1 shown.3;
      }

  all_ran : (q : K) (done : List Done) (old new : DeskView K D) → old.scheme ≡ q → Steps (Does rules g) old done new → AllByRecursion DoneFits done → HasCleanDisk (state g new.store)
      → (s : State) → IsSound (rules q) s → IfClean (ShowsState s) (state g old.store) → AllRan (rules q) s done (state g new.store)
  all_ran q [] old new same steps fits clean s sound was =
      record {
        answers = [];
        told_so = refl;
        next = s;
        ran = refl;
        sound = sound;
        shown = subst (λ (d : DeskView K D). ShowsState s (state g d.store)) (sym steps)
            (was (subst (λ (d : DeskView K D). HasCleanDisk (state g d.store)) steps clean));
      }
  all_ran q (d ∷ done) old new same steps fits clean s sound was =
      let k = rules q in
      let mid_clean : HasCleanDisk (state g steps.0.store) = clean_between rules g law thin lines_last false false q d done old steps.0 new same steps.1 steps.2 clean s sound was in
      let one : Ran k s d (state g steps.0.store) = here same s sound was mid_clean in
      let rest = all_ran q done steps.0 new (done_scheme rules g law thin lines_last false false d old steps.0 steps.1 ∙ same) steps.2 fits.1 clean one.next one.sound (λ _. one.shown) in
      record {
        answers = one.answers ++ rest.answers;
        told_so = (one.answers, rest.answers, refl, one.told_so, rest.told_so);
        next = rest.next;
        ran = serves_both k s one.next rest.next (commands_at k d) (commands_of k done) one.answers rest.answers one.ran rest.ran;
        sound = rest.sound;
        shown = rest.shown;
      }
    where
      here : {p : K} → old.scheme ≡ p → (t : State) → IsSound (rules p) t → IfClean (ShowsState t) (state g old.store) → HasCleanDisk (state g steps.0.store) → Ran (rules p) t d (state g steps.0.store)
      here {p} is = subst (λ z. (t : State) → IsSound (rules z) t → IfClean (ShowsState t) (state g old.store) → HasCleanDisk (state g steps.0.store) → Ran (rules z) t d (state g steps.0.store)) is
          (λ t sound_t was_t clean_t. done_ran d old steps.0 steps.1 fits.0 clean_t t sound_t was_t)

-- ---- all of it

pub connections : {K D : Type 0} → ListLaws → RefusalsChangeNothing → ConversationsKeepOrder → (rules : K → Rules) (g : Ghosts D) → LinesLast rules g → ClientsLast rules g → ConnectionsAreRuns rules g
connections laws law order rules g lines_last clients_last at first now xs new happen clean s sound was =
    let k = rules first.scheme in
    let it = apart (Does rules g) answer_response at order first now xs new happen in
    let fits : AllByRecursion (FitsAt at) (flat_map (answered_in answer_response) xs) =
    each_fits at (flat_map (answered_in answer_response) xs) (λ n. first_ones (Fits (requests_ask (at n))) (map (λ a. a.request) (answered_on answer_response n xs)) (listed (new n).asks)
    (subst (λ (l : List Next). AllByRecursion (Fits (requests_ask (at n))) l) (it.requests n) (all_given (Does rules g) answer_response at n xs first (λ n. fresh) now new happen))) in
    let ran = all_ran rules g law laws.served lines_last first.scheme (done_in at xs) first now refl it.steps (done_fits at answer_response xs fits) clean s sound was in
    record {
      apart = it;
      run = record {
        answers = ran.answers;
        told = ran.told_so;
        behind = ran.next;
        run = ran_all laws k s (commands_of k (done_in at xs)) ran.answers ran.next sound ran.ran;
        sound = ran.sound;
        shown = ran.shown;
        lasts = clients_last (done_in at xs) first now it.steps;
      };
    }

-- ---- what an open finds

module _ (last head : Bool) (k : Rules) where
  abbrev parts : Done → Part
  parts = part_of last head k

  stays_at : (s : State) (before rest : List Done) (d : Done) (new : Standing) → AllStay parts s (before ++ d ∷ rest) new
      → PartStays (parts d).service (behind_all parts s before) (parts d).met (HoldsOne parts (after (parts d).service (behind_all parts s before) (parts d).met) rest) new
  stays_at s [] rest d new stay = stay.0
  stays_at s (b ∷ before) rest d new stay = stays_at (after (parts b).service s (parts b).met) before rest d new stay.1

  made_by_one : (s : State) (ds : List Done) (trees : Trees) → HoldsOne parts s ds trees → (at : State) × IsMadeByOne parts s ds at × HoldsState at trees
  made_by_one s [] trees none = absurd none
  made_by_one s (d ∷ ds) trees (inl held) = (held.0, inl held.1, held.2)
  made_by_one s (d ∷ ds) trees (inr later) = let it = made_by_one (after (parts d).service s (parts d).met) ds trees later in (it.0, inr it.1, it.2)

  stays_or_made : {I : Type 0} (v : Service I) (there : State) (later : List (runs.Told I)) (s : State) (ds : List Done) (trees : Trees)
      → HoldsState there trees ⊎ HoldsSome v there later [] trees ⊎ HoldsOne parts s ds trees
      → (at : State) × ((at ≡ there) ⊎ IsMadeBySome v there later [] at ⊎ IsMadeByOne parts s ds at) × HoldsState at trees
  stays_or_made v there later s ds trees (inl held) = (there, inl refl, held)
  stays_or_made v there later s ds trees (inr (inl held)) = (held.0, inr (inl held.1), held.2)
  stays_or_made v there later s ds trees (inr (inr held)) = let it = made_by_one s ds trees held in (it.0, inr (inr it.1), it.2)

pub reopened_all : {D : Type 0} (g : DiskGhosts D) → ReopenedAll g
reopened_all g last head k s before rest d old new lasts first later m made clean stopped again whole left may opened opens found =
    let f = again whole left may opened opens found in
    let p = part_of last head k d in
    let start = behind_all (part_of last head k) s before in
    ∥∥₁_map f.left (λ r.
    let held = stays_or_made last head k p.service (behind p.service (after p.service start first) m) later (after p.service start p.met) rest (file_state opened).committed.trees
    (stays_at last head k s before rest d (state over_files new) (lasts.durable clean) first later m made (file_state opened).committed.trees r) in
    (held.0, held.1, f.shown (rows_of_state held.0) held.2))
