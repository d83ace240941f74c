-- Scripts and streams are lists of steps, of which the same lasts.
use Rattle.std.proofs.Common.{◌≡◌, inl, inr, ℕ, List, [], ◌∷◌, ◌++◌, Bool, length, length-append, refl, sym, ap, subst, arith}
use Rattle.std.specs.Prelude.{◌⊎◌}
use Rattle.sqlite.specs.Tree.{Trees}
use Rattle.sqlite.proofs.StateLemmas.{survives_weaker}
use Rattle.sqlite_trees.specs.declared.store.Store.{Ghosts}
use Rattle.up_sign.specs.Schemes.{Rules}
use Rattle.up_machine.specs.State.{State}
use Rattle.up_lines.specs.Runs.{Run}
use Rattle.up_http.specs.declared.asked.Next.{Next}
use Rattle.up_records.specs.Standing.{HoldsState, Standing, LeavesOnly, state}
use Rattle.up_desk.specs.Desks.{DeskView}
use Rattle.up_service.specs.Answers.{IsCommitted}
use Rattle.up_service.specs.Responses.{Responses}
use Rattle.up_service.specs.Runs.{Service, Told, AreDue, HoldsSome, IsAnsweredCommit, Lasts, after, behind, told}
use Rattle.up_service.specs.Scripts.{line_service}
use Rattle.up_service.specs.Streams.{request_service}
use Rattle.up_sockets.specs.Served.{Done, Lines, Steps}
use Rattle.up_main.specs.Alike.{ScriptsAndStreamsAreSteps, singles}
use Rattle.up_main.specs.Clients.{AllDue, AllLast, AllStay, Does, HoldsOne, Part, behind_all, part_of}

-- ---- they are steps

requests_are_steps : {K D : Type 0} (rules : K → Rules) (g : Ghosts D) (at : ℕ) (old new : DeskView K D) (nexts : List Next) (texts : List (List ℕ)) → Run (Responses rules g at) old nexts texts new
    → Steps (Does rules g) old (singles at nexts texts) new
requests_are_steps rules g at old new [] [] run = run
requests_are_steps rules g at old new [] (text ∷ texts) run = absurd run
requests_are_steps rules g at old new (next ∷ nexts) [] run = absurd run
requests_are_steps rules g at old new (next ∷ nexts) (text ∷ texts) run = (run.0, run.1, requests_are_steps rules g at run.0 new nexts texts run.2)

module _ (last head : Bool) (k : Rules) where
  abbrev parts : Done → Part
  parts = part_of last head k

  -- ---- lines of a script

  lines_last : (s : State) (old new : Standing) (lines texts : List (List ℕ)) → AllLast parts k s (Lines lines texts ∷ []) old new → Lasts (line_service k) s (told lines texts) [] old new
  lines_last s old new lines texts all = record {
    due = λ clean. (all.due clean).0;
    shown = λ clean. let it = all.shown clean in (after (line_service k) s (told lines texts), refl, it.0, it.1);
    crash = survives_weaker old.connection new.connection (HoldsOne parts s (Lines lines texts ∷ [])) (HoldsSome (line_service k) s (told lines texts) []) (λ clean trees held. held_one trees held) all.crash;
    durable = λ before rest m made clean trees may. held_then (behind (line_service k) (after (line_service k) s before) m) rest trees ((all.durable clean).0 before rest m made trees may);
  }
    where
      held_one : (trees : Trees) → HoldsOne parts s (Lines lines texts ∷ []) trees → HoldsSome (line_service k) s (told lines texts) [] trees
      held_one trees (inl held) = held
      held_one trees (inr none) = absurd none

      held_then : (t : State) (rest : List (Told (List ℕ))) (trees : Trees) → HoldsState t trees ⊎ HoldsSome (line_service k) t rest [] trees ⊎ HoldsOne parts (after (line_service k) s (told lines texts)) [] trees
          → HoldsState t trees ⊎ HoldsSome (line_service k) t rest [] trees
      held_then t rest trees (inl held) = inl held
      held_then t rest trees (inr (inl held)) = inr held
      held_then t rest trees (inr (inr none)) = absurd none

  -- ---- requests of a stream

  module _ (at : ℕ) where
    abbrev v : Service Next
    v = request_service k at

    abbrev met : Next → List ℕ → Told Next
    met next text = record { item = next; text = text }

    dues : (s : State) (nexts : List Next) (texts : List (List ℕ)) → AllDue parts s (singles at nexts texts) → AreDue v s (told nexts texts)
    dues s [] texts due = tt
    dues s (next ∷ nexts) [] due = tt
    dues s (next ∷ nexts) (text ∷ texts) due = (due.0.0, dues (behind v s (met next text)) nexts texts due.1)

    same_state : (s : State) (nexts : List Next) (texts : List (List ℕ)) → behind_all parts s (singles at nexts texts) ≡ after v s (told nexts texts)
    same_state s [] texts = refl
    same_state s (next ∷ nexts) [] = refl
    same_state s (next ∷ nexts) (text ∷ texts) = same_state (behind v s (met next text)) nexts texts

    holds : (s : State) (nexts : List Next) (texts : List (List ℕ)) (trees : Trees) → HoldsOne parts s (singles at nexts texts) trees → HoldsSome v s (told nexts texts) [] trees
    holds s [] texts trees none = absurd none
    holds s (next ∷ nexts) [] trees none = absurd none
    holds s (next ∷ nexts) (text ∷ texts) trees (inl (is, inl made, held)) = (is, inl made, held)
    holds s (next ∷ nexts) (text ∷ texts) trees (inl (is, inr none, held)) = absurd none
    holds s (next ∷ nexts) (text ∷ texts) trees (inr later) = let it = holds (behind v s (met next text)) nexts texts trees later in (it.0, inr it.1, it.2)

    stays : (s : State) (nexts : List Next) (texts : List (List ℕ)) (new : Standing) → AllStay parts s (singles at nexts texts) new
        → (before rest : List (Told Next)) (m : Told Next) → IsAnsweredCommit v s (told nexts texts) before rest m
        → LeavesOnly (λ trees. HoldsState (behind v (after v s before) m) trees ⊎ HoldsSome v (behind v (after v s before) m) rest [] trees) new
    stays s [] texts new all before rest m made = absurd (omega (arith, ap length made.list, length-append before (m ∷ rest)))
    stays s (next ∷ nexts) [] new all before rest m made = absurd (omega (arith, ap length made.list, length-append before (m ∷ rest)))
    stays s (next ∷ nexts) (text ∷ texts) new all [] rest m made = λ trees may.
        by_crash trees (all.0 [] [] m (record { list = ap (λ (q : Told Next). q ∷ []) first; answered = made.answered; commit = made.commit }) trees may)
      where
        first : met next text ≡ m
        first = let e = made.list in cc

        others : told nexts texts ≡ rest
        others = let e = made.list in cc

        by_crash : (trees : Trees) → HoldsState (behind v s m) trees ⊎ HoldsSome v (behind v s m) [] [] trees ⊎ HoldsOne parts (behind v s (met next text)) (singles at nexts texts) trees
            → HoldsState (behind v s m) trees ⊎ HoldsSome v (behind v s m) rest [] trees
        by_crash trees (inl held) = inl held
        by_crash trees (inr (inl (is, none, held))) = absurd none
        by_crash trees (inr (inr later)) =
            inr (subst (λ (l : List (Told Next)). HoldsSome v (behind v s m) l [] trees) others
            (subst (λ (q : Told Next). HoldsSome v (behind v s q) (told nexts texts) [] trees) first (holds (behind v s (met next text)) nexts texts trees later)))
    stays s (next ∷ nexts) (text ∷ texts) new all (b ∷ before) rest m made =
        let first : met next text ≡ b = (let e = made.list in cc) in
        let others : told nexts texts ≡ before ++ m ∷ rest = (let e = made.list in cc) in
        subst (λ (q : Told Next). LeavesOnly (λ trees. HoldsState (behind v (after v (behind v s q) before) m) trees ⊎ HoldsSome v (behind v (after v (behind v s q) before) m) rest [] trees) new) first
        (stays (behind v s (met next text)) nexts texts new all.1 before rest m (record {
          list = others;
          answered = made.answered;
          commit = subst (λ (q : Told Next). IsCommitted (after v (behind v s q) before) (v.answer (after v (behind v s q) before) m.item).called (v.answer (after v (behind v s q) before) m.item).next) (sym first) made.commit;
        }))

    requests_last : (s : State) (old new : Standing) (nexts : List Next) (texts : List (List ℕ)) → AllLast parts k s (singles at nexts texts) old new → Lasts v s (told nexts texts) [] old new
    requests_last s old new nexts texts all = record {
      due = λ clean. dues s nexts texts (all.due clean);
      shown = λ clean. let it = all.shown clean in (behind_all parts s (singles at nexts texts), same_state s nexts texts, it.0, it.1);
      crash = survives_weaker old.connection new.connection (HoldsOne parts s (singles at nexts texts)) (HoldsSome v s (told nexts texts) []) (λ clean trees held. holds s nexts texts trees held) all.crash;
      durable = λ before rest m made clean. stays s nexts texts new (all.durable clean) before rest m made;
    }

-- ---- both

pub alike : {K D : Type 0} (rules : K → Rules) (g : Ghosts D) → ScriptsAndStreamsAreSteps rules g
alike rules g = (
  record { lines = λ old new lines texts h. (new, h, refl); requests = requests_are_steps rules g },
  λ last head k s old new. record {
    lines = λ lines texts all. lines_last last head k s (state g old.store) (state g new.store) lines texts all;
    requests = λ at nexts texts all. requests_last last head k at s (state g old.store) (state g new.store) nexts texts all;
  },
)
