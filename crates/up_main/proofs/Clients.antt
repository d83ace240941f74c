-- What serving many clients and operators comes to: all that is done, one after another.
use Rattle.std.proofs.Common.{◌≡◌, inl, inr, ℕ, zero, suc, List, [], ◌∷◌, Bool, refl, sym, subst, ◌∙◌, arith}
use Rattle.std.specs.Prelude.{◌⊎◌}
use Rattle.sqlite.specs.Tree.{Trees}
use Rattle.sqlite.proofs.StateLemmas.{survives_then}
use Rattle.sqlite_trees.specs.View.{doubt}
use Rattle.sqlite_trees.specs.declared.store.Store.{Ghosts}
use Rattle.up_sign.specs.Schemes.{Rules}
use Rattle.up_heads.specs.Responses.{refusal_response_of}
use Rattle.up_machine.specs.Laws.{RefusalsChangeNothing}
use Rattle.up_machine.specs.RepeatLaws.{ServedIsThinned}
use Rattle.up_machine.specs.Repeats.{serve}
use Rattle.up_machine.specs.Sound.{IsSound}
use Rattle.up_machine.specs.State.{State}
use Rattle.up_records.specs.Standing.{HoldsState, Standing, HasCleanDisk, IfClean, ShowsState, state}
use Rattle.up_desk.specs.Desks.{DeskView}
use Rattle.up_service.specs.LineAnswers.{Line}
use Rattle.up_service.specs.Responses.{answer_response}
use Rattle.up_service.specs.Runs.{Lasts, HoldsSome, after, behind, told}
use Rattle.up_service.specs.Scripts.{LinesLast}
use Rattle.up_service.specs.Streams.{request_service}
use Rattle.up_service.specs.Together.{AreParts, IsPart, LinesAsOne, Part, alone, as_one}
use Rattle.up_service.proofs.Answering.{survives_same}
use Rattle.up_service.proofs.Failing.{responses_apart}
use Rattle.up_service.proofs.Lasting.{FaultsChangeNothing, lasts_one}
use Rattle.up_service.proofs.LastingRuns.{fault_told, requests_calm, requests_serve, told_serve}
use Rattle.up_sockets.specs.Served.{Done, Single, Group, Lines, Steps}
use Rattle.up_main.specs.Clients.{AllLast, AllStay, ClientsLast, Does, HoldsOne, PartStays, behind_all, command_service, part_of}
use Rattle.up_main.specs.Clients as clients
use Rattle.up_main.proofs.Groups.{group_lasts}

-- a command that tells a fault changes nothing
commands_calm : RefusalsChangeNothing → (last head : Bool) (k : Rules) → FaultsChangeNothing (command_service last head k)
commands_calm law last head k s c tells =
    let it = fault_told (command_service last head k) (record { item = c; text = answer_response (serve k s c.0 c.1).answer last head }) tells in
    told_serve law (λ r. refusal_response_of r last head) (λ answer. answer_response answer last head) (responses_apart last head) k s c.0 c.1 it.0 it.1 it.2

-- ---- what was done, and what follows

-- the state that the tables show then; over a disk that isn't clean any sound state stands for it
record Shown (k : Rules) (is : State) (mid : Standing) : Type 0 where
  at : State
  sound : IsSound k at
  shown : IfClean (ShowsState at) mid
  here : HasCleanDisk mid → at ≡ is

shown_or : (k : Rules) (s is : State) (mid : Standing) → (HasCleanDisk mid → (at : State) × (at ≡ is) × IsSound k at × ShowsState at mid) → IsSound k s → Shown k is mid
shown_or k s is mid shows sound = by_disk (doubt mid.connection.is_clean) refl
  where
    by_disk : (d : ℕ) → doubt mid.connection.is_clean ≡ d → Shown k is mid
    by_disk zero now =
        let it = shows now in
        record { at = it.0; sound = it.2; shown = λ _. it.3; here = λ _. it.1 }
    by_disk (suc d) other = record { at = s; sound = sound; shown = λ now. absurd (omega (arith, now, other)); here = λ now. absurd (omega (arith, now, other)) }

module _ (parts : Done → clients.Part) (k : Rules) where
  pub none_last : (s : State) (now : Standing) → IsSound k s → IfClean (ShowsState s) now → AllLast parts k s [] now now
  none_last s now sound was = record {
    due = λ clean. tt;
    shown = λ clean. (sound, was clean);
    crash = survives_same (HoldsOne parts s []) now;
    durable = λ clean. tt;
  }

  pub more_last : (d : Done) (ds : List Done) (s : State) (old mid new : Standing) → (parts d).service.rules ≡ k → Lasts (parts d).service s (parts d).met [] old mid
      → ((t : State) → IsSound k t → IfClean (ShowsState t) mid → AllLast parts k t ds mid new)
      → IsSound k s → AllLast parts k s (d ∷ ds) old new
  more_last d ds s old mid new same first rest sound = record {
    due = λ now. (first.due (clean now), subst (λ t. clients.AllDue parts t ds) (b.here (clean now)) (it.due now));
    shown = λ now. subst (λ t. IsSound k (behind_all parts t ds) × ShowsState (behind_all parts t ds) new) (b.here (clean now)) (it.shown now);
    crash = survives_then old.connection mid.connection new.connection (HoldsSome (parts d).service s (parts d).met []) (HoldsOne parts b.at ds) (HoldsOne parts s (d ∷ ds))
        (λ now trees made. inl made) (λ now trees made. inr (subst (λ t. HoldsOne parts t ds trees) (b.here (clean now)) made)) first.crash it.crash;
    durable = λ now. (stays now, subst (λ t. AllStay parts t ds new) (b.here (clean now)) (it.durable now));
  }
    where
      behind_it : State
      behind_it = after (parts d).service s (parts d).met

      b : Shown k behind_it mid
      b = shown_or k s behind_it mid
          (λ now. let at = first.shown now in (at.0, at.1, subst (λ r. IsSound r at.0) same at.2, at.3)) sound

      it : AllLast parts k b.at ds mid new
      it = rest b.at b.sound b.shown

      clean : HasCleanDisk new → HasCleanDisk mid
      clean now = let before : HasCleanDisk mid = omega (arith, it.crash.clean, now) in before

      stays : HasCleanDisk new → PartStays (parts d).service s (parts d).met (HoldsOne parts behind_it ds) new
      stays now before later m made = λ trees may. by_crash trees (it.crash.crash now trees may)
        where
          at_m : State
          at_m = behind (parts d).service (after (parts d).service s before) m

          by_first : (trees : Trees) → HoldsState at_m trees ⊎ HoldsSome (parts d).service at_m later [] trees
              → HoldsState at_m trees ⊎ HoldsSome (parts d).service at_m later [] trees ⊎ HoldsOne parts behind_it ds trees
          by_first trees (inl held) = inl held
          by_first trees (inr held) = inr (inl held)

          by_crash : (trees : Trees) → mid.connection.may_leave trees ⊎ HoldsOne parts b.at ds trees
              → HoldsState at_m trees ⊎ HoldsSome (parts d).service at_m later [] trees ⊎ HoldsOne parts behind_it ds trees
          by_crash trees (inl earlier) = by_first trees (first.durable before later m made (clean now) trees earlier)
          by_crash trees (inr held) = inr (inr (subst (λ t. HoldsOne parts t ds trees) (b.here (clean now)) held))

-- ---- each step

module _ {K D : Type 0} (rules : K → Rules) (g : Ghosts D) (law : RefusalsChangeNothing) (thin : ServedIsThinned) (lines_last : LinesLast rules g) (last head : Bool) where
  -- the scheme stays
  part_scheme : (old new : DeskView K D) (p : Part) → IsPart (Line rules g) (LinesAsOne rules g) old p new → new.scheme ≡ old.scheme
  part_scheme old new p (alone line text is gave) = gave.0
  part_scheme old new p (as_one count gave) = gave.called.0

  parts_scheme : (ps : List Part) (old new : DeskView K D) → AreParts (Line rules g) (LinesAsOne rules g) old ps new → new.scheme ≡ old.scheme
  parts_scheme [] old new parts = subst (λ (d : DeskView K D). d.scheme ≡ old.scheme) (sym parts) refl
  parts_scheme (p ∷ ps) old new parts = parts_scheme ps parts.0 new parts.2 ∙ part_scheme old parts.0 p parts.1

  pub done_scheme : (d : Done) (old new : DeskView K D) → Does rules g old d new → new.scheme ≡ old.scheme
  done_scheme (Single at next text) old new h = (requests_serve rules g at old new next text h).0
  done_scheme (Group commands answers) old new h = h.0
  done_scheme (Lines lines texts) old new h = parts_scheme h.parts old new h.told

  of_rules : (k : Rules) (d : Done) → (part_of last head k d).service.rules ≡ k
  of_rules k (Single at next text) = refl
  of_rules k (Group commands answers) = refl
  of_rules k (Lines lines texts) = refl

  pub done_last : (d : Done) (old new : DeskView K D) → Does rules g old d new → (s : State) → IsSound (rules old.scheme) s → IfClean (ShowsState s) (state g old.store)
      → Lasts (part_of last head (rules old.scheme) d).service s (part_of last head (rules old.scheme) d).met [] (state g old.store) (state g new.store)
  done_last (Single at next text) old new h s sound was =
      lasts_one (request_service (rules old.scheme) at) (requests_calm law (rules old.scheme) at) s (record { item = next; text = text }) (state g old.store) (state g new.store)
      (requests_serve rules g at old new next text h).1 sound was
  done_last (Group commands answers) old new h s sound was =
      group_lasts last head (rules old.scheme) (commands_calm law last head (rules old.scheme)) thin s commands answers (state g old.store) (state g new.store) h.1 sound was
  done_last (Lines lines texts) old new h s sound was = lines_last lines texts [] old new new h refl s sound was

  steps_last : (q : K) (done : List Done) (old new : DeskView K D) → old.scheme ≡ q → Steps (Does rules g) old done new → (s : State) → IsSound (rules q) s → IfClean (ShowsState s) (state g old.store)
      → AllLast (part_of last head (rules q)) (rules q) s done (state g old.store) (state g new.store)
  steps_last q [] old new same steps s sound was =
      subst (λ (d : DeskView K D). AllLast (part_of last head (rules q)) (rules q) s [] (state g old.store) (state g d.store)) (sym steps)
      (none_last (part_of last head (rules q)) (rules q) s (state g old.store) sound was)
  steps_last q (d ∷ done) old new same steps s sound was =
      more_last (part_of last head (rules q)) (rules q) d done s (state g old.store) (state g steps.0.store) (state g new.store) (of_rules (rules q) d) (one same s sound was)
      (λ t sound_t was_t. steps_last q done steps.0 new (done_scheme d old steps.0 steps.1 ∙ same) steps.2 t sound_t was_t) sound
    where
      one : {p : K} → old.scheme ≡ p → (t : State) → IsSound (rules p) t → IfClean (ShowsState t) (state g old.store)
          → Lasts (part_of last head (rules p) d).service t (part_of last head (rules p) d).met [] (state g old.store) (state g steps.0.store)
      one {p} is = subst (λ z. (t : State) → IsSound (rules z) t → IfClean (ShowsState t) (state g old.store)
          → Lasts (part_of last head (rules z) d).service t (part_of last head (rules z) d).met [] (state g old.store) (state g steps.0.store)) is (done_last d old steps.0 steps.1)

  -- a disk that is clean behind all of it was so behind the first
  pub clean_between : (q : K) (d : Done) (done : List Done) (old mid new : DeskView K D) → old.scheme ≡ q → Does rules g old d mid → Steps (Does rules g) mid done new → HasCleanDisk (state g new.store)
      → (s : State) → IsSound (rules q) s → IfClean (ShowsState s) (state g old.store) → HasCleanDisk (state g mid.store)
  clean_between q d done old mid new same first rest clean s sound was =
      let p = part_of last head (rules q) d in
      let it : Lasts p.service s p.met [] (state g old.store) (state g mid.store) = here same s sound was in
      let b : Shown (rules q) (after p.service s p.met) (state g mid.store) = shown_or (rules q) s (after p.service s p.met) (state g mid.store)
      (λ now. let at = it.shown now in (at.0, at.1, subst (λ r. IsSound r at.0) (of_rules (rules q) d) at.2, at.3)) sound in
      let all = steps_last q done mid new (done_scheme d old mid first ∙ same) rest b.at b.sound b.shown in
      omega (arith, all.crash.clean, clean)
    where
      here : {p : K} → old.scheme ≡ p → (t : State) → IsSound (rules p) t → IfClean (ShowsState t) (state g old.store)
          → Lasts (part_of last head (rules p) d).service t (part_of last head (rules p) d).met [] (state g old.store) (state g mid.store)
      here {p} is = subst (λ z. (t : State) → IsSound (rules z) t → IfClean (ShowsState t) (state g old.store)
          → Lasts (part_of last head (rules z) d).service t (part_of last head (rules z) d).met [] (state g old.store) (state g mid.store)) is (done_last d old mid first)

-- ---- all of it

pub clients_last : {K D : Type 0} → RefusalsChangeNothing → ServedIsThinned → (rules : K → Rules) (g : Ghosts D) → LinesLast rules g → ClientsLast rules g
clients_last law thin rules g lines_last done old new steps last head s sound was = steps_last rules g law thin lines_last last head old.scheme done old new refl steps s sound was
