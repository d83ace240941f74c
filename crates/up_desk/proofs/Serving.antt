-- What is due is what a command over the rows comes to.
use Rattle.std.proofs.Common.{◌≡◌, ℕ, ◌<◌, ◌≤◌, List, Bool, true, false, Option, Some, None, Result, Ok, Err, refl, sym, ap, ◌∙◌, subst, arith}
use Rattle.std.specs.Prelude.{⊤, nat_le, nat_lt, if◌then◌else◌, codes, length, IfErr, IfSome, option_and_then, MatchBool, IsTrue}
use Rattle.std.specs.Borrow.{MutBor}
use Rattle.std.specs.List.{list_all}
use Rattle.std.proofs.lemmas.Bool.Decides.{nat_tests}
use Rattle.up_canon.specs.JsonText.{value_within}
use Rattle.up_canon.specs.Moments.{last_command_moment}
use Rattle.up_canon.specs.Steps.{and_then, refuse_if, unless, value_of}
use Rattle.up_canon.specs.declared.refusal.Refusal.{Refusal}
use Rattle.up_canon.specs.declared.refusal.Refusal.TheVariants.{Store, MomentOutOfRange, TooLarge, BadShape}
use Rattle.up_canon.proofs.Steps.{bind-ok, bind-err}
use Rattle.up_sign.specs.Schemes.{Rules}
use Rattle.up_manifest.specs.Manifests.{largest_body, incoming_in}
use Rattle.up_machine.specs.declared.command.Command.{Command}
use Rattle.up_machine.specs.declared.command.Command.TheVariants.{Found, Rotate, AddImage, Refresh, AddVehicle, ReplaceEcu, OpenCampaign, CloseCampaign, Deliver, Fetch}
use Rattle.up_machine.specs.declared.vehicle.Replacement.{Replacement}
use Rattle.up_machine.specs.declared.answer.Answer.{Answer}
use Rattle.up_machine.specs.declared.answer.Answer.TheVariants.{Reply as Replied, Refused}
use Rattle.up_machine.specs.Vehicles.{NewVehicleData, public_fits}
use Rattle.up_machine.specs.Commands.{is_command}
use Rattle.sqlite.specs.Held.{Held}
use Rattle.sqlite.specs.Tree.{Trees}
use Rattle.sqlite_trees.specs.declared.store.Store.{Ghosts}
use Rattle.sqlite_trees.specs.View.{doubt}
use Rattle.up_machine.specs.Laws.{EmptyIsSound}
use Rattle.up_machine.specs.State.{State, empty_state}
use Rattle.up_machine.specs.Replies.{reply_to}
use Rattle.up_machine.specs.Deciding.{Outcome, check_moment}
use Rattle.up_machine.specs.Repositories.{decide_found, decide_rotate, decide_image, decide_refresh, decide_fetch}
use Rattle.up_machine.specs.Inventory.{decide_vehicle, decide_replace, decide_open, decide_close}
use Rattle.up_machine.specs.Deliveries.{Received, receive_manifest, receive, decide_received, decide_delivery}
use Rattle.up_machine.specs.Decisions.{resolve, decide_incoming}
use Rattle.up_machine.specs.Machine.{decide, outcome_of, step}
use Rattle.up_machine.specs.Repeats.{KeptEntry, repeat_in, repeat_of, served_as, serve}
use Rattle.up_machine.specs.Sound.{IsSound}
use Rattle.up_machine.specs.RepeatLaws.{ServedStaysSound}
use Rattle.up_machine.proofs.Fetched.{in_time}
use Rattle.up_records.specs.declared.catalog.Catalog.{Catalog}
use Rattle.up_records.specs.Connected.{is_fault}
use Rattle.up_records.specs.Standing.{HasCleanDisk, HoldsState, IfClean, LeavesOnly, ShowsState, Standing, Survives}
use Rattle.up_records.specs.Senders.{RefusesUnread}
use Rattle.up_desk.specs.declared.carried.Carried.{Carried}
use Rattle.up_desk.specs.Carrying.{CarriesIn}
use Rattle.up_desk.specs.Serving.{CarriesOut, IsAnswered, IsBlamed, IsCommit, Leaves, Serves, is_failed, outcome_due, outright, outright_in_time, told}
use Rattle.up_records.proofs.Reading.{survives_same}

-- ---- the moment

late_test : (at : ℕ) → last_command_moment < at → nat_lt last_command_moment at ≡ true
late_test at h = grind (arith, nat_tests)

pub in_time_test : (at : ℕ) → at ≤ last_command_moment → nat_lt last_command_moment at ≡ false
in_time_test at h = grind (arith, nat_tests)

too_late : (at : ℕ) → last_command_moment < at → check_moment at ≡ Err MomentOutOfRange
too_late at h = ap (λ t. refuse_if t MomentOutOfRange) (late_test at h)

pub late_due : (k : Rules) (s : State) (at : ℕ) (c : Command) → last_command_moment < at → outcome_due k s at c ≡ Err MomentOutOfRange
unfolding decide_found decide_rotate decide_image decide_refresh decide_fetch decide_vehicle decide_replace decide_open decide_close
late_due k s at (Found keys) h = bind-err _ _ _ (too_late at h)
late_due k s at (Rotate keys) h = bind-err _ _ _ (too_late at h)
late_due k s at (AddImage image) h = bind-err _ _ _ (too_late at h)
late_due k s at (Refresh version) h = bind-err _ _ _ (too_late at h)
late_due k s at (AddVehicle new) h = bind-err _ _ _ (too_late at h)
late_due k s at (ReplaceEcu new) h = bind-err _ _ _ (too_late at h)
late_due k s at (OpenCampaign campaign) h = bind-err _ _ _ (too_late at h)
late_due k s at (CloseCampaign name) h = bind-err _ _ _ (too_late at h)
late_due k s at (Deliver body) h = bind-err _ _ _ (too_late at h)
late_due k s at (Fetch repository name) h = bind-err _ _ _ (too_late at h)

pub delivery_served : (k : Rules) (s : State) (at : ℕ) (body : List ℕ) → at ≤ last_command_moment
    → and_then (incoming_in body) (decide_incoming k s at) ≡ outcome_due k s at (Deliver body)
unfolding and_then
delivery_served k s at body h = sym (ap (λ (m : Result ⊤ Refusal). and_then m (λ _. and_then (incoming_in body) (decide_incoming k s at))) (in_time at h))

pub of_carried : {S : Type 0} (g : Ghosts S) {k : Rules} {old new : MutBor (Held S)} {kept left : Option Catalog} {r : Result Carried Refusal} (at : ℕ) (c d : Command) → c ≡ d
    → CarriesIn g k (λ s. outcome_due k s at d) old new kept left r → CarriesIn g k (λ s. outcome_due k s at c) old new kept left r
of_carried g {k} {old} {new} {kept} {left} {r} at c d is h = subst (λ (e : Command). CarriesIn g k (λ s. outcome_due k s at e) old new kept left r) (sym is) h

-- at the command's moment
pub at_moment : {k : Rules} {old new : Standing} {r : Result Answer Refusal} {at moment : ℕ} (c : Command) → moment ≡ at → CarriesOut k (λ s. outcome_due k s moment c) old new r
    → CarriesOut k (λ s. outcome_due k s at c) old new r
at_moment {k} {old} {new} {r} c same h = subst (λ (a : ℕ). CarriesOut k (λ s. outcome_due k s a c) old new r) same h

-- a vehicle with a public part that doesn't fit is refused
pub unfit_vehicle : (k : Rules) (s : State) (at : ℕ) (new : NewVehicleData) → at ≤ last_command_moment → list_all (λ e. public_fits k e.public) new.ecus ≡ false
    → decide_vehicle k s at new ≡ Err (BadShape (codes "key"))
unfolding decide_vehicle
unfit_vehicle k s at new h none = bind-ok _ _ tt (in_time at h) ∙ bind-err _ _ _ (ap (λ b. unless b (BadShape (codes "key"))) none)

-- and so is an ECU
pub unfit_ecu : (k : Rules) (s : State) (at : ℕ) (new : Replacement) → at ≤ last_command_moment → public_fits k new.ecu.public ≡ false
    → decide_replace k s at new ≡ Err (BadShape (codes "key"))
unfolding decide_replace
unfit_ecu k s at new h none = bind-ok _ _ tt (in_time at h) ∙ bind-err _ _ _ (ap (λ b. unless b (BadShape (codes "key"))) none)

-- and a body that is too large
too_large : (body : List ℕ) → nat_lt largest_body (length body) ≡ true → incoming_in body ≡ Err TooLarge
unfolding incoming_in value_within
too_large body h =
    let long : nat_le (length body) largest_body ≡ false = grind (arith, nat_tests) in
    bind-err _ _ _ (bind-err _ _ _ (ap (λ b. unless b TooLarge) long))

-- what is refused outright is due, and no fault
pub outright_due : (k : Rules) (s : State) (at : ℕ) (c : Command) (r : Refusal) → at ≤ last_command_moment → outright_in_time k c ≡ Some r → (outcome_due k s at c ≡ Err r) × (is_fault r ≡ false)
outright_due k s at (Deliver body) r fits h = by_test (nat_lt largest_body (length body)) refl h
  where
    by_test : (t : Bool) → nat_lt largest_body (length body) ≡ t → (if t then Some TooLarge else None) ≡ Some r → (outcome_due k s at (Deliver body) ≡ Err r) × (is_fault r ≡ false)
    by_test true is h =
        let same : TooLarge ≡ r = cc in
        subst (λ q. (outcome_due k s at (Deliver body) ≡ Err q) × (is_fault q ≡ false)) same (bind-ok _ _ tt (in_time at fits) ∙ bind-err _ _ _ (too_large body is), refl)
    by_test false is h = cc
outright_due k s at (AddVehicle new) r fits h = by_test (list_all (λ e. public_fits k e.public) new.ecus) refl h
  where
    by_test : (t : Bool) → list_all (λ e. public_fits k e.public) new.ecus ≡ t → (if t then None else Some (BadShape (codes "key"))) ≡ Some r → (outcome_due k s at (AddVehicle new) ≡ Err r) × (is_fault r ≡ false)
    by_test true is h = cc
    by_test false is h =
        let same : BadShape (codes "key") ≡ r = cc in
        subst (λ q. (outcome_due k s at (AddVehicle new) ≡ Err q) × (is_fault q ≡ false)) same (unfit_vehicle k s at new fits is, refl)
outright_due k s at (ReplaceEcu new) r fits h = by_test (public_fits k new.ecu.public) refl h
  where
    by_test : (t : Bool) → public_fits k new.ecu.public ≡ t → (if t then None else Some (BadShape (codes "key"))) ≡ Some r → (outcome_due k s at (ReplaceEcu new) ≡ Err r) × (is_fault r ≡ false)
    by_test true is h = cc
    by_test false is h =
        let same : BadShape (codes "key") ≡ r = cc in
        subst (λ q. (outcome_due k s at (ReplaceEcu new) ≡ Err q) × (is_fault q ≡ false)) same (unfit_ecu k s at new fits is, refl)
outright_due k s at (Found keys) r fits h = cc
outright_due k s at (Rotate keys) r fits h = cc
outright_due k s at (AddImage image) r fits h = cc
outright_due k s at (Refresh version) r fits h = cc
outright_due k s at (OpenCampaign campaign) r fits h = cc
outright_due k s at (CloseCampaign name) r fits h = cc
outright_due k s at (Fetch repository name) r fits h = cc

-- what is refused with nothing asked of the connection
pub refused_unread : {k : Rules} {s : State} (d : Standing) {r : Refusal} {computed : Result Outcome Refusal} → IfClean (ShowsState s) d → computed ≡ Err r → is_fault r ≡ false → Serves k s d d (Err r) computed
refused_unread {k} {s} d {r} {computed} was is fault = record {
  leaves = λ clean. (was clean, subst (λ b. MatchBool b ⊤ (computed ≡ Err r)) (sym fault) is);
  crash = survives_same (HoldsState (outcome_of s computed).next) d.connection;
  durable = λ commit. absurd commit;
  blame = λ clean sound store. absurd (let no : true ≡ false = sym (ap is_fault store) ∙ fault in cc);
}

-- ---- repeats

abbrev chosen : Rules → State → Option KeptEntry → Result Outcome Refusal → Outcome
chosen k s None decided = outcome_of s decided
chosen k s (Some r) decided = record { answer = Replied (reply_to r.vehicle r.number r.entry); next = s }

chosen_is : (k : Rules) (s : State) (at : ℕ) (c : Command) (o : Option KeptEntry) → served_as k s at c o ≡ chosen k s o (decide k s at c)
unfolding step
chosen_is k s at c None = refl
chosen_is k s at c (Some r) = refl

resolved : (k : Rules) (s : State) (at : ℕ) (d : Received) (o : Option KeptEntry) → chosen k s o (decide_received k s at d) ≡ outcome_of s (resolve k s at d o)
resolved k s at d None = refl
resolved k s at d (Some r) = refl

received_served : (k : Rules) (s : State) (at : ℕ) (r : Result Received Refusal)
    → chosen k s (option_and_then repeat_in (value_of r)) (and_then r (decide_received k s at)) ≡ outcome_of s (and_then r (λ d. resolve k s at d (repeat_in d)))
unfolding and_then
received_served k s at (Ok d) = resolved k s at d (repeat_in d)
received_served k s at (Err e) = refl

chained : {A B C D : Type 0} (m : Result A Refusal) (i : Result B Refusal) (f : B → Result C Refusal) (g : C → Result D Refusal)
    → and_then (and_then m (λ _. and_then i f)) g ≡ and_then m (λ _. and_then i (λ x. and_then (f x) g))
unfolding and_then
chained (Ok x) (Ok y) f g = refl
chained (Ok x) (Err e) f g = refl
chained (Err e) i f g = refl

delivered : (k : Rules) (s : State) (at : ℕ) (body : List ℕ) → serve k s at (Deliver body) ≡ outcome_of s (outcome_due k s at (Deliver body))
unfolding serve receive decide_delivery decide_incoming
delivered k s at body =
    chosen_is k s at (Deliver body) (repeat_of k s at (Deliver body))
    ∙ received_served k s at (receive k s at body)
    ∙ ap (outcome_of s) (chained (check_moment at) (incoming_in body) (receive_manifest k s) (λ d. resolve k s at d (repeat_in d)))

pub due_is : (k : Rules) (s : State) (at : ℕ) (c : Command) → serve k s at c ≡ outcome_of s (outcome_due k s at c)
unfolding serve step
due_is k s at (Found keys) = refl
due_is k s at (Rotate keys) = refl
due_is k s at (AddImage image) = refl
due_is k s at (Refresh version) = refl
due_is k s at (AddVehicle new) = refl
due_is k s at (ReplaceEcu new) = refl
due_is k s at (OpenCampaign campaign) = refl
due_is k s at (CloseCampaign name) = refl
due_is k s at (Deliver body) = delivered k s at body
due_is k s at (Fetch repository name) = refl

-- ---- one call

-- the answer and the state that the tables show then
pub record IsServed (k : Rules) (s : State) (at : ℕ) (c : Command) (a : Answer) (new : Standing) : Type 0 where
  pub next : State
  pub answered : IsAnswered a s next (serve k s at c)
  pub sound : IsSound k next
  pub keeps : ShowsState next new

by_loss : (k : Rules) (s : State) (at : ℕ) (c : Command) (r : Refusal) (b : Bool) → MatchBool b ⊤ (outcome_due k s at c ≡ Err r)
    → MatchBool b (s ≡ s) ((Refused r ≡ (serve k s at c).answer) × (s ≡ (serve k s at c).next))
by_loss k s at c r true h = refl
by_loss k s at c r false h =
    let is : serve k s at c ≡ record { answer = Refused r; next = s } = due_is k s at c ∙ ap (outcome_of s) h in
    (sym (ap (λ (o : Outcome). o.answer) is), sym (ap (λ (o : Outcome). o.next) is))

pub done_as : (k : Rules) (s next : State) (at : ℕ) (c : Command) (a : Answer) → serve k s at c ≡ record { answer = a; next = next }
    → (b : Bool) → b ≡ false → MatchBool b (next ≡ s) ((a ≡ (serve k s at c).answer) × (next ≡ (serve k s at c).next))
done_as k s next at c a is true h = cc
done_as k s next at c a is false h = (sym (ap (λ (o : Outcome). o.answer) is), sym (ap (λ (o : Outcome). o.next) is))

pub answered : (k : Rules) (s : State) (new : Standing) (at : ℕ) (c : Command) (r : Result Answer Refusal) → ServedStaysSound → IsTrue (is_command c) → IsSound k s
    → Leaves k s new r (outcome_due k s at c) → IsServed k s at c (told r) new
answered k s new at c (Ok a) stays fits sound h =
    let next : State = h.1.0 in
    let is : serve k s at c ≡ record { answer = a; next = next } = due_is k s at c ∙ ap (outcome_of s) h.1.1 in
    record {
      next = next;
      answered = done_as k s next at c a is (is_failed a) h.0;
      sound = subst (λ (o : Outcome). IsSound k o.next) is (stays k s at c fits sound);
      keeps = h.1.2;
    }
answered k s new at c (Err r) stays fits sound h = record { next = s; answered = by_loss k s at c r (is_fault r) h.1; sound = sound; keeps = h.0 }

pub next_is : (k : Rules) (s : State) (at : ℕ) (c : Command) → (outcome_of s (outcome_due k s at c)).next ≡ (serve k s at c).next
next_is k s at c = sym (ap (λ (o : Outcome). o.next) (due_is k s at c))

pub crashed : (k : Rules) (s : State) (old new : Standing) (at : ℕ) (c : Command) (r : Result Answer Refusal) → Serves k s old new r (outcome_due k s at c) → Survives old new (HoldsState (serve k s at c).next)
crashed k s old new at c r h = subst (λ (n : State). Survives old new (HoldsState n)) (next_is k s at c) h.crash

pub committed : (k : Rules) (s : State) (old new : Standing) (at : ℕ) (c : Command) (r : Result Answer Refusal) → Serves k s old new r (outcome_due k s at c)
    → IsCommit s (told r) (serve k s at c).next → IfClean (LeavesOnly (HoldsState (serve k s at c).next)) new
committed k s old new at c r h = subst (λ (n : State). IsCommit s (told r) n → IfClean (LeavesOnly (HoldsState n)) new) (next_is k s at c) h.durable

-- an answer `Store` is a refusal
refusal_told_so : (k : Rules) (s : State) (new : Standing) (r : Result Answer Refusal) (computed : Result Outcome Refusal) → Leaves k s new r computed → told r ≡ Refused Store → r ≡ Err Store
refusal_told_so k s new (Ok a) computed leaves is = absurd (let no : true ≡ false = ap is_failed (sym is) ∙ leaves.0 in cc)
refusal_told_so k s new (Err r) computed leaves is = let same : r ≡ Store = cc in ap (λ (q : Refusal). Err q) same

pub blamed : (k : Rules) (s : State) (old new : Standing) (at : ℕ) (c : Command) (r : Result Answer Refusal) → ServedStaysSound → IsTrue (is_command c) → IsSound k s
    → Serves k s old new r (outcome_due k s at c) → HasCleanDisk new → told r ≡ Refused Store → IsBlamed k s old.connection new.connection (serve k s at c)
blamed k s old new at c r stays fits sound h clean is =
    let same : outcome_of s (outcome_due k s at c) ≡ serve k s at c = sym (due_is k s at c) in
    let next : IsSound k (outcome_of s (outcome_due k s at c)).next = subst (λ (o : Outcome). IsSound k o.next) (sym same) (stays k s at c fits sound) in
    let store = refusal_told_so k s new r (outcome_due k s at c) (h.leaves clean) is in
    let blame = subst (λ (q : Result Answer Refusal). IfErr q (λ e. e ≡ Store → IsBlamed k s old.connection new.connection (outcome_of s (outcome_due k s at c)))) store (h.blame clean next) in
    subst (IsBlamed k s old.connection new.connection) same (blame refl)

-- ---- what is refused whether or not there is memory

above : (n m : ℕ) → nat_lt n m ≡ true → n < m
above n m h = grind (arith, nat_tests)

-- a moment in range refuses nothing
pub in_time_outright : (k : Rules) (at : ℕ) (c : Command) (P : Refusal → Type 0) → at ≤ last_command_moment → IfSome (outright_in_time k c) P → IfSome (outright k at c) P
in_time_outright k at c P h refused = subst (λ t. IfSome (if t then Some MomentOutOfRange else outright_in_time k c) P) (sym (in_time_test at h)) refused

pub late_outright : (k : Rules) (at : ℕ) (c : Command) (P : Refusal → Type 0) → last_command_moment < at → P MomentOutOfRange → IfSome (outright k at c) P
late_outright k at c P h is = subst (λ t. IfSome (if t then Some MomentOutOfRange else outright_in_time k c) P) (sym (late_test at h)) is

pub told_outright : {S : Type 0} (o : Option Refusal) (before after : S) (given : Result Answer Refusal) (answer : Answer) → answer ≡ told given → IfSome o (RefusesUnread before after given) → IfSome o (λ r. answer ≡ Refused r)
told_outright None before after given answer is h = tt
told_outright (Some r) before after given answer is h = is ∙ ap told h.refused

-- ---- a disk that is clean was clean

pub clean_once : (k : Rules) (old new : Standing) (Left : State → Trees → Type 0) → EmptyIsSound
    → ((s : State) → IsSound k s → (HasCleanDisk old → ⊥) → Survives old new (Left s)) → HasCleanDisk new → HasCleanDisk old
unfolding doubt
clean_once k old new Left sound survives now = by_test old.connection.is_clean refl
  where
    by_test : (b : Bool) → old.connection.is_clean ≡ b → HasCleanDisk old
    by_test true is = ap doubt is
    by_test false is =
        let is_not : HasCleanDisk old → ⊥ = λ (clean : doubt old.connection.is_clean ≡ 0). let one : doubt old.connection.is_clean ≡ 1 = ap doubt is in absurd (omega arith) in
        let all : Survives old new (Left empty_state) = survives empty_state (sound k) is_not in
        let before : doubt old.connection.is_clean ≡ 0 = omega (arith, all.clean) in
        before
