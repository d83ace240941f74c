-- What is decided of a delivery's body is what the delivery is served.
use Rattle.std.proofs.Common.{◌≡◌, ℕ, ◌≤◌, List, Bool, true, false, Option, Some, None, Result, Ok, Err, refl, sym, ap, ◌∙◌, subst}
use Rattle.std.specs.Prelude.{⊤, option_and_then, MatchBool}
use Rattle.up_canon.specs.Moments.{last_command_moment}
use Rattle.up_canon.specs.Refusals.{is_memory}
use Rattle.up_canon.specs.Steps.{and_then, value_of}
use Rattle.up_canon.proofs.Steps.{bind-ok, bind-err}
use Rattle.up_canon.specs.declared.refusal.Refusal.{Refusal}
use Rattle.up_sign.specs.Schemes.{Rules}
use Rattle.up_manifest.specs.Manifests.{incoming_in}
use Rattle.up_machine.specs.declared.command.Command.TheVariants.{Deliver}
use Rattle.up_machine.specs.declared.answer.Answer.TheVariants.{Reply as Replied}
use Rattle.up_machine.specs.State.{State}
use Rattle.up_machine.specs.Replies.{reply_to}
use Rattle.up_machine.specs.Deciding.{Outcome, check_moment}
use Rattle.up_machine.specs.Deliveries.{Received, receive_manifest, receive, decide_received, decide_delivery}
use Rattle.up_machine.specs.Decisions.{resolve, decide_incoming, GivesDelivered}
use Rattle.up_machine.specs.Machine.{decide, outcome_of, step}
use Rattle.up_machine.specs.Repeats.{KeptEntry, repeat_in, repeat_of, served_as, serve}
use Rattle.up_machine.proofs.Fetched.{in_time}
use Rattle.up_laws.specs.Deliveries.{decide_body, DeliveriesAreDecided, NewDeliveriesAreDecided, RepeatsAreDecided, DeliveredInTwoSteps}

-- the kept reply of what is a repeat, or what was decided
chosen : Rules → State → Option KeptEntry → Result Outcome Refusal → Result Outcome Refusal
chosen k s None decided = decided
chosen k s (Some r) decided = Ok (record { answer = Replied (reply_to r.vehicle r.number r.entry); next = s })

resolved : (k : Rules) (s : State) (at : ℕ) (d : Received) (o : Option KeptEntry) → chosen k s o (decide_received k s at d) ≡ resolve k s at d o
unfolding chosen
resolved k s at d None = refl
resolved k s at d (Some r) = refl

received_chosen : (k : Rules) (s : State) (at : ℕ) (r : Result Received Refusal)
    → chosen k s (option_and_then repeat_in (value_of r)) (and_then r (decide_received k s at)) ≡ and_then r (λ d. resolve k s at d (repeat_in d))
unfolding and_then chosen
received_chosen k s at (Ok d) = resolved k s at d (repeat_in d)
received_chosen k s at (Err e) = refl

chained : {A B C D : Type 0} (m : Result A Refusal) (i : Result B Refusal) (f : B → Result C Refusal) (g : C → Result D Refusal)
    → and_then (and_then m (λ _. and_then i f)) g ≡ and_then m (λ _. and_then i (λ x. and_then (f x) g))
unfolding and_then
chained (Ok x) (Ok y) f g = refl
chained (Ok x) (Err e) f g = refl
chained (Err e) i f g = refl

after_moment : (k : Rules) (s : State) (at : ℕ) (body : List ℕ) → at ≤ last_command_moment → and_then (check_moment at) (λ _. decide_body k s at body) ≡ decide_body k s at body
unfolding and_then
after_moment k s at body h = ap (λ (m : Result ⊤ Refusal). and_then m (λ _. decide_body k s at body)) (in_time at h)

body_chosen : (k : Rules) (s : State) (at : ℕ) (body : List ℕ) → at ≤ last_command_moment
    → chosen k s (repeat_of k s at (Deliver body)) (decide k s at (Deliver body)) ≡ decide_body k s at body
unfolding receive decide_delivery decide_incoming
body_chosen k s at body h =
    received_chosen k s at (receive k s at body)
    ∙ chained (check_moment at) (incoming_in body) (receive_manifest k s) (λ d. resolve k s at d (repeat_in d))
    ∙ after_moment k s at body h

served_chosen : (k : Rules) (s : State) (at : ℕ) (body : List ℕ) → serve k s at (Deliver body) ≡ outcome_of s (chosen k s (repeat_of k s at (Deliver body)) (decide k s at (Deliver body)))
unfolding serve step chosen
served_chosen k s at body = by_repeat (repeat_of k s at (Deliver body))
  where
    by_repeat : (o : Option KeptEntry) → served_as k s at (Deliver body) o ≡ outcome_of s (chosen k s o (decide k s at (Deliver body)))
    by_repeat None = refl
    by_repeat (Some r) = refl

pub served : DeliveriesAreDecided
served k s at body h = served_chosen k s at body ∙ ap (outcome_of s) (body_chosen k s at body h)

pub new_decided : NewDeliveriesAreDecided
unfolding chosen
new_decided k s at body h none = sym (body_chosen k s at body h) ∙ ap (λ o. chosen k s o (decide k s at (Deliver body))) none

pub repeat_decided : RepeatsAreDecided
unfolding chosen
repeat_decided k s at body r h is = sym (body_chosen k s at body h) ∙ ap (λ o. chosen k s o (decide k s at (Deliver body))) is

-- ---- both steps

pub in_two_steps : DeliveredInTwoSteps
unfolding and_then
in_two_steps k s at body name (Ok incoming) make gives named decided =
    subst (GivesDelivered s name (make incoming)) (sym (bind-ok (incoming_in body) (decide_incoming k s at) incoming gives))
    (subst (λ n. GivesDelivered s n (make incoming) (decide_incoming k s at incoming)) named (decided incoming (body, gives)))
in_two_steps k s at body name (Err r) make gives named decided = by_memory (is_memory r) gives
  where
    by_memory : (b : Bool) → MatchBool b ⊤ (incoming_in body ≡ Err r) → MatchBool b ⊤ (decide_body k s at body ≡ Err r)
    by_memory true h = tt
    by_memory false h = bind-err (incoming_in body) (decide_incoming k s at) r h
