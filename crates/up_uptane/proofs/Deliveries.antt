-- What a delivery changes.
use Rattle.std.proofs.Common.{◌≡◌, ℕ, ◌+◌, List, [], ◌∷◌, ◌++◌, Some, Result, Ok, Err, inl, inr, refl, sym, ap, ◌∙◌, subst, length-append}
use Rattle.std.specs.Prelude.{◌⊎◌, length, option_map, option_and_then}
use Rattle.up_canon.specs.declared.refusal.Refusal.{Refusal}
use Rattle.up_sign.specs.Schemes.{Rules}
use Rattle.up_machine.specs.declared.answer.Answer.TheVariants.{Refused, Reply as Replied}
use Rattle.up_machine.specs.declared.answer.Reply.{Reply}
use Rattle.up_machine.specs.declared.command.Command.TheVariants.{Deliver}
use Rattle.up_machine.specs.Deciding.{Outcome}
use Rattle.up_machine.specs.Deliveries.{Received, entry_of, accepted}
use Rattle.up_machine.specs.Machine.{decide, outcome_of, step}
use Rattle.up_machine.specs.Replies.{reply_to, kept_reply}
use Rattle.up_machine.specs.State.{Vehicle, State, nth, version}
use Rattle.up_machine.proofs.Accepting.{checked}
use Rattle.up_machine.proofs.Decided.{IsDelivered, delivery_ok}
use Rattle.up_machine.proofs.Places.{nth_last}
use Rattle.up_machine.proofs.Receiving.{received}
use Rattle.up_machine.proofs.Tables.{get_other, get_same}
use Rattle.up_uptane.specs.Deliveries.{IsAccepted, DeliveriesChangeTheirOwn, RepliesAreKept}

abbrev Comes : State → List ℕ → Outcome → Type 0
Comes s body o =
    ((r : Refusal) × (o ≡ record { answer = Refused r; next = s })) ⊎ ((reply : Reply) × (o.answer ≡ Replied reply) × IsAccepted s body reply o.next)

-- ---- what was accepted

abbrev pub reply_of : (k : Rules) (s : State) (at : ℕ) (r : Received) → Reply
reply_of k s at r = reply_to r.incoming.manifest.vehicle (version r.vehicle.entries + 1) (entry_of k s at r)

changes : (k : Rules) (s : State) (at : ℕ) (body : List ℕ) (o : Outcome) → IsDelivered k s at body o → Comes s body o
changes k s at body o is =
    let r = is.received in
    let from = received k s at body r is.receives in
    let name = r.incoming.manifest.vehicle in
    let later = (checked k r tt is.checked).later in
    subst (Comes s body) is.is (inr (
      reply_of k s at r,
      refl,
      record {
        incoming = r.incoming;
        read = from.reads;
        own = refl;
        before = r.vehicle;
        there = from.vehicle;
        entry = entry_of k s at r;
        counter = refl;
        newer = later;
        raised = refl;
        added = get_same s.vehicles name _;
        others = λ other apart. get_other s.vehicles name other _ (λ same. apart (sym same));
        rest = refl;
      },
    ))

pub own : DeliveriesChangeTheirOwn
unfolding step
own k s at body = by_decision (decide k s at (Deliver body)) refl
  where
    by_decision : (d : Result Outcome Refusal) → decide k s at (Deliver body) ≡ d → Comes s body (outcome_of s d)
    by_decision (Ok o) h = changes k s at body o (delivery_ok k s at body o h)
    by_decision (Err e) h = inl (e, refl)

-- ---- what is kept

kept_after : (k : Rules) (s : State) (at : ℕ) (r : Received) → kept_reply (accepted k s at r).next r.incoming.manifest.vehicle (version r.vehicle.entries + 1) ≡ Some (reply_of k s at r)
kept_after k s at r =
    let name = r.incoming.manifest.vehicle in
    let e = entry_of k s at r in
    let number = version r.vehicle.entries + 1 in
    let size : number ≡ length (r.vehicle.entries ++ e ∷ []) = sym (length-append r.vehicle.entries (e ∷ [])) in
    let last : nth (r.vehicle.entries ++ e ∷ []) number ≡ Some e = ap (nth (r.vehicle.entries ++ e ∷ [])) size ∙ nth_last r.vehicle.entries e in
    ap (option_and_then (λ (v : Vehicle). option_map (reply_to name number) (nth v.entries number))) (get_same s.vehicles name (record r.vehicle { entries = r.vehicle.entries ++ e ∷ [] }))
    ∙ ap (option_map (reply_to name number)) last

abbrev Keeps : Outcome → Type 0
Keeps o = (reply : Reply) → o.answer ≡ Replied reply → kept_reply o.next reply.vehicle reply.version ≡ Some reply

kept_by : (k : Rules) (s : State) (at : ℕ) (body : List ℕ) (o : Outcome) → IsDelivered k s at body o → Keeps o
kept_by k s at body o is = subst Keeps is.is (λ reply h.
    let same : reply_of k s at is.received ≡ reply = same_told _ _ h in
    subst (λ (x : Reply). kept_reply (accepted k s at is.received).next x.vehicle x.version ≡ Some x) same (kept_after k s at is.received))
  where
    same_told : (a b : Reply) → Replied a ≡ Replied b → a ≡ b
    same_told a b h = cc

pub kept : RepliesAreKept
unfolding step
kept k s at body = by_decision (decide k s at (Deliver body)) refl
  where
    by_decision : (d : Result Outcome Refusal) → decide k s at (Deliver body) ≡ d → Keeps (outcome_of s d)
    by_decision (Ok o) h = kept_by k s at body o (delivery_ok k s at body o h)
    by_decision (Err e) h = λ reply told. cc
