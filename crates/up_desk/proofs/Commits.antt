-- The reply to a newly accepted manifest is a commit.
use Rattle.std.proofs.Common.{◌≡◌, inl, inr, ℕ, ◌+◌, List, [], ◌∷◌, ◌++◌, Some, Result, Ok, Err, length, refl, sym, ap, ◌∙◌, arith}
use Rattle.std.specs.FinMap as table
use Rattle.std.proofs.lemmas.List.{length-append}
use Rattle.up_canon.specs.declared.refusal.Refusal.{Refusal}
use Rattle.up_canon.proofs.Steps.{one_value}
use Rattle.up_sign.specs.Schemes.{Rules}
use Rattle.up_machine.specs.declared.command.Command.{Command}
use Rattle.up_machine.specs.declared.command.Command.TheVariants.{Found, Rotate, AddImage, Refresh, AddVehicle, ReplaceEcu, OpenCampaign, CloseCampaign, Deliver, Fetch}
use Rattle.up_machine.specs.declared.answer.Answer.TheVariants.{Reply as Replied}
use Rattle.up_machine.specs.declared.answer.Reply.{Reply}
use Rattle.up_machine.specs.State.{Entry, Vehicle, State}
use Rattle.up_machine.specs.Deciding.{Outcome}
use Rattle.up_machine.specs.Deliveries.{entry_of, with_entry}
use Rattle.up_machine.specs.Machine.{decide, outcome_of, step}
use Rattle.up_machine.specs.Repeats.{served_as, serve}
use Rattle.up_machine.proofs.Decided.{found_ok, rotate_ok, image_ok, refresh_ok, vehicle_ok, replace_ok, open_ok, close_ok, delivery_ok, fetch_ok}
use Rattle.up_machine.proofs.Receiving.{received}
use Rattle.up_machine.proofs.Tables.{get_same}
use Rattle.up_desk.specs.Laws.{NewRepliesCommit}

-- one entry more is another state
pub one_more : (s : State) (vehicle : Vehicle) (name : List ℕ) (e : Entry) → table.get s.vehicles name ≡ Some vehicle → with_entry s name vehicle e ≡ s → ⊥
one_more s vehicle name e there same =
    let more : Vehicle = record vehicle { entries = vehicle.entries ++ e ∷ [] } in
    let is : more ≡ vehicle = one_value (table.get s.vehicles name) more vehicle (sym (ap (λ (t : State). table.get t.vehicles name) same) ∙ get_same s.vehicles name more) there in
    let size : length (vehicle.entries ++ e ∷ []) ≡ length vehicle.entries = ap (λ (v : Vehicle). length v.entries) is in
    let longer : length (vehicle.entries ++ e ∷ []) ≡ length vehicle.entries + 1 = length-append vehicle.entries (e ∷ []) in
    absurd (omega arith)

no_reply : (o p : Outcome) (reply : Reply) → p ≡ o → o.answer ≡ Replied reply → (p.answer ≡ Replied reply → ⊥) → ⊥
no_reply o p reply is replied never = never (ap (λ (q : Outcome). q.answer) is ∙ replied)

changed : (k : Rules) (s : State) (at : ℕ) (c : Command) (o : Outcome) (reply : Reply) → decide k s at c ≡ Ok o → o.answer ≡ Replied reply → o.next ≡ s → ⊥
changed k s at (Found keys) o reply h replied = λ same. no_reply o _ reply (found_ok k s at keys o h).is replied (λ e. cc)
changed k s at (Rotate keys) o reply h replied = λ same. no_reply o _ reply (rotate_ok k s at keys o h).is replied (λ e. cc)
changed k s at (AddImage image) o reply h replied = λ same. elim (image_ok k s at image o h) [
  | inl is ↦ no_reply o _ reply is replied (λ e. cc)
  | inr is ↦ no_reply o _ reply is.is replied (λ e. cc)
]
changed k s at (Refresh version) o reply h replied = λ same. no_reply o _ reply (refresh_ok k s at version o h).is replied (λ e. cc)
changed k s at (AddVehicle new) o reply h replied = λ same. elim (vehicle_ok k s at new o h) [
  | inl is ↦ no_reply o _ reply is replied (λ e. cc)
  | inr is ↦ no_reply o _ reply is.is replied (λ e. cc)
]
changed k s at (ReplaceEcu new) o reply h replied = λ same. no_reply o _ reply (replace_ok k s at new o h).is replied (λ e. cc)
changed k s at (OpenCampaign campaign) o reply h replied = λ same. elim (open_ok s at campaign o h) [
  | inl is ↦ no_reply o _ reply is replied (λ e. cc)
  | inr is ↦ no_reply o _ reply is.is replied (λ e. cc)
]
changed k s at (CloseCampaign name) o reply h replied = λ same. elim (close_ok s at name o h) [
  | inl is ↦ no_reply o _ reply is replied (λ e. cc)
  | inr is ↦ no_reply o _ reply is.is replied (λ e. cc)
]
changed k s at (Deliver body) o reply h replied = λ same.
    let is = delivery_ok k s at body o h in
    let r = is.received in
    one_more s r.vehicle r.incoming.manifest.vehicle (entry_of k s at r) (received k s at body r is.receives).vehicle (ap (λ (p : Outcome). p.next) is.is ∙ same)
changed k s at (Fetch repository name) o reply h replied = λ same. no_reply o _ reply (fetch_ok s at repository name o h).2 replied (λ e. cc)

decided : (k : Rules) (s : State) (at : ℕ) (c : Command) (reply : Reply) (d : Result Outcome Refusal) → decide k s at c ≡ d → (outcome_of s d).answer ≡ Replied reply → (outcome_of s d).next ≡ s → ⊥
decided k s at c reply (Ok o) is replied same = changed k s at c o reply is replied same
decided k s at c reply (Err e) is replied same = cc

pub new_replies : NewRepliesCommit
unfolding serve step
new_replies k s at c reply new replied same =
    let is = ap (served_as k s at c) new in
    decided k s at c reply (decide k s at c) refl (sym (ap (λ (o : Outcome). o.answer) is) ∙ replied) (sym (ap (λ (o : Outcome). o.next) is) ∙ same)
