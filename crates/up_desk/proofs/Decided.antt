-- What a decision that went through says.
use Rattle.std.proofs.Common.{◌≡◌, Some, Result, Ok, ap, ◌∙◌, subst}
use Rattle.std.specs.FinMap as table
use Rattle.up_canon.specs.Names.{Name}
use Rattle.up_canon.specs.declared.refusal.Refusal.{Refusal}
use Rattle.up_plan.specs.Campaigns.{CampaignData}
use Rattle.up_machine.specs.declared.decision.Decision.{Decision}
use Rattle.up_machine.specs.declared.decision.Decision.TheVariants.{Already, New}
use Rattle.up_machine.specs.declared.answer.Answer.TheVariants.{Reply as Replied}
use Rattle.up_machine.specs.declared.decision.AcceptedRows.{AcceptedRows}
use Rattle.up_machine.specs.declared.decision.Delivered.{Delivered}
use Rattle.up_machine.specs.declared.decision.Delivered.TheVariants.{Repeat, Accepted}
use Rattle.up_machine.specs.declared.answer.Reply.{Reply}
use Rattle.up_machine.specs.Deliveries.{with_entry}
use Rattle.up_machine.specs.Rows.{reply_kept}
use Rattle.up_machine.specs.State.{Entry, Vehicle, State}
use Rattle.up_machine.specs.Deciding.{Outcome, done, already}
use Rattle.up_machine.specs.Inventory.{with_campaign, closed}
use Rattle.up_machine.specs.Decisions.{IsDone, GivesDecision, GivesClosed, HasAcceptedRows, GivesDelivered}

pub when_already : {R : Type 0} (has : R → Type 0) (s next : State) (d : Decision R) (computed : Result Outcome Refusal) → d ≡ Already → GivesDecision has s next (Ok d) computed
    → computed ≡ Ok (already s)
when_already has s next Already computed is h = h
when_already has s next (New rows) computed is h = cc

pub when_new : {R : Type 0} (has : R → Type 0) (s next : State) (d : Decision R) (rows : R) (computed : Result Outcome Refusal) → d ≡ New rows → GivesDecision has s next (Ok d) computed
    → IsDone has next rows computed
when_new has s next Already rows computed is h = cc
when_new has s next (New other) rows computed is h = let same : other ≡ rows = cc in subst (λ r. IsDone has next r computed) same h

pub when_closed : (s : State) (name : Name) (d : Decision CampaignData) (computed : Result Outcome Refusal) → d ≡ Already → GivesClosed s name (Ok d) computed → computed ≡ Ok (already s)
when_closed s name Already computed is h = h
when_closed s name (New row) computed is h = cc

-- the campaign that is closed
pub record IsClosed (s : State) (name : Name) (row : CampaignData) (computed : Result Outcome Refusal) : Type 0 where
  pub was : CampaignData
  pub there : table.get s.campaigns name ≡ Some was
  pub is : row ≡ closed was
  pub decided : computed ≡ Ok (done (with_campaign s row))

pub when_closing : (s : State) (name : Name) (d : Decision CampaignData) (row : CampaignData) (computed : Result Outcome Refusal) → d ≡ New row → GivesClosed s name (Ok d) computed
    → IsClosed s name row computed
when_closing s name Already row computed is h = cc
when_closing s name (New other) row computed is h = let same : other ≡ row = cc in
    subst (λ (c : CampaignData). IsClosed s name c computed) same (record { was = h.0; there = h.1; is = h.2; decided = h.3 })

pub when_repeated : (s : State) (name : Name) (d : Delivered) (reply : Reply) (computed : Result Outcome Refusal) → d ≡ Repeat reply
    → GivesDelivered s name (Ok d) computed → computed ≡ Ok (record { answer = Replied reply; next = s })
when_repeated s name (Repeat other) reply computed is h =
    let same : other ≡ reply = cc in h ∙ ap (λ (r : Reply). Ok (record { answer = Replied r; next = s })) same
when_repeated s name (Accepted rows) reply computed is h = cc

-- the vehicle and the entry that an accepted manifest gives it
pub record IsAccepted (s : State) (name : Name) (rows : AcceptedRows) (computed : Result Outcome Refusal) : Type 0 where
  pub vehicle : Vehicle
  pub entry : Entry
  pub found : table.get s.vehicles name ≡ Some vehicle
  pub decided : computed ≡ Ok (record { answer = Replied (reply_kept rows.kept); next = with_entry s name vehicle entry })
  pub has : HasAcceptedRows name vehicle entry rows

pub when_accepted : (s : State) (name : Name) (d : Delivered) (rows : AcceptedRows) (computed : Result Outcome Refusal) → d ≡ Accepted rows
    → GivesDelivered s name (Ok d) computed → IsAccepted s name rows computed
when_accepted s name (Repeat reply) rows computed is h = cc
when_accepted s name (Accepted other) rows computed is h =
    let same : other ≡ rows = cc in
    subst (λ (r : AcceptedRows). IsAccepted s name r computed) same (record { vehicle = h.0; entry = h.1; found = h.2; decided = h.3; has = h.4 })
