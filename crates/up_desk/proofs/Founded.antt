-- Both repositories stay founded.
use Rattle.std.proofs.Common.{◌≡◌, ℕ, List, [], ◌∷◌, true, Ok, inl, inr, refl, subst}
use Rattle.up_sign.specs.Schemes.{Rules}
use Rattle.up_machine.specs.declared.command.Command.{Command}
use Rattle.up_machine.specs.declared.command.Command.TheVariants.{Found, Rotate, AddImage, Refresh, AddVehicle, ReplaceEcu, OpenCampaign, CloseCampaign, Deliver, Fetch}
use Rattle.up_machine.specs.State.{State, is_founded}
use Rattle.up_machine.specs.Deciding.{Outcome}
use Rattle.up_machine.specs.Machine.{Timed, decide, step, run}
use Rattle.up_machine.proofs.Decided.{found_ok, rotate_ok, image_ok, refresh_ok, vehicle_ok, replace_ok, open_ok, close_ok, delivery_ok, fetch_ok}
use Rattle.up_machine.proofs.Growing.{by_decision}

abbrev Stays : Outcome → Type 0
Stays o = is_founded o.next ≡ true

founded_outcome : (k : Rules) (s : State) (at : ℕ) (c : Command) (o : Outcome) → is_founded s ≡ true → decide k s at c ≡ Ok o → is_founded o.next ≡ true
founded_outcome k s at (Found keys) o there h = subst Stays (found_ok k s at keys o h).is refl
founded_outcome k s at (Rotate keys) o there h = subst Stays (rotate_ok k s at keys o h).is refl
founded_outcome k s at (AddImage image) o there h = elim (image_ok k s at image o h) [
  | inl same ↦ subst Stays same there
  | inr is ↦ subst Stays is.is refl
]
founded_outcome k s at (Refresh version) o there h = subst Stays (refresh_ok k s at version o h).is refl
founded_outcome k s at (AddVehicle new) o there h = elim (vehicle_ok k s at new o h) [
  | inl same ↦ subst Stays same there
  | inr is ↦ subst Stays is.is there
]
founded_outcome k s at (ReplaceEcu new) o there h = subst Stays (replace_ok k s at new o h).is there
founded_outcome k s at (OpenCampaign campaign) o there h = elim (open_ok s at campaign o h) [
  | inl same ↦ subst Stays same there
  | inr is ↦ subst Stays is.is there
]
founded_outcome k s at (CloseCampaign name) o there h = elim (close_ok s at name o h) [
  | inl same ↦ subst Stays same there
  | inr is ↦ subst Stays is.is there
]
founded_outcome k s at (Deliver body) o there h = subst Stays (delivery_ok k s at body o h).is there
founded_outcome k s at (Fetch repository name) o there h = subst Stays (fetch_ok s at repository name o h).2 there

step_founded : (k : Rules) (s : State) (at : ℕ) (c : Command) → is_founded s ≡ true → is_founded (step k s at c).next ≡ true
unfolding step
step_founded k s at c there = by_decision s (decide k s at c) (λ (t : State). is_founded t ≡ true) there (λ o h. founded_outcome k s at c o there h)

pub run_founded : (k : Rules) (s : State) (ts : List Timed) → is_founded s ≡ true → is_founded (run k s ts) ≡ true
run_founded k s [] there = there
run_founded k s (t ∷ ts) there = run_founded k (step k s t.at t.command).next ts (step_founded k s t.at t.command there)
