use Rattle.std.proofs.Common.{◌≡◌, Bool, true, false, Result, Ok, Err, ap, sym, ◌∙◌}
use Rattle.std.specs.Prelude.{MatchBool, ⊤}
use Rattle.up_canon.specs.Steps.{each, and_then}
use Rattle.up_canon.specs.Members.{values_of}
use Rattle.up_canon.specs.Refusals.{Gives, is_memory}
use Rattle.up_canon.specs.declared.refusal.Refusal.{Refusal}
use Rattle.up_roles.specs.Root.{role_in, chosen_key}
use Rattle.up_roles.proofs.root_roles.role_at.Goals as goal

-- an answer that is what is computed gives it
gives : {A : Type 0} (result computed : Result A Refusal) → result ≡ computed → Gives result computed
gives (Ok x) computed h = sym h
gives (Err r) computed h = by_memory (is_memory r)
  where
    by_memory : (b : Bool) → MatchBool b ⊤ (computed ≡ Err r)
    by_memory true = tt
    by_memory false = sym h

pub returns : goal.returns
unfolding role_in and_then
returns c =
    let chosen = sym (ap (λ vs. each (chosen_key c.args.keys.now) (values_of vs)) c.as_slice.ensures.value) ∙ c.in_ok-chosen.ensures.chosen in
    let given = gives _ _ c.role_of.ensures in
    rw (c.in_ok-map.ensures, c.in_ok-ids.ensures.value, chosen, c.in_ok-threshold.ensures, ← c.get.ensures.value) given
