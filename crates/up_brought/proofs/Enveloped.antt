-- An envelope that was read is within the limits of the format.
use Rattle.std.proofs.Common.{◌≡◌, ℕ, List, Ok, subst}
use Rattle.std.specs.Prelude.{IsTrue, MatchResult, Result}
use Rattle.serde_json.specs.Data.{Data}
use Rattle.up_canon.specs.declared.refusal.Refusal.{Refusal}
use Rattle.up_sign.specs.Formats.{envelope_fits}
use Rattle.up_sign.specs.Laws.{MeantFits, IsTextFault}
use Rattle.up_sign.specs.declared.envelope.Envelope.{Envelope}
use Rattle.up_roles.specs.Laws.{MeanOneOrFail}
use Rattle.up_roles.specs.Meaning.{MeansFile}

pub envelope_limits : {F : Type 0} (M : Data → F → Type 0) (reading : List ℕ → Result (F × Envelope) Refusal) → MeanOneOrFail M reading → MeantFits
    → (text : List ℕ) (file : F) (envelope : Envelope) → reading text ≡ Ok (file, envelope) → IsTrue (envelope_fits envelope)
envelope_limits {F = F} M reading law fits text file envelope read =
    let means = subst (λ r. MatchResult r (λ p. MeansFile M text p.0 p.1 × ((f : F) (e : Envelope) → MeansFile M text f e → (f ≡ p.0) × (e ≡ p.1)))
    (λ fault. IsTextFault fault × ((f : F) (e : Envelope) → MeansFile M text f e → ⊥))) read (law text) in
    (fits means.0.value means.0.payload envelope means.0.enveloped).0
