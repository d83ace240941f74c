-- Laws of envelopes: what is read, what is written, what is sealed.
use Rattle.std.specs.Prelude.{◌≡◌, ℕ, ◌≤◌, List, [], ◌∷◌, IsTrue, length, map, bytes_eq, codes, Some, Ok, MatchResult, ⊤}
use Rattle.std.specs.List.{list_all, list_any}
use Rattle.serde_json.specs.Data.{Data}
use Rattle.serde_json.specs.Read.{read}
use Rattle.up_canon.specs.Build.{object_with, list_with}
use Rattle.up_canon.specs.declared.refusal.Refusal.{Refusal}
use Rattle.up_canon.specs.declared.refusal.Refusal.TheVariants.{TooLarge, NotJson, NotCanonical, BadShape}
use Rattle.up_sign.specs.Envelopes.{sealed_envelope, is_accepted}
use Rattle.up_sign.specs.Formats.{signature_value, envelope_text, envelope_fits, has_bytes, IsSigned}
use Rattle.up_sign.specs.Meaning.{MeansEnvelope}
use Rattle.up_sign.specs.Reading.{opened_in}
use Rattle.up_sign.specs.Schemes.{Rules, IsScheme}
use Rattle.up_sign.specs.declared.envelope.Envelope.{Envelope}

-- ---- reading

-- the faults that a value may have as an envelope
abbrev pub IsEnvelopeFault : Refusal → Type 0
IsEnvelopeFault NotCanonical = ⊤
IsEnvelopeFault (BadShape name) = ⊤
IsEnvelopeFault _ = ⊥

-- the faults that bytes may have as the envelope of some payload
abbrev pub IsTextFault : Refusal → Type 0
IsTextFault TooLarge = ⊤
IsTextFault NotJson = ⊤
IsTextFault NotCanonical = ⊤
IsTextFault (BadShape name) = ⊤
IsTextFault _ = ⊥

-- a value means one envelope of one object, or none and then it has a first fault
abbrev pub ValuesMeanOneOrFail : Type 0
ValuesMeanOneOrFail = (place : List ℕ) (d : Data) → MatchResult (opened_in place d)
    (λ o. MeansEnvelope d o.payload o.envelope × ((p : Data) (e : Envelope) → MeansEnvelope d p e → (p ≡ o.payload) × (e ≡ o.envelope)))
    (λ fault. IsEnvelopeFault fault × ((p : Data) (e : Envelope) → MeansEnvelope d p e → ⊥))

-- an envelope that a value means is within the limits of the format, so that it can be written again
abbrev pub MeantFits : Type 0
MeantFits = (d payload : Data) (e : Envelope) → MeansEnvelope d payload e → IsTrue (envelope_fits e) × IsTrue (has_bytes e)

-- ---- writing

-- an envelope of a signed object, as JSON
abbrev pub envelope_value : Envelope → Data → Data
envelope_value e payload = object_with ((codes "signatures", list_with (map signature_value e.signatures)) ∷ (codes "signed", payload) ∷ [])

-- the text of an envelope is read as the same envelope
abbrev pub TextsAreRead : Type 0
TextsAreRead = (place : List ℕ) (e : Envelope) (payload : Data) → IsTrue (envelope_fits e) → IsTrue (has_bytes e) → IsSigned e.signed payload
    → (read (envelope_text e) ≡ Some (envelope_value e payload)) × (opened_in place (envelope_value e payload) ≡ Ok (record { envelope = e; payload = payload }))

-- ---- sealing

-- a sealed envelope is within the limits of the format
abbrev pub SealedFits : Type 0
SealedFits = (k : Rules) (secrets : List (List ℕ)) (text : List ℕ) → IsScheme k → IsTrue (list_all k.secret_fits secrets) → 1 ≤ length secrets → length secrets ≤ 8
    → IsTrue (envelope_fits (sealed_envelope k secrets text)) × IsTrue (has_bytes (sealed_envelope k secrets text))

-- and is accepted under the keys of secrets that are among the signers
abbrev pub SealedIsAccepted : Type 0
SealedIsAccepted = (k : Rules) (secrets signers : List (List ℕ)) (text : List ℕ) (threshold : ℕ) → IsScheme k → IsTrue (list_all k.secret_fits secrets)
    → IsTrue (list_all (λ s. list_any (bytes_eq s) signers) secrets) → threshold ≤ length secrets
    → IsTrue (is_accepted k (map k.public_of secrets) threshold (sealed_envelope k signers text))
