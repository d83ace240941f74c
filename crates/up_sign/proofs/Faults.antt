-- The faults that a value may have as an envelope, and that it means one envelope or has one of them.
use Rattle.std.proofs.Common.{◌≡◌, ℕ, List, Result, Ok, Err, refl, sym, ap, ◌∙◌}
use Rattle.std.specs.Prelude.{codes, MatchResult}
use Rattle.std.specs.List.{list_all}
use Rattle.serde_json.specs.Data.{Data}
use Rattle.up_canon.specs.declared.refusal.Refusal.{Refusal}
use Rattle.up_canon.specs.declared.refusal.Refusal.TheVariants.{NotCanonical, BadShape}
use Rattle.up_canon.specs.Refusals.{canonical_text}
use Rattle.up_canon.proofs.Faults.{Fails, AllowsShapes, fails_more, then_fails, ok_fails, or_error_fails, each_fails, fitting_fails, self_fails, object_fails, short_text_fails, list_within_fails, hex_fails}
use Rattle.up_canon.proofs.Steps.{same_ok}
use Rattle.up_sign.specs.Formats.{is_object}
use Rattle.up_sign.specs.Laws.{IsEnvelopeFault, IsTextFault, ValuesMeanOneOrFail}
use Rattle.up_sign.specs.Meaning.{MeansEnvelope}
use Rattle.up_sign.specs.Reading.{signature_in, signatures_in, signed_in, Opened, opened_in}
use Rattle.up_sign.specs.declared.envelope.Envelope.{Envelope}
use Rattle.up_sign.proofs.Meaning.{opened_read, opened_there}

shapes : AllowsShapes IsEnvelopeFault
shapes = record { shape = λ name. tt }

signature_fails : (place : List ℕ) (d : Data) → Fails IsEnvelopeFault (signature_in place d)
unfolding signature_in
signature_fails place d =
    then_fails _ _ (self_fails shapes place d) (λ members.
    then_fails _ _ (short_text_fails shapes 1 128 (codes "keyid") members) (λ a.
    then_fails _ _ (short_text_fails shapes 1 64 (codes "method") members) (λ b.
    then_fails _ _ (hex_fails shapes 2 1024 (codes "sig") members) (λ c. ok_fails _))))

signatures_fails : (d : Data) → Fails IsEnvelopeFault (signatures_in d)
unfolding signatures_in
signatures_fails d =
    then_fails _ _ (list_within_fails shapes 1 8 (codes "signatures") d) (λ values.
    then_fails _ _ (fitting_fails shapes (list_all is_object) (codes "signatures") values) (λ objects.
    each_fails (signature_in (codes "signatures")) (signature_fails (codes "signatures")) objects))

signed_fails : (d : Data) → Fails IsEnvelopeFault (signed_in d)
unfolding signed_in canonical_text
signed_fails d = then_fails _ _ (object_fails shapes (codes "signed") d) (λ payload. then_fails _ _ (or_error_fails NotCanonical _ tt) (λ text. ok_fails _))

opened_fails : (place : List ℕ) (d : Data) → Fails IsEnvelopeFault (opened_in place d)
unfolding opened_in
opened_fails place d = then_fails _ _ (self_fails shapes place d) (λ members. then_fails _ _ (signatures_fails members) (λ signatures. then_fails _ _ (signed_fails members) (λ signed. ok_fails _)))

-- among the faults of the bytes of an envelope
text_fault : (fault : Refusal) → IsEnvelopeFault fault → IsTextFault fault
text_fault NotCanonical is = tt
text_fault (BadShape name) is = tt
text_fault _ is = absurd is

pub opened_text_fails : (place : List ℕ) (d : Data) → Fails IsTextFault (opened_in place d)
opened_text_fails place d = fails_more _ text_fault (opened_fails place d)

pub values_mean_one_or_fail : ValuesMeanOneOrFail
values_mean_one_or_fail place d = by_case (opened_in place d) refl
  where
    by_case : (r : Result Opened Refusal) → opened_in place d ≡ r → MatchResult r
        (λ o. MeansEnvelope d o.payload o.envelope × ((p : Data) (e : Envelope) → MeansEnvelope d p e → (p ≡ o.payload) × (e ≡ o.envelope)))
        (λ fault. IsEnvelopeFault fault × ((p : Data) (e : Envelope) → MeansEnvelope d p e → ⊥))
    by_case (Ok o) h = (
      opened_read place d o h,
      λ p e m.
          let same = same_ok (record { envelope = e; payload = p }) o (sym (opened_there place d p e m) ∙ h) in
          (ap (λ (x : Opened). x.payload) same, ap (λ (x : Opened). x.envelope) same),
    )
    by_case (Err fault) h = ((opened_fails place d).allowed fault h, λ p e m. let there = opened_there place d p e m in let both = sym there ∙ h in cc)
