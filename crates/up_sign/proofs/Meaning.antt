-- What is read as an envelope is what the value means.
use Rattle.std.proofs.Common.{◌≡◌, ℕ, List, [], ◌∷◌, true, Some, Ok, length, refl, ap, ◌∙◌, subst, sym, arith}
use Rattle.std.specs.Prelude.{codes}
use Rattle.std.specs.List.{list_all}
use Rattle.serde_json.specs.Data.{Data, null, boolean, number, string, array, object, Items, no_items, item, Members}
use Rattle.serde_json.specs.Find as json
use Rattle.up_canon.specs.Members.{items_list, object_in}
use Rattle.up_canon.specs.Steps.{or_error, each}
use Rattle.up_canon.specs.declared.refusal.Refusal.TheVariants.{NotCanonical}
use Rattle.up_canon.specs.Refusals.{canonical_text}
use Rattle.up_sign.specs.Formats.{is_object}
use Rattle.up_sign.specs.declared.envelope.Signature.{Signature}
use Rattle.up_sign.specs.declared.envelope.Envelope.{Envelope}
use Rattle.up_sign.specs.Reading.{signature_in, signatures_in, signed_in, Opened, opened_in}
use Rattle.up_canon.specs.Meaning.{HasObject, EachMeans}
use Rattle.up_sign.specs.Meaning.{MeansSignature, MeansEnvelope}
use Rattle.up_canon.proofs.Steps.{first_ok, bind-ok, same_ok, or_error_ok, each_read, each_there, each_size}
use Rattle.up_canon.proofs.Members.{object_read, object_there, short_text_read, short_text_there, list_within_read, list_within_there, hex_read, hex_there, self_read, self_there, has_member, fits_read, fits_there}

signature_read : (place : List ℕ) (d : Data) (s : Signature) → signature_in place d ≡ Ok s → MeansSignature d s
unfolding signature_in
signature_read place d s h =
    first_ok _ _ _ _ h (λ members o h. first_ok _ _ _ _ h (λ keyid a h. first_ok _ _ _ _ h (λ method b h. first_ok _ _ _ _ h (λ sig c h.
    let k = short_text_read 1 128 (codes "keyid") members keyid a in
    let m = short_text_read 1 64 (codes "method") members method b in
    subst (λ v. MeansSignature v s) (sym (self_read place d members o))
    (subst (MeansSignature members) (same_ok _ _ h) (record { keyid = k.0; keyid_fits = k.1; method = m.0; method_fits = m.1; sig = hex_read 2 1024 (codes "sig") members sig c }))))))

signature_there : (place : List ℕ) (d : Data) (s : Signature) → MeansSignature d s → signature_in place d ≡ Ok s
unfolding signature_in
signature_there place d s h =
    bind-ok _ _ d (self_there place d (has_member (codes "keyid") d _ h.keyid))
    ∙ bind-ok _ _ _ (short_text_there 1 128 (codes "keyid") d s.keyid h.keyid h.keyid_fits)
    ∙ bind-ok _ _ _ (short_text_there 1 64 (codes "method") d s.method h.method h.method_fits)
    ∙ bind-ok _ _ _ (hex_there 2 1024 (codes "sig") d s.sig h.sig)

is_object_there : (d : Data) → (ms : Members) × (d ≡ object ms) → is_object d ≡ true
is_object_there d o = rw o.1 refl

signatures_are_objects : (ds : Items) (ss : List Signature) → EachMeans MeansSignature ds ss → list_all is_object (items_list ds) ≡ true
signatures_are_objects no_items [] h = refl
signatures_are_objects no_items (s ∷ ss) h = absurd h
signatures_are_objects (item d ds) [] h = absurd h
signatures_are_objects (item d ds) (s ∷ ss) h = rw (is_object_there d (has_member (codes "keyid") d _ h.0.keyid)) (signatures_are_objects ds ss h.1)

signed_object : (name : List ℕ) (d o : Data) → object_in name d ≡ Ok o → (json.get name d ≡ Some o) × (is_object o ≡ true)
signed_object name d o h = let has = object_read name d o h in (has.1 ∙ ap Some (sym has.2), is_object_there o (has.0, has.2))

-- a member that is an object is the object of its members
itself : (name : List ℕ) (d o : Data) → json.get name d ≡ Some o → is_object o ≡ true → HasObject d name o
itself name d null has is = cc
itself name d (boolean b) has is = cc
itself name d (number n) has is = cc
itself name d (string s) has is = cc
itself name d (array ds) has is = cc
itself name d (object ms) has is = (ms, has, refl)

pub opened_read : (place : List ℕ) (d : Data) (o : Opened) → opened_in place d ≡ Ok o → MeansEnvelope d o.payload o.envelope
unfolding opened_in signatures_in signed_in canonical_text
opened_read place d o h =
    first_ok _ _ _ _ h (λ members x h. first_ok _ _ _ _ h (λ signatures y h. first_ok _ _ _ _ h (λ signed z h.
    first_ok _ _ _ _ y (λ values a y. first_ok _ _ _ _ y (λ objects b e.
    first_ok _ _ _ _ z (λ payload f z. first_ok _ _ _ _ z (λ text g z.
    let l = list_within_read 1 8 (codes "signatures") members values a in
    let same = l.2 ∙ (fits_read (list_all is_object) (codes "signatures") values objects b).1 in
    let each_signature = each_read (signature_in (codes "signatures")) MeansSignature (signature_read (codes "signatures")) l.0 signatures (subst (λ ds. each (signature_in (codes "signatures")) ds ≡ Ok signatures) (sym same) e) in
    let size : length values ≡ length signatures = ap length (sym l.2) ∙ each_size MeansSignature l.0 signatures each_signature in
    let low = l.3 in
    let high = l.4 in
    let means : MeansEnvelope members payload (record { signatures = signatures; signed = text }) = record {
      listed = l.0;
      has_signatures = l.1;
      signatures = each_signature;
      some = omega arith;
      few = omega arith;
      has_signed = (signed_object (codes "signed") members payload f).0;
      signed = (or_error_ok _ _ text g, (signed_object (codes "signed") members payload f).1);
    } in
    subst (λ v. MeansEnvelope v o.payload o.envelope) (sym (self_read place d members x))
    (subst (λ o. MeansEnvelope members o.payload o.envelope) (same_ok _ _ h)
    (subst (λ s. MeansEnvelope members s.payload (record { signatures = signatures; signed = s.text })) (same_ok _ _ z) means)))))))))

pub opened_there : (place : List ℕ) (d payload : Data) (e : Envelope) → MeansEnvelope d payload e → opened_in place d ≡ Ok (record { envelope = e; payload = payload })
unfolding opened_in signatures_in signed_in canonical_text
opened_there place d payload e h =
    let size = each_size MeansSignature h.listed e.signatures h.signatures in
    let low = h.some in
    let high = h.few in
    bind-ok _ _ d (self_there place d (has_member (codes "signatures") d _ h.has_signatures))
    ∙ bind-ok _ _ _ (
    bind-ok _ _ _ (list_within_there 1 8 (codes "signatures") d h.listed h.has_signatures (omega arith) (omega arith))
    ∙ bind-ok _ (each (signature_in (codes "signatures"))) (items_list h.listed) (fits_there (list_all is_object) (codes "signatures") (items_list h.listed) (signatures_are_objects h.listed e.signatures h.signatures))
    ∙ each_there (signature_in (codes "signatures")) MeansSignature (signature_there (codes "signatures")) h.listed e.signatures h.signatures)
    ∙ bind-ok _ _ (record { text = e.signed; payload = payload }) (
    bind-ok _ _ _ (object_there (codes "signed") d payload (itself (codes "signed") d payload h.has_signed h.signed.1))
    ∙ bind-ok _ _ _ (ap (or_error NotCanonical) h.signed.0))
