-- What was sealed is read and opened again.
use Rattle.std.proofs.Common.{◌≡◌, ℕ, ◌≤◌, List, [], ◌∷◌, ◌++◌, true, Ok, Result, length, map, refl}
use Rattle.std.specs.Prelude.{IsTrue, IsAscii, codes}
use Rattle.std.specs.List.{list_all}
use Rattle.std.proofs.lemmas.Bool.{and_parts}
use Rattle.std.proofs.lemmas.Str.{IsAscii-append, IsUtf8-from_ascii}
use Rattle.serde_json.specs.Data.{Data, string}
use Rattle.up_canon.specs.Build.{list_with, hex_value}
use Rattle.up_canon.specs.Canon.{has_canon, is_plain, text}
use Rattle.up_canon.specs.Names.{is_from_to, is_short_text}
use Rattle.up_canon.specs.declared.refusal.Refusal.{Refusal}
use Rattle.up_sign.specs.Envelopes.{sealed_envelope}
use Rattle.up_sign.specs.Formats.{signature_value, signature_fits, envelope_text, envelope_fits, has_bytes, is_object}
use Rattle.up_sign.specs.Laws.{TextsAreRead, SealedFits, envelope_value}
use Rattle.up_sign.specs.Schemes.{Rules, is_byte}
use Rattle.up_sign.specs.declared.envelope.Envelope.{Envelope}
use Rattle.up_sign.specs.declared.envelope.Signature.{Signature}
use Rattle.up_sign.proofs.Meaning.{opened_read}
use Rattle.up_roles.specs.Laws.{AreSigners}
use Rattle.up_roles.specs.Payload.{largest_file, sealed_text, file_in}
use Rattle.up_canon.proofs.Ascii.{small-ascii, text-ascii}
use Rattle.up_roles.proofs.MeantFiles.{ReadsAs, file_there}
use Rattle.up_canon.proofs.PlainValues.{IsPlain, AllItems, plain-object, plain-list, plain-string}
use Rattle.up_canon.proofs.Printable.{printable-hex}

-- what is known of the crates below
pub record Lower : Type 0 where
  pub texts : TextsAreRead
  pub limits : SealedFits

-- ---- the text of an envelope is ASCII

plain-signature : (s : Signature) → signature_fits s ≡ true → list_all is_byte s.sig ≡ true → IsPlain 1 (signature_value s)
unfolding signature_value
plain-signature s fits bytes =
    let p = and_parts (is_short_text 1 128 s.keyid) _ fits in
    let q = and_parts (is_short_text 1 64 s.method) _ p.1 in
    plain-object 0 ((codes "keyid", string s.keyid) ∷ (codes "method", string s.method) ∷ (codes "sig", hex_value s.sig) ∷ [])
    (refl, plain-string s.keyid (and_parts _ _ p.0).1, (refl, plain-string s.method (and_parts _ _ q.0).1, (refl, plain-string _ (printable-hex s.sig bytes), tt)))

plain-signatures : (ss : List Signature) → list_all signature_fits ss ≡ true → list_all (λ s. list_all is_byte s.sig) ss ≡ true → AllItems 1 (map signature_value ss)
plain-signatures [] fits bytes = tt
plain-signatures (s ∷ ss) fits bytes =
    let p = and_parts (signature_fits s) _ fits in
    let q = and_parts (list_all is_byte s.sig) _ bytes in
    (plain-signature s p.0 q.0, plain-signatures ss p.1 q.1)

envelope-ascii : (e : Envelope) → envelope_fits e ≡ true → has_bytes e ≡ true → IsAscii e.signed → IsAscii (envelope_text e)
unfolding envelope_text
envelope-ascii e fits bytes signed =
    let listed = list_with (map signature_value e.signatures) in
    let p = and_parts (is_from_to 1 8 (length e.signatures)) _ fits in
    let plain = plain-list 1 (map signature_value e.signatures) (plain-signatures e.signatures p.1 bytes) in
    IsAscii-append (((codes "{\"signatures\":" ++ text listed) ++ codes ",\"signed\":") ++ e.signed) (codes "}")
    (IsAscii-append ((codes "{\"signatures\":" ++ text listed) ++ codes ",\"signed\":") e.signed
    (IsAscii-append (codes "{\"signatures\":" ++ text listed) (codes ",\"signed\":") (IsAscii-append (codes "{\"signatures\":") (text listed) (small-ascii (codes "{\"signatures\":") refl) (text-ascii listed plain.plain)) (small-ascii (codes ",\"signed\":") refl))
    signed)
    (small-ascii (codes "}") refl)

-- ---- and is read as the envelope that was sealed

pub read-again : {F : Type 0} (meaning : Data → Result F Refusal) (M : Data → F → Type 0) → ReadsAs meaning M → (k : Rules) (secrets : List (List ℕ)) (payload : Data) (file : F)
    → Lower → AreSigners k secrets → has_canon payload ≡ true → IsTrue (is_object payload) → M payload file
    → length (sealed_text k secrets payload) ≤ largest_file → file_in meaning (sealed_text k secrets payload) ≡ Ok (file, sealed_envelope k secrets (text payload))
unfolding sealed_text
read-again meaning M reads k secrets payload file law signers canon object means small =
    let e = sealed_envelope k secrets (text payload) in
    let limits = law.limits k secrets (text payload) signers.scheme signers.fit signers.some signers.few in
    let read = law.texts (codes "body") e payload limits.0 limits.1 (rw canon refl, object) in
    let ascii = envelope-ascii e limits.0 limits.1 (text-ascii payload (and_parts (is_plain payload) _ canon).0) in
    file_there meaning M reads (envelope_text e) file e (record {
      value = envelope_value e payload;
      json_text = record { small = small; utf8 = IsUtf8-from_ascii (envelope_text e) ascii; reads = read.0 };
      payload = payload;
      enveloped = opened_read (codes "body") (envelope_value e payload) (record { envelope = e; payload = payload }) read.1;
      means = means;
    })
