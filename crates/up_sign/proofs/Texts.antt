-- The text of an envelope is read as the same envelope.
use Rattle.std.proofs.Common.{◌≡◌, ℕ, ◌+◌, ◌≤◌, List, [], ◌∷◌, ◌++◌, true, length, map, refl, sym, ap, ap₂, ◌∙◌, arith, append_assoc}
use Rattle.std.specs.Prelude.{◌&&◌, codes}
use Rattle.std.specs.List.{list_all}
use Rattle.std.proofs.lemmas.Bool.{and_parts}
use Rattle.std.proofs.lemmas.Bool.Decides.{nat_tests}
use Rattle.std.proofs.lemmas.Option.{cond_some}
use Rattle.hex.specs.Hex.{encode_lower, lower_digits}
use Rattle.hex.proofs.HexLemmas.{length-encode_with, decode_of-encode_lower}
use Rattle.serde_json.specs.Data.{Data, depth, items_depth}
use Rattle.serde_json.specs.View.{items_of}
use Rattle.serde_json.specs.Read.{read, max_depth}
use Rattle.up_canon.specs.Build.{list_with}
use Rattle.up_canon.specs.Canon.{is_printable_text, is_plain, items_are_plain, has_canon, text, PlainIsRead}
use Rattle.up_canon.specs.Meaning.{EachMeans}
use Rattle.up_canon.proofs.ByteTests.{bytes_placed}
use Rattle.up_canon.proofs.Members.{within}
use Rattle.up_canon.proofs.Printable.{printable-hex}
use Rattle.up_canon.specs.Names.{is_from_to, is_short_text}
use Rattle.up_sign.specs.Formats.{signature_fits, signature_value, envelope_text, envelope_fits, has_bytes, IsSigned}
use Rattle.up_sign.specs.Laws.{envelope_value, TextsAreRead}
use Rattle.up_sign.specs.Meaning.{MeansSignature, MeansEnvelope}
use Rattle.up_sign.specs.Schemes.{is_byte}
use Rattle.up_sign.specs.declared.envelope.Signature.{Signature}
use Rattle.up_sign.specs.declared.envelope.Envelope.{Envelope}
use Rattle.up_sign.proofs.Meaning.{opened_there}

-- ---- its value means it

signature_means : (s : Signature) → signature_fits s ≡ true → list_all is_byte s.sig ≡ true → MeansSignature (signature_value s) s
unfolding signature_value
signature_means s fits bytes =
    let p = and_parts (is_short_text 1 128 s.keyid) _ fits in
    let q = and_parts (is_short_text 1 64 s.method) _ p.1 in
    let size = within 1 512 (length s.sig) q.1 in
    let digits = length-encode_with lower_digits s.sig in
    let low = size.0 in
    let high = size.1 in
    record {
      keyid = refl;
      keyid_fits = p.0;
      method = refl;
      method_fits = q.0;
      sig = record { digits = encode_lower s.sig; has_digits = refl; at_least = omega arith; at_most = omega arith; decoded = decode_of-encode_lower s.sig (bytes_placed s.sig bytes) };
    }

signatures_mean : (ss : List Signature) → list_all signature_fits ss ≡ true → list_all (λ s. list_all is_byte s.sig) ss ≡ true → EachMeans MeansSignature (items_of (map signature_value ss)) ss
signatures_mean [] fits bytes = tt
signatures_mean (s ∷ ss) fits bytes =
    let p = and_parts (signature_fits s) _ fits in
    let q = and_parts (list_all is_byte s.sig) _ bytes in
    (signature_means s p.0 q.0, signatures_mean ss p.1 q.1)

value_means : (e : Envelope) (payload : Data) → envelope_fits e ≡ true → has_bytes e ≡ true → IsSigned e.signed payload → MeansEnvelope (envelope_value e payload) payload e
value_means e payload fits bytes signed =
    let p = and_parts (is_from_to 1 8 (length e.signatures)) _ fits in
    let size = within 1 8 (length e.signatures) p.0 in
    record {
      listed = items_of (map signature_value e.signatures);
      has_signatures = refl;
      signatures = signatures_mean e.signatures p.1 bytes;
      some = size.0;
      few = size.1;
      has_signed = refl;
      signed = signed;
    }

-- ---- its text is read as its value

short_is_printable : (least most : ℕ) (s : List ℕ) → is_short_text least most s ≡ true → is_printable_text s ≡ true
short_is_printable least most s h = (and_parts (is_from_to least most (length s)) _ h).1

signature_is_plain : (s : Signature) → signature_fits s ≡ true → list_all is_byte s.sig ≡ true → is_plain (signature_value s) ≡ true
unfolding signature_value
signature_is_plain s fits bytes =
    let p = and_parts (is_short_text 1 128 s.keyid) _ fits in
    let q = and_parts (is_short_text 1 64 s.method) _ p.1 in
    rw (short_is_printable 1 128 s.keyid p.0, short_is_printable 1 64 s.method q.0, printable-hex s.sig bytes) refl

signatures_are_plain : (ss : List Signature) → list_all signature_fits ss ≡ true → list_all (λ s. list_all is_byte s.sig) ss ≡ true → items_are_plain (items_of (map signature_value ss)) ≡ true
signatures_are_plain [] fits bytes = refl
signatures_are_plain (s ∷ ss) fits bytes =
    let p = and_parts (signature_fits s) _ fits in
    let q = and_parts (list_all is_byte s.sig) _ bytes in
    ap₂ (λ a b. a && b) (signature_is_plain s p.0 q.0) (signatures_are_plain ss p.1 q.1)

signature_depth : (s : Signature) → depth (signature_value s) ≡ 1
unfolding signature_value
signature_depth s = refl

signatures_depth : (ss : List Signature) → items_depth (items_of (map signature_value ss)) ≤ 1
signatures_depth [] = omega arith
signatures_depth (s ∷ ss) = omega (arith, signature_depth s, signatures_depth ss)

regroup : (p l c t b : List ℕ) → (((p ++ l) ++ c) ++ t) ++ b ≡ p ++ (l ++ (c ++ (t ++ b)))
regroup p l c t b = append_assoc ((p ++ l) ++ c) t b ∙ append_assoc (p ++ l) c (t ++ b) ∙ append_assoc p l (c ++ (t ++ b))

pub envelope_value-text : (e : Envelope) (payload : Data) → text payload ≡ e.signed → text (envelope_value e payload) ≡ envelope_text e
unfolding envelope_text
envelope_value-text e payload same =
    let listed = text (list_with (map signature_value e.signatures)) in
    sym (regroup (codes "{\"signatures\":") listed (codes ",\"signed\":") (text payload) (codes "}"))
    ∙ ap (λ (s : List ℕ). (((codes "{\"signatures\":" ++ listed) ++ codes ",\"signed\":") ++ s) ++ codes "}") same

pub envelope_plain : (e : Envelope) (payload : Data) → envelope_fits e ≡ true → has_bytes e ≡ true → is_plain payload ≡ true → is_plain (envelope_value e payload) ≡ true
envelope_plain e payload fits bytes plain =
    let p = and_parts (is_from_to 1 8 (length e.signatures)) _ fits in
    let listed = signatures_are_plain e.signatures p.1 bytes in
    rw (listed, plain) refl

pub envelope_depth : (e : Envelope) (payload : Data) (n : ℕ) → depth payload ≤ n → 2 ≤ n → depth (envelope_value e payload) ≤ n + 1
envelope_depth e payload n h two = omega (arith, signatures_depth e.signatures)

pub texts_are_read : PlainIsRead → TextsAreRead
texts_are_read plain_is_read place e payload fits bytes signed =
    let c = cond_some (has_canon payload) (text payload) e.signed signed.0 in
    let p = and_parts (is_plain payload) _ c.0 in
    let nested = p.1 in
    let shallow : depth payload ≤ 16 = grind (arith, nat_tests) in
    let few = envelope_depth e payload 16 shallow (omega arith) in
    let whole : depth (envelope_value e payload) ≤ max_depth = omega arith in (
      ap read (sym (envelope_value-text e payload c.1)) ∙ plain_is_read (envelope_value e payload) (envelope_plain e payload fits bytes p.0) whole,
      opened_there place (envelope_value e payload) payload e (value_means e payload fits bytes signed),
    )
