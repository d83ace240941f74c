-- Envelopes as text, and the limits of their parts. The Uptane Standard 2.1.0 leaves the encoding open; this is the one used here.
use Rattle.std.specs.Prelude.{◌≡◌, ℕ, ◌++◌, ◌&&◌, List, [], ◌∷◌, Bool, Some, IsTrue, length, map, codes, is_some}
use Rattle.std.specs.List.{list_all}
use Rattle.serde_json.specs.Data.{Data, string}
use Rattle.serde_json.specs.Find.{as_object}
use Rattle.up_canon.specs.Build.{object_with, list_with, hex_value}
use Rattle.up_canon.specs.Canon.{text, canon}
use Rattle.up_canon.specs.Names.{is_from_to, is_short_text}
use Rattle.up_sign.specs.Schemes.{is_byte}
use Rattle.up_sign.specs.declared.envelope.Signature.{Signature}
use Rattle.up_sign.specs.declared.envelope.Envelope.{Envelope}

-- ---- limits

-- an identifier of 1 to 128 bytes of printable ASCII, a method of 1 to 64, and a signature of 1 to 512 bytes
abbrev pub signature_fits : Signature → Bool
signature_fits s = is_short_text 1 128 s.keyid && (is_short_text 1 64 s.method && is_from_to 1 512 (length s.sig))

-- 1 to 8 signatures within their limits
abbrev pub envelope_fits : Envelope → Bool
envelope_fits e = is_from_to 1 8 (length e.signatures) && list_all signature_fits e.signatures

-- whose signatures are bytes
abbrev pub has_bytes : Envelope → Bool
has_bytes e = list_all (λ s. list_all is_byte s.sig) e.signatures

-- the value is an object
abbrev pub is_object : Data → Bool
is_object d = is_some (as_object d)

-- the text is the canonical one of the object
abbrev pub IsSigned : List ℕ → Data → Type 0
IsSigned t payload = (canon payload ≡ Some t) × IsTrue (is_object payload)

-- ---- text

-- a signature as JSON
unfoldable pub signature_value : Signature → Data
signature_value s = object_with ((codes "keyid", string s.keyid) ∷ (codes "method", string s.method) ∷ (codes "sig", hex_value s.sig) ∷ [])

-- the signed text stands in it as it is
unfoldable pub envelope_text : Envelope → List ℕ
envelope_text e =
    codes "{\"signatures\":" ++ text (list_with (map signature_value e.signatures)) ++ codes ",\"signed\":" ++ e.signed ++ codes "}"
