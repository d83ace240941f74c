-- The sealing of a text, and thresholds: metadata counts as signed where enough of its role's keys have signed it (Uptane Standard 2.1.0).
use Rattle.std.specs.Prelude.{ℕ, ◌&&◌, List, Bool, nat_le, map, count_by, bytes_eq}
use Rattle.std.specs.List.{list_any}
use Rattle.up_sign.specs.Schemes.{Rules}
use Rattle.up_sign.specs.Hmac.{key_id, block_key}
use Rattle.up_sign.specs.declared.envelope.Signature.{Signature}
use Rattle.up_sign.specs.declared.envelope.Envelope.{Envelope}

-- the signature is the key's, over the text
abbrev pub is_by : Rules → List ℕ → List ℕ → Signature → Bool
is_by k text p s = bytes_eq s.keyid (key_id p) && (bytes_eq s.method k.method && k.is_valid p text s.sig)

-- a key is satisfied by an envelope with a signature of it, however many it has
abbrev pub is_satisfied : Rules → Envelope → List ℕ → Bool
is_satisfied k e p = list_any (is_by k e.signed p) e.signatures

-- at least so many of the keys are satisfied
abbrev pub is_accepted : Rules → List (List ℕ) → ℕ → Envelope → Bool
is_accepted k ps threshold e = nat_le threshold (count_by (is_satisfied k e) ps)

-- the identifier of a secret's public part
abbrev pub identifier : Rules → List ℕ → List ℕ
identifier k secret = key_id (k.public_of secret)

-- the HMAC block (RFC 2104, section 2) of a secret's public part, as which contracts see its hashed key
abbrev pub key_block : Rules → List ℕ → List ℕ
key_block k secret = block_key (k.public_of secret)

-- one signature for each secret, in order
abbrev pub signature_of : Rules → List ℕ → List ℕ → Signature
signature_of k text s = record { keyid = identifier k s; method = k.method; sig = k.tag s text }

-- the text with a signature of each secret, in their order
abbrev pub sealed_envelope : Rules → List (List ℕ) → List ℕ → Envelope
sealed_envelope k secrets text = record { signatures = map (signature_of k text) secrets; signed = text }
