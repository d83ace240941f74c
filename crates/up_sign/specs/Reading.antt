-- What is read of a JSON value as an envelope, or its first fault.
use Rattle.std.specs.Prelude.{ℕ, List, codes, Result, Ok}
use Rattle.std.specs.List.{list_all}
use Rattle.serde_json.specs.Data.{Data}
use Rattle.up_canon.specs.HexText.{hex_in}
use Rattle.up_canon.specs.Members.{object_of, object_in}
use Rattle.up_canon.specs.Readers.{fitting, short_text_in, list_within}
use Rattle.up_canon.specs.Refusals.{canonical_text}
use Rattle.up_canon.specs.Steps.{◌>>=◌, each}
use Rattle.up_canon.specs.declared.refusal.Refusal.{Refusal}
use Rattle.up_sign.specs.declared.envelope.Signature.{Signature}
use Rattle.up_sign.specs.declared.envelope.Envelope.{Envelope}
use Rattle.up_sign.specs.Formats.{is_object}

-- place is the name of the list that it stands in
unfoldable pub signature_in : List ℕ → Data → Result Signature Refusal
signature_in place d = do
  members ← object_of place d
  keyid ← short_text_in 1 128 (codes "keyid") members
  method ← short_text_in 1 64 (codes "method") members
  sig ← hex_in 2 1024 (codes "sig") members
  Ok (record { keyid = keyid; method = method; sig = sig })

-- each of the list is an object before the first of them is read
unfoldable pub signatures_in : Data → Result (List Signature) Refusal
signatures_in d = do
  values ← list_within 1 8 (codes "signatures") d
  objects ← fitting (list_all is_object) (codes "signatures") values
  each (signature_in (codes "signatures")) objects

-- the object that is signed, and its canonical text
pub record Signed : Type 0 where
  pub text : List ℕ
  pub payload : Data

-- an object that has a canonical text, under the name `signed`
unfoldable pub signed_in : Data → Result Signed Refusal
signed_in d = do
  payload ← object_in (codes "signed") d
  text ← canonical_text payload
  Ok (record { text = text; payload = payload })

-- an envelope and the object that is signed
pub record Opened : Type 0 where
  pub envelope : Envelope
  pub payload : Data

-- place is the name of a value that is no object
unfoldable pub opened_in : List ℕ → Data → Result Opened Refusal
opened_in place d = do
  members ← object_of place d
  signatures ← signatures_in members
  signed ← signed_in members
  Ok (record { envelope = record { signatures = signatures; signed = signed.text }; payload = signed.payload })

-- the envelope alone
unfoldable pub envelope_in : Data → Result Envelope Refusal
envelope_in d = do
  opened ← opened_in (codes "body") d
  Ok opened.envelope
