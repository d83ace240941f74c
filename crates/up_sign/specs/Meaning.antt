-- What a JSON value means as an envelope, as a relation: which members it has.
use Rattle.std.specs.Prelude.{◌≡◌, ◌≤◌, IsTrue, length, Some, codes}
use Rattle.serde_json.specs.Data.{Data, array, Items}
use Rattle.serde_json.specs.Find as json
use Rattle.up_canon.specs.Meaning.{HasText, HasHex, EachMeans}
use Rattle.up_canon.specs.Names.{is_short_text}
use Rattle.up_sign.specs.Formats.{IsSigned}
use Rattle.up_sign.specs.declared.envelope.Signature.{Signature}
use Rattle.up_sign.specs.declared.envelope.Envelope.{Envelope}

-- the value has the members of the signature, within their limits; others are left aside
pub record MeansSignature (d : Data) (s : Signature) : Type 0 where
  pub keyid : HasText d (codes "keyid") s.keyid
  pub keyid_fits : IsTrue (is_short_text 1 128 s.keyid)
  pub method : HasText d (codes "method") s.method
  pub method_fits : IsTrue (is_short_text 1 64 s.method)
  pub sig : HasHex 2 1024 d (codes "sig") s.sig

-- the envelope of a signed object
pub record MeansEnvelope (d payload : Data) (e : Envelope) : Type 0 where
  pub listed : Items
  pub has_signatures : json.get (codes "signatures") d ≡ Some (array listed)
  pub signatures : EachMeans MeansSignature listed e.signatures
  pub some : 1 ≤ length e.signatures
  pub few : length e.signatures ≤ 8
  pub has_signed : json.get (codes "signed") d ≡ Some payload
  pub signed : IsSigned e.signed payload
