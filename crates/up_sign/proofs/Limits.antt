-- An envelope that a value means is within the limits of the format.
use Rattle.std.proofs.Common.{◌≡◌, List, [], ◌∷◌, true, length, refl, arith}
use Rattle.std.specs.List.{list_all}
use Rattle.hex.proofs.HexLemmas.{decode_of-ok}
use Rattle.serde_json.specs.Data.{Data, Items, no_items, item}
use Rattle.up_canon.specs.Meaning.{EachMeans}
use Rattle.up_canon.specs.Names.{is_from_to}
use Rattle.up_canon.proofs.ByteTests.{bytes_tested}
use Rattle.up_canon.proofs.Members.{within_there}
use Rattle.up_canon.proofs.Printable.{both}
use Rattle.up_sign.specs.Formats.{signature_fits}
use Rattle.up_sign.specs.Laws.{MeantFits}
use Rattle.up_sign.specs.Meaning.{MeansSignature}
use Rattle.up_sign.specs.Schemes.{is_byte}
use Rattle.up_sign.specs.declared.envelope.Signature.{Signature}

signature_fitting : (d : Data) (s : Signature) → MeansSignature d s → signature_fits s ≡ true
signature_fitting d s h =
    let ok = decode_of-ok h.sig.digits s.sig h.sig.decoded in
    let size = ok.2 in
    let low = h.sig.at_least in
    let high = h.sig.at_most in
    let whole : is_from_to 1 512 (length s.sig) ≡ true = within_there 1 512 (length s.sig) (omega arith) (omega arith) in
    both _ _ h.keyid_fits (both _ _ h.method_fits whole)

signatures_fit : (ds : Items) (ss : List Signature) → EachMeans MeansSignature ds ss → list_all signature_fits ss ≡ true
signatures_fit no_items [] h = refl
signatures_fit no_items (s ∷ ss) h = absurd h
signatures_fit (item d ds) [] h = absurd h
signatures_fit (item d ds) (s ∷ ss) h = both _ _ (signature_fitting d s h.0) (signatures_fit ds ss h.1)

signatures_have_bytes : (ds : Items) (ss : List Signature) → EachMeans MeansSignature ds ss → list_all (λ s. list_all is_byte s.sig) ss ≡ true
signatures_have_bytes no_items [] h = refl
signatures_have_bytes no_items (s ∷ ss) h = absurd h
signatures_have_bytes (item d ds) [] h = absurd h
signatures_have_bytes (item d ds) (s ∷ ss) h =
    both _ _ (bytes_tested s.sig (decode_of-ok h.0.sig.digits s.sig h.0.sig.decoded).3) (signatures_have_bytes ds ss h.1)

pub meant_fits : MeantFits
meant_fits d payload e h = (
  both _ _ (within_there 1 8 (length e.signatures) h.some h.few) (signatures_fit h.listed e.signatures h.signatures),
  signatures_have_bytes h.listed e.signatures h.signatures,
)
