-- Ed25519 keeps the laws of a scheme.
unfoldable pub use Rattle.up_ed25519.specs.Scheme.{shown_of}
use Rattle.std.proofs.Common.{◌≡◌, ℕ, suc, ◌<◌, ◌&&◌, ◌==◌, Bool, true, false, if◌then◌else◌, List, [], ◌∷◌, length, get_or, refl, sym, ap, ap₂, ◌∙◌, arith, lt-ltb, eqb-true, eq-eqb, ne_eqb}
use Rattle.std.specs.List.{list_all}
use Rattle.hex.specs.Hex.{encode_lower, lower_digits}
use Rattle.hex.proofs.HexLemmas.{length-encode_with}
use Rattle.up_canon.specs.Names.{is_short_text, is_from_to}
use Rattle.up_canon.proofs.Printable.{printable-hex}
use Rattle.up_sign.specs.Schemes.{IsScheme, is_byte}
use Rattle.up_ed25519.specs.Scheme.{ed25519, is_key}
use Rattle.up_curve.proofs.Signatures.{sized, valid_when_signed}
use Rattle.up_curve.proofs.Order.{public_is}

parts : (a b : Bool) → (a && b) ≡ true → (a ≡ true) × (b ≡ true)
parts true true e = (refl, refl)
parts true false e = (refl, e)
parts false b e = (e, absurd (let k : false ≡ true = e in cc))

short : (n : ℕ) → n ≡ 64 → is_from_to 0 1024 n ≡ true
short n e = ap (λ m. is_from_to 0 1024 m) e

shown_fits : (p : List ℕ) → is_short_text 0 1024 (shown_of p) ≡ true
unfolding shown_of
shown_fits p = from (is_key p) refl
  where
    from : (t : Bool) → is_key p ≡ t → is_short_text 0 1024 (if is_key p then encode_lower p else []) ≡ true
    from true e =
        ap (λ t. is_short_text 0 1024 (if t then encode_lower p else [])) e
        ∙ ap₂ (λ m n. m && n) (short (length (encode_lower p)) (omega (arith, length-encode_with lower_digits p, eqb-true (length p) 32 (parts (length p == 32) (list_all is_byte p) e).0)))
        (printable-hex p (parts (length p == 32) (list_all is_byte p) e).1)
    from false e = ap (λ t. is_short_text 0 1024 (if t then encode_lower p else [])) e

pub ed25519_lawful : IsScheme ed25519
ed25519_lawful = record {
  method = refl;
  shown = shown_fits;
  public_fits = λ s h. public_is s;
  tag_length = λ s m h. (omega (arith, sized.signature_length s m), omega (arith, sized.signature_length s m));
  tag_bytes = λ s m h. sized.signature_bytes s m;
  tag_is_valid = λ s m h. valid_when_signed s m;
}

-- bytes are below 256
pub are_bytes : (p : List ℕ) → ((i : ℕ) → get_or p i 0 < 256) → list_all is_byte p ≡ true
are_bytes [] h = refl
are_bytes (b ∷ p) h = ap₂ (λ m n. m && n) (lt-ltb b 256 (h 0)) (are_bytes p (λ i. h (suc i)))

pub shown_key : (p : List ℕ) → length p ≡ 32 → ((i : ℕ) → get_or p i 0 < 256) → encode_lower p ≡ shown_of p
unfolding shown_of
shown_key p l h =
    sym (ap (λ t. if t then encode_lower p else []) (ap₂ (λ m n. m && n) (eq-eqb (length p) 32 l) (are_bytes p h)))

pub shown_other : (p : List ℕ) → (length p ≡ 32 → ⊥) → [] ≡ shown_of p
unfolding shown_of
shown_other p l = sym (ap (λ t. if t && list_all is_byte p then encode_lower p else []) (ne_eqb (length p) 32 l))
