-- The public key that a Root shows.
use Rattle.std.proofs.Common.{refl, ap, sym, subst, ◌∙◌}
use Rattle.std.specs.Prelude.{◌≡◌, ℕ, ◌&&◌, Bool, true, false, List, Option, Some, None, Result, Ok, Err, bytes_eq, if◌then◌else◌}
use Rattle.std.specs.Cmp.Lexicographic.{bytes_decides}
use Rattle.hex.specs.Hex.{decode_of}
use Rattle.hex.specs.declared.error.FromHexError.{FromHexError}
use Rattle.up_shown.specs.Showing.{ReadsShown, showing}
use Rattle.up_ed25519.specs.Scheme.{ed25519}

-- the bytes that the digits write, where they are a key that is shown by just these digits
abbrev pub shown_by : List ℕ → Result (List ℕ) FromHexError → Option (List ℕ)
shown_by digits (Err e) = None
shown_by digits (Ok p) = if ed25519.public_fits p && bytes_eq (ed25519.shown p) digits then Some p else None

-- the key whose hex text this is, in lower case
unfoldable pub read_shown : List ℕ → Option (List ℕ)
read_shown digits = shown_by digits (decode_of digits)

both : (a b : Bool) → (a && b) ≡ true → (a ≡ true) × (b ≡ true)
both true true e = (refl, refl)
both true false e = (refl, e)
both false b e = (e, absurd (let k : false ≡ true = e in cc))

shown_by_is : (digits : List ℕ) (r : Result (List ℕ) FromHexError) (p : List ℕ) → shown_by digits r ≡ Some p → (ed25519.shown p ≡ digits) × (ed25519.public_fits p ≡ true)
shown_by_is digits (Err e) p h = absurd (let k : None ≡ Some p = h in cc)
shown_by_is digits (Ok q) p h = from _ refl
  where
    from : (t : Bool) → (ed25519.public_fits q && bytes_eq (ed25519.shown q) digits) ≡ t → (ed25519.shown p ≡ digits) × (ed25519.public_fits p ≡ true)
    from true e =
        let is : Some q ≡ Some p = ap (λ b. if b then Some q else None) (sym e) ∙ h in
        let parts = both (ed25519.public_fits q) (bytes_eq (ed25519.shown q) digits) e in
        let same : q ≡ p = cc in
        subst (λ z. (ed25519.shown z ≡ digits) × (ed25519.public_fits z ≡ true)) same
        ((bytes_decides (ed25519.shown q) digits).0 parts.1, parts.0)
    from false e = absurd (let k : None ≡ Some p = ap (λ b. if b then Some q else None) (sym e) ∙ h in cc)

-- what is read is a key that is shown so
pub shown_is_read : ReadsShown (showing ed25519 read_shown)
unfolding read_shown
shown_is_read digits p h = shown_by_is digits (decode_of digits) p h
