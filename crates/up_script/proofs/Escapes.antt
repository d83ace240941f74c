-- Texts in which a backslash stands before each quote and each backslash, read up to the next of them.
use Rattle.std.proofs.Common.{◌≡◌, ℕ, zero, suc, ◌≤◌, List, [], ◌∷◌, ◌++◌, Bool, true, false, cond, length, take, refl, sym, ap, ap₂, ◌∙◌, arith}
use Rattle.std.specs.Prelude.{◌||◌, ◌==◌, flat_map}
use Rattle.std.proofs.lemmas.Grind.{flat_map-append}
use Rattle.memchr.specs.Find.{is_byte2, Passes, Nowhere}
use Rattle.up_canon.specs.Canon.{escape_of}
use Rattle.up_manifest.proofs.PlainTexts.{escape_of-more}

-- a quote or a backslash
abbrev pub is_special : ℕ → Bool
is_special = is_byte2 34 92

escaped_itself : (x : ℕ) → (is_special x ≡ true → ⊥) → escape_of x ≡ x ∷ []
escaped_itself x other = by_test ((x == 34) || (x == 92)) other
  where
    by_test : (b : Bool) → (b ≡ true → ⊥) → cond b (92 ∷ x ∷ []) (x ∷ []) ≡ x ∷ []
    by_test true other = absurd (other refl)
    by_test false other = refl

-- bytes in front of the first such one stand for themselves
pub front_itself : (bytes : List ℕ) (n : ℕ) → n ≤ length bytes → Nowhere (Passes is_special bytes) 0 n → flat_map escape_of (take n bytes) ≡ take n bytes
front_itself bytes zero short none = refl
front_itself [] (suc n) short none = refl
front_itself (x ∷ bytes) (suc n) short none =
    ap₂ (λ (a b : List ℕ). a ++ b) (escaped_itself x (none 0 (omega arith) (omega arith)))
    (front_itself bytes n (omega arith) (λ j low high passes. none (suc j) (omega arith) (omega arith) passes))

-- and so do all where there is none
pub all_itself : (bytes : List ℕ) → Nowhere (Passes is_special bytes) 0 (length bytes) → flat_map escape_of bytes ≡ bytes
all_itself [] none = refl
all_itself (x ∷ bytes) none =
    ap₂ (λ (a b : List ℕ). a ++ b) (escaped_itself x (none 0 (omega arith) (omega arith)))
    (all_itself bytes (λ j low high passes. none (suc j) (omega arith) (omega arith) passes))

-- a piece that stands for itself, and one more byte behind it
pub escape-more : (before direct special left : List ℕ) → flat_map escape_of direct ≡ direct
    → flat_map escape_of before ++ (direct ++ (flat_map escape_of special ++ left)) ≡ flat_map escape_of ((before ++ direct) ++ special) ++ left
escape-more before direct special left itself =
    let rest = flat_map escape_of special ++ left in
    ap (λ t. flat_map escape_of before ++ (t ++ rest)) (sym itself) ∙ escape_of-more before direct rest ∙ escape_of-more (before ++ direct) special left

-- the last piece
pub last-more : (before last : List ℕ) → flat_map escape_of last ≡ last → flat_map escape_of before ++ last ≡ flat_map escape_of (before ++ last)
last-more before last itself = ap (λ t. flat_map escape_of before ++ t) (sym itself) ∙ sym (flat_map-append escape_of before last)
