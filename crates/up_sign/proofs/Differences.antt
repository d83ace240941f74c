-- Bytes are equal where their differences, taken together, are zero.
use Rattle.std.proofs.Common.{◌≡◌, ℕ, zero, suc, ◌+◌, ◌<◌, List, [], ◌∷◌, Bool, true, false, length, get_or, take, bit_or, bit_xor, refl, sym, ap, ap₂, ◌∙◌, arith}
use Rattle.std.specs.Prelude.{◌&&◌, ◌==◌, bytes_eq}
use Rattle.std.specs.Cmp.{both_ways}
use Rattle.std.specs.Int.Bits.{xor_self, xor_add_and}
use Rattle.std.proofs.lemmas.Bool.{and_parts}
use Rattle.std.proofs.lemmas.Bool.Decides.{nat_tests}
use Rattle.std.proofs.lemmas.Nat.{and_le_l, and_le_r, le_or_l, le_or_r}

-- two numbers have no difference where they are equal
difference_is_zero : (x y : ℕ) → (bit_xor x y == 0) ≡ (x == y)
difference_is_zero x y = both_ways _ _ there back
  where
    there : (bit_xor x y == 0) ≡ true → (x == y) ≡ true
    there h =
        let none : bit_xor x y ≡ 0 = grind (arith, nat_tests) in
        let same : x ≡ y = omega (arith, xor_add_and x y, and_le_l x y, and_le_r x y) in
        grind (arith, nat_tests)

    back : (x == y) ≡ true → (bit_xor x y == 0) ≡ true
    back h =
        let same : x ≡ y = grind (arith, nat_tests) in
        rw same (ap (λ n. n == 0) (xor_self y))

-- together they are zero where each is
together_is_zero : (d e : ℕ) → (bit_or d e == 0) ≡ ((d == 0) && (e == 0))
together_is_zero d e = both_ways _ _ there back
  where
    there : (bit_or d e == 0) ≡ true → ((d == 0) && (e == 0)) ≡ true
    there h =
        let none : bit_or d e ≡ 0 = grind (arith, nat_tests) in
        let left : d ≡ 0 = omega (arith, le_or_l d e) in
        let right : e ≡ 0 = omega (arith, le_or_r d e) in
        rw (left, right) refl

    back : ((d == 0) && (e == 0)) ≡ true → (bit_or d e == 0) ≡ true
    back h =
        let parts = and_parts (d == 0) (e == 0) h in
        let first = parts.0 in
        let second = parts.1 in
        let left : d ≡ 0 = grind (arith, nat_tests) in
        let right : e ≡ 0 = grind (arith, nat_tests) in
        rw (left, right) refl

and_assoc : (a b c : Bool) → ((a && b) && c) ≡ (a && (b && c))
and_assoc true b c = refl
and_assoc false b c = refl

and_one : (a : Bool) → a ≡ (a && true)
and_one true = refl
and_one false = refl

-- one byte more
equal_more : (xs ys : List ℕ) (i : ℕ) → i < length xs → i < length ys → bytes_eq (take (suc i) xs) (take (suc i) ys) ≡ (bytes_eq (take i xs) (take i ys) && (get_or xs i 0 == get_or ys i 0))
equal_more [] ys i h k = absurd (omega arith)
equal_more (x ∷ xs) [] i h k = absurd (omega arith)
equal_more (x ∷ xs) (y ∷ ys) zero h k = sym (and_one (x == y))
equal_more (x ∷ xs) (y ∷ ys) (suc i) h k =
    let h' : i < length xs = omega arith in
    let k' : i < length ys = omega arith in
    ap (λ b. (x == y) && b) (equal_more xs ys i h' k') ∙ sym (and_assoc (x == y) (bytes_eq (take i xs) (take i ys)) (get_or xs i 0 == get_or ys i 0))

pub difference_more : (xs ys : List ℕ) (i d : ℕ) → i < length xs → i < length ys → (d == 0) ≡ bytes_eq (take i xs) (take i ys)
    → (bit_or d (bit_xor (get_or xs i 0) (get_or ys i 0)) == 0) ≡ bytes_eq (take (i + 1) xs) (take (i + 1) ys)
difference_more xs ys i d h k before =
    let next : i + 1 ≡ suc i = omega arith in
    rw next (
    together_is_zero d _ ∙ ap₂ (λ a b. a && b) before (difference_is_zero (get_or xs i 0) (get_or ys i 0)) ∙ sym (equal_more xs ys i h k)
    )
