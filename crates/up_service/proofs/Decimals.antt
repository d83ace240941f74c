-- Numbers as they are written in decimal.
use Rattle.std.proofs.Common.{◌≡◌, ◌&&◌, ℕ, zero, suc, ◌<◌, ◌≤◌, Bool, true, false, cond, List, [], ◌∷◌, drop, Result, Ok, Err, Some, None, refl, sym, ap, ◌∙◌, subst, arith, get_or, ◌^◌}
use Rattle.std.specs.Prelude.{bytes_eq, decimal, nat_lt, nat_le}
use Rattle.std.specs.Str.Parse.{IsNumeral, digits_value, without_leading_plus, ParsesUnsigned}
use Rattle.std.proofs.lemmas.Bool.{ne_eqb, lt-ltb, le-leb, ltb-true, leb-true}
use Rattle.std.proofs.lemmas.Slice.Eq.{bytes_eq-Decides}
use Rattle.std.proofs.lemmas.Fmt.{first_decimal, decimal-digits_value, parse-decimal, decimal_digit}
use Rattle.std.proofs.lemmas.Str.Parse.{numerals_by_value, tells_digits}
use Rattle.up_service.specs.Jobs.{number_to}

-- a text that isn't how a number of 1 to so many is written
none_to : (most : ℕ) (text : List ℕ) → (text ≡ decimal (digits_value 10 text) → 0 < digits_value 10 text → digits_value 10 text ≤ most → ⊥) → number_to most text ≡ None
none_to most text other = by_tests (bytes_eq text (decimal (digits_value 10 text))) (nat_lt 0 (digits_value 10 text)) (nat_le (digits_value 10 text) most) refl refl refl
  where
    by_tests : (a b c : Bool) → bytes_eq text (decimal (digits_value 10 text)) ≡ a → nat_lt 0 (digits_value 10 text) ≡ b → nat_le (digits_value 10 text) most ≡ c → cond (a && (b && c)) (Some (digits_value 10 text)) None ≡ None
    by_tests true true true p q r = absurd (other ((bytes_eq-Decides text (decimal (digits_value 10 text))).0 p) (ltb-true 0 (digits_value 10 text) q) (leb-true (digits_value 10 text) most r))
    by_tests true true false p q r = refl
    by_tests true false c p q r = refl
    by_tests false b c p q r = refl

-- a text that is
some_to : (most n : ℕ) (text : List ℕ) → digits_value 10 text ≡ n → text ≡ decimal n → 0 < n → n ≤ most → number_to most text ≡ Some n
some_to most n text value is some few =
    subst (λ m. cond (bytes_eq text (decimal m) && (nat_lt 0 m && nat_le m most)) (Some m) None ≡ Some n) (sym value)
    (ap (λ t. cond (t && (nat_lt 0 n && nat_le n most)) (Some n) None) ((bytes_eq-Decides text (decimal n)).1 is)
    ∙ ap (λ t. cond (t && nat_le n most) (Some n) None) (lt-ltb 0 n some) ∙ ap (λ t. cond t (Some n) None) (le-leb n most few))

no_plus : (text : List ℕ) → 48 < get_or text 0 0 → without_leading_plus text ≡ text
no_plus [] h = refl
no_plus (c ∷ cs) h = ap (λ (b : Bool). drop (cond b 1 0) (c ∷ cs)) (ne_eqb c 43 (omega arith))

-- digits of which the first isn't 0
pub number_read : {E : Type 0} (most n : ℕ) (text : List ℕ) (r : Result ℕ E) → 48 < get_or text 0 0 → ParsesUnsigned 32 10 text r → r ≡ Ok n → n ≤ most → number_to most text ≡ Some n
number_read most n text (Err e) first h is few = absurd (cc)
number_read most n text (Ok m) first h is few =
    let same : m ≡ n = cc in
    let plain = no_plus text first in
    let numeral : IsNumeral 10 text = subst (IsNumeral 10) plain h.0.0 in
    let value : m ≡ digits_value 10 text = h.1 ∙ ap (digits_value 10) plain in
    let small : digits_value 10 text < 2 ^ 32 = subst (λ l. digits_value 10 l < 2 ^ 32) plain h.0.1 in
    let written : decimal (digits_value 10 text) ≡ text =
    decimal-digits_value (numerals_by_value _ tells_digits) text numeral.1 numeral.0 (λ zero'. absurd (omega arith)) (omega arith) in
    some_to most n text (sym value ∙ same) (sym written ∙ ap decimal (sym value ∙ same)) (above n (sym written ∙ ap decimal (sym value ∙ same))) few
  where
    above : (n : ℕ) → text ≡ decimal n → 0 < n
    above zero is = absurd (let ends : 48 ≡ get_or text 0 0 = sym (ap (λ l. get_or l 0 0) (is ∙ decimal_digit 0 (omega arith))) in omega arith)
    above (suc n) is = omega arith

-- no such digits, or too large a number
pub number_not_read : {E : Type 0} (most : ℕ) (text : List ℕ) (r : Result ℕ E) → most < 2 ^ 32 → ParsesUnsigned 32 10 text r → ((n : ℕ) → r ≡ Ok n → most < n) → number_to most text ≡ None
number_not_read most text r small h over = none_to most text (λ is some few. let k = over (digits_value 10 text) (parse-decimal 32 (digits_value 10 text) text r (omega arith) (omega arith) is h) in omega arith)

-- a first byte that isn't a digit from 1
pub number_not_begun : (most : ℕ) (text : List ℕ) → most < 2 ^ 32 → (48 < get_or text 0 0 → ⊥) → number_to most text ≡ None
number_not_begun most text small other = none_to most text (λ is some few. other (subst (λ l. 48 < get_or l 0 0) (sym is) (first_decimal (digits_value 10 text) some (omega arith))))
