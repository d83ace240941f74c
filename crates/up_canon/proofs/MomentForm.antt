-- What has the form of a moment's text is the text of the parts that its digits spell, and is read where they are those of a moment.
use Rattle.std.proofs.Common.{◌≡◌, ℕ, ◌+◌, ◌-◌, ◌*◌, ◌/◌, ◌%◌, ◌<◌, ◌≤◌, ◌∷◌, [], List, Bool, true, false, refl, sym, ap, ◌∙◌, arith, None, Some, Option, subst}
use Rattle.std.specs.Prelude.{codes, MatchOption, ◌≢◌, unwrap_or, nat_lt, ◌==◌, if◌then◌else◌}
use Rattle.std.proofs.lemmas.Bool.{and_parts}
use Rattle.std.proofs.lemmas.Bool.Decides.{nat_tests}
use Rattle.std.proofs.lemmas.Option.{none-some}
use Rattle.up_canon.specs.Moments.{last_moment, day_number, year_of, month_of, day_in_month, moment_text, parts_text, parts_moment, read_moment, two_digits, fits_sign, has_form, is_date, is_time}
use Rattle.up_canon.proofs.MomentTexts.{only_texts_are_read, moments_are_read, parts_are_read, moment_parts, IsParts, civil_bounds, digits_back}
use Rattle.up_canon.proofs.Days.{is_date_from, is_date_to}
use lib.Pointwise.{pointwise_long}

abbrev signs : List ℕ
signs = codes "0000-00-00T00:00:00Z"

-- ---- the parts that the digits spell

abbrev pub year_in : List ℕ → ℕ
year_in t = two_digits t 0 * 100 + two_digits t 2

abbrev pub spelled_text : List ℕ → List ℕ
spelled_text t = parts_text (year_in t) (two_digits t 5) (two_digits t 8) (two_digits t 11) (two_digits t 14) (two_digits t 17)

digit : (b : ℕ) → fits_sign 48 b ≡ true → (48 ≤ b) × (b ≤ 57)
digit b h = grind (arith, nat_tests)

sign : (s b : ℕ) → (s == 48) ≡ false → fits_sign s b ≡ true → b ≡ s
sign s b other h = let e : (b == s) ≡ true = rw other at h in grind (arith, nat_tests)

-- two digits are those of the number that they spell
pair : (a b : ℕ) → fits_sign 48 a ≡ true → fits_sign 48 b ≡ true → (48 + ((a - 48) * 10 + (b - 48)) / 10 ≡ a) × (48 + ((a - 48) * 10 + (b - 48)) % 10 ≡ b)
pair a b h k = let x = digit a h in let y = digit b k in (omega arith, omega arith)

century : (a b c d : ℕ) → fits_sign 48 c ≡ true → fits_sign 48 d ≡ true → (((a - 48) * 10 + (b - 48)) * 100 + ((c - 48) * 10 + (d - 48))) / 100 ≡ (a - 48) * 10 + (b - 48)
century a b c d h k = let x = digit c h in let y = digit d k in omega arith

in_century : (a b c d : ℕ) → fits_sign 48 c ≡ true → fits_sign 48 d ≡ true → (((a - 48) * 10 + (b - 48)) * 100 + ((c - 48) * 10 + (d - 48))) % 100 ≡ (c - 48) * 10 + (d - 48)
in_century a b c d h k = let x = digit c h in let y = digit d k in omega arith

pub form_is_spelled : (t : List ℕ) → has_form t ≡ true → t ≡ spelled_text t
form_is_spelled (d0 ∷ d1 ∷ d2 ∷ d3 ∷ p4 ∷ d5 ∷ d6 ∷ p7 ∷ d8 ∷ d9 ∷ p10 ∷ d11 ∷ d12 ∷ p13 ∷ d14 ∷ d15 ∷ p16 ∷ d17 ∷ d18 ∷ p19 ∷ []) h =
    let h0 = and_parts _ _ h in
    let h1 = and_parts _ _ h0.1 in
    let h2 = and_parts _ _ h1.1 in
    let h3 = and_parts _ _ h2.1 in
    let h4 = and_parts _ _ h3.1 in
    let h5 = and_parts _ _ h4.1 in
    let h6 = and_parts _ _ h5.1 in
    let h7 = and_parts _ _ h6.1 in
    let h8 = and_parts _ _ h7.1 in
    let h9 = and_parts _ _ h8.1 in
    let h10 = and_parts _ _ h9.1 in
    let h11 = and_parts _ _ h10.1 in
    let h12 = and_parts _ _ h11.1 in
    let h13 = and_parts _ _ h12.1 in
    let h14 = and_parts _ _ h13.1 in
    let h15 = and_parts _ _ h14.1 in
    let h16 = and_parts _ _ h15.1 in
    let h17 = and_parts _ _ h16.1 in
    let h18 = and_parts _ _ h17.1 in
    let h19 = and_parts _ _ h18.1 in
    let high_year = pair d0 d1 h0.0 h1.0 in
    let low_year = pair d2 d3 h2.0 h3.0 in
    let month = pair d5 d6 h5.0 h6.0 in
    let day = pair d8 d9 h8.0 h9.0 in
    let hour = pair d11 d12 h11.0 h12.0 in
    let minute = pair d14 d15 h14.0 h15.0 in
    let second = pair d17 d18 h17.0 h18.0 in
    rw (century d0 d1 d2 d3 h2.0 h3.0, in_century d0 d1 d2 d3 h2.0 h3.0, high_year.0, high_year.1, low_year.0, low_year.1, month.0, month.1, day.0, day.1, hour.0, hour.1, minute.0, minute.1, second.0, second.1, sign 45 p4 refl h4.0, sign 45 p7 refl h7.0, sign 84 p10 refl h10.0, sign 58 p13 refl h13.0, sign 58 p16 refl h16.0, sign 90 p19 refl h19.0) refl
form_is_spelled t h = absurd (omega (arith, pointwise_long fits_sign signs t h))

-- ---- what has the form, and parts that are those of a moment

pub record Passes (t : List ℕ) : Type 0 where
  pub form : has_form t ≡ true
  pub date : is_date (year_in t) (two_digits t 5) (two_digits t 8) ≡ true
  pub time : is_time (two_digits t 11) (two_digits t 14) (two_digits t 17) ≡ true

high : (n : ℕ) → n < 100 → fits_sign 48 (48 + n / 10) ≡ true
high n h = grind (arith, nat_tests)

low : (n : ℕ) → fits_sign 48 (48 + n % 10) ≡ true
low n = grind (arith, nat_tests)

is_time_from : (h m s : ℕ) → h < 24 → m < 60 → s < 60 → is_time h m s ≡ true
is_time_from h m s a b c = grind (arith, nat_tests)

pub is_time_to : (h m s : ℕ) → is_time h m s ≡ true → (h < 24) × (m < 60) × (s < 60)
is_time_to h m s e =
    let both = and_parts _ _ e in
    let first = and_parts _ _ both.0 in
    (below h 24 first.0, below m 60 first.1, below s 60 both.1)
  where
    below : (a b : ℕ) → nat_lt a b ≡ true → a < b
    below a b h = grind (arith, nat_tests)

parts_pass : (year month day hour minute second : ℕ) → IsParts year month day hour minute second → Passes (parts_text year month day hour minute second)
parts_pass year month day hour minute second p =
    let small = civil_bounds year month day p.civil in
    let hours = p.hours in
    let minutes = p.minutes in
    let seconds = p.seconds in
    let years : ((48 + year / 100 / 10 - 48) * 10 + (48 + year / 100 % 10 - 48)) * 100 + ((48 + year % 100 / 10 - 48) * 10 + (48 + year % 100 % 10 - 48)) ≡ year = omega (arith, small.0) in
    record {
      form = rw (high (year / 100) (omega (arith, small.0)), low (year / 100), high (year % 100) (omega arith), low (year % 100), high month small.1, low month, high day small.2, low day, high hour (omega arith), low hour, high minute (omega arith), low minute, high second (omega arith), low second) refl;
      date = rw (years, digits_back month small.1, digits_back day small.2) (is_date_from year month day p.late p.civil);
      time = rw (digits_back hour (omega arith), digits_back minute (omega arith), digits_back second (omega arith)) (is_time_from hour minute second hours minutes seconds);
    }

moment_passes : (m : ℕ) → m ≤ last_moment → Passes (moment_text m)
unfolding moment_text
moment_passes m h = parts_pass (year_of (m / 86_400)) (month_of (m / 86_400)) (day_in_month (m / 86_400)) (m / 3600 % 24) (m / 60 % 60) (m % 60) (moment_parts m h).0

-- a text that does not pass is no moment's
pub unread : (t : List ℕ) → (Passes t → ⊥) → read_moment t ≡ None
unread t fails =
    elim (read_moment t) as (λ o. read_moment t ≡ o → o ≡ None) [
      | None ↦ λ e. refl
      | Some m ↦ λ e. let is = only_texts_are_read t m e in absurd (fails (subst Passes (sym is.1) (moment_passes m is.0)))
    ] refl

-- and one that passes is that of the moment that its digits spell
pub spelled_is_parts : (t : List ℕ) → Passes t → IsParts (year_in t) (two_digits t 5) (two_digits t 8) (two_digits t 11) (two_digits t 14) (two_digits t 17)
spelled_is_parts t h =
    let date = is_date_to _ _ _ h.date in
    let time = is_time_to _ _ _ h.time in
    record { late = date.0; civil = date.1; hours = time.0; minutes = time.1; seconds = time.2 }

pub read_spelled : (t : List ℕ) → Passes t → read_moment t ≡ Some (parts_moment (year_in t) (two_digits t 5) (two_digits t 8) (two_digits t 11) (two_digits t 14) (two_digits t 17))
read_spelled t h =
    let p = spelled_is_parts t h in
    ap read_moment (form_is_spelled t h.form) ∙ parts_are_read _ _ _ _ _ _ p.late p.civil p.hours p.minutes p.seconds

-- ---- what the reader finds out, one after another

cond_some : {A : Type 0} (b : Bool) (x y : A) → (if b then Some x else None) ≡ Some y → (b ≡ true) × (x ≡ y)
cond_some true x y e = (refl, ap (λ o. unwrap_or o x) e)
cond_some false x y e = absurd (none-some _ e)

pub no_date : (t : List ℕ) (a b c d n : ℕ) (o : Option ℕ) → a ≡ two_digits t 0 → b ≡ two_digits t 2 → c ≡ two_digits t 5 → d ≡ two_digits t 8
    → o ≡ (if is_date (a * 100 + b) c d then Some n else None) → o ≡ None → read_moment t ≡ None
no_date t a b c d n o e f g h made is = unread t λ p.
    let date : is_date (a * 100 + b) c d ≡ true = rw (e, f, g, h) p.date in
    none-some _ (sym is ∙ rw date at made)

pub no_time : (t : List ℕ) (a b c n : ℕ) (o : Option ℕ) → a ≡ two_digits t 11 → b ≡ two_digits t 14 → c ≡ two_digits t 17
    → o ≡ (if is_time a b c then Some n else None) → o ≡ None → read_moment t ≡ None
no_time t a b c n o e f g made is = unread t λ p.
    let time : is_time a b c ≡ true = rw (e, f, g) p.time in
    none-some _ (sym is ∙ rw time at made)

pub record IsRead (t : List ℕ) (m : ℕ) : Type 0 where
  pub value : read_moment t ≡ Some m
  pub bound : m ≤ last_moment

pub all_read : (t : List ℕ) (y mo d h mi s midnight passed : ℕ) (o q : Option ℕ) → has_form t ≡ true
    → y ≡ year_in t → mo ≡ two_digits t 5 → d ≡ two_digits t 8 → h ≡ two_digits t 11 → mi ≡ two_digits t 14 → s ≡ two_digits t 17
    → o ≡ (if is_date y mo d then Some (day_number y mo d * 86_400) else None) → o ≡ Some midnight
    → q ≡ (if is_time h mi s then Some (h * 3600 + mi * 60 + s) else None) → q ≡ Some passed
    → IsRead t (midnight + passed)
all_read t y mo d h mi s midnight passed o q form e1 e2 e3 e4 e5 e6 date date_is time time_is =
    let a = cond_some _ _ _ (sym date ∙ date_is) in
    let b = cond_some _ _ _ (sym time ∙ time_is) in
    let passes : Passes t = record { form = form; date = rw (← e1, ← e2, ← e3) a.0; time = rw (← e4, ← e5, ← e6) b.0 } in
    let sum : parts_moment y mo d h mi s ≡ midnight + passed = omega (arith, a.1, b.1) in
    let value : read_moment t ≡ Some (parts_moment y mo d h mi s) = rw (e1, e2, e3, e4, e5, e6) (read_spelled t passes) in
    let read = value ∙ ap Some sum in
    record { value = read; bound = (only_texts_are_read t (midnight + passed) read).0 }

-- ---- what is read, said by the text

pub exact_of : (t : List ℕ) (o : Option ℕ) → o ≡ read_moment t → MatchOption o ((m : ℕ) → m ≤ last_moment → t ≢ moment_text m) (λ m. t ≡ moment_text m)
exact_of t None e = λ m h is. none-some _ (e ∙ ap read_moment is ∙ moments_are_read m h)
exact_of t (Some m) e = (only_texts_are_read t m (sym e)).1
