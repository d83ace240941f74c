-- A moment's text is what a clock at UTC shows, and is read as the moment.
use Rattle.std.proofs.Common.{◌≡◌, ℕ, ◌+◌, ◌-◌, ◌*◌, ◌/◌, ◌%◌, ◌<◌, ◌≤◌, ◌++◌, ◌∷◌, [], List, true, false, refl, sym, ap, ◌∙◌, arith, ℤ, pos, None, Some}
use Rattle.std.specs.Prelude.{nat_le, if◌then◌else◌, ◌&&◌, bytes_eq, unwrap_or}
use Rattle.std.proofs.lemmas.Bool.Decides.{nat_tests}
use Rattle.std.proofs.lemmas.Slice.Eq.{bytes_eq-Decides}
use Rattle.std.proofs.lemmas.Option.{none-some}
use Rattle.jiff_core.specs.Calendar.{IsCivilDate}
use Rattle.jiff_core.proofs.CalendarLemmas.{days_in_month_bounds}
use Rattle.jiff.specs.Names.{iso_datetime_text}
use Rattle.jiff_core.specs.Date.{epoch_day}
use Rattle.jiff_core.specs.declared.civil.datetime.DateTime.{DateTime}
use Rattle.jiff_core.proofs.SignedLemmas.{signed_arith}
use Rattle.jiff_fmt.specs.Text.{pad2, year_text, fraction_part}
use Rattle.up_canon.specs.Moments.{last_moment, day_number, year_of, month_of, day_in_month, moment_text, parts_text, parts_moment, spelled_moment, read_moment, MomentsAreRead, OnlyTextsAreRead, PartsAreRead, MomentTextIsPlain}
use Rattle.up_canon.specs.Canon.{is_printable, is_printable_text}
use Rattle.up_canon.specs.Names.{is_short_text}
use Rattle.up_canon.proofs.Days.{parts_are_of_date, parts_are, among, year_mono, date_at, year_range}

-- what a clock shows
abbrev clock_text : ℤ → ℕ → ℕ → ℕ → ℕ → ℕ → ℕ → List ℕ
clock_text year month day hour minute second n =
    ((year_text year ++ 45 ∷ [] ++ pad2 month ++ 45 ∷ [] ++ pad2 day) ++ 84 ∷ (pad2 hour ++ 58 ∷ pad2 minute ++ 58 ∷ pad2 second ++ fraction_part None n)) ++ 90 ∷ []

clock_text_is : (year month day hour minute second : ℕ) → clock_text (pos year) month day hour minute second 0 ≡ parts_text year month day hour minute second
clock_text_is year month day hour minute second = refl

pub moment_texts : (dt : DateTime) (moment : ℕ) → epoch_day dt.date ≡ pos (moment / 86_400)
    → dt.time.hour ≡ moment / 3600 % 24 → dt.time.minute ≡ moment / 60 % 60 → dt.time.second ≡ moment % 60 → dt.time.subsec_nanosecond ≡ 0
    → iso_datetime_text dt ++ 90 ∷ [] ≡ moment_text moment
unfolding moment_text
moment_texts dt moment e hour minute second none =
    let p = parts_are_of_date dt.date (moment / 86_400) e in
    ap (λ (y : ℤ). clock_text y dt.date.month dt.date.day dt.time.hour dt.time.minute dt.time.second dt.time.subsec_nanosecond) p.0
    ∙ rw (p.1, p.2, hour, minute, second, none) (clock_text_is (year_of (moment / 86_400)) (month_of (moment / 86_400)) (day_in_month (moment / 86_400)) (moment / 3600 % 24) (moment / 60 % 60) (moment % 60))

-- ---- parts that are those of a moment

pub record IsParts (year month day hour minute second : ℕ) : Type 0 where
  pub late : 1970 ≤ year
  pub civil : IsCivilDate (pos year) month day
  pub hours : hour < 24
  pub minutes : minute < 60
  pub seconds : second < 60

clock_parts : (n h m s : ℕ) → h < 24 → m < 60 → s < 60 → ((n * 86_400 + h * 3600 + m * 60 + s) / 86_400 ≡ n) × ((n * 86_400 + h * 3600 + m * 60 + s) / 3600 % 24 ≡ h) × ((n * 86_400 + h * 3600 + m * 60 + s) / 60 % 60 ≡ m) × ((n * 86_400 + h * 3600 + m * 60 + s) % 60 ≡ s)
clock_parts n h m s a b c = (omega arith, omega arith, omega arith, omega arith)

clock_whole : (m : ℕ) → m / 86_400 * 86_400 + m / 3600 % 24 * 3600 + m / 60 % 60 * 60 + m % 60 ≡ m
clock_whole m = omega arith

pub parts_text_is : (year month day hour minute second : ℕ) → IsParts year month day hour minute second → moment_text (parts_moment year month day hour minute second) ≡ parts_text year month day hour minute second
unfolding moment_text
parts_text_is year month day hour minute second h =
    let clock = clock_parts (day_number year month day) hour minute second h.hours h.minutes h.seconds in
    let date = parts_are year month day h.late h.civil in
    rw (clock.0, clock.1, clock.2, clock.3, date.0, date.1, date.2) refl

whole_days : (n h m s : ℕ) → n ≤ 2_932_896 → h < 24 → m < 60 → s < 60 → n * 86_400 + h * 3600 + m * 60 + s ≤ last_moment
whole_days n h m s a b c d = omega arith

pub parts_moment_bound : (year month day hour minute second : ℕ) → IsParts year month day hour minute second → parts_moment year month day hour minute second ≤ last_moment
parts_moment_bound year month day hour minute second h =
    let before = among year month day h.late h.civil in
    let small : year ≤ 9999 = omega (arith, signed_arith, h.civil.0) in
    let last = year_mono (year + 1) 10000 (omega arith) in
    let most : day_number year month day ≤ 2_932_896 = omega (arith, before.1) in
    whole_days (day_number year month day) hour minute second most h.hours h.minutes h.seconds

pub moment_parts : (m : ℕ) → m ≤ last_moment → IsParts (year_of (m / 86_400)) (month_of (m / 86_400)) (day_in_month (m / 86_400)) (m / 3600 % 24) (m / 60 % 60) (m % 60) × (parts_moment (year_of (m / 86_400)) (month_of (m / 86_400)) (day_in_month (m / 86_400)) (m / 3600 % 24) (m / 60 % 60) (m % 60) ≡ m)
moment_parts m h =
    let day : m / 86_400 ≤ 2_932_896 = omega arith in
    let date = date_at (m / 86_400) day in
    let year = year_range (m / 86_400) day in
    (record { late = year.0; civil = date.0; hours = omega arith; minutes = omega arith; seconds = omega arith }, rw date.1 (clock_whole m))

-- ---- the digits of a text

pub digits_back : (n : ℕ) → n < 100 → (48 + n / 10 - 48) * 10 + (48 + n % 10 - 48) ≡ n
digits_back n h = omega arith

spelled_parts : (year month day hour minute second : ℕ) → year < 10000 → month < 100 → day < 100 → hour < 100 → minute < 100 → second < 100 → spelled_moment (parts_text year month day hour minute second) ≡ parts_moment year month day hour minute second
unfolding spelled_moment
spelled_parts year month day hour minute second a b c d e f =
    let years : ((48 + year / 100 / 10 - 48) * 10 + (48 + year / 100 % 10 - 48)) * 100 + ((48 + year % 100 / 10 - 48) * 10 + (48 + year % 100 % 10 - 48)) ≡ year = omega arith in
    rw (years, digits_back month b, digits_back day c, digits_back hour d, digits_back minute e, digits_back second f) refl

pub civil_bounds : (year month day : ℕ) → IsCivilDate (pos year) month day → (year < 10000) × (month < 100) × (day < 100)
civil_bounds year month day h =
    let most = days_in_month_bounds (pos year) month in
    (omega (arith, signed_arith, h.0), omega (arith, h.1), omega (arith, h.2))

nat_le_true : (a b : ℕ) → a ≤ b → nat_le a b ≡ true
nat_le_true a b h = grind (arith, nat_tests)

pub parts_are_read : PartsAreRead
unfolding read_moment
parts_are_read year month day hour minute second late civil hours minutes seconds =
    let parts : IsParts year month day hour minute second = record { late = late; civil = civil; hours = hours; minutes = minutes; seconds = seconds } in
    let small = civil_bounds year month day civil in
    let spelled = spelled_parts year month day hour minute second small.0 small.1 small.2 (omega arith) (omega arith) (omega arith) in
    let bound = parts_moment_bound year month day hour minute second parts in
    let test : nat_le (parts_moment year month day hour minute second) last_moment ≡ true = nat_le_true _ _ bound in
    rw (spelled, parts_text_is year month day hour minute second parts, test, (bytes_eq-Decides (parts_text year month day hour minute second) (parts_text year month day hour minute second)).1 refl) refl

pub moments_are_read : MomentsAreRead
unfolding moment_text
moments_are_read m h =
    let parts = moment_parts m h in
    let p = parts.0 in
    parts_are_read _ _ _ _ _ _ p.late p.civil p.hours p.minutes p.seconds ∙ ap Some parts.1

pub only_texts_are_read : OnlyTextsAreRead
unfolding read_moment
only_texts_are_read t m e =
    let s = spelled_moment t in
    elim (nat_le s last_moment) as (λ b. nat_le s last_moment ≡ b → (if b && bytes_eq (moment_text s) t then Some s else None) ≡ Some m → (m ≤ last_moment) × (t ≡ moment_text m)) [
      | true ↦ λ small. elim (bytes_eq (moment_text s) t) as (λ c. bytes_eq (moment_text s) t ≡ c → (if c then Some s else None) ≡ Some m → (m ≤ last_moment) × (t ≡ moment_text m)) [
        | true ↦ λ same e.
            let is : s ≡ m = some_same s m e in
            let text = (bytes_eq-Decides (moment_text s) t).0 same in
            (rw (← is) (le_from s last_moment small), sym text ∙ ap moment_text is)
        | false ↦ λ same e. absurd (none-some _ e)
      ] refl
      | false ↦ λ small e. absurd (none-some _ e)
    ] refl e
  where
    some_same : (a b : ℕ) → Some a ≡ Some b → a ≡ b
    some_same a b e = ap (λ o. unwrap_or o 0) e

    le_from : (a b : ℕ) → nat_le a b ≡ true → a ≤ b
    le_from a b h = grind (arith, nat_tests)

-- ---- plain text

digit_plain : (n : ℕ) → n ≤ 9 → is_printable (48 + n) ≡ true
digit_plain n h = grind (arith, nat_tests)

parts_are_plain : (year month day hour minute second : ℕ) → year < 10000 → month < 100 → day < 100 → hour < 100 → minute < 100 → second < 100
    → (is_short_text 20 20 (parts_text year month day hour minute second) ≡ true) × (is_printable_text (parts_text year month day hour minute second) ≡ true)
parts_are_plain year month day hour minute second a b c d e f =
    rw (digit_plain (year / 100 / 10) (omega arith), digit_plain (year / 100 % 10) (omega arith), digit_plain (year % 100 / 10) (omega arith), digit_plain (year % 100 % 10) (omega arith), digit_plain (month / 10) (omega arith), digit_plain (month % 10) (omega arith), digit_plain (day / 10) (omega arith), digit_plain (day % 10) (omega arith), digit_plain (hour / 10) (omega arith), digit_plain (hour % 10) (omega arith), digit_plain (minute / 10) (omega arith), digit_plain (minute % 10) (omega arith), digit_plain (second / 10) (omega arith), digit_plain (second % 10) (omega arith))
    (refl, refl)

pub moments_are_plain : MomentTextIsPlain
unfolding moment_text
moments_are_plain m h =
    let p = (moment_parts m h).0 in
    let small = civil_bounds _ _ _ p.civil in
    parts_are_plain (year_of (m / 86_400)) (month_of (m / 86_400)) (day_in_month (m / 86_400)) (m / 3600 % 24) (m / 60 % 60) (m % 60) small.0 small.1 small.2 (omega arith) (omega arith) (omega arith)
