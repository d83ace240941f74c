-- Days since 1970-01-01 are those of the calendar of `jiff`, and each has a year, a month and a day of the month.
use Rattle.std.proofs.Common.{◌≡◌, ℕ, zero, suc, ◌+◌, ◌-◌, ◌*◌, ◌/◌, ◌<◌, ◌≤◌, true, false, inl, inr, refl, sym, ap, ◌∙◌, arith, ℤ, pos, negsuc, ◌-ℤ◌, ◌*ℤ◌, ◌≤ℤ◌, subst}
use Rattle.std.specs.Prelude.{nat_le, nat_lt, int_div, if◌then◌else◌, ◌⊎◌}
use Rattle.std.proofs.lemmas.Bool.{and_parts}
use Rattle.std.proofs.lemmas.Bool.Decides.{nat_tests}
use Rattle.std.proofs.lemmas.Int.{by_lt_z}
use Rattle.jiff_core.specs.Calendar.{IsCivilDate, day_count, days_of_months, days_in_month, days_in_year}
use Rattle.jiff_core.specs.Date.{epoch_day, IsYmd}
use Rattle.jiff_core.specs.declared.civil.date.Date.{Date}
use Rattle.jiff_core.proofs.MarchLemmas.{day_count-early}
use Rattle.jiff_core.proofs.CalendarLemmas.{days_from_civil-day_count, day_count-day_of_year, day_count-next_year, day_count-lt_year, days_of_months-zero, days_of_months_more, days_of_months_mono, days_of_months_all, day_of_year_bound}
use Rattle.jiff_core.proofs.SignedLemmas.{signed_arith}
use Rattle.jiff_core.proofs.StandardFacts.{known_days}
use Rattle.up_canon.specs.Names.{is_from_to}
use Rattle.up_canon.specs.Moments.{year_start, day_number, year_of, begun, month_of, day_in_month, is_date, DayIsOfCalendar, PartsAreOfDate}

-- ---- the day of a date

year_count : (y : ℕ) → 1970 ≤ y → day_count (pos y) 1 1 ≡ year_start y + 4_371_953
year_count y h =
    let e = day_count-early (pos y) (y + 9999) 1 1 (omega (arith, signed_arith)) (omega arith) (omega arith) (omega arith) in
    omega (arith, e)

pub date_count : (y m d : ℕ) → 1970 ≤ y → 1 ≤ d → day_count (pos y) m d ≡ day_number y m d + 4_371_953
date_count y m d h k = omega (arith, year_count y h, day_count-day_of_year (pos y) m d k)

pub day_is_of_calendar : DayIsOfCalendar
day_is_of_calendar y m d h k = omega (arith, signed_arith, days_from_civil-day_count (pos y) m d, date_count y m d h k)

pub year_next : (y : ℕ) → 1970 ≤ y → year_start (y + 1) ≡ year_start y + days_in_year (pos y)
year_next y h =
    omega (arith, day_count-next_year (pos y) (pos (y + 1)) (omega (arith, signed_arith)) (omega (arith, signed_arith)), year_count y h, year_count (y + 1) (omega arith))

-- ---- the year of a day

guess_low : (day : ℕ) → year_start ((day + 719_162) * 400 / 146_097 + 1) ≤ day
guess_low day = omega arith

guess_high : (day : ℕ) → day < year_start ((day + 719_162) * 400 / 146_097 + 3)
guess_high day = omega arith

pub year_mono : (y later : ℕ) → y ≤ later → year_start y ≤ year_start later
year_mono y later h = omega arith

-- the year whose days the day is among
pub year_is : (y day : ℕ) → 1 ≤ y → year_start y ≤ day → day < year_start (y + 1) → year_of day ≡ y
unfolding year_of
year_is y day one low high =
    let g = (day + 719_162) * 400 / 146_097 + 1 in
    let least : g ≤ y = omega (arith, guess_low day) in
    let most : y ≤ g + 1 = omega (arith, guess_high day) in
    elim (nat_le (year_start (g + 1)) day) as (λ b. nat_le (year_start (g + 1)) day ≡ b → (if b then g + 1 else g) ≡ y) [
      | true ↦ λ e. let le : year_start (g + 1) ≤ day = grind (arith, nat_tests) in omega arith
      | false ↦ λ e. let lt : day < year_start (g + 1) = grind (arith, nat_tests) in omega arith
    ] refl

-- and each day is among those of its year
pub year_of_from : (day : ℕ) → year_start (year_of day) ≤ day
unfolding year_of
year_of_from day =
    let g = (day + 719_162) * 400 / 146_097 + 1 in
    elim (nat_le (year_start (g + 1)) day) as (λ b. nat_le (year_start (g + 1)) day ≡ b → year_start (if b then g + 1 else g) ≤ day) [
      | true ↦ λ e. grind (arith, nat_tests)
      | false ↦ λ e. guess_low day
    ] refl

pub year_of_to : (day : ℕ) → day < year_start (year_of day + 1)
unfolding year_of
year_of_to day =
    let g = (day + 719_162) * 400 / 146_097 + 1 in
    elim (nat_le (year_start (g + 1)) day) as (λ b. nat_le (year_start (g + 1)) day ≡ b → day < year_start ((if b then g + 1 else g) + 1)) [
      | true ↦ λ e. omega (arith, guess_high day)
      | false ↦ λ e. grind (arith, nat_tests)
    ] refl

pub year_range : (day : ℕ) → day ≤ 2_932_896 → (1970 ≤ year_of day) × (year_of day ≤ 9999)
year_range day h =
    let from = year_of_from day in
    let to = year_of_to day in
    (omega arith, omega arith)

-- ---- the month and the day of the month

-- where the first m starts lie at the count or before it, and the others after it
begun_is : (start : ℕ → ℕ) (count n m : ℕ) → ((k : ℕ) → k < m → start k ≤ count) → ((k : ℕ) → m ≤ k → k < n → count < start k) → m ≤ n → begun start count n ≡ m
unfolding begun
begun_is start count zero m below above h = omega arith
begun_is start count (suc n) m below above h = by_order (order m n h) (λ m' b a h'. begun_is start count n m' b a h')
  where
    order : (m n : ℕ) → m ≤ suc n → (m ≤ n) ⊎ (m ≡ suc n)
    order m n h = elim (nat_le m n) as (λ b. nat_le m n ≡ b → (m ≤ n) ⊎ (m ≡ suc n)) [
      | true ↦ λ e. inl (grind (arith, nat_tests))
      | false ↦ λ e. inr (grind (arith, nat_tests))
    ] refl

    by_order : ((m ≤ n) ⊎ (m ≡ suc n)) → ((m' : ℕ) → ((k : ℕ) → k < m' → start k ≤ count) → ((k : ℕ) → m' ≤ k → k < n → count < start k) → m' ≤ n → begun start count n ≡ m') → begun start count (suc n) ≡ m
    by_order (inl le) more =
        let rest = more m below (λ k a b. above k a (omega arith)) le in
        let after = above n le (omega arith) in
        let test : nat_le (start n) count ≡ false = grind (arith, nat_tests) in
        rw (test, rest) (omega arith)
    by_order (inr is) more =
        let rest = more n (λ k lt. below k (omega arith)) (λ k a b. absurd (omega arith)) (omega arith) in
        let before = below n (omega arith) in
        let test : nat_le (start n) count ≡ true = grind (arith, nat_tests) in
        rw (test, rest) (omega arith)

-- the date at a day of a year
abbrev IsDateAt : ℕ → ℕ → ℕ → ℕ → Type 0
IsDateAt year day m d = IsCivilDate (pos year) m d × (day_number year m d ≡ day)

pub month_is : (y m d day : ℕ) → year_of day ≡ y → IsDateAt y day m d → month_of day ≡ m
unfolding month_of
month_is y m d day year h =
    let civil = h.0 in
    let place : day - year_start y ≡ days_of_months (pos y) (m - 1) + (d - 1) = omega (arith, h.1) in
    let last = days_of_months_more (pos y) m civil.1.0 in
    rw (year, place)
    (begun_is (days_of_months (pos y)) (days_of_months (pos y) (m - 1) + (d - 1)) 12 m
    (λ k lt. let earlier = days_of_months_mono (pos y) k (m - 1) (omega arith) in omega arith)
    (λ k le lt. let later = days_of_months_mono (pos y) m k le in omega (arith, civil.2))
    civil.1.1)

pub day_in_month_is : (y m d day : ℕ) → year_of day ≡ y → IsDateAt y day m d → day_in_month day ≡ d
unfolding day_in_month
day_in_month_is y m d day year h = rw (year, month_is y m d day year h) (omega (arith, h.0.2, h.1))

-- a date's day is among those of its year
pub among : (y m d : ℕ) → 1970 ≤ y → IsCivilDate (pos y) m d → (year_start y ≤ day_number y m d) × (day_number y m d < year_start (y + 1))
among y m d h civil = (omega arith, omega (arith, day_of_year_bound (pos y) m d civil, year_next y h, civil.2))

-- the parts of a date's day are those of the date
pub parts_are : (y m d : ℕ) → 1970 ≤ y → IsCivilDate (pos y) m d → (year_of (day_number y m d) ≡ y) × (month_of (day_number y m d) ≡ m) × (day_in_month (day_number y m d) ≡ d)
parts_are y m d h civil =
    let in_year = among y m d h civil in
    let year = year_is y (day_number y m d) (omega arith) in_year.0 in_year.1 in
    (year, month_is y m d _ year (civil, refl), day_in_month_is y m d _ year (civil, refl))

-- ---- each day has a date

-- a day that lies in the first k months lies in one of them
in_month : (y k n : ℕ) → k ≤ 12 → n < days_of_months (pos y) k → (m : ℕ) × (1 ≤ m) × (m ≤ 12) × (days_of_months (pos y) (m - 1) ≤ n) × (n < days_of_months (pos y) m)
in_month y zero n h lt = absurd (omega (arith, days_of_months-zero (pos y)))
in_month y (suc k) n h lt =
    elim (nat_lt n (days_of_months (pos y) k)) as (λ b. nat_lt n (days_of_months (pos y) k) ≡ b → (m : ℕ) × (1 ≤ m) × (m ≤ 12) × (days_of_months (pos y) (m - 1) ≤ n) × (n < days_of_months (pos y) m)) [
      | true ↦ λ e. in_month y k n (omega arith) (grind (arith, nat_tests))
      | false ↦ λ e.
          let le : days_of_months (pos y) k ≤ n = grind (arith, nat_tests) in
          let back : suc k - 1 ≡ k = omega arith in
          (suc k, omega arith, h, rw back le, lt)
    ] refl

-- the date of a day
pub date_at : (day : ℕ) → day ≤ 2_932_896 → IsCivilDate (pos (year_of day)) (month_of day) (day_in_month day) × (day_number (year_of day) (month_of day) (day_in_month day) ≡ day)
date_at day h =
    let y = year_of day in
    let range = year_range day h in
    let from = year_of_from day in
    let to = year_of_to day in
    let next = year_next y range.0 in
    let all = days_of_months_all (pos y) in
    let found = in_month y 12 (day - year_start y) (omega arith) (omega arith) in
    let m = found.0 in
    let d = day - year_start y - days_of_months (pos y) (m - 1) + 1 in
    let last = days_of_months_more (pos y) m found.1 in
    let civil : IsCivilDate (pos y) m d = ((omega (arith, signed_arith), omega (arith, signed_arith)), (found.1, found.2), (omega arith, omega (arith, found.3, found.4))) in
    let number : day_number y m d ≡ day = omega (arith, found.3) in
    let month = month_is y m d day refl (civil, number) in
    let place = day_in_month_is y m d day refl (civil, number) in
    rw (month, place) (civil, number)

-- ---- the parts of a date of `jiff`

nat_year : (y : ℤ) → pos 1970 ≤ℤ y → (n : ℕ) × (y ≡ pos n) × (1970 ≤ n)
nat_year (pos n) low = (n, refl, omega (arith, signed_arith))
nat_year (negsuc n) low = absurd (omega (arith, signed_arith))

pub parts_are_of_date : PartsAreOfDate
parts_are_of_date d day e =
    let civil : IsCivilDate d.year d.month d.day = (d.year_in, d.month_in, d.day_in) in
    let first = year_count 1970 (omega arith) in
    let count : day_count d.year d.month d.day ≡ day + 4_371_953 = omega (arith, signed_arith, days_from_civil-day_count d.year d.month d.day) in
    let low : pos 1970 ≤ℤ d.year = by_lt_z d.year (pos 1970) (λ lt. absurd (omega (arith, day_count-lt_year d.year d.month d.day (pos 1970) 1 1 civil (omega arith) lt))) (λ le. le) in
    let year = nat_year d.year low in
    let here : IsCivilDate (pos year.0) d.month d.day = subst (λ (y : ℤ). IsCivilDate y d.month d.day) year.1 civil in
    let same : day_count (pos year.0) d.month d.day ≡ day + 4_371_953 = subst (λ (y : ℤ). day_count y d.month d.day ≡ day + 4_371_953) year.1 count in
    let number : day_number year.0 d.month d.day ≡ day = omega (arith, date_count year.0 d.month d.day year.2 d.day_in.0) in
    let parts = parts_are year.0 d.month d.day year.2 here in
    (year.1 ∙ ap pos (sym parts.0 ∙ ap year_of number), sym parts.1 ∙ ap month_of number, sym parts.2 ∙ ap day_in_month number)

-- 1 January 1970 is day 0
pub epoch_day-first : (d : Date) → IsYmd (pos 1970) (pos 1) (pos 1) d → epoch_day d ≡ pos 0
epoch_day-first d h =
    let month : d.month ≡ 1 = omega (arith, signed_arith, h.1) in
    let day : d.day ≡ 1 = omega (arith, signed_arith, h.2) in
    rw (h.0, month, day) known_days.0

-- ---- from a date of `jiff` to seconds

range_to : (a b n : ℕ) → is_from_to a b n ≡ true → (a ≤ n) × (n ≤ b)
range_to a b n h = grind (arith, nat_tests)

pub is_date_from : (y m day : ℕ) → 1970 ≤ y → IsCivilDate (pos y) m day → is_date y m day ≡ true
is_date_from y m day late civil =
    let small : y ≤ 9999 = omega (arith, signed_arith, civil.0) in
    let low = civil.1 in
    let last = civil.2 in
    grind (arith, nat_tests)

pub is_date_to : (y m day : ℕ) → is_date y m day ≡ true → (1970 ≤ y) × IsCivilDate (pos y) m day
is_date_to y m day h =
    let both = and_parts _ _ h in
    let first = and_parts _ _ both.0 in
    let year : (1970 ≤ y) × (y ≤ 9999) = range_to 1970 9999 y first.0 in
    (year.0, ((omega (arith, signed_arith, year.1), omega (arith, signed_arith, year.1)), range_to 1 12 m first.1, range_to 1 (days_in_month (pos y) m) day both.1))

pub is_date_true : (d : Date) (y m day : ℕ) → IsYmd (pos y) (pos m) (pos day) d → 1970 ≤ y → is_date y m day ≡ true
is_date_true d y m day h late =
    let month : d.month ≡ m = omega (arith, signed_arith, h.1) in
    let days : d.day ≡ day = omega (arith, signed_arith, h.2) in
    let civil : IsCivilDate d.year d.month d.day = (d.year_in, d.month_in, d.day_in) in
    is_date_from y m day late (subst (λ (n : ℕ). IsCivilDate (pos y) m n) days (subst (λ (n : ℕ). IsCivilDate (pos y) n d.day) month (subst (λ (z : ℤ). IsCivilDate z d.month d.day) h.0 civil)))

pub epoch_day_is : (d : Date) (y m day : ℕ) → IsYmd (pos y) (pos m) (pos day) d → 1970 ≤ y → epoch_day d ≡ pos (day_number y m day)
epoch_day_is d y m day h late =
    let month : d.month ≡ m = omega (arith, signed_arith, h.1) in
    let days : d.day ≡ day = omega (arith, signed_arith, h.2) in
    let one = d.day_in.0 in
    rw (h.0, month, days) (day_is_of_calendar y m day late (omega arith))

pub seconds_since : (z a b : ℤ) (n : ℕ) → z ≡ (a -ℤ b) *ℤ pos 86_400_000_000_000 → a ≡ pos n → b ≡ pos 0 → int_div z (pos 1_000_000_000) ≡ pos (n * 86_400)
seconds_since z a b n e f g =
    let whole : z ≡ pos (n * 86_400_000_000_000) = omega (arith, signed_arith) in
    rw whole (ap pos (omega arith))
