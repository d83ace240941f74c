use Rattle.std.proofs.Common.{refl}
use Rattle.jiff_core.specs.Calendar.{days_of_months}
use Rattle.up_canon.specs.Moments.{moment_text, year_of, begun, month_of, day_in_month}
use Rattle.up_canon.proofs.Days.{day_is_of_calendar, parts_are_of_date}
use Rattle.up_canon.proofs.calendar.calendar_laws.Goals as goal

pub returns-clause-day : goal.returns-clause-day
returns-clause-day c = day_is_of_calendar

pub returns-clause-parts : goal.returns-clause-parts
returns-clause-parts c = parts_are_of_date

pub returns-clause-worked : goal.returns-clause-worked
unfolding moment_text year_of begun month_of day_in_month days_of_months
returns-clause-worked c = refl
