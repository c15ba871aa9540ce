-- A moment as text (docs/KEYRING_FILES.md, "Checking a folder"): its date of the proleptic Gregorian calendar and its
-- time of day in UTC, as ISO 8601 writes them, or its seconds since 1970.
use Rattle.std.specs.Prelude.{ℕ, zero, suc, ◌+◌, ◌/◌, ◌%◌, nat_lt, if◌then◌else◌, List, [], ◌∷◌, ◌++◌, pos, decimal}
use Rattle.jiff_core.specs.Calendar.{days_in_month}

-- a day of the calendar, in a year from 0 on
pub record Day : Type 0 where
  pub year : ℕ
  pub month : ℕ
  pub day : ℕ

-- the first day of a month
abbrev pub first_of : ℕ → ℕ → Day
first_of year month = record { year = year; month = month; day = 1 }

-- the day after a day
abbrev pub next_day : Day → Day
next_day d =
    if nat_lt d.day (days_in_month (pos d.year) d.month) then record d { day = d.day + 1 }
    else (if nat_lt d.month 12 then first_of d.year (d.month + 1) else first_of (d.year + 1) 1)

-- the day that is so many days after 1 January 1970
unfoldable pub day_after : ℕ → Day
day_after zero = first_of 1970 1
day_after (suc n) = next_day (day_after n)

-- two decimal digits
abbrev pub two_digits : ℕ → List ℕ
two_digits n = (48 + n / 10) ∷ (48 + n % 10) ∷ []

-- a date, as YYYY-MM-DD
unfoldable pub date_text : Day → List ℕ
date_text d = two_digits (d.year / 100) ++ two_digits (d.year % 100) ++ 45 ∷ two_digits d.month ++ 45 ∷ two_digits d.day

-- the time of day that is so many seconds after midnight, as HH:MM:SS
unfoldable pub clock_text : ℕ → List ℕ
clock_text n = two_digits (n / 3600) ++ 58 ∷ two_digits (n % 3600 / 60) ++ 58 ∷ two_digits (n % 60)

-- the moment that is so many seconds after 1970-01-01T00:00:00Z; from the year 9999 on, the seconds
unfoldable pub time_text : ℕ → List ℕ
time_text seconds =
    if nat_lt seconds 253370764800 then date_text (day_after (seconds / 86400)) ++ 84 ∷ clock_text (seconds % 86400) ++ 90 ∷ []
    else decimal seconds ++ 115 ∷ []
