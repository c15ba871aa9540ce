-- The day that is so many days after 1 January 1970 has that day number, and is the only date that has it.
use Rattle.std.proofs.Common.{◌≡◌, ℕ, zero, suc, ◌+◌, ◌<◌, ◌≤◌, inl, inr, refl, sym, ◌∙◌, subst, arith, rules, nat_lt, if◌then◌else◌, ℤ, pos, FitsSigned, to_z, of_z, unsigned_abs, ap}
use Rattle.std.specs.Int.{IsInRange, Width}
use Rattle.std.proofs.lemmas.Bool.{cases_lt, cond_below as below, cond_above as above}
use Rattle.std.proofs.lemmas.Int.{by_lt_z, to_z-of_z}
use Rattle.jiff_core.specs.declared.civil.date.Date.{Date}
use Rattle.jiff_core.specs.Calendar.{days_from_civil, days_in_month, IsYear}
use Rattle.jiff_core.specs.Date.{epoch_day}
use Rattle.jiff_core.proofs.SignedLemmas.{signed_arith}
use Rattle.jiff_core.proofs.CalendarLemmas.{days_from_civil-day_count, day_count-lt_year, day_count-epoch, days_in_month_bounds}
use Rattle.jiff_core.proofs.DateLemmas.{civil, epoch_day_injective, days_from_civil-day, days_from_civil-next_month, days_from_civil-next_year}
use Rattle.ring_check.specs.Time.{Day, first_of, next_day, day_after}

-- the calendar has this day, and it has this number
pub record IsNumbered (n : ℕ) (d : Day) : Type 0 where
  pub month_in : IsInRange 1 12 d.month
  pub day_in : IsInRange 1 (days_in_month (pos d.year) d.month) d.day
  pub number : days_from_civil (pos d.year) d.month d.day ≡ pos n

within_month : (n : ℕ) (d : Day) → IsNumbered n d → d.day < days_in_month (pos d.year) d.month → IsNumbered (suc n) (record d { day = d.day + 1 })
within_month n d is lt = record {
  month_in = is.month_in;
  day_in = omega (arith, lt);
  number = omega (arith, signed_arith, is.number, days_from_civil-day (pos d.year) d.month d.day (d.day + 1) is.day_in.0 (omega arith));
}

next_month : (n : ℕ) (d : Day) → IsNumbered n d → d.day ≡ days_in_month (pos d.year) d.month → d.month < 12 → IsNumbered (suc n) (first_of d.year (d.month + 1))
next_month n d is last lt = record {
  month_in = omega (arith, is.month_in, lt);
  day_in = omega (arith, days_in_month_bounds (pos d.year) (d.month + 1));
  number = omega (arith, signed_arith, is.number, days_from_civil-next_month (pos d.year) d.month d.day is.month_in.0 last);
}

next_year : (n : ℕ) (d : Day) → IsNumbered n d → d.day ≡ days_in_month (pos d.year) d.month → 12 ≤ d.month → IsNumbered (suc n) (first_of (d.year + 1) 1)
next_year n d is last le =
    let twelve : d.month ≡ 12 = omega (arith, is.month_in, le) in
    let long : d.day ≡ 31 = rw twelve at last in
    let number : days_from_civil (pos d.year) 12 31 ≡ pos n = rw (sym twelve, sym long) is.number in
    record {
      month_in = search rules;
      day_in = omega (arith, days_in_month_bounds (pos (d.year + 1)) 1);
      number = omega (arith, signed_arith, number, days_from_civil-next_year (pos d.year) (pos (d.year + 1)) (search rules) (omega (arith, signed_arith)));
    }

after_month : (n : ℕ) (d : Day) → IsNumbered n d → d.day ≡ days_in_month (pos d.year) d.month → IsNumbered (suc n) (if nat_lt d.month 12 then first_of d.year (d.month + 1) else first_of (d.year + 1) 1)
after_month n d is last =
    elim (cases_lt d.month 12) [
      | inl lt ↦ subst (λ x. IsNumbered (suc n) x) (below d.month 12 _ _ lt) (next_month n d is last lt)
      | inr le ↦ subst (λ x. IsNumbered (suc n) x) (above d.month 12 _ _ _ le refl) (next_year n d is last le)
    ]

next_numbered : (n : ℕ) (d : Day) → IsNumbered n d → IsNumbered (suc n) (next_day d)
next_numbered n d is =
    let length : ℕ = days_in_month (pos d.year) d.month in
    elim (cases_lt d.day length) [
      | inl lt ↦ subst (λ x. IsNumbered (suc n) x) (below d.day length _ _ lt) (within_month n d is lt)
      | inr le ↦ subst (λ x. IsNumbered (suc n) x) (above d.day length _ _ _ le refl) (after_month n d is (omega (arith, is.day_in, le)))
    ]

first_number : days_from_civil (pos 1970) 1 1 ≡ pos 0
first_number = omega (arith, signed_arith, days_from_civil-day_count (pos 1970) 1 1, day_count-epoch)

-- 1 January 1970 has the number 0
pub is_first : (d : Date) → d.year ≡ pos 1970 → pos d.month ≡ pos 1 → pos d.day ≡ pos 1 → epoch_day d ≡ pos 0
is_first d year month day =
    let first_month : d.month ≡ 1 = omega (arith, signed_arith, month) in
    let first_day : d.day ≡ 1 = omega (arith, signed_arith, day) in
    rw (year, first_month, first_day) first_number

pub numbered : (n : ℕ) → IsNumbered n (day_after n)
unfolding day_after
numbered zero = record { month_in = search rules; day_in = search rules; number = first_number }
numbered (suc n) = next_numbered n (day_after n) (numbered n)

one_day : (d : Date) (n : ℕ) (other : Day) → epoch_day d ≡ pos n → IsNumbered n other → (d.year ≡ pos other.year) × (d.month ≡ other.month) × (d.day ≡ other.day)
one_day d n other e is =
    by_lt_z d.year (pos other.year)
    (λ lt. absurd (omega (
      arith,
      signed_arith,
      e,
      is.number,
      days_from_civil-day_count d.year d.month d.day,
      days_from_civil-day_count (pos other.year) other.month other.day,
      day_count-lt_year d.year d.month d.day (pos other.year) other.month other.day (civil d) is.day_in.0 lt,
    )))
    (λ ge. by_lt_z (pos other.year) d.year
    (λ lt. absurd (omega (
      arith,
      signed_arith,
      e,
      is.number,
      days_from_civil-day_count d.year d.month d.day,
      days_from_civil-day_count (pos other.year) other.month other.day,
      day_count-lt_year (pos other.year) other.month other.day d.year d.month d.day (omega (arith, signed_arith, d.year_in, lt), is.month_in, is.day_in) d.day_in.0 lt,
    )))
    (λ le. let same : d.year ≡ pos other.year = omega (arith, signed_arith, ge, le) in
    let year_in : IsYear (pos other.year) = subst (λ y. IsYear y) same d.year_in in
    epoch_day_injective d (record { year = pos other.year; month = other.month; day = other.day; year_in = year_in; month_in = is.month_in; day_in = is.day_in }) (e ∙ sym is.number)))

-- a date with this number is this day
pub only_date : (d : Date) (n : ℕ) → epoch_day d ≡ pos n → (d.year ≡ pos (day_after n).year) × (d.month ≡ (day_after n).month) × (d.day ≡ (day_after n).day)
only_date d n e = one_day d n (day_after n) e (numbered n)

-- a number that is cast and isn't negative
pub kept : (w : Width) (z : ℤ) (n : ℕ) → FitsSigned w z → z ≡ pos n → unsigned_abs (to_z w (of_z w z)) ≡ n
kept w z n fits e = ap unsigned_abs (to_z-of_z w z fits ∙ e)
