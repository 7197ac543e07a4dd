-- The date of a moment, as HTTP writes it (RFC 9110, 5.6.7: IMF-fixdate).
use Rattle.std.specs.Prelude.{ℕ, zero, suc, ◌+◌, ◌-◌, ◌/◌, ◌%◌, nat_lt, if◌then◌else◌, List}
use Rattle.httpdate.specs.declared.parts.Parts.{Parts}
use Rattle.httpdate.specs.Calendar.{days_in_year, days_in_month, weekday}
use Rattle.httpdate.specs.Text.{imf_fixdate}

-- The years counted off from some days that begin n years after 1970, at most so many, and the days
-- left in the last.
unfoldable pub years_off : ℕ → ℕ → ℕ → ℕ × ℕ
years_off zero n days = (n, days)
years_off (suc more) n days =
    if nat_lt days (days_in_year (1970 + n)) then (n, days)
    else years_off more (suc n) (days - days_in_year (1970 + n))

-- the months counted off from some days of the year, and the days left
unfoldable pub months_off : ℕ → ℕ → ℕ → ℕ → ℕ × ℕ
months_off year zero n days = (n, days)
months_off year (suc more) n days =
    if nat_lt days (days_in_month year (suc n)) then (n, days)
    else months_off year more (suc n) (days - days_in_month year (suc n))

-- the numbers of a date from the years and the months counted off
abbrev pub parts_from : ℕ → ℕ × ℕ → ℕ × ℕ → Parts
parts_from moment years months = record {
  year = 1970 + years.0;
  mon = 1 + months.0;
  day = 1 + months.1;
  hour = moment % 86400 / 3600;
  min = moment % 3600 / 60;
  sec = moment % 60;
  wday = weekday (moment / 86400);
}

-- the numbers of a date in the year that was counted off to
abbrev pub parts_in : ℕ → ℕ × ℕ → Parts
parts_in moment years = parts_from moment years (months_off (1970 + years.0) 12 0 years.1)

-- The numbers of the date of a moment. Moments end in the year 3058, so 1,100 years are enough.
unfoldable pub parts_of : ℕ → Parts
parts_of moment = parts_in moment (years_off 1100 0 (moment / 86400))

unfoldable pub date_of : ℕ → List ℕ
date_of moment = imf_fixdate (parts_of moment)
