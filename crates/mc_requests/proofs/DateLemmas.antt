-- The date of a moment is the date that `httpdate` gives its second.
use Rattle.std.proofs.Common.{◌≡◌, ℕ, zero, suc, ◌+◌, ◌-◌, ◌*◌, ◌/◌, ◌^◌, ◌<◌, ◌≤◌, Bool, true, false, cond, nat_lt, codes, refl, sym, ◌∙◌, ap, subst, arith}
use Rattle.std.proofs.lemmas.Bool.{ltb-true, ltb-false}
use Rattle.httpdate.specs.declared.date.HttpDate.{HttpDate}
use Rattle.httpdate.specs.Calendar.{days_in_year, days_in_month, days_of_years, days_of_months, days_from_civil, weekday}
use Rattle.httpdate.specs.Date.{unix_secs, date_text}
use Rattle.httpdate.specs.Text.{imf_fixdate}
use Rattle.httpdate.specs.Valid.{IsValid, parts_secs}
use Rattle.httpdate.proofs.CalendarLemmas.{days_of_months_all}
use Rattle.httpdate.proofs.Theorems.{unix_secs_injective}
use Rattle.mc_requests.specs.Dates.{years_off, months_off, parts_from, parts_of, date_of}

-- From some days that begin n years after 1970, at most `more` years were counted off: none of the
-- days is lost, and where that many years are enough, the days left are fewer than those of the year.
pub record YearsLeft (more n days : ℕ) (left : ℕ × ℕ) : Type 0 where
  pub same : days_of_years left.0 + left.1 ≡ days_of_years n + days
  pub within : days < more * 365 → left.1 < days_in_year (1970 + left.0)
  pub most : left.0 ≤ n + more

at_least_365 : (y : ℕ) → 365 ≤ days_in_year y
at_least_365 y = grind arith

years_step : (more n days d : ℕ) (rest : ℕ × ℕ) → days_of_years (suc n) ≡ days_of_years n + d → 365 ≤ d → d ≡ days_in_year (1970 + n) → YearsLeft more (suc n) (days - d) rest
    → YearsLeft (suc more) n days (cond (nat_lt days d) (n, days) rest)
years_step more n days d rest next least is k =
    let P : Bool → Type 0 = λ b. nat_lt days d ≡ b → YearsLeft (suc more) n days (cond b (n, days) rest) in
    let cases : P (nat_lt days d) = elim (nat_lt days d) as P [
      | true ↦ λ e. record {
        same = refl;
        within = λ h. subst (λ (x : ℕ). days < x) is (ltb-true days d e);
        most = omega arith;
      }
      | false ↦ λ e. let over : d ≤ days = ltb-false days d e in record {
        same = omega (arith, k.same);
        within = λ h. k.within (omega arith);
        most = omega (arith, k.most);
      }
    ] in cases refl

pub years_left : (more n days : ℕ) → YearsLeft more n days (years_off more n days)
unfolding years_off days_of_years
years_left zero n days = record { same = refl; within = λ h. absurd (omega arith); most = omega arith }
years_left (suc more) n days =
    years_step more n days (days_in_year (1970 + n)) (years_off more (suc n) (days - days_in_year (1970 + n)))
    refl (at_least_365 (1970 + n)) refl (years_left more (suc n) (days - days_in_year (1970 + n)))

-- the same of the months of a year, from the month n on
pub record MonthsLeft (y more n days : ℕ) (left : ℕ × ℕ) : Type 0 where
  pub same : days_of_months y left.0 + left.1 ≡ days_of_months y n + days
  pub within : days_of_months y n + days < days_of_months y (n + more) → left.1 < days_in_month y (suc left.0)
  pub most : days_of_months y n + days < days_of_months y (n + more) → left.0 < n + more

months_step : (y more n days d : ℕ) (rest : ℕ × ℕ) → days_of_months y (suc n) ≡ days_of_months y n + d → d ≡ days_in_month y (suc n) → MonthsLeft y more (suc n) (days - d) rest
    → MonthsLeft y (suc more) n days (cond (nat_lt days d) (n, days) rest)
months_step y more n days d rest next is k =
    let P : Bool → Type 0 = λ b. nat_lt days d ≡ b → MonthsLeft y (suc more) n days (cond b (n, days) rest) in
    let same_end : n + suc more ≡ suc n + more = omega arith in
    let cases : P (nat_lt days d) = elim (nat_lt days d) as P [
      | true ↦ λ e. record {
        same = refl;
        within = λ h. subst (λ (x : ℕ). days < x) is (ltb-true days d e);
        most = λ h. omega arith;
      }
      | false ↦ λ e.
          let over : d ≤ days = ltb-false days d e in
          let again : (days_of_months y n + days < days_of_months y (n + suc more)) → days_of_months y (suc n) + (days - d) < days_of_months y (suc n + more) = λ h. omega (arith, next, rw same_end at h) in
          record {
            same = omega (arith, k.same, next);
            within = λ h. k.within (again h);
            most = λ h. omega (arith, k.most (again h));
          }
    ] in cases refl

pub months_left : (y more n days : ℕ) → MonthsLeft y more n days (months_off y more n days)
unfolding months_off days_of_months
months_left y zero n days =
    let end : n + 0 ≡ n = omega arith in
    let never : (days_of_months y n + days < days_of_months y (n + 0)) → ⊥ = λ h. omega (arith, rw end at h) in
    record { same = refl; within = λ h. absurd (never h); most = λ h. absurd (never h) }
months_left y (suc more) n days =
    months_step y more n days (days_in_month y (suc n)) (months_off y more (suc n) (days - days_in_month y (suc n)))
    refl refl (months_left y more (suc n) (days - days_in_month y (suc n)))

-- the numbers that the years and the months give are a date, of this second
parts_are : (moment : ℕ) (years months : ℕ × ℕ) → YearsLeft 1100 0 (moment / 86400) years → MonthsLeft (1970 + years.0) 12 0 years.1 months → moment < 2 ^ 35
    → IsValid (parts_from moment years months) × (parts_secs (parts_from moment years months) ≡ moment)
unfolding days_of_years days_of_months
parts_are moment years months y m below =
    let year : (1970 + years.0) - 1970 ≡ years.0 = omega arith in
    let month : (1 + months.0) - 1 ≡ months.0 = omega arith in
    let next : 1 + months.0 ≡ suc months.0 = omega arith in
    let in_year : years.1 < days_in_year (1970 + years.0) = y.within (omega arith) in
    let whole = days_of_months_all (1970 + years.0) in
    let fits : 0 + years.1 < days_of_months (1970 + years.0) 12 = omega (arith, whole, in_year) in
    let in_month : months.1 < days_in_month (1970 + years.0) (1 + months.0) = rw next (m.within fits) in
    let in_twelve : months.0 < 12 = omega (arith, m.most fits) in
    let days : days_from_civil (1970 + years.0) (1 + months.0) (1 + months.1) ≡ moment / 86400 =
    rw (year, month) (omega (arith, y.same, m.same)) in (
      (
        ((omega arith, omega (arith, y.most)), (omega arith, omega arith), (omega arith, omega (arith, in_month))),
        (omega arith, omega arith, omega arith),
        ap weekday (sym days),
      ),
      rw days (omega arith),
    )

-- The kit's date of a moment's second, and its text.
pub date_of_a_second : (moment : ℕ) → moment < 2 ^ 35 → (d : HttpDate) × (unix_secs d ≡ moment) × (date_text d ≡ date_of moment)
unfolding date_of parts_of
date_of_a_second moment below =
    let years = years_off 1100 0 (moment / 86400) in
    let are = parts_are moment years (months_off (1970 + years.0) 12 0 years.1) (years_left 1100 0 (moment / 86400)) (months_left (1970 + years.0) 12 0 years.1) below in
    (record { parts = parts_of moment; civil = are.0.0; time = are.0.1; right_day = are.0.2 }, are.1, refl)

-- Each date that `httpdate` has of a second has that text.
pub text_of_a_second : (d : HttpDate) (moment : ℕ) → moment < 2 ^ 35 → unix_secs d ≡ moment → date_text d ≡ date_of moment
text_of_a_second d moment below is =
    let made = date_of_a_second moment below in
    ap imf_fixdate (unix_secs_injective d made.0 (is ∙ sym made.1)) ∙ made.2

-- Dates that another program gave.
date_of_0 : date_of 0 ≡ codes "Thu, 01 Jan 1970 00:00:00 GMT"
unfolding date_of parts_of years_off months_off
date_of_0 = refl

date_of_1000000 : date_of 1000000 ≡ codes "Mon, 12 Jan 1970 13:46:40 GMT"
unfolding date_of parts_of years_off months_off
date_of_1000000 = refl

date_of_784111777 : date_of 784111777 ≡ codes "Sun, 06 Nov 1994 08:49:37 GMT"
unfolding date_of parts_of years_off months_off
date_of_784111777 = refl

date_of_951782399 : date_of 951782399 ≡ codes "Mon, 28 Feb 2000 23:59:59 GMT"
unfolding date_of parts_of years_off months_off
date_of_951782399 = refl

date_of_951782400 : date_of 951782400 ≡ codes "Tue, 29 Feb 2000 00:00:00 GMT"
unfolding date_of parts_of years_off months_off
date_of_951782400 = refl

-- the last moment
date_of_34359738367 : date_of 34359738367 ≡ codes "Tue, 26 Oct 3058 03:46:07 GMT"
unfolding date_of parts_of years_off months_off
date_of_34359738367 = refl
