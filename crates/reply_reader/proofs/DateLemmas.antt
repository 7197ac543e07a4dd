-- The date of a moment is clean.
use Rattle.std.proofs.Common.{◌≡◌, ℕ, zero, suc, ◌+◌, ◌-◌, ◌/◌, ◌%◌, ◌<◌, ◌≤◌, ◌^◌, Bool, true, List, [], ◌∷◌, ◌++◌, refl, sym, subst, arith}
use Rattle.std.specs.Prelude.{codes, nat_le, slice_index_or}
use Rattle.std.specs.List.{list_all}
use Rattle.std.proofs.lemmas.Bool.{le-leb}
use Rattle.std.proofs.lemmas.List.{reverse-append}
use Rattle.httparse.specs.Grammar.{is_value_byte}
use Rattle.httpdate.specs.declared.parts.Parts.{Parts}
use Rattle.httpdate.specs.Calendar.{days_in_month}
use Rattle.httpdate.specs.Text.{day_name, month_name, two_digits, four_digits, time_of_day, imf_fixdate}
use Rattle.mc_requests.specs.Dates.{date_of}
use Rattle.mc_requests.proofs.DateLemmas.{date_of_a_second}
use Rattle.scrip_form.specs.Texts.{is_visible}
use Rattle.reply_reader.proofs.HeadLines.{starts_solid}
use Rattle.reply_reader.proofs.QuietLemmas.{and_left, and_right, and_both}
use Rattle.reply_reader.proofs.CleanLemmas.{IsClean, all_append, value_of_visible, visible_solid}

abbrev all_visible : List ℕ → Bool
all_visible text = list_all is_visible text

index_visible : (texts : List (List ℕ)) (i : ℕ) → list_all all_visible texts ≡ true → all_visible (slice_index_or texts i []) ≡ true
index_visible [] i h = refl
index_visible (t ∷ texts) zero h = and_left (all_visible t) (list_all all_visible texts) h
index_visible (t ∷ texts) (suc i) h = index_visible texts i (and_right (all_visible t) (list_all all_visible texts) h)

digit : (k : ℕ) → k < 10 → is_visible (48 + k) ≡ true
digit k lt = and_both (nat_le 33 (48 + k)) _ (le-leb 33 (48 + k) (omega arith)) (le-leb (48 + k) 126 (omega arith))

two_visible : (n : ℕ) → n < 100 → all_visible (two_digits n) ≡ true
two_visible n lt = and_both _ _ (digit (n / 10) (omega arith)) (and_both _ true (digit (n % 10) (omega arith)) refl)

month_short : (y m : ℕ) → days_in_month y m ≤ 31
month_short y m = grind arith

values : (text : List ℕ) → all_visible text ≡ true → list_all is_value_byte text ≡ true
values text h = value_of_visible text h

record AreShort (p : Parts) : Type 0 where
  day : p.day < 100
  year : p.year < 10000
  hour : p.hour < 100
  min : p.min < 100
  sec : p.sec < 100

abbrev join : (a b : List ℕ) → list_all is_value_byte a ≡ true → list_all is_value_byte b ≡ true → list_all is_value_byte (a ++ b) ≡ true
join a b f g = all_append is_value_byte a b f g

two_values : (n : ℕ) → n < 100 → list_all is_value_byte (two_digits n) ≡ true
two_values n lt = value_of_visible (two_digits n) (two_visible n lt)

-- a date up to one of its parts
abbrev to_day : Parts → List ℕ
to_day p = day_name p.wday ++ codes ", " ++ two_digits p.day

abbrev to_month : Parts → List ℕ
to_month p = to_day p ++ codes " " ++ month_name p.mon

abbrev to_year : Parts → List ℕ
to_year p = to_month p ++ codes " " ++ four_digits p.year

abbrev to_time : Parts → List ℕ
to_time p = to_year p ++ codes " " ++ time_of_day p

day_visible : (p : Parts) → all_visible (day_name p.wday) ≡ true
day_visible p = index_visible (codes "Mon" ∷ codes "Tue" ∷ codes "Wed" ∷ codes "Thu" ∷ codes "Fri" ∷ codes "Sat" ∷ codes "Sun" ∷ []) (p.wday - 1) refl

month_visible : (p : Parts) → all_visible (month_name p.mon) ≡ true
month_visible p =
    index_visible (codes "Jan" ∷ codes "Feb" ∷ codes "Mar" ∷ codes "Apr" ∷ codes "May" ∷ codes "Jun" ∷ codes "Jul" ∷ codes "Aug" ∷ codes "Sep" ∷ codes "Oct" ∷ codes "Nov" ∷ codes "Dec" ∷ []) (p.mon - 1) refl

day_bytes : (p : Parts) → AreShort p → list_all is_value_byte (to_day p) ≡ true
day_bytes p s = join (day_name p.wday ++ codes ", ") (two_digits p.day) (join (day_name p.wday) (codes ", ") (values (day_name p.wday) (day_visible p)) refl) (two_values p.day s.day)

month_bytes : (p : Parts) → AreShort p → list_all is_value_byte (to_month p) ≡ true
month_bytes p s = join (to_day p ++ codes " ") (month_name p.mon) (join (to_day p) (codes " ") (day_bytes p s) refl) (values (month_name p.mon) (month_visible p))

year_bytes : (p : Parts) → AreShort p → list_all is_value_byte (to_year p) ≡ true
year_bytes p s =
    join (to_month p ++ codes " ") (four_digits p.year) (join (to_month p) (codes " ") (month_bytes p s) refl)
    (join (two_digits (p.year / 100)) (two_digits (p.year % 100)) (two_values (p.year / 100) (omega (arith, s.year))) (two_values (p.year % 100) (omega arith)))

clock_bytes : (p : Parts) → AreShort p → list_all is_value_byte (time_of_day p) ≡ true
clock_bytes p s =
    join (two_digits p.hour ++ codes ":" ++ two_digits p.min ++ codes ":") (two_digits p.sec)
    (join (two_digits p.hour ++ codes ":" ++ two_digits p.min) (codes ":")
    (join (two_digits p.hour ++ codes ":") (two_digits p.min) (join (two_digits p.hour) (codes ":") (two_values p.hour s.hour) refl) (two_values p.min s.min)) refl)
    (two_values p.sec s.sec)

date_bytes : (p : Parts) → AreShort p → list_all is_value_byte (imf_fixdate p) ≡ true
date_bytes p s = join (to_time p) (codes " GMT") (join (to_year p ++ codes " ") (time_of_day p) (join (to_year p) (codes " ") (year_bytes p s) refl) (clock_bytes p s)) refl

starts_on : (day number month year time : List ℕ) → all_visible day ≡ true → starts_solid (day ++ codes ", " ++ number ++ codes " " ++ month ++ codes " " ++ year ++ codes " " ++ time ++ codes " GMT") ≡ true
starts_on [] number month year time h = refl
starts_on (c ∷ day) number month year time h = visible_solid c (day ++ codes ", " ++ number ++ codes " " ++ month ++ codes " " ++ year ++ codes " " ++ time ++ codes " GMT") (and_left (is_visible c) (all_visible day) h)

date_starts : (p : Parts) → starts_solid (imf_fixdate p) ≡ true
date_starts p = starts_on (day_name p.wday) (two_digits p.day) (month_name p.mon) (four_digits p.year) (time_of_day p) (day_visible p)

pub date_is_clean : (moment : ℕ) → moment < 2 ^ 35 → IsClean (date_of moment)
date_is_clean moment below =
    let d = date_of_a_second moment below in
    let p : Parts = d.0.parts in
    let short : AreShort p = record {
      day = omega (arith, d.0.civil.2.1, month_short p.year p.mon);
      year = omega (arith, d.0.civil.0.1);
      hour = omega (arith, d.0.time.0);
      min = omega (arith, d.0.time.1);
      sec = omega (arith, d.0.time.2);
    } in
    subst IsClean d.2 (record {
      bytes = date_bytes p short;
      trimmed = and_both _ _ (date_starts p) (subst (λ (z : List ℕ). starts_solid z ≡ true) (sym (reverse-append (to_time p) (codes " GMT"))) refl);
    })
