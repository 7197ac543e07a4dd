-- The place of a fault is where the fields stop.
use Rattle.std.proofs.Common.{◌≡◌, ℕ, zero, suc, ◌-◌, Bool, true, false, cond, ltb, List, [], ◌∷◌, ◌++◌, length, take, drop, Result, Ok, Err, refl, sym, ap, ◌∙◌, append_assoc, arith}
use Rattle.std.proofs.lemmas.List.{length-append}
use Rattle.mc_fields.specs.Reading.{Read, ◌>>=◌, whole}
use Rattle.mc_fields.specs.Field.{Size, two, size, bytes_number, Field, field_bytes, spelled}
use Rattle.mc_fields.specs.Field as field
use Rattle.mc_fields.specs.Form.{Form, done, number, flag, str, plain, sized_at, flag_at, plain_at, counted_after, counted_at, passing, str_at, run, all_of}
use Rattle.mc_fields.specs.Stops.{MayStand, GoesOn, StopsAt}
use Rattle.mc_fields.proofs.FieldBytes.{IsBytes, Takes}
use Rattle.mc_fields.proofs.FormLaws.{Path, answer, path_fields, run_takes, whole_more, number_takes, flag_takes, plain_takes, str_takes, number_reads, flag_reads, plain_reads, str_reads}

abbrev failed : {A : Type 0} → ℕ → Result A ℕ
failed d = Err d

err_is : {A : Type 0} (a b : ℕ) → failed {A = A} a ≡ failed {A = A} b → a ≡ b
err_is a b e = cc

-- ---- a fault of one field is at its first byte

guard_err : {A : Type 0} (b : Bool) (l d : ℕ) (r : Result A ℕ) → (r ≡ Err d → d ≡ l) → cond b (Err l) r ≡ Err d → d ≡ l
guard_err true l d r other e = cc
guard_err false l d r other e = other e

number_err : (z : Size) (low high : ℕ) (bytes : List ℕ) (d : ℕ) → sized_at z low high bytes ≡ Err d → d ≡ length bytes
number_err z low high bytes d e =
    let n = bytes_number z (take (size z) bytes) in
    guard_err (ltb (length bytes) (size z)) (length bytes) d _ (guard_err (ltb n low) (length bytes) d _ (guard_err (ltb high n) (length bytes) d (Ok (n, drop (size z) bytes)) (λ no. absurd cc))) e

plain_err : (n : ℕ) (bytes : List ℕ) (d : ℕ) → plain_at n bytes ≡ Err d → d ≡ length bytes
plain_err n bytes d e = guard_err (ltb (length bytes) n) (length bytes) d (Ok (take n bytes, drop n bytes)) (λ no. absurd cc) e

flag_err : (bytes : List ℕ) (d : ℕ) → flag_at bytes ≡ Err d → d ≡ length bytes
flag_err [] d e = cc
flag_err (zero ∷ rest) d e = absurd cc
flag_err (suc zero ∷ rest) d e = absurd cc
flag_err (suc (suc b) ∷ rest) d e = cc

bind_err : {A B : Type 0} (r : Result A ℕ) (f : A → Result B ℕ) (l d : ℕ) → ((c : ℕ) → r ≡ Err c → c ≡ l) → ((x : A) → f x ≡ Err d → d ≡ l) → (r >>= f) ≡ Err d → d ≡ l
bind_err (Ok x) f l d first then_err e = then_err x e
bind_err {A} (Err c) f l d first then_err e = first d (ap (λ (k : ℕ). failed {A = A} k) (err_is c d e))

counted_err : (bytes : List ℕ) (d : ℕ) → counted_at bytes ≡ Err d → d ≡ length bytes
unfolding counted_at
counted_err bytes d e =
    bind_err (sized_at two 0 65535 bytes) (counted_after (length bytes)) (length bytes) d (λ c h. number_err two 0 65535 bytes c h)
    (λ x h. guard_err (ltb (length x.1) x.0) (length bytes) d (Ok (take x.0 x.1, drop x.0 x.1)) (λ no. absurd cc) h) e

str_err : (test : List ℕ → Bool) (bytes : List ℕ) (d : ℕ) → str_at test bytes ≡ Err d → d ≡ length bytes
unfolding str_at
str_err test bytes d e = bind_err (counted_at bytes) (passing test (length bytes)) (length bytes) d (λ c h. counted_err bytes c h) (λ x h. not_passed (test x.0) x h) e
  where
    not_passed : (b : Bool) (x : List ℕ × List ℕ) → cond b (Ok x) (Err (length bytes)) ≡ Err d → d ≡ length bytes
    not_passed true x h = absurd cc
    not_passed false x h = cc

-- ---- one field and what comes after it

-- as StopsAt, with the bytes that are left in place of the place
record Stuck {A : Type 0} (f : Form A) (bytes : List ℕ) (left : ℕ) : Type 0 where
  before : List Field
  next : Form A
  rest : List ℕ
  goes_on : GoesOn f before next
  parts : bytes ≡ spelled before ++ rest
  left_is : left ≡ length rest
  none : (v : Field) (after : Form A) (more : List ℕ) → MayStand next v after → rest ≡ field_bytes v ++ more → ⊥

-- how a field is read: what was read may stand, a fault is at its first byte, and what may stand is read
record ReadsField {A V : Type 0} (f : Form A) (reader : List ℕ → Read V) (value : V → Field) (more : V → Form A) : Type 0 where
  takes : (bytes : List ℕ) (r : V × List ℕ) → IsBytes bytes → reader bytes ≡ Ok r → Takes bytes (field_bytes (value r.0)) r.1 × MayStand f (value r.0) (more r.0)
  fails : (bytes : List ℕ) (d : ℕ) → reader bytes ≡ Err d → d ≡ length bytes
  reads : (v : Field) (after : Form A) (k : List ℕ) → MayStand f v after → (w : V × List ℕ) × (reader (field_bytes v ++ k) ≡ Ok w)

step : {A V : Type 0} (f : Form A) (reader : List ℕ → Read V) (value : V → Field) (more : V → Form A) (bytes : List ℕ) (left : ℕ) → ReadsField f reader value more → IsBytes bytes
    → ((x : V) (rest : List ℕ) → IsBytes rest → run (more x) rest ≡ Err left → Stuck (more x) rest left) → (r : Read V) → reader bytes ≡ r → (r >>= λ x. run (more x.0) x.1) ≡ Err left → Stuck f bytes left
step f reader value more bytes left how fits later (Ok x) is e =
    let t = how.takes bytes x fits is in
    let s = later x.0 x.1 t.0.rest_fits e in
    record {
      before = value x.0 ∷ s.before;
      next = s.next;
      rest = s.rest;
      goes_on = (more x.0, t.1, s.goes_on);
      parts = t.0.parts ∙ ap (λ (l : List ℕ). field_bytes (value x.0) ++ l) s.parts ∙ sym (append_assoc (field_bytes (value x.0)) (spelled s.before) s.rest);
      left_is = s.left_is;
      none = s.none;
    }
step f reader value more bytes left how fits later (Err d) is e = record {
  before = [];
  next = f;
  rest = bytes;
  goes_on = refl;
  parts = refl;
  left_is = sym (err_is d left e) ∙ how.fails bytes d is;
  none = λ v after k may parts. let w = how.reads v after k may in let no = sym is ∙ ap reader parts ∙ w.1 in absurd cc;
}

number_reader : {A : Type 0} (z : Size) (low high : ℕ) (more : ℕ → Form A) → ReadsField (number z low high more) (sized_at z low high) (field.number z) more
number_reader z low high more = record {
  takes = λ bytes r fits e. let t = number_takes z low high bytes r fits e in (t.0, (r.0, t.1, t.2, t.3, refl, refl));
  fails = number_err z low high;
  reads = λ v after k (n, above, below, lt, is, _). ((n, k), ap (λ (u : Field). sized_at z low high (field_bytes u ++ k)) is ∙ number_reads z low high n k above below lt);
}

flag_reader : {A : Type 0} (more : Bool → Form A) → ReadsField (flag more) flag_at field.flag more
flag_reader more = record {
  takes = λ bytes r fits e. (flag_takes bytes r fits e, (r.0, refl, refl));
  fails = flag_err;
  reads = λ v after k (b, is, _). ((b, k), ap (λ (u : Field). flag_at (field_bytes u ++ k)) is ∙ flag_reads b k);
}

str_reader : {A : Type 0} (test : List ℕ → Bool) (more : List ℕ → Form A) → ReadsField (str test more) (str_at test) field.str more
str_reader test more = record {
  takes = λ bytes r fits e. let t = str_takes test bytes r fits e in (t.0, (r.0, t.1, t.2, refl, refl));
  fails = str_err test;
  reads = λ v after k (s, ok, short, is, _). ((s, k), ap (λ (u : Field). str_at test (field_bytes u ++ k)) is ∙ str_reads test s k ok short);
}

plain_reader : {A : Type 0} (n : ℕ) (more : List ℕ → Form A) → ReadsField (plain n more) (plain_at n) field.plain more
plain_reader n more = record {
  takes = λ bytes r fits e. let t = plain_takes n bytes r fits e in (t.0, (r.0, t.1, refl, refl));
  fails = plain_err n;
  reads = λ v after k (s, len, is, _). ((s, k), ap (λ (u : Field). plain_at n (field_bytes u ++ k)) is ∙ plain_reads s k n len);
}

stops : {A : Type 0} (f : Form A) (bytes : List ℕ) (left : ℕ) → IsBytes bytes → run f bytes ≡ Err left → Stuck f bytes left
stops (done x) bytes left fits e = absurd cc
stops (number z low high more) bytes left fits e =
    step (number z low high more) (sized_at z low high) (field.number z) more bytes left (number_reader z low high more) fits (λ x rest ok h. stops (more x) rest left ok h) (sized_at z low high bytes) refl e
stops (flag more) bytes left fits e =
    step (flag more) flag_at field.flag more bytes left (flag_reader more) fits (λ x rest ok h. stops (more x) rest left ok h) (flag_at bytes) refl e
stops (str test more) bytes left fits e =
    step (str test more) (str_at test) field.str more bytes left (str_reader test more) fits (λ x rest ok h. stops (more x) rest left ok h) (str_at test bytes) refl e
stops (plain n more) bytes left fits e =
    step (plain n more) (plain_at n) field.plain more bytes left (plain_reader n more) fits (λ x rest ok h. stops (more x) rest left ok h) (plain_at n bytes) refl e

-- ---- all of the bytes

goes : {A : Type 0} (f : Form A) (p : Path f) → GoesOn f (path_fields f p) (done (answer f p))
goes (done x) p = refl
goes (number z low high next) p = (next p.0, (p.0, p.1, p.2, p.3, refl, refl), goes (next p.0) p.4)
goes (flag next) p = (next p.0, (p.0, refl, refl), goes (next p.0) p.1)
goes (str test next) p = (next p.0, (p.0, p.1, p.2, refl, refl), goes (next p.0) p.3)
goes (plain n next) p = (next p.0, (p.0, p.1, refl, refl), goes (next p.0) p.2)

pub stops_at : {A : Type 0} (f : Form A) (bytes : List ℕ) (place : ℕ) → IsBytes bytes → all_of f bytes ≡ Err place → StopsAt f bytes place
stops_at {A} f bytes place fits e = at (run f bytes) refl e
  where
    at : (r : Read A) → run f bytes ≡ r → whole (length bytes) r ≡ Err place → StopsAt f bytes place
    at (Err left) is h =
        let s = stops f bytes left fits is in
        let place_is = err_is (length bytes - left) place h in
        record {
          before = s.before;
          next = s.next;
          rest = s.rest;
          goes_on = s.goes_on;
          parts = s.parts;
          place_is = omega (arith, place_is, s.left_is, ap length s.parts, length-append (spelled s.before) s.rest);
          none = s.none;
        }
    at (Ok (x, [])) is h = absurd cc
    at (Ok (x, b ∷ bs)) is h =
        let t = run_takes f bytes (x, b ∷ bs) fits is in
        let front = path_fields f t.path in
        let place_is = err_is (length bytes - length (b ∷ bs)) place (sym (whole_more (length bytes) x b bs) ∙ h) in
        record {
          before = front;
          next = done (answer f t.path);
          rest = b ∷ bs;
          goes_on = goes f t.path;
          parts = t.takes.parts;
          place_is = omega (arith, place_is, ap length t.takes.parts, length-append (spelled front) (b ∷ bs));
          none = λ v after more may same. may;
        }
