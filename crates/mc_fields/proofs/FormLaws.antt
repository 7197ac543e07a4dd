-- What holds of every form: what is read is what a path through the form spells, and what a path spells
-- is read again, whatever follows it.
use Rattle.std.proofs.Common.{◌≡◌, ℕ, zero, suc, ◌+◌, ◌-◌, ◌^◌, ◌<◌, ◌≤◌, Bool, true, false, ltb, IsTrue, List, [], ◌∷◌, ◌++◌, length, take, drop, Option, Some, None, Result, Ok, Err, refl, sym, ap, subst, ◌∙◌, append_assoc, append-nil, arith, ap₂, flat_map}
use Rattle.std.specs.Prelude.{IfSome}
use Rattle.std.specs.List.{AllByRecursion}
use Rattle.std.proofs.lemmas.Bool.{ltb-false, le-ltb, ne_eqb}
use Rattle.std.proofs.lemmas.List.{take_at, drop_at, take-append-drop, length-append, length-take}
use Rattle.mc_fields.specs.Field.{Size, two, limit, size, number_bytes, bytes_number, Field, field_bytes, flag_byte, spelled, FieldFits, optional_fields}
use Rattle.mc_fields.specs.Field as field
use Rattle.mc_fields.specs.Reading.{Read, ◌>>=◌, whole}
use Rattle.mc_fields.specs.Form.{Form, done, number, flag, str, plain, followed, repeated, optional, sized_at, flag_at, plain_at, counted_after, counted_at, passing, str_at, run, all_of}
use Rattle.mc_fields.proofs.FieldBytes.{IsBytes, IsBytes-drop, IsBytes-take, IsBytes-rest, bind_ok, guard_ok, guard_else, ok_is, Takes, Takes-then, length-number_bytes, number_back, number_again, number_below}

-- the values that a form lets stand, one after the other
abbrev pub Path : {A : Type 0} → Form A → Type 0
Path (done x) = Unit {0}
Path (number z low high next) = (n : ℕ) × (low ≤ n) × (n ≤ high) × (n < limit z) × Path (next n)
Path (flag next) = (b : Bool) × Path (next b)
Path (str test next) = (s : List ℕ) × IsTrue (test s) × (length s < 2 ^ 16) × Path (next s)
Path (plain n next) = (s : List ℕ) × (length s ≡ n) × Path (next s)

abbrev pub answer : {A : Type 0} → (f : Form A) → Path f → A
answer (done x) p = x
answer (number z low high next) p = answer (next p.0) p.4
answer (flag next) p = answer (next p.0) p.1
answer (str test next) p = answer (next p.0) p.3
answer (plain n next) p = answer (next p.0) p.2

abbrev pub path_fields : {A : Type 0} → (f : Form A) → Path f → List Field
path_fields (done x) p = []
path_fields (number z low high next) p = field.number z p.0 ∷ path_fields (next p.0) p.4
path_fields (flag next) p = field.flag p.0 ∷ path_fields (next p.0) p.1
path_fields (str test next) p = field.str p.0 ∷ path_fields (next p.0) p.3
path_fields (plain n next) p = field.plain p.0 ∷ path_fields (next p.0) p.2

-- ---- what is read

pub number_takes : (z : Size) (low high : ℕ) (bytes : List ℕ) (r : ℕ × List ℕ) → IsBytes bytes → sized_at z low high bytes ≡ Ok r
    → Takes bytes (number_bytes z r.0) r.1 × (low ≤ r.0) × (r.0 ≤ high) × (r.0 < limit z)
number_takes z low high bytes r fits e =
    let front = take (size z) bytes in
    let n = bytes_number z front in
    let a = guard_ok (ltb (length bytes) (size z)) (length bytes) _ r e in
    let b = guard_ok (ltb n low) (length bytes) _ r a.1 in
    let c = guard_ok (ltb high n) (length bytes) _ r b.1 in
    let long : size z ≤ length bytes = ltb-false _ _ a.0 in
    let front_fits = IsBytes-take (size z) bytes fits in
    let back : number_bytes z n ≡ front = number_back z front (omega (arith, length-take (size z) bytes)) front_fits in
    let takes : Takes bytes (number_bytes z n) (drop (size z) bytes) = record { parts = rw back (sym (take-append-drop (size z) bytes)); rest_fits = IsBytes-drop (size z) bytes fits } in
    subst (λ (x : ℕ × List ℕ). Takes bytes (number_bytes z x.0) x.1 × (low ≤ x.0) × (x.0 ≤ high) × (x.0 < limit z)) (ok_is (n, drop (size z) bytes) r c.1)
    (takes, ltb-false _ _ b.0, ltb-false _ _ c.0, number_below z front front_fits)

pub plain_takes : (n : ℕ) (bytes : List ℕ) (r : List ℕ × List ℕ) → IsBytes bytes → plain_at n bytes ≡ Ok r → Takes bytes r.0 r.1 × (length r.0 ≡ n)
plain_takes n bytes r fits e =
    let a = guard_ok (ltb (length bytes) n) (length bytes) _ r e in
    let long : n ≤ length bytes = ltb-false _ _ a.0 in
    let takes : Takes bytes (take n bytes) (drop n bytes) = record { parts = sym (take-append-drop n bytes); rest_fits = IsBytes-drop n bytes fits } in
    subst (λ (x : List ℕ × List ℕ). Takes bytes x.0 x.1 × (length x.0 ≡ n)) (ok_is (take n bytes, drop n bytes) r a.1) (takes, omega (arith, length-take n bytes))

pub flag_takes : (bytes : List ℕ) (r : Bool × List ℕ) → IsBytes bytes → flag_at bytes ≡ Ok r → Takes bytes (flag_byte r.0 ∷ []) r.1
flag_takes [] r fits e = absurd cc
flag_takes (zero ∷ rest) r fits e = subst (λ (x : Bool × List ℕ). Takes (0 ∷ rest) (flag_byte x.0 ∷ []) x.1) (ok_is (false, rest) r e) (record { parts = refl; rest_fits = IsBytes-rest 0 rest fits })
flag_takes (suc zero ∷ rest) r fits e = subst (λ (x : Bool × List ℕ). Takes (1 ∷ rest) (flag_byte x.0 ∷ []) x.1) (ok_is (true, rest) r e) (record { parts = refl; rest_fits = IsBytes-rest 1 rest fits })
flag_takes (suc (suc b) ∷ rest) r fits e = absurd cc

counted_takes : (bytes : List ℕ) (r : List ℕ × List ℕ) → IsBytes bytes → counted_at bytes ≡ Ok r → Takes bytes (field_bytes (field.str r.0)) r.1 × (length r.0 < 2 ^ 16)
unfolding counted_at
counted_takes bytes r fits e =
    let a = bind_ok (sized_at two 0 65535 bytes) (counted_after (length bytes)) r e in
    let n = a.0.0 in
    let rest = a.0.1 in
    let head = number_takes two 0 65535 bytes a.0 fits a.1 in
    let b = guard_ok (ltb (length rest) n) (length bytes) (Ok (take n rest, drop n rest)) r a.2 in
    let long : n ≤ length rest = ltb-false _ _ b.0 in
    let len : length (take n rest) ≡ n = omega (arith, length-take n rest) in
    let tail : Takes rest (take n rest) (drop n rest) = record { parts = sym (take-append-drop n rest); rest_fits = IsBytes-drop n rest head.0.rest_fits } in
    let both = Takes-then bytes (number_bytes two n) rest (take n rest) (drop n rest) head.0 tail in
    let made : Takes bytes (field_bytes (field.str (take n rest))) (drop n rest) = subst (λ (k : ℕ). Takes bytes (number_bytes two k ++ take n rest) (drop n rest)) (sym len) both in
    let short : length (take n rest) < 2 ^ 16 = omega (arith, head.3) in
    subst (λ (x : List ℕ × List ℕ). Takes bytes (field_bytes (field.str x.0)) x.1 × (length x.0 < 2 ^ 16)) (ok_is (take n rest, drop n rest) r b.1) (made, short)

pub str_takes : (test : List ℕ → Bool) (bytes : List ℕ) (r : List ℕ × List ℕ) → IsBytes bytes → str_at test bytes ≡ Ok r
    → Takes bytes (field_bytes (field.str r.0)) r.1 × IsTrue (test r.0) × (length r.0 < 2 ^ 16)
unfolding str_at
str_takes test bytes r fits e =
    let a = bind_ok (counted_at bytes) (passing test (length bytes)) r e in
    let head = counted_takes bytes a.0 fits a.1 in
    let b = guard_else (test a.0.0) (length bytes) (Ok a.0) r a.2 in
    subst (λ (x : List ℕ × List ℕ). Takes bytes (field_bytes (field.str x.0)) x.1 × IsTrue (test x.0) × (length x.0 < 2 ^ 16)) (ok_is a.0 r b.1) (head.0, b.0, head.1)

-- a str that was read, and its test
pub str_passes : (test : List ℕ → Bool) (bytes : List ℕ) (r : List ℕ × List ℕ) → counted_at bytes ≡ Ok r → test r.0 ≡ true → str_at test bytes ≡ Ok r
unfolding str_at
str_passes test bytes r e ok = ap (λ (x : Read (List ℕ)). x >>= passing test (length bytes)) e ∙ rw ok refl

pub str_fails : (test : List ℕ → Bool) (bytes : List ℕ) (r : List ℕ × List ℕ) → counted_at bytes ≡ Ok r → test r.0 ≡ false → str_at test bytes ≡ Err (length bytes)
unfolding str_at
str_fails test bytes r e not = ap (λ (x : Read (List ℕ)). x >>= passing test (length bytes)) e ∙ rw not refl

-- what stands for an answer
pub record Spells {A : Type 0} (f : Form A) (bytes : List ℕ) (x : A) (rest : List ℕ) : Type 0 where
  pub path : Path f
  pub is_answer : answer f path ≡ x
  pub takes : Takes bytes (spelled (path_fields f path)) rest

pub run_takes : {A : Type 0} (f : Form A) (bytes : List ℕ) (x : A × List ℕ) → IsBytes bytes → run f bytes ≡ Ok x → Spells f bytes x.0 x.1
run_takes (done y) bytes x fits e =
    subst (λ (z : _). Spells (done y) bytes z.0 z.1) (ok_is (y, bytes) x e) (record { path = tt; is_answer = refl; takes = record { parts = refl; rest_fits = fits } })
run_takes (number z low high next) bytes x fits e =
    let a = bind_ok (sized_at z low high bytes) (λ r. run (next r.0) r.1) x e in
    let head = number_takes z low high bytes a.0 fits a.1 in
    let tail = run_takes (next a.0.0) a.0.1 x head.0.rest_fits a.2 in
    record { path = (a.0.0, head.1, head.2, head.3, tail.path); is_answer = tail.is_answer; takes = Takes-then _ _ _ _ _ head.0 tail.takes }
run_takes (flag next) bytes x fits e =
    let a = bind_ok (flag_at bytes) (λ r. run (next r.0) r.1) x e in
    let head = flag_takes bytes a.0 fits a.1 in
    let tail = run_takes (next a.0.0) a.0.1 x head.rest_fits a.2 in
    record { path = (a.0.0, tail.path); is_answer = tail.is_answer; takes = Takes-then _ _ _ _ _ head tail.takes }
run_takes (str test next) bytes x fits e =
    let a = bind_ok (str_at test bytes) (λ r. run (next r.0) r.1) x e in
    let head = str_takes test bytes a.0 fits a.1 in
    let tail = run_takes (next a.0.0) a.0.1 x head.0.rest_fits a.2 in
    record { path = (a.0.0, head.1, head.2, tail.path); is_answer = tail.is_answer; takes = Takes-then _ _ _ _ _ head.0 tail.takes }
run_takes (plain n next) bytes x fits e =
    let a = bind_ok (plain_at n bytes) (λ r. run (next r.0) r.1) x e in
    let head = plain_takes n bytes a.0 fits a.1 in
    let tail = run_takes (next a.0.0) a.0.1 x head.0.rest_fits a.2 in
    record { path = (a.0.0, head.1, tail.path); is_answer = tail.is_answer; takes = Takes-then _ _ _ _ _ head.0 tail.takes }

-- ---- what is written

pub number_reads : (z : Size) (low high n : ℕ) (rest : List ℕ) → low ≤ n → n ≤ high → n < limit z → sized_at z low high (number_bytes z n ++ rest) ≡ Ok (n, rest)
number_reads z low high n rest above below lt =
    let len = length-number_bytes z n in
    let long : ltb (length (number_bytes z n ++ rest)) (size z) ≡ false = le-ltb _ _ (omega (arith, length-append (number_bytes z n) rest)) in
    rw (long, take_at (number_bytes z n) rest (size z) len, drop_at (number_bytes z n) rest (size z) len, number_again z n lt, le-ltb n low above, le-ltb high n below) refl

pub flag_reads : (b : Bool) (rest : List ℕ) → flag_at (flag_byte b ∷ rest) ≡ Ok (b, rest)
flag_reads false rest = refl
flag_reads true rest = refl

pub plain_reads : (s rest : List ℕ) (n : ℕ) → length s ≡ n → plain_at n (s ++ rest) ≡ Ok (s, rest)
plain_reads s rest n len =
    let long : ltb (length (s ++ rest)) n ≡ false = le-ltb _ _ (omega (arith, length-append s rest)) in
    rw (long, take_at s rest n len, drop_at s rest n len) refl

counted_reads : (s rest : List ℕ) → length s < 2 ^ 16 → counted_at (field_bytes (field.str s) ++ rest) ≡ Ok (s, rest)
unfolding counted_at
counted_reads s rest lt =
    let regrouped : field_bytes (field.str s) ++ rest ≡ number_bytes two (length s) ++ (s ++ rest) = append_assoc (number_bytes two (length s)) s rest in
    let head : sized_at two 0 65535 (field_bytes (field.str s) ++ rest) ≡ Ok (length s, s ++ rest) = ap (sized_at two 0 65535) regrouped ∙ number_reads two 0 65535 (length s) (s ++ rest) (omega arith) (omega arith) lt in
    let long : ltb (length (s ++ rest)) (length s) ≡ false = le-ltb _ _ (omega (arith, length-append s rest)) in
    let left = length (field_bytes (field.str s) ++ rest) in
    ap (λ (r : Read ℕ). r >>= counted_after left) head ∙ rw (long, take_at s rest (length s) refl, drop_at s rest (length s) refl) refl

pub str_reads : (test : List ℕ → Bool) (s rest : List ℕ) → IsTrue (test s) → length s < 2 ^ 16 → str_at test (field_bytes (field.str s) ++ rest) ≡ Ok (s, rest)
unfolding str_at
str_reads test s rest ok lt =
    let left = length (field_bytes (field.str s) ++ rest) in
    ap (λ (r : Read (List ℕ)). r >>= passing test left) (counted_reads s rest lt) ∙ rw ok refl

pub run_reads : {A : Type 0} (f : Form A) (p : Path f) (rest : List ℕ) → run f (spelled (path_fields f p) ++ rest) ≡ Ok (answer f p, rest)
run_reads (done x) p rest = refl
run_reads (number z low high next) p rest =
    let tail = spelled (path_fields (next p.0) p.4) in
    let head : sized_at z low high ((number_bytes z p.0 ++ tail) ++ rest) ≡ Ok (p.0, tail ++ rest) = ap (sized_at z low high) (append_assoc (number_bytes z p.0) tail rest) ∙ number_reads z low high p.0 (tail ++ rest) p.1 p.2 p.3 in
    ap (λ (r : Read ℕ). r >>= λ x. run (next x.0) x.1) head ∙ run_reads (next p.0) p.4 rest
run_reads (flag next) p rest =
    let tail = spelled (path_fields (next p.0) p.1) in
    ap (λ (r : Read Bool). r >>= λ x. run (next x.0) x.1) (flag_reads p.0 (tail ++ rest)) ∙ run_reads (next p.0) p.1 rest
run_reads (str test next) p rest =
    let tail = spelled (path_fields (next p.0) p.3) in
    let head : str_at test ((field_bytes (field.str p.0) ++ tail) ++ rest) ≡ Ok (p.0, tail ++ rest) = ap (str_at test) (append_assoc (field_bytes (field.str p.0)) tail rest) ∙ str_reads test p.0 (tail ++ rest) p.1 p.2 in
    ap (λ (r : Read (List ℕ)). r >>= λ x. run (next x.0) x.1) head ∙ run_reads (next p.0) p.3 rest
run_reads (plain n next) p rest =
    let tail = spelled (path_fields (next p.0) p.2) in
    let head : plain_at n ((p.0 ++ tail) ++ rest) ≡ Ok (p.0, tail ++ rest) = ap (plain_at n) (append_assoc p.0 tail rest) ∙ plain_reads p.0 (tail ++ rest) n p.1 in
    ap (λ (r : Read (List ℕ)). r >>= λ x. run (next x.0) x.1) head ∙ run_reads (next p.0) p.2 rest

-- ---- all of the bytes

-- nothing is left where all was read
pub whole_ok : {A : Type 0} (n : ℕ) (r : Read A) (x : A) → whole n r ≡ Ok x → r ≡ Ok (x, [])
whole_ok {A} n (Ok (y, [])) x e = ap all_read (ok_is y x e)
  where
    all_read : A → Read A
    all_read v = Ok (v, [])
whole_ok n (Ok (y, b ∷ bs)) x e = absurd (let other = rw (ne_eqb (length (b ∷ bs)) 0 (λ h. absurd (omega (arith, h)))) at e in cc)
whole_ok n (Err left) x e = absurd cc

-- what is left over is the fault
pub whole_more : {A : Type 0} (n : ℕ) (x : A) (b : ℕ) (bs : List ℕ) → whole n (Ok (x, b ∷ bs)) ≡ Err (n - length (b ∷ bs))
whole_more n x b bs = rw (ne_eqb (length (b ∷ bs)) 0 (λ h. absurd (omega (arith, h)))) refl

pub whole_takes : {A : Type 0} (f : Form A) (bytes : List ℕ) (x : A) → IsBytes bytes → all_of f bytes ≡ Ok x → (p : Path f) × (answer f p ≡ x) × (bytes ≡ spelled (path_fields f p))
whole_takes f bytes x fits e =
    let s = run_takes f bytes (x, []) fits (whole_ok (length bytes) (run f bytes) x e) in
    (s.path, s.is_answer, s.takes.parts ∙ append-nil (spelled (path_fields f s.path)))

pub whole_reads : {A : Type 0} (f : Form A) (p : Path f) → all_of f (spelled (path_fields f p)) ≡ Ok (answer f p)
whole_reads f p =
    let all : run f (spelled (path_fields f p)) ≡ Ok (answer f p, []) = ap (run f) (sym (append-nil (spelled (path_fields f p)))) ∙ run_reads f p [] in
    ap (whole (length (spelled (path_fields f p)))) all

-- ---- one form behind another

step : {A B C : Type 0} (r : Result A ℕ) (f : A → Result B ℕ) (g : B → Result C ℕ) (h : A → Result C ℕ) → ((x : A) → h x ≡ (f x >>= g)) → (r >>= h) ≡ ((r >>= f) >>= g)
step (Ok x) f g h e = e x
step (Err d) f g h e = refl

pub run-followed : {A B : Type 0} (f : Form A) (next : A → Form B) (bytes : List ℕ) → run (followed f next) bytes ≡ (run f bytes >>= λ r. run (next r.0) r.1)
run-followed (done x) next bytes = refl
run-followed (number z low high more) next bytes = step (sized_at z low high bytes) (λ r. run (more r.0) r.1) (λ r. run (next r.0) r.1) (λ r. run (followed (more r.0) next) r.1) (λ r. run-followed (more r.0) next r.1)
run-followed (flag more) next bytes = step (flag_at bytes) (λ r. run (more r.0) r.1) (λ r. run (next r.0) r.1) (λ r. run (followed (more r.0) next) r.1) (λ r. run-followed (more r.0) next r.1)
run-followed (str test more) next bytes = step (str_at test bytes) (λ r. run (more r.0) r.1) (λ r. run (next r.0) r.1) (λ r. run (followed (more r.0) next) r.1) (λ r. run-followed (more r.0) next r.1)
run-followed (plain n more) next bytes = step (plain_at n bytes) (λ r. run (more r.0) r.1) (λ r. run (next r.0) r.1) (λ r. run (followed (more r.0) next) r.1) (λ r. run-followed (more r.0) next r.1)

pub ruleset behind = (run-followed)

-- a path through both, in two parts
pub record Parts {A B : Type 0} (f : Form A) (next : A → Form B) (x : B) (all : List Field) : Type 0 where
  pub first : Path f
  pub second : Path (next (answer f first))
  pub is_answer : x ≡ answer (next (answer f first)) second
  pub is_spelled : all ≡ path_fields f first ++ path_fields (next (answer f first)) second

pub parts : {A B : Type 0} (f : Form A) (next : A → Form B) (p : Path (followed f next)) → Parts f next (answer (followed f next) p) (path_fields (followed f next) p)
parts (done x) next p = record { first = tt; second = p; is_answer = refl; is_spelled = refl }
parts (number z low high more) next p =
    let q = parts (more p.0) next p.4 in
    record { first = (p.0, p.1, p.2, p.3, q.first); second = q.second; is_answer = q.is_answer; is_spelled = ap (λ (t : List Field). field.number z p.0 ∷ t) q.is_spelled }
parts (flag more) next p =
    let q = parts (more p.0) next p.1 in
    record { first = (p.0, q.first); second = q.second; is_answer = q.is_answer; is_spelled = ap (λ (t : List Field). field.flag p.0 ∷ t) q.is_spelled }
parts (str s more) next p =
    let q = parts (more p.0) next p.3 in
    record { first = (p.0, p.1, p.2, q.first); second = q.second; is_answer = q.is_answer; is_spelled = ap (λ (t : List Field). field.str p.0 ∷ t) q.is_spelled }
parts (plain n more) next p =
    let q = parts (more p.0) next p.2 in
    record { first = (p.0, p.1, q.first); second = q.second; is_answer = q.is_answer; is_spelled = ap (λ (t : List Field). field.plain p.0 ∷ t) q.is_spelled }

-- a path that spells these fields and answers this value
pub record Leads {A : Type 0} (f : Form A) (x : A) (all : List Field) : Type 0 where
  pub path : Path f
  pub is_answer : answer f path ≡ x
  pub is_spelled : path_fields f path ≡ all

pub joined : {A B : Type 0} (f : Form A) (next : A → Form B) (x : A) (y : B) (front back : List Field) → Leads f x front → Leads (next x) y back → Leads (followed f next) y (front ++ back)
joined f next x y front back a b =
    let moved : Leads (next (answer f a.path)) y back = subst (λ (v : _). Leads (next v) y back) (sym a.is_answer) b in
    let j = join f next a.path moved.path in
    record { path = j.0; is_answer = j.1 ∙ moved.is_answer; is_spelled = j.2 ∙ ap₂ (λ (u v : List Field). u ++ v) a.is_spelled moved.is_spelled }
  where
    join : {C D : Type 0} (g : Form C) (more : C → Form D) (q : Path g) (r : Path (more (answer g q))) → (p : Path (followed g more)) × (answer (followed g more) p ≡ answer (more (answer g q)) r) × (path_fields (followed g more) p ≡ path_fields g q ++ path_fields (more (answer g q)) r)
    join (done z) more q r = (r, refl, refl)
    join (number z low high m) more q r = let j = join (m q.0) more q.4 r in ((q.0, q.1, q.2, q.3, j.0), j.1, ap (λ (t : List Field). field.number z q.0 ∷ t) j.2)
    join (flag m) more q r = let j = join (m q.0) more q.1 r in ((q.0, j.0), j.1, ap (λ (t : List Field). field.flag q.0 ∷ t) j.2)
    join (str s m) more q r = let j = join (m q.0) more q.3 r in ((q.0, q.1, q.2, j.0), j.1, ap (λ (t : List Field). field.str q.0 ∷ t) j.2)
    join (plain n m) more q r = let j = join (m q.0) more q.2 r in ((q.0, q.1, j.0), j.1, ap (λ (t : List Field). field.plain q.0 ∷ t) j.2)

-- a form, the fields of its values and their ranges belong together
pub record Describes {A : Type 0} (f : Form A) (table : A → List Field) (Good : A → Type 0) : Type 0 where
  pub tells : (p : Path f) → (table (answer f p) ≡ path_fields f p) × Good (answer f p)
  pub leads : (x : A) → Good x → Leads f x (table x)

-- ---- paths that lead to a value, field by field

pub done_leads : {A : Type 0} {x : A} → Leads (done x) x []
done_leads = record { path = tt; is_answer = refl; is_spelled = refl }

pub number_leads : {A : Type 0} {z : Size} {low high : ℕ} {next : ℕ → Form A} {n : ℕ} {x : A} {back : List Field} → low ≤ n → n ≤ high → n < limit z → Leads (next n) x back → Leads (number z low high next) x (field.number z n ∷ back)
number_leads {z = z} {n = n} above below lt l = record { path = (n, above, below, lt, l.path); is_answer = l.is_answer; is_spelled = ap (λ (t : List Field). field.number z n ∷ t) l.is_spelled }

pub str_leads : {A : Type 0} {test : List ℕ → Bool} {next : List ℕ → Form A} {s : List ℕ} {x : A} {back : List Field} → IsTrue (test s) → length s < 2 ^ 16 → Leads (next s) x back → Leads (str test next) x (field.str s ∷ back)
str_leads {s = s} ok short l = record { path = (s, ok, short, l.path); is_answer = l.is_answer; is_spelled = ap (λ (t : List Field). field.str s ∷ t) l.is_spelled }

pub plain_leads : {A : Type 0} {n : ℕ} {next : List ℕ → Form A} {s : List ℕ} {x : A} {back : List Field} → length s ≡ n → Leads (next s) x back → Leads (plain n next) x (field.plain s ∷ back)
plain_leads {s = s} len l = record { path = (s, len, l.path); is_answer = l.is_answer; is_spelled = ap (λ (t : List Field). field.plain s ∷ t) l.is_spelled }

-- through a part, and through the last part
pub part_leads : {A B : Type 0} {f : Form A} {table : A → List Field} {Good : A → Type 0} {x : A} {y : B} {back : List Field} (next : A → Form B) → Describes f table Good → Good x → Leads (next x) y back → Leads (followed f next) y (table x ++ back)
part_leads {f = f} {table = table} {x = x} {y = y} {back = back} next d good l = joined f next x y (table x) back (d.leads x good) l

pub last_leads : {A B : Type 0} {f : Form A} {table : A → List Field} {Good : A → Type 0} {x : A} {y : B} (next : A → Form B) → Describes f table Good → Good x → Leads (next x) y [] → Leads (followed f next) y (table x)
last_leads {f = f} {table = table} {x = x} {y = y} next d good l =
    let a = joined f next x y (table x) [] (d.leads x good) l in
    record { path = a.path; is_answer = a.is_answer; is_spelled = a.is_spelled ∙ append-nil (table x) }

-- ---- from a path to its value: the value's fields are those in front and the path's

abbrev pub Tells : {B : Type 0} → (B → List Field) → (B → Type 0) → (List Field → List Field) → (f : Form B) → Path f → Type 0
Tells table Good front f p = (table (answer f p) ≡ front (path_fields f p)) × Good (answer f p)

pub part_tells : {A B : Type 0} {f : Form A} {part : A → List Field} {GoodPart : A → Type 0} (table : B → List Field) (Good : B → Type 0) (front : List Field → List Field) (next : A → Form B) → Describes f part GoodPart
    → ((x : A) → GoodPart x → (p : Path (next x)) → Tells table Good (λ t. front (part x ++ t)) (next x) p) → (p : Path (followed f next)) → Tells table Good front (followed f next) p
part_tells {B = B} {f = f} {part = part} table Good front next d more p =
    let a = parts f next p in
    let x = answer f a.first in
    let here = d.tells a.first in
    let t = more x here.1 a.second in
    subst (λ (y : B). (table y ≡ front (path_fields (followed f next) p)) × Good y) (sym a.is_answer)
    (t.0 ∙ ap (λ (l : List Field). front (l ++ path_fields (next x) a.second)) here.0 ∙ ap front (sym a.is_spelled), t.1)

pub last_tells : {A B : Type 0} {f : Form A} {part : A → List Field} {GoodPart : A → Type 0} (table : B → List Field) (Good : B → Type 0) (front : List Field → List Field) (make : A → B) → Describes f part GoodPart
    → ((x : A) → GoodPart x → (table (make x) ≡ front (part x)) × Good (make x)) → (p : Path (followed f λ x. done (make x))) → Tells table Good front (followed f λ x. done (make x)) p
last_tells {part = part} table Good front make d more p =
    part_tells table Good front (λ x. done (make x)) d (λ x good q. let t = more x good in (t.0 ∙ ap front (sym (append-nil (part x))), t.1)) p

-- what a path spells fits its fields
pub path_fits : {A : Type 0} (f : Form A) (p : Path f) → AllByRecursion FieldFits (path_fields f p)
path_fits (done x) p = tt
path_fits (number z low high next) p = (p.3, path_fits (next p.0) p.4)
path_fits (flag next) p = (tt, path_fits (next p.0) p.1)
path_fits (str test next) p = (p.2, path_fits (next p.0) p.3)
path_fits (plain n next) p = (tt, path_fits (next p.0) p.2)

-- ---- what may be there

pub optional_described : {A : Type 0} (f : Form A) (table : A → List Field) (Good : A → Type 0) → Describes f table Good → Describes (optional f) (optional_fields table) (λ o. IfSome o Good)
optional_described {A} f table Good d = record { tells = tells; leads = leads }
  where
    some : A → Form (Option A)
    some x = done (Some x)

    tells : (p : Path (optional f)) → (optional_fields table (answer (optional f) p) ≡ path_fields (optional f) p) × IfSome (answer (optional f) p) Good
    tells (false, p) = (refl, tt)
    tells (true, p) =
        let a = parts f some p in
        let t = d.tells a.first in
        subst (λ (o : Option A). (optional_fields table o ≡ field.flag true ∷ path_fields (followed f some) p) × IfSome o Good) (sym a.is_answer)
        (ap (λ (l : List Field). field.flag true ∷ l) (t.0 ∙ sym (append-nil (path_fields f a.first)) ∙ sym a.is_spelled), t.1)

    leads : (o : Option A) → IfSome o Good → Leads (optional f) o (optional_fields table o)
    leads None good = record { path = (false, tt); is_answer = refl; is_spelled = refl }
    leads (Some x) good =
        let a = joined f some x (Some x) (table x) [] (d.leads x good) (record { path = tt; is_answer = refl; is_spelled = refl }) in
        record { path = (true, a.path); is_answer = a.is_answer; is_spelled = ap (λ (l : List Field). field.flag true ∷ l) (a.is_spelled ∙ append-nil (table x)) }

-- ---- repetition

pub repeated_tells : {A : Type 0} (f : Form A) (table : A → List Field) (Good : A → Type 0) → Describes f table Good → (n : ℕ) (p : Path (repeated n f))
    → (flat_map table (answer (repeated n f) p) ≡ path_fields (repeated n f) p) × (length (answer (repeated n f) p) ≡ n) × AllByRecursion Good (answer (repeated n f) p)
repeated_tells f table Good d zero p = (refl, refl, tt)
repeated_tells {A} f table Good d (suc n) p =
    let a = parts f (λ x. followed (repeated n f) λ xs. done (x ∷ xs)) p in
    let b = parts (repeated n f) (λ xs. done (answer f a.first ∷ xs)) a.second in
    let one = d.tells a.first in
    let others = repeated_tells f table Good d n b.first in
    let made : List A = answer f a.first ∷ answer (repeated n f) b.first in
    let whole : answer (repeated (suc n) f) p ≡ made = a.is_answer ∙ b.is_answer in
    let all : path_fields (repeated (suc n) f) p ≡ flat_map table made =
    a.is_spelled ∙ ap₂ (λ (x y : List Field). x ++ y) (sym one.0) (b.is_spelled ∙ append-nil (path_fields (repeated n f) b.first) ∙ sym others.0) in
    subst (λ (xs : List A). (flat_map table xs ≡ path_fields (repeated (suc n) f) p) × (length xs ≡ suc n) × AllByRecursion Good xs) (sym whole)
    (sym all, ap suc others.1, (one.1, others.2))

pub repeated_leads : {A : Type 0} (f : Form A) (table : A → List Field) (Good : A → Type 0) → Describes f table Good → (xs : List A) → AllByRecursion Good xs
    → Leads (repeated (length xs) f) xs (flat_map table xs)
repeated_leads f table Good d [] good = record { path = tt; is_answer = refl; is_spelled = refl }
repeated_leads {A} f table Good d (x ∷ xs) good =
    let tail : Leads (done (x ∷ xs)) (x ∷ xs) [] = record { path = tt; is_answer = refl; is_spelled = refl } in
    let others = joined (repeated (length xs) f) (λ ys. done (x ∷ ys)) xs (x ∷ xs) (flat_map table xs) [] (repeated_leads f table Good d xs good.1) tail in
    let both = joined f (λ y. followed (repeated (length xs) f) λ ys. done (y ∷ ys)) x (x ∷ xs) (table x) (flat_map table xs ++ []) (d.leads x good.0) others in
    record { path = both.path; is_answer = both.is_answer; is_spelled = both.is_spelled ∙ ap (λ (t : List Field). table x ++ t) (append-nil (flat_map table xs)) }

-- ---- repetition, as a loop goes over it

-- what was read before, and what is still read
abbrev pub with_front : {A : Type 0} → List A → Read (List A) → Read (List A)
with_front front read = read >>= λ x. Ok (front ++ x.0, x.1)

regroup : {A : Type 0} (front : List A) (x : A) (read : Read (List A)) → with_front front (read >>= λ y. Ok (x ∷ y.0, y.1)) ≡ with_front (front ++ x ∷ []) read
regroup {A} front x (Ok y) = ap (λ (ns : List A). is_ok ns y.1) (sym (append_assoc front (x ∷ []) y.0))
  where
    is_ok : List A → List ℕ → Read (List A)
    is_ok ns rest = Ok (ns, rest)
regroup front x (Err d) = refl

pub one_more : {A : Type 0} (f : Form A) (n : ℕ) (bytes : List ℕ) → run (repeated (suc n) f) bytes ≡ (run f bytes >>= λ r. run (repeated n f) r.1 >>= λ s. Ok (r.0 ∷ s.0, s.1))
one_more f n bytes =
    run-followed f (λ x. followed (repeated n f) λ xs. done (x ∷ xs)) bytes ∙ again (run f bytes)
  where
    again : (r : Read _) → (r >>= λ x. run (followed (repeated n f) λ xs. done (x.0 ∷ xs)) x.1) ≡ (r >>= λ x. run (repeated n f) x.1 >>= λ s. Ok (x.0 ∷ s.0, s.1))
    again (Ok x) = run-followed (repeated n f) (λ xs. done (x.0 ∷ xs)) x.1
    again (Err d) = refl

pub goes_on : {A : Type 0} (f : Form A) (front : List A) (count i : ℕ) (bytes : List ℕ) (x : A) (after : List ℕ) (total : Read (List A)) → i < count → run f bytes ≡ Ok (x, after)
    → with_front front (run (repeated (count - i) f) bytes) ≡ total → with_front (front ++ x ∷ []) (run (repeated (count - (i + 1)) f) after) ≡ total
goes_on f front count i bytes x after total lt h so_far =
    let k : count - i ≡ suc (count - (i + 1)) = omega arith in
    let one : with_front front (run (repeated (count - i) f) bytes) ≡ with_front (front ++ x ∷ []) (run (repeated (count - (i + 1)) f) after) =
    ap (λ (n : ℕ). with_front front (run (repeated n f) bytes)) k ∙ ap (with_front front) (one_more f (count - (i + 1)) bytes ∙ ap (λ (r : Read _). r >>= λ y. run (repeated (count - (i + 1)) f) y.1 >>= λ s. Ok (y.0 ∷ s.0, s.1)) h) ∙ regroup front x (run (repeated (count - (i + 1)) f) after) in
    sym one ∙ so_far

pub ends : {A : Type 0} (f : Form A) (front : List A) (count i : ℕ) (bytes : List ℕ) (left : ℕ) (total : Read (List A)) → i < count → run f bytes ≡ Err left
    → with_front front (run (repeated (count - i) f) bytes) ≡ total → total ≡ Err left
ends f front count i bytes left total lt h so_far =
    let k : count - i ≡ suc (count - (i + 1)) = omega arith in
    sym so_far ∙ ap (λ (n : ℕ). with_front front (run (repeated n f) bytes)) k ∙ ap (with_front front) (one_more f (count - (i + 1)) bytes ∙ ap (λ (r : Read _). r >>= λ y. run (repeated (count - (i + 1)) f) y.1 >>= λ s. Ok (y.0 ∷ s.0, s.1)) h)

pub is_done : {A : Type 0} (f : Form A) (front : List A) (count i : ℕ) (bytes : List ℕ) (total : Read (List A)) → count ≤ i → with_front front (run (repeated (count - i) f) bytes) ≡ total → total ≡ Ok (front, bytes)
is_done {A} f front count i bytes total le so_far =
    let k : count - i ≡ 0 = omega arith in
    sym so_far ∙ ap (λ (n : ℕ). with_front front (run (repeated n f) bytes)) k ∙ ap is_ok (append-nil front)
  where
    is_ok : List A → Read (List A)
    is_ok ns = Ok (ns, bytes)

pub plain_alone : (n : ℕ) (bytes : List ℕ) → run (plain n done) bytes ≡ plain_at n bytes
plain_alone n bytes = alone (plain_at n bytes)
  where
    alone : (r : Read (List ℕ)) → (r >>= λ x. run (done x.0) x.1) ≡ r
    alone (Ok x) = refl
    alone (Err d) = refl
