-- Lists of pieces, read element by element.
use Rattle.std.proofs.Common.{◌≡◌, ℕ, zero, suc, ◌+◌, ◌-◌, ◌<◌, ◌≤◌, List, [], ◌∷◌, ◌++◌, length, get_or, take, drop, Some, None, slice_get, Result, Ok, Err, is_ok, true, refl, sym, ap, subst, ◌∙◌, arith, flat_map}
use Rattle.std.proofs.lemmas.Bool.{and_parts, and_from, leb-true, le-leb, ltb-true, lt-ltb}
use Rattle.std.proofs.lemmas.List.{take_at, length-append}
use Rattle.std.proofs.lemmas.Option.{slice_get-get_or, slice_get_past}
use Rattle.std.proofs.lemmas.List.Concat.{flat_map-append}
use Rattle.std.specs.List.{AllByRecursion, list_all}
use Rattle.mc_fields.specs.Reading.{Read, ◌>>=◌, whole}
use Rattle.mc_fields.specs.Field.{Field, spelled, field_bytes}
use Rattle.mc_fields.specs.Form.{Form, repeated, run, all_of, str_at, counted_at}
use Rattle.mc_fields.proofs.FieldBytes.{IsBytes, IsBytes-take, IsBytes-rest, ok_is}
use Rattle.mc_fields.proofs.FormLaws.{path_fields, run_takes, run_reads, whole_takes, whole_reads, one_more, repeated_tells, repeated_leads}
use Rattle.mc_records.specs.declared.ranges.TheConstants.{MOST_PIECES}
use Rattle.mc_records.specs.Entry.{Held, HeldFits, ArePieces, held_fields}
use Rattle.mc_records.specs.Forms.{held_form}
use Rattle.mc_records.specs.Pieces.{pieces_bytes, listed, pieces_in, is_byte, are_pieces, after, element_at}
use Rattle.mc_records.proofs.PartLaws.{held_described}

abbrev pub read_to : List ℕ → Read (Unit {0})
read_to rest = Ok (tt, rest)

-- ---- what stands behind some elements

pub after_more : {A : Type 0} (x : A) (r : Read (List A)) → after (r >>= λ s. Ok (x ∷ s.0, s.1)) ≡ after r
after_more x (Ok s) = refl
after_more x (Err d) = refl

pub after_ok : {A : Type 0} (r : Read A) (rest : List ℕ) → after r ≡ read_to rest → (x : A) × (r ≡ Ok (x, rest))
after_ok (Ok x) rest e = let same : (tt, x.1) ≡ (tt, rest) = ok_is (tt, x.1) (tt, rest) e in (x.0, ap (λ (k : Unit {0} × List ℕ). is_read x.0 k.1) same)
  where
    is_read : {B : Type 0} → B → List ℕ → Read B
    is_read y k = Ok (y, k)
after_ok (Err d) rest e = absurd cc

-- the first element and the others
first_of : {A : Type 0} (f : Form A) (n : ℕ) (bytes : List ℕ) → after (run (repeated (suc n) f) bytes) ≡ (after (run f bytes) >>= λ r. after (run (repeated n f) r.1))
first_of f n bytes = ap after (one_more f n bytes) ∙ again (run f bytes)
  where
    again : (r : Read _) → after (r >>= λ x. run (repeated n f) x.1 >>= λ s. Ok (x.0 ∷ s.0, s.1)) ≡ (after r >>= λ x. after (run (repeated n f) x.1))
    again (Ok x) = after_more x.0 (run (repeated n f) x.1)
    again (Err d) = refl

pub goes_on : {A : Type 0} (f : Form A) (count i : ℕ) (bytes rest : List ℕ) (total : Read (Unit {0})) → i < count → after (run f bytes) ≡ read_to rest
    → after (run (repeated (count - i) f) bytes) ≡ total → after (run (repeated (count - (i + 1)) f) rest) ≡ total
goes_on f count i bytes rest total lt h so_far =
    let k : count - i ≡ suc (count - (i + 1)) = omega arith in
    let one : after (run (repeated (count - i) f) bytes) ≡ after (run (repeated (count - (i + 1)) f) rest) =
    ap (λ (n : ℕ). after (run (repeated n f) bytes)) k ∙ first_of f (count - (i + 1)) bytes ∙ ap (λ (r : Read (Unit {0})). r >>= λ x. after (run (repeated (count - (i + 1)) f) x.1)) h in
    sym one ∙ so_far

pub ends : {A : Type 0} (f : Form A) (count i : ℕ) (bytes : List ℕ) (left : ℕ) (total : Read (Unit {0})) → i < count → after (run f bytes) ≡ Err left
    → after (run (repeated (count - i) f) bytes) ≡ total → total ≡ Err left
ends f count i bytes left total lt h so_far =
    let k : count - i ≡ suc (count - (i + 1)) = omega arith in
    sym so_far ∙ ap (λ (n : ℕ). after (run (repeated n f) bytes)) k ∙ first_of f (count - (i + 1)) bytes ∙ ap (λ (r : Read (Unit {0})). r >>= λ x. after (run (repeated (count - (i + 1)) f) x.1)) h

-- some elements and the one behind them
pub last_of : {A : Type 0} (f : Form A) (n : ℕ) (bytes : List ℕ) → after (run (repeated (suc n) f) bytes) ≡ (after (run (repeated n f) bytes) >>= λ r. after (run f r.1))
last_of f zero bytes = first_of f 0 bytes ∙ none_behind (after (run f bytes))
  where
    none_behind : (r : Read (Unit {0})) → (r >>= λ x. after (run (repeated 0 f) x.1)) ≡ r
    none_behind (Ok x) = refl
    none_behind (Err d) = refl
last_of f (suc n) bytes = first_of f (suc n) bytes ∙ inside (λ k. last_of f n k) (after (run f bytes)) ∙ sym (ap (λ (r : Read (Unit {0})). r >>= λ x. after (run f x.1)) (first_of f n bytes))
  where
    inside : ((k : List ℕ) → after (run (repeated (suc n) f) k) ≡ (after (run (repeated n f) k) >>= λ r. after (run f r.1))) → (r : Read (Unit {0}))
        → (r >>= λ x. after (run (repeated (suc n) f) x.1)) ≡ ((r >>= λ x. after (run (repeated n f) x.1)) >>= λ x. after (run f x.1))
    inside fewer (Ok x) = fewer x.1
    inside fewer (Err d) = refl

-- ---- one element's bytes, and those behind it

pub held_reads : (p : Held) (ps : List Held) → HeldFits p → run held_form (pieces_bytes (p ∷ ps)) ≡ Ok (p, pieces_bytes ps)
held_reads p ps good =
    let l = held_described.leads p good in
    ap (run held_form) (flat_map-append field_bytes (held_fields p) (flat_map held_fields ps))
    ∙ ap (λ (x : List Field). run held_form (spelled x ++ pieces_bytes ps)) (sym l.is_spelled)
    ∙ run_reads held_form l.path (pieces_bytes ps)
    ∙ ap (λ (x : Held). found x (pieces_bytes ps)) l.is_answer
  where
    found : Held → List ℕ → Read Held
    found x rest = Ok (x, rest)

nothing_held : run held_form [] ≡ Err 0
unfolding held_form str_at counted_at
nothing_held = refl

some_bytes : (p : Held) (ps : List Held) → HeldFits p → pieces_bytes (p ∷ ps) ≡ [] → ⊥
some_bytes p ps good e = let r = sym (held_reads p ps good) ∙ ap (run held_form) e ∙ nothing_held in absurd cc

-- lists of the same bytes are the same
pub same_pieces : (ps qs : List Held) → AllByRecursion HeldFits ps → AllByRecursion HeldFits qs → pieces_bytes ps ≡ pieces_bytes qs → ps ≡ qs
same_pieces [] [] a b e = refl
same_pieces [] (q ∷ qs) a b e = absurd (some_bytes q qs b.0 (sym e))
same_pieces (p ∷ ps) [] a b e = absurd (some_bytes p ps a.0 e)
same_pieces (p ∷ ps) (q ∷ qs) a b e =
    let one = ok_is (p, pieces_bytes ps) (q, pieces_bytes qs) (sym (held_reads p ps a.0) ∙ ap (run held_form) e ∙ held_reads q qs b.0) in
    let others = same_pieces ps qs a.1 b.1 (ap (λ (x : Held × List ℕ). x.1) one) in
    ap (λ (x : Held × List ℕ). x.0 ∷ ps) one ∙ ap (λ (x : List Held). q ∷ x) others

-- ---- a list, and the bytes that are one

pub record IsListOf (count : ℕ) (bytes : List ℕ) : Type 0 where
  pub counted : length (pieces_in count bytes) ≡ count
  pub good : ArePieces (pieces_in count bytes)
  pub spelled : bytes ≡ pieces_bytes (pieces_in count bytes)

list_of : (count : ℕ) (bytes : List ℕ) (ps : List Held) → IsBytes bytes → 1 ≤ count → count ≤ MOST_PIECES → all_of (repeated count held_form) bytes ≡ Ok ps → IsListOf count bytes
list_of count bytes ps fits low high all =
    let form = repeated count held_form in
    let w = whole_takes form bytes ps fits all in
    let t = repeated_tells held_form held_fields HeldFits held_described count w.0 in
    let same : ps ≡ pieces_in count bytes = sym (ap listed all) in
    let facts : (flat_map held_fields (pieces_in count bytes) ≡ path_fields form w.0) × (length (pieces_in count bytes) ≡ count) × AllByRecursion HeldFits (pieces_in count bytes) =
    subst (λ (xs : List Held). (flat_map held_fields xs ≡ path_fields form w.0) × (length xs ≡ count) × AllByRecursion HeldFits xs) (w.1 ∙ same) t in
    record {
      counted = facts.1;
      good = record { some = omega (arith, facts.1, low); few = omega (arith, facts.1, high); held = facts.2 };
      spelled = w.2 ∙ ap spelled (sym facts.0);
    }

is_listed : (r : Result (List Held) ℕ) → is_ok r ≡ true → r ≡ Ok (listed r)
is_listed (Ok x) e = refl
is_listed (Err d) e = absurd cc

are_bytes : (bytes : List ℕ) → list_all is_byte bytes ≡ true → IsBytes bytes
are_bytes [] e i = omega arith
are_bytes (b ∷ bs) e zero = ltb-true b 256 (and_parts _ _ e).0
are_bytes (b ∷ bs) e (suc i) = are_bytes bs (and_parts _ _ e).1 i

all_bytes : (bytes : List ℕ) → IsBytes bytes → list_all is_byte bytes ≡ true
all_bytes [] fits = refl
all_bytes (b ∷ bs) fits = and_from _ _ (lt-ltb b 256 (fits 0)) (all_bytes bs (IsBytes-rest b bs fits))

-- the pieces of bytes that are a list
pub list_is : (count : ℕ) (bytes : List ℕ) → are_pieces count bytes ≡ true → IsListOf count bytes
unfolding are_pieces
list_is count bytes are =
    let a = and_parts _ _ are in
    let b = and_parts _ _ a.1 in
    let c = and_parts _ _ b.1 in
    list_of count bytes (pieces_in count bytes) (are_bytes bytes c.0) (leb-true 1 count a.0) (leb-true count MOST_PIECES b.0) (is_listed (all_of (repeated count held_form) bytes) c.1)

-- where so many elements take all of some bytes, these are a list
pub are_list : (count : ℕ) (bytes : List ℕ) (ps : List Held) → IsBytes bytes → 1 ≤ count → count ≤ MOST_PIECES → all_of (repeated count held_form) bytes ≡ Ok ps → are_pieces count bytes ≡ true
unfolding are_pieces
are_list count bytes ps fits low high all = and_from _ _ (le-leb 1 count low) (and_from _ _ (le-leb count MOST_PIECES high) (and_from _ _ (all_bytes bytes fits) (ap is_ok all)))

-- so many elements, behind which nothing stands
pub nothing_behind : (count : ℕ) (bytes : List ℕ) → IsBytes bytes → 1 ≤ count → count ≤ MOST_PIECES → after (run (repeated count held_form) bytes) ≡ read_to [] → are_pieces count bytes ≡ true
nothing_behind count bytes fits low high h =
    let a = after_ok (run (repeated count held_form) bytes) [] h in
    are_list count bytes a.0 fits low high (ap (whole (length bytes)) a.1)

-- the bytes that were taken are the list's
pub record Taken (count : ℕ) (bytes rest : List ℕ) (used : ℕ) : Type 0 where
  pub are : are_pieces count (take used bytes) ≡ true
  pub fits : used ≤ length bytes
  pub read : run (repeated count held_form) bytes ≡ Ok (pieces_in count (take used bytes), rest)

pub taken : (count : ℕ) (bytes rest : List ℕ) (used : ℕ) → IsBytes bytes → 1 ≤ count → count ≤ MOST_PIECES → used ≡ length bytes - length rest → after (run (repeated count held_form) bytes) ≡ read_to rest → Taken count bytes rest used
taken count bytes rest used fits low high used_is h =
    let a = after_ok (run (repeated count held_form) bytes) rest h in
    let s = run_takes (repeated count held_form) bytes (a.0, rest) fits a.1 in
    let text = spelled (path_fields (repeated count held_form) s.path) in
    let len : length text ≡ used = omega (arith, used_is, ap length s.takes.parts, length-append text rest) in
    let front : take used bytes ≡ text = ap (take used) s.takes.parts ∙ take_at text rest used len in
    let whole_is : all_of (repeated count held_form) (take used bytes) ≡ Ok a.0 = ap (all_of (repeated count held_form)) front ∙ whole_reads (repeated count held_form) s.path ∙ ap is_found s.is_answer in
    record {
      are = are_list count (take used bytes) a.0 (IsBytes-take used bytes fits) low high whole_is;
      fits = omega (arith, used_is);
      read = a.1 ∙ ap (λ (ps : List Held). is_read ps rest) (sym (ap listed whole_is));
    }
  where
    is_found : List Held → Result (List Held) ℕ
    is_found ps = Ok ps

    is_read : List Held → List ℕ → Read (List Held)
    is_read ps k = Ok (ps, k)

-- ---- the element of a number

-- where a list was read, the element of each number below the count is read
pub element_is : (n : ℕ) (ps : List Held) (d : Held) → AllByRecursion HeldFits ps → n < length ps → element_at n (pieces_bytes ps) ≡ Ok (get_or ps n d, pieces_bytes (drop (n + 1) ps))
element_is n [] d good lt = absurd (omega arith)
element_is zero (p ∷ ps) d good lt = held_reads p ps good.0
element_is (suc n) (p ∷ ps) d good lt =
    let e : suc n + 1 ≡ suc (n + 1) = omega arith in
    let next : after (run held_form (pieces_bytes (p ∷ ps))) ≡ read_to (pieces_bytes ps) = ap after (held_reads p ps good.0) in
    let on : after (run (repeated (suc n) held_form) (pieces_bytes (p ∷ ps))) ≡ after (run (repeated n held_form) (pieces_bytes ps)) =
    first_of held_form n (pieces_bytes (p ∷ ps)) ∙ ap (λ (r : Read (Unit {0})). r >>= λ x. after (run (repeated n held_form) x.1)) next in
    ap (λ (r : Read (Unit {0})). r >>= λ x. run held_form x.1) on ∙ element_is n ps d good.1 (omega arith) ∙ ap (λ (k : ℕ). found (get_or ps n d) (pieces_bytes (drop k (p ∷ ps)))) (sym e)
  where
    found : Held → List ℕ → Read Held
    found x rest = Ok (x, rest)

-- ---- counting the elements

-- the elements that are left of any list that the bytes are
abbrev pub AreLeft : List ℕ → ℕ → List ℕ → Type 0
AreLeft bytes i rest = (ps : List Held) → ArePieces ps → bytes ≡ pieces_bytes ps → (i < length ps) × (rest ≡ pieces_bytes (drop i ps))

all_left : (ps : List Held) (i : ℕ) → AllByRecursion HeldFits ps → AllByRecursion HeldFits (drop i ps)
all_left ps zero good = good
all_left [] (suc i) good = tt
all_left (p ∷ ps) (suc i) good = all_left ps i good.1

record IsNext (ps : List Held) (i : ℕ) : Type 0 where
  reads : after (run held_form (pieces_bytes (drop i ps))) ≡ read_to (pieces_bytes (drop (i + 1) ps))

is_next : (ps : List Held) (i : ℕ) → AllByRecursion HeldFits ps → i < length ps → IsNext ps i
is_next [] i good lt = absurd (omega arith)
is_next (p ∷ ps) zero good lt = record { reads = ap after (held_reads p ps good.0) }
is_next (p ∷ ps) (suc i) good lt =
    let n = is_next ps i good.1 (omega arith) in
    let e : suc i + 1 ≡ suc (i + 1) = omega arith in
    record { reads = subst (λ (k : ℕ). after (run held_form (pieces_bytes (drop (suc i) (p ∷ ps)))) ≡ read_to (pieces_bytes (drop k (p ∷ ps)))) (sym e) n.reads }

pub left_on : (bytes : List ℕ) (i : ℕ) (rest more : List ℕ) → AreLeft bytes i rest → after (run held_form rest) ≡ read_to more → 0 < length more → AreLeft bytes (i + 1) more
left_on bytes i rest more left h some ps good same =
    let l = left ps good same in
    let n = is_next ps i good.held l.0 in
    let more_is : more ≡ pieces_bytes (drop (i + 1) ps) = ap (λ (x : Unit {0} × List ℕ). x.1) (ok_is (tt, more) (tt, pieces_bytes (drop (i + 1) ps)) (sym h ∙ ap (λ (k : List ℕ). after (run held_form k)) l.1 ∙ n.reads)) in
    (further ps i l.0 (omega (arith, ap length more_is, some)), more_is)
  where
    -- where bytes are left, an element is
    further : (qs : List Held) (k : ℕ) → k < length qs → 0 < length (pieces_bytes (drop (k + 1) qs)) → k + 1 < length qs
    further [] k lt bytes_left = absurd (omega arith)
    further (q ∷ []) zero lt bytes_left = absurd (omega (arith, bytes_left))
    further (q ∷ r ∷ qs) zero lt bytes_left = omega arith
    further (q ∷ qs) (suc k) lt bytes_left =
        let e : suc k + 1 ≡ suc (k + 1) = omega arith in
        omega (arith, further qs k (omega arith) (subst (λ (n : ℕ). 0 < length (pieces_bytes (drop n (q ∷ qs)))) e bytes_left))

pub left_no : (bytes : List ℕ) (i : ℕ) (rest : List ℕ) (d : ℕ) → AreLeft bytes i rest → after (run held_form rest) ≡ Err d → (ps : List Held) → ArePieces ps → bytes ≡ pieces_bytes ps → ⊥
left_no bytes i rest d left h ps good same =
    let l = left ps good same in
    let n = is_next ps i good.held l.0 in
    let r = sym h ∙ ap (λ (k : List ℕ). after (run held_form k)) l.1 ∙ n.reads in
    absurd cc

pub more_read : (bytes : List ℕ) (i : ℕ) (rest more : List ℕ) → after (run (repeated i held_form) bytes) ≡ read_to rest → after (run held_form rest) ≡ read_to more → after (run (repeated (i + 1) held_form) bytes) ≡ read_to more
more_read bytes i rest more h here =
    let e : i + 1 ≡ suc i = omega arith in
    ap (λ (n : ℕ). after (run (repeated n held_form) bytes)) e ∙ last_of held_form i bytes ∙ ap (λ (r : Read (Unit {0})). r >>= λ x. after (run held_form x.1)) h ∙ here

-- ---- what a number gets

element_fits : (ps : List Held) (n : ℕ) (d : Held) → AllByRecursion HeldFits ps → n < length ps → HeldFits (get_or ps n d)
element_fits [] n d good lt = absurd (omega arith)
element_fits (p ∷ ps) zero d good lt = good.0
element_fits (p ∷ ps) (suc n) d good lt = element_fits ps n d good.1 (omega arith)

nothing : Held
nothing = record { text = []; secret = [] }

pub past_list : (count n : ℕ) (bytes : List ℕ) → are_pieces count bytes ≡ true → count ≤ n → slice_get (pieces_in count bytes) n ≡ None
past_list count n bytes are past =
    let l = list_is count bytes are in
    slice_get_past (pieces_in count bytes) n (omega (arith, l.counted))

-- the element of a number below the count, and what reading it gives
pub record Element (ps : List Held) (n : ℕ) (read : Read Held) : Type 0 where
  pub held : Held
  pub rest : List ℕ
  pub found : read ≡ Ok (held, rest)
  pub good : HeldFits held
  pub is : slice_get ps n ≡ Some held

pub in_list : (count n : ℕ) (bytes : List ℕ) → are_pieces count bytes ≡ true → n < count → Element (pieces_in count bytes) n (element_at n bytes)
in_list count n bytes are lt =
    let l = list_is count bytes are in
    let ps = pieces_in count bytes in
    let below : n < length ps = omega (arith, l.counted) in
    record {
      held = get_or ps n nothing;
      rest = pieces_bytes (drop (n + 1) ps);
      found = ap (element_at n) l.spelled ∙ element_is n ps nothing l.good.held below;
      good = element_fits ps n nothing l.good.held below;
      is = slice_get-get_or ps n nothing below;
    }

pub got : (count n : ℕ) (bytes : List ℕ) (p : Held) (rest : List ℕ) → are_pieces count bytes ≡ true → n < count → element_at n bytes ≡ Ok (p, rest) → (slice_get (pieces_in count bytes) n ≡ Some p) × HeldFits p
got count n bytes p rest are lt h =
    let e = in_list count n bytes are lt in
    let same : e.held ≡ p = ap (λ (x : Held × List ℕ). x.0) (ok_is (e.held, e.rest) (p, rest) (sym e.found ∙ h)) in
    subst (λ (x : Held). (slice_get (pieces_in count bytes) n ≡ Some x) × HeldFits x) same (e.is, e.good)

pub not_got : (count n : ℕ) (bytes : List ℕ) (left : ℕ) → are_pieces count bytes ≡ true → n < count → element_at n bytes ≡ Err left → ⊥
not_got count n bytes left are lt h =
    let e = in_list count n bytes are lt in
    let r = sym e.found ∙ h in
    absurd cc

-- ---- the first element and the others

bytes_of_list : (count : ℕ) (bytes : List ℕ) → are_pieces count bytes ≡ true → IsBytes bytes
unfolding are_pieces
bytes_of_list count bytes are = are_bytes bytes (and_parts _ _ (and_parts _ _ (and_parts _ _ are).1).1).0

all_read : (ps : List Held) → AllByRecursion HeldFits ps → all_of (repeated (length ps) held_form) (pieces_bytes ps) ≡ Ok ps
all_read ps good =
    let l = repeated_leads held_form held_fields HeldFits held_described ps good in
    let form = repeated (length ps) held_form in
    ap (λ (fs : List Field). all_of form (spelled fs)) (sym l.is_spelled) ∙ whole_reads form l.path ∙ ap found l.is_answer
  where
    found : List Held → Result (List Held) ℕ
    found x = Ok x

no_more : (ps : List Held) → length ps ≡ 0 → ps ≡ []
no_more [] e = refl
no_more (p ∷ ps) e = absurd (omega (arith, e))

pub record Split (count : ℕ) (bytes : List ℕ) : Type 0 where
  pub first : Held
  pub rest : List ℕ
  pub others : List Held
  pub read : run held_form bytes ≡ Ok (first, rest)
  pub good : HeldFits first
  pub is : pieces_in count bytes ≡ first ∷ others
  pub last : count ≡ 1 → others ≡ []
  pub are : 1 < count → are_pieces (count - 1) rest ≡ true
  pub left : 1 < count → pieces_in (count - 1) rest ≡ others

pub split : (count : ℕ) (bytes : List ℕ) → are_pieces count bytes ≡ true → Split count bytes
split count bytes are = let l = list_is count bytes are in go (pieces_in count bytes) refl l.counted l.good l.spelled
  where
    go : (ps : List Held) → pieces_in count bytes ≡ ps → length ps ≡ count → ArePieces ps → bytes ≡ pieces_bytes ps → Split count bytes
    go [] e counted good text = absurd (omega (arith, good.some))
    go (p ∷ qs) e counted good text =
        let all = all_read qs good.held.1 in
        let read : run held_form bytes ≡ Ok (p, pieces_bytes qs) = ap (run held_form) text ∙ held_reads p qs good.held.0 in
        let fits = (run_takes held_form bytes (p, pieces_bytes qs) (bytes_of_list count bytes are) read).takes.rest_fits in
        let n : length qs ≡ count - 1 = omega (arith, counted) in
        record {
          first = p;
          rest = pieces_bytes qs;
          others = qs;
          read = read;
          good = good.held.0;
          is = e;
          last = λ one. no_more qs (omega (arith, one, counted));
          are = λ more. subst (λ (k : ℕ). are_pieces k (pieces_bytes qs) ≡ true) n
              (are_list (length qs) (pieces_bytes qs) qs fits (omega (arith, more, n)) (omega (arith, good.few)) all);
          left = λ more. subst (λ (k : ℕ). pieces_in k (pieces_bytes qs) ≡ qs) n (ap listed all);
        }
