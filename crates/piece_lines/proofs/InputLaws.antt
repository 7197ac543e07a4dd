-- An input has one reading, and a front that is longer than 256 lines reads like the whole.
use Rattle.std.proofs.Common.{◌≡◌, ℕ, zero, suc, ◌+◌, ◌-◌, ◌*◌, ◌<◌, ◌≤◌, Bool, List, [], ◌∷◌, ◌++◌, length, take, drop, Result, Ok, Err, refl, sym, ap, subst, ◌∙◌, append_assoc, append-nil, arith, flat_map}
use Rattle.std.specs.Prelude.{codes}
use Rattle.std.specs.List.{AllByRecursion}
use Rattle.std.proofs.Math.Seq.{take-append-add}
use Rattle.std.proofs.lemmas.List.{length-append, take_all, take-append-drop}
use Rattle.hex.specs.Hex.{lower_digits, encode_lower}
use Rattle.hex.proofs.HexLemmas.{length-encode_with}
use Rattle.mc_fields.specs.Reading.{Read}
use Rattle.scrip_form.specs.Scrip.{Scrip}
use Rattle.scrip_form.proofs.Laws.{text_is_short}
use Rattle.mc_records.specs.Entry.{Held, HeldFits, ArePieces}
use Rattle.mc_records.specs.declared.ranges.TheConstants.{MOST_PIECES}
use Rattle.mc_records.specs.PieceLine.{piece_line}
use Rattle.piece_lines.specs.PieceLines.{secret_part, LineFits, AreLines, BeginsNoLine, BreaksBehind, IsTold, line_at, behind, lines_from, input_lines}
use Rattle.piece_lines.proofs.LineLaws.{line_sound, line_again, input_told}
use Rattle.piece_lines.proofs.LoopLaws.{breaks, none_before, all_read, too_many, line_breaks, line_read}

-- ---- one reading

secret_length : (secret : List ℕ) → length (secret_part secret) ≡ suc (length (encode_lower secret) + 1)
secret_length secret = ap suc (length-append (encode_lower secret) (codes "\n"))

line_length : (p : Held) → length (piece_line p) ≡ length p.text + suc (length (encode_lower p.secret) + 1)
line_length p = length-append p.text (secret_part p.secret) ∙ ap (λ (n : ℕ). length p.text + n) (secret_length p.secret)

line_is_long : (p : Held) (rest : List ℕ) → 0 < length (piece_line p ++ rest)
line_is_long p rest = omega (arith, length-append (piece_line p) rest, line_length p)

-- right lines are read, as far as there are no more than the most
lines_read : (test : Scrip → Bool) (ps before : List Held) (most number : ℕ) (rest : List ℕ) (total : Result (List Held) ℕ) → length ps ≤ most → AllByRecursion (LineFits test) ps
    → total ≡ behind before (lines_from test most number (flat_map piece_line ps ++ rest)) → total ≡ behind (before ++ ps) (lines_from test (most - length ps) (number + length ps) rest)
lines_read test [] before most number rest total few fit h =
    let same : most ≡ most - 0 = omega arith in
    let first : number ≡ number + 0 = omega arith in
    h ∙ ap (λ (ps : List Held). behind ps (lines_from test most number rest)) (sym (append-nil before))
    ∙ ap (λ (k : ℕ). behind (before ++ []) (lines_from test k number rest)) same ∙ ap (λ (k : ℕ). behind (before ++ []) (lines_from test (most - 0) k rest)) first
lines_read test (p ∷ ps) before zero number rest total few fit h = absurd (omega (arith, few))
lines_read test (p ∷ ps) before (suc most) number rest total few fit h =
    let tail = flat_map piece_line ps ++ rest in
    let there : total ≡ behind before (lines_from test (suc most) number (piece_line p ++ tail)) =
    h ∙ ap (λ (k : List ℕ). behind before (lines_from test (suc most) number k)) (append_assoc (piece_line p) (flat_map piece_line ps) rest) in
    let next = line_read test (suc most) most number (piece_line p ++ tail) before total p tail refl (line_is_long p tail) (line_again test p tail fit.0) there in
    let all = lines_read test ps (before ++ p ∷ []) most (number + 1) rest total (omega (arith, few)) fit.1 next in
    let same : most - length ps ≡ suc most - length (p ∷ ps) = omega arith in
    let next_number : number + 1 + length ps ≡ number + length (p ∷ ps) = omega arith in
    all ∙ ap (λ (qs : List Held). behind qs (lines_from test (most - length ps) (number + 1 + length ps) rest)) (append_assoc before (p ∷ []) ps)
    ∙ ap (λ (k : ℕ). behind (before ++ p ∷ ps) (lines_from test k (number + 1 + length ps) rest)) same
    ∙ ap (λ (k : ℕ). behind (before ++ p ∷ ps) (lines_from test (suc most - length (p ∷ ps)) k rest)) next_number

breaks_there : (test : Scrip → Bool) (rest : List ℕ) → BeginsNoLine test rest → (left : ℕ) × (line_at test rest ≡ Err left)
breaks_there test rest none = go (line_at test rest) refl
  where
    go : (r : Read Held) → line_at test rest ≡ r → (left : ℕ) × (line_at test rest ≡ Err left)
    go (Ok (p, more)) e = let s = line_sound test rest p more e in absurd (none p more s.1 s.0)
    go (Err left) e = (left, e)

only_pieces : (test : Scrip → Bool) (bytes : List ℕ) (ps : List Held) → AreLines test bytes ps → lines_from test MOST_PIECES 1 bytes ≡ Ok ps
only_pieces test bytes ps are =
    let total = lines_from test MOST_PIECES 1 bytes in
    let spelled : bytes ≡ flat_map piece_line ps ++ [] = are.spelled ∙ sym (append-nil (flat_map piece_line ps)) in
    all_read test (MOST_PIECES - length ps) (1 + length ps) [] ps total refl
    (lines_read test ps [] MOST_PIECES 1 [] total are.few are.fit (none_before total ∙ ap (λ (k : List ℕ). behind [] (lines_from test MOST_PIECES 1 k)) spelled))

number_is : (n line : ℕ) → line ≡ n + 1 → 1 + n ≡ line
number_is n line e = omega (arith, e)

only_line : (test : Scrip → Bool) (bytes : List ℕ) (line : ℕ) → BreaksBehind test bytes line → lines_from test MOST_PIECES 1 bytes ≡ Err line
only_line test bytes line b = go (MOST_PIECES - length b.before) refl ∙ ap breaks (number_is (length b.before) line b.is_line)
  where
    total : Result (List Held) ℕ
    total = lines_from test MOST_PIECES 1 bytes

    left : total ≡ behind b.before (lines_from test (MOST_PIECES - length b.before) (1 + length b.before) b.rest)
    left = lines_read test b.before [] MOST_PIECES 1 b.rest total b.few b.fit (none_before total ∙ ap (λ (k : List ℕ). behind [] (lines_from test MOST_PIECES 1 k)) b.spelled)

    go : (most : ℕ) → MOST_PIECES - length b.before ≡ most → total ≡ Err (1 + length b.before)
    go zero e = too_many test (MOST_PIECES - length b.before) (1 + length b.before) b.rest b.before total e b.more left
    go (suc less) e =
        let there = breaks_there test b.rest (b.breaks (omega (arith, e))) in
        line_breaks test (MOST_PIECES - length b.before) less (1 + length b.before) b.rest b.before total there.0 e b.more there.1 left

pub told_only : (test : Scrip → Bool) (bytes : List ℕ) (r : Result (List Held) ℕ) → IsTold test bytes r → r ≡ input_lines test bytes
told_only test [] (Ok []) t = absurd (omega (arith, t.some))
told_only test [] (Ok (p ∷ ps)) t = absurd (omega (arith, line_is_long p (flat_map piece_line ps), ap length t.spelled))
told_only test [] (Err line) t = ap breaks t
told_only test (b ∷ bytes) (Ok ps) t = sym (only_pieces test (b ∷ bytes) ps t)
told_only test (b ∷ bytes) (Err line) t = sym (only_line test (b ∷ bytes) line t)

-- ---- the pieces of an input

held_fit : (test : Scrip → Bool) (ps : List Held) → AllByRecursion (LineFits test) ps → AllByRecursion HeldFits ps
held_fit test [] fit = tt
held_fit test (p ∷ ps) fit = (record { text = (fit.0.piece, fit.0.cert, fit.0.text); secret = fit.0.secret.0 }, held_fit test ps fit.1)

pub are_pieces_read : (test : Scrip → Bool) (bytes : List ℕ) (pieces : List Held) → input_lines test bytes ≡ Ok pieces → ArePieces pieces
are_pieces_read test bytes pieces read =
    let lines : AreLines test bytes pieces = subst (λ (r : Result (List Held) ℕ). IsTold test bytes r) read (input_told test bytes) in
    record { some = lines.some; few = lines.few; held = held_fit test pieces lines.fit }

-- ---- fronts

most_is : MOST_PIECES ≡ 256
most_is = refl

some_taken : (k : ℕ) (xs : List ℕ) → 0 < k → 0 < length xs → 0 < length (take k xs)
some_taken zero xs a b = absurd (omega (arith, a))
some_taken (suc k) [] a b = absurd (omega (arith, b))
some_taken (suc k) (x ∷ xs) a b = omega arith

line_is_short : (test : Scrip → Bool) (p : Held) → LineFits test p → length (piece_line p) ≤ 327
line_is_short test p f =
    omega (arith, line_length p, text_is_short p.text f.piece f.cert f.text, f.secret.0, length-encode_with lower_digits p.secret)

lines_are_short : (test : Scrip → Bool) (ps : List Held) → AllByRecursion (LineFits test) ps → length (flat_map piece_line ps) ≤ 327 * length ps
lines_are_short test [] fit = omega arith
lines_are_short test (p ∷ ps) fit =
    omega (arith, line_is_short test p fit.0, lines_are_short test ps fit.1, length-append (piece_line p) (flat_map piece_line ps))

-- what begins no line has no front that begins one
front_begins_none : (test : Scrip → Bool) (rest : List ℕ) (k : ℕ) → BeginsNoLine test rest → BeginsNoLine test (take k rest)
front_begins_none test rest k none p more f is =
    none p (more ++ drop k rest) f (sym (take-append-drop k rest) ∙ ap (λ (t : List ℕ). t ++ drop k rest) is ∙ append_assoc (piece_line p) more (drop k rest))

front_breaks : (test : Scrip → Bool) (bytes : List ℕ) (n line : ℕ) → 83712 < n → BreaksBehind test bytes line → BreaksBehind test (take n bytes) line
front_breaks test bytes n line long b =
    let x = flat_map piece_line b.before in
    let short : length x < n = omega (arith, most_is, long, b.few, lines_are_short test b.before b.fit) in
    let k = n - length x in
    let n_is : n ≡ length x + k = omega (arith, short) in
    record {
      before = b.before;
      rest = take k b.rest;
      few = b.few;
      fit = b.fit;
      spelled = ap (take n) b.spelled ∙ ap (λ (m : ℕ). take m (x ++ b.rest)) n_is ∙ take-append-add x b.rest k;
      more = some_taken k b.rest (omega (arith, short)) b.more;
      breaks = λ lt. front_begins_none test b.rest k (b.breaks lt);
      is_line = b.is_line;
    }

front_told : (test : Scrip → Bool) (bytes : List ℕ) (n : ℕ) (r : Result (List Held) ℕ) → 83712 < n → IsTold test bytes r → IsTold test (take n bytes) r
front_told test bytes n (Ok ps) long t =
    let short : length bytes ≤ n = omega (arith, most_is, long, t.few, lines_are_short test ps t.fit, ap length t.spelled) in
    subst (λ (k : List ℕ). AreLines test k ps) (sym (take_all n bytes short)) t
front_told test bytes zero (Err line) long t = absurd (omega (arith, long))
front_told test [] (suc n) (Err line) long t = t
front_told test (b ∷ bytes) (suc n) (Err line) long t = front_breaks test (b ∷ bytes) (suc n) line long t

pub front_tells : (test : Scrip → Bool) (bytes : List ℕ) (n : ℕ) → 83712 < n → input_lines test (take n bytes) ≡ input_lines test bytes
front_tells test bytes n long = sym (told_only test (take n bytes) (input_lines test bytes) (front_told test bytes n (input_lines test bytes) long (input_told test bytes)))

-- a longer input than 256 lines is none of pieces
pub long_breaks : (test : Scrip → Bool) (bytes : List ℕ) → 83712 < length bytes → (line : ℕ) × (input_lines test bytes ≡ Err line)
long_breaks test bytes long = go (input_lines test bytes) refl
  where
    go : (r : Result (List Held) ℕ) → input_lines test bytes ≡ r → (line : ℕ) × (input_lines test bytes ≡ Err line)
    go (Ok ps) is =
        let lines : AreLines test bytes ps = subst (λ (r : Result (List Held) ℕ). IsTold test bytes r) is (input_told test bytes) in
        absurd (omega (arith, most_is, long, lines.few, lines_are_short test ps lines.fit, ap length lines.spelled))
    go (Err line) is = (line, is)
