-- The loop over the lines of an input: the pieces so far, and the lines that are left.
use Rattle.std.proofs.Common.{◌≡◌, ℕ, zero, suc, ◌+◌, ◌<◌, Bool, true, false, List, [], ◌∷◌, ◌++◌, length, take, Result, Ok, Err, refl, sym, ap, ◌∙◌, append_assoc, append-nil, arith, flat_map}
use Rattle.std.specs.Result.{is_err}
use Rattle.std.proofs.lemmas.List.Concat.{flat_map-append}
use Rattle.mc_fields.specs.Field.{field_bytes, str, spelled}
use Rattle.mc_fields.specs.Puts.{Appends}
use Rattle.scrip_form.specs.Scrip.{Scrip}
use Rattle.mc_records.specs.Entry.{Held, held_fields}
use Rattle.mc_records.specs.Pieces.{pieces_bytes}
use Rattle.mc_records.specs.declared.ranges.TheConstants.{MOST_PIECES}
use Rattle.piece_lines.specs.declared.lines.PieceLinesFault.{PieceLinesFault}
use Rattle.piece_lines.specs.declared.lines.PieceLinesFault.TheVariants as faults
use Rattle.piece_lines.specs.Answers.{Tells}
use Rattle.piece_lines.specs.PieceLines.{line_at, behind, after_line, lines_from, input_lines}

abbrev gives : List Held → Result (List Held) ℕ
gives ps = Ok ps

abbrev pub breaks : ℕ → Result (List Held) ℕ
breaks line = Err line

pub none_before : (r : Result (List Held) ℕ) → r ≡ behind [] r
none_before (Ok qs) = refl
none_before (Err line) = refl

-- where nothing is left, the pieces so far are all
pub all_read : (test : Scrip → Bool) (most number : ℕ) (rest : List ℕ) (ps : List Held) (total : Result (List Held) ℕ) → length rest ≡ 0
    → total ≡ behind ps (lines_from test most number rest) → total ≡ Ok ps
all_read test zero number [] ps total e h = h ∙ ap gives (append-nil ps)
all_read test (suc most) number [] ps total e h = h ∙ ap gives (append-nil ps)
all_read test most number (b ∷ rest) ps total e h = absurd (omega (arith, e))

-- bytes that are left behind the most lines break the line of that number
pub too_many : (test : Scrip → Bool) (most number : ℕ) (rest : List ℕ) (ps : List Held) (total : Result (List Held) ℕ) → most ≡ 0 → 0 < length rest
    → total ≡ behind ps (lines_from test most number rest) → total ≡ Err number
too_many test zero number (b ∷ rest) ps total none some h = h
too_many test zero number [] ps total none some h = absurd (omega (arith, some))
too_many test (suc most) number rest ps total none some h = absurd (omega (arith, none))

-- the first of the lines that are left
first_line : (test : Scrip → Bool) (most less number : ℕ) (rest : List ℕ) → most ≡ suc less → 0 < length rest
    → lines_from test most number rest ≡ after_line (lines_from test less (number + 1)) number (line_at test rest)
first_line test zero less number rest one some = absurd (omega (arith, one))
first_line test (suc most) less number [] one some = absurd (omega (arith, some))
first_line test (suc most) less number (b ∷ rest) one some =
    let same : most ≡ less = omega (arith, one) in
    ap (λ (k : ℕ). after_line (lines_from test k (number + 1)) number (line_at test (b ∷ rest))) same

pub line_breaks : (test : Scrip → Bool) (most less number : ℕ) (rest : List ℕ) (ps : List Held) (total : Result (List Held) ℕ) (left : ℕ) → most ≡ suc less → 0 < length rest → line_at test rest ≡ Err left
    → total ≡ behind ps (lines_from test most number rest) → total ≡ Err number
line_breaks test most less number rest ps total left one some broken h =
    h ∙ ap (behind ps) (first_line test most less number rest one some ∙ ap (after_line (lines_from test less (number + 1)) number) broken)

behind_both : (ps : List Held) (p : Held) (r : Result (List Held) ℕ) → behind ps (behind (p ∷ []) r) ≡ behind (ps ++ p ∷ []) r
behind_both ps p (Ok qs) = ap gives (sym (append_assoc ps (p ∷ []) qs))
behind_both ps p (Err line) = refl

pub line_read : (test : Scrip → Bool) (most less number : ℕ) (rest : List ℕ) (ps : List Held) (total : Result (List Held) ℕ) (p : Held) (more : List ℕ) → most ≡ suc less → 0 < length rest → line_at test rest ≡ Ok (p, more)
    → total ≡ behind ps (lines_from test most number rest) → total ≡ behind (ps ++ p ∷ []) (lines_from test less (number + 1) more)
line_read test most less number rest ps total p more one some read h =
    h ∙ ap (behind ps) (first_line test most less number rest one some ∙ ap (after_line (lines_from test less (number + 1)) number) read)
    ∙ behind_both ps p (lines_from test less (number + 1) more)

-- ---- the elements

pub behind_ok : {X E : Type 0} (old new text : List ℕ) (r : Result X E) → is_err r ≡ false → Appends old new text r → new ≡ old ++ text
behind_ok old new text (Ok x) is h = h
behind_ok old new text (Err e) is h = absurd cc

pub front_of_err : {X E : Type 0} (old new text : List ℕ) (r : Result X E) → is_err r ≡ true → Appends old new text r → take (length old) new ≡ old
front_of_err old new text (Ok x) is h = absurd cc
front_of_err old new text (Err e) is h = h

-- one more element behind those of the pieces so far
pub element_behind : (old mid new : List ℕ) (ps : List Held) (p : Held) → mid ≡ old ++ pieces_bytes ps → new ≡ mid ++ (field_bytes (str p.text) ++ p.secret) → new ≡ old ++ pieces_bytes (ps ++ p ∷ [])
element_behind old mid new ps p before is =
    let one : pieces_bytes (p ∷ []) ≡ field_bytes (str p.text) ++ p.secret = ap (λ (t : List ℕ). field_bytes (str p.text) ++ t) (append-nil p.secret) in
    let all : pieces_bytes (ps ++ p ∷ []) ≡ pieces_bytes ps ++ pieces_bytes (p ∷ []) =
    ap spelled (flat_map-append held_fields ps (p ∷ [])) ∙ flat_map-append field_bytes (flat_map held_fields ps) (flat_map held_fields (p ∷ [])) in
    is ∙ ap (λ (t : List ℕ). t ++ (field_bytes (str p.text) ++ p.secret)) before ∙ append_assoc old (pieces_bytes ps) (field_bytes (str p.text) ++ p.secret)
    ∙ ap (λ (t : List ℕ). old ++ t) (sym (all ∙ ap (λ (t : List ℕ). pieces_bytes ps ++ t) one))

-- ---- the whole input

pub nothing_read : (test : Scrip → Bool) (bytes : List ℕ) → length bytes ≡ 0 → input_lines test bytes ≡ Err 0
nothing_read test [] e = refl
nothing_read test (b ∷ bytes) e = absurd (omega (arith, e))

pub some_read : (test : Scrip → Bool) (bytes : List ℕ) → 0 < length bytes → lines_from test MOST_PIECES 1 bytes ≡ input_lines test bytes
some_read test (b ∷ bytes) some = refl
some_read test [] some = absurd (omega (arith, some))

-- what a fault tells has nothing to do with the bytes that stand then
pub fault_told : (input : Result (List Held) ℕ) (old new later : List ℕ) (fault : PieceLinesFault) → Tells input old new (Err fault) → Tells input old later (Err fault)
fault_told input old new later (faults.Line line) h = h
fault_told input old new later faults.NoMemory h = tt
