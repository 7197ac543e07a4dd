-- Piece lines: the text at the front, one line, and the lines of an input.
use Rattle.std.proofs.Common.{◌≡◌, ℕ, zero, suc, ◌+◌, ◌-◌, ◌<◌, ◌≤◌, Bool, List, [], ◌∷◌, ◌++◌, length, take, drop, Result, Ok, Err, refl, sym, ap, subst, ◌∙◌, append_assoc, append-nil, arith, flat_map}
use Rattle.std.specs.Prelude.{codes}
use Rattle.std.specs.List.{AllByRecursion}
use Rattle.std.proofs.lemmas.List.{nil_from_length, length-append, length-drop, take_at}
use Rattle.hex.specs.Hex.{encode_lower}
use Rattle.mc_fields.specs.Reading.{Read, whole, ◌>>=◌}
use Rattle.mc_fields.proofs.FieldBytes.{bind_ok, guard_else, ok_is}
use Rattle.mc_fields.proofs.Formats.{Reads, done, failed, pair_reads, map_reads, not_both}
use Rattle.mc_fields.proofs.FieldLaws.{err_is, literal_reads}
use Rattle.mc_fields.proofs.FormLaws.{whole_more}
use Rattle.mc_fields.proofs.HexField.{AreBytes, hex_reads, zeros, AreBytes-zeros}
use Rattle.scrip_form.specs.Scrip.{Scrip, IsTextOf, IsScripText, scrip_text}
use Rattle.scrip_form.specs.Reading.{scrip_at, scrip_of}
use Rattle.scrip_form.proofs.Laws.{scrip_reads, text_of, left-le}
use Rattle.mc_records.specs.Entry.{Held}
use Rattle.mc_records.specs.declared.ranges.TheConstants.{MOST_PIECES}
use Rattle.mc_records.specs.PieceLine.{piece_line}
use Rattle.piece_lines.specs.PieceLines.{secret_part, LineFits, BeginsNoLine, IsTold, secret_at, tested, line_at, behind, after_line, lines_from, input_lines}

-- ---- the scrip text at the front

pub text_front : (bytes front rest : List ℕ) (p : Scrip) (cert : List ℕ) → front ++ rest ≡ bytes → IsTextOf front p cert → scrip_at bytes ≡ done ((p, cert), rest)
text_front bytes front rest p cert parts is =
    ap scrip_at (sym parts ∙ ap (λ (t : List ℕ). t ++ rest) is.spelled) ∙ scrip_reads.again (p, cert) rest (is.is_piece, is.is_cert)

pub text_whole : (bytes rest : List ℕ) (p : Scrip) (cert : List ℕ) → length rest ≡ 0 → IsTextOf bytes p cert → scrip_at bytes ≡ done ((p, cert), rest)
text_whole bytes rest p cert none is =
    text_front bytes bytes rest p cert (ap (λ (t : List ℕ). bytes ++ t) (nil_from_length rest none) ∙ append-nil bytes) is

pub scrip_of_is : (bytes : List ℕ) → whole (length bytes) (scrip_at bytes) ≡ scrip_of bytes
unfolding scrip_of
scrip_of_is bytes = refl

pub no_front : (bytes front rest : List ℕ) (place : ℕ) → scrip_of bytes ≡ Err place → front ≡ take place bytes → rest ≡ drop place bytes → (IsScripText front → ⊥) → scrip_at bytes ≡ failed (length rest)
no_front bytes front rest place h front_is rest_is none = go (scrip_at bytes) refl
  where
    go : (r : Read (Scrip × List ℕ)) → scrip_at bytes ≡ r → scrip_at bytes ≡ failed (length rest)
    go (Err left) e =
        let k : failed {A = Scrip × List ℕ} (length bytes - left) ≡ failed place = ap (whole (length bytes)) (sym e) ∙ scrip_of_is bytes ∙ h in
        let n : left ≡ length rest = omega (arith, err_is {A = Scrip × List ℕ} (length bytes - left) place k, left-le bytes left e, ap length rest_is, length-drop place bytes) in
        e ∙ ap failed n
    go (Ok (x, [])) e = absurd (let k : done x ≡ failed place = ap (whole (length bytes)) (sym e) ∙ scrip_of_is bytes ∙ h in not_both x place k)
    go (Ok (x, b ∷ tail)) e =
        let s = scrip_reads.sound bytes x (b ∷ tail) e in
        let k : failed {A = Scrip × List ℕ} (length bytes - length (b ∷ tail)) ≡ failed place = sym (whole_more (length bytes) x b tail) ∙ ap (whole (length bytes)) (sym e) ∙ scrip_of_is bytes ∙ h in
        let len : length (text_of x) ≡ place = omega (arith, err_is {A = Scrip × List ℕ} (length bytes - length (b ∷ tail)) place k, ap length s.0, length-append (text_of x) (b ∷ tail)) in
        let text : front ≡ text_of x = front_is ∙ ap (take place) s.0 ∙ take_at (text_of x) (b ∷ tail) place len in
        absurd (none (x.0, x.1, record { is_piece = s.1.0; is_cert = s.1.1; spelled = text }))

-- ---- a line at the front

secret_there : (x : Unit {0} × (List ℕ × Unit {0})) → Unit {0} × (AreBytes 16 x.1.0 × Unit {0}) → (secret_part x.1.0 ≡ codes " " ++ (encode_lower x.1.0 ++ codes "\n")) × AreBytes 16 x.1.0
secret_there x f = (refl, f.1.0)

pub secret_reads : Reads secret_part (AreBytes 16) secret_at
unfolding secret_at
secret_reads =
    map_reads (pair_reads (literal_reads (codes " ")) (pair_reads (hex_reads 16) (literal_reads (codes "\n")) tt tt) (zeros 16, tt) (AreBytes-zeros 16, tt))
    secret_part (AreBytes 16) secret_at (λ x. x.1.0) (λ s. (tt, (s, tt))) (λ bytes. refl) secret_there (λ s f. (refl, (tt, (f, tt)), refl))

pub line_sound : (test : Scrip → Bool) (bytes : List ℕ) (p : Held) (rest : List ℕ) → line_at test bytes ≡ Ok (p, rest) → (bytes ≡ piece_line p ++ rest) × LineFits test p
unfolding line_at
line_sound test bytes p rest e =
    let a = bind_ok (scrip_at bytes) (λ x. secret_at x.1 >>= tested test (length bytes) x.0) (p, rest) e in
    let x = a.0.0 in
    let b = bind_ok (secret_at a.0.1) (tested test (length bytes) x) (p, rest) a.2 in
    let held : Held = record { text = scrip_text x.0 x.1; secret = b.0.0 } in
    let g = guard_else (test x.0) (length bytes) (Ok (held, b.0.1)) (p, rest) b.2 in
    let s = scrip_reads.sound bytes x a.0.1 a.1 in
    let t = secret_reads.sound a.0.1 b.0.0 b.0.1 b.1 in
    let parts : bytes ≡ piece_line held ++ b.0.1 = s.0 ∙ ap (λ (k : List ℕ). text_of x ++ k) t.0 ∙ sym (append_assoc (text_of x) (secret_part b.0.0) b.0.1) in
    let fits : LineFits test held = record { piece = x.0; cert = x.1; text = record { is_piece = s.1.0; is_cert = s.1.1; spelled = refl }; passes = g.0; secret = t.1 } in
    subst (λ (y : Held × List ℕ). (bytes ≡ piece_line y.0 ++ y.1) × LineFits test y.0) (ok_is (held, b.0.1) (p, rest) g.1) (parts, fits)

pub line_again : (test : Scrip → Bool) (p : Held) (rest : List ℕ) → LineFits test p → line_at test (piece_line p ++ rest) ≡ Ok (p, rest)
unfolding line_at
line_again test p rest f =
    let n = length (piece_line p ++ rest) in
    let first = text_front (piece_line p ++ rest) p.text (secret_part p.secret ++ rest) f.piece f.cert (sym (append_assoc p.text (secret_part p.secret) rest)) f.text in
    let second = secret_reads.again p.secret rest f.secret in
    let passed : tested test n (f.piece, f.cert) (p.secret, rest) ≡ found (scrip_text f.piece f.cert) = rw f.passes refl in
    ap (λ (r : Read (Scrip × List ℕ)). r >>= λ x. secret_at x.1 >>= tested test n x.0) first
    ∙ ap (λ (r : Read (List ℕ)). r >>= tested test n (f.piece, f.cert)) second ∙ passed ∙ ap found (sym f.text.spelled)
  where
    found : List ℕ → Read Held
    found text = Ok (record { text = text; secret = p.secret }, rest)

no_line : (test : Scrip → Bool) (bytes : List ℕ) (left : ℕ) → line_at test bytes ≡ failed left → BeginsNoLine test bytes
no_line test bytes left e p more f is = let r = sym (line_again test p more f) ∙ ap (line_at test) (sym is) ∙ e in absurd cc

-- ---- the lines of an input

pub record Lines (test : Scrip → Bool) (most : ℕ) (bytes : List ℕ) (pieces : List Held) : Type 0 where
  pub few : length pieces ≤ most
  pub fit : AllByRecursion (LineFits test) pieces
  pub spelled : bytes ≡ flat_map piece_line pieces

pub record Breaks (test : Scrip → Bool) (most number : ℕ) (bytes : List ℕ) (line : ℕ) : Type 0 where
  pub before : List Held
  pub rest : List ℕ
  pub few : length before ≤ most
  pub fit : AllByRecursion (LineFits test) before
  pub spelled : bytes ≡ flat_map piece_line before ++ rest
  pub more : 0 < length rest
  pub breaks : length before < most → BeginsNoLine test rest
  pub is_line : line ≡ length before + number

abbrev pub Told : (Scrip → Bool) → ℕ → ℕ → List ℕ → Result (List Held) ℕ → Type 0
Told test most number bytes (Ok pieces) = Lines test most bytes pieces
Told test most number bytes (Err line) = Breaks test most number bytes line

one_more : (test : Scrip → Bool) (most number : ℕ) (bytes : List ℕ) (p : Held) (rest : List ℕ) (r : Result (List Held) ℕ) → bytes ≡ piece_line p ++ rest → LineFits test p
    → Told test most (number + 1) rest r → Told test (suc most) number bytes (behind (p ∷ []) r)
one_more test most number bytes p rest (Ok ps) is f t = record { few = omega (arith, t.few); fit = (f, t.fit); spelled = is ∙ ap (λ (k : List ℕ). piece_line p ++ k) t.spelled }
one_more test most number bytes p rest (Err line) is f t = record {
  before = p ∷ t.before;
  rest = t.rest;
  few = omega (arith, t.few);
  fit = (f, t.fit);
  spelled = is ∙ ap (λ (k : List ℕ). piece_line p ++ k) t.spelled ∙ sym (append_assoc (piece_line p) (flat_map piece_line t.before) t.rest);
  more = t.more;
  breaks = λ lt. t.breaks (omega (arith, lt));
  is_line = omega (arith, t.is_line);
}

pub lines_told : (test : Scrip → Bool) (most number : ℕ) (bytes : List ℕ) → Told test most number bytes (lines_from test most number bytes)
lines_told test zero number [] = record { few = omega arith; fit = tt; spelled = refl }
lines_told test zero number (b ∷ bytes) = record { before = []; rest = b ∷ bytes; few = omega arith; fit = tt; spelled = refl; more = omega arith; breaks = λ lt. absurd (omega (arith, lt)); is_line = omega arith }
lines_told test (suc most) number [] = record { few = omega arith; fit = tt; spelled = refl }
lines_told test (suc most) number (b ∷ bytes) = go (λ rest. lines_told test most (number + 1) rest) (line_at test (b ∷ bytes)) refl
  where
    go : ((rest : List ℕ) → Told test most (number + 1) rest (lines_from test most (number + 1) rest)) → (r : Read Held) → line_at test (b ∷ bytes) ≡ r → Told test (suc most) number (b ∷ bytes) (after_line (lines_from test most (number + 1)) number r)
    go others (Ok (p, rest)) e = let s = line_sound test (b ∷ bytes) p rest e in one_more test most number (b ∷ bytes) p rest (lines_from test most (number + 1) rest) s.0 s.1 (others rest)
    go others (Err left) e = record { before = []; rest = b ∷ bytes; few = omega arith; fit = tt; spelled = refl; more = omega arith; breaks = λ lt. no_line test (b ∷ bytes) left e; is_line = omega arith }

some_line : (test : Scrip → Bool) (b : ℕ) (bytes : List ℕ) (r : Result (List Held) ℕ) → Told test MOST_PIECES 1 (b ∷ bytes) r → IsTold test (b ∷ bytes) r
some_line test b bytes (Ok []) t = let r = t.spelled in absurd cc
some_line test b bytes (Ok (p ∷ ps)) t = record { some = omega arith; few = t.few; fit = t.fit; spelled = t.spelled }
some_line test b bytes (Err line) t = record { before = t.before; rest = t.rest; few = t.few; fit = t.fit; spelled = t.spelled; more = t.more; breaks = t.breaks; is_line = t.is_line }

pub input_told : (test : Scrip → Bool) (bytes : List ℕ) → IsTold test bytes (input_lines test bytes)
input_told test [] = refl
input_told test (b ∷ bytes) = some_line test b bytes (lines_from test MOST_PIECES 1 (b ∷ bytes)) (lines_told test MOST_PIECES 1 (b ∷ bytes))
