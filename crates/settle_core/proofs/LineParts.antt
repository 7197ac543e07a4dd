-- The parts of a statement's line, by where they stand in it.
use Rattle.std.proofs.Common.{◌≡◌, ℕ, ◌+◌, ◌-◌, List, [], ◌∷◌, ◌++◌, length, take, drop, Some, ap, ◌∙◌, append-nil, append_assoc, arith}
use Rattle.std.specs.Prelude.{codes}
use Rattle.std.proofs.lemmas.List.{length-append, take_at}
use Rattle.hex.specs.Hex.{encode_lower, lower_digits}
use Rattle.hex.proofs.HexLemmas.{length-encode_with}
use Rattle.settle_core.specs.declared.claim.Statement.{Statement}
use Rattle.settle_core.specs.Claims.{payment_text, statement_body}
use Rattle.settle_core.specs.Statements.{StatementFits, statement_text, statement_at}
use Rattle.settle_core.proofs.StatementTexts.{statement_told}

-- the digits of the certificate and the LF
abbrev pub ending : Statement → List ℕ
ending s = encode_lower s.cert ++ codes "\n"

ending_long : (s : Statement) → StatementFits s → length (ending s) ≡ 33
ending_long s fits = let n = length-append (encode_lower s.cert) (codes "\n") in let d = length-encode_with lower_digits s.cert in omega (arith, n, d, fits.cert'.0)

-- a line has more than its ending
pub line_long : (s : Statement) (line : List ℕ) → StatementFits s → line ≡ statement_text s → length line ≡ length (payment_text s.payment) + 44
line_long s line fits is =
    let n = length-append (statement_body s.payment) (ending s) in
    let b = length-append (payment_text s.payment) (32 ∷ []) in
    let e = ending_long s fits in
    let l = ap length is in
    omega (arith, n, b, e, l)

-- the front is what is certified
pub body_at : (s : Statement) (line : List ℕ) → StatementFits s → line ≡ statement_text s → take (length line - 33) line ≡ statement_body s.payment
body_at s line fits is =
    let b = length-append (payment_text s.payment) (32 ∷ []) in
    let long = line_long s line fits is in
    ap (take (length line - 33)) is ∙ take_at (statement_body s.payment) (ending s) (length line - 33) (omega (arith, b, long))

-- behind the word `statement` stands the payment
pub payment_at : (s : Statement) (line : List ℕ) → StatementFits s → line ≡ statement_text s → take (length line - 33 - 1 - 10) (drop 10 line) ≡ payment_text s.payment
payment_at s line fits is =
    let long = line_long s line fits is in
    let tail : drop 10 (statement_text s) ≡ payment_text s.payment ++ (32 ∷ ending s) = append_assoc (payment_text s.payment) (32 ∷ []) (ending s) in
    ap (λ (l : List ℕ). take (length line - 33 - 1 - 10) (drop 10 l)) is
    ∙ ap (take (length line - 33 - 1 - 10)) tail
    ∙ take_at (payment_text s.payment) (32 ∷ ending s) (length line - 33 - 1 - 10) (omega (arith, long))

-- an input that is one statement is its line
pub input_told : (bytes : List ℕ) (s : Statement) (rest : List ℕ) → statement_at bytes ≡ Some (s, rest) → rest ≡ [] → StatementFits s × (bytes ≡ statement_text s)
input_told bytes s rest is none =
    let told = statement_told bytes s rest is in
    (told.0, told.1 ∙ ap (λ (r : List ℕ). statement_text s ++ r) none ∙ append-nil (statement_text s))
