-- The lines of a wallet's pieces.
use Rattle.std.proofs.Common.{◌≡◌, ◌∙◌, List, [], ◌∷◌, ◌++◌, ℕ, map, flat_map, refl, sym, ap, ap₂, append_assoc}
use Rattle.std.specs.Prelude.{codes, decimal}
use Rattle.scrip_form.specs.Scrip.{Scrip, id_digits}
use Rattle.wallet_model.specs.Holdings as model
use Rattle.wallet_book.specs.declared.holding.Holding.{Holding}
use Rattle.wallet_book.specs.Holdings.{state_of, text_of, holding_of, AreSpelled}
use Rattle.wallet_book.proofs.HoldingLaws.{read_back}
use Rattle.wallet_commands.specs.Lines.{state_word, piece_line, line_if_piece, holding_lines}

spelled_lines : (xs : List Holding) → AreSpelled xs → flat_map (λ x. piece_line (state_of x.state) x.piece) xs ≡ holding_lines (map holding_of xs)
spelled_lines [] spelled = refl
spelled_lines (x ∷ xs) spelled =
    ap₂ (λ (l m : List ℕ). l ++ m) (sym (ap (line_if_piece (state_of x.state)) (read_back (text_of x) x.piece x.cert spelled.0))) (spelled_lines xs spelled.1)

-- they are told by the texts of the pieces
pub lines_of_holdings : (xs : List Holding) (hs : List model.Holding) → AreSpelled xs → map holding_of xs ≡ hs → flat_map (λ x. piece_line (state_of x.state) x.piece) xs ≡ holding_lines hs
lines_of_holdings xs hs spelled same = spelled_lines xs spelled ∙ ap holding_lines same

-- what was appended is a piece's line
pub piece_joined : (old a b c d e f w v x i y : List ℕ) (state : model.PieceState) (p : Scrip) → a ≡ old ++ w ++ codes " " → b ≡ a ++ v ++ codes " " → c ≡ b ++ x ++ codes " " → d ≡ c ++ i ++ codes " " → e ≡ d ++ y → f ≡ e ++ codes "\n"
    → w ≡ state_word state → v ≡ p.vendor → x ≡ decimal p.value → i ≡ id_digits p.id → y ≡ decimal p.expires → f ≡ old ++ piece_line state p
piece_joined old a b c d e f w v x i y state p ea eb ec ed ee ef ew ev ex ei ey =
    ef ∙ rw (ee, ed, ec, eb, ea, ew, ev, ex, ei, ey) (joined old (state_word state) p.vendor (decimal p.value) (id_digits p.id) (decimal p.expires) (codes " ") (codes "\n"))
  where
    joined : (old w v x i y s n : List ℕ) → ((((((((((old ++ w) ++ s) ++ v) ++ s) ++ x) ++ s) ++ i) ++ s) ++ y) ++ n) ≡ old ++ (((((((((w ++ s) ++ v) ++ s) ++ x) ++ s) ++ i) ++ s) ++ y) ++ n)
    joined old w v x i y s n = simp append_assoc
