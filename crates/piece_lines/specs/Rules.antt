-- What a command asks of a piece.
use Rattle.std.specs.Prelude.{ℕ, Bool, true, ◌&&◌, ◌==◌, List, length, bytes_eq}
use Rattle.scrip_form.specs.Scrip.{Scrip}
use Rattle.piece_lines.specs.declared.rule.PieceRule.{PieceRule}
use Rattle.piece_lines.specs.declared.rule.PieceRule.TheVariants as rules

-- a piece of this vendor's, of any of his issuers, and first-hand: the customer's identity is its own, and it has no
-- props
abbrev pub is_stock_of : List ℕ → Scrip → Bool
is_stock_of vendor p = bytes_eq p.vendor vendor && (p.cust == p.id && length p.props == 0)

abbrev pub passes : PieceRule → Scrip → Bool
passes rules.Any p = true
passes (rules.StockOf vendor) p = is_stock_of vendor p
