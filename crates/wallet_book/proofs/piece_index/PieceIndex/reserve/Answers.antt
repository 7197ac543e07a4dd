use Rattle.std.proofs.Common.{ap, ◌∙◌}
use Rattle.wallet_book.specs.PieceIndex.{PieceIndexView, key_of, place_of}
use Rattle.wallet_book.proofs.piece_index.PieceIndex.reserve.Goals as goal

pub returns-clause-places : goal.returns-clause-places
returns-clause-places c = λ vendor id.
    c.reserve.ensures.entries.2 (key_of vendor id) ∙ ap (λ (p : PieceIndexView). place_of p vendor id) c.self.view_is
