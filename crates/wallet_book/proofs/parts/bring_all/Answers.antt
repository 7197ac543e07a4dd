use Rattle.std.proofs.Common.{◌≡◌, List, ◌∷◌, ap, ◌∙◌}
use Rattle.mc_records.specs.Entry.{Held}
use Rattle.mc_records.specs.PieceViews.{pieces_of, piece_of, pieces_left}
use Rattle.wallet_book.proofs.PartLaws.{bringing_more, bringing_fails}
use Rattle.wallet_book.proofs.parts.bring_all.Goals as goal

pub returns-then-not-bring : goal.returns-then-not-bring
returns-then-not-bring c =
    let rest : List Held = pieces_left c.split_first-piece.result.1 in
    let p : Held = piece_of c.split_first-piece.result.0 in
    let is : pieces_left c.loop-rest.rest ≡ p ∷ rest = ap pieces_left c.in-Some.is ∙ c.split_first-piece.ensures in
    bringing_fails (pieces_of c.args.pieces.now) (pieces_left c.loop-rest.rest) rest p c.args.holdings.now.list c.loop-rest.holdings.list c.bring.new.holdings.list c.loop-rest.holdings.room c.loop-rest.invariant is c.if-not-bring.ensures.brings

pub loop-rest-preserved : goal.loop-rest-preserved
loop-rest-preserved c =
    let rest : List Held = pieces_left c.split_first-piece.result.1 in
    let p : Held = piece_of c.split_first-piece.result.0 in
    let is : pieces_left c.loop-rest.rest ≡ p ∷ rest = ap pieces_left c.in-Some.is ∙ c.split_first-piece.ensures in
    bringing_more (pieces_of c.args.pieces.now) (pieces_left c.loop-rest.rest) rest p c.args.holdings.now.list c.loop-rest.holdings.list c.bring.new.holdings.list c.loop-rest.holdings.room c.bring.new.holdings.room c.loop-rest.invariant is c.if-not-bring.ensures.brings c.bring.ensures.room
