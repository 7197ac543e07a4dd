use Rattle.std.proofs.Common.{◌≡◌, ℕ, List, ◌∷◌, Bool, true, false, Some, option_map, find, sym, ap, ◌∙◌}
use Rattle.mc_records.specs.Entry.{Held}
use Rattle.mc_records.specs.PieceViews.{pieces_of, piece_of, pieces_left}
use Rattle.wallet_book.specs.Holdings.{texts_of}
use Rattle.wallet_book.proofs.HoldingLaws.{read_back}
use Rattle.wallet_core.specs.Taking.{is_twice, id_of}
use Rattle.wallet_core.proofs.TakenLaws.{find_first, find_behind, id_is}
use Rattle.wallet_core.proofs.taking.first_twice.Goals as goal

pub returns-then-is_twice : goal.returns-then-is_twice
returns-then-is_twice c =
    let rest : List Held = pieces_left c.split_first-piece.result.1 in
    let p : Held = piece_of c.split_first-piece.result.0 in
    let test : Held → Bool = is_twice (texts_of c.args.book.now.holdings) (pieces_of c.args.pieces.now) in
    let is : pieces_left c.loop-rest.rest ≡ p ∷ rest = ap pieces_left c.in-Some.is ∙ c.split_first-piece.ensures in
    let twice : test p ≡ true = sym (c.is_twice.ensures p.secret) ∙ c.if-is_twice.true in
    let found : find test (pieces_of c.args.pieces.now) ≡ Some p = sym c.loop-rest.invariant ∙ ap (find test) is ∙ find_first test p rest twice in
    let read = read_back p.text c.split_first-piece.result.0.0.piece c.split_first-piece.result.0.0.cert c.text-text.ensures.spelled in
    let id : c.id.result ≡ id_of p = c.id.ensures.id ∙ ap (λ q. q.id) c.piece.ensures ∙ sym (id_is p c.split_first-piece.result.0.0.piece read) in
    ap (λ (n : ℕ). Some n) id ∙ sym (ap (option_map id_of) found)

pub loop-rest-preserved : goal.loop-rest-preserved
loop-rest-preserved c =
    let rest : List Held = pieces_left c.split_first-piece.result.1 in
    let p : Held = piece_of c.split_first-piece.result.0 in
    let test : Held → Bool = is_twice (texts_of c.args.book.now.holdings) (pieces_of c.args.pieces.now) in
    let is : pieces_left c.loop-rest.rest ≡ p ∷ rest = ap pieces_left c.in-Some.is ∙ c.split_first-piece.ensures in
    let once : test p ≡ false = sym (c.is_twice.ensures p.secret) ∙ c.if-is_twice.false in
    sym (find_behind test p rest once) ∙ ap (find test) (sym is) ∙ c.loop-rest.invariant
