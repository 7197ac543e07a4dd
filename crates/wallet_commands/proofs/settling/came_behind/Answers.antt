use Rattle.std.proofs.Common.{◌≡◌, ◌∙◌, List, length, Some, refl, sym, ap, arith}
use Rattle.std.proofs.lemmas.Option.{slice_get_read, slice_get_past}
use Rattle.std.specs.Prelude.{option_and_then, slice_get}
use Rattle.ledger_model.specs.Pieces.{piece_of}
use Rattle.wallet_book.specs.declared.holding.Holding.{Holding}
use Rattle.wallet_book.specs.Holdings.{text_of}
use Rattle.wallet_book.proofs.HoldingLaws.{read_back, spelled_at}
use Rattle.wallet_commands.specs.Replies.{came_behind}
use Rattle.wallet_commands.proofs.settling.came_behind.Goals as goal

pub returns-in-Some : goal.returns-in-Some
returns-in-Some g c =
    let xs : List Holding = c.holdings.result.now in
    let x : Holding = c.in-Some.x.now in
    let here : slice_get xs c.args.count ≡ Some x = slice_get_read xs (length xs) c.args.count x refl (omega (arith, c.in-Some.ensures.lookup.3.0)) c.in-Some.ensures.lookup.1 in
    sym (ap (λ (ys : List Holding). came_behind c.args.count ys) (sym c.holdings.ensures.all) ∙ ap (option_and_then (λ (y : Holding). piece_of (text_of y))) here
    ∙ read_back (text_of x) x.piece x.cert (spelled_at xs c.args.count x c.holdings.ensures.spelled here))

pub returns-in-None : goal.returns-in-None
returns-in-None g c =
    let xs : List Holding = c.holdings.result.now in
    sym (ap (λ (ys : List Holding). came_behind c.args.count ys) (sym c.holdings.ensures.all)
    ∙ ap (option_and_then (λ (y : Holding). piece_of (text_of y))) (slice_get_past xs c.args.count (omega (arith, c.in-None.ensures.lookup.3))))
