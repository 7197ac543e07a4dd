use Rattle.std.proofs.Common.{◌∙◌, ap, option_map}
use Rattle.ledger_model.specs.Histories.{History}
use Rattle.audit_model.specs.Strangers.{first_stranger}
use Rattle.slow_sums.specs.Strangers.{vendors_of, place_of}
use Rattle.slow_sums.proofs.Strange.{of_market, no_market}
use Rattle.slow_sums.proofs.Lists.{if_ok}
use Rattle.slow_sums.proofs.strangers.slow_first_stranger.Goals as goal

pub returns-in-Some : goal.returns-in-Some
returns-in-Some c = λ b vs market.
    let books = c.args.books.now in
    if_ok _ _ c.stranger_of_all.result (λ found is.
    of_market b vs books c.in-Some.broker.now (option_map place_of found) market c.in-Some.ensures
    (is ∙ ap (λ (x : History). first_stranger x (vendors_of books) books) c.whole.ensures)) c.stranger_of_all.ensures

pub returns-in-None : goal.returns-in-None
returns-in-None c = λ b vs market. absurd (no_market b vs c.args.books.now market c.in-None.ensures)
