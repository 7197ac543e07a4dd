use Rattle.std.proofs.Common.{◌≡◌, List, Some, length, refl, sym, ap, ◌∙◌, arith}
use Rattle.std.proofs.lemmas.Option.{slice_get_read}
use Rattle.std.specs.Prelude.{slice_get}
use Rattle.wallet_book.specs.declared.holding.Holding.{Holding}
use Rattle.wallet_core.proofs.AskLaws.{with_get, with_buy}
use Rattle.wallet_core.proofs.asking.request_with.Goals as goal

pub returns-in-Get-clause-follows : goal.returns-in-Get-clause-follows
returns-in-Get-clause-follows c = λ h is.
    let here : slice_get c.args.book.now.holdings c.args.place ≡ Some c.in-Some.holding.now =
    ap (λ (xs : List Holding). slice_get xs c.args.place) (sym c.holdings.ensures.list) ∙ slice_get_read c.holdings.result.now (length c.holdings.result.now) c.args.place c.in-Some.holding.now refl (omega (arith, c.in-Some.ensures.lookup.3.0)) c.in-Some.ensures.lookup.1 in
    (with_get c.args.book.now h c.args.place c.args.ask.now c.in-Some.holding.now c.with_piece.result c.in-Get.vendor c.in-Get.target c.in-Get.limit is c.requires.pays here c.with_piece.ensures.spelled c.in-Get.is c.with_piece.ensures.request).1

pub returns-in-Buy-clause-exact : goal.returns-in-Buy-clause-exact
returns-in-Buy-clause-exact c = λ h is.
    let here : slice_get c.args.book.now.holdings c.args.place ≡ Some c.in-Some.holding.now =
    ap (λ (xs : List Holding). slice_get xs c.args.place) (sym c.holdings.ensures.list) ∙ slice_get_read c.holdings.result.now (length c.holdings.result.now) c.args.place c.in-Some.holding.now refl (omega (arith, c.in-Some.ensures.lookup.3.0)) c.in-Some.ensures.lookup.1 in
    (with_buy c.args.book.now h c.args.place c.args.ask.now c.in-Some.holding.now c.with_piece-in-Buy.result c.in-Buy.broker c.in-Buy.vendor c.buy_target.result c.in-Buy.amount c.in-Buy.limit is c.requires.pays here c.with_piece-in-Buy.ensures.spelled c.in-Buy.is c.buy_target.ensures.target c.buy_target.ensures.errand c.with_piece-in-Buy.ensures.request).0

pub returns-in-Buy-clause-follows : goal.returns-in-Buy-clause-follows
returns-in-Buy-clause-follows c = λ h is.
    let here : slice_get c.args.book.now.holdings c.args.place ≡ Some c.in-Some.holding.now =
    ap (λ (xs : List Holding). slice_get xs c.args.place) (sym c.holdings.ensures.list) ∙ slice_get_read c.holdings.result.now (length c.holdings.result.now) c.args.place c.in-Some.holding.now refl (omega (arith, c.in-Some.ensures.lookup.3.0)) c.in-Some.ensures.lookup.1 in
    (with_buy c.args.book.now h c.args.place c.args.ask.now c.in-Some.holding.now c.with_piece-in-Buy.result c.in-Buy.broker c.in-Buy.vendor c.buy_target.result c.in-Buy.amount c.in-Buy.limit is c.requires.pays here c.with_piece-in-Buy.ensures.spelled c.in-Buy.is c.buy_target.ensures.target c.buy_target.ensures.errand c.with_piece-in-Buy.ensures.request).1
