use Rattle.std.proofs.Common.{◌∙◌, ℕ, sym, subst}
use Rattle.wallet_book.specs.Parts.{FindsPayment}
use Rattle.wallet_book.proofs.PayLaws.{pays_get, pays_buy}
use Rattle.wallet_book.proofs.paying.payment.Goals as goal

pub returns-in-0 : goal.returns-in-0
returns-in-0 c = λ apart.
    let P : ℕ → Type 0 = λ ask. FindsPayment c.args.holdings.now.list ask c.args.peer.now c.args.target.now c.args.text.now c.held_place.result in
    subst P (sym c.in-0.is) (pays_get c.args.holdings.now.list c.args.peer.now c.args.target.now c.args.text.now c.held_place.result (c.held_place.ensures apart))

pub returns-in-1 : goal.returns-in-1
returns-in-1 c = λ apart.
    let P : ℕ → Type 0 = λ ask. FindsPayment c.args.holdings.now.list ask c.args.peer.now c.args.target.now c.args.text.now c.held_place-in-1.result in
    subst P (sym c.in-1.is)
    (pays_buy c.args.holdings.now.list c.args.peer.now c.args.target.now c.args.text.now c.held_place-in-1.result (sym c.asks_to_buy.ensures ∙ c.if-asks_to_buy.true) (c.held_place-in-1.ensures apart))
