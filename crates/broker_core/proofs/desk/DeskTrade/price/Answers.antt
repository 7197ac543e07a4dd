use Rattle.std.proofs.Common.{◌∙◌, ◌+◌, Some, ap, sym, ℕ}
use Rattle.mc_requests.specs.Errands.{errand_of}
use Rattle.ledger_model.specs.Houses.{fee}
use Rattle.ledger_model.specs.Replies.{errand_price}
use Rattle.broker_core.proofs.DeskLaws.{buy_asked, no_price, price_is}
use Rattle.broker_core.proofs.desk.DeskTrade.price.Goals as goal

pub returns-in-Some : goal.returns-in-Some
returns-in-Some c h stands kind =
    let asks = buy_asked (errand_of c.args.target.now) c.in-Some.asked c.in-Some.ensures.asked in
    ap (λ (n : ℕ). Some n) (c.price_of.ensures ∙ ap (λ (n : ℕ). c.in-Some.asked.value + n) (sym stands.of_fee))
    ∙ sym (ap (errand_price (fee h)) asks) ∙ price_is h c.args.target.now kind

pub returns-in-None : goal.returns-in-None
returns-in-None c h stands kind = no_price (fee h) (errand_of c.args.target.now) c.in-None.ensures.asked ∙ price_is h c.args.target.now kind
