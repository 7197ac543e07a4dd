use Rattle.std.proofs.Common.{◌∙◌, ap, sym}
use Rattle.mc_requests.specs.Errands.{errand_of}
use Rattle.ledger_model.specs.Answer.{errand_offer}
use Rattle.broker_core.proofs.DeskLaws.{offer_is, buy_asked, credits, offers_nothing}
use Rattle.broker_core.proofs.desk.DeskTrade.offer.Goals as goal

pub returns-in-Some-clause-offer : goal.returns-in-Some-clause-offer
returns-in-Some-clause-offer c h stands kind =
    let asks = buy_asked (errand_of c.args.target.now) c.in-Some.asked c.in-Some.ensures.asked in
    c.sell.ensures.offer h stands
    ∙ sym (ap (errand_offer h c.args.time c.args.limits c.args.value) asks)
    ∙ offer_is h c.args.time c.args.limits c.args.target.now c.args.value kind

pub returns-in-Some-clause-brings : goal.returns-in-Some-clause-brings
returns-in-Some-clause-brings c h stands kind = c.sell.ensures.brings h c.args.target.now stands (buy_asked (errand_of c.args.target.now) c.in-Some.asked c.in-Some.ensures.asked)

pub returns-in-Some-credited-clause-offer : goal.returns-in-Some-credited-clause-offer
returns-in-Some-credited-clause-offer c h stands kind =
    c.credit.ensures.offer h stands
    ∙ sym (credits h c.args.time c.args.limits c.args.value (errand_of c.args.target.now) c.in-Some-credited.account c.in-Some-credited.ensures)
    ∙ offer_is h c.args.time c.args.limits c.args.target.now c.args.value kind

pub returns-in-None-credited-clause-offer : goal.returns-in-None-credited-clause-offer
returns-in-None-credited-clause-offer c h stands kind =
    sym (offers_nothing h c.args.time c.args.limits c.args.value (errand_of c.args.target.now) c.in-None.ensures.asked c.in-None-credited.ensures)
    ∙ offer_is h c.args.time c.args.limits c.args.target.now c.args.value kind
