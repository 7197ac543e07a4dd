use Rattle.std.proofs.Common.{List, ◌∙◌, ap, Some}
use Rattle.wallet_model.specs.Requests.{Pending}
use Rattle.wallet_book.specs.declared.holding.Holding.{Holding}
use Rattle.wallet_book.specs.Holdings.{texts_of}
use Rattle.wallet_book.specs.Kept.{request_of}
use Rattle.wallet_core.proofs.request.kept_request.Goals as goal

pub returns-in-Some : goal.returns-in-Some
returns-in-Some c = λ h is.
    ap (λ (p : Pending). Some p) (c.whole.ensures ∙ ap (λ (xs : List Holding). request_of (texts_of xs) c.in-Some.kept) c.holdings.ensures.list)
    ∙ c.in-Some.ensures.exact h is

pub returns-in-None : goal.returns-in-None
returns-in-None c = λ h is. c.in-None.ensures.exact h is
