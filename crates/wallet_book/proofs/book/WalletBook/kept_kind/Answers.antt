use Rattle.std.proofs.Common.{sym, ap, option_map}
use Rattle.wallet_model.specs.Requests.{Pending}
use Rattle.wallet_book.proofs.book.WalletBook.kept_kind.Goals as goal

pub returns-in-Some : goal.returns-in-Some
returns-in-Some c = λ h is. ap (option_map (λ (p : Pending). p.ask)) (sym (c.in-Some.ensures.exact h is))

pub returns-in-None : goal.returns-in-None
returns-in-None c = λ h is. ap (option_map (λ (p : Pending). p.ask)) (sym (c.in-None.ensures.exact h is))
