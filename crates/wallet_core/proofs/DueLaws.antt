-- A piece that is fit pays for a get.
use Rattle.std.proofs.Common.{ℕ, List, Option, Some, None}
use Rattle.std.specs.Prelude.{IfSome}
use Rattle.wallet_book.specs.Choosing.{IsFitAt}
use Rattle.wallet_book.specs.Book.{BookView}
use Rattle.wallet_core.specs.Asks.{PaysAt}
use Rattle.wallet_core.specs.declared.ask.Ask.TheVariants.{Get}

pub fit_pays : (b : BookView) (vendor : List ℕ) (r : Option ℕ) → IfSome r (IsFitAt b.holdings b.time vendor)
    → IfSome r (λ place. (target : List ℕ) (limit : ℕ) → PaysAt b place (Get vendor target limit))
fit_pays b vendor None fit = tt
fit_pays b vendor (Some place) fit = λ target limit. record {
  holding = fit.holding;
  here = fit.here;
  held' = fit.held';
  vendor' = fit.vendor';
  in_time = fit.in_time;
  paid = tt;
}
