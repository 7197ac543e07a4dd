use Rattle.std.proofs.Common.{◌≡◌, ℕ, List, Option, option_map, ap, subst, ◌∙◌}
use Rattle.std.specs.Prelude.{IfSome}
use Rattle.wallet_model.specs.Asks.{due_of}
use Rattle.wallet_book.specs.declared.holding.Holding.{Holding}
use Rattle.wallet_book.specs.Choosing.{fit_among, IsFitAt}
use Rattle.wallet_book.specs.Book.{BookView}
use Rattle.wallet_book.proofs.BookLaws.{due_here}
use Rattle.wallet_book.proofs.book.WalletBook.first_due.Goals as goal

pub returns-clause-exact : goal.returns-clause-exact
returns-clause-exact c = λ h is.
    let b : BookView = c.args.self.now in
    let list : c.as_slice.result.now ≡ b.holdings = c.as_slice.ensures.list ∙ ap (λ (v : BookView). v.holdings) c.self.view_is in
    let r : Option ℕ = c.first_due.result in
    let P : List Holding → Type 0 = λ xs. r ≡ option_map (λ o. o.place) (due_of (fit_among xs c.self.inside.time c.args.vendor.now) c.args.before) in
    let Q : ℕ → Type 0 = λ t. r ≡ option_map (λ o. o.place) (due_of (fit_among b.holdings t c.args.vendor.now) c.args.before) in
    due_here b h b.time c.args.before c.args.vendor.now r is (subst Q (ap (λ (v : BookView). v.time) c.self.view_is) (subst P list c.first_due.ensures.exact))

pub returns-clause-pays : goal.returns-clause-pays
returns-clause-pays c =
    let b : BookView = c.args.self.now in
    let list : c.as_slice.result.now ≡ b.holdings = c.as_slice.ensures.list ∙ ap (λ (v : BookView). v.holdings) c.self.view_is in
    let r : Option ℕ = c.first_due.result in
    let P : List Holding → Type 0 = λ xs. IfSome r (IsFitAt xs c.self.inside.time c.args.vendor.now) in
    let Q : ℕ → Type 0 = λ t. IfSome r (IsFitAt b.holdings t c.args.vendor.now) in
    subst Q (ap (λ (v : BookView). v.time) c.self.view_is) (subst P list c.first_due.ensures.pays)
