use Rattle.std.proofs.Common.{◌≡◌, ℕ, List, ap, subst, ◌∙◌}
use Rattle.wallet_model.specs.Asks.{chosen_by}
use Rattle.wallet_book.specs.declared.holding.Holding.{Holding}
use Rattle.wallet_book.specs.Choosing.{fit_among, Chooses}
use Rattle.wallet_book.specs.Book.{BookView}
use Rattle.wallet_book.proofs.BookLaws.{chosen_here}
use Rattle.wallet_book.proofs.book.WalletBook.choose.Goals as goal

pub returns-clause-exact : goal.returns-clause-exact
returns-clause-exact c = λ h is.
    let b : BookView = c.args.self.now in
    let list : c.as_slice.result.now ≡ b.holdings = c.as_slice.ensures.list ∙ ap (λ (v : BookView). v.holdings) c.self.view_is in
    let P : List Holding → Type 0 = λ xs. Chooses (chosen_by (fit_among xs c.self.inside.time c.args.vendor.now) c.args.limit) c.choose.result in
    let Q : ℕ → Type 0 = λ t. Chooses (chosen_by (fit_among b.holdings t c.args.vendor.now) c.args.limit) c.choose.result in
    chosen_here b h b.time c.args.limit c.args.vendor.now c.choose.result is (subst Q (ap (λ (v : BookView). v.time) c.self.view_is) (subst P list c.choose.ensures.exact))
