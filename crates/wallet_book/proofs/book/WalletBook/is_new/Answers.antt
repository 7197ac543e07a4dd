use Rattle.std.proofs.Common.{List, ℕ, Some, None, sym, ap, subst, ◌∙◌}
use Rattle.wallet_model.specs.Newness.{is_new}
use Rattle.wallet_book.specs.Holdings.{FindsPiece}
use Rattle.wallet_book.specs.Book.{BookView}
use Rattle.wallet_book.proofs.HoldingLaws.{not_new}
use Rattle.wallet_book.proofs.PartLaws.{came_texts}
use Rattle.wallet_book.proofs.book.WalletBook.is_new.Goals as goal

pub returns-in-Some-clause-found : goal.returns-in-Some-clause-found
returns-in-Some-clause-found c =
    let text : List ℕ = c.args.scrip.now.text in
    let P : BookView → Type 0 = λ v. FindsPiece v.holdings text (Some c.in-Some.field-0) in
    sym (not_new c.args.self.now.holdings text c.in-Some.field-0 (subst P c.self.view_is c.in-Some.ensures))

pub returns-in-Some-clause-exact : goal.returns-in-Some-clause-exact
returns-in-Some-clause-exact c = λ h is.
    returns-in-Some-clause-found c ∙ ap (λ (ts : List (List ℕ)). is_new ts c.args.scrip.now.text) (sym (came_texts h c.args.self.now.holdings is.parts.pieces))

pub returns-in-None-clause-found : goal.returns-in-None-clause-found
returns-in-None-clause-found c =
    let text : List ℕ = c.args.scrip.now.text in
    let P : BookView → Type 0 = λ v. FindsPiece v.holdings text None in
    sym (subst P c.self.view_is c.in-None.ensures)

pub returns-in-None-clause-exact : goal.returns-in-None-clause-exact
returns-in-None-clause-exact c = λ h is.
    returns-in-None-clause-found c ∙ ap (λ (ts : List (List ℕ)). is_new ts c.args.scrip.now.text) (sym (came_texts h c.args.self.now.holdings is.parts.pieces))
