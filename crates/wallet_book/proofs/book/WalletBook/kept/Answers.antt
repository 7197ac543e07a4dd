use Rattle.std.proofs.Common.{ap, ◌∙◌, find, option_map}
use Rattle.std.specs.Prelude.{◌==◌}
use Rattle.wallet_book.specs.Holdings.{texts_of}
use Rattle.wallet_book.specs.Kept.{request_of}
use Rattle.wallet_book.specs.Book.{BookView}
use Rattle.wallet_book.proofs.BookLaws.{kept_request}
use Rattle.wallet_book.proofs.book.WalletBook.kept.Goals as goal

pub returns-clause-exact : goal.returns-clause-exact
returns-clause-exact c = λ h is.
    ap (option_map (request_of (texts_of c.args.self.now.holdings))) (c.find.ensures ∙ ap (λ (v : BookView). find (λ k. c.args.number == k.number) v.kept) c.self.view_is)
    ∙ kept_request c.args.self.now h c.args.number is
