use Rattle.std.proofs.Common.{List, ℕ, sym, ap, ◌∙◌, find, option_map}
use Rattle.wallet_book.specs.declared.kept.Kept.{Kept}
use Rattle.wallet_book.specs.Holdings.{texts_of}
use Rattle.wallet_book.specs.Kept.{kept_of, is_get_of}
use Rattle.wallet_book.specs.Book.{BookView}
use Rattle.wallet_book.proofs.BookLaws.{oldest_get}
use Rattle.wallet_book.proofs.book.WalletBook.find_get.Goals as goal

pub returns : goal.returns
returns c = λ h is.
    let vendor : List ℕ = c.args.vendor.now in
    let target : List ℕ = c.args.target.now in
    ap (option_map (kept_of (texts_of c.args.self.now.holdings))) (
    c.first_get.ensures ∙ ap (λ (v : List ℕ). find (is_get_of v c.bytes-2.result.now) c.deref.result.now) c.bytes.ensures.value
    ∙ ap (λ (t : List ℕ). find (is_get_of vendor t) c.deref.result.now) c.bytes-2.ensures.value
    ∙ ap (λ (ks : List Kept). find (is_get_of vendor target) ks) (c.deref.ensures.value ∙ ap (λ (v : BookView). v.kept) c.self.view_is))
    ∙ sym (oldest_get c.args.self.now h vendor target is)
