use Rattle.std.proofs.Common.{List, ℕ, Some, None, Ok, Err, refl, ap, ◌∙◌, find, bytes_eq}
use Rattle.mc_requests.specs.declared.refusal.Refusal.TheVariants.{Nothing}
use Rattle.wallet_book.specs.declared.kept.Kept.{Kept}
use Rattle.wallet_book.specs.Book.{BookView}
use Rattle.wallet_book.proofs.BookLaws.{retries}
use Rattle.wallet_book.proofs.book.WalletBook.retry_next.Goals as goal

pub returns-in-Some-clause-exact : goal.returns-in-Some-clause-exact
returns-in-Some-clause-exact c = λ h is.
    let peer : List ℕ = c.args.peer.now in
    retries c.args.self.now h peer (Some c.in-Some.kept) (Ok c.in-Some.kept.number) is (
    c.in-Some.ensures ∙ ap (λ (p : List ℕ). find (λ (k : Kept). bytes_eq k.peer p) c.deref.result.now) c.bytes.ensures.value
    ∙ ap (λ (ks : List Kept). find (λ (k : Kept). bytes_eq k.peer peer) ks) (c.deref.ensures.value ∙ ap (λ (v : BookView). v.kept) c.self.view_is)) refl

pub returns-in-None-clause-exact : goal.returns-in-None-clause-exact
returns-in-None-clause-exact c = λ h is.
    let peer : List ℕ = c.args.peer.now in
    retries c.args.self.now h peer None (Err Nothing) is (
    c.in-None.ensures ∙ ap (λ (p : List ℕ). find (λ (k : Kept). bytes_eq k.peer p) c.deref.result.now) c.bytes.ensures.value
    ∙ ap (λ (ks : List Kept). find (λ (k : Kept). bytes_eq k.peer peer) ks) (c.deref.ensures.value ∙ ap (λ (v : BookView). v.kept) c.self.view_is)) refl
