use Rattle.std.proofs.Common.{◌≡◌, ℕ, true, Some, List, sym, subst, ap, ◌∙◌, bytes_eq}
use Rattle.scrip_form.specs.Scrip.{Scrip}
use Rattle.ledger_model.specs.Pieces.{piece_of}
use Rattle.wallet_book.specs.declared.holding.Holding.{Holding}
use Rattle.wallet_book.specs.Holdings.{FindsPiece}
use Rattle.wallet_book.specs.Parts.{FindsHeld, if_held}
use Rattle.wallet_book.proofs.HoldingLaws.{read_back}
use Rattle.wallet_book.proofs.PayLaws.{finds_held, other_vendor}
use Rattle.wallet_book.proofs.paying.held_place.Goals as goal

pub returns : goal.returns
returns c = λ apart.
    let xs : List Holding = c.args.holdings.now.list in
    let text : List ℕ = c.args.text.now in
    let vendor : List ℕ = c.args.vendor.now in
    let q : Scrip = c.in-Ok.scrip.piece in
    let is : piece_of text ≡ Some q = read_back text q c.in-Ok.scrip.cert c.in-Ok.ensures.found.1 in
    let own : bytes_eq q.vendor vendor ≡ true = sym c.if-not-is_of_vendor.ensures in
    let found : FindsPiece xs text c.find-place.result = subst (λ (t : List ℕ). FindsPiece xs t c.find-place.result) c.in-Ok.ensures.found.0 c.find-place.ensures in
    let result : if_held xs c.find-place.result text ≡ c.if_held.result = ap (λ (ys : List Holding). if_held ys c.find-place.result text) (sym c.as_slice.ensures.list) ∙ sym c.if_held.ensures in
    subst (FindsHeld xs text vendor) result (finds_held xs text vendor q c.find-place.result apart is own found)

pub returns-then-not-is_of_vendor : goal.returns-then-not-is_of_vendor
returns-then-not-is_of_vendor c = λ apart.
    other_vendor c.args.holdings.now.list c.args.text.now c.args.vendor.now c.in-Ok.scrip.piece
    (read_back c.args.text.now c.in-Ok.scrip.piece c.in-Ok.scrip.cert c.in-Ok.ensures.found.1) (sym c.if-not-is_of_vendor.ensures)
